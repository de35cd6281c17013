-- One turn of each loop, as lists of literals.
use Rattle.std.proofs.Common.{◌≡◌, ℕ, suc, ◌+◌, ◌*◌, ◌%◌, ◌^◌, ◌<◌, ◌≤◌, Bool, Some, List, [], ◌∷◌, ◌++◌, length, take, drop, slice_get, arith, ap, ◌∙◌, sym, subst, append_assoc, add-one}
use Rattle.std.proofs.Math.Nat.{pow-suc, mod-eq_of_lt, zero-mod}
use Rattle.std.proofs.Math.Seq.{drop-length}
use Rattle.std.proofs.lemmas.List.{length-take-le}
use Rattle.jd_circuit.specs.declared.literals.Lit.{Lit}
use Rattle.jd_circuit.specs.declared.literals.Lit.TheVariants.{Const, Var, Not}
use Rattle.std.proofs.Common.{true, false, not, cond, zero, ◌&&◌, nat_le, nat_lt, min, refl}
use Rattle.std.proofs.lemmas.Bool.Decides.{nat_tests}
use Rattle.jd_circuit.specs.Meaning.{lit_value}
use Rattle.jd_vectors.specs.Number.{bit, number}
use Rattle.jd_vectors.proofs.Numbers.{bit-small, number-drop, number-small, number-append, number-push, number-split, number-take}
use Rattle.jd_muldiv.specs.Steps.{GoesOn, Taken, Rooted, TellTails, is_zero}
use Rattle.jd_muldiv.proofs.Steps.{Divided, divided, going, rooted, root_room, root_small, multiplied}

-- nothing is left past the end
pub number-past : (val : ℕ → Bool) (ls : List Lit) (k : ℕ) → k ≡ length ls → number val (drop k ls) ≡ 0
number-past val ls k e = ap (λ j. number val (drop j ls)) e ∙ ap (number val) (drop-length ls)

pub number-none : (val : ℕ → Bool) (ls : List Lit) (size : ℕ) → number val ls ≡ 0 % 2 ^ size → number val ls ≡ 0
number-none val ls size e = e ∙ zero-mod (2 ^ size)

pub divided_turn : (val : ℕ → Bool) (a b quotient rest dividend more left : List Lit) (l fits : Lit) (m : ℕ)
    → slice_get a m ≡ Some l → number val dividend ≡ bit (lit_value val l) + 2 * number val rest → more ≡ fits ∷ quotient
    → Divided (number val (drop (suc m) a)) (number val b) (number val quotient) (number val rest)
    → Taken (number val dividend) (number val b) (lit_value val fits) (number val left)
    → Divided (number val (drop m a)) (number val b) (number val more) (number val left)
divided_turn val a b quotient rest dividend more left l fits m at is_dividend is_more i t =
    rw (is_more, number-drop val a m l at)
    (divided _ _ _ _ _ (lit_value val l) (lit_value val fits) i (subst (λ n. Taken n (number val b) (lit_value val fits) (number val left)) is_dividend t))

-- ---- tails of the divisor

some_tail : (p : Bool) (D : ℕ) (t : Bool) → t ≡ nat_lt 0 D → not (not p && not t) ≡ nat_lt 0 (bit p + 2 * D)
some_tail true D t e = grind (arith, nat_tests)
some_tail false D true e = grind (arith, nat_tests, e)
some_tail false D false e = grind (arith, nat_tests, e)

pub tails_end : (val : ℕ → Bool) (b : List Lit) (k : ℕ) → k ≡ length b → TellTails val b k (Const false ∷ [])
tails_end val b k e zero x at =
    let same : Const false ≡ x = cc in
    let none : number val (drop (k + 0) b) ≡ 0 = number-past val b (k + 0) (omega (arith, e)) in
    sym (ap (lit_value val) same) ∙ rw none refl
tails_end val b k e (suc j) x at = cc

pub next_tail : (val : ℕ → Bool) (b : List Lit) (k : ℕ) (l tail next : Lit) → slice_get b k ≡ Some l
    → lit_value val tail ≡ nat_lt 0 (number val (drop (suc k) b)) → lit_value val next ≡ not (not (lit_value val l) && not (lit_value val tail))
    → lit_value val next ≡ nat_lt 0 (number val (drop k b))
next_tail val b k l tail next at t n =
    n ∙ some_tail (lit_value val l) (number val (drop (suc k) b)) (lit_value val tail) t ∙ sym (ap (nat_lt 0) (number-drop val b k l at))

pub tails_turn : (val : ℕ → Bool) (b : List Lit) (k : ℕ) (next : Lit) (tails : List Lit) → lit_value val next ≡ nat_lt 0 (number val (drop k b))
    → TellTails val b (suc k) tails → TellTails val b k (next ∷ tails)
tails_turn val b k next tails n rest zero x e =
    let same : next ≡ x = cc in
    let here : k ≡ k + 0 = omega arith in
    sym (ap (lit_value val) same) ∙ n ∙ ap (λ m. nat_lt 0 (number val (drop m b))) here
tails_turn val b k next tails n rest (suc j) x e =
    let there : suc k + j ≡ k + suc j = omega arith in
    rest j x e ∙ ap (λ m. nat_lt 0 (number val (drop m b))) there

-- the divisor beside what is left and the next literal of the dividend
pub read_so_far : (val : ℕ → Bool) (b part rest : List Lit) (l above : Lit) (i read from : ℕ)
    → read ≡ min (length b) (i + 1) → length rest ≡ min i (length b) → part ≡ take read b → from ≡ bit (lit_value val l) + 2 * number val rest → number val rest < number val b
    → lit_value val above ≡ nat_lt 0 (number val (drop (0 + read) b))
    → GoesOn (number val part) (2 ^ length part) (lit_value val above) from (number val b)
read_so_far val b part rest l above i read from is_read long is_part is_from less tail =
    let inside : read ≤ length b = omega arith in
    let from_zero : 0 + read ≡ read = omega arith in
    let size : length part ≡ read = ap length is_part ∙ length-take-le read b inside in
    let whole : number val b ≡ number val part + 2 ^ length part * number val (drop read b) =
    number-split val b read inside ∙ sym (ap (λ ls. number val ls + 2 ^ read * number val (drop read b)) is_part) ∙ sym (ap (λ n. number val part + 2 ^ n * number val (drop read b)) size) in
    going (number val b) (number val part) (2 ^ length part) (number val (drop read b)) (number val rest) from (bit (lit_value val l)) (lit_value val above)
    (tail ∙ ap (λ m. nat_lt 0 (number val (drop m b))) from_zero) whole is_from (bit-small (lit_value val l)) less (number-small val part) (few size (nat_le (i + 1) (length b)) refl)
  where
    few : length part ≡ read → (t : Bool) → nat_le (i + 1) (length b) ≡ t → 0 < number val (drop read b) → from < 2 ^ length part
    few size true e h =
        let one : length part ≡ suc (length rest) = grind (arith, nat_tests, e, size, is_read, long) in
        let power : 2 ^ length part ≡ 2 ^ length rest * 2 = ap (λ n. 2 ^ n) one ∙ pow-suc 2 (length rest) in
        omega (arith, power, number-small val rest, bit-small (lit_value val l))
    few size false e h =
        let end : read ≡ length b = grind (arith, nat_tests, e, is_read) in
        absurd (omega (arith, number-past val b read end))

pub rooted_turn : (val : ℕ → Bool) (even root rest upper dividend doubled trial more left : List Lit) (low high fits : Lit) (m : ℕ)
    → slice_get even m ≡ Some low → slice_get even (m + 1) ≡ Some high
    → upper ≡ high ∷ rest → dividend ≡ low ∷ upper → doubled ≡ Const false ∷ root → trial ≡ Const true ∷ doubled → more ≡ fits ∷ root
    → Rooted (number val (drop (suc (suc m)) even)) (number val root) (number val rest)
    → (number val dividend < number val trial + 2 ^ length trial → Taken (number val dividend) (number val trial) (lit_value val fits) (number val left))
    → Rooted (number val (drop m even)) (number val more) (number val left)
rooted_turn val even root rest upper dividend doubled trial more left low high fits m at above is_upper is_dividend is_doubled is_trial is_more i t =
    let R = number val rest in
    let r = number val root in
    let whole : number val dividend ≡ bit (lit_value val low) + 2 * (bit (lit_value val high) + 2 * R) = ap (number val) (is_dividend ∙ ap (λ ls. low ∷ ls) is_upper) in
    let trial_is : trial ≡ Const true ∷ (Const false ∷ root) = is_trial ∙ ap (λ ls. Const true ∷ ls) is_doubled in
    let other : number val trial ≡ 1 + 2 * (0 + 2 * r) = ap (number val) trial_is in
    let power : 2 ^ length trial ≡ 4 * 2 ^ length root = ap (λ ls. 2 ^ length ls) trial_is ∙ omega (arith, pow-suc 2 (suc (length root)), pow-suc 2 (length root)) in
    let fit = root_room r R (2 ^ length root) (lit_value val low) (lit_value val high) i.greatest (number-small val root) in
    let room : number val dividend < number val trial + 2 ^ length trial = omega (arith, whole, other, power, fit) in
    let next : slice_get even (suc m) ≡ Some high = ap (slice_get even) (sym (add-one m)) ∙ above in
    let t' = subst (λ n. Taken n (number val trial) (lit_value val fits) (number val left)) whole (t room) in
    rw (is_more, number-drop val even m low at, number-drop val even (suc m) high next)
    (rooted _ r R (number val left) (lit_value val low) (lit_value val high) (lit_value val fits) i
    (subst (λ n. Taken (bit (lit_value val low) + 2 * (bit (lit_value val high) + 2 * R)) n (lit_value val fits) (number val left)) other t'))

-- what is cut from both is zeros
pub rooted_end : (A B r R r' R' P : ℕ) → Rooted A r R → A ≡ B → B < P → r' ≡ r % P → R' ≡ R % P → Rooted B r' R'
rooted_end A B r R r' R' P i e h u v =
    let small = root_small A r R P i (omega arith) in
    let a : r' ≡ r = u ∙ mod-eq_of_lt small.0 in
    let b : R' ≡ R = v ∙ mod-eq_of_lt small.1 in
    rw (a, b, sym e) i

pub multiplied_turn : (val : ℕ → Bool) (a b total high row sum more : List Lit) (l carry : Lit) (i : ℕ)
    → slice_get b i ≡ Some l → i < length b → length total ≡ length a + i → high ≡ drop i total → more ≡ (take i total ++ sum) ++ carry ∷ [] → length sum ≡ length a
    → number val sum + 2 ^ length a * bit (lit_value val carry) ≡ number val high + number val row + 0
    → number val row ≡ number val a * bit (lit_value val l)
    → number val total ≡ number val a * number val (take i b)
    → number val more ≡ number val a * number val (take (i + 1) b)
multiplied_turn val a b total high row sum more l carry i at inside long is_high is_more same added rowed so_far =
    let front = take i total in
    let I = 2 ^ i in
    let front_long : length front ≡ i = length-take-le i total (omega arith) in
    let split : number val front + I * number val high ≡ number val a * number val (take i b) =
    ap (λ ls. number val front + I * number val ls) is_high ∙ sym (number-split val total i (omega arith)) ∙ so_far in
    let top : number val (sum ++ carry ∷ []) ≡ number val sum + 2 ^ length a * bit (lit_value val carry) =
    number-push val sum carry ∙ ap (λ n. number val sum + 2 ^ n * bit (lit_value val carry)) same in
    let all : number val more ≡ number val front + I * number val (sum ++ carry ∷ []) =
    ap (number val) (is_more ∙ append_assoc front sum (carry ∷ [])) ∙ number-append val front (sum ++ carry ∷ []) ∙ ap (λ n. number val front + 2 ^ n * number val (sum ++ carry ∷ [])) front_long in
    let step = multiplied I (2 ^ length a) (number val front) (number val high) (number val sum) (bit (lit_value val carry)) (number val a) (number val (take i b)) (bit (lit_value val l)) (added ∙ ap (λ n. number val high + n + 0) rowed) split in
    all ∙ ap (λ n. number val front + I * n) top ∙ omega (arith, step) ∙ ap (λ n. number val a * n) (sym (number-take val b i l at inside))

-- a constant 0 at the top adds nothing
pub trimmed_inside : (l : Lit) (size more i : ℕ) → more ≡ cond (is_zero l) size (i + 1) → size ≤ i → more ≤ i + 1
trimmed_inside (Const true) size more i e h = omega arith
trimmed_inside (Const false) size more i e h = omega arith
trimmed_inside (Var v) size more i e h = omega arith
trimmed_inside (Not v) size more i e h = omega arith

pub trimmed_same : (val : ℕ → Bool) (ls : List Lit) (l : Lit) (size more i : ℕ) → slice_get ls i ≡ Some l → i < length ls → more ≡ cond (is_zero l) size (i + 1)
    → number val (take size ls) ≡ number val (take i ls) → number val (take more ls) ≡ number val (take (i + 1) ls)
trimmed_same val ls (Const true) size more i at h e s = ap (λ n. number val (take n ls)) e
trimmed_same val ls (Const false) size more i at h e s =
    ap (λ n. number val (take n ls)) e ∙ s ∙ omega (arith, number-take val ls i (Const false) at h)
trimmed_same val ls (Var v) size more i at h e s = ap (λ n. number val (take n ls)) e
trimmed_same val ls (Not v) size more i at h e s = ap (λ n. number val (take n ls)) e
