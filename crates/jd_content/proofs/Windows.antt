-- Nibbles of literals: what a register reads, and what a written one changes.
use Rattle.std.proofs.Common.{◌≡◌, ℕ, zero, suc, ◌+◌, ◌-◌, ◌*◌, ◌/◌, ◌%◌, ◌^◌, ◌<◌, ◌≤◌, Bool, true, false, nat_lt, List, [], ◌∷◌, ◌++◌, length, take, drop, get_or, refl, sym, ap, ◌∙◌, subst, arith, length-append, append_assoc, lit≤}
use Rattle.std.specs.Prelude.{if◌then◌else◌}
use Rattle.std.proofs.lemmas.Bool.Decides.{nat_tests}
use Rattle.std.proofs.lemmas.List.{take-append-drop, length-drop, length-take-le, take-take, drop-drop}
use Rattle.std.proofs.Math.Seq.{take-add}
use Rattle.std.proofs.Math.Nat.{mod-eq_of_lt, add-mul-mod_self_left, add-mul-div_left, div-eq_of_lt, one-le-pow, pow-suc, mul-le-mul_left, mul-div-le}
use Rattle.hp_model.specs.Lists.{tabulated}
use Rattle.hp_model.specs.State.{width}
use Rattle.hp_model.specs.Memory.{nibble_sum, register_value, with_register, nibble_written, is_of_register}
use Rattle.hp_model.proofs.Tabulated.{length-tabulated, get-tabulated, same_tabulated}
use Rattle.jd_circuit.specs.declared.literals.Lit.{Lit}
use Rattle.jd_vectors.specs.Number.{number}
use Rattle.jd_vectors.proofs.Numbers.{number-append, number-take_small}
use Rattle.jd_content.specs.Meaning.{nibble_on, nibbles_on}
use Rattle.jd_vectors.proofs.Numbers.{number-split}

-- ---- lower and upper parts of a number

pub number-mod : (val : ℕ → Bool) (ls : List Lit) (k : ℕ) → k ≤ length ls → number val ls % 2 ^ k ≡ number val (take k ls)
number-mod val ls k h = ap (λ n. n % 2 ^ k) (number-split val ls k h) ∙ add-mul-mod_self_left (number val (take k ls)) (2 ^ k) (number val (drop k ls)) ∙ mod-eq_of_lt (number-take_small val ls k h)

divided : (P r d : ℕ) → 1 ≤ P → r < P → (r + P * d) / P ≡ d
divided P r d i h = add-mul-div_left r d i ∙ let z : r / P ≡ 0 = div-eq_of_lt h in omega (arith, z)

pub number-div : (val : ℕ → Bool) (ls : List Lit) (k : ℕ) → k ≤ length ls → number val ls / 2 ^ k ≡ number val (drop k ls)
number-div val ls k h = ap (λ n. n / 2 ^ k) (number-split val ls k h) ∙ divided (2 ^ k) (number val (take k ls)) (number val (drop k ls)) (one-le-pow k 2 (lit≤ tt)) (number-take_small val ls k h)

-- ---- windows of joined lists

left_window : (xs ys : List Lit) (m n : ℕ) → m + n ≤ length xs → take n (drop m (xs ++ ys)) ≡ take n (drop m xs)
left_window [] ys zero zero h = refl
left_window [] ys zero (suc n) h = absurd (omega arith)
left_window [] ys (suc m) n h = absurd (omega arith)
left_window (x ∷ xs) ys zero zero h = refl
left_window (x ∷ xs) ys zero (suc n) h = ap (λ t. x ∷ t) (left_window xs ys zero n (omega arith))
left_window (x ∷ xs) ys (suc m) n h = left_window xs ys m n (omega arith)

right_window : (xs ys : List Lit) (m : ℕ) → length xs ≤ m → drop m (xs ++ ys) ≡ drop (m - length xs) ys
right_window [] ys m h = let e : m ≡ m - 0 = omega arith in ap (λ k. drop k ys) e
right_window (x ∷ xs) ys zero h = absurd (omega arith)
right_window (x ∷ xs) ys (suc m) h = right_window xs ys m (omega arith) ∙ (let e : m - length xs ≡ suc m - suc (length xs) = omega arith in ap (λ k. drop k ys) e)

drop_twice : (m n : ℕ) (xs : List Lit) → drop n (drop m xs) ≡ drop (m + n) xs
drop_twice m n xs = drop-drop n m xs

-- ---- reading

nibble_at : (val : ℕ → Bool) (ls : List Lit) (j : ℕ) → j < length ls / 4 → get_or (nibbles_on val ls) j 0 ≡ nibble_on val ls j
nibble_at val ls j h = get-tabulated (nibble_on val ls) (length ls / 4) j h

sixteen : (k : ℕ) → 2 ^ (4 * k) ≡ 16 ^ k
sixteen zero = refl
sixteen (suc k) =
    let four : 4 * suc k ≡ suc (suc (suc (suc (4 * k)))) = omega arith in
    omega (arith, ap (λ n. 2 ^ n) four, pow-suc 2 (4 * k), pow-suc 2 (suc (4 * k)), pow-suc 2 (suc (suc (4 * k))), pow-suc 2 (suc (suc (suc (4 * k)))), pow-suc 16 k, sixteen k)

sum_is : (val : ℕ → Bool) (ls : List Lit) (first k : ℕ) → 4 * (first + k) ≤ length ls
    → nibble_sum (λ j. get_or (nibbles_on val ls) (first + j) 0) k ≡ number val (take (4 * k) (drop (4 * first) ls))
sum_is val ls first zero h = refl
sum_is val ls first (suc k) h =
    let s = drop (4 * first) ls in
    let front = take (4 * k) s in
    let next = take 4 (drop (4 * (first + k)) ls) in
    let ih : nibble_sum (λ j. get_or (nibbles_on val ls) (first + j) 0) k ≡ number val front = sum_is val ls first k (omega arith) in
    let here : get_or (nibbles_on val ls) (first + k) 0 ≡ number val next = nibble_at val ls (first + k) (omega arith) in
    let size : length front ≡ 4 * k = length-take-le (4 * k) s (omega (arith, length-drop (4 * first) ls)) in
    let more : 4 * suc k ≡ 4 * k + 4 = omega arith in
    let place : 4 * first + 4 * k ≡ 4 * (first + k) = omega arith in
    let split : take (4 * suc k) s ≡ front ++ next = ap (λ n. take n s) more ∙ take-add (4 * k) 4 s ∙ ap (λ t. front ++ take 4 t) (drop_twice (4 * first) (4 * k) ls ∙ ap (λ n. drop n ls) place) in
    let whole : number val (take (4 * suc k) s) ≡ number val front + 16 ^ k * number val next = ap (number val) split ∙ number-append val front next ∙ ap (λ p. number val front + p * number val next) (ap (λ n. 2 ^ n) size ∙ sixteen k) in
    let scaled : get_or (nibbles_on val ls) (first + k) 0 * 16 ^ k ≡ 16 ^ k * number val next = ap (λ n. n * 16 ^ k) here ∙ omega arith in
    omega (arith, whole, ih, scaled)

pub read_is : (val : ℕ → Bool) (ls : List Lit) (w r : ℕ) → 4 * (width w * r + width w) ≤ length ls
    → number val (take w (drop (4 * (width w * r)) ls)) ≡ register_value w (nibbles_on val ls) r
read_is val ls w r h =
    let s = drop (4 * (width w * r)) ls in
    let whole = take (4 * width w) s in
    let size : length whole ≡ 4 * width w = length-take-le (4 * width w) s (omega (arith, length-drop (4 * (width w * r)) ls)) in
    let narrow : take w whole ≡ take w s = take-take w (4 * width w) s (omega arith) in
    sym (ap (λ n. n % 2 ^ w) (sum_is val ls (width w * r) (width w) h) ∙ number-mod val whole w (omega arith) ∙ ap (number val) narrow)

-- ---- writing

-- the nibbles of a list in whose middle stands another part
written_at : (val : ℕ → Bool) (a p q b : List Lit) (w r v j : ℕ) → length a ≡ 4 * (width w * r) → length p ≡ 4 * width w → length q ≡ 4 * width w → number val p ≡ v
    → (inside : Bool) → is_of_register w r j ≡ inside → j < length (a ++ q ++ b) / 4
    → nibble_on val (a ++ p ++ b) j ≡ (if inside then v / 16 ^ (j - width w * r) % 16 else get_or (nibbles_on val (a ++ q ++ b)) j 0)
written_at val a p q b w r v j ha hp hq hv true e h =
    let low : width w * r ≤ j = grind (arith, nat_tests) in
    let high : j < width w * r + width w = grind (arith, nat_tests) in
    let i = j - width w * r in
    let place : 4 * j - length a ≡ 4 * i = omega arith in
    let window : take 4 (drop (4 * j) (a ++ p ++ b)) ≡ take 4 (drop (4 * i) p) =
    left_window (a ++ p) b (4 * j) 4 (omega (arith, length-append a p)) ∙ ap (take 4) (right_window a p (4 * j) (omega arith) ∙ ap (λ n. drop n p) place) in
    let digits : number val (take 4 (drop (4 * i) p)) ≡ number val p / 16 ^ i % 16 =
    sym (ap (λ n. number val p / n % 16) (sym (sixteen i)) ∙ ap (λ n. n % 16) (number-div val p (4 * i) (omega arith)) ∙ number-mod val (drop (4 * i) p) 4 (omega (arith, length-drop (4 * i) p))) in
    ap (number val) window ∙ digits ∙ ap (λ n. n / 16 ^ i % 16) hv
written_at val a p q b w r v j ha hp hq hv false e h =
    outside (nat_lt j (width w * r)) refl ∙ sym (nibble_at val (a ++ q ++ b) j h)
  where
    outside : (before : Bool) → nat_lt j (width w * r) ≡ before → nibble_on val (a ++ p ++ b) j ≡ nibble_on val (a ++ q ++ b) j
    outside true f =
        let low : j < width w * r = grind (arith, nat_tests) in
        ap (number val) (left_window (a ++ p) b (4 * j) 4 (omega (arith, length-append a p)) ∙ left_window a p (4 * j) 4 (omega arith)
        ∙ sym (left_window (a ++ q) b (4 * j) 4 (omega (arith, length-append a q)) ∙ left_window a q (4 * j) 4 (omega arith)))
    outside false f =
        let past : width w * r + width w ≤ j = grind (arith, nat_tests) in
        let same : length (a ++ p) ≡ length (a ++ q) = omega (arith, length-append a p, length-append a q) in
        ap (λ t. number val (take 4 t)) (right_window (a ++ p) b (4 * j) (omega (arith, length-append a p)) ∙ ap (λ n. drop (4 * j - n) b) same
        ∙ sym (right_window (a ++ q) b (4 * j) (omega (arith, length-append a q))))

pub write_is : (val : ℕ → Bool) (ls p : List Lit) (w r v : ℕ) → 4 * (width w * r + width w) ≤ length ls → length p ≡ 4 * width w → number val p ≡ v
    → nibbles_on val (take (4 * (width w * r)) ls ++ p ++ drop (4 * (width w * r) + length p) ls) ≡ with_register w (nibbles_on val ls) r v
write_is val ls p w r v h hp hv =
    let from = 4 * (width w * r) in
    let a = take from ls in
    let q = take (length p) (drop from ls) in
    let b = drop (from + length p) ls in
    let ha : length a ≡ from = length-take-le from ls (omega arith) in
    let hq : length q ≡ 4 * width w = length-take-le (length p) (drop from ls) (omega (arith, length-drop from ls)) ∙ hp in
    let whole : a ++ q ++ b ≡ ls = regroup a q b ∙ ap (λ t. a ++ (q ++ t)) (sym (drop_twice from (length p) ls)) ∙ ap (λ t. a ++ t) (take-append-drop (length p) (drop from ls)) ∙ take-append-drop from ls in
    let sizes : length (a ++ p ++ b) ≡ length (a ++ q ++ b) = omega (arith, length-append (a ++ p) b, length-append a p, length-append (a ++ q) b, length-append a q) in
    subst (λ t. nibbles_on val (a ++ p ++ b) ≡ with_register w (nibbles_on val t) r v) whole
    (ap (λ n. tabulated (nibble_on val (a ++ p ++ b)) (n / 4)) sizes
    ∙ same_tabulated (nibble_on val (a ++ p ++ b)) (nibble_written w (nibbles_on val (a ++ q ++ b)) r v) (length (a ++ q ++ b) / 4)
    (λ j below. written_at val a p q b w r v j ha hp hq hv (is_of_register w r j) refl below)
    ∙ ap (tabulated (nibble_written w (nibbles_on val (a ++ q ++ b)) r v)) (sym (length-tabulated (nibble_on val (a ++ q ++ b)) (length (a ++ q ++ b) / 4))))
  where
    regroup : (a q b : List Lit) → a ++ q ++ b ≡ a ++ (q ++ b)
    regroup a q b = simp append_assoc

-- a register among the nibbles ends within their literals
pub register_inside : (w r m : ℕ) → r < m / 4 / width w → 4 * (width w * r + width w) ≤ m
register_inside w r m h = omega (arith, mul-le-mul_left (width w) h, mul-div-le (m / 4) (width w))
