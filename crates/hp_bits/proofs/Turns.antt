-- Rotations by a count are one step of so many places.
use Rattle.std.proofs.Common.{◌≡◌, ℕ, zero, suc, ◌+◌, ◌-◌, ◌*◌, ◌/◌, ◌%◌, ◌^◌, ◌<◌, ◌≤◌, ◌==◌, Bool, true, false, Some, None, if◌then◌else◌, nat_le, nat_lt, bit_and, add-one, arith, refl, sym, ap, ◌∙◌, subst, lit≤}
use Rattle.std.proofs.Math.Nat.{pow-suc, div-one}
use Rattle.std.proofs.lemmas.Nat.{mod-mul-add, div-mul-add, shr_split, mod_below, pow_pos, shr_below, mod_low, shr_high, and_mask}
use Rattle.std.proofs.lemmas.Bool.Decides.{nat_tests}
use Rattle.hp_model.specs.Words.{bit}
use Rattle.hp_model.specs.Operations.{Rotation}
use Rattle.hp_model.specs.Operations as ops
use Rattle.hp_model.specs.declared.Answer.{Answer}
use Rattle.hp_model.specs.WordOperations.{plain, bit_number, top_bit, turned, turned_times, rotated_times_of}
use Rattle.hp_bits.specs.Places.{moved_round}
use Rattle.hp_bits.proofs.Rounds.{moved_right, right_is, round_none, step_left, step_right}

pub doubled : (w : ℕ) → 1 ≤ w → 2 ^ w ≡ 2 * 2 ^ (w - 1)
doubled w some =
    let next : w ≡ suc (w - 1) = omega arith in
    let power : 2 ^ w ≡ 2 ^ suc (w - 1) = ap (λ (k : ℕ). 2 ^ k) next in
    omega (arith, pow-suc 2 (w - 1))

-- the upper part of twice a number is lost with its top bit
pub left_part : (w x : ℕ) → 1 ≤ w → 2 * x % 2 ^ w ≡ 2 * (x % 2 ^ (w - 1))
left_part w x some =
    let rest : x % 2 ^ (w - 1) < 2 ^ (w - 1) = mod_below x (2 ^ (w - 1)) (pow_pos (w - 1)) in
    let small : 2 * (x % 2 ^ (w - 1)) < 2 ^ w = omega (arith, doubled w some) in
    let split : 2 * x ≡ x / 2 ^ (w - 1) * 2 ^ w + 2 * (x % 2 ^ (w - 1)) =
    ap (λ (k : ℕ). 2 * k) (sym (shr_split x (w - 1))) ∙ spread (x / 2 ^ (w - 1)) (2 ^ (w - 1)) (x % 2 ^ (w - 1)) ∙ ap (λ (k : ℕ). x / 2 ^ (w - 1) * k + 2 * (x % 2 ^ (w - 1))) (sym (doubled w some)) in
    ap (λ (k : ℕ). k % 2 ^ w) split ∙ mod-mul-add (x / 2 ^ (w - 1)) (2 ^ w) (2 * (x % 2 ^ (w - 1))) small
  where
    spread : (a power q : ℕ) → 2 * (a * power + q) ≡ a * (2 * power) + 2 * q
    spread a power q = grind arith

top_quotient : (w x : ℕ) → 1 ≤ w → x < 2 ^ w → x / 2 ^ (w - 1) < 2
top_quotient w x some small = shr_below x 1 (w - 1) (subst (λ (k : ℕ). x < 2 ^ k) (omega arith) small)

bit_as_number : (n : ℕ) → n < 2 → bit_number (n % 2 == 1) ≡ n
bit_as_number n small = grind (arith, nat_tests)

-- the top bit as a number
pub top_number : (w x : ℕ) → 1 ≤ w → x < 2 ^ w → bit_number (top_bit w x) ≡ x / 2 ^ (w - 1)
top_number w x some small = bit_as_number (x / 2 ^ (w - 1)) (top_quotient w x some small)

pub low_number : (x : ℕ) → bit_number (bit x 0) ≡ x % 2
low_number x = rw div-one (low (x % 2) (mod_below x 2 (lit≤ tt)))
  where
    low : (n : ℕ) → n < 2 → bit_number (n == 1) ≡ n
    low n small = grind (arith, nat_tests)

-- ---- the turns stay words

module _ (w x : ℕ) (some : 1 ≤ w) (small : x < 2 ^ w) where
  pub left_small : (b : Bool) → 2 * x % 2 ^ w + bit_number b < 2 ^ w
  left_small b =
      let rest : x % 2 ^ (w - 1) < 2 ^ (w - 1) = mod_below x (2 ^ (w - 1)) (pow_pos (w - 1)) in
      let one : bit_number b ≤ 1 = at_most_one b in
      omega (arith, left_part w x some, doubled w some)
    where
      at_most_one : (b : Bool) → bit_number b ≤ 1
      at_most_one true = lit≤ tt
      at_most_one false = lit≤ tt

  pub right_small : (b : Bool) → x / 2 + bit_number b * 2 ^ (w - 1) < 2 ^ w
  right_small true = omega (arith, doubled w some)
  right_small false = omega (arith, doubled w some)

pub turned_small : (way : Rotation) (w x : ℕ) (c : Bool) → 1 ≤ w → x < 2 ^ w → (turned way w x c).0 < 2 ^ w
turned_small ops.left w x c some small = left_small w x some small (top_bit w x)
turned_small ops.right w x c some small = right_small w x some small (bit x 0)
turned_small ops.left_carry w x c some small = left_small w x some small c
turned_small ops.right_carry w x c some small = right_small w x some small c

-- ---- one turn

pub left_turn : (w x : ℕ) (c : Bool) → 1 ≤ w → x < 2 ^ w → (turned ops.left w x c).0 ≡ moved_round w 1 x
left_turn w x c some small = rw (left_part w x some, top_number w x some small) (omega arith)

pub right_turn : (w x : ℕ) (c : Bool) → 1 ≤ w → (turned ops.right w x c).0 ≡ moved_right w 1 x
right_turn w x c some = rw (low_number x) (omega arith)

-- the carry and a word as one number
abbrev pub joined : ℕ → Bool → ℕ → ℕ
joined w c x = bit_number c * 2 ^ w + x

pub left_carry_turn : (w x : ℕ) (c : Bool) → 1 ≤ w → x < 2 ^ w → joined w (turned ops.left_carry w x c).1 (turned ops.left_carry w x c).0 ≡ moved_round (suc w) 1 (joined w c x)
left_carry_turn w x c some small =
    let place : suc w - 1 ≡ w = omega arith in
    let power : 2 ^ w ≡ 2 * 2 ^ (w - 1) = doubled w some in
    rw (place, mod_low (bit_number c) w x small, shr_high (bit_number c) w x small, left_part w x some, top_number w x some small)
    (ap (λ (k : ℕ). x / 2 ^ (w - 1) * k + (2 * (x % 2 ^ (w - 1)) + bit_number c)) power
    ∙ together (x / 2 ^ (w - 1)) (2 ^ (w - 1)) (x % 2 ^ (w - 1)) (bit_number c)
    ∙ ap (λ (k : ℕ). k * 2 + bit_number c) (shr_split x (w - 1)))
  where
    together : (a power q c : ℕ) → a * (2 * power) + (2 * q + c) ≡ (a * power + q) * 2 + c
    together a power q c = grind arith

pub right_carry_turn : (w x : ℕ) (c : Bool) → 1 ≤ w → x < 2 ^ w → joined w (turned ops.right_carry w x c).1 (turned ops.right_carry w x c).0 ≡ moved_right (suc w) 1 (joined w c x)
right_carry_turn w x c some small =
    let place : suc w - 1 ≡ w = omega arith in
    let h = bit_number c * 2 ^ (w - 1) in
    let whole : joined w c x ≡ 2 * h + x = ap (λ (k : ℕ). bit_number c * k + x) (doubled w some) ∙ apart (bit_number c) (2 ^ (w - 1)) x in
    let lowest : joined w c x % 2 ≡ x % 2 = rw whole (omega arith) in
    let rest : joined w c x / 2 ≡ h + x / 2 = rw whole (omega arith) in
    rw (place, lowest, rest, low_number x) (omega arith)
  where
    apart : (c power x : ℕ) → c * (2 * power) + x ≡ 2 * (c * power) + x
    apart c power x = grind arith

-- ---- so many turns, where one turn is one place and places add up

module _ (way : Rotation) (w bits : ℕ) (number : Bool → ℕ → ℕ) (moved : ℕ → ℕ → ℕ)
    (none : (v : ℕ) → v < 2 ^ bits → moved 0 v ≡ v)
    (more : (n v : ℕ) → n < bits → v < 2 ^ bits → moved n (moved 1 v) ≡ moved (suc n) v)
    (some : 1 ≤ w)
    (in_bits : (c : Bool) (x : ℕ) → x < 2 ^ w → number c x < 2 ^ bits)
    (one : (c : Bool) (x : ℕ) → x < 2 ^ w → number (turned way w x c).1 (turned way w x c).0 ≡ moved 1 (number c x)) where
  pub times : (n x : ℕ) (c : Bool) → n ≤ bits → x < 2 ^ w → number (turned_times n way w x c).1 (turned_times n way w x c).0 ≡ moved n (number c x)
  times zero x c inside small = sym (none (number c x) (in_bits c x small))
  times (suc n) x c inside small =
      times n (turned way w x c).0 (turned way w x c).1 (omega arith) (turned_small way w x c some small)
      ∙ ap (moved n) (one c x small) ∙ more n (number c x) (omega arith) (in_bits c x small)

pub times_small : (n : ℕ) (way : Rotation) (w x : ℕ) (c : Bool) → 1 ≤ w → x < 2 ^ w → (turned_times n way w x c).0 < 2 ^ w
times_small zero way w x c some small = small
times_small (suc n) way w x c some small = times_small n way w (turned way w x c).0 (turned way w x c).1 some (turned_small way w x c some small)

-- the carry after a turn, where the word shows it
pub last_carry : (way : Rotation) (w : ℕ) (shown : ℕ → Bool) → 1 ≤ w → ((x : ℕ) (c : Bool) → x < 2 ^ w → (turned way w x c).1 ≡ shown (turned way w x c).0)
    → (n x : ℕ) (c : Bool) → x < 2 ^ w → (turned_times (suc n) way w x c).1 ≡ shown (turned_times (suc n) way w x c).0
last_carry way w shown some one zero x c small = one x c small
last_carry way w shown some one (suc n) x c small = last_carry way w shown some one n (turned way w x c).0 (turned way w x c).1 (turned_small way w x c some small)

-- ---- the four ways

more_left : (bits n v : ℕ) → n < bits → v < 2 ^ bits → moved_round bits n (moved_round bits 1 v) ≡ moved_round bits (suc n) v
more_left bits n v inside small =
    let e : bits ≡ (bits - suc n) + suc n = omega arith in
    subst (λ (b : ℕ). moved_round b n (moved_round b 1 v) ≡ moved_round b (suc n) v) (sym e) (step_left (bits - suc n) n v (subst (λ (b : ℕ). v < 2 ^ b) e small))

more_right : (bits n v : ℕ) → n < bits → v < 2 ^ bits → moved_right bits n (moved_right bits 1 v) ≡ moved_right bits (suc n) v
more_right bits n v inside small =
    let e : bits ≡ (bits - suc n) + suc n = omega arith in
    subst (λ (b : ℕ). moved_right b n (moved_right b 1 v) ≡ moved_right b (suc n) v) (sym e) (step_right (bits - suc n) n v)

none_right : (bits v : ℕ) → v < 2 ^ bits → moved_right bits 0 v ≡ v
none_right bits v small = let rest : v % 1 ≡ 0 = omega arith in let whole : v / 1 ≡ v = omega arith in rw (rest, whole) (omega arith)

joined_small : (w : ℕ) (c : Bool) (x : ℕ) → x < 2 ^ w → joined w c x < 2 ^ suc w
joined_small w true x small = omega (arith, pow-suc 2 w)
joined_small w false x small = omega (arith, pow-suc 2 w)

module _ (w n x : ℕ) (c : Bool) (some : 1 ≤ w) (inside : n ≤ w) (small : x < 2 ^ w) where
  pub left_times : (turned_times n ops.left w x c).0 ≡ moved_round w n x
  left_times = times ops.left w w (λ c x. x) (moved_round w) (round_none w) (more_left w) some (λ c x h. h) (λ c x h. left_turn w x c some h) n x c inside small

  pub right_times : (turned_times n ops.right w x c).0 ≡ moved_round w (w - n) x
  right_times = times ops.right w w (λ c x. x) (moved_right w) (none_right w) (more_right w) some (λ c x h. h) (λ c x h. right_turn w x c some) n x c inside small ∙ sym (right_is w n x inside)

  pub left_carry_times : joined w (turned_times n ops.left_carry w x c).1 (turned_times n ops.left_carry w x c).0 ≡ moved_round (suc w) n (joined w c x)
  left_carry_times = times ops.left_carry w (suc w) (joined w) (moved_round (suc w)) (round_none (suc w)) (more_left (suc w)) some (joined_small w) (λ c x h. left_carry_turn w x c some h) n x c (omega arith) small

  pub right_carry_times : joined w (turned_times n ops.right_carry w x c).1 (turned_times n ops.right_carry w x c).0 ≡ moved_round (suc w) (suc w - n) (joined w c x)
  right_carry_times = times ops.right_carry w (suc w) (joined w) (moved_right (suc w)) (none_right (suc w)) (more_right (suc w)) some (joined_small w) (λ c x h. right_carry_turn w x c some h) n x c (omega arith) small ∙ sym (right_is (suc w) n (joined w c x) (omega arith))

-- a bit that goes round shows at the other end
low_shown : (q : ℕ) (b : Bool) → b ≡ bit (2 * q + bit_number b) 0
low_shown q true = let rest : (2 * q + 1) / 1 % 2 ≡ 1 = omega arith in rw rest refl
low_shown q false = let rest : (2 * q + 0) / 1 % 2 ≡ 0 = omega arith in rw rest refl

top_shown : (k q : ℕ) (b : Bool) → q < 2 ^ k → b ≡ bit (q + bit_number b * 2 ^ k) k
top_shown k q true small =
    let order : q + 1 * 2 ^ k ≡ 1 * 2 ^ k + q = omega arith in
    let top : (q + 1 * 2 ^ k) / 2 ^ k ≡ 1 = ap (λ (v : ℕ). v / 2 ^ k) order ∙ div-mul-add 1 (2 ^ k) q small in
    rw top refl
top_shown k q false small =
    let order : q + 0 * 2 ^ k ≡ 0 * 2 ^ k + q = omega arith in
    let top : (q + 0 * 2 ^ k) / 2 ^ k ≡ 0 = ap (λ (v : ℕ). v / 2 ^ k) order ∙ div-mul-add 0 (2 ^ k) q small in
    rw top refl

pub shown_low : (w x : ℕ) (c : Bool) → 1 ≤ w → (turned ops.left w x c).1 ≡ bit (turned ops.left w x c).0 0
shown_low w x c some = rw (left_part w x some) (low_shown (x % 2 ^ (w - 1)) (top_bit w x))

pub shown_top : (w x : ℕ) (c : Bool) → 1 ≤ w → x < 2 ^ w → (turned ops.right w x c).1 ≡ top_bit w (turned ops.right w x c).0
shown_top w x c some small = top_shown (w - 1) (x / 2) (bit x 0) (omega (arith, doubled w some))

-- ---- the answers

abbrev answer_of : ℕ → ℕ → Bool → Answer
answer_of n p b = record { pattern = p; carry = if n == 0 then None else Some b; range = None }

same_answer : (n p q : ℕ) (b d : Bool) → p ≡ q → b ≡ d → answer_of n p b ≡ answer_of n q d
same_answer n p q b d e f = rw (e, f) refl

pub left_answer : (w n y : ℕ) (c : Bool) → 1 ≤ w → n ≤ w → y < 2 ^ w →
    answer_of n (moved_round w n y) (bit_and (moved_round w n y) 1 == 1) ≡ rotated_times_of ops.left w n y c
left_answer w zero y c some inside small = ap (λ (p : ℕ). plain p) (round_none w y small)
left_answer w (suc k) y c some inside small =
    let word : moved_round w (suc k) y ≡ (turned_times (suc k) ops.left w y c).0 = sym (left_times w (suc k) y c some inside small) in
    let shown : (bit_and (moved_round w (suc k) y) 1 == 1) ≡ bit (moved_round w (suc k) y) 0 =
    ap (λ (v : ℕ). v == 1) (and_mask (moved_round w (suc k) y) 1) ∙ rw div-one refl in
    same_answer (suc k) _ _ _ _ word (shown ∙ ap (λ (v : ℕ). bit v 0) word
    ∙ sym (last_carry ops.left w (λ v. bit v 0) some (λ x c h. shown_low w x c some) k y c small))

-- whether a word is at least half the patterns is its top bit
top_is : (w p : ℕ) → 1 ≤ w → p < 2 ^ w → nat_le (2 ^ (w - 1)) p ≡ top_bit w p
top_is w p some small = by_quotient (p / 2 ^ (w - 1)) refl (top_quotient w p some small)
  where
    rest : p % 2 ^ (w - 1) < 2 ^ (w - 1)
    rest = mod_below p (2 ^ (w - 1)) (pow_pos (w - 1))

    by_quotient : (q : ℕ) → p / 2 ^ (w - 1) ≡ q → q < 2 → nat_le (2 ^ (w - 1)) p ≡ top_bit w p
    by_quotient zero e few =
        let whole : 0 * 2 ^ (w - 1) + p % 2 ^ (w - 1) ≡ p = rw e at (shr_split p (w - 1)) in
        rw e (grind (arith, nat_tests, whole, rest))
    by_quotient (suc zero) e few =
        let whole : 1 * 2 ^ (w - 1) + p % 2 ^ (w - 1) ≡ p = rw e at (shr_split p (w - 1)) in
        rw e (grind (arith, nat_tests, whole))
    by_quotient (suc (suc q)) e few = absurd (omega arith)

pub right_answer : (w n y : ℕ) (c : Bool) → 1 ≤ w → n ≤ w → y < 2 ^ w →
    answer_of n (moved_round w (w - n) y) (nat_le (2 ^ (w - 1)) (moved_round w (w - n) y)) ≡ rotated_times_of ops.right w n y c
right_answer w zero y c some inside small = ap (λ (p : ℕ). plain p) (right_is w 0 y (omega arith) ∙ none_right w y small)
right_answer w (suc k) y c some inside small =
    let word : moved_round w (w - suc k) y ≡ (turned_times (suc k) ops.right w y c).0 = sym (right_times w (suc k) y c some inside small) in
    same_answer (suc k) _ _ _ _ word (ap (λ (v : ℕ). nat_le (2 ^ (w - 1)) v) word
    ∙ top_is w _ some (times_small (suc k) ops.right w y c some small)
    ∙ sym (last_carry ops.right w (top_bit w) some (λ x c h. shown_top w x c some h) k y c small))

-- the carry and the word apart again
joined_answer : (w n p : ℕ) (b : Bool) → p < 2 ^ w →
    answer_of n (bit_and (joined w b p) (2 ^ w - 1)) (nat_lt (2 ^ w - 1) (joined w b p)) ≡ answer_of n p b
joined_answer w n p b small = rw (and_mask (joined w b p) w, mod_low (bit_number b) w p small, upper b) refl
  where
    upper : (b : Bool) → nat_lt (2 ^ w - 1) (joined w b p) ≡ b
    upper true = grind (arith, nat_tests)
    upper false = grind (arith, nat_tests)

pub left_carry_answer : (w n y t : ℕ) (c : Bool) → 1 ≤ w → n ≤ w → y < 2 ^ w → t ≡ moved_round (w + 1) n (joined w c y) →
    answer_of n (bit_and t (2 ^ w - 1)) (nat_lt (2 ^ w - 1) t) ≡ rotated_times_of ops.left_carry w n y c
left_carry_answer w n y t c some inside small is =
    let whole : t ≡ joined w (turned_times n ops.left_carry w y c).1 (turned_times n ops.left_carry w y c).0 =
    is ∙ ap (λ (k : ℕ). moved_round k n (joined w c y)) (add-one w) ∙ sym (left_carry_times w n y c some inside small) in
    rw whole (joined_answer w n _ _ (times_small n ops.left_carry w y c some small))

pub right_carry_answer : (w n y t : ℕ) (c : Bool) → 1 ≤ w → n ≤ w → y < 2 ^ w → t ≡ moved_round (w + 1) (w + 1 - n) (joined w c y) →
    answer_of n (bit_and t (2 ^ w - 1)) (nat_lt (2 ^ w - 1) t) ≡ rotated_times_of ops.right_carry w n y c
right_carry_answer w n y t c some inside small is =
    let whole : t ≡ joined w (turned_times n ops.right_carry w y c).1 (turned_times n ops.right_carry w y c).0 =
    is ∙ ap (λ (k : ℕ). moved_round k (k - n) (joined w c y)) (add-one w) ∙ sym (right_carry_times w n y c some inside small) in
    rw whole (joined_answer w n _ _ (times_small n ops.right_carry w y c some small))
