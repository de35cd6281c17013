-- Turns through the carry, as places round a word with the carry above it.
use Rattle.std.proofs.Common.{◌≡◌, ℕ, suc, ◌+◌, ◌-◌, ◌*◌, ◌%◌, ◌^◌, ◌<◌, ◌≤◌, Bool, true, false, Some, List, [], ◌∷◌, ◌++◌, length, length-append, take, slice_get, arith, refl, ap, ◌∙◌, sym, subst}
use Rattle.std.proofs.Math.Nat.{pow-suc}
use Rattle.jd_circuit.specs.declared.literals.Lit.{Lit}
use Rattle.jd_circuit.specs.Meaning.{lit_value}
use Rattle.jd_circuit.specs.Net.{Net, Grows}
use Rattle.jd_circuit.proofs.Values as values
use Rattle.jd_vectors.specs.Number.{bit, number}
use Rattle.jd_vectors.proofs.Numbers.{number-push, number-small, number-top, number-take_small}
use Rattle.jd_shifts.specs.Moves.{moved_round}
use Rattle.jd_shifts.proofs.Moves.{steps_rest, steps_are}
use Rattle.hp_model.specs.Operations as ops
use Rattle.hp_model.specs.WordOperations.{bit_number, turned_times}
use Rattle.hp_bits.proofs.Turns.{joined, left_carry_times, right_carry_times, times_small}

pub grows_trans : (a b c : Net) → Grows a b → Grows b c → Grows a c
grows_trans a b c p q = values.grows_trans a b c p q

same_bit : (b : Bool) → bit b ≡ bit_number b
same_bit true = refl
same_bit false = refl

-- a word and a carry are told apart in one number
apart : (P p q : ℕ) (b d : Bool) → p < P → q < P → p + P * bit b ≡ bit_number d * P + q → ◌≡◌ {A = ℕ × Bool} (p, b) (q, d)
apart P p q true true h i e = let same : p ≡ q = omega arith in rw same refl
apart P p q true false h i e = absurd (omega arith)
apart P p q false true h i e = absurd (omega arith)
apart P p q false false h i e = let same : p ≡ q = omega arith in rw same refl

-- whole rounds are no places
pub round_rest : (bits n v : ℕ) → 1 ≤ bits → n ≤ bits → v < 2 ^ bits → moved_round bits (n % bits) v ≡ moved_round bits n v
round_rest bits n v some inside small = sym (steps_rest bits n v some small) ∙ steps_are bits n v some inside small

whole_small : (w : ℕ) (c : Bool) (x : ℕ) → x < 2 ^ w → joined w c x < 2 ^ suc w
whole_small w true x small = omega (arith, pow-suc 2 w)
whole_small w false x small = omega (arith, pow-suc 2 w)

module _ (val : ℕ → Bool) (y whole round : List Lit) (carry top : Lit) (some : 1 ≤ length y) (is_whole : whole ≡ y ++ carry ∷ [])
    (is_top : slice_get round (length y) ≡ Some top) (long : length round ≡ length whole) where
  longer : length whole ≡ suc (length y)
  longer = ap length is_whole ∙ length-append y (carry ∷ []) ∙ omega arith

  number-whole : number val whole ≡ joined (length y) (lit_value val carry) (number val y)
  number-whole = ap (number val) is_whole ∙ number-push val y carry ∙ rw (same_bit (lit_value val carry)) (omega arith)

  number-round : number val (take (length y) round) + 2 ^ length y * bit (lit_value val top) ≡ number val round
  number-round = number-top val round (length y) top is_top (long ∙ longer ∙ omega arith)

  front_small : number val (take (length y) round) < 2 ^ length y
  front_small = number-take_small val round (length y) (let e : length round ≡ suc (length y) = long ∙ longer in omega arith)

  -- what the turn by so many places gives
  at_places : (k : ℕ) → k ≤ suc (length y) → number val round ≡ moved_round (length whole) (k % length whole) (number val whole)
      → number val (take (length y) round) + 2 ^ length y * bit (lit_value val top) ≡ moved_round (suc (length y)) k (joined (length y) (lit_value val carry) (number val y))
  at_places k inside e =
      number-round ∙ e ∙ ap (λ n. moved_round n (k % n) (number val whole)) longer ∙ ap (moved_round (suc (length y)) (k % suc (length y))) number-whole
      ∙ round_rest (suc (length y)) k (joined (length y) (lit_value val carry) (number val y)) (omega arith) inside (whole_small (length y) (lit_value val carry) (number val y) (number-small val y))

  pub left_turns : (m k : ℕ) → m ≤ length y → k ≡ m → number val round ≡ moved_round (length whole) (k % length whole) (number val whole)
      → ◌≡◌ {A = ℕ × Bool} (number val (take (length y) round), lit_value val top) (turned_times m ops.left_carry (length y) (number val y) (lit_value val carry))
  left_turns m k few is e =
      let w = length y in
      let all = at_places m (omega arith) (subst (λ j. number val round ≡ moved_round (length whole) (j % length whole) (number val whole)) is e) in
      let t = turned_times m ops.left_carry w (number val y) (lit_value val carry) in
      apart (2 ^ w) (number val (take w round)) t.0 (lit_value val top) t.1 front_small (times_small m ops.left_carry w (number val y) (lit_value val carry) some (number-small val y))
      (all ∙ sym (left_carry_times w m (number val y) (lit_value val carry) some few (number-small val y)))

  pub right_turns : (m k : ℕ) → m ≤ length y → k ≡ suc (length y) - m → number val round ≡ moved_round (length whole) (k % length whole) (number val whole)
      → ◌≡◌ {A = ℕ × Bool} (number val (take (length y) round), lit_value val top) (turned_times m ops.right_carry (length y) (number val y) (lit_value val carry))
  right_turns m k few is e =
      let w = length y in
      let all = at_places (suc w - m) (omega arith) (subst (λ j. number val round ≡ moved_round (length whole) (j % length whole) (number val whole)) is e) in
      let t = turned_times m ops.right_carry w (number val y) (lit_value val carry) in
      apart (2 ^ w) (number val (take w round)) t.0 (lit_value val top) t.1 front_small (times_small m ops.right_carry w (number val y) (lit_value val carry) some (number-small val y))
      (all ∙ sym (right_carry_times w m (number val y) (lit_value val carry) some few (number-small val y)))

-- the places to the left that are so many to the right
pub places_back : (w m by negated : ℕ) (out : Bool) → 1 ≤ w → w ≤ 64 → m ≤ w → by + 2 ^ 8 * bit out ≡ w + 1 + negated + 1 → negated + m + 1 ≡ 2 ^ 8 → by < 2 ^ 8 → by ≡ suc w - m
places_back w m by negated true some few inside e h small = omega arith
places_back w m by negated false some few inside e h small = omega arith
