-- Words moved by one place, and single bits of words.
use Rattle.std.proofs.Common.{◌≡◌, ℕ, zero, suc, ◌+◌, ◌-◌, ◌*◌, ◌/◌, ◌%◌, ◌^◌, ◌≤◌, ◌==◌, Bool, true, false, Some, None, List, [], ◌∷◌, ◌++◌, length, length-drop, length-append, take, drop, slice_get, slice_range, refl, sym, ap, ◌∙◌, arith}
use Rattle.std.proofs.lemmas.List.{length-take-le}
use Rattle.jd_circuit.specs.declared.literals.Lit.{Lit}
use Rattle.jd_circuit.specs.Meaning.{lit_value}
use Rattle.jd_circuit.specs.Net.{IsLit}
use Rattle.jd_vectors.specs.Number.{bit, number, Inside}
use Rattle.jd_vectors.proofs.Numbers.{number-drop, number-push, number-cut}
use Rattle.jd_vectors.proofs.Kept.{Inside-take, Inside-drop, Inside-cons, Inside-push, front, back}
use Rattle.jd_shifts.proofs.Chains.{number-high}
use Rattle.hp_model.specs.Words as words
use Rattle.hp_model.specs.WordOperations.{bit_number, carrying}
use Rattle.hp_bits.proofs.Turns.{left_part}
use Rattle.jd_rows.specs.Answers.{IsWord}

same_bit : (b : Bool) → bit b ≡ bit_number b
same_bit true = refl
same_bit false = refl

odd : (b : Bool) (x : ℕ) → b ≡ ((bit b + 2 * x) % 2 == 1)
odd true x = let e : (1 + 2 * x) % 2 ≡ 1 = omega arith in rw e refl
odd false x = let e : (0 + 2 * x) % 2 ≡ 0 = omega arith in rw e refl

before_end : (ls : List Lit) (k : ℕ) (l : Lit) → slice_get ls k ≡ Some l → k ≤ length ls
before_end [] k l e = cc
before_end (x ∷ ls) zero l e = omega arith
before_end (x ∷ ls) (suc k) l e = omega (arith, before_end ls k l e)

-- a literal of a list is a bit of its number
pub bit_at : (val : ℕ → Bool) (ls : List Lit) (k : ℕ) (l : Lit) → slice_get ls k ≡ Some l → lit_value val l ≡ words.bit (number val ls) k
bit_at val ls k l e =
    odd (lit_value val l) (number val (drop (suc k) ls))
    ∙ ap (λ n. n % 2 == 1) (sym (number-drop val ls k l e) ∙ number-high val ls k (before_end ls k l e))

module _ (val : ℕ → Bool) (x : List Lit) (fill : Lit) (some : 1 ≤ length x) where
  pub moved_up : number val (fill ∷ slice_range x 0 (length x - 1)) ≡ 2 * number val x % 2 ^ length x + bit_number (lit_value val fill)
  moved_up =
      let low : number val (slice_range x 0 (length x - 1)) ≡ number val x % 2 ^ (length x - 1) = ap (number val) (front x (length x - 1)) ∙ number-cut val x (length x - 1) (omega arith) in
      let twice : 2 * number val x % 2 ^ length x ≡ 2 * (number val x % 2 ^ (length x - 1)) = left_part (length x) (number val x) some in
      rw (low, twice, same_bit (lit_value val fill)) (omega arith)

  pub moved_down : number val (slice_range x 1 (length x) ++ fill ∷ []) ≡ number val x / 2 + bit_number (lit_value val fill) * 2 ^ (length x - 1)
  moved_down =
      let high : slice_range x 1 (length x) ≡ drop 1 x = back x 1 (length x) refl in
      let size : length (drop 1 x) ≡ length x - 1 = length-drop 1 x in
      ap (λ ls. number val (ls ++ fill ∷ [])) high ∙ number-push val (drop 1 x) fill
      ∙ rw (size, number-high val x 1 some, same_bit (lit_value val fill)) (omega arith)

module _ (n : ℕ) (x : List Lit) (fill : Lit) (some : 1 ≤ length x) (inside : Inside n x) (one : IsLit n fill) where
  pub word_up : IsWord n (length x) (fill ∷ slice_range x 0 (length x - 1))
  word_up =
      let f = front x (length x - 1) in
      let i = Inside-take n (length x - 1) x inside in
      record { size = rw f (omega (arith, length-take-le (length x - 1) x (omega arith))); inside = rw f (Inside-cons n fill (take (length x - 1) x) one i) }

  pub word_down : IsWord n (length x) (slice_range x 1 (length x) ++ fill ∷ [])
  word_down =
      let high : slice_range x 1 (length x) ≡ drop 1 x = back x 1 (length x) refl in
      record { size = rw (high, length-append (drop 1 x) (fill ∷ []), length-drop 1 x) (omega arith); inside = rw high (Inside-push n (drop 1 x) fill (Inside-drop n 1 x inside) one) }

pub same_carrying : (p q : ℕ) (k l : Bool) → p ≡ q → k ≡ l → record { pattern = p; carry = Some k; range = None } ≡ carrying q l
same_carrying p q k l e f = rw (e, f) refl
