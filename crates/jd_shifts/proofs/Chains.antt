-- Lists of literals: parts, and lists while a circuit grows.
use Rattle.std.proofs.Common.{◌≡◌, ℕ, ◌+◌, ◌-◌, ◌*◌, ◌/◌, ◌%◌, ◌^◌, ◌<◌, ◌≤◌, Bool, true, false, Some, List, [], ◌∷◌, ◌++◌, length, take, drop, slice_get, arith, ap, ◌∙◌, sym, refl, length-drop}
use Rattle.std.proofs.lemmas.List.{take_more}
use Rattle.std.proofs.lemmas.Option.{get_or_from_slice_get}
use Rattle.std.proofs.lemmas.Nat.{div-mul-add}
use Rattle.jd_circuit.specs.declared.literals.Lit.{Lit}
use Rattle.jd_circuit.specs.Meaning.{lit_value}
use Rattle.jd_vectors.specs.Number.{bit, number}
use Rattle.jd_vectors.proofs.Numbers.{number-append, number-split, number-cut, number-take_small, bit-small}
use Rattle.jd_shifts.specs.Moves.{moved_round, trues}

pub number-high : (val : ℕ → Bool) (ls : List Lit) (k : ℕ) → k ≤ length ls → number val (drop k ls) ≡ number val ls / 2 ^ k
number-high val ls k h =
    let whole : number val ls ≡ number val (drop k ls) * 2 ^ k + number val (take k ls) = omega (arith, number-split val ls k h) in
    sym (ap (λ n. n / 2 ^ k) whole ∙ div-mul-add (number val (drop k ls)) (2 ^ k) (number val (take k ls)) (number-take_small val ls k h))

-- the upper literals below the lower ones
pub number-turned : (val : ℕ → Bool) (ls : List Lit) (k : ℕ) → k ≤ length ls
    → number val (drop (length ls - k) ls ++ take (length ls - k) ls) ≡ moved_round (length ls) k (number val ls)
number-turned val ls k h =
    let n = length ls - k in
    let upper : length (drop n ls) ≡ k = length-drop n ls ∙ omega arith in
    number-append val (drop n ls) (take n ls)
    ∙ ap (λ j. number val (drop n ls) + 2 ^ j * number val (take n ls)) upper
    ∙ rw (number-high val ls n (omega arith), number-cut val ls n (omega arith)) (omega arith)

-- ---- how many are true

trues-push : (val : ℕ → Bool) (ls : List Lit) (l : Lit) → trues val (ls ++ l ∷ []) ≡ trues val ls + bit (lit_value val l)
trues-push val [] l = omega arith
trues-push val (x ∷ ls) l = omega (arith, trues-push val ls l)

pub trues-take : (val : ℕ → Bool) (ls : List Lit) (i : ℕ) (l : Lit) → slice_get ls i ≡ Some l → i < length ls → trues val (take (i + 1) ls) ≡ trues val (take i ls) + bit (lit_value val l)
trues-take val ls i l e h = ap (trues val) (take_more ls i l h ∙ ap (λ x. take i ls ++ x ∷ []) (get_or_from_slice_get ls i l l e)) ∙ trues-push val (take i ls) l

pub one_literal : (val : ℕ → Bool) (l : Lit) → number val (l ∷ []) % 2 ^ 8 ≡ bit (lit_value val l)
one_literal val l = by (lit_value val l)
  where
    by : (b : Bool) → (bit b + 2 * 0) % 2 ^ 8 ≡ bit b
    by true = refl
    by false = refl

-- a count of eight literals doesn't pass over
pub counted : (s n i : ℕ) (b d out : Bool) → s + 2 ^ 8 * bit out ≡ n + bit b + bit d → n ≤ i → i < 128 → (s ≡ n + bit b + bit d) × (s ≤ i + 2)
counted s n i b d true e h k =
    let one : bit b ≤ 1 = bit-small b in
    let two : bit d ≤ 1 = bit-small d in
    (omega arith, omega arith)
counted s n i b d false e h k =
    let one : bit b ≤ 1 = bit-small b in
    let two : bit d ≤ 1 = bit-small d in
    (omega arith, omega arith)
