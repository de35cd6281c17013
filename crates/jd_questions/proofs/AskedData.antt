-- A question after a no is asked of data that gave it.
use Rattle.std.proofs.Common.{◌≡◌, ℕ, ◌<◌, ◌==◌, ◌&&◌, Bool, true, false, nat_le, nat_lt, List, [], ◌∷◌, length, map, take, Some, None, refl, sym, ap, ◌∙◌, subst, arith}
use Rattle.std.specs.Prelude.{if◌then◌else◌}
use Rattle.std.specs.declared.option.Option.{Option}
use Rattle.std.proofs.lemmas.Bool.Decides.{nat_tests}
use Rattle.hp_model.specs.Operations.{Operation, Place, Target}
use Rattle.hp_model.specs.Operations as ops
use Rattle.hp_model.specs.State.{Control, Data, index_bits}
use Rattle.hp_model.specs.Questions.{Question, answers, asks, index_bit_is_set, index_questions, label_questions, magnitude_bit_is_set, means_error, next_question, numbers_below, place_questions, questions, x_magnitude}
use Rattle.hp_model.specs.Questions as q
use Rattle.hp_model.specs.ControlStep.{answer_at}
use Rattle.jd_questions.specs.Questions.{IsAsked}

-- whether a question is asked of any data
abbrev is_free : Question → Bool
is_free q.quotient_is_too_great = false
is_free q.bit_of_y_is_set = false
is_free _ = true

abbrev all_free : List Question → Bool
all_free [] = true
all_free (p ∷ ps) = is_free p && all_free ps

free_asked : (p : Question) (k : Control) (d : Data) → is_free p ≡ true → IsAsked p k d
free_asked q.quotient_is_too_great k d e = cc
free_asked q.bit_of_y_is_set k d e = cc
free_asked _ k d e = tt

abbrev IsAskedIf : Option Question → Control → Data → Type 0
IsAskedIf None k d = Unit {0}
IsAskedIf (Some p) k d = IsAsked p k d

moved : (x p : Question) (k : Control) (d : Data) → Some x ≡ Some p → IsAsked x k d → IsAsked p k d
moved x p k d e h = subst (λ (o : Option Question). IsAskedIf o k d) e h

-- ---- operations whose questions are asked of any data

both : (a b : Bool) → (a && b) ≡ true → (a ≡ true) × (b ≡ true)
both true b e = (refl, e)
both false b e = cc

abbrev is_free_if : Option Question → Bool
is_free_if None = true
is_free_if (Some p) = is_free p

by_error : (t : Bool) (asked : Option Question) (p : Question) → (asked ≡ Some p → is_free p ≡ true) → (if t then None else asked) ≡ Some p → is_free p ≡ true
by_error true asked p go e = cc
by_error false asked p go e = go e

free_next : (ps : List Question) (given : List Bool) (p : Question) → all_free ps ≡ true → next_question ps given ≡ Some p → is_free p ≡ true
free_next [] given p h e = cc
free_next (x ∷ ps) [] p h e = ap is_free_if (sym e) ∙ (both (is_free x) (all_free ps) h).0
free_next (x ∷ ps) (a ∷ given) p h e = by_error (means_error x && a) (next_question ps given) p (λ f. free_next ps given p (both (is_free x) (all_free ps) h).1 f) e

index_bits_free : (ks : List ℕ) → all_free (map index_bit_is_set ks) ≡ true
index_bits_free [] = refl
index_bits_free (k ∷ ks) = index_bits_free ks

place_free : (k : Control) (place : Place) → all_free (place_questions k place) ≡ true
place_free k (ops.register r) = refl
place_free k ops.index_register = refl
place_free k ops.through_index = index_bits_free (numbers_below (index_bits k.bytes))

label_free : (target : Target) → all_free (label_questions target) ≡ true
label_free (ops.label_named n) = refl
label_free ops.label_in_index = refl

-- ---- operations with a question after a no

above_zero : (m : ℕ) → (m == 0) ≡ false → 0 < m
above_zero m e = grind (arith, nat_tests)

under : (w m : ℕ) → nat_le w m ≡ false → m < w
under w m e = grind (arith, nat_tests)

divisor_asked : (k : Control) (d : Data) (rest given : List Bool) (p : Question) → next_question (q.x_is_zero ∷ q.quotient_is_too_great ∷ []) given ≡ Some p
    → take (length given) ((x_magnitude k d == 0) ∷ rest) ≡ given → IsAsked p k d
divisor_asked k d rest [] p e t = moved q.x_is_zero p k d e tt
divisor_asked k d rest (true ∷ given) p e t = cc
divisor_asked k d rest (false ∷ []) p e t = moved q.quotient_is_too_great p k d e (above_zero (x_magnitude k d) (ap (answer_at 0) t))
divisor_asked k d rest (false ∷ true ∷ given) p e t = cc
divisor_asked k d rest (false ∷ false ∷ given) p e t = cc

place_asked : (k : Control) (d : Data) (rest given : List Bool) (p : Question) → next_question (q.magnitude_at_least_size ∷ q.bit_of_y_is_set ∷ []) given ≡ Some p
    → take (length given) (nat_le k.size (x_magnitude k d) ∷ rest) ≡ given → IsAsked p k d
place_asked k d rest [] p e t = moved q.magnitude_at_least_size p k d e tt
place_asked k d rest (true ∷ given) p e t = cc
place_asked k d rest (false ∷ []) p e t = moved q.bit_of_y_is_set p k d e (under k.size (x_magnitude k d) (ap (answer_at 0) t))
place_asked k d rest (false ∷ b ∷ given) p e t = cc

pub is_asked : (k : Control) (op : Operation) (given : List Bool) (p : Question) (d : Data) → asks k op given ≡ Some p → take (length given) (answers k op d) ≡ given → IsAsked p k d
is_asked k ops.double_divide given p d e t = divisor_asked k d _ given p e t
is_asked k ops.double_remainder given p d e t = divisor_asked k d _ given p e t
is_asked k ops.test_bit given p d e t = place_asked k d _ given p e t
is_asked k (ops.store place) given p d e t = free_asked p k d (free_next (place_questions k place) given p (place_free k place) e)
is_asked k (ops.recall place) given p d e t = free_asked p k d (free_next (place_questions k place) given p (place_free k place) e)
is_asked k ops.exchange_through given p d e t = free_asked p k d (free_next (place_questions k ops.through_index) given p (place_free k ops.through_index) e)
is_asked k (ops.goto target) given p d e t = free_asked p k d (free_next (label_questions target) given p (label_free target) e)
is_asked k (ops.gosub target) given p d e t = free_asked p k d (free_next (label_questions target) given p (label_free target) e)
is_asked k op given p d e t = free_asked p k d (free_next (questions k op) given p refl e)

-- at least 16 is above 15
pub from_16 : (n : ℕ) → nat_le 16 n ≡ nat_lt 15 n
from_16 n = grind (arith, nat_tests)
