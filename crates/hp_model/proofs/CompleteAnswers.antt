-- Lists of answers to exactly what an operation asks.
use Rattle.std.proofs.Common.{◌≡◌, ℕ, suc, ◌+◌, ◌≤◌, Bool, true, false, ◌&&◌, List, [], ◌∷◌, ◌++◌, length, Some, None, nat_le, refl, arith, lit≤, if◌then◌else◌}
use Rattle.std.proofs.lemmas.List.{length-map}
use Rattle.hp_model.specs.Operations.{Operation, Place, Target}
use Rattle.hp_model.specs.Operations as ops
use Rattle.hp_model.specs.State.{Control, Data, standard_bytes, index_bits}
use Rattle.hp_model.specs.Questions.{Question, questions, place_questions, label_questions, index_questions, means_error, next_question, are_complete, holds, answers_to, IsComplete, asks, answers, index_bit_is_set, numbers_below}
use Rattle.hp_model.proofs.Bits.{length-numbers_below}

complete-answers : (qs : List Question) (c : Control) (d : Data) → are_complete qs (answers_to qs c d) ≡ true
complete-answers [] c d = refl
complete-answers (q ∷ qs) c d = by_test (means_error q && holds q c d) (complete-answers qs c d)
  where
    by_test : (t : Bool) → are_complete qs (answers_to qs c d) ≡ true
        → are_complete (if t then [] else qs) (if t then [] else answers_to qs c d) ≡ true
    by_test true h = refl
    by_test false h = h

-- the answers of data are complete
pub answers-complete : (c : Control) (op : Operation) (d : Data) → IsComplete c op (answers c op d)
answers-complete c op d = complete-answers (questions c op) c d

next-complete : (qs : List Question) (given : List Bool) → are_complete qs given ≡ true → next_question qs given ≡ None
next-complete [] given h = refl
next-complete (q ∷ qs) [] h = cc
next-complete (q ∷ qs) (answer ∷ given) h = by_test (means_error q && answer) (next-complete qs given) h
  where
    by_test : (t : Bool) → (are_complete qs given ≡ true → next_question qs given ≡ None) → are_complete (if t then [] else qs) given ≡ true → (if t then None else next_question qs given) ≡ None
    by_test true rest h = refl
    by_test false rest h = rest h

pub complete-asks : (c : Control) (op : Operation) (given : List Bool) → IsComplete c op given → asks c op given ≡ None
complete-asks c op given h = next-complete (questions c op) given h

next-none : (qs : List Question) → next_question qs [] ≡ None → are_complete qs [] ≡ true
next-none [] h = refl
next-none (q ∷ qs) h = cc

pub none-complete : (c : Control) (op : Operation) → asks c op [] ≡ None → IsComplete c op []
none-complete c op h = next-none (questions c op) h

last-complete : (qs : List Question) (given : List Bool) (q : Question) (answer : Bool) → next_question qs given ≡ Some q
    → next_question qs (given ++ answer ∷ []) ≡ None → are_complete qs (given ++ answer ∷ []) ≡ true
last-complete [] given q answer asked none = cc
last-complete (p ∷ qs) [] q answer asked none = by_test (means_error p && answer) none
  where
    by_test : (t : Bool) → (if t then None else next_question qs []) ≡ None → are_complete (if t then [] else qs) [] ≡ true
    by_test true none = refl
    by_test false none = next-none qs none
last-complete (p ∷ qs) (first ∷ given) q answer asked none = by_test (means_error p && first) (last-complete qs given q answer) asked none
  where
    by_test : (t : Bool)
        → (next_question qs given ≡ Some q → next_question qs (given ++ answer ∷ []) ≡ None → are_complete qs (given ++ answer ∷ []) ≡ true)
        → (if t then None else next_question qs given) ≡ Some q
        → (if t then None else next_question qs (given ++ answer ∷ [])) ≡ None → are_complete (if t then [] else qs) (given ++ answer ∷ []) ≡ true
    by_test true rest asked none = cc
    by_test false rest asked none = rest asked none

-- answers given one by one are complete as soon as nothing more is asked
pub last_answer-complete : (c : Control) (op : Operation) (given : List Bool) (q : Question) (answer : Bool) → asks c op given ≡ Some q
    → asks c op (given ++ answer ∷ []) ≡ None → IsComplete c op (given ++ answer ∷ [])
last_answer-complete c op given q answer asked none = last-complete (questions c op) given q answer asked none

-- ---- how many there are

length-complete : (qs : List Question) (given : List Bool) → are_complete qs given ≡ true → length given ≤ length qs
length-complete [] [] h = lit≤ tt
length-complete [] (answer ∷ given) h = cc
length-complete (q ∷ qs) [] h = omega arith
length-complete (q ∷ qs) (answer ∷ given) h = by_test (means_error q && answer) (length-complete [] given) (length-complete qs given) h
  where
    by_test : (t : Bool) → (are_complete [] given ≡ true → length given ≤ 0) → (are_complete qs given ≡ true → length given ≤ length qs)
        → are_complete (if t then [] else qs) given ≡ true → suc (length given) ≤ suc (length qs)
    by_test true none rest h = omega (arith, none h)
    by_test false none rest h = omega (arith, rest h)

index-many : (bytes : ℕ) → 9 ≤ index_bits bytes
index-many bytes = by_size (nat_le bytes standard_bytes)
  where
    by_size : (t : Bool) → 9 ≤ (if t then 9 else 11)
    by_size true = lit≤ tt
    by_size false = lit≤ tt

length-index_questions : (c : Control) → length (index_questions c) ≡ index_bits c.bytes + 1
length-index_questions c =
    omega (arith, length-map (numbers_below (index_bits c.bytes)) index_bit_is_set, length-numbers_below (index_bits c.bytes))

place_questions-few : (c : Control) (place : Place) → length (place_questions c place) ≤ index_bits c.bytes + 1
place_questions-few c (ops.register r) = omega arith
place_questions-few c ops.index_register = omega arith
place_questions-few c ops.through_index = omega (arith, length-index_questions c)

label_questions-few : (target : Target) → length (label_questions target) ≤ 5
label_questions-few (ops.label_named n) = lit≤ tt
label_questions-few ops.label_in_index = lit≤ tt

questions-few : (c : Control) (op : Operation) → length (questions c op) ≤ index_bits c.bytes + 1
questions-few c (ops.store place) = place_questions-few c place
questions-few c (ops.recall place) = place_questions-few c place
questions-few c ops.exchange_through = omega (arith, length-index_questions c)
questions-few c (ops.goto target) = omega (arith, label_questions-few target, index-many c.bytes)
questions-few c (ops.gosub target) = omega (arith, label_questions-few target, index-many c.bytes)
questions-few c op = omega (arith, index-many c.bytes)

pub complete-few : (c : Control) (op : Operation) (given : List Bool) → IsComplete c op given → length given ≤ index_bits c.bytes + 1
complete-few c op given h = omega (arith, length-complete (questions c op) given h, questions-few c op)

pub size-few : (c : Control) (given : List Bool) → IsComplete c ops.set_size given → length given ≤ 8
size-few c given h = length-complete (questions c ops.set_size) given h

pub label-few : (target : Target) (given : List Bool) → are_complete (label_questions target) given ≡ true → length given ≤ 5
label-few target given h = omega (arith, length-complete (label_questions target) given h, label_questions-few target)
