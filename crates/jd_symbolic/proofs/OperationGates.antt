-- The questions of each operation take at most 2^17 gates.
use Rattle.std.proofs.Common.{ℕ, ◌+◌, ◌^◌, ◌≤◌, Bool, true, false, List, [], ◌∷◌, map, nat_le, if◌then◌else◌, arith, lit≤}
use Rattle.hp_model.specs.Operations.{Operation, Place, Target}
use Rattle.hp_model.specs.Operations as ops
use Rattle.hp_model.specs.State.{Control, standard_bytes}
use Rattle.hp_model.specs.Questions.{questions, place_questions, label_questions, index_questions, index_past_registers, index_bit_is_set, numbers_below}
use Rattle.jd_symbolic.specs.Laws.{questions_gates}

index-gates : (c : Control) → questions_gates (index_questions c) + 2 ^ 17 ≤ 2 ^ 18
index-gates c = by_size (nat_le c.bytes standard_bytes)
  where
    by_size : (t : Bool) → questions_gates (index_past_registers ∷ map index_bit_is_set (numbers_below (if t then 9 else 11))) + 2 ^ 17 ≤ 2 ^ 18
    by_size true = lit≤ tt
    by_size false = lit≤ tt

place-gates : (c : Control) (place : Place) → questions_gates (place_questions c place) + 2 ^ 17 ≤ 2 ^ 18
place-gates c (ops.register r) = lit≤ tt
place-gates c ops.index_register = lit≤ tt
place-gates c ops.through_index = index-gates c

label-gates : (target : Target) → questions_gates (label_questions target) + 2 ^ 17 ≤ 2 ^ 18
label-gates (ops.label_named n) = lit≤ tt
label-gates ops.label_in_index = lit≤ tt

pub operation-gates : (c : Control) (op : Operation) → questions_gates (questions c op) + 2 ^ 17 ≤ 2 ^ 18
operation-gates c (ops.store place) = place-gates c place
operation-gates c (ops.recall place) = place-gates c place
operation-gates c ops.exchange_through = index-gates c
operation-gates c (ops.goto target) = label-gates target
operation-gates c (ops.gosub target) = label-gates target
operation-gates c op = lit≤ tt
