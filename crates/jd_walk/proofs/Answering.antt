-- Answers to the questions of a line, so far.
use Rattle.std.proofs.Common.{◌≡◌, ◌&&◌, ℕ, zero, suc, ◌≤◌, Bool, true, false, cond, List, [], ◌∷◌, ◌++◌, length, take, drop, Some, None, refl, sym, ap, subst, arith, length-append}
use Rattle.hp_model.specs.State.{Control, Data}
use Rattle.hp_model.specs.Questions.{Question, answers_to, holds, means_error, next_question}
use Rattle.hp_control.specs.SoFar.{AreSoFar}
use Rattle.hp_control.proofs.SoFar.{so_far_none, so_far_more}
use Rattle.jd_circuit.specs.Net.{Net}
use Rattle.jd_books.specs.Paths.{begins, line_questions}
use Rattle.jd_symbolic.specs.declared.machine.SymMachine.{SymMachine}
use Rattle.jd_symbolic.specs.Machine.{state_of}
use Rattle.jd_walk.specs.declared.runs.Position.{Position}
use Rattle.jd_walk.specs.NextLine.{StandsAtLine}
use Rattle.jd_walk.specs.Spots.{IsPlaced}

none-is-some : {A : Type 0} {a : A} → None ≡ Some a → ⊥
none-is-some h = cc

-- data whose answers the given ones begin, while one more is asked
pub answers-front : (qs : List Question) (given : List Bool) (q : Question) (c : Control) (d : Data) (rest : List Bool) → next_question qs given ≡ Some q
    → begins given (answers_to qs c d ++ rest) ≡ true → take (length given) (answers_to qs c d) ≡ given
answers-front [] given q c d rest asked h = absurd (none-is-some asked)
answers-front (first ∷ qs) [] q c d rest asked h = refl
answers-front (first ∷ qs) (b ∷ given) q c d rest asked h = by_answer b (holds first c d) (means_error first) asked h (answers-front qs given q c d rest)
  where
    by_answer : (b h m : Bool) → cond (m && b) None (next_question qs given) ≡ Some q
        → begins (b ∷ given) (h ∷ (cond (m && h) [] (answers_to qs c d) ++ rest)) ≡ true
        → (next_question qs given ≡ Some q → begins given (answers_to qs c d ++ rest) ≡ true → take (length given) (answers_to qs c d) ≡ given)
        → take (length (b ∷ given)) (h ∷ cond (m && h) [] (answers_to qs c d)) ≡ b ∷ given
    by_answer true true true o h more = absurd (none-is-some o)
    by_answer true true false o h more = ap {B = List Bool} (λ r. true ∷ r) (more o h)
    by_answer false false true o h more = ap {B = List Bool} (λ r. false ∷ r) (more o h)
    by_answer false false false o h more = ap {B = List Bool} (λ r. false ∷ r) (more o h)
    by_answer true false m o h more = cc
    by_answer false true m o h more = cc

-- ---- where a run is placed

pub drop-length : (xs : List Bool) → drop (length xs) xs ≡ []
drop-length [] = refl
drop-length (x ∷ xs) = drop-length xs

pub drop-push : (k : ℕ) (xs : List Bool) (a : Bool) → k ≤ length xs → drop k (xs ++ a ∷ []) ≡ drop k xs ++ a ∷ []
drop-push zero xs a h = refl
drop-push (suc k) [] a h = absurd (omega (arith, h))
drop-push (suc k) (x ∷ xs) a h = drop-push k xs a (omega (arith, h))

-- at a line's beginning all answers belong to lines done
pub placed-at_line : (net : Net) (path : List Bool) (m : SymMachine) (left : ℕ) → StandsAtLine net m → IsPlaced net path (record { machine = m; left = left; from = length path })
placed-at_line net path m left h = record {
  machine = h;
  from = omega arith;
  so_far = subst (AreSoFar (line_questions (state_of m))) (sym (drop-length path)) (so_far_none (line_questions (state_of m)));
}

pub placed-answered : (net : Net) (path : List Bool) (at : Position) (q : Question) (a : Bool) → next_question (line_questions (state_of at.machine)) (drop at.from path) ≡ Some q
    → IsPlaced net path at → IsPlaced net (path ++ a ∷ []) at
placed-answered net path at q a asked h = record {
  machine = h.machine;
  from = omega (arith, h.from, length-append path (a ∷ []));
  so_far = subst (AreSoFar (line_questions (state_of at.machine))) (sym (drop-push at.from path a h.from)) (so_far_more (line_questions (state_of at.machine)) (drop at.from path) q a asked);
}
