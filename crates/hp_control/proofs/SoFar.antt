-- Answers to the questions of an operation, so far.
use Rattle.std.proofs.Common.{◌≡◌, ◌⊎◌, inl, inr, ◌&&◌, Bool, true, false, cond, List, [], ◌∷◌, ◌++◌, Option, Some, None, refl, sym, ◌∙◌}
use Rattle.hp_model.specs.Questions.{Question, are_complete, means_error, next_question}
use Rattle.hp_control.specs.SoFar.{AreSoFar}

none-is-some : {A : Type 0} {a : A} → None ≡ Some a → ⊥
none-is-some h = cc

-- before any answer
pub so_far_none : (qs : List Question) → AreSoFar qs []
so_far_none [] = inl refl
so_far_none (q ∷ qs) = inr (q, refl)

-- where nothing more is asked, they are all
pub so_far_all : (qs : List Question) (given : List Bool) → AreSoFar qs given → next_question qs given ≡ None → are_complete qs given ≡ true
so_far_all qs given (inl all) none = all
so_far_all qs given (inr more) none = absurd (none-is-some (sym none ∙ more.1))

-- an answer more
pub so_far_more : (qs : List Question) (given : List Bool) (q : Question) (a : Bool) → next_question qs given ≡ Some q → AreSoFar qs (given ++ a ∷ [])
so_far_more [] given q a asked = absurd (none-is-some asked)
so_far_more (first ∷ qs) [] q a asked = by_error (means_error first && a) (so_far_none qs)
  where
    by_error : (e : Bool) → AreSoFar qs [] → (are_complete (cond e [] qs) [] ≡ true) ⊎ ((r : Question) × (cond e None (next_question qs []) ≡ Some r))
    by_error true more = inl refl
    by_error false more = more
so_far_more (first ∷ qs) (b ∷ given) q a asked = by_error (means_error first && b) asked (so_far_more qs given q a)
  where
    by_error : (e : Bool) → cond e None (next_question qs given) ≡ Some q → (next_question qs given ≡ Some q → AreSoFar qs (given ++ a ∷ []))
        → (are_complete (cond e [] qs) (given ++ a ∷ []) ≡ true) ⊎ ((r : Question) × (cond e None (next_question qs (given ++ a ∷ [])) ≡ Some r))
    by_error true o more = absurd (none-is-some o)
    by_error false o more = more o
