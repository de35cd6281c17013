-- The answers to an operation's questions, one after another, as a walk gives them.
use Rattle.std.proofs.Common.{◌≡◌, ◌&&◌, Bool, true, false, cond, List, [], ◌∷◌, ◌++◌, Option, Some, None, refl, sym, ap, ◌∙◌, arith}
use Rattle.std.specs.Bool.{beq}
use Rattle.hp_model.specs.State.{Control, Data}
use Rattle.hp_model.specs.Questions.{Question, means_error, next_question, holds, answers_to}
use Rattle.jd_books.specs.Paths.{asking, reached, after_answer, taken, begins}

abbrev ends_with_none : {A : Type 0} → Option A → Bool
ends_with_none None = true
ends_with_none (Some a) = false

none-is-some : {A : Type 0} {a : A} → None ≡ Some a → ⊥
none-is-some {A} {a} h = absurd (true_is_false (ap (ends_with_none {A = A}) h))
  where
    true_is_false : true ≡ false → ⊥
    true_is_false h = grind arith

-- while a question is open, a path that ends here asks
pub taken-open : (qs : List Question) (given : List Bool) (q : Question) → next_question qs given ≡ Some q → taken qs given ≡ asking
taken-open [] given q open_now = absurd (none-is-some open_now)
taken-open (first ∷ qs) [] q open_now = refl
taken-open (first ∷ qs) (answer ∷ given) q open_now = by_error (means_error first && answer) open_now (taken-open qs given q)
  where
    by_error : (e : Bool) → cond e None (next_question qs given) ≡ Some q → (next_question qs given ≡ Some q → taken qs given ≡ asking)
        → cond e (reached (answer ∷ []) given) (after_answer answer (taken qs given)) ≡ asking
    by_error true h more = absurd (none-is-some h)
    by_error false h more = ap (after_answer answer) (more h)

-- an operation that asks nothing takes nothing
pub taken-nothing : (qs : List Question) (rest : List Bool) → next_question qs [] ≡ None → taken qs rest ≡ reached [] rest
taken-nothing [] rest h = refl
taken-nothing (q ∷ qs) rest h = absurd (none-is-some (sym h))

-- the answer after which nothing more is asked
pub taken-whole : (qs : List Question) (given : List Bool) (answer : Bool) (rest : List Bool) (q : Question) → next_question qs given ≡ Some q
    → next_question qs (given ++ answer ∷ []) ≡ None → taken qs (given ++ answer ∷ rest) ≡ reached (given ++ answer ∷ []) rest
taken-whole [] given answer rest q open_now h = absurd (none-is-some open_now)
taken-whole (first ∷ qs) [] answer rest q open_now h = by_error (means_error first && answer) h
  where
    by_error : (e : Bool) → cond e None (next_question qs []) ≡ None
        → cond e (reached (answer ∷ []) rest) (after_answer answer (taken qs rest)) ≡ reached (answer ∷ []) rest
    by_error true h = refl
    by_error false h = ap (after_answer answer) (taken-nothing qs rest h)
taken-whole (first ∷ qs) (before ∷ given) answer rest q open_now h = by_error (means_error first && before) open_now h (taken-whole qs given answer rest q)
  where
    by_error : (e : Bool) → cond e None (next_question qs given) ≡ Some q → cond e None (next_question qs (given ++ answer ∷ [])) ≡ None
        → (next_question qs given ≡ Some q → next_question qs (given ++ answer ∷ []) ≡ None → taken qs (given ++ answer ∷ rest) ≡ reached (given ++ answer ∷ []) rest)
        → cond e (reached (before ∷ []) (given ++ answer ∷ rest)) (after_answer before (taken qs (given ++ answer ∷ rest))) ≡ reached (before ∷ (given ++ answer ∷ [])) rest
    by_error true o h more = absurd (none-is-some o)
    by_error false o h more = ap (after_answer before) (more o h)

some-is : {A : Type 0} (d a b : A) → Some a ≡ Some b → a ≡ b
some-is d a b h = ap (λ o. value o d) h
  where
    value : {A : Type 0} → Option A → A → A
    value None d = d
    value (Some a) d = a

and-true : (b : Bool) → (b && true) ≡ b
and-true true = refl
and-true false = refl

-- a further answer begins a start's answers exactly where it is the question's truth
pub begins-more : (qs : List Question) (given : List Bool) (answer : Bool) (q : Question) (c : Control) (d : Data) (rest : List Bool) → next_question qs given ≡ Some q
    → begins (given ++ answer ∷ []) (answers_to qs c d ++ rest) ≡ (begins given (answers_to qs c d ++ rest) && beq answer (holds q c d))
begins-more [] given answer q c d rest open_now = absurd (none-is-some open_now)
begins-more (first ∷ qs) [] answer q c d rest open_now =
    and-true (beq answer (holds first c d)) ∙ ap (λ r. beq answer (holds r c d)) (some-is first first q open_now)
begins-more (first ∷ qs) (before ∷ given) answer q c d rest open_now =
    by_answer before (holds first c d) (means_error first) open_now (begins-more qs given answer q c d rest)
  where
    by_answer : (b h m : Bool) → cond (m && b) None (next_question qs given) ≡ Some q
        → (next_question qs given ≡ Some q → begins (given ++ answer ∷ []) (answers_to qs c d ++ rest) ≡ (begins given (answers_to qs c d ++ rest) && beq answer (holds q c d)))
        → (beq b h && begins (given ++ answer ∷ []) (cond (m && h) [] (answers_to qs c d) ++ rest))
        ≡ ((beq b h && begins given (cond (m && h) [] (answers_to qs c d) ++ rest)) && beq answer (holds q c d))
    by_answer true false m o more = refl
    by_answer false true m o more = refl
    by_answer true true true o more = absurd (none-is-some o)
    by_answer true true false o more = more o
    by_answer false false true o more = more o
    by_answer false false false o more = more o
