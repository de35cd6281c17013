-- What the judge can answer for a generated problem.
use Rattle.std.proofs.Common.{◌≡◌, ℕ, zero, suc, ◌+◌, ◌<◌, ◌≤◌, ◌^◌, ◌==◌, Bool, true, false, List, [], ◌∷◌, ◌++◌, length, arith, refl, sym, ap, ◌∙◌, ◌⊎◌, inl, inr, All}
use Rattle.hp_model.specs.State.{Data}
use Rattle.hp_model.specs.Run.{run_answers}
use Rattle.jd_model.specs.Problems.{allows, content_fields, field, free_bits, free_widths, nibble_count, nibble_fields}
use Rattle.jd_problem.proofs.FieldLists.{free_bits-sum, free_widths-replicate}
use Rattle.jd_generated.proofs.Agreement.{generated-agree, generated-ask-once}
use Rattle.jd_judge.specs.declared.outcomes.Judged.{Judged}
use Rattle.jd_judge.specs.Judging.{IsJudged}
use Rattle.jd_judge.specs.Laws.{IsEnough, is_equal}
use Rattle.jd_model.specs.Seen.{agree}
use Rattle.jd_judge.proofs.Pigeons.{complete}
use Rattle.jd_model.specs.Seen.{machine_at}
use Rattle.jd_books.specs.Paths.{answers_of_start}
use Rattle.jd_books.specs.Outcomes.{AreTooMany}
use Rattle.jd_generated.specs.Generated.{generated}
use Rattle.jd_generated.specs.Laws.{GeneratedRoutinesAskOnce}

module _ (once : GeneratedRoutinesAskOnce) (n : ℕ) where
  -- a start's answers: whether X is zero, twice
  answers-are : (s : Data) → allows (generated n) s ≡ true → answers_of_start (generated n) s ≡ (s.x == 0) ∷ (s.x == 0) ∷ []
  answers-are s allowed =
      let asked = once n s allowed in
      ap (λ given. given ++ run_answers 500 (machine_at (generated n) (generated n).second s)) asked.first ∙ ap (λ given. (s.x == 0) ∷ given) asked.second

  same-answers : (s t : Data) → allows (generated n) s ≡ true → allows (generated n) t ≡ true → (s.x == 0) ≡ (t.x == 0)
      → answers_of_start (generated n) s ≡ answers_of_start (generated n) t
  same-answers s t one other same = answers-are s one ∙ (ap (λ zero. zero ∷ zero ∷ []) same ∙ sym (answers-are t other))

  -- of three truth values two are the same
  two-the-same : (p q r : Bool) → (p ≡ q) ⊎ ((p ≡ r) ⊎ (q ≡ r))
  two-the-same true true r = inl refl
  two-the-same false false r = inl refl
  two-the-same true false true = inr (inl refl)
  two-the-same true false false = inr (inr refl)
  two-the-same false true false = inr (inl refl)
  two-the-same false true true = inr (inr refl)

  pub few-answers : (starts : List Data) → AreTooMany (generated n) starts → ⊥
  few-answers [] many = absurd (let count = many.count in omega (arith, count))
  few-answers (a ∷ []) many = absurd (let count = many.count in omega (arith, count))
  few-answers (a ∷ b ∷ []) many = absurd (let count = many.count in omega (arith, count))
  few-answers (a ∷ b ∷ c ∷ rest) many = by (two-the-same (a.x == 0) (b.x == 0) (c.x == 0)) many.allowed
    where
      by : ((a.x == 0) ≡ (b.x == 0)) ⊎ (((a.x == 0) ≡ (c.x == 0)) ⊎ ((b.x == 0) ≡ (c.x == 0))) → All (λ s. allows (generated n) s ≡ true) (a ∷ b ∷ c ∷ rest) → ⊥
      by (inl same) all = many.different 0 1 a (omega arith) (omega arith) (same-answers a b (all 0 a (omega arith)) (all 1 a (omega arith)) same)
      by (inr (inl same)) all = many.different 0 2 a (omega arith) (omega arith) (same-answers a c (all 0 a (omega arith)) (all 2 a (omega arith)) same)
      by (inr (inr same)) all = many.different 1 2 a (omega arith) (omega arith) (same-answers b c (all 1 a (omega arith)) (all 2 a (omega arith)) same)

-- eight bits are free
free-bits : (n : ℕ) → free_bits (generated n) ≡ 8
free-bits n =
    let p = generated n in
    let nibbles : free_widths (nibble_fields p) ≡ 0 = free_widths-replicate (nibble_count p) (field p 4 12) ∙ omega arith in
    free_bits-sum p ∙ ap (λ m. free_widths (content_fields p) + m) nibbles

enough : (n : ℕ) → IsEnough (generated n)
enough n = rw (free-bits n) (omega arith)

pub always-equal : (n : ℕ) (judged : Judged) → IsJudged (generated n) judged → is_equal judged ≡ true
always-equal n judged is = (complete (generated n) (agree (generated n)) judged is (enough n) (few-answers generated-ask-once n)).equal (generated-agree n)
