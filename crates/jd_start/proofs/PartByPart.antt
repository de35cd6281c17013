-- What is written part by part: one part more.
use Rattle.std.proofs.Common.{◌≡◌, ℕ, ◌+◌, ◌<◌, ◌≤◌, Bool, true, false, cond, nat_lt, arith, List, [], ◌∷◌, ◌++◌, length, get_or, drop, refl, sym, ap, ◌∙◌, append_assoc}
use Rattle.std.proofs.lemmas.Bool.Decides.{nat_tests}
use Rattle.std.proofs.lemmas.List.{drop_more, drop_all, get_or_past}
use Rattle.jd_model.specs.ProblemWriter.{chosen}

-- what is written next, of what was left
pub goes-on : (before after one left next whole : List ℕ) → after ≡ before ++ one → left ≡ one ++ next → before ++ left ≡ whole → after ++ next ≡ whole
goes-on before after one left next whole adds splits all =
    ap (λ text. text ++ next) adds ∙ append_assoc before one next ∙ ap (λ text. before ++ text) (sym splits) ∙ all

-- what is chosen from a place on. Marks that are missing mark nothing
pub chosen-next : {A : Type 0} (marks : List Bool) (xs : List A) (place : ℕ) (none : A) → place < length xs
    → chosen (drop place marks) (drop place xs) ≡ cond (get_or marks place false) (get_or xs place none ∷ []) [] ++ chosen (drop (place + 1) marks) (drop (place + 1) xs)
chosen-next {A} marks xs place none short = by (nat_lt place (length marks)) refl
  where
    by : (more : Bool) → nat_lt place (length marks) ≡ more
        → chosen (drop place marks) (drop place xs) ≡ cond (get_or marks place false) (get_or xs place none ∷ []) [] ++ chosen (drop (place + 1) marks) (drop (place + 1) xs)
    by true is =
        ap (λ bs. chosen bs (drop place xs)) (drop_more marks place false (grind (arith, nat_tests)))
        ∙ ap (λ ys. chosen (get_or marks place false ∷ drop (place + 1) marks) ys) (drop_more xs place none short)
    by false is =
        let past : length marks ≤ place = grind (arith, nat_tests) in
        ap (λ bs. chosen bs (drop place xs)) (drop_all place marks past)
        ∙ sym (ap (λ b. cond b (get_or xs place none ∷ []) [] ++ chosen (drop (place + 1) marks) (drop (place + 1) xs)) (get_or_past marks place false past)
        ∙ ap (λ bs. chosen bs (drop (place + 1) xs)) (drop_all (place + 1) marks (omega arith)))
