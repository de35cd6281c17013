-- What follows from the judge's answers.
use Rattle.std.specs.Prelude.{◌≡◌, ◌+◌, ◌^◌, ◌≤◌, Bool, true, false, List}
use Rattle.hp_model.specs.State.{Data}
use Rattle.jd_model.specs.Problems.{Problem, free_bits}
use Rattle.jd_books.specs.Leaves.{Claim}
use Rattle.jd_books.specs.Outcomes.{IsCounterexample, AreTooMany, AllMeet}
use Rattle.jd_judge.specs.declared.outcomes.Judged.{Judged}
use Rattle.jd_judge.specs.declared.outcomes.Judged.TheVariants as j
use Rattle.jd_judge.specs.Judging.{IsJudgedTo}

abbrev pub is_equal : Judged → Bool
is_equal (j.Equal book cert) = true
is_equal _ = false

abbrev pub is_different : Judged → Bool
is_different (j.Different start) = true
is_different _ = false

-- where Equal is answered, the claim holds of all allowed starts
abbrev pub Sound : Type 0
Sound = (p : Problem) (claim : Claim) (judged : Judged) → IsJudgedTo p claim judged → is_equal judged ≡ true → AllMeet p claim

-- no starts give more different answers than the problem has paths
abbrev pub AreFew : Problem → Type 0
AreFew p = (starts : List Data) → AreTooMany p starts → ⊥

abbrev pub FewPaths : Type 0
FewPaths = (p : Problem) (claim : Claim) (judged : Judged) → IsJudgedTo p claim judged → is_equal judged ≡ true → AreFew p

-- the budget suffices for all values of the free bits
abbrev pub IsEnough : Problem → Type 0
IsEnough p = 2 ^ (free_bits p + 1) ≤ p.budget

pub record IsComplete (p : Problem) (claim : Claim) (judged : Judged) : Type 0 where
  pub equal : AllMeet p claim → is_equal judged ≡ true
  pub different : (s : Data) → IsCounterexample p claim s → is_different judged ≡ true

abbrev pub Completeness : Type 0
Completeness = (p : Problem) (claim : Claim) (judged : Judged) → IsJudgedTo p claim judged → IsEnough p → AreFew p → IsComplete p claim judged
