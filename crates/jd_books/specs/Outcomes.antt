-- What the judge's other answers say.
use Rattle.std.specs.Prelude.{◌≡◌, ◌<◌, ℕ, suc, true, false, List, length, slice_index_or, All}
use Rattle.hp_model.specs.State.{Data}
use Rattle.jd_model.specs.Problems.{Problem}
use Rattle.jd_model.specs.Problems.{allows}
use Rattle.jd_model.specs.Seen.{agree}
use Rattle.jd_books.specs.Paths.{answers_of_start}
use Rattle.jd_books.specs.Leaves.{Claim}

-- an allowed start of which the claim is false
pub record IsCounterexample (p : Problem) (claim : Claim) (s : Data) : Type 0 where
  pub allowed : allows p s ≡ true
  pub differs : claim s ≡ false

-- an allowed start from which the routines don't agree
abbrev pub IsDifference : Problem → Data → Type 0
IsDifference p = IsCounterexample p (agree p)

-- no two of the starts give the same answers
abbrev pub HaveOwnAnswers : Problem → List Data → Type 0
HaveOwnAnswers p starts = (i j : ℕ) (d : Data) → i < j → j < length starts → answers_of_start p (slice_index_or starts i d) ≡ answers_of_start p (slice_index_or starts j d) → ⊥

-- one more allowed start than the problem has paths, each with its own answers
pub record AreTooMany (p : Problem) (starts : List Data) : Type 0 where
  pub count : length starts ≡ suc p.paths
  pub allowed : All (λ s. allows p s ≡ true) starts
  pub different : HaveOwnAnswers p starts

-- where the claim holds of all allowed starts
abbrev pub AllMeet : Problem → Claim → Type 0
AllMeet p claim = (s : Data) → allows p s ≡ true → claim s ≡ true

-- where all allowed starts agree
abbrev pub AllAgree : Problem → Type 0
AllAgree p = AllMeet p (agree p)
