-- What comes of a shortening, and how far it has come.
use Rattle.std.specs.Prelude.{◌≡◌, ℕ, ◌<◌, ◌≤◌, false, List, length, map, All}
use Rattle.jd_model.specs.Problems.{Problem}
use Rattle.jd_model.specs.Seen.{agree}
use Rattle.jd_trees.specs.declared.Node.{Node}
use Rattle.jd_books.specs.Leaves.{Leaf}
use Rattle.jd_judge.specs.Judging.{IsEqual, IsJudged}
use Rattle.jd_judge.specs.Laws.{is_equal}
use Rattle.jd_judge.specs.declared.outcomes.Judged.{Judged}
use Rattle.jd_pieces.specs.declared.places.Candidate.{Candidate}
use Rattle.jd_pieces.specs.Candidates.{candidates, put}
use Rattle.jd_pieces.specs.Replacements.{Reachable, Replaces}
use Rattle.jd_short.specs.Pairs.{pair}
use Rattle.jd_short.specs.declared.refusals.Refusal.{Refusal}
use Rattle.jd_short.specs.declared.rounds.Round.{Round}
use Rattle.jd_short.specs.declared.rounds.Round.TheVariants as rounds
use Rattle.jd_short.specs.declared.rounds.Shortened.{Shortened}
use Rattle.jd_short.specs.declared.rounds.Shortened.TheVariants as shortened
use Rattle.jd_short.specs.declared.shortenings.Agreed.{Agreed}

-- the candidate that is refused
abbrev pub candidate_of : Refusal → Candidate
candidate_of r = record { place = r.place; row = r.row }

-- an answer of the judge that isn't Equal
pub record IsOther (p : Problem) (routine : List ℕ) (answer : Judged) : Type 0 where
  pub other : is_equal answer ≡ false
  pub judged : IsJudged (pair p routine) answer

-- the routine without the piece was judged, and not to agree
abbrev pub IsRefusal : Problem → List ℕ → Refusal → Type 0
IsRefusal p routine r = IsOther p (put routine (candidate_of r)) r.answer

-- these candidates of the routine were refused, in this order
pub record AreRefusedAt (p : Problem) (routine : List ℕ) (found : List Candidate) (refusals : List Refusal) : Type 0 where
  pub in_order : map candidate_of refusals ≡ found
  pub refused : All (IsRefusal p routine) refusals

-- every candidate of the routine was refused, in order
abbrev pub AreRefused : Problem → List ℕ → List Refusal → Type 0
AreRefused p routine refusals = AreRefusedAt p routine (candidates routine) refusals

-- the routine came from the source by replacements, is no longer than it, and agrees with it
pub record Agrees (p : Problem) (routine : List ℕ) (book : List Leaf) (cert : List Node) : Type 0 where
  pub reachable : Reachable p.first routine
  pub no_longer : length routine ≤ length p.first
  pub equal : IsEqual (pair p routine) (agree (pair p routine)) book cert

pub record IsDone (p : Problem) (routine : List ℕ) (book : List Leaf) (cert : List Node) (refusals : List Refusal) : Type 0 where
  pub agrees : Agrees p routine book cert
  pub refused : AreRefused p routine refusals

abbrev pub IsShortened : Problem → Shortened → Type 0
IsShortened p (shortened.Done routine book cert refusals) = IsDone p routine book cert refusals.refusals.items
IsShortened p (shortened.Not judged) = IsOther p p.first judged

-- ---- the way there

abbrev pub IsAgreed : Problem → Agreed → Type 0
IsAgreed p a = Agrees p a.routine a.book a.cert

-- a shorter routine agrees, with one piece of this one replaced
pub record IsShorter (p : Problem) (routine : List ℕ) (a : Agreed) : Type 0 where
  pub replaces : Replaces routine a.routine
  pub shorter : length a.routine < length routine
  pub equal : IsEqual (pair p a.routine) (agree (pair p a.routine)) a.book a.cert

-- what comes of judging these candidates
abbrev pub IsRound : Problem → List ℕ → List Candidate → Round → Type 0
IsRound p routine found (rounds.Shorter a index) = IsShorter p routine a
IsRound p routine found (rounds.Over refusals) = AreRefusedAt p routine found refusals.refusals.items
