-- A routine that agrees stays reachable from round to round.
use Rattle.std.proofs.Common.{◌≡◌, ℕ, ◌<◌, ◌≤◌, List, length, sym, subst, arith}
use Rattle.jd_model.specs.Problems.{Problem}
use Rattle.jd_model.specs.Seen.{agree}
use Rattle.jd_trees.specs.declared.Node.{Node}
use Rattle.jd_books.specs.Leaves.{Leaf}
use Rattle.jd_judge.specs.Judging.{IsEqual}
use Rattle.jd_pieces.specs.Replacements.{Reachable, itself, replaced}
use Rattle.jd_short.specs.Pairs.{pair}
use Rattle.jd_short.specs.Shortened.{Agrees, IsAgreed, IsShorter}
use Rattle.jd_short.specs.declared.shortenings.Agreed.{Agreed}

-- the source itself
pub source-agrees : (p : Problem) (a : Agreed) → a.routine ≡ p.first → IsEqual (pair p p.first) (agree (pair p p.first)) a.book a.cert → IsAgreed p a
source-agrees p a same equal = record {
  reachable = subst (Reachable p.first) (sym same) itself;
  no_longer = omega (arith, same-length);
  equal = subst (λ r. IsEqual (pair p r) (agree (pair p r)) a.book a.cert) (sym same) equal;
}
  where
    same-length : length a.routine ≤ length p.first
    same-length = subst (λ r. length r ≤ length p.first) (sym same) (omega arith)

-- the next one
pub next-agrees : (p : Problem) (routine : List ℕ) (a : Agreed) → Reachable p.first routine → length routine ≤ length p.first → IsShorter p routine a → IsAgreed p a
next-agrees p routine a reached few next = record {
  reachable = replaced reached next.replaces;
  no_longer = omega (arith, few, next.shorter);
  equal = next.equal;
}
