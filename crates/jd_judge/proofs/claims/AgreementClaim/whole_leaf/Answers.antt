use Rattle.std.proofs.Common.{subst}
use Rattle.jd_model.specs.Seen.{agree}
use Rattle.jd_books.specs.Leaves.{IsFaithfulTo}
use Rattle.jd_leaves.specs.Views.{leaf_of}
use Rattle.jd_judge.proofs.claims.AgreementClaim.whole_leaf.Goals as goal

pub returns-clause-leaf : goal.returns-clause-leaf
returns-clause-leaf g c =
    let w = c.args.walk.now in
    let l = c.in_ok-leaf.ensures in
    record {
      path = l.path;
      kind_is = l.kind_is;
      faithful = subst (λ q. IsFaithfulTo w.problem (agree q) (leaf_of c.in_ok-leaf.leaf)) c.requires.problem l.faithful;
    }
