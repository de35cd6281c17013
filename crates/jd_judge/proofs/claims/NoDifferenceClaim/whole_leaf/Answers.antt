use Rattle.std.proofs.Common.{◌≡◌, not, sym, ap, ◌∙◌}
use Rattle.jd_model.specs.Problems.{Problem}
use Rattle.jd_model.specs.Seen.{seen}
use Rattle.jd_problem.specs.Problems.{problem_of}
use Rattle.jd_books.specs.Leaves.{Claim, Leaf}
use Rattle.jd_cones.proofs.Faithful.{faithful-cone}
use Rattle.jd_leaves.specs.Views.{leaf_of}
use Rattle.jd_walk.specs.Walked.{Walked}
use Rattle.jd_judge.proofs.Placing.{not-not}
use Rattle.jd_judge.proofs.claims.NoDifferenceClaim.whole_leaf.Goals as goal

pub returns-clause-leaf : goal.returns-clause-leaf
returns-clause-leaf g c =
    let w = c.done_with.new.self in
    let P = problem_of c.args.self.now.problem.now in
    let differs = g.D.Difference.differs c.args.self.now.difference.now in
    let claim : Claim = λ s. not (differs s (seen P P.first s) (seen P P.second s)) in
    let same : w.problem ≡ P = ap (λ (v : Walked). v.problem) c.in_ok-diff.ensures.walk ∙ c.requires.problem.0 in
    let made = c.in_ok-leaf.ensures in
    let whole : Leaf = leaf_of c.in_ok-leaf.leaf in
    let k = c.in_ok-kept.ensures in
    record {
      path = k.path ∙ ap (λ (l : Leaf). l.path) made.is;
      kind_is = k.kind ∙ ap (λ (l : Leaf). l.kind) made.is;
      faithful = faithful-cone w.problem claim whole (leaf_of c.in_ok-kept.kept)
          (made.faithful claim (λ s ranged held. c.in_ok-diff.ensures.means s ranged held
          ∙ ap (λ (q : Problem). differs s (seen q q.first s) (seen q q.second s)) same ∙ sym (not-not (differs s (seen P P.first s) (seen P P.second s))))) k
          (record { gates = c.in_ok-kept.kept.wired; literals = c.in_ok-kept.kept.literals });
    }
