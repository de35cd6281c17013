use Rattle.std.proofs.Common.{subst, arith}
use Rattle.jd_model.specs.Seen.{agree}
use Rattle.jd_books.specs.Leaves.{Leaf}
use Rattle.jd_cones.specs.Cones.{IsConeOf}
use Rattle.jd_cones.proofs.Faithful.{faithful-cone}
use Rattle.jd_leaves.specs.Views.{leaf_of}
use Rattle.jd_walk.specs.Leaves.{leaf_at}
use Rattle.jd_walk.proofs.walks.Walk.leaf.Goals as goal

pub returns : goal.returns
returns g c =
    let whole = leaf_of c.in_ok-whole_leaf.field-0 in
    let l = leaf_of c.in_ok-leaf.leaf in
    let w = c.in_ok-whole_leaf.ensures in
    let k : IsConeOf whole l = c.in_ok-leaf.ensures in
    let cone : IsConeOf (leaf_at c.args.self.now c.args.kind) l = subst (λ (x : Leaf). IsConeOf x l) w.is k in
    record {
      path = cone.path;
      kind_is = cone.kind;
      cone = cone;
      few = omega (arith, k.fewer, w.few);
      faithful = faithful-cone c.args.self.now.problem (agree c.args.self.now.problem) whole l w.faithful k (record { gates = c.in_ok-leaf.leaf.wired; literals = c.in_ok-leaf.leaf.literals });
    }
