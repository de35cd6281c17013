use Rattle.jd_leaves.specs.Views.{leaf_of}
use Rattle.jd_cones.proofs.Kept.{leaf-marked}
use Rattle.jd_cones.proofs.marking.mark_leaf.Goals as goal

pub returns : goal.returns
returns c =
    let l = c.args.leaf.now in
    leaf-marked (leaf_of l) c.as_slice.result.now c.as_slice-2.result.now c.args.marks.now c.mark_literals.new.marks c.mark.new.marks c.mark_gates.new.marks
    (record { gates = l.wired; literals = l.literals }) c.requires.count c.as_slice.ensures c.as_slice-2.ensures
    c.mark_literals.ensures.all c.mark_literals.ensures.marked c.mark.ensures c.mark_gates.ensures.all c.mark_gates.ensures.grown c.mark_gates.ensures.closed
    c.requires.none c.mark_literals.ensures.only c.mark_gates.ensures.only
