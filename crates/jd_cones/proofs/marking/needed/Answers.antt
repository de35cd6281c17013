use Rattle.std.proofs.Common.{◌≡◌, length, drop, sym, ap, subst, arith}
use Rattle.std.proofs.lemmas.List.{take_at}
use Rattle.jd_leaves.specs.Views.{leaf_of}
use Rattle.jd_cones.specs.Marks.{AreMarks}
use Rattle.jd_cones.proofs.marking.needed.Goals as goal

pub returns : goal.returns
returns c =
    let l = leaf_of c.args.leaf.now in
    let marks = c.in_ok-marks.marks in
    let new = c.mark_leaf.new.marks in
    let h : AreMarks l new = c.mark_leaf.ensures in
    let many : length new ≡ marks.len = omega (arith, h.all, c.in_ok-marks.ensures.count, marks.ok.0, ap length c.as_slice.ensures) in
    subst (AreMarks l) (sym (take_at new (drop (length new) marks.items) marks.len many)) h
