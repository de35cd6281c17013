use Rattle.std.proofs.Common.{sym, ◌∙◌, ap, get_or, ◌∷◌, arith, length}
use Rattle.std.specs.Prelude.{slice_range}
use Rattle.jd_lrat.proofs.Cuts.{IsPart, part-read, length-parted}
use Rattle.jd_lrat.proofs.clauses.Clauses.clause.Goals as goal

pub start_of-from-requires : goal.start_of-from-requires
start_of-from-requires c =
    let n = length-parted c.self.inside.literals.items c.self.inside.ends.items c.args.self.now c.self.view_is in
    omega (arith, n, ap length c.as_slice.ensures.value)

pub index-to-requires : goal.index-to-requires
index-to-requires c =
    let n = length-parted c.self.inside.literals.items c.self.inside.ends.items c.args.self.now c.self.view_is in
    omega (arith, n, c.self.inside.ends.ok.0)

part : (c : goal.After-deref) → IsPart c.self.inside.literals.items c.args.self.now c.args.at c.start_of-from.result c.index-to.result.now
part c =
    part-read c.self.inside.literals.items c.self.inside.ends.items c.args.self.now c.args.at c.start_of-from.result c.index-to.result.now c.self.view_is c.self.invariant.0 c.requires
    (c.start_of-from.ensures ∙ ap (λ xs. get_or (0 ∷ xs) c.args.at 0) c.as_slice.ensures.value) c.index-to.ensures

pub offset_bounds-deref-from : goal.offset_bounds-deref-from
offset_bounds-deref-from c = omega (arith, (part c).forward, (part c).within, ap length c.deref.ensures.value)

pub slice_bounds-result-count : goal.slice_bounds-result-count
slice_bounds-result-count c = (part c).forward

pub slice_bounds-result-start : goal.slice_bounds-result-start
slice_bounds-result-start c = (part c).forward

pub slice_bounds-result-end : goal.slice_bounds-result-end
slice_bounds-result-end c = omega (arith, (part c).within, ap length c.deref.ensures.value)

pub returns-clause-clause : goal.returns-clause-clause
returns-clause-clause c =
    let i = c.self.inside in
    let is_from = c.start_of-from.ensures ∙ ap (λ xs. get_or (0 ∷ xs) c.args.at 0) c.as_slice.ensures.value in
    let p = part-read i.literals.items i.ends.items c.args.self.now c.args.at c.start_of-from.result c.index-to.result.now c.self.view_is c.self.invariant.0 c.requires is_from c.index-to.ensures in
    ap (λ xs. slice_range xs c.start_of-from.result c.index-to.result.now) c.deref.ensures.value ∙ sym p.part
