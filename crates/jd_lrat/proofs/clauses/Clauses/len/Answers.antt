use Rattle.std.proofs.Common.{sym, ◌∙◌}
use Rattle.jd_lrat.proofs.Cuts.{length-parted}
use Rattle.jd_lrat.proofs.clauses.Clauses.len.Goals as goal

pub returns : goal.returns
returns c =
    let i = c.self.inside in
    c.len.ensures ∙ i.ends.ok.0 ∙ sym (length-parted i.literals.items i.ends.items c.args.self.now c.self.view_is)
