use Rattle.std.proofs.Common.{sym, ◌∙◌, subst, rules}
use Rattle.jd_text.specs.Words.{words_of}
use Rattle.jd_trees.specs.Trees.{IsCert}
use Rattle.jd_trees.specs.CertTexts.{Told}
use Rattle.jd_trees.proofs.Forests.{IsRight, first-right, said-stays, whole-right}
use Rattle.jd_cert.specs.Readers.{Reader}
use Rattle.jd_cert.proofs.whole.read_cert.Goals as goal

pub lines-init : goal.lines-init
lines-init c = record {
  within = search rules;
  few = search rules;
  good = search rules;
  right =
      subst (λ (t : Told). IsRight t c.new-reader.result.spot) (sym c.new-kept.ensures)
      (subst (λ (r : Reader). IsRight _ r.spot) (sym c.new-reader.ensures) first-right);
  counted = search rules;
  same = search rules;
}

pub lines-preserved : goal.lines-preserved
lines-preserved c = record {
  within = search rules;
  few = search rules;
  good = search rules;
  right =
      subst (λ (t : Told). IsRight t c.take.new.self.spot) (sym c.in_ok-put.ensures)
      (said-stays c.lines.kept c.lines.reader.spot c.lines.invariant.right (words_of c.in-Some.line.now) (c.in_ok-event.event, c.take.new.self.spot) c.in_ok-event.ensures.said);
  counted = search rules;
  same = search rules;
}

pub new-requires : goal.new-requires
new-requires c =
    subst IsCert (sym c.into_nodes.ensures)
    (whole-right (record { spot = c.lines.reader.spot; told = c.lines.kept }) c.lines.invariant.right (sym c.whole.ensures ∙ c.if-not-whole.false))
