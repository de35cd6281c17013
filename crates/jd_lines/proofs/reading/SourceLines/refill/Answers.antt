use Rattle.std.proofs.Common.{◌≡◌, false, ap, ◌∙◌, arith}
use Rattle.jd_lines.specs.SourceLines.{LineState}
use Rattle.jd_lines.proofs.reading.SourceLines.refill.Goals as goal

pub invariant_of-self-in_err-n : goal.invariant_of-self-in_err-n
invariant_of-self-in_err-n g c = (omega arith, λ h. let e : c.self.inside.ended ≡ false = ap (λ (s : LineState). s.ended) c.self.view_is ∙ c.requires in cc)

pub invariant_of-self-then-n-self : goal.invariant_of-self-then-n-self
invariant_of-self-then-n-self g c = (omega arith, λ h. let e : c.self.inside.ended ≡ false = ap (λ (s : LineState). s.ended) c.self.view_is ∙ c.requires in cc)
