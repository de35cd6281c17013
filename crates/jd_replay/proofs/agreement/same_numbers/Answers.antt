use Rattle.std.proofs.Common.{◌∙◌, sym, arith}
use Rattle.jd_start.specs.Parts.{marks_of}
use Rattle.jd_agreement.proofs.Observed.{same-left, same-stopped, same-at-end}
use Rattle.jd_replay.proofs.agreement.same_numbers.Goals as goal

pub returns-then-not-same_at : goal.returns-then-not-same_at
returns-then-not-same_at c =
    same-stopped (marks_of c.args.observed.now) c.args.first.now c.args.second.now c.loop-place.place _ _
    (omega arith) (omega arith) c.same_at.ensures c.if-not-same_at.true c.loop-place.invariant

pub loop-place-preserved : goal.loop-place-preserved
loop-place-preserved c =
    same-left (marks_of c.args.observed.now) c.args.first.now c.args.second.now c.loop-place.place _ _
    (omega arith) (omega arith) c.same_at.ensures c.if-not-same_at.false c.loop-place.invariant

pub returns : goal.returns
returns c =
    sym (same-at-end (marks_of c.args.observed.now) c.args.first.now c.args.second.now c.loop-place.place (omega arith)) ∙ c.loop-place.invariant
