use Rattle.std.proofs.Common.{true, refl, subst, arith}
use Rattle.jd_lines.specs.SourceLines.{IsRefilled}
use Rattle.jd_lines.proofs.Advanced.{other-result, takes-later, takes-at-most-later, skipped-more}
use Rattle.jd_lines.proofs.reading.SourceLines.skip.Goals as goal

pub returns-in-Err-clause-too_long : goal.returns-in-Err-clause-too_long
returns-in-Err-clause-too_long g c = λ e.
    let left = g.S.Source.left in
    let so = c.loop-some.invariant.so_far in
    takes-later c.args.self.now.within c.loop-some.self.within (left c.args.source.now) (left c.loop-some.source) (left c.refill.new.source) so.bytes so.taken so.within (c.in-Err.ensures.too_long (other-result c.in-Err.stop _ e))

pub returns-in-Err-clause-stopped : goal.returns-in-Err-clause-stopped
returns-in-Err-clause-stopped g c =
    let left = g.S.Source.left in
    let so = c.loop-some.invariant.so_far in
    takes-at-most-later c.args.self.now.within c.loop-some.self.within (left c.args.source.now) (left c.loop-some.source) (left c.refill.new.source) so.bytes so.taken so.within c.in-Err.ensures.stopped

pub loop-some-preserved : goal.loop-some-preserved
loop-some-preserved g c =
    let left = g.S.Source.left in
    let read = subst (λ some. IsRefilled c.loop-some.self c.refill.new.self (left c.loop-some.source) (left c.refill.new.source) some) c.if-not-some.false c.in-Ok.ensures.refilled in
    record {
      began = c.loop-some.invariant.began;
      ended = read.ended;
      so_far = skipped-more c.args.self.now c.loop-some.self c.refill.new.self (left c.args.source.now) (left c.loop-some.source) (left c.refill.new.source) true c.loop-some.invariant.so_far read;
      faults = omega (arith, c.loop-some.invariant.faults, c.in-Ok.ensures.faults);
      later = omega (arith, c.loop-some.invariant.later, c.in-Ok.ensures.calls.later);
      bound = omega (arith, c.loop-some.invariant.bound, c.in-Ok.ensures.calls.bound, read.within, read.some_held refl);
    }
