use Rattle.std.proofs.Common.{◌≡◌, ◌+◌, ◌==◌, length, refl, ap, subst, ◌∙◌, arith}
use Rattle.hp_io.specs.Limited.{Takes, TakesAtMost}
use Rattle.jd_lines.specs.SourceLines.{LineState, IsHeldTaken, IsRefilled}
use Rattle.jd_lines.proofs.Advanced.{fed-advances, more-so-far, end-advances, takes-later, takes-at-most-later}
use Rattle.jd_lines.proofs.reading.SourceLines.advance.Goals as goal

pub returns-then-branch-clause-advances : goal.returns-then-branch-clause-advances
returns-then-branch-clause-advances g c =
    fed-advances c.args.self.now c.loop-self.self c.take_held.new.self _ _ c.loop-self.invariant.began c.loop-self.invariant.so_far
    (subst (λ fed. IsHeldTaken c.loop-self.self c.take_held.new.self fed) c.if-branch.true c.in_ok-take_held.ensures.taken)

pub returns-in-Err-clause-too_long : goal.returns-in-Err-clause-too_long
returns-in-Err-clause-too_long g c = λ e.
    let left = g.S.Source.left in
    let so = c.loop-self.invariant.so_far in
    takes-later c.args.self.now.within c.loop-self.self.within (left c.args.source.now) (left c.loop-self.source) (left c.refill.new.source) so.bytes so.taken so.within
    (subst (λ n. Takes (n + 1) (left c.loop-self.source) (left c.refill.new.source)) c.in_ok-take_held.ensures.taken.within (c.in-Err.ensures.too_long e))

pub returns-in-Err-clause-stopped : goal.returns-in-Err-clause-stopped
returns-in-Err-clause-stopped g c =
    let left = g.S.Source.left in
    let so = c.loop-self.invariant.so_far in
    takes-at-most-later c.args.self.now.within c.loop-self.self.within (left c.args.source.now) (left c.loop-self.source) (left c.refill.new.source) so.bytes so.taken so.within
    (subst (λ n. TakesAtMost (n + 1) (left c.loop-self.source) (left c.refill.new.source)) c.in_ok-take_held.ensures.taken.within c.in-Err.ensures.stopped)

pub returns-then-not-some-clause-advances : goal.returns-then-not-some-clause-advances
returns-then-not-some-clause-advances g c =
    let left = g.S.Source.left in
    let line = c.self-in-loop-self.inside.line in
    let same : line.len ≡ length line.items = omega (arith, line.ok.0) in
    end-advances c.args.self.now c.loop-self.self c.take_held.new.self c.refill.new.self (left c.args.source.now) (left c.loop-self.source) (left c.refill.new.source) c.loop-self.invariant.so_far
    (subst (λ fed. IsHeldTaken c.loop-self.self c.take_held.new.self fed) c.if-branch.false c.in_ok-take_held.ensures.taken)
    c.is_empty.result (c.is_empty.ensures ∙ ap (λ n. n == 0) same ∙ ap (λ (s : LineState). length s.line == 0) c.self-in-loop-self.view_is)
    c.loop-self.invariant.began
    (subst (λ some. IsRefilled c.take_held.new.self c.refill.new.self (left c.loop-self.source) (left c.refill.new.source) some) c.if-not-some.true c.in-Ok.ensures.refilled)

pub loop-self-preserved : goal.loop-self-preserved
loop-self-preserved g c =
    let left = g.S.Source.left in
    let held = subst (λ fed. IsHeldTaken c.loop-self.self c.take_held.new.self fed) c.if-branch.false c.in_ok-take_held.ensures.taken in
    let read = subst (λ some. IsRefilled c.take_held.new.self c.refill.new.self (left c.loop-self.source) (left c.refill.new.source) some) c.if-not-some.false c.in-Ok.ensures.refilled in
    record {
      began = c.loop-self.invariant.began;
      ended = read.ended;
      so_far = more-so-far c.args.self.now c.loop-self.self c.take_held.new.self c.refill.new.self (left c.args.source.now) (left c.loop-self.source) (left c.refill.new.source) c.loop-self.invariant.so_far held read;
      faults = omega (arith, c.loop-self.invariant.faults, c.in-Ok.ensures.faults);
      later = omega (arith, c.loop-self.invariant.later, c.in-Ok.ensures.calls.later);
      bound = omega (arith, c.loop-self.invariant.bound, c.in-Ok.ensures.calls.bound, read.within, held.within, read.some_held refl);
    }
