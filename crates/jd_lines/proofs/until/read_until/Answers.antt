use Rattle.std.proofs.Common.{true, false, refl, sym, ap, ◌∙◌, subst, arith}
use Rattle.jd_text.specs.Words.{words_of}
use Rattle.jd_lines.specs.SourceLines.{Advances}
use Rattle.jd_lines.proofs.Advanced.{takes-later, takes-at-most-later, other-result}
use Rattle.jd_lines.proofs.ReadUntil.{reads-first, so-few, one-more-few, read-bad, read-whole, reads-on, read-missing}
use Rattle.jd_lines.proofs.until.read_until.Goals as goal

pub taken-init : goal.taken-init
taken-init g c =
    let with_line = g.R.TakesLines.with_line in
    let state = g.R.TakesLines.state in
    record {
      kept = refl;
      on = reads-first g.R.TakesLines.is_whole c.args.missing (with_line c.args.reader.now) (state c.args.reader.now) c.args.lines.now (g.S.Source.left c.args.source.now);
      faults = omega arith;
      later = omega arith;
      bound = omega arith;
    }

pub returns-in-Err-clause-too_long : goal.returns-in-Err-clause-too_long
returns-in-Err-clause-too_long g c = λ e.
    let left = g.S.Source.left in
    let so = c.taken.invariant.on.taken in
    takes-later c.args.lines.now.within c.taken.lines.within (left c.args.source.now) (left c.taken.source) (left c.advance.new.source) so.bytes so.read.taken so.read.within
    (c.in-Err.ensures.too_long (other-result c.in-Err.stop _ e))

pub returns-in-Err-clause-stopped : goal.returns-in-Err-clause-stopped
returns-in-Err-clause-stopped g c =
    let left = g.S.Source.left in
    let so = c.taken.invariant.on.taken in
    takes-at-most-later c.args.lines.now.within c.taken.lines.within (left c.args.source.now) (left c.taken.source) (left c.advance.new.source) so.bytes so.read.taken so.read.within c.in-Err.ensures.stopped

pub returns-then-not-some-clause-read : goal.returns-then-not-some-clause-read
returns-then-not-some-clause-read g c =
    let left = g.S.Source.left in
    let with_line = g.R.TakesLines.with_line in
    let state = g.R.TakesLines.state in
    read-missing g.R.TakesLines.is_whole c.args.missing (with_line c.args.reader.now) (state c.args.reader.now)
    c.args.lines.now c.taken.lines c.advance.new.self (left c.args.source.now) (left c.taken.source) (left c.advance.new.source) c.taken.count (state c.taken.reader) c.taken.invariant.on (state c.taken.reader)
    (subst (λ some. Advances c.taken.lines c.advance.new.self (left c.taken.source) (left c.advance.new.source) some) c.if-not-some.true c.in-Ok.ensures.advances)

pub overflow_add-result : goal.overflow_add-result
overflow_add-result g c =
    let left = g.S.Source.left in
    let with_line = g.R.TakesLines.with_line in
    let state = g.R.TakesLines.state in
    let few = so-few g.R.TakesLines.is_whole c.args.missing (with_line c.args.reader.now) (state c.args.reader.now) c.args.lines.now c.taken.lines c.advance.new.self (left c.args.source.now) (left c.taken.source) (left c.advance.new.source) c.taken.count (state c.taken.reader) c.taken.invariant.on in
    omega (arith, few, c.requires)

pub overflow_add-count : goal.overflow_add-count
overflow_add-count g c =
    let left = g.S.Source.left in
    let with_line = g.R.TakesLines.with_line in
    let state = g.R.TakesLines.state in
    let few = so-few g.R.TakesLines.is_whole c.args.missing (with_line c.args.reader.now) (state c.args.reader.now) c.args.lines.now c.taken.lines c.advance.new.self (left c.args.source.now) (left c.taken.source) (left c.advance.new.source) c.taken.count (state c.taken.reader) c.taken.invariant.on in
    omega (arith, few, c.requires)

pub returns-in-Err-take_line-clause-read : goal.returns-in-Err-take_line-clause-read
returns-in-Err-take_line-clause-read g c =
    let left = g.S.Source.left in
    let with_line = g.R.TakesLines.with_line in
    let state = g.R.TakesLines.state in
    read-bad g.R.TakesLines.is_whole c.args.missing (with_line c.args.reader.now) (state c.args.reader.now)
    c.args.lines.now c.taken.lines c.advance.new.self (left c.args.source.now) (left c.taken.source) (left c.advance.new.source) c.taken.count (state c.taken.reader) c.taken.invariant.on
    (subst (λ some. Advances c.taken.lines c.advance.new.self (left c.taken.source) (left c.advance.new.source) some) c.if-not-some.false c.in-Ok.ensures.advances)
    (state c.take_line.new.self) c.in-Err-take_line.cause
    (sym (ap (λ take. take (state c.taken.reader) (words_of c.advance.new.self.line)) c.taken.invariant.kept)
    ∙ ap (λ line. with_line c.taken.reader (state c.taken.reader) (words_of line)) (sym c.line.ensures) ∙ c.in-Err-take_line.ensures.takes)

pub returns-then-is_whole-clause-read : goal.returns-then-is_whole-clause-read
returns-then-is_whole-clause-read g c =
    let left = g.S.Source.left in
    let with_line = g.R.TakesLines.with_line in
    let state = g.R.TakesLines.state in
    read-whole g.R.TakesLines.is_whole c.args.missing (with_line c.args.reader.now) (state c.args.reader.now)
    c.args.lines.now c.taken.lines c.advance.new.self (left c.args.source.now) (left c.taken.source) (left c.advance.new.source) c.taken.count (state c.taken.reader) c.taken.invariant.on
    (subst (λ some. Advances c.taken.lines c.advance.new.self (left c.taken.source) (left c.advance.new.source) some) c.if-not-some.false c.in-Ok.ensures.advances)
    (state c.take_line.new.self)
    (sym (ap (λ take. take (state c.taken.reader) (words_of c.advance.new.self.line)) c.taken.invariant.kept)
    ∙ ap (λ line. with_line c.taken.reader (state c.taken.reader) (words_of line)) (sym c.line.ensures) ∙ c.in-Ok-take_line.ensures.takes)
    (sym c.is_whole.ensures ∙ c.if-is_whole.true)

pub taken-smaller : goal.taken-smaller
taken-smaller g c =
    let left = g.S.Source.left in
    let with_line = g.R.TakesLines.with_line in
    let state = g.R.TakesLines.state in
    let few = one-more-few g.R.TakesLines.is_whole c.args.missing (with_line c.args.reader.now) (state c.args.reader.now)
    c.args.lines.now c.taken.lines c.advance.new.self (left c.args.source.now) (left c.taken.source) (left c.advance.new.source) c.taken.count (state c.taken.reader) c.taken.invariant.on
    (subst (λ some. Advances c.taken.lines c.advance.new.self (left c.taken.source) (left c.advance.new.source) some) c.if-not-some.false c.in-Ok.ensures.advances) in
    omega (arith, few)

pub taken-preserved : goal.taken-preserved
taken-preserved g c =
    let left = g.S.Source.left in
    let with_line = g.R.TakesLines.with_line in
    let state = g.R.TakesLines.state in
    record {
      kept = c.in-Ok-take_line.ensures.kept ∙ c.taken.invariant.kept;
      on = reads-on g.R.TakesLines.is_whole c.args.missing (with_line c.args.reader.now) (state c.args.reader.now)
          c.args.lines.now c.taken.lines c.advance.new.self (left c.args.source.now) (left c.taken.source) (left c.advance.new.source) c.taken.count (state c.taken.reader) c.taken.invariant.on
          (subst (λ some. Advances c.taken.lines c.advance.new.self (left c.taken.source) (left c.advance.new.source) some) c.if-not-some.false c.in-Ok.ensures.advances)
          (state c.take_line.new.self)
          (sym (ap (λ take. take (state c.taken.reader) (words_of c.advance.new.self.line)) c.taken.invariant.kept)
          ∙ ap (λ line. with_line c.taken.reader (state c.taken.reader) (words_of line)) (sym c.line.ensures) ∙ c.in-Ok-take_line.ensures.takes)
          (sym c.is_whole.ensures ∙ c.if-is_whole.false);
      faults = omega (arith, c.taken.invariant.faults, c.in-Ok.ensures.faults);
      later = omega (arith, c.taken.invariant.later, c.in-Ok.ensures.calls.later);
      bound = omega (arith, c.taken.invariant.bound, c.in-Ok.ensures.reads);
    }
