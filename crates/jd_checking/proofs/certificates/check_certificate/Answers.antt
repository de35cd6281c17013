use Rattle.std.proofs.Common.{[], ◌∷◌, ◌++◌, map, sym, ap, subst, arith}
use Rattle.std.specs.Prelude.{Err}
use Rattle.jd_text.specs.Words.{words_of}
use Rattle.jd_problem.specs.Problems.{problem_of}
use Rattle.jd_lines.specs.SourceLines.{Advances}
use Rattle.jd_cert.specs.declared.faults.CertFault.TheVariants.{Syntax}
use Rattle.jd_check.specs.Runs.{IsChecking}
use Rattle.jd_checking.specs.CertChecks.{HasTaken, IsLineFault, IsRestChecked}
use Rattle.jd_checking.proofs.CertLinesTaken.{nothing-yet}
use Rattle.jd_checking.proofs.CertSoFar.{so-none, so-more, one-more, counted-more, few, rest-fault, rest-whole}
use Rattle.jd_checking.proofs.Costing.{costs-no-memory, costs-stop, read-spent, then-spent}
use Rattle.jd_checking.proofs.certificates.check_certificate.Goals as goal

pub taken-init : goal.taken-init
taken-init g c = record {
  so = so-none (λ events. IsChecking (problem_of c.args.problem.now) events c.in-Ok.check) c.args.lines.now (g.S.Source.left c.args.source.now) c.new-reader.result
      (nothing-yet (λ events. IsChecking (problem_of c.args.problem.now) events c.in-Ok.check) c.new-reader.result c.new-reader.ensures c.in-Ok.ensures.checking);
  faults = omega arith;
  later = omega arith;
  bound = omega arith;
}

pub returns-in-Err-advance-clause-costs : goal.returns-in-Err-advance-clause-costs
returns-in-Err-advance-clause-costs g c =
    let left = g.S.Source.left in
    let faults = g.S.Source.faults in
    let calls = g.S.Source.calls in
    costs-stop c.args.lines.now c.taken.lines (left c.args.source.now) (left c.taken.source) (faults c.args.source.now) (faults c.taken.source) (calls c.args.source.now) (calls c.taken.source)
    (read-spent c.args.lines.now c.taken.lines (left c.args.source.now) (left c.taken.source) c.taken.invariant.so.taken.bytes (faults c.args.source.now) (faults c.taken.source) (calls c.args.source.now) (calls c.taken.source)
    c.taken.invariant.so.taken.read c.taken.invariant.faults c.taken.invariant.later c.taken.invariant.bound)
    c.advance.new.self (left c.advance.new.source) (faults c.advance.new.source) (calls c.advance.new.source) c.in-Err-advance.stop
    (λ e. c.in-Err-advance.ensures.too_long (ap (λ s. Err s) e)) c.in-Err-advance.ensures.stopped (λ e. c.in-Err-advance.ensures.failed (ap (λ s. Err s) e))
    c.in-Err-advance.ensures.faults c.in-Err-advance.ensures.calls

pub take_line-requires : goal.take_line-requires
take_line-requires g c =
    let left = g.S.Source.left in
    let faults = g.S.Source.faults in
    let calls = g.S.Source.calls in
    let few = one-more (λ events. IsChecking (problem_of c.args.problem.now) events c.taken.check) c.args.lines.now c.taken.lines c.advance.new.self (left c.args.source.now) (left c.taken.source) (left c.advance.new.source)
    c.taken.reader c.taken.invariant.so
    (subst (λ some. Advances c.taken.lines c.advance.new.self (left c.taken.source) (left c.advance.new.source) some) c.if-not-some.false c.in-Ok-advance.ensures.advances) in
    omega (arith, few, c.requires)

pub taken-smaller : goal.taken-smaller
taken-smaller g c =
    let left = g.S.Source.left in
    let faults = g.S.Source.faults in
    let calls = g.S.Source.calls in
    let few = one-more (λ events. IsChecking (problem_of c.args.problem.now) events c.taken.check) c.args.lines.now c.taken.lines c.advance.new.self (left c.args.source.now) (left c.taken.source) (left c.advance.new.source)
    c.taken.reader c.taken.invariant.so
    (subst (λ some. Advances c.taken.lines c.advance.new.self (left c.taken.source) (left c.advance.new.source) some) c.if-not-some.false c.in-Ok-advance.ensures.advances) in
    let more = counted-more (λ events. IsChecking (problem_of c.args.problem.now) events c.taken.check) c.args.lines.now c.taken.lines c.advance.new.self (left c.args.source.now) (left c.taken.source) (left c.advance.new.source)
    c.taken.reader c.taken.invariant.so (λ events. IsChecking (problem_of c.args.problem.now) events c.take_line.new.run) c.take_line.new.reader
    (subst (λ line. HasTaken (λ events. IsChecking (problem_of c.args.problem.now) events c.take_line.new.run) (map words_of c.taken.invariant.so.lines ++ words_of line ∷ []) c.take_line.new.reader) c.line.ensures
    (c.in-Ok-take_line.ensures.taken (problem_of c.args.problem.now) (map words_of c.taken.invariant.so.lines) c.taken.invariant.so.checks)) in
    omega (arith, few, more)

pub taken-preserved : goal.taken-preserved
taken-preserved g c =
    let left = g.S.Source.left in
    let faults = g.S.Source.faults in
    let calls = g.S.Source.calls in
    record {
      so = so-more (λ events. IsChecking (problem_of c.args.problem.now) events c.taken.check) c.args.lines.now c.taken.lines c.advance.new.self (left c.args.source.now) (left c.taken.source) (left c.advance.new.source)
          c.taken.reader c.taken.invariant.so
          (subst (λ some. Advances c.taken.lines c.advance.new.self (left c.taken.source) (left c.advance.new.source) some) c.if-not-some.false c.in-Ok-advance.ensures.advances)
          (λ events. IsChecking (problem_of c.args.problem.now) events c.take_line.new.run) c.take_line.new.reader
          (subst (λ line. HasTaken (λ events. IsChecking (problem_of c.args.problem.now) events c.take_line.new.run) (map words_of c.taken.invariant.so.lines ++ words_of line ∷ []) c.take_line.new.reader) c.line.ensures
          (c.in-Ok-take_line.ensures.taken (problem_of c.args.problem.now) (map words_of c.taken.invariant.so.lines) c.taken.invariant.so.checks));
      faults = omega (arith, c.taken.invariant.faults, c.in-Ok-advance.ensures.faults);
      later = omega (arith, c.taken.invariant.later, c.in-Ok-advance.ensures.calls.later);
      bound = omega (arith, c.taken.invariant.bound, c.in-Ok-advance.ensures.reads);
    }

pub returns-in-Err-Syntax-clause-answer : goal.returns-in-Err-Syntax-clause-answer
returns-in-Err-Syntax-clause-answer g c =
    let left = g.S.Source.left in
    let faults = g.S.Source.faults in
    let calls = g.S.Source.calls in
    subst (λ n. IsRestChecked (problem_of c.args.problem.now) c.args.lines.now c.advance.new.self (left c.args.source.now) (left c.advance.new.source) (Err n)) (sym c.in-Err-Syntax.line-is)
    (rest-fault (λ events. IsChecking (problem_of c.args.problem.now) events c.taken.check) c.args.lines.now c.taken.lines c.advance.new.self (left c.args.source.now) (left c.taken.source) (left c.advance.new.source)
    c.taken.reader c.taken.invariant.so
    (subst (λ some. Advances c.taken.lines c.advance.new.self (left c.taken.source) (left c.advance.new.source) some) c.if-not-some.false c.in-Ok-advance.ensures.advances) (problem_of c.args.problem.now) c.in-Err-Syntax.line
    (subst (λ line. IsLineFault (map words_of c.taken.invariant.so.lines) (words_of line) (Syntax c.in-Err-Syntax.line)) c.line.ensures
    (subst (IsLineFault (map words_of c.taken.invariant.so.lines) (words_of c.line.result.now)) c.in-Err-Syntax.field-0-is
    (c.in-Err-Syntax.ensures.fault (problem_of c.args.problem.now) (map words_of c.taken.invariant.so.lines) c.taken.invariant.so.checks))))

pub returns-in-Err-NoMemory-clause-costs : goal.returns-in-Err-NoMemory-clause-costs
returns-in-Err-NoMemory-clause-costs g c =
    let left = g.S.Source.left in
    let faults = g.S.Source.faults in
    let calls = g.S.Source.calls in
    costs-no-memory c.args.lines.now c.advance.new.self (left c.args.source.now) (left c.advance.new.source) (faults c.args.source.now) (faults c.advance.new.source) (calls c.args.source.now) (calls c.advance.new.source)
    (then-spent c.args.lines.now c.taken.lines c.advance.new.self (left c.args.source.now) (left c.taken.source) (left c.advance.new.source) c.in-Ok-advance.some
    (faults c.args.source.now) (faults c.taken.source) (faults c.advance.new.source) (calls c.args.source.now) (calls c.taken.source) (calls c.advance.new.source)
    (read-spent c.args.lines.now c.taken.lines (left c.args.source.now) (left c.taken.source) c.taken.invariant.so.taken.bytes (faults c.args.source.now) (faults c.taken.source) (calls c.args.source.now) (calls c.taken.source)
    c.taken.invariant.so.taken.read c.taken.invariant.faults c.taken.invariant.later c.taken.invariant.bound)
    c.in-Ok-advance.ensures.advances c.in-Ok-advance.ensures.faults c.in-Ok-advance.ensures.calls.later c.in-Ok-advance.ensures.reads)

pub finish-requires : goal.finish-requires
finish-requires g c =
    let left = g.S.Source.left in
    let faults = g.S.Source.faults in
    let calls = g.S.Source.calls in
    let most = few (λ events. IsChecking (problem_of c.args.problem.now) events c.taken.check) c.args.lines.now c.taken.lines c.advance.new.self (left c.args.source.now) (left c.taken.source) (left c.advance.new.source)
    c.taken.reader c.taken.invariant.so in
    omega (arith, most, c.requires)

pub returns-in-Ok-finish-clause-answer : goal.returns-in-Ok-finish-clause-answer
returns-in-Ok-finish-clause-answer g c =
    let left = g.S.Source.left in
    let faults = g.S.Source.faults in
    let calls = g.S.Source.calls in
    rest-whole (λ events. IsChecking (problem_of c.args.problem.now) events c.taken.check) c.args.lines.now c.taken.lines c.advance.new.self (left c.args.source.now) (left c.taken.source) (left c.advance.new.source)
    c.taken.reader c.taken.invariant.so
    (problem_of c.args.problem.now)
    (subst (λ some. Advances c.taken.lines c.advance.new.self (left c.taken.source) (left c.advance.new.source) some) c.if-not-some.true c.in-Ok-advance.ensures.advances) c.in-Ok-finish.answer
    (c.in-Ok-finish.ensures (problem_of c.args.problem.now) (map words_of c.taken.invariant.so.lines) c.taken.invariant.so.checks)

pub returns-in-Err-finish-clause-costs : goal.returns-in-Err-finish-clause-costs
returns-in-Err-finish-clause-costs g c =
    let left = g.S.Source.left in
    let faults = g.S.Source.faults in
    let calls = g.S.Source.calls in
    costs-no-memory c.args.lines.now c.advance.new.self (left c.args.source.now) (left c.advance.new.source) (faults c.args.source.now) (faults c.advance.new.source) (calls c.args.source.now) (calls c.advance.new.source)
    (then-spent c.args.lines.now c.taken.lines c.advance.new.self (left c.args.source.now) (left c.taken.source) (left c.advance.new.source) c.in-Ok-advance.some
    (faults c.args.source.now) (faults c.taken.source) (faults c.advance.new.source) (calls c.args.source.now) (calls c.taken.source) (calls c.advance.new.source)
    (read-spent c.args.lines.now c.taken.lines (left c.args.source.now) (left c.taken.source) c.taken.invariant.so.taken.bytes (faults c.args.source.now) (faults c.taken.source) (calls c.args.source.now) (calls c.taken.source)
    c.taken.invariant.so.taken.read c.taken.invariant.faults c.taken.invariant.later c.taken.invariant.bound)
    c.in-Ok-advance.ensures.advances c.in-Ok-advance.ensures.faults c.in-Ok-advance.ensures.calls.later c.in-Ok-advance.ensures.reads)
