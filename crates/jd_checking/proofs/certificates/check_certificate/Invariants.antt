use Rattle.std.proofs.Common.{◌+◌, ◌-◌, ◌≤◌, length}
use Rattle.jd_problem.specs.Problems.{problem_of}
use Rattle.jd_lines.specs.SourceLines.{reads_left}
use Rattle.jd_check.specs.Runs.{IsChecking}
use Rattle.jd_checking.proofs.CertSoFar.{IsSoFar}
use Rattle.jd_checking.proofs.certificates.check_certificate.Given as goal

abbrev pub invariant-taken : goal.invariant-taken
invariant-taken g l =
    let left = g.S.Source.left in
    let calls = g.S.Source.calls in
    record {
      so : IsSoFar (λ events. IsChecking (problem_of l.problem) events l.check) l.fn.lines l.lines (left l.fn.source) (left l.source) l.reader;
      faults : g.S.Source.faults l.fn.source ≤ g.S.Source.faults l.source;
      later : calls l.fn.source ≤ calls l.source;
      bound : calls l.source + reads_left l.lines ≤ calls l.fn.source + reads_left l.fn.lines;
    }

abbrev pub decreases-taken : goal.decreases-taken
decreases-taken g l = (length l.fn.lines.held + l.fn.lines.within) - l.reader.lines
