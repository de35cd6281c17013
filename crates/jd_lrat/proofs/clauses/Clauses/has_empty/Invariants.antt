use Rattle.std.proofs.Common.{◌≡◌, take, false}
use Rattle.std.specs.List.{list_any}
use Rattle.jd_logic.specs.Checking.{is_empty}
use Rattle.jd_lrat.proofs.clauses.Clauses.has_empty.Given as goal

abbrev pub invariant-loop-i : goal.invariant-loop-i
invariant-loop-i l = list_any is_empty (take l.i l.self) ≡ false
