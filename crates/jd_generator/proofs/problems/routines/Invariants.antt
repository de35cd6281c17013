use Rattle.std.proofs.Common.{◌≡◌, ◌+◌, ◌-◌, ◌*◌, ◌%◌, ◌≤◌, ◌++◌, length}
use Rattle.jd_generated.specs.Generated.{draws_for, in_first, in_second, routine}
use Rattle.jd_generator.proofs.Drawing.{to_come}
use Rattle.jd_generator.proofs.problems.routines.Given as goal

abbrev pub invariant-loop : goal.invariant-loop
invariant-loop l = record {
  first : l.first ++ to_come in_first (l.end - l.counter) l.state ≡ routine in_first (draws_for l.n);
  second : l.second ++ to_come in_second (l.end - l.counter) l.state ≡ routine in_second (draws_for l.n);
  first_few : length l.first ≤ 2 + 7 * l.counter;
  second_few : length l.second ≤ 2 + 7 * l.counter;
  end : l.end ≡ 1 + l.n % 24;
  inside : l.counter ≤ l.end;
}
