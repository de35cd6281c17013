use Rattle.std.proofs.Common.{◌≡◌, ◌-◌, length}
use Rattle.jd_model.specs.StartTexts.{filled_up}
use Rattle.jd_problem.proofs.start_lines.fill_up.Given as goal

-- more zeros at the end come to the same
abbrev pub invariant-zeros : goal.invariant-zeros
invariant-zeros l = filled_up l.count l.nibbles ≡ filled_up l.count l.initial.nibbles

abbrev pub decreases-zeros : goal.decreases-zeros
decreases-zeros l = l.count - length l.nibbles
