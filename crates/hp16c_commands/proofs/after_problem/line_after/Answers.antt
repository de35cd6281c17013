use Rattle.std.proofs.Common.{arith}
use Rattle.std.proofs.lemmas.List.{length-take}
use Rattle.jd_lines.proofs.LinesTaken.{lines-few}
use Rattle.hp16c_commands.proofs.after_problem.line_after.Goals as goal

pub overflow_add-result : goal.overflow_add-result
overflow_add-result c = omega (arith, lines-few, length-take c.args.count c.args.bytes.now)
