use Rattle.std.proofs.Common.{sym, ◌∙◌}
use Rattle.hp_run.proofs.presses.press_command.Goals as goal

pub invariant_of-calculator : goal.invariant_of-calculator
invariant_of-calculator c =
    let done = c.do_command-calculator.ensures in
    record {
      blocks_fit = done.blocks;
      line_inside = λ programming. done.inside (sym c.program_after-calculator.ensures ∙ programming);
    }
