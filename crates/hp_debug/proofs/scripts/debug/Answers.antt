use Rattle.std.proofs.Common.{ap, ◌∙◌}
use Rattle.hp_model.specs.Press.{Calculator}
use Rattle.hp_debug.specs.Debuggers.{new_debugger}
use Rattle.hp_debug.proofs.ScriptOutput.{wrote-all, wrote-part}
use Rattle.hp_debug.proofs.scripts.debug.Goals as goal

pub returns-in-Ok-do_lines-clause-debugged : goal.returns-in-Ok-do_lines-clause-debugged
returns-in-Ok-do_lines-clause-debugged g c =
    wrote-all c.args.bytes.now _ _ _ _ c.in_default.ensures.takes (c.in-Ok.ensures ∙ ap (λ (s : Calculator). new_debugger s 256) c.new.ensures) c.in-Ok-do_lines.ensures.whole

pub returns-clause-debugged : goal.returns-clause-debugged
returns-clause-debugged g c =
    wrote-part c.args.bytes.now _ _ _ _ c.in_default.ensures.takes (c.in-Ok.ensures ∙ ap (λ (s : Calculator). new_debugger s 256) c.new.ensures) c.do_lines.ensures.part
