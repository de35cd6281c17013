use Rattle.std.proofs.Common.{◌≡◌, drop}
use Rattle.hp_model.specs.WrittenNibbles.{pressed_all}
use Rattle.hp_run.specs.Seen.{calculator_of}
use Rattle.hp_run.proofs.presses.press_all.Given as goal

-- the keys that are left give what all give
abbrev pub invariant-loop-key : goal.invariant-loop-key
invariant-loop-key l = pressed_all (drop l.key-index l.keys) (calculator_of l.calculator) ≡ pressed_all l.keys (calculator_of l.fn.calculator)
