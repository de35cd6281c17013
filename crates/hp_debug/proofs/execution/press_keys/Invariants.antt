use Rattle.std.proofs.Common.{◌≡◌, ◌-◌, ◌≤◌, length}
use Rattle.jd_text.specs.Places.{words_at}
use Rattle.hp_debug.specs.ScriptLines.{keys_in}
use Rattle.hp_debug.specs.Scripts.{pressed_all}
use Rattle.hp_debug.proofs.execution.press_keys.Given as goal

-- the keys that are left give what all give
abbrev pub invariant-words : goal.invariant-words
invariant-words l = record {
  within : l.at ≤ length l.line;
  same : pressed_all (keys_in (words_at l.line l.at)) l.debugger ≡ pressed_all (keys_in (words_at l.line l.from)) l.fn.debugger;
}

abbrev pub decreases-words : goal.decreases-words
decreases-words l = length l.line - l.at
