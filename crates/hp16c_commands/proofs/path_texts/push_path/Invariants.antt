use Rattle.std.proofs.Common.{◌≡◌, ◌++◌, map, take}
use Rattle.std.specs.String.{string_bytes}
use Rattle.hp16c_commands.specs.PathTexts.{answer_code}
use Rattle.hp16c_commands.proofs.path_texts.push_path.Given as goal

abbrev pub invariant-loop-yes : goal.invariant-loop-yes
invariant-loop-yes l = string_bytes l.text ≡ string_bytes l.initial.text ++ map answer_code (take l.yes-index l.path)
