use Rattle.std.proofs.Common.{◌≡◌, ◌-◌, is_some}
use Rattle.hp_model.specs.Lists.{first_from}
use Rattle.jd_model.specs.Assembly.{begins_code, begins_text}
use Rattle.hp_asm.proofs.operations.begins_text.Given as goal

-- what is left of the search gives what the whole gives
abbrev pub invariant-loop-code : goal.invariant-loop-code
invariant-loop-code l = is_some (first_from (begins_code l.word) l.code (225 - l.code)) ≡ begins_text l.word
