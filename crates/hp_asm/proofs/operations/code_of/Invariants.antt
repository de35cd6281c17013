use Rattle.std.proofs.Common.{◌≡◌, ◌-◌}
use Rattle.hp_model.specs.Lists.{first_from}
use Rattle.jd_text.specs.Words.{words_of}
use Rattle.jd_model.specs.Assembly.{is_code_text, code_of_words}
use Rattle.hp_asm.proofs.operations.code_of.Given as goal

-- what is left of the search gives what the whole gives
abbrev pub invariant-loop-code : goal.invariant-loop-code
invariant-loop-code l = first_from (is_code_text (words_of l.line)) l.code (225 - l.code) ≡ code_of_words (words_of l.line)
