use Rattle.std.proofs.Common.{◌≡◌, ◌-◌, ◌≤◌, length}
use Rattle.jd_text.specs.Words.{words_of}
use Rattle.jd_text.specs.Places.{words_at}
use Rattle.jd_model.specs.Assembly.{with_codes}
use Rattle.hp_asm.proofs.code_texts.CodeLinesTakesLines.take_line.Given as goal

-- the words that are left give what all give
abbrev pub invariant-words : goal.invariant-words
invariant-words l = record {
  within : l.at ≤ length l.line;
  same : with_codes l.self.routine (words_at l.line l.at) ≡ with_codes l.initial.self.routine (words_of l.line);
}

abbrev pub decreases-words : goal.decreases-words
decreases-words l = length l.initial.line - l.at
