use Rattle.std.proofs.Common.{◌≡◌, ◌-◌, ◌≤◌, length}
use Rattle.jd_text.specs.Words.{words_of, are_texts}
use Rattle.jd_text.specs.Places.{words_at}
use Rattle.hp_asm.proofs.operations.are_words.Given as goal

-- the words that are left are the same where all are
abbrev pub invariant-words : goal.invariant-words
invariant-words l = record {
  text_within : l.at ≤ length l.text;
  line_within : l.i ≤ length l.line;
  same : are_texts (words_at l.text l.at) (words_at l.line l.i) ≡ are_texts (words_of l.text) (words_of l.line);
}

abbrev pub decreases-words : goal.decreases-words
decreases-words l = length l.initial.text - l.at
