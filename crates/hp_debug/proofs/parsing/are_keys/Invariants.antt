use Rattle.std.proofs.Common.{◌≡◌, ◌-◌, ◌≤◌, length}
use Rattle.jd_text.specs.Places.{words_at}
use Rattle.hp_debug.specs.ScriptLines.{are_key_words}
use Rattle.hp_debug.proofs.parsing.are_keys.Given as goal

-- the words that are left decide
abbrev pub invariant-words : goal.invariant-words
invariant-words l = record {
  within : l.at ≤ length l.line;
  same : are_key_words (words_at l.line l.at) ≡ are_key_words (words_at l.line l.from);
}

abbrev pub decreases-words : goal.decreases-words
decreases-words l = length l.line - l.at
