use Rattle.std.proofs.Common.{◌≡◌, ◌-◌, ◌≤◌, length, false, replicate}
use Rattle.jd_text.specs.Words.{words_of}
use Rattle.jd_text.specs.Places.{words_at}
use Rattle.jd_start.specs.Parts.{marks_of}
use Rattle.jd_problem.proofs.Observed.{observed_in}
use Rattle.jd_problem.proofs.line_words.observed_parts.Given as goal

-- the words that are left give what all give
abbrev pub invariant-words : goal.invariant-words
invariant-words l = record {
  within : l.at ≤ length l.line;
  same : observed_in (marks_of l.parts) l.twice (words_at l.line l.at) ≡ observed_in (replicate 13 false) false (words_of l.line);
}

abbrev pub decreases-words : goal.decreases-words
decreases-words l = length l.initial.line - l.at
