use Rattle.std.proofs.Common.{◌≡◌, ◌+◌, ◌*◌, ◌≤◌, ◌++◌, drop}
use Rattle.arrayvec.specs.ArrayString.{array_string_len}
use Rattle.jd_model.specs.ProblemWriter.{chosen}
use Rattle.jd_model.specs.Seen.{part_words}
use Rattle.jd_start.specs.Parts.{marks_of}
use Rattle.jd_start.specs.Starts.{start_data}
use Rattle.jd_replay.specs.Phrases.{phrases}
use Rattle.jd_replay.proofs.seen_line.push_parts.Given as goal

-- with the phrases that are left the text is whole
abbrev pub invariant-loop-place : goal.invariant-loop-place
invariant-loop-place l = record {
  text : l.text.bytes ++ phrases (chosen (drop l.place (marks_of l.observed)) (drop l.place (part_words (start_data l.start))))
      ≡ l.initial.text.bytes ++ phrases (chosen (marks_of l.observed) (part_words (start_data l.start)));
  len : array_string_len l.text ≤ array_string_len l.initial.text + 20 * l.place;
}
