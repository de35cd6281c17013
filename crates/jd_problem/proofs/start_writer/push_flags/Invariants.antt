use Rattle.std.proofs.Common.{◌≡◌, ◌+◌, ◌-◌, ◌≤◌, ◌++◌, take}
use Rattle.arrayvec.specs.ArrayString.{array_string_len}
use Rattle.jd_model.specs.StartTexts.{flags_text}
use Rattle.jd_problem.proofs.start_writer.push_flags.Given as goal

-- with the flags that are left the text is whole
abbrev pub invariant-loop-place : goal.invariant-loop-place
invariant-loop-place l = record {
  text : l.text.bytes ++ flags_text (take (6 - l.place) l.flags) ≡ l.initial.text.bytes ++ flags_text l.flags;
  len : array_string_len l.text ≤ array_string_len l.initial.text + l.place;
}
