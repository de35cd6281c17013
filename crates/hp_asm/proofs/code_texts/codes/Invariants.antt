use Rattle.std.proofs.Common.{◌≡◌, ◌*◌, ◌≤◌, length, take, map}
use Rattle.std.specs.List.{join_with_byte}
use Rattle.jd_model.specs.Assembly.{code_text}
use Rattle.hp_asm.proofs.code_texts.codes.Given as goal

abbrev pub invariant-loop-i : goal.invariant-loop-i
invariant-loop-i l = record {
  text : l.text.bytes ≡ join_with_byte 32 (map code_text (take l.i l.codes));
  len : length l.text.bytes ≤ 3 * l.i;
}
