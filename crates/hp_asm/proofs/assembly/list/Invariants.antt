use Rattle.std.proofs.Common.{◌≡◌, ◌*◌, ◌≤◌, length, take}
use Rattle.jd_model.specs.Assembly.{listing}
use Rattle.hp_asm.proofs.assembly.list.Given as goal

abbrev pub invariant-loop-code : goal.invariant-loop-code
invariant-loop-code l = record {
  text : l.text.bytes ≡ listing (take l.code-index l.routine);
  len : length l.text.bytes ≤ 9 * l.code-index;
}
