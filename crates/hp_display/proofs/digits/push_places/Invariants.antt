use Rattle.std.proofs.Common.{◌≡◌, ◌+◌, ◌-◌, ◌^◌, ◌≤◌, ◌++◌}
use Rattle.hp_model.specs.Display.{places_text}
use Rattle.arrayvec.specs.ArrayString.{array_string_len}
use Rattle.hp_display.proofs.digits.push_places.Given as goal

-- what was written, and the places that are left, are all eight
abbrev pub invariant-loop-j : goal.invariant-loop-j
invariant-loop-j l = record {
  so_far : l.text.bytes ++ places_text (2 ^ l.bits) l.filled l.n l.first (8 - l.j) ≡ l.fn.text.bytes ++ places_text (2 ^ l.bits) l.filled l.n l.first 8;
  len : array_string_len l.text ≤ array_string_len l.fn.text + l.j;
}
