use Rattle.std.proofs.Common.{arith}
use Rattle.hp_display.proofs.Powers.{places_step}
use Rattle.hp_display.proofs.digits.push_places.Goals as goal

pub loop-j-preserved : goal.loop-j-preserved
loop-j-preserved c = record {
  so_far = places_step _ _ _ _ c.loop-j.j _ _ _ (omega arith) c.loop-j.invariant.so_far c.push_place.ensures.text;
  len = omega (arith, c.loop-j.invariant.len, c.push_place.ensures.len);
}
