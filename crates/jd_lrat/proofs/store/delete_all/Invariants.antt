use Rattle.std.proofs.Common.{◌≡◌, take, length}
use Rattle.jd_lrat.specs.IdPlaces.{ids_of}
use Rattle.jd_lrat.specs.Kept.{restored}
use Rattle.jd_lrat.proofs.Restored.{AsFirst}
use Rattle.jd_lrat.proofs.store.delete_all.Given as goal

abbrev pub invariant-loop-i : goal.invariant-loop-i
invariant-loop-i l = record {
  as_many : length l.alive.items ≡ length l.initial.alive.items;
  before : restored (ids_of l.ids) l.alive.items (take l.i l.gone) ≡ l.initial.alive.items;
  rest : AsFirst (ids_of l.ids) l.initial.alive.items l.gone l.alive.items l.i;
}
