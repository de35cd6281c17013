use Rattle.std.proofs.Common.{◌≡◌, drop, length}
use Rattle.jd_lrat.specs.IdPlaces.{ids_of}
use Rattle.jd_lrat.specs.Kept.{restored}
use Rattle.jd_lrat.proofs.store.restore_all.Given as goal

abbrev pub invariant-loop-id : goal.invariant-loop-id
invariant-loop-id l = record {
  as_many : length l.alive.items ≡ length (ids_of l.ids);
  same : restored (ids_of l.ids) l.alive.items (drop l.id-index l.gone) ≡ restored (ids_of l.ids) l.initial.alive.items l.gone;
}
