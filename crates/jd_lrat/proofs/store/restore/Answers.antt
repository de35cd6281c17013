use Rattle.std.proofs.Common.{sym, true}
use Rattle.jd_lrat.specs.IdPlaces.{ids_of}
use Rattle.jd_lrat.proofs.Restored.{set-with_alive, with_alive-absent}
use Rattle.jd_lrat.proofs.store.restore.Goals as goal

pub returns-in-Some : goal.returns-in-Some
returns-in-Some c = set-with_alive (ids_of c.args.ids.now) c.args.alive.now.items c.args.id c.in-Some.i true c.requires.ascending c.in-Some.ensures

pub returns-in_default : goal.returns-in_default
returns-in_default c = sym (with_alive-absent (ids_of c.args.ids.now) c.args.alive.now.items c.args.id true c.in_default.ensures)
