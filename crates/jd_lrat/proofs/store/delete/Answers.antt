use Rattle.std.proofs.Common.{false, arith}
use Rattle.std.proofs.lemmas.List.{get_or_read}
use Rattle.jd_lrat.specs.IdPlaces.{ids_of}
use Rattle.jd_lrat.proofs.Restored.{deletes_or_lacks, lacks-absent}
use Rattle.jd_lrat.proofs.store.delete.Goals as goal

pub returns-in-None : goal.returns-in-None
returns-in-None c = lacks-absent (ids_of c.args.ids.now) c.args.alive.now.items c.args.id c.in-None.ensures

pub returns-in-Some : goal.returns-in-Some
returns-in-Some c =
    let p = c.in-Some.ensures in
    let ts = c.args.alive.now.items in
    let t = c.index-was_alive.result.now in
    deletes_or_lacks (ids_of c.args.ids.now) ts c.args.id c.in-Some.i t c.requires.ascending c.requires.flags p
    (get_or_read ts c.in-Some.i t (omega (arith, c.requires.flags, p.0)) c.index-was_alive.ensures false)
