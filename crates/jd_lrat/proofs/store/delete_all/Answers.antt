use Rattle.std.proofs.Common.{◌∙◌, ap, length, get_or, false, refl}
use Rattle.jd_lrat.specs.IdPlaces.{ids_of}
use Rattle.jd_lrat.proofs.Restored.{delete-back, delete-turn, length-with_alive}
use Rattle.jd_lrat.proofs.store.delete_all.Goals as goal

pub loop-i-preserved : goal.loop-i-preserved
loop-i-preserved c =
    let h = c.if-not-delete.ensures in
    let ids = ids_of c.args.ids.now in
    let gone = c.args.gone.now in
    let i = c.loop-i.i in
    let id = get_or gone i 0 in
    let ts = c.loop-i.alive.items in
    let us = c.delete.new.alive.items in
    let v = c.loop-i.invariant in
    record {
      as_many = ap length h.gone ∙ length-with_alive id false ids ts ∙ v.as_many;
      before = delete-back ids c.args.alive.now.items ts us gone i id c.loop-i-test.true refl h v.before;
      rest = delete-turn ids c.args.alive.now.items ts us gone i id c.loop-i-test.true refl h v.rest;
    }
