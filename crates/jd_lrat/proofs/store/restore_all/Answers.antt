use Rattle.std.proofs.Common.{◌∙◌, ap, length, get_or, true, sym}
use Rattle.std.proofs.lemmas.List.{drop_more}
use Rattle.jd_lrat.specs.IdPlaces.{ids_of}
use Rattle.jd_lrat.specs.Kept.{restored}
use Rattle.jd_lrat.proofs.Restored.{length-with_alive}
use Rattle.jd_lrat.proofs.store.restore_all.Goals as goal

pub loop-id-preserved : goal.loop-id-preserved
loop-id-preserved c =
    let ids = ids_of c.args.ids.now in
    let gone = c.args.gone.now in
    let i = c.loop-id.id-index in
    let ts = c.loop-id.alive.items in
    let id = get_or gone i 0 in
    record {
      as_many = ap length c.restore.ensures ∙ length-with_alive id true ids ts ∙ c.loop-id.invariant.as_many;
      same = rw c.restore.ensures (ap (λ xs. restored ids ts xs) (sym (drop_more gone i 0 c.loop-id-test.true)) ∙ c.loop-id.invariant.same);
    }
