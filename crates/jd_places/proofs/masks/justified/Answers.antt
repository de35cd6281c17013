use Rattle.std.proofs.Common.{◌*◌, ◌^◌, ap, ◌∙◌}
use Rattle.jd_vectors.specs.Number.{number}
use Rattle.jd_rows.proofs.Tops.{small}
use Rattle.jd_turns.proofs.LeftShifts.{shifts_are}
use Rattle.jd_places.proofs.masks.justified.Goals as goal

pub returns-clause-places : goal.returns-clause-places
returns-clause-places g c = λ val s.
    shifts_are _ _ _ _ c.requires.some (small val _ _ c.in_ok-count.ensures.length) (c.in_ok-count.ensures.number val s)

pub returns-clause-word : goal.returns-clause-word
returns-clause-word g c = λ val s.
    let j = c.in_ok-count.ensures.number val s in
    j.moved ∙ ap (λ n. number val c.args.x.now * 2 ^ n) (shifts_are _ _ _ _ c.requires.some (small val _ _ c.in_ok-count.ensures.length) j)
