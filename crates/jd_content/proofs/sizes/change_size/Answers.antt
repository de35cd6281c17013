use Rattle.std.proofs.Common.{◌==◌, ap, ◌∙◌}
use Rattle.std.specs.Prelude.{if◌then◌else◌}
use Rattle.hp_model.specs.DataStep.{with_size, with_x, dropped}
use Rattle.jd_content.specs.Meaning.{data_on}
use Rattle.jd_content.proofs.Told.{size_told}
use Rattle.jd_content.proofs.sizes.change_size.Goals as goal

pub returns-clause-meaning : goal.returns-clause-meaning
returns-clause-meaning c = λ k val e.
    let d = data_on val c.args.content.now in
    let told = size_told k d c.args.given.now e c.requires.first in
    let size = c.size_given-size.ensures ∙ ap (λ n. if n == 0 then 64 else n) told in
    rw (c.resized-content.ensures.number val, c.resized-content-2.ensures.number val, c.resized-content-3.ensures.number val, c.resized-content-4.ensures.number val, c.resized-content-5.ensures.number val)
    (ap (λ w. with_size w (with_x d.y (dropped d))) size)

pub returns-clause-fits : goal.returns-clause-fits
returns-clause-fits c = λ n w h. record {
  x = record { size = c.resized-content.ensures.length ∙ c.size_given-size.ensures; inside = c.resized-content.ensures.inside n h.y.inside };
  y = record { size = c.resized-content-2.ensures.length ∙ c.size_given-size.ensures; inside = c.resized-content-2.ensures.inside n h.z.inside };
  z = record { size = c.resized-content-3.ensures.length ∙ c.size_given-size.ensures; inside = c.resized-content-3.ensures.inside n h.t.inside };
  t = record { size = c.resized-content-4.ensures.length ∙ c.size_given-size.ensures; inside = c.resized-content-4.ensures.inside n h.t.inside };
  l = record { size = c.resized-content-5.ensures.length ∙ c.size_given-size.ensures; inside = c.resized-content-5.ensures.inside n h.l.inside };
  i = h.i;
  flags = h.flags;
  nibbles = h.nibbles;
}
