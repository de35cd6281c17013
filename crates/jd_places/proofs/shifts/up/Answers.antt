use Rattle.std.proofs.Common.{◌≡◌, ◌-◌, ◌∷◌, slice_range, length, ap, ◌∙◌, refl}
use Rattle.jd_vectors.proofs.Kept.{Inside-at}
use Rattle.jd_places.proofs.Places.{bit_at, moved_up, word_up, same_carrying}
use Rattle.hp_model.specs.Words.{bit}
use Rattle.jd_vectors.specs.Number.{number}
use Rattle.jd_places.proofs.shifts.up.Goals as goal

pub pattern_is : (c : goal.After-above-pattern) → c.above-pattern.result ≡ c.args.fill ∷ slice_range c.args.x.now 0 (length c.args.x.now - 1)
pattern_is c = c.above-pattern.ensures ∙ rw (c.part.ensures, c.len-size.ensures.len) refl

pub returns-clause-meaning : goal.returns-clause-meaning
returns-clause-meaning c = λ val.
    let x = c.args.x.now in
    same_carrying _ _ _ _ (ap (number val) (pattern_is c) ∙ moved_up val x c.args.fill c.requires.some)
    (bit_at val x (c.len-size.result - 1) c.at-carry.result c.at-carry.ensures ∙ ap (λ n. bit (number val x) (n - 1)) c.len-size.ensures.len)

pub returns-clause-fits : goal.returns-clause-fits
returns-clause-fits c = λ n h i.
    record { pattern = rw (pattern_is c) (word_up n c.args.x.now c.args.fill c.requires.some h i); carry = Inside-at n _ _ _ h c.at-carry.ensures; range = tt }
