use Rattle.std.proofs.Common.{◌≡◌, ◌∷◌, ◌++◌, [], slice_range, length, ap, ◌∙◌, refl}
use Rattle.jd_vectors.proofs.Kept.{Inside-at}
use Rattle.jd_places.proofs.Places.{bit_at, moved_down, word_down, same_carrying}
use Rattle.jd_vectors.specs.Number.{number}
use Rattle.jd_places.proofs.shifts.down.Goals as goal

pub pattern_is : (c : goal.After-push) → c.push.new.self ≡ slice_range c.args.x.now 1 (length c.args.x.now) ++ c.args.fill ∷ []
pattern_is c = c.push.ensures ∙ rw (c.part-pattern.ensures, c.len-size.ensures.len) refl

pub returns-clause-meaning : goal.returns-clause-meaning
returns-clause-meaning c = λ val.
    let x = c.args.x.now in
    same_carrying _ _ _ _ (ap (number val) (pattern_is c) ∙ moved_down val x c.args.fill c.requires.some) (bit_at val x 0 c.at-carry.result c.at-carry.ensures)

pub returns-clause-fits : goal.returns-clause-fits
returns-clause-fits c = λ n h i.
    record { pattern = rw (pattern_is c) (word_down n c.args.x.now c.args.fill c.requires.some h i); carry = Inside-at n _ _ _ h c.at-carry.ensures; range = tt }
