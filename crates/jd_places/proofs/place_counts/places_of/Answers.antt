use Rattle.std.proofs.Common.{sym}
use Rattle.jd_rows.proofs.SignedValues.{magnitude_is}
use Rattle.jd_places.proofs.SmallCounts.{places_kept}
use Rattle.jd_places.proofs.place_counts.places_of.Goals as goal

pub returns-clause-of : goal.returns-clause-of
returns-clause-of g c = c.resized.ensures.inside _ c.in_ok-_sign.ensures.of

pub returns-clause-number : goal.returns-clause-number
returns-clause-number g c = λ val s few.
    places_kept _ _ _ _ (sym (magnitude_is _ _ _ (c.in_ok-_sign.ensures.value val s))) few c.requires.word (c.resized.ensures.number val)
