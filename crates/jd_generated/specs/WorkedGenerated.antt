-- Generated problems that were worked by hand.
use Rattle.std.specs.Prelude.{◌≡◌, [], ◌∷◌, codes}
use Rattle.jd_generated.specs.Generated.{complement, double, draws_for, generated, summary}

pub record WorkedGenerated : Type 0 where
  pub one_draw : draws_for 0 ≡ double ∷ []
  pub two_draws : draws_for 1 ≡ complement ∷ double ∷ []
  -- x=0, NOT, NOT, SL
  pub first : (generated 1).first ≡ 71 ∷ 49 ∷ 49 ∷ 31 ∷ []
  -- x=0, NOT, CHS, 1, -, ENTER, +
  pub second : (generated 1).second ≡ 71 ∷ 49 ∷ 21 ∷ 1 ∷ 17 ∷ 20 ∷ 16 ∷ []
  pub printed : summary 0 ≡ codes "gen 0 lines 3 4 equal\n"
  pub printed_next : summary 1 ≡ codes "gen 1 lines 4 7 equal\n"
