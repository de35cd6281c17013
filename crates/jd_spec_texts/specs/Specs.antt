-- What each spec that a text says keeps to, and what is kept of a `give` line.
use Rattle.std.specs.Prelude.{◌≡◌, ◌≢◌, ℕ, ◌≤◌, Bool, true, false, ◌==◌, List, [], length, replicate, AllPairs, Option, option_map, Ok}
use Rattle.std.specs.List.{list_all}
use Rattle.jd_model.specs.Problems.{Problem}
use Rattle.jd_formulas.specs.declared.tokens.Token.{Token}
use Rattle.jd_formulas.specs.Formulas.{is_formula_in_range}
use Rattle.jd_gives.specs.declared.parts.GivenPart.{GivenPart}
use Rattle.jd_gives.specs.declared.gives.Give.{Give}
use Rattle.jd_gives.specs.Gives.{place}
use Rattle.jd_spec_texts.specs.FormulaWords.{kept_if}
use Rattle.jd_spec_texts.specs.SpecTexts.{spec_of}

-- the part of a `give` line and its formula, where that is kept
abbrev pub give_told : Option Give → Option (GivenPart × Option (List Token))
give_told give = option_map (λ g. (g.part, kept_if g.formula)) give

-- whether two say the same part
abbrev pub same_part : Give → Give → Bool
same_part a b = place a.part == place b.part

-- what holds of each spec that a text says
pub record IsSpec (p : Problem) (gives : List Give) : Type 0 where
  pub some : 1 ≤ length gives
  pub once : AllPairs (λ a b. a.part ≢ b.part) gives
  pub formulas : list_all (λ g. is_formula_in_range p.size g.formula) gives ≡ true
  pub unobserved : p.observed ≡ replicate 13 false
  pub no_second : p.second ≡ []

abbrev pub TextsSaySpecs : Type 0
TextsSaySpecs = (text : List ℕ) (p : Problem) (gives : List Give) → spec_of text ≡ Ok (p, gives) → IsSpec p gives
