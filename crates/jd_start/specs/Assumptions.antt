-- Lists of assumptions.
use Rattle.std.specs.Prelude.{◌≤◌, List, All, length}
use Rattle.jd_model.specs.declared.assumptions.Assume.{Assume}
use Rattle.jd_model.specs.Assumptions.{IsAssume, assumption_limit}

pub record AreAssumed (assumed : List Assume) : Type 0 where
  pub numbers : All IsAssume assumed
  pub few : length assumed ≤ assumption_limit
