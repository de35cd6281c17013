-- The law of generated problems.
use Rattle.std.specs.Prelude.{◌≡◌, ℕ, ◌==◌, true, [], ◌∷◌}
use Rattle.hp_model.specs.State.{Data}
use Rattle.jd_model.specs.Problems.{allows}
use Rattle.hp_model.specs.Run.{run_answers}
use Rattle.jd_model.specs.Seen.{agree, machine_at}
use Rattle.jd_generated.specs.Generated.{generated}

abbrev pub GeneratedRoutinesAgree : Type 0
GeneratedRoutinesAgree = (n : ℕ) (s : Data) → allows (generated n) s ≡ true → agree (generated n) s ≡ true

-- each routine asks once, whether X is zero
pub record AskOnce (n : ℕ) (s : Data) : Type 0 where
  pub first : run_answers 500 (machine_at (generated n) (generated n).first s) ≡ (s.x == 0) ∷ []
  pub second : run_answers 500 (machine_at (generated n) (generated n).second s) ≡ (s.x == 0) ∷ []

abbrev pub GeneratedRoutinesAskOnce : Type 0
GeneratedRoutinesAskOnce = (n : ℕ) (s : Data) → allows (generated n) s ≡ true → AskOnce n s
