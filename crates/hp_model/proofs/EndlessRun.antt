-- A run that doesn't end by itself.
use Rattle.std.specs.Prelude.{◌≡◌, ℕ, zero, suc, ◌*◌, [], ◌∷◌, codes, None, refl}
use Rattle.std.specs.Fmt.{digits}
use Rattle.std.proofs.Common.{◌∙◌, suc-mul}
use native.Mathlib.Numerals.{add-two}
use Rattle.hp_model.specs.State.{Machine, standard_bytes, reset}
use Rattle.hp_model.specs.Run.{run}
use Rattle.hp_model.specs.Press.{lines_per_key, reprogrammed}
use Rattle.hp_model.specs.WorkedKeyFiles.{Prints}

-- the machine with the program LBL 0, GTO 0 at line 1
abbrev pub looping : Machine
looping = reprogrammed (92 ∷ 108 ∷ []) 1 (reset standard_bytes)

pub two_lines : (n : ℕ) → run (suc (suc n)) looping ≡ run n looping
two_lines n = refl

pub late : (n : ℕ) → run (n * 2) looping ≡ (None, looping)
late zero = refl
late (suc n) = rw suc-mul (rw add-two (two_lines (n * 2) ∙ late n))

late_at : (k n : ℕ) → k ≡ n * 2 → run k looping ≡ (None, looping)
late_at k n e = rw e (late n)

-- each of the lines that a key may do is done, and the run stands where it began
pub runs_on : run lines_per_key looping ≡ (None, looping)
unfolding lines_per_key
runs_on = late_at 100000 50000 refl

pub endless_run : Prints (codes "g R/S g GTO 0 GTO 0 g R/S\nGSB 0\n") (codes "0 h\nError 8\n")
unfolding digits
endless_run = rw runs_on refl
