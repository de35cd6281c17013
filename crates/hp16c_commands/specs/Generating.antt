-- What `gen` does with a number: it judges the problem of that number, whose routines agree.
use Rattle.std.specs.Prelude.{◌≡◌, ℕ, List, take, Option}
use Rattle.std.specs.Io.KnownBytes.{Appends}
use Rattle.jd_model.specs.Seen.{agree}
use Rattle.jd_generated.specs.Generated.{generated, summary}
use Rattle.jd_judge.specs.Judging.{IsEqual}
use Rattle.hp16c_commands.specs.declared.outcomes.Kept.{Kept}
use Rattle.hp16c_commands.specs.declared.outcomes.Kept.TheVariants as kept
use Rattle.hp16c_commands.specs.declared.outcomes.Outcome.{Outcome}
use Rattle.hp16c_commands.specs.declared.outcomes.Status.{Status}
use Rattle.hp16c_commands.specs.declared.outcomes.Status.TheVariants.{Done, WriteFault, NoMemory}

-- the kept certificate shows that the routines of the number's problem agree
abbrev pub ShowsEqual : ℕ → Kept → Type 0
ShowsEqual n (kept.Judged book cert) = IsEqual (generated n) (agree (generated n)) book cert
ShowsEqual n _ = ⊥

-- what was written and kept, status by status. `gen` ends with no other
abbrev pub GenerateDid : ℕ → Outcome → Option (List ℕ) → Option (List ℕ) → Type 0
GenerateDid n outcome written0 written = by_status outcome.status
  where
    by_status : Status → Type 0
    by_status Done = ShowsEqual n outcome.kept × Appends written0 written (summary n)
    by_status WriteFault = (outcome.kept ≡ kept.Nothing) × ((k : ℕ) × Appends written0 written (take k (summary n)))
    by_status NoMemory = (outcome.kept ≡ kept.Nothing) × (written ≡ written0)
    by_status _ = ⊥
