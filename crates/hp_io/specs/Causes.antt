-- Counts of calls and of faults, and when a fault may be answered: only where the count of faults rose.
use Rattle.std.specs.Prelude.{ℕ, ◌+◌, ◌-◌, ◌^◌, ◌≤◌, min, OnErr, is_err, if◌then◌else◌}
use Rattle.std.specs.declared.result.Result.{Result}

-- one more, up to the end of the type
abbrev pub counted : ℕ → ℕ
counted n = min (n + 1) (2 ^ 64 - 1)

-- a count rose, or stands at its end
abbrev pub Rose : ℕ → ℕ → Type 0
Rose before now = counted before ≤ now

-- the count didn't fall, and rose where the call failed
pub record HasCause {T E : Type 0} (before now : ℕ) (result : Result T E) : Type 0 where
  pub later : before ≤ now
  pub failed : OnErr result (Rose before now)

-- a count that rises by one where the call fails, and then alone
abbrev pub faults_after : {T E : Type 0} → ℕ → Result T E → ℕ
faults_after before result = if is_err result then counted before else before

-- the count of calls didn't fall, and rose by at most so many
pub record CallsAtMost (most before now : ℕ) : Type 0 where
  pub later : before ≤ now
  pub bound : now ≤ before + most

-- what is known of a real source: the number of its calls, and of those that failed
pub record Counts : Type 0 where
  pub calls : ℕ
  pub faults : ℕ
