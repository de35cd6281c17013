-- What is found in a source's lines.
use Rattle.std.specs.Prelude.{◌≡◌, ℕ, ◌+◌, ◌≤◌, true, List, [], ◌++◌, Option, Result, Err, OnErr, OnOk}
use Rattle.hp_io.specs.Causes.{CallsAtMost, Rose}
use Rattle.hp_io.specs.Limited.{Takes, TakesAtMost}
use Rattle.jd_lines.specs.declared.stops.LineStop.{LineStop}
use Rattle.jd_lines.specs.declared.stops.LineStop.TheVariants.{TooLong, Failed}
use Rattle.jd_lines.specs.SourceLines.{LineState, HasRead, reads_left}
use Rattle.jd_checking.specs.declared.source_checked.SourceChecked.{SourceChecked}
use Rattle.jd_checking.specs.SourceChecks.{IsSourceChecked}

-- the answer to what was held and read, and whatever follows, which is nothing where the end was met
pub record IsFound (old new : LineState) (before after : Option (List ℕ)) (answer : SourceChecked) : Type 0 where
  pub bytes : List ℕ
  pub read : HasRead old new before after bytes
  pub says : (more : List ℕ) → (new.ended ≡ true → more ≡ []) → IsSourceChecked (old.held ++ (bytes ++ more)) answer

-- what a call costs that takes lines of a source, and when it stops
pub record Costs {T : Type 0} (old new : LineState) (before after : Option (List ℕ)) (faults met calls made : ℕ) (result : Result T LineStop) : Type 0 where
  pub too_long : result ≡ Err TooLong → Takes (old.within + 1) before after
  pub stopped : OnErr result (TakesAtMost (old.within + 1) before after)
  pub failed : result ≡ Err Failed → Rose faults met
  pub faults_later : faults ≤ met
  pub calls_made : CallsAtMost (reads_left old) calls made
  pub reads : OnOk result (made + reads_left new ≤ calls + reads_left old)
