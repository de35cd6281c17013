-- What calls cost that take lines of a source one after the other.
use Rattle.std.proofs.Common.{◌≡◌, ℕ, ◌+◌, ◌≤◌, Bool, List, ◌++◌, arith}
use Rattle.std.specs.Prelude.{Option, Result, Ok, Err}
use Rattle.hp_io.specs.Causes.{CallsAtMost, Rose}
use Rattle.hp_io.specs.Limited.{Takes, TakesAtMost}
use Rattle.jd_lines.specs.declared.stops.LineStop.{LineStop}
use Rattle.jd_lines.specs.declared.stops.LineStop.TheVariants.{TooLong, Failed, NoMemory}
use Rattle.jd_lines.specs.SourceLines.{LineState, HasRead, Advances, reads_left}
use Rattle.jd_lines.proofs.LinesTaken.{reads-more}
use Rattle.jd_lines.proofs.Advanced.{takes-later, takes-at-most-later}
use Rattle.jd_checking.specs.Finds.{Costs}

ok-err : {T : Type 0} (x : T) (stop : LineStop) → ◌≡◌ {A = Result T LineStop} (Ok x) (Err stop) → ⊥
ok-err x stop e = cc

err-err : {T : Type 0} (x y : LineStop) → ◌≡◌ {A = Result T LineStop} (Err x) (Err y) → x ≡ y
err-err x y e = cc

-- bytes were read in some calls, of which none failed
pub record HasSpent (old now : LineState) (before left : Option (List ℕ)) (faults met calls made : ℕ) : Type 0 where
  pub bytes : List ℕ
  pub read : HasRead old now before left bytes
  pub faults_later : faults ≤ met
  pub calls_later : calls ≤ made
  pub reads : made + reads_left now ≤ calls + reads_left old

pub read-spent : (old now : LineState) (before left : Option (List ℕ)) (bytes : List ℕ) (faults met calls made : ℕ) → HasRead old now before left bytes → faults ≤ met → calls ≤ made
    → made + reads_left now ≤ calls + reads_left old → HasSpent old now before left faults met calls made
read-spent old now before left bytes faults met calls made read later calls_later reads = record { bytes = bytes; read = read; faults_later = later; calls_later = calls_later; reads = reads }

pub found-spent : {T : Type 0} (old now : LineState) (before left : Option (List ℕ)) (bytes : List ℕ) (faults met calls made : ℕ) (x : T) → HasRead old now before left bytes
    → Costs old now before left faults met calls made (Ok x) → HasSpent old now before left faults met calls made
found-spent old now before left bytes faults met calls made x read costs = record {
  bytes = bytes;
  read = read;
  faults_later = costs.faults_later;
  calls_later = costs.calls_made.later;
  reads = costs.reads;
}

-- a line more was asked for
pub then-spent : (old now new : LineState) (before left after : Option (List ℕ)) (some : Bool) (faults met met_then calls made made_then : ℕ) → HasSpent old now before left faults met calls made
    → Advances now new left after some → met ≤ met_then → made ≤ made_then → made_then + reads_left new ≤ made + reads_left now → HasSpent old new before after faults met_then calls made_then
then-spent old now new before left after some faults met met_then calls made made_then spent (bytes, read, _) later calls_later reads = record {
  bytes = spent.bytes ++ bytes;
  read = reads-more old now new before left after spent.bytes bytes spent.read read;
  faults_later = omega (arith, spent.faults_later, later);
  calls_later = omega (arith, spent.calls_later, calls_later);
  reads = omega (arith, spent.reads, reads);
}

module _ (old now : LineState) (before left : Option (List ℕ)) (faults met calls made : ℕ) (spent : HasSpent old now before left faults met calls made) where
  pub costs-ok : {T : Type 0} (x : T) → Costs old now before left faults met calls made (Ok x)
  costs-ok x = record {
    too_long = λ e. absurd (ok-err x TooLong e);
    stopped = tt;
    failed = λ e. absurd (ok-err x Failed e);
    faults_later = spent.faults_later;
    calls_made = record { later = spent.calls_later; bound = omega (arith, spent.reads) };
    reads = spent.reads;
  }

  pub costs-no-memory : {T : Type 0} → Costs {T = T} old now before left faults met calls made (Err NoMemory)
  costs-no-memory = record {
    too_long = λ e. cc;
    stopped = (spent.bytes, spent.read.taken, omega (arith, spent.read.within));
    failed = λ e. cc;
    faults_later = spent.faults_later;
    calls_made = record { later = spent.calls_later; bound = omega (arith, spent.reads) };
    reads = tt;
  }

  -- the next call stops
  pub costs-stop : {T : Type 0} (new : LineState) (after : Option (List ℕ)) (met_then made_then : ℕ) (stop : LineStop)
      → (stop ≡ TooLong → Takes (now.within + 1) left after) → TakesAtMost (now.within + 1) left after → (stop ≡ Failed → Rose met met_then) → met ≤ met_then
      → CallsAtMost (reads_left now) made made_then → Costs {T = T} old new before after faults met_then calls made_then (Err stop)
  costs-stop {T} new after met_then made_then stop too_long stopped failed later calls_made = record {
    too_long = λ e. takes-later old.within now.within before left after spent.bytes spent.read.taken spent.read.within (too_long (err-err {T = T} stop TooLong e));
    stopped = takes-at-most-later old.within now.within before left after spent.bytes spent.read.taken spent.read.within stopped;
    failed = λ e. let rose = failed (err-err {T = T} stop Failed e) in omega (arith, rose, spent.faults_later);
    faults_later = omega (arith, spent.faults_later, later);
    calls_made = record {
      later = omega (arith, spent.calls_later, calls_made.later);
      bound = omega (arith, spent.reads, calls_made.bound);
    };
    reads = tt;
  }
