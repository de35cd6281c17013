-- After each call the history ends with the state of before and as many states after it as the call records.
use Rattle.std.proofs.Common.{◌≡◌, ℕ, zero, suc, ◌+◌, ◌≤◌, Bool, true, false, if◌then◌else◌, List, [], ◌∷◌, slice_set, refl, sym, subst, arith}
use Rattle.hp_model.specs.declared.Stop.{Stop}
use Rattle.hp_model.specs.declared.Stop.TheVariants as stop
use Rattle.hp_model.specs.Run.{line_done}
use Rattle.hp_model.specs.Press.{Calculator, press, lines_per_key}
use Rattle.hp_model.specs.declared.Key.TheVariants.{SingleStep}
use Rattle.hp_run.specs.Stepping.{is_ready, run_begun, run_cut}
use Rattle.hp_debug.specs.declared.stops.Stopped.TheVariants as stopped
use Rattle.hp_debug.specs.Debuggers.{Debugger, RunResult, run_result, after_line, state_recorded, with_present, next_line_done, run_lines, at_breakpoint, pressed}
use Rattle.hp_debug.specs.Laws.{Call, press_key, step, go, breakpoint, after_call, after_calls, length_after_line, run_length, states_recorded, all_states_recorded}
use Rattle.hp_debug.proofs.RecordedSince.{RecordedSince, since-recording}

at_count : (k m : ℕ) (s : Calculator) (d : Debugger) → k ≡ m → RecordedSince s m d → RecordedSince s k d
at_count k m s d is after = subst (λ j. RecordedSince s j d) (sym is) after

-- after a line
stopped_at_breakpoint : (b : Bool) (j k m line : ℕ) (s : Calculator) (done : Debugger) (rest : RunResult) → k ≡ m + length_after_line stop.Go b j → RecordedSince s m done
    → (k ≡ m + j → RecordedSince s k rest.debugger) → RecordedSince s k (if b then run_result (stopped.Break line) done else rest).debugger
stopped_at_breakpoint true j k m line s done rest is after next = at_count k m s done (omega (arith, is)) after
stopped_at_breakpoint false j k m line s done rest is after next = next is

since_stop : (t : Stop) (j k m : ℕ) (s : Calculator) (done : Debugger) (rest : RunResult) → k ≡ m + length_after_line t (at_breakpoint done) j → RecordedSince s m done
    → (k ≡ m + j → RecordedSince s k rest.debugger) → RecordedSince s k (after_line t done rest).debugger
since_stop (stop.Ended end) j k m s done rest is after next = at_count k m s done (omega (arith, is)) after
since_stop stop.Go j k m s done rest is after next = stopped_at_breakpoint (at_breakpoint done) j k m done.present.machine.control.line s done rest is after next

-- a run of at least one line
since_line : (n k m : ℕ) (s before : Calculator) (d : Debugger) → k ≡ m + run_length (suc n) before d → k ≤ d.depth → RecordedSince s m (with_present before d)
    → ((e : Debugger) → e.depth ≡ d.depth → k ≡ suc m + run_length n e.present e → RecordedSince s (suc m) e → RecordedSince s k (run_lines n e.present e).debugger)
    → RecordedSince s k (run_lines (suc n) before d).debugger
since_line n k m s before d is within after next =
    let done = next_line_done (state_recorded before d) in
    let rest = run_length n done.present done in
    since_stop (line_done d.present.machine).stop rest k (suc m) s done
    (run_lines n done.present done) (omega (arith, is)) (since-recording m s before d (omega (arith, is, within)) after) (λ counted. next done refl counted (since-recording m s before d (omega (arith, is, within)) after))

since-lines : (n k m : ℕ) (s before : Calculator) (d : Debugger) → k ≡ suc m + run_length n before d → k ≤ d.depth → RecordedSince s (suc m) d
    → RecordedSince s k (run_lines n before d).debugger
since-lines zero k m s before d is within after = at_count k (suc m) s (with_present (run_cut d.present) d) (omega (arith, is)) after
since-lines (suc n) k m s before d is within after =
    since_line n k (suc m) s before d is within after (λ e same counted after_e. since-lines n k (suc m) s e.present e counted (rw same within) after_e)

since-run : (n k m : ℕ) (s : Calculator) (d : Debugger) → k ≡ m + run_length (suc n) d.present (with_present (run_begun d.present) d) → k ≤ d.depth → RecordedSince s m d
    → RecordedSince s k (run_lines (suc n) d.present (with_present (run_begun d.present) d)).debugger
since-run n k m s d is within after =
    since_line n k m s d.present (with_present (run_begun d.present) d) is within after
    (λ e same counted after_e. since-lines n k m s e.present e counted (rw same within) after_e)

-- ---- the calls

since_press : (k m : ℕ) (s present : Calculator) (d : Debugger) → k ≡ m + 1 → k ≤ d.depth → RecordedSince s m d → RecordedSince s k (with_present present (state_recorded d.present d))
since_press k m s present d is within after =
    at_count k (suc m) s (with_present present (state_recorded d.present d)) (omega (arith, is)) (since-recording m s d.present d (omega (arith, is, within)) after)

if_ready : (b : Bool) (k m j : ℕ) (s : Calculator) (d other : Debugger) → k ≡ m + (if b then j else 0) → RecordedSince s m d → (k ≡ m + j → RecordedSince s k other)
    → RecordedSince s k (if b then other else d)
if_ready true k m j s d other is after next = next is
if_ready false k m j s d other is after next = at_count k m s d (omega (arith, is)) after

if_run : (b : Bool) (k m j : ℕ) (s : Calculator) (d : Debugger) (other : RunResult) → k ≡ m + (if b then j else 0) → RecordedSince s m d → (k ≡ m + j → RecordedSince s k other.debugger)
    → RecordedSince s k (if b then other else run_result stopped.NotRun d).debugger
if_run true k m j s d other is after next = next is
if_run false k m j s d other is after next = at_count k m s d (omega (arith, is)) after

same_at : (k : ℕ) (s : Calculator) (d : Debugger) (breakpoints : List Bool) → RecordedSince s k d → RecordedSince s k (record d { breakpoints = breakpoints })
same_at zero s d breakpoints after = after
same_at (suc k) s d breakpoints after = after

since-call : (call : Call) (k m : ℕ) (s : Calculator) (d : Debugger) → k ≡ m + states_recorded call d → k ≤ d.depth → RecordedSince s m d → RecordedSince s k (after_call call d)
unfolding lines_per_key
since-call (press_key key) k m s d is within after = since_press k m s (press d.present key) d is within after
since-call step k m s d is within after =
    if_ready (is_ready d.present) k m 1 s d (pressed SingleStep d) is after (λ counted. since_press k m s (press d.present SingleStep) d counted within after)
since-call go k m s d is within after =
    if_run (is_ready d.present) k m (run_length lines_per_key d.present (with_present (run_begun d.present) d)) s d
    (run_lines lines_per_key d.present (with_present (run_begun d.present) d)) is after (λ counted. since-run 99_999 k m s d counted within after)
since-call (breakpoint line set) k m s d is within after = same_at k s d (slice_set d.breakpoints line set) (at_count k m s d (omega (arith, is)) after)

depth_after_line : (t : Stop) (done : Debugger) (rest : RunResult) → rest.debugger.depth ≡ done.depth → (after_line t done rest).debugger.depth ≡ done.depth
depth_after_line (stop.Ended end) done rest same = refl
depth_after_line stop.Go done rest same = by_breakpoint (at_breakpoint done)
  where
    by_breakpoint : (b : Bool) → (if b then run_result (stopped.Break done.present.machine.control.line) done else rest).debugger.depth ≡ done.depth
    by_breakpoint true = refl
    by_breakpoint false = same

depth_of_run_lines : (n : ℕ) (before : Calculator) (d : Debugger) → (run_lines n before d).debugger.depth ≡ d.depth
depth_of_run_lines zero before d = refl
depth_of_run_lines (suc n) before d =
    let done = next_line_done (state_recorded before d) in
    depth_after_line (line_done d.present.machine).stop done (run_lines n done.present done) (depth_of_run_lines n done.present done)

depth_if : (b : Bool) (d other : Debugger) → other.depth ≡ d.depth → (if b then other else d).depth ≡ d.depth
depth_if true d other same = same
depth_if false d other same = refl

depth_if_run : (b : Bool) (d : Debugger) (other : RunResult) → other.debugger.depth ≡ d.depth → (if b then other else run_result stopped.NotRun d).debugger.depth ≡ d.depth
depth_if_run true d other same = same
depth_if_run false d other same = refl

same-depth : (call : Call) (d : Debugger) → (after_call call d).depth ≡ d.depth
same-depth (press_key key) d = refl
same-depth step d = depth_if (is_ready d.present) d (pressed SingleStep d) refl
same-depth go d =
    depth_if_run (is_ready d.present) d (run_lines lines_per_key d.present (with_present (run_begun d.present) d))
    (depth_of_run_lines lines_per_key d.present (with_present (run_begun d.present) d))
same-depth (breakpoint line set) d = refl

pub since-calls : (calls : List Call) (k m : ℕ) (s : Calculator) (d : Debugger) → k ≡ m + all_states_recorded calls d → k ≤ d.depth → RecordedSince s m d
    → RecordedSince s k (after_calls calls d)
since-calls [] k m s d is within after = at_count k m s d (omega (arith, is)) after
since-calls (call ∷ calls) k m s d is within after =
    since-calls calls k (m + states_recorded call d) s (after_call call d) (omega (arith, is)) (rw same-depth within)
    (since-call call (m + states_recorded call d) m s d refl (omega (arith, is, within)) after)
