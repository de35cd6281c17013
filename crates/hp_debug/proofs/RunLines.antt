-- A run under the debugger, by its next line.
use Rattle.std.proofs.Common.{◌≡◌, ℕ, suc, ◌+◌, ◌-◌, ◌<◌, Bool, true, false, if◌then◌else◌, Some, None, refl, ap, sym, ◌∙◌, arith}
use Rattle.hp_model.specs.declared.End.{End}
use Rattle.hp_model.specs.declared.Stop.{Stop}
use Rattle.hp_model.specs.declared.Stop.TheVariants.{Go, Ended}
use Rattle.hp_model.specs.Run.{line_done}
use Rattle.hp_model.specs.Press.{Calculator, lines_per_key}
use Rattle.hp_run.specs.Stepping.{is_ready, run_begun}
use Rattle.hp_debug.specs.declared.stops.Stopped.TheVariants as stopped
use Rattle.hp_debug.specs.Debuggers.{Debugger, RunResult, run_result, run_lines, after_line, next_line_done, state_recorded, at_breakpoint, with_present, run_to_stop}

script_line : (n : ℕ) (before : Calculator) (d next : Debugger) (stop : Stop) → stop ≡ (line_done d.present.machine).stop
    → next ≡ next_line_done (state_recorded before d) → after_line stop next (run_lines n next.present next) ≡ run_lines (suc n) before d
script_line n before d next stop stop_is next_is = rw (stop_is, next_is) refl

-- what is left of a run, by its next line
left_of : (bound i : ℕ) (before : Calculator) (d next : Debugger) (stop : Stop) (w : RunResult) → i < bound → stop ≡ (line_done d.present.machine).stop
    → next ≡ next_line_done (state_recorded before d) → run_lines (bound - i) before d ≡ w → after_line stop next (run_lines (bound - (i + 1)) next.present next) ≡ w
left_of bound i before d next stop w inside stop_is next_is whole =
    let left : suc (bound - (i + 1)) ≡ bound - i = omega arith in
    script_line (bound - (i + 1)) before d next stop stop_is next_is ∙ ap (λ k. run_lines k before d) left ∙ whole

stopped_at_breakpoint : (b : Bool) (line l : ℕ) (d : Debugger) (rest : RunResult) → Some line ≡ (if b then Some l else None)
    → run_result (stopped.Break line) d ≡ (if b then run_result (stopped.Break l) d else rest)
stopped_at_breakpoint true line l d rest e = cc
stopped_at_breakpoint false line l d rest e = cc

past_no_breakpoint : (b : Bool) (l : ℕ) (a rest : RunResult) → None ≡ (if b then Some l else None) → rest ≡ (if b then a else rest)
past_no_breakpoint true l a rest e = cc
past_no_breakpoint false l a rest e = refl

-- after a line that ends the run, after one that comes to a break, and after one from which it goes on
module _ (bound i : ℕ) (before : Calculator) (d next : Debugger) (w : RunResult) (inside : i < bound) (next_is : next ≡ next_line_done (state_recorded before d))
    (whole : run_lines (bound - i) before d ≡ w) where
  pub run-ends-after-line : (end : End) → Ended end ≡ (line_done d.present.machine).stop → run_result (stopped.Ended end) next ≡ w
  run-ends-after-line end stop_is = left_of bound i before d next (Ended end) w inside stop_is next_is whole

  pub run-breaks-after-line : (line : ℕ) → Go ≡ (line_done d.present.machine).stop
      → Some line ≡ (if at_breakpoint next then Some next.present.machine.control.line else None) → run_result (stopped.Break line) next ≡ w
  run-breaks-after-line line stop_is break_is =
      stopped_at_breakpoint (at_breakpoint next) line next.present.machine.control.line next (run_lines (bound - (i + 1)) next.present next) break_is
      ∙ left_of bound i before d next Go w inside stop_is next_is whole

  pub run-goes-on-after-line : (s : Calculator) → Go ≡ (line_done d.present.machine).stop → s ≡ next.present
      → None ≡ (if at_breakpoint next then Some next.present.machine.control.line else None) → run_lines (bound - (i + 1)) s next ≡ w
  run-goes-on-after-line s stop_is s_is no_break =
      rw s_is (past_no_breakpoint (at_breakpoint next) next.present.machine.control.line (run_result (stopped.Break next.present.machine.control.line) next) (run_lines (bound - (i + 1)) next.present next) no_break
      ∙ left_of bound i before d next Go w inside stop_is next_is whole)

-- a run where R/S runs
pub run-begins : (d begun : Debugger) (before : Calculator) (w : RunResult) → is_ready d.present ≡ true → before ≡ d.present
    → begun ≡ with_present (run_begun d.present) d → w ≡ run_lines lines_per_key before begun → w ≡ run_to_stop d
run-begins d begun before w ready before_is begun_is w_is =
    w_is ∙ ap (λ s. run_lines lines_per_key s begun) before_is ∙ ap (λ e. run_lines lines_per_key d.present e) begun_is
    ∙ sym (ap (λ (b : Bool). if b then run_lines lines_per_key d.present (with_present (run_begun d.present) d) else run_result stopped.NotRun d) ready)
