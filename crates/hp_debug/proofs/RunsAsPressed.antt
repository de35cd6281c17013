-- A run without breakpoints is that of R/S.
use Rattle.std.proofs.Common.{◌≡◌, ℕ, zero, suc, Bool, true, false, not, ◌&&◌, if◌then◌else◌, get_or, Option, refl, ap, sym, subst, ◌∙◌}
use Rattle.hp_model.specs.declared.End.{End}
use Rattle.hp_model.specs.declared.Key.TheVariants.{RunStop}
use Rattle.hp_model.specs.declared.Stop.{Stop}
use Rattle.hp_model.specs.declared.Stop.TheVariants.{Go, Ended}
use Rattle.hp_model.specs.declared.View.{View}
use Rattle.hp_model.specs.State.{Machine}
use Rattle.hp_model.specs.Run.{run, line_done}
use Rattle.hp_model.specs.Keys.{Prefix}
use Rattle.hp_model.specs.Keys as keys
use Rattle.hp_model.specs.Press.{Calculator, shown_run, view_of_stop, press, lines_per_key}
use Rattle.hp_model.proofs.Runs.{run-goes, run-ends}
use Rattle.hp_run.specs.Stepping.{is_nothing_pending, is_ready, with_shown, run_begun}
use Rattle.hp_debug.specs.declared.stops.Stopped.TheVariants as stopped
use Rattle.hp_debug.specs.Debuggers.{Debugger, RunResult, run_result, after_line, state_recorded, with_present, next_line_done, run_lines, run_to_stop, at_breakpoint}

abbrev HasNoBreakpoint : Debugger → Type 0
HasNoBreakpoint d = (line : ℕ) → get_or d.breakpoints line false ≡ false

without_breakpoint : (b : Bool) (line : ℕ) (done : Debugger) (rest : RunResult) → b ≡ false → (if b then run_result (stopped.Break line) done else rest) ≡ rest
without_breakpoint true line done rest none = cc
without_breakpoint false line done rest none = refl

abbrev Runs : ℕ → Calculator → Debugger → Type 0
Runs n before d = (run_lines n before d).debugger.present ≡ with_shown (shown_run (run n d.present.machine)) d.present

-- by what the next line answers
run_by : (n : ℕ) (before : Calculator) (d : Debugger) (t : Stop) → HasNoBreakpoint d → (line_done d.present.machine).stop ≡ t
    → Runs n (next_line_done (state_recorded before d)).present (next_line_done (state_recorded before d)) → Runs (suc n) before d
run_by n before d (Ended end) none is next =
    let done = next_line_done (state_recorded before d) in
    ap (λ (t : Stop). (after_line t done (run_lines n done.present done)).debugger.present) is
    ∙ ap (λ (t : Stop). with_shown (record { machine = (line_done d.present.machine).machine; view = view_of_stop t }) d.present) is
    ∙ ap (λ (r : Option End × Machine). with_shown (shown_run r) d.present) (sym (run-ends n d.present.machine end is))
run_by n before d Go none is next =
    let done = next_line_done (state_recorded before d) in
    ap (λ (t : Stop). (after_line t done (run_lines n done.present done)).debugger.present) is
    ∙ ap (λ (w : RunResult). w.debugger.present) (without_breakpoint (at_breakpoint done) done.present.machine.control.line done (run_lines n done.present done) (none done.present.machine.control.line))
    ∙ next
    ∙ ap (λ (r : Option End × Machine). with_shown (shown_run r) d.present) (sym (run-goes n d.present.machine is))

run_lines_as_run : (n : ℕ) (before : Calculator) (d : Debugger) → HasNoBreakpoint d → Runs n before d
run_lines_as_run zero before d none = refl
run_lines_as_run (suc n) before d none =
    let done = next_line_done (state_recorded before d) in
    run_by n before d (line_done d.present.machine).stop none refl (run_lines_as_run n done.present done none)

-- where R/S runs, no prefix is pending and run mode is on
nothing-is-pending : (prefix : Prefix) → is_nothing_pending prefix ≡ true → prefix ≡ keys.nothing_pending
nothing-is-pending keys.nothing_pending is = refl
nothing-is-pending _ is = cc

both : (programming b : Bool) → not programming && b ≡ true → (programming ≡ false) × (b ≡ true)
both false true is = (refl, refl)
both _ _ is = cc

press_at : (m : Machine) (view : View) → let s : Calculator = record { machine = m; prefix = keys.nothing_pending; programming = false; view = view } in
    with_shown (shown_run (run lines_per_key (run_begun s).machine)) (run_begun s) ≡ press s RunStop
press_at m view = refl

ready_press : (s : Calculator) → s.programming ≡ false → s.prefix ≡ keys.nothing_pending
    → with_shown (shown_run (run lines_per_key (run_begun s).machine)) (run_begun s) ≡ press s RunStop
ready_press s running nothing-is-pending =
    let same : s ≡ record s { prefix = keys.nothing_pending; programming = false } =
    ap (λ (p : Prefix). record s { prefix = p }) nothing-is-pending ∙ ap (λ (b : Bool). record s { prefix = keys.nothing_pending; programming = b }) running in
    subst (λ (t : Calculator). with_shown (shown_run (run lines_per_key (run_begun t).machine)) (run_begun t) ≡ press t RunStop) (sym same) (press_at s.machine s.view)

pub runs-as-pressed : (d : Debugger) → is_ready d.present ≡ true → HasNoBreakpoint d → (run_to_stop d).debugger.present ≡ press d.present RunStop
runs-as-pressed d ready none =
    let parts = both d.present.programming (is_nothing_pending d.present.prefix) ready in
    let begun = with_present (run_begun d.present) d in
    ap (λ (b : Bool). (if b then run_lines lines_per_key d.present begun else run_result stopped.NotRun d).debugger.present) ready
    ∙ run_lines_as_run lines_per_key d.present begun none
    ∙ ready_press d.present parts.0 (nothing-is-pending d.present.prefix parts.1)
