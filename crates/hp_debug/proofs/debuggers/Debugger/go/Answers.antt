use Rattle.std.proofs.Common.{◌∙◌, ap, sym}
use Rattle.hp_model.specs.Press.{Calculator, lines_per_key}
use Rattle.hp_run.specs.Seen.{calculator_of}
use Rattle.hp_run.specs.Stepping.{is_ready, run_begun}
use Rattle.hp_debug.specs.Debuggers.{Debugger, with_present}
use Rattle.hp_debug.specs.Fields.{debugger_of}
use Rattle.hp_debug.proofs.RunLines.{run-begins}
use Rattle.hp_debug.proofs.debuggers.Debugger.go.Goals as goal

pub returns : goal.returns
unfolding lines_per_key
returns c =
    let now = c.args.self.now in
    let begun = with_present (calculator_of c.begin_run.new.self) (debugger_of c.self.inside) in
    run-begins now begun _ _
    (ap (λ (d : Debugger). is_ready d.present) (sym c.self.view_is) ∙ sym c.is_ready.ensures ∙ c.if-not-is_ready.false)
    (c.copy-before.ensures ∙ ap (λ (d : Debugger). d.present) c.self.view_is)
    (ap (λ (s : Calculator). with_present s (debugger_of c.self.inside)) c.begin_run.ensures.begun ∙ ap (λ (d : Debugger). with_present (run_begun d.present) d) c.self.view_is)
    c.run_lines.ensures
