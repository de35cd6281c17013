use Rattle.std.proofs.Common.{ap, ◌∙◌}
use Rattle.hp_model.specs.Press.{lines_per_key, shown_run}
use Rattle.hp_run.proofs.runs.run_on.Goals as goal

pub returns-clause-shown : goal.returns-clause-shown
unfolding lines_per_key
returns-clause-shown c = ap shown_run c.run.ensures.run ∙ c.view_of_run.ensures _
