-- How a run came out, as the definitions tell it.
use Rattle.std.specs.Prelude.{Option, Some, None}
use Rattle.hp_model.specs.declared.End.{End}
use Rattle.hp_run.specs.declared.runs.RunEnd.{RunEnd}
use Rattle.hp_run.specs.declared.runs.RunEnd.TheVariants as run_end

abbrev pub end_of : RunEnd → Option End
end_of (run_end.Ended end) = Some end
end_of run_end.Late = None
