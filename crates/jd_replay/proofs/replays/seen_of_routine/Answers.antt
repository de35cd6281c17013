use Rattle.std.proofs.Common.{◌∙◌, ap, sym, length}
use Rattle.hp_model.specs.State.{memory_bytes, register_nibbles}
use Rattle.jd_problem.specs.Problems.{problem_of}
use Rattle.jd_start.specs.Starts.{start_data}
use Rattle.jd_replay.proofs.Allowed.{has-parts}
use Rattle.jd_replay.proofs.replays.seen_of_routine.Goals as goal

pub with-memory-requires-clause-nibbles : goal.with-memory-requires-clause-nibbles
with-memory-requires-clause-nibbles c =
    ap length c.as_slice.ensures.same
    ∙ (has-parts (problem_of c.args.problem.now) (start_data c.args.start.now) c.requires.allowed).nibbles
    ∙ ap (register_nibbles (memory_bytes c.args.problem.now.memory)) (sym c.blocks-2.ensures.value)
