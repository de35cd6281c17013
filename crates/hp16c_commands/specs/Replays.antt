-- What `replay` answers for the bytes of a problem and of a start: what is seen of both runs, or the first bad line.
use Rattle.std.specs.Prelude.{ℕ, Bool, true, false, List, Result, Ok, Err}
use Rattle.hp_model.specs.State.{Data}
use Rattle.jd_model.specs.Problems.{Problem}
use Rattle.jd_model.specs.Seen.{agree}
use Rattle.jd_model.specs.Replays.{replay_input, replay_text}
use Rattle.hp16c_commands.specs.declared.outcomes.Status.{Status}
use Rattle.hp16c_commands.specs.declared.outcomes.Status.TheVariants.{Done, Different}
use Rattle.hp16c_commands.specs.Answers.{Answer, told, bad_line}

abbrev pub status_of_agreement : Bool → Status
status_of_agreement true = Done
status_of_agreement false = Different

abbrev pub replayed : Result (Problem × Data) ℕ → Answer
replayed (Ok (p, s)) = told (status_of_agreement (agree p s)) (replay_text p s)
replayed (Err line) = bad_line line

abbrev pub replay_answer : List ℕ → Answer
replay_answer bytes = replayed (replay_input bytes)
