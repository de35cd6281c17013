-- Whether a start tells the two routines of a problem apart.
use Rattle.std.specs.Prelude.{Bool, not, ◌&&◌}
use Rattle.hp_model.specs.State.{Data}
use Rattle.jd_model.specs.Problems.{Problem, allows}
use Rattle.jd_model.specs.Seen.{agree}

-- the problem allows the start, and the routines don't agree from it
abbrev pub is_difference : Problem → Data → Bool
is_difference p s = allows p s && not (agree p s)
