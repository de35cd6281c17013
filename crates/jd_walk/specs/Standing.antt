-- All that a walk keeps: its place and those to which it can go back, the ends of both runs where they are over, and how
-- many gates there are.
use Rattle.std.specs.Prelude.{Bool, List, length, Option}
use Rattle.hp_model.specs.declared.End.{End}
use Rattle.jd_circuit.specs.declared.literals.Lit.{Lit}
use Rattle.jd_circuit.specs.Net.{Net}
use Rattle.jd_model.specs.Problems.{Problem}
use Rattle.jd_walk.specs.declared.runs.Position.{Position}
use Rattle.jd_walk.specs.declared.places.Next.{Next}
use Rattle.jd_walk.specs.declared.places.FirstEnd.{FirstEnd}
use Rattle.jd_walk.specs.declared.places.Saved.{Saved}
use Rattle.jd_walk.specs.Spots.{EndsHold, IsWalk, end_of}
use Rattle.jd_walk.specs.Rooms.{AreRoomy}

pub record IsStanding (p : Problem) (net : Net) (path : List Bool) (assumed guards : List Lit) (saved : List Saved) (first : Option FirstEnd) (at : Position) (next : Option Next) (last : Option End) : Type 0 where
  pub walk : IsWalk p net path assumed guards saved first at next
  pub ends : EndsHold p net path (end_of first) at last next
  pub room : AreRoomy p (length net.gates) (length path) saved first at next
