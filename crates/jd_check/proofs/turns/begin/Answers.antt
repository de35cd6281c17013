use Rattle.std.proofs.Common.{◌++◌, [], Some, sym, subst}
use Rattle.jd_trees.specs.Events.{begun_events}
use Rattle.jd_check.specs.Progress.{IsBegun, IsOpened}
use Rattle.jd_check.specs.Runs.{IsWrongOrNot}
use Rattle.jd_check.proofs.EventByEvent.{leaf-goes, leaf-wrong}
use Rattle.jd_check.proofs.turns.begin.Goals as goal

pub returns-in-Open-clause-going : goal.returns-in-Open-clause-going
returns-in-Open-clause-going g c = λ p events h.
    let told = c.in_ok-part.ensures in
    subst (IsWrongOrNot p (events ++ begun_events c.args.kind []) c.«open».new.run (Some c.in-Open.part)) (sym c.requires.covers)
    (leaf-goes p events c.args.going.now.progress c.«open».new.run c.args.kind c.in-Open.part h
    (subst (IsOpened p h.nodes c.args.kind c.«open».new.run) c.in-Open.is (told.opened p h.nodes h.going h.taken)) (subst IsBegun c.in-Open.is told.begun))

pub returns-in-Shape-clause-going : goal.returns-in-Shape-clause-going
returns-in-Shape-clause-going g c = λ p events h.
    let told = c.in_ok-part.ensures in
    leaf-wrong p events h.nodes c.args.kind c.in-Shape.path h.events_are
    (subst (IsOpened p h.nodes c.args.kind c.«open».new.run) c.in-Shape.is (told.opened p h.nodes h.going h.taken))
