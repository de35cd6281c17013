use Rattle.std.proofs.Common.{Bool, List, false, Some, map, subst, length}
use Rattle.std.specs.Prelude.{is_some}
use Rattle.jd_problem.specs.Problems.{problem_of}
use Rattle.jd_walk.specs.Walked.{NextIs, most_gates}
use Rattle.jd_walk.specs.Rooms.{AreRoomy, HasRoomAt}
use Rattle.jd_walk.specs.Spots.{EndsHold, IsWalk, IsRun, FirstGoes, NextHolds, end_of, no_of}
use Rattle.jd_walk.proofs.Standing.{spot-grown}
use Rattle.jd_walk.proofs.Nexts.{walk-next, next-is}
use Rattle.jd_walk.proofs.Rooms.{next-few, roomy-next}
use Rattle.jd_walk.proofs.walks.Walk.next.Goals as goal

pub invariant_of-self-2 : goal.invariant_of-self-2
invariant_of-self-2 g c = λ unspent.
    let i = c.self.inside in
    let p = problem_of i.problem in
    let standing = c.self.invariant c.if-self.false in
    let w = standing.walk in
    let found = c.in_ok-next.ensures in
    let n = c.in_ok-next.next in
    let path = c.as_slice.ensures.value in
    record {
      walk = walk-next p i.circuit c.find_next.new.c i.path.items i.assumed.items i.guards.items i.saved.items i.first c.find_next.new.first i.at c.find_next.new.at n
          (subst (λ n. IsWalk p i.circuit i.path.items i.assumed.items i.guards.items i.saved.items i.first i.at n) c.in_default.is w) found.grows
          (subst (λ p. FirstGoes (length p) i.first c.find_next.new.first) path found.first)
          (λ going. subst (λ x. IsRun p c.find_next.new.c x (end_of c.find_next.new.first) c.find_next.new.at) path (found.run going))
          (subst (λ x. NextHolds p c.find_next.new.c x c.find_next.new.at (Some n)) path found.said);
      ends = subst (λ x. EndsHold p c.find_next.new.c x (end_of c.find_next.new.first) c.find_next.new.at c.find_next.new.last (Some n)) path found.ends;
      room = roomy-next p (length c.find_next.new.c.gates) i.path.items i.circuit i.assumed.items i.guards.items i.saved.items i.first c.find_next.new.first i.at c.find_next.new.at n i.problem.steps_most
          (subst (λ n. IsWalk p i.circuit i.path.items i.assumed.items i.guards.items i.saved.items i.first i.at n) c.in_default.is w)
          (subst (λ p. FirstGoes (length p) i.first c.find_next.new.first) path found.first)
          (subst (λ (x : List Bool). HasRoomAt p (is_some (end_of c.find_next.new.first)) (most_gates p) (length c.find_next.new.c.gates) (length x) c.find_next.new.at (Some n)) path found.room)
          (subst (AreRoomy p (length i.circuit.gates) (length i.path.items) i.saved.items i.first i.at) c.in_default.is standing.room);
    }

pub returns-in-Some-clause-said : goal.returns-in-Some-clause-said
returns-in-Some-clause-said g c =
    let i = c.self.inside in
    let p = problem_of i.problem in
    let w = (c.self.invariant c.if-self.false).walk in
    subst (λ v. NextIs v c.in-Some.next) c.self.view_is
    (next-is p i.circuit i.path.items i.assumed.items i.guards.items i.at i.next (map no_of i.saved.items) i.spent c.in-Some.next w.spot (subst (NextHolds p i.circuit i.path.items i.at) c.in-Some.is w.said))

pub returns-clause-said : goal.returns-clause-said
returns-clause-said g c =
    let i = c.self.inside in
    let p = problem_of i.problem in
    let w = (c.self.invariant c.if-self.false).walk in
    let found = c.in_ok-next.ensures in
    next-is p c.find_next.new.c i.path.items i.assumed.items i.guards.items c.find_next.new.at (Some c.in_ok-next.next) (map no_of i.saved.items) false c.in_ok-next.next
    (spot-grown p i.circuit c.find_next.new.c i.path.items i.assumed.items i.guards.items found.grows w.spot)
    (subst (λ x. NextHolds p c.find_next.new.c x c.find_next.new.at (Some c.in_ok-next.next)) c.as_slice.ensures.value found.said)

pub returns-clause-few : goal.returns-clause-few
returns-clause-few g c = λ none.
    let i = c.self.inside in
    let p = problem_of i.problem in
    let first = c.find_next.new.first in
    next-few p (is_some (end_of first)) (length c.find_next.new.c.gates) (length c.as_slice.result.now) c.find_next.new.at c.in_ok-next.next c.in_ok-next.ensures.room
