use Rattle.std.proofs.Common.{◌≡◌, true, ap, ◌∙◌}
use Rattle.jd_problem.specs.Problems.{problem_of}
use Rattle.jd_walk.specs.Walked.{Walked, is_done}
use Rattle.jd_walk.proofs.Standing.{spot-grown}
use Rattle.jd_walk.proofs.Nexts.{comes-here}
use Rattle.jd_walk.proofs.Differing.{differs-here, ended-here, standing-grown}
use Rattle.jd_walk.proofs.walks.Walk.done_with.Goals as goal

pub invariant_of-self-in-Some : goal.invariant_of-self-in-Some
invariant_of-self-in-Some g c = λ e.
    let i = c.self.inside in
    let done : is_done i.next ≡ true = ap (λ (v : Walked). is_done v.next) c.self.view_is ∙ c.requires.done in
    let w = c.self.invariant (ap (λ (v : Walked). v.spent) c.self.view_is ∙ c.requires.unspent) in
    standing-grown (problem_of i.problem) i.circuit c.literal_at.new.c i.path.items i.assumed.items i.guards.items i.saved.items i.first i.at i.next i.last
    c.in_ok-l-in-Some.ensures.grows c.in_ok-l-in-Some.ensures.few done w

pub returns-clause-means : goal.returns-clause-means
returns-clause-means g c = λ s ranged held.
    let i = c.self.inside in
    let p = problem_of i.problem in
    let net = c.literal_at.new.c in
    let done : is_done i.next ≡ true = ap (λ (v : Walked). is_done v.next) c.self.view_is ∙ c.requires.done in
    let w = c.self.invariant (ap (λ (v : Walked). v.spent) c.self.view_is ∙ c.requires.unspent) in
    let l = c.in_ok-l-in-Some.ensures in
    let spot = spot-grown p i.circuit net i.path.items i.assumed.items i.guards.items l.grows w.walk.spot in
    let over = ended-here p i.circuit i.path.items i.assumed.items i.guards.items i.saved.items i.first i.at i.next i.last c.in-Some.first done c.in-Some.is w in
    differs-here p i.circuit net i.path.items c.in-Some.first.run i.at i.last c.in_ok-l-in-Some.l (g.D.Difference.differs c.args.difference.now) w.walk.spot.inputs l.grows over l.means s
    (comes-here p net i.path.items i.assumed.items i.guards.items s spot ranged held)
