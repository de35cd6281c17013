use Rattle.std.proofs.Common.{ap, sym, ◌∙◌, subst, ◌∷◌, ◌++◌, [], true, None, length}
use Rattle.jd_problem.specs.Problems.{problem_of}
use Rattle.jd_walk.specs.Walked.{Walked}
use Rattle.jd_walk.specs.Rooms.{AreRoomy}
use Rattle.jd_walk.specs.Spots.{IsWalk}
use Rattle.jd_walk.proofs.Going.{walk-yes}
use Rattle.jd_walk.proofs.Rooms.{roomy-yes}
use Rattle.jd_walk.proofs.walks.Walk.say_yes.Goals as goal

pub invariant_of-self-2 : goal.invariant_of-self-2
invariant_of-self-2 g c = λ e.
    let i = c.self.inside in
    let standing = c.self.invariant (ap (λ (v : Walked). v.spent) c.self.view_is ∙ c.requires.unspent) in
    let w = standing.walk in
    let asked = ap (λ (v : Walked). v.next) c.self.view_is ∙ c.requires.asked in
    record {
      walk = subst (λ x. IsWalk (problem_of i.problem) i.circuit x i.assumed.items c.push.new.self.items i.saved.items i.first i.at None) (sym c.in_ok-push-2.ensures.items)
          (subst (λ x. IsWalk (problem_of i.problem) i.circuit (i.path.items ++ true ∷ []) i.assumed.items x i.saved.items i.first i.at None) (sym c.in_ok-push.ensures.items)
          (walk-yes (problem_of i.problem) i.circuit i.path.items i.assumed.items i.guards.items i.saved.items i.first i.at c.args.ask
          (subst (λ n. IsWalk (problem_of i.problem) i.circuit i.path.items i.assumed.items i.guards.items i.saved.items i.first i.at n) asked w)));
      ends = tt;
      room = subst (λ x. AreRoomy (problem_of i.problem) (length i.circuit.gates) (length x) i.saved.items i.first i.at None) (sym c.in_ok-push-2.ensures.items)
          (roomy-yes (problem_of i.problem) (length i.circuit.gates) i.path.items i.saved.items i.first i.at c.args.ask true
          (subst (λ n. AreRoomy (problem_of i.problem) (length i.circuit.gates) (length i.path.items) i.saved.items i.first i.at n) asked standing.room));
    }
