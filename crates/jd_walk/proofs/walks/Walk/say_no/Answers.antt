use Rattle.std.proofs.Common.{◌≡◌, ap, sym, ◌∙◌, subst, ◌∷◌, ◌++◌, [], false, None, length, ℕ, List, Bool}
use Rattle.jd_circuit.specs.declared.circuit.Mark.{Mark}
use Rattle.jd_circuit.specs.Meaning.{opposite}
use Rattle.jd_walk.specs.declared.places.Saved.{Saved}
use Rattle.jd_problem.specs.Problems.{problem_of}
use Rattle.jd_walk.specs.Walked.{Walked}
use Rattle.jd_walk.specs.Rooms.{AreRoomy}
use Rattle.jd_walk.specs.Spots.{IsWalk}
use Rattle.jd_walk.proofs.Going.{walk-no}
use Rattle.jd_walk.proofs.Rooms.{roomy-no}
use Rattle.jd_walk.proofs.walks.Walk.say_no.Goals as goal

pub invariant_of-self-2 : goal.invariant_of-self-2
invariant_of-self-2 g c = λ e.
    let i = c.self.inside in
    let standing = c.self.invariant (ap (λ (v : Walked). v.spent) c.self.view_is ∙ c.requires.unspent) in
    let w = standing.walk in
    let asked = ap (λ (v : Walked). v.next) c.self.view_is ∙ c.requires.asked in
    let now : Mark → ℕ → Saved = λ m n. record { at = n; ask = c.args.ask; mark = m; position = i.at } in
    let saved : c.save.new.saved.items ≡ i.saved.items ++ now (record { gates = length i.circuit.gates }) (length i.path.items) ∷ [] =
    c.in_ok-save.ensures
    ∙ ap (λ (p : List Bool). i.saved.items ++ now c.mark.result (length p) ∷ []) c.as_slice.ensures.value
    ∙ ap (λ n. i.saved.items ++ now (record { gates = n }) (length i.path.items) ∷ []) c.mark.ensures.gates in
    record {
      walk = subst (λ x. IsWalk (problem_of i.problem) i.circuit x i.assumed.items c.push.new.self.items c.save.new.saved.items i.first i.at None) (sym c.in_ok-push-2.ensures.items)
          (subst (λ x. IsWalk (problem_of i.problem) i.circuit (i.path.items ++ false ∷ []) i.assumed.items x c.save.new.saved.items i.first i.at None) (sym (c.in_ok-push.ensures.items ∙ ap (λ l. i.guards.items ++ l ∷ []) c.opposite.ensures))
          (subst (λ x. IsWalk (problem_of i.problem) i.circuit (i.path.items ++ false ∷ []) i.assumed.items (i.guards.items ++ opposite c.args.ask ∷ []) x i.first i.at None) (sym saved)
          (walk-no (problem_of i.problem) i.circuit i.path.items i.assumed.items i.guards.items i.saved.items i.first i.at c.args.ask
          (subst (λ n. IsWalk (problem_of i.problem) i.circuit i.path.items i.assumed.items i.guards.items i.saved.items i.first i.at n) asked w))));
      ends = tt;
      room = subst (λ x. AreRoomy (problem_of i.problem) (length i.circuit.gates) (length x) c.save.new.saved.items i.first i.at None) (sym c.in_ok-push-2.ensures.items)
          (subst (λ x. AreRoomy (problem_of i.problem) (length i.circuit.gates) (length (i.path.items ++ false ∷ [])) x i.first i.at None) (sym saved)
          (roomy-no (problem_of i.problem) (length i.circuit.gates) i.path.items i.saved.items i.first i.at c.args.ask w.within
          (subst (λ n. AreRoomy (problem_of i.problem) (length i.circuit.gates) (length i.path.items) i.saved.items i.first i.at n) asked standing.room)));
    }
