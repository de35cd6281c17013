use Rattle.std.proofs.Common.{◌≡◌, ◌<◌, ◌^◌, ◌++◌, List, length, map, true, not, arith, ap, sym, ◌∙◌, subst, refl}
use Rattle.jd_circuit.specs.Net.{IsLit, eval, variables}
use Rattle.jd_model.specs.Problems.{bits}
use Rattle.jd_problem.specs.Problems.{problem_of}
use Rattle.jd_trees.specs.declared.Kind.TheVariants.{Whole}
use Rattle.jd_books.specs.Leaves.{IsFaithfulTo, IsLeaf, Leaf}
use Rattle.jd_walk.specs.Leaves.{leaf_with_at}
use Rattle.jd_circuit.specs.declared.literals.Gate.{Gate}
use Rattle.jd_walk.specs.Spots.{no_of}
use Rattle.jd_walk.specs.Walked.{Walked, WhereGuarded, is_done}
use Rattle.jd_walk.proofs.Rooms.{roomy-few}
use Rattle.jd_walk.proofs.Leaving.{same-leaf}
use Rattle.jd_walk.proofs.Differing.{faithful-with, leaf-with}
use Rattle.jd_walk.proofs.walks.Walk.leaf_with.Goals as goal

pub invariant_of-result : goal.invariant_of-result
invariant_of-result g c =
    let i = c.self.inside in
    let same = c.self.view_is in
    let standing = c.self.invariant (ap (λ (v : Walked). v.spent) same ∙ c.requires.unspent) in
    let w = standing.walk in
    let room = roomy-few (problem_of i.problem) (length i.circuit.gates) (length i.path.items) i.saved.items i.first i.at i.next i.problem.steps_most standing.room in
    let few : length c.in_ok-gates.field-0 < 2 ^ 30 = omega (arith, room, ap (λ (gs : List Gate). length gs) c.in_ok-gates.ensures.gates) in
    let guards : c.in_ok-joined_guards.field-0 ≡ i.assumed.items ++ i.guards.items =
    c.in_ok-joined_guards.ensures ∙ ap (λ ls. ls ++ c.as_slice-3.result.now) c.as_slice-2.ensures.value ∙ ap (λ ls. i.assumed.items ++ ls) c.as_slice-3.ensures.value in
    let l : Leaf = record { path = c.in_ok-of.field-0; inputs = c.free_bits.result; gates = c.in_ok-gates.field-0; guards = c.in_ok-joined_guards.field-0; diff = c.args.diff; kind = Whole } in
    let here : Walked = record { problem = problem_of i.problem; net = i.circuit; path = i.path.items; guards = i.assumed.items ++ i.guards.items; next = i.next; noes = map no_of i.saved.items; spent = i.spent } in
    let is : l ≡ leaf_with_at here c.args.diff =
    same-leaf l (leaf_with_at here c.args.diff) (c.in_ok-of.ensures ∙ c.as_slice.ensures.value) (c.free_bits.ensures.value ∙ sym w.spot.inputs.inputs)
    c.in_ok-gates.ensures.gates guards refl refl in
    let inside : IsLit (variables i.circuit) c.args.diff = subst (λ (v : Walked). IsLit (variables v.net) c.args.diff) (sym same) c.requires.inside in
    let f : IsLeaf l = subst IsLeaf (sym is) (leaf-with (problem_of i.problem) i.circuit i.path.items i.assumed.items i.guards.items c.args.diff c.in_ok-gates.ensures.wired w.spot inside) in
    record {
      few = omega (arith, few, c.free_bits.ensures.bound);
      wired = f.gates;
      literals = f.literals;
    }

pub returns : goal.returns
returns g c =
    let i = c.self.inside in
    let same = c.self.view_is in
    let standing = c.self.invariant (ap (λ (v : Walked). v.spent) same ∙ c.requires.unspent) in
    let w = standing.walk in
    let room = roomy-few (problem_of i.problem) (length i.circuit.gates) (length i.path.items) i.saved.items i.first i.at i.next i.problem.steps_most standing.room in
    let few : length c.in_ok-gates.field-0 < 2 ^ 30 = omega (arith, room, ap (λ (gs : List Gate). length gs) c.in_ok-gates.ensures.gates) in
    let guards : c.in_ok-joined_guards.field-0 ≡ i.assumed.items ++ i.guards.items =
    c.in_ok-joined_guards.ensures ∙ ap (λ ls. ls ++ c.as_slice-3.result.now) c.as_slice-2.ensures.value ∙ ap (λ ls. i.assumed.items ++ ls) c.as_slice-3.ensures.value in
    let l : Leaf = record { path = c.in_ok-of.field-0; inputs = c.free_bits.result; gates = c.in_ok-gates.field-0; guards = c.in_ok-joined_guards.field-0; diff = c.args.diff; kind = Whole } in
    let here : Walked = record { problem = problem_of i.problem; net = i.circuit; path = i.path.items; guards = i.assumed.items ++ i.guards.items; next = i.next; noes = map no_of i.saved.items; spent = i.spent } in
    let is : l ≡ leaf_with_at here c.args.diff =
    same-leaf l (leaf_with_at here c.args.diff) (c.in_ok-of.ensures ∙ c.as_slice.ensures.value) (c.free_bits.ensures.value ∙ sym w.spot.inputs.inputs)
    c.in_ok-gates.ensures.gates guards refl refl in
    let inside : IsLit (variables i.circuit) c.args.diff = subst (λ (v : Walked). IsLit (variables v.net) c.args.diff) (sym same) c.requires.inside in
    let done : is_done i.next ≡ true = ap (λ (v : Walked). is_done v.next) same ∙ c.requires.done in
    let now : l ≡ leaf_with_at c.args.self.now c.args.diff = is ∙ ap (λ (v : Walked). leaf_with_at v c.args.diff) same in
    record {
      is = now;
      few = few;
      faithful = λ claim means.
          subst (IsFaithfulTo c.args.self.now.problem claim) (sym now)
          (subst (λ (v : Walked). WhereGuarded v (λ s. eval v.net (bits v.problem s) c.args.diff ≡ not (claim s)) → IsFaithfulTo v.problem claim (leaf_with_at v c.args.diff)) same
          (λ here_means. faithful-with (problem_of i.problem) i.circuit i.path.items i.assumed.items i.guards.items i.at i.next c.args.diff i.spent claim c.in_ok-gates.ensures.wired w.spot w.said done inside here_means) means);
    }
