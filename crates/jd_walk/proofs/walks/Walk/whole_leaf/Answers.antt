use Rattle.std.proofs.Common.{◌≡◌, ◌<◌, ◌^◌, ◌++◌, List, length, arith, ap, sym, ◌∙◌, subst, refl}
use Rattle.jd_problem.specs.Problems.{problem_of}
use Rattle.jd_books.specs.Leaves.{Leaf, IsFaithful}
use Rattle.jd_walk.specs.Leaves.{diff_at, leaf_at}
use Rattle.jd_circuit.specs.declared.literals.Gate.{Gate}
use Rattle.jd_walk.specs.Walked.{Walked, is_done}
use Rattle.jd_walk.proofs.Rooms.{roomy-few}
use Rattle.jd_walk.proofs.Leaving.{leaf-faithful, same-leaf}
use Rattle.jd_walk.proofs.walks.Walk.whole_leaf.Goals as goal

pub invariant_of-result : goal.invariant_of-result
invariant_of-result g c =
    let i = c.self.inside in
    let same = c.self.view_is in
    let standing = c.self.invariant (ap (λ (v : Walked). v.spent) same ∙ c.requires.unspent) in
    let w = standing.walk in
    let room = roomy-few (problem_of i.problem) (length i.circuit.gates) (length i.path.items) i.saved.items i.first i.at i.next i.problem.steps_most standing.room in
    let few : length c.in_ok-gates.field-0 < 2 ^ 30 = omega (arith, room, ap (λ (gs : List Gate). length gs) c.in_ok-gates.ensures.gates) in
    let guards : c.in_ok-joined_guards.field-0 ≡ i.assumed.items ++ i.guards.items =
    c.in_ok-joined_guards.ensures ∙ ap (λ ls. ls ++ c.as_slice-3.result.now) c.as_slice-2.ensures.value ∙ ap (λ ls. i.assumed.items ++ ls) c.as_slice-3.ensures.value in
    let gates = c.in_ok-gates.ensures.gates in
    let l : Leaf = record { path = c.in_ok-of.field-0; inputs = c.free_bits.result; gates = c.in_ok-gates.field-0; guards = c.in_ok-joined_guards.field-0; diff = c.diff_of.result; kind = c.args.kind } in
    let f : IsFaithful (problem_of i.problem) l =
    leaf-faithful (problem_of i.problem) i.circuit i.path.items i.assumed.items i.guards.items i.saved.items i.first i.at i.next c.args.kind l c.in_ok-gates.ensures.wired w
    (λ e. ap (λ (v : Walked). is_done v.next) same ∙ c.requires.whole e)
    (c.in_ok-of.ensures ∙ c.as_slice.ensures.value) c.free_bits.ensures.value gates guards c.diff_of.ensures refl in
    record {
      few = omega (arith, few, c.free_bits.ensures.bound);
      wired = f.leaf.gates;
      literals = f.leaf.literals;
    }

pub returns : goal.returns
returns g c =
    let i = c.self.inside in
    let same = c.self.view_is in
    let standing = c.self.invariant (ap (λ (v : Walked). v.spent) same ∙ c.requires.unspent) in
    let w = standing.walk in
    let room = roomy-few (problem_of i.problem) (length i.circuit.gates) (length i.path.items) i.saved.items i.first i.at i.next i.problem.steps_most standing.room in
    let few : length c.in_ok-gates.field-0 < 2 ^ 30 = omega (arith, room, ap (λ (gs : List Gate). length gs) c.in_ok-gates.ensures.gates) in
    let path : c.in_ok-of.field-0 ≡ i.path.items = c.in_ok-of.ensures ∙ c.as_slice.ensures.value in
    let guards : c.in_ok-joined_guards.field-0 ≡ i.assumed.items ++ i.guards.items =
    c.in_ok-joined_guards.ensures ∙ ap (λ ls. ls ++ c.as_slice-3.result.now) c.as_slice-2.ensures.value ∙ ap (λ ls. i.assumed.items ++ ls) c.as_slice-3.ensures.value in
    let gates = c.in_ok-gates.ensures.gates in
    let l : Leaf = record { path = c.in_ok-of.field-0; inputs = c.free_bits.result; gates = c.in_ok-gates.field-0; guards = c.in_ok-joined_guards.field-0; diff = c.diff_of.result; kind = c.args.kind } in
    record {
      is = same-leaf l (leaf_at c.args.self.now c.args.kind)
          (path ∙ ap (λ (v : Walked). v.path) same)
          (c.free_bits.ensures.value ∙ sym w.spot.inputs.inputs ∙ ap (λ (v : Walked). v.net.inputs) same)
          (gates ∙ ap (λ (v : Walked). v.net.gates) same)
          (guards ∙ ap (λ (v : Walked). v.guards) same)
          (c.diff_of.ensures ∙ ap (λ (v : Walked). diff_at v.next c.args.kind) same)
          refl;
      few = few;
      faithful = subst (λ p. IsFaithful p l) (ap (λ (v : Walked). v.problem) same)
          (leaf-faithful (problem_of i.problem) i.circuit i.path.items i.assumed.items i.guards.items i.saved.items i.first i.at i.next c.args.kind l c.in_ok-gates.ensures.wired w
          (λ e. ap (λ (v : Walked). is_done v.next) same ∙ c.requires.whole e)
          path c.free_bits.ensures.value gates guards c.diff_of.ensures refl);
    }
