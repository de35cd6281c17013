use Rattle.std.proofs.Common.{◌≡◌, Bool, false, List, length, map, None, refl, sym, ap, ◌∙◌, subst, arith}
use Rattle.std.specs.Prelude.{All}
use Rattle.std.proofs.lemmas.List.Elements.{All-nil}
use Rattle.jd_problem.specs.Problems.{problem_of}
use Rattle.jd_circuit.specs.Net.{Net, variables}
use Rattle.jd_vectors.specs.Number.{Inside}
use Rattle.jd_walk.specs.Rooms.{HadRoom, gates_to_end}
use Rattle.jd_walk.specs.Spots.{IsFor, no_of}
use Rattle.jd_walk.proofs.Ends.{begun-grown}
use Rattle.jd_walk.proofs.Nexts.{Means, begun-assumed, walk-begun}
use Rattle.jd_walk.proofs.Rooms.{room-begun}
use Rattle.jd_walk.proofs.Turning.{for-grown}
use Rattle.jd_walk.proofs.walks.Walk.new.Goals as goal

pub begun-requires : goal.begun-requires
begun-requires g c = record { inputs = ap (λ (n : Net). n.inputs) c.in_ok-circuit.ensures ∙ c.free_bits.ensures.value }

pub invariant_of-result : goal.invariant_of-result
invariant_of-result g c = λ unspent.
    let p = problem_of c.copy-problem.result in
    let m = c.in_ok-machine.machine in
    let first = c.in_ok-machine.ensures in
    let more = c.in_ok-literals.ensures in
    let net = c.sym_assume.new.c in
    let inputs : IsFor p c.begun.new.c =
    record { inputs = ap (λ (n : Net). n.inputs) (first.same ∙ c.in_ok-circuit.ensures) ∙ c.free_bits.ensures.value } in
    let same = c.in_ok-assumed.ensures in
    record {
      walk = walk-begun p c.begun.new.c net m c.new-2.result.items c.in_ok-assumed.assumed.items c.new-3.result.items c.new-4.result.items _ inputs more.grows c.mark.ensures.wired first.begun
          (subst (Inside (variables net)) (sym same) more.of) (subst (Means p net m) (sym same) more.means)
          c.new-2.ensures.items c.new-3.ensures.items c.new-4.ensures.items refl;
      ends = tt;
      room = record {
        here = room-begun (gates_to_end p false) (length net.gates) (length c.new-2.result.items) _
            (let none : length c.begun.new.c.gates ≡ 0 = ap (λ (n : Net). length n.gates) (first.same ∙ c.in_ok-circuit.ensures) in omega (arith, none, more.more)) (ap (λ (xs : List Bool). length xs) (sym c.new-2.ensures.items));
        kept = subst (All (HadRoom p None)) (sym c.new-4.ensures.items) (All-nil (HadRoom p None));
      };
    }

pub returns-clause-assumed : goal.returns-clause-assumed
returns-clause-assumed g c =
    let p = problem_of c.copy-problem.result in
    let first = c.in_ok-machine.ensures in
    let more = c.in_ok-literals.ensures in
    let net = c.sym_assume.new.c in
    let m = c.in_ok-machine.machine in
    let begins : IsFor p c.begun.new.c =
    record { inputs = ap (λ (n : Net). n.inputs) (first.same ∙ c.in_ok-circuit.ensures) ∙ c.free_bits.ensures.value } in
    begun-assumed p net c.new-2.result.items c.in_ok-assumed.assumed.items c.new-3.result.items None (map no_of c.new-4.result.items) false m (for-grown p c.begun.new.c net more.grows begins) c.mark.ensures.wired
    (begun-grown p false c.begun.new.c net m begins more.grows first.begun) (subst (Means p net m) (sym c.in_ok-assumed.ensures) more.means) c.new-3.ensures.items

pub returns-clause-few : goal.returns-clause-few
returns-clause-few g c =
    let none : length c.begun.new.c.gates ≡ 0 = ap (λ (n : Net). length n.gates) (c.in_ok-machine.ensures.same ∙ c.in_ok-circuit.ensures) in
    omega (arith, none, c.in_ok-literals.ensures.more)
