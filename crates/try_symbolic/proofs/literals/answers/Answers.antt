use Rattle.std.proofs.Common.{◌≡◌, sym, subst, arith, refl, ap, ◌∙◌, Some}
use Rattle.std.proofs.Math.Seq.{take-length}
use Rattle.hp_model.specs.Questions.{questions, next_question}
use Rattle.hp_ops.specs.Meaning.{operation}
use Rattle.jd_symbolic.specs.Machine.{Asks, state_of}
use Rattle.jd_circuit.proofs.Values.{grows_trans}
use Rattle.hp_control.specs.SoFar.{AreSoFar}
use Rattle.hp_control.proofs.SoFar.{so_far_none, so_far_more}
use Rattle.try_symbolic.proofs.literals.answers.Goals as goal

pub loop-place-init : goal.loop-place-init
loop-place-init g c =
    let qs = questions (state_of c.args.machine.now) (operation c.args.op) in
    record {
      grows = record { inputs = refl; more = omega arith; front = take-length c.args.c.now.gates };
      so_far = subst (AreSoFar qs) (sym c.new-given.ensures) (so_far_none qs);
    }

-- an answer more to what was asked
pub loop-place-preserved : goal.loop-place-preserved
loop-place-preserved g c =
    let m = c.args.machine.now in
    let op = operation c.args.op in
    let qs = questions (state_of m) op in
    let given = c.loop-place.given.items in
    let asked = subst (Asks c.sym_asks.new.c m op c.as_slice.result.now) c.in-Some.is c.in_ok-asked.ensures.asks in
    let next : next_question qs given ≡ Some asked.question = ap (next_question qs) (sym c.as_slice.ensures.value) ∙ asked.next in
    record {
      grows = grows_trans c.args.c.now c.loop-place.c c.sym_asks.new.c c.loop-place.invariant.grows c.in_ok-asked.ensures.grows;
      so_far = subst (AreSoFar qs) (sym c.push.ensures.items) (so_far_more qs given asked.question c.in_ok-yes.yes next);
    }
