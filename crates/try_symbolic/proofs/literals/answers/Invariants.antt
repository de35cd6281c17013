use Rattle.hp_model.specs.Questions.{questions}
use Rattle.hp_ops.specs.Meaning.{operation}
use Rattle.jd_circuit.specs.Net.{Grows}
use Rattle.jd_symbolic.specs.Machine.{state_of}
use Rattle.hp_control.specs.SoFar.{AreSoFar}
use Rattle.try_symbolic.proofs.literals.answers.Given as goal

abbrev pub invariant-loop-place : goal.invariant-loop-place
invariant-loop-place g l = record {
  grows : Grows l.initial.c l.c;
  so_far : AreSoFar (questions (state_of l.machine) (operation l.op)) l.given.items;
}
