use Rattle.std.proofs.Common.{◌≡◌, sym, ap, ◌∙◌, arith}
use Rattle.hp_model.specs.State.{Control, register_nibbles}
use Rattle.jd_model.specs.Problems.{bits}
use Rattle.jd_model.specs.Seen.{first_control}
use Rattle.jd_model.proofs.FreeStarts.{bits-of-starts}
use Rattle.jd_books.specs.Walks.{routine_of}
use Rattle.jd_circuit.specs.Net.{Net}
use Rattle.jd_symbolic.specs.Machine.{state_of}
use Rattle.jd_problem.specs.Problems.{problem_of}
use Rattle.jd_walk.proofs.begins.begun.Goals as goal

pub returns-clause-begun : goal.returns-clause-begun
returns-clause-begun g c =
    let p = problem_of c.args.problem.now in
    let m = c.in_ok-machine.machine in
    let e = c.in_ok-machine.ensures in
    let starts = bits-of-starts p c.blocks-2.ensures.ranges in
    let control : state_of m ≡ first_control p (routine_of p c.args.second) = e.control in
    let line : m.control.line ≡ 1 = ap (λ (k : Control). k.line) control in
    record {
      control = control;
      machine = record { stands = e.stands; line = omega (arith, line) };
      memory = ap (λ (k : Control). register_nibbles k.bytes k.blocks) control;
      means = λ s ranged. e.means (bits p s) (starts.count s ranged ∙ sym c.requires.inputs ∙ ap (λ (n : Net). n.inputs) (sym e.same)) ∙ starts.start s ranged;
    }
