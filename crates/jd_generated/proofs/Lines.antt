-- Operations that are done one after another, as the lines of a program.
use Rattle.std.proofs.Common.{◌≡◌, ℕ, suc, ◌+◌, ◌-◌, ◌<◌, ◌≤◌, min, false, List, [], ◌∷◌, ◌++◌, length, map, slice_index, nat_lt, arith, refl, sym, ap, subst, ◌∙◌}
use Rattle.std.proofs.lemmas.Bool.Decides.{nat_tests}
use Rattle.hp_model.specs.declared.Stop.TheVariants.{Go}
use Rattle.hp_model.specs.Operations.{Operation}
use Rattle.hp_model.specs.Codes.{operation_of, code_of}
use Rattle.hp_model.specs.State.{Control, Machine}
use Rattle.hp_model.specs.Questions.{answers}
use Rattle.hp_model.specs.ControlStep.{control_step}
use Rattle.hp_model.specs.DataStep.{data_step}
use Rattle.hp_model.specs.Run.{Step, line_done, restored, run}
use Rattle.hp_model.proofs.Runs.{run-goes}

-- control at the next line
abbrev pub next_line : Control → Control
next_line c = record c { line = suc c.line }

-- an operation done as the present line
abbrev pub done_here : Operation → Machine → Step
done_here op m =
    let given = answers (next_line m.control) op m.contents in
    let moved = restored m.control.line (control_step (next_line m.control) op given) in
    record {
      machine = record { control = moved.0; contents = data_step (next_line m.control) op given m.contents };
      stop = moved.1;
    }

abbrev pub done_all : List Operation → Machine → Machine
done_all [] m = m
done_all (op ∷ ops) m = done_all ops (done_here op m).machine

-- operations after each of which the run goes on at the next line of the same program
abbrev pub GoOn : List Operation → Machine → Type 0
GoOn [] m = Unit {0}
GoOn (op ∷ ops) m = (operation_of (code_of op) ≡ op) × ((done_here op m).stop ≡ Go)
    × ((done_here op m).machine.control.program ≡ m.control.program) × ((done_here op m).machine.control.line ≡ suc m.control.line)
    × GoOn ops (done_here op m).machine

-- codes that stand in a program after so many lines
pub record Stand (program : List ℕ) (i : ℕ) (codes : List ℕ) : Type 0 where
  pub inside : i + length codes ≤ length program
  pub same : (k : ℕ) → k < length codes → slice_index program (i + k) ≡ slice_index codes k

pub all-stand : (codes : List ℕ) → Stand codes 0 codes
all-stand codes = record { inside = omega arith; same = λ k below. (let e : 0 + k ≡ k = omega arith in rw e refl) }

pub rest-stand : (program codes : List ℕ) (i code : ℕ) → Stand program i (code ∷ codes) → Stand program (suc i) codes
rest-stand program codes i code s = record {
  inside = (let e = s.inside in omega arith);
  same = λ k below. (let next : suc i + k ≡ i + suc k = omega arith in rw next (s.same (suc k) (omega arith)));
}

-- the operation of the next line
pub line-done : (m : Machine) (i : ℕ) (op : Operation) → m.control.line ≡ suc i → i < length m.control.program
    → slice_index m.control.program i ≡ code_of op → operation_of (code_of op) ≡ op → line_done m ≡ done_here op m
line-done m i op line inside code back =
    let not_past : nat_lt (length m.control.program) m.control.line ≡ false = grind (arith, nat_tests) in
    let next : min (m.control.line + 1) (length m.control.program + 1) ≡ suc m.control.line = omega arith in
    let here : m.control.line - 1 ≡ i = omega arith in
    rw (not_past, line_done) (rw next (rw here (rw code (rw back refl))))

pub zero-after : (i : ℕ) → i + 0 ≡ i
zero-after i = omega arith

pub run-all : (ops : List Operation) (m : Machine) (i n : ℕ) → m.control.line ≡ suc i → Stand m.control.program i (map code_of ops) → GoOn ops m
    → run (length ops + n) m ≡ run n (done_all ops m)
run-all [] m i n line s goes = (let e : 0 + n ≡ n = omega arith in rw e refl)
run-all (op ∷ ops) m i n line s (back, stop, program, next, goes) =
    let here : slice_index m.control.program i ≡ code_of op = subst (λ k. slice_index m.control.program k ≡ code_of op) (zero-after i) (s.same 0 (omega arith)) in
    let done : line_done m ≡ done_here op m = line-done m i op line (let e = s.inside in omega arith) here back in
    let goes_on : (line_done m).stop ≡ Go = ap (λ step. step.stop) done ∙ stop in
    let count : length (op ∷ ops) + n ≡ suc (length ops + n) = omega arith in
    let stands : Stand (done_here op m).machine.control.program (suc i) (map code_of ops) =
    subst (λ p. Stand p (suc i) (map code_of ops)) (sym program) (rest-stand m.control.program (map code_of ops) i (code_of op) s) in
    ap (λ k. run k m) count ∙ (run-goes (length ops + n) m goes_on ∙ (ap (λ step. run (length ops + n) step.machine) done
    ∙ run-all ops (done_here op m).machine (suc i) n (next ∙ ap suc line) stands goes))

-- ---- several pieces one after another

pub done-both : (ops more : List Operation) (m : Machine) → done_all (ops ++ more) m ≡ done_all more (done_all ops m)
done-both [] more m = refl
done-both (op ∷ ops) more m = done-both ops more (done_here op m).machine

pub go-both : (ops more : List Operation) (m : Machine) → GoOn ops m → GoOn more (done_all ops m) → GoOn (ops ++ more) m
go-both [] more m goes further = further
go-both (op ∷ ops) more m (back, stop, program, next, goes) further =
    (back, stop, program, next, go-both ops more (done_here op m).machine goes further)

pub line-after : (ops : List Operation) (m : Machine) → GoOn ops m → (done_all ops m).control.line ≡ length ops + m.control.line
line-after [] m goes = omega arith
line-after (op ∷ ops) m (back, stop, program, next, goes) =
    let e = line-after ops (done_here op m).machine goes in omega arith
