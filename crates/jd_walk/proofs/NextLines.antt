-- The next line of a symbolic machine, by what its operation asks and does at the line after it.
use Rattle.std.proofs.Common.{◌≡◌, ℕ, ◌+◌, ◌≤◌, min, Bool, true, List, [], ◌∷◌, length, Option, Some, None, refl, sym, ap, ◌∙◌, subst, arith}
use Rattle.std.specs.Prelude.{All}
use Rattle.std.proofs.lemmas.List.Elements.{All-head, All-tail}
use Rattle.hp_model.specs.declared.End.TheVariants.{Return, Halt, Error}
use Rattle.hp_model.specs.declared.Stop.{Stop}
use Rattle.hp_model.specs.declared.Stop.TheVariants.{Go, Ended}
use Rattle.hp_model.specs.Operations.{Operation}
use Rattle.hp_model.specs.State.{Control, register_nibbles}
use Rattle.hp_model.specs.Questions.{IsComplete, answers, are_complete, asks, next_question}
use Rattle.hp_model.specs.ControlStep.{control_step}
use Rattle.hp_model.specs.DataStep.{data_step}
use Rattle.hp_model.specs.Run.{advanced, at_line_number, next_operation, restored}
use Rattle.hp_model.specs.Laws.{are_lines, Stands as StandsAt}
use Rattle.hp_model.proofs.GoesOn.{control_step-goes}
use Rattle.hp_model.proofs.Kept.{KeepsProgram, control_step-keeps}
use Rattle.jd_circuit.specs.declared.literals.Lit.{Lit}
use Rattle.jd_circuit.specs.Net.{Net, Solves}
use Rattle.jd_questions.specs.Questions as literals
use Rattle.jd_content.specs.Meaning.{data_on}
use Rattle.jd_symbolic.specs.declared.machine.SymMachine.{SymMachine}
use Rattle.jd_symbolic.specs.Machine.{Asks, Stands, Steps, state_of}
use Rattle.jd_books.specs.Paths.{line_questions}
use Rattle.jd_walk.specs.NextLine.{IsLineAsk, LineAsks, LineSteps, StandsAtLine, at_line, nibbles_of, restored_at}
use Rattle.jd_walk.proofs.Answering.{answers-front}

-- the number of the line after the next one
abbrev IsFollowing : SymMachine → ℕ → Type 0
IsFollowing m line = line ≡ min (m.control.line + 1) (length m.codes + 1)

advanced-is : (m : SymMachine) (line : ℕ) → IsFollowing m line → state_of (at_line line m) ≡ advanced (state_of m)
advanced-is m line e = ap (λ n. at_line_number n (state_of m)) e

pub stands-following : (net : Net) (m : SymMachine) (line : ℕ) → IsFollowing m line → Stands net m → Stands net (at_line line m)
stands-following net m line e h = record {
  fits = h.fits;
  nibbles = h.nibbles;
  bounds = record { window = h.bounds.window; line = omega (arith, e); calls = h.bounds.calls; entry = h.bounds.entry };
}

-- ---- what the line asks

none-is-some : {A : Type 0} {a : A} → None ≡ Some a → ⊥
none-is-some h = cc

asks-from : (net : Net) (m : SymMachine) (given : List Bool) (asked : Option Lit)
    → literals.Asks net (advanced (state_of m)) m.content (next_operation (state_of m)) given asked → LineAsks net m given asked
asks-from net m given None a = record { none = λ e. a; some = λ l e. absurd (none-is-some e) }
asks-from net m given (Some l) a = record {
  none = λ e. absurd (none-is-some (sym e));
  some = λ k e. (let same : l ≡ k = cc in subst (IsLineAsk net m given) same (record {
    question = a.question;
    is_open = a.next;
    inside = a.inside;
    means = λ val rest solves begun.
        a.means val solves (answers-front (line_questions (state_of m)) given a.question (advanced (state_of m)) (data_on val m.content) rest a.next begun);
  }));
}

pub asks-of-line : (net : Net) (m : SymMachine) (line : ℕ) (op : Operation) (given : List Bool) (asked : Option Lit) → IsFollowing m line → op ≡ next_operation (state_of m)
    → Asks net (at_line line m) op given asked → LineAsks net m given asked
asks-of-line net m line op given asked following next a =
    asks-from net m given asked
    (subst (λ c. literals.Asks net c m.content (next_operation (state_of m)) given asked) (advanced-is m line following)
    (subst (λ o. literals.Asks net (state_of (at_line line m)) m.content o given asked) next a))

-- the gates that the literal of its question may take
pub gates-of-line : (m : SymMachine) (line : ℕ) (op : Operation) (given : List Bool) (old new : ℕ) → IsFollowing m line → op ≡ next_operation (state_of m)
    → new ≤ old + literals.asked_gates (asks (state_of (at_line line m)) op given) → new ≤ old + literals.asked_gates (next_question (line_questions (state_of m)) given)
gates-of-line m line op given old new following next more =
    subst (λ c. new ≤ old + literals.asked_gates (asks c (next_operation (state_of m)) given)) (advanced-is m line following)
    (subst (λ o. new ≤ old + literals.asked_gates (asks (state_of (at_line line m)) o given)) next more)

-- ---- what the line does

pub complete-at_line : (m : SymMachine) (line : ℕ) (op : Operation) (given : List Bool) → IsFollowing m line → op ≡ next_operation (state_of m)
    → are_complete (line_questions (state_of m)) given ≡ true → IsComplete (state_of (at_line line m)) op given
complete-at_line m line op given following next all =
    subst (λ o. IsComplete (state_of (at_line line m)) o given) (sym next)
    (subst (λ c. IsComplete c (next_operation (state_of m)) given) (sym (advanced-is m line following)) all)

restored-is : (line : ℕ) (stop : Stop) (m : SymMachine) → restored line (state_of m, stop) ≡ (state_of (restored_at line stop m), stop)
restored-is line Go m = refl
restored-is line (Ended Return) m = refl
restored-is line (Ended Halt) m = refl
restored-is line (Ended (Error n)) m = refl

stands-restored : (net : Net) (line : ℕ) (stop : Stop) (m : SymMachine) → line ≤ length m.codes + 1 → Stands net m → Stands net (restored_at line stop m)
stands-restored net line Go m within h = h
stands-restored net line (Ended Return) m within h = h
stands-restored net line (Ended Halt) m within h = h
stands-restored net line (Ended (Error n)) m within h = record {
  fits = h.fits;
  nibbles = h.nibbles;
  bounds = record { window = h.bounds.window; line = within; calls = h.bounds.calls; entry = h.bounds.entry };
}

content-restored : (line : ℕ) (stop : Stop) (m : SymMachine) (val : ℕ → Bool) → data_on val (restored_at line stop m).content ≡ data_on val m.content
content-restored line Go m val = refl
content-restored line (Ended Return) m val = refl
content-restored line (Ended Halt) m val = refl
content-restored line (Ended (Error n)) m val = refl

pub steps-of-line : (net : Net) (m mid : SymMachine) (line : ℕ) (op : Operation) (given : List Bool) (stop : Stop) → IsFollowing m line → op ≡ next_operation (state_of m)
    → m.control.line ≤ length m.codes + 1 → Steps net (at_line line m) mid stop op given → LineSteps net m (restored_at m.control.line stop mid) given stop
steps-of-line net m mid line op given stop following next within s =
    let c = advanced (state_of m) in
    let o = next_operation (state_of m) in
    let is : control_step c o given ≡ (state_of mid, stop) =
    ap (λ k. control_step k o given) (sym (advanced-is m line following)) ∙ ap (λ p. control_step (state_of (at_line line m)) p given) (sym next) ∙ s.control in
    let Keeps : Control × Stop → Type 0 = λ r. KeepsProgram c r.0 in
    let kept = subst Keeps is (control_step-keeps c o given) in
    let Does : Control → Operation → Type 0 = λ k p. (val : ℕ → Bool) → Solves net val → answers k p (data_on val m.content) ≡ given → data_on val mid.content ≡ data_step k p given (data_on val m.content) in
    let contents = subst (λ k. Does k o) (advanced-is m line following) (subst (Does (state_of (at_line line m))) next s.contents) in
    record {
      control = ap (restored m.control.line) is ∙ restored-is m.control.line stop mid;
      contents = λ val solves own. content-restored m.control.line stop mid val ∙ contents val solves own;
      stands = stands-restored net m.control.line stop mid (omega (arith, ap length kept.program, within)) s.stands;
    }

-- ---- what follows from a line done

restored-keeps : (c : Control) (line : ℕ) (r : Control × Stop) → KeepsProgram c r.0 → KeepsProgram c (restored line r).0
restored-keeps c line (k, Go) h = h
restored-keeps c line (k, Ended Return) h = h
restored-keeps c line (k, Ended Halt) h = h
restored-keeps c line (k, Ended (Error n)) h = record { bytes = h.bytes; program = h.program; blocks = h.blocks }

-- the registers have as many nibbles as before
pub memory-kept : (net : Net) (m new : SymMachine) (given : List Bool) (stop : Stop) → LineSteps net m new given stop → nibbles_of new ≡ nibbles_of m
memory-kept net m new given stop s =
    let c = advanced (state_of m) in
    let Keeps : Control × Stop → Type 0 = λ r. KeepsProgram c r.0 in
    let kept = subst Keeps s.control (restored-keeps c m.control.line (control_step c (next_operation (state_of m)) given) (control_step-keeps c (next_operation (state_of m)) given)) in
    ap (λ n. register_nibbles n new.blocks) kept.bytes ∙ ap (register_nibbles (state_of m).bytes) kept.blocks

restored-go : (line : ℕ) (r : Control × Stop) (k : Control) → restored line r ≡ (k, Go) → r ≡ (k, Go)
restored-go line (c, Go) k e = e
restored-go line (c, Ended Return) k e = e
restored-go line (c, Ended Halt) k e = e
restored-go line (c, Ended (Error n)) k e = let stops : Ended (Error n) ≡ Go = ap (λ (r : Control × Stop). r.1) e in absurd (goes stops)
  where
    goes : Ended (Error n) ≡ Go → ⊥
    goes h = cc

lines_of_all : (last : ℕ) (calls : List ℕ) → All (λ line. (1 ≤ line) × (line ≤ last)) calls → are_lines calls
lines_of_all last [] h = tt
lines_of_all last (line ∷ calls) h =
    let Within : ℕ → Type 0 = λ i. (1 ≤ i) × (i ≤ last) in
    let first : Within line = All-head Within line calls h in
    (first.0, lines_of_all last calls (All-tail Within line calls h))

-- a run that goes on stands at a line again
pub stands-on : (old net : Net) (m new : SymMachine) (given : List Bool) → Stands old m → LineSteps net m new given Go → StandsAtLine net new
stands-on old net m new given h s =
    let c = advanced (state_of m) in
    let begins : StandsAt c = record { line = omega arith; calls = lines_of_all (length m.codes + 1) m.control.calls h.bounds.calls } in
    let is = restored-go m.control.line (control_step c (next_operation (state_of m)) given) (state_of new) s.control in
    let Goes : Control × Stop → Type 0 = λ r. r.1 ≡ Go → StandsAt r.0 in
    let ends = subst Goes is (λ e. control_step-goes c (next_operation (state_of m)) given begins e) refl in
    record { stands = s.stands; line = ends.line }
