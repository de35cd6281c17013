-- No key changes a nibble that it isn't said to write.
use Rattle.std.proofs.Common.{◌≡◌, ℕ, zero, suc, ◌+◌, ◌-◌, ◌/◌, ◌≤◌, ◌<◌, max, Bool, true, false, nat_le, nat_lt, ◌&&◌, ◌||◌, ◌==◌, List, [], ◌∷◌, Option, Some, None, length, take, slice_index, replicate, insert, remove, refl, sym, ◌∙◌, arith, if◌then◌else◌}
use Rattle.std.proofs.lemmas.Bool.Decides.{nat_tests}
use Rattle.std.proofs.Math.Seq.{get_or-append_right}
use Rattle.std.proofs.lemmas.List.{get_or_past, get_or_append_left, get_or-take, get_or-replicate, length-take, take_all}
use Rattle.hp_model.specs.declared.End.{End}
use Rattle.hp_model.specs.declared.Stop.{Stop}
use Rattle.hp_model.specs.declared.Stop.TheVariants.{Go, Ended}
use Rattle.hp_model.specs.Operations.{Operation, Target}
use Rattle.hp_model.specs.Operations as ops
use Rattle.hp_model.specs.State.{Machine, lines, radix, register_nibbles, blocks_of}
use Rattle.hp_model.specs.Memory.{resized}
use Rattle.hp_model.specs.Run.{Step, operated, line_done, at_next_line, next_operation, at_control_line, run, trace}
use Rattle.hp_model.specs.Keys.{Command, Prefix, Pressed}
use Rattle.hp_model.specs.Keys as keys
use Rattle.hp_model.specs.Press.{Calculator, commanded, after_press, press, is_full, Shown, ready_to_search, pressed_goto, pressed_operation, without_entry, without_calls, went, normally, run_from, shown_run, lines_per_key, in_run_mode, in_program_mode, taken_back_from, with_entry, cleared, failing, gone_to_line, inserted, deleted, reprogrammed}
use Rattle.hp_model.specs.Codes.{code_of}
use Rattle.hp_model.specs.declared.View.TheVariants.{Normal}
use Rattle.hp_model.specs.declared.Key.{Key}
use Rattle.hp_model.specs.Prefixes.{press_key}
use Rattle.hp_model.specs.WrittenNibbles.{wrote, wrote_by, wrote_of, all_wrote, pressed_all, operated_all, all_write, writes, unless_error, any_writes, trace_from, trace_after, done_by_operation, done_by, is_of_program, edits}
use Rattle.hp_model.proofs.KeptNibbles.{step-nibble}
use Rattle.hp_model.proofs.Runs.{run-goes, run-ends}

abbrev pub IsKept : ℕ → Machine → Machine → Type 0
IsKept j old new = slice_index new.contents.nibbles j ≡ slice_index old.contents.nibbles j

neither : (a b : Bool) → (a || b) ≡ false → (a ≡ false) × (b ≡ false)
neither false b h = (refl, h)
neither true b h = cc

unless_error-false : (e : Option ℕ) → unless_error e false ≡ false
unless_error-false None = refl
unless_error-false (Some n) = refl

-- ---- runs

line-nibble : (m : Machine) (j : ℕ) → writes (next_operation m.control) (at_next_line m) j ≡ false → IsKept j m (line_done m).machine
line-nibble m j unwritten = step-nibble (next_operation m.control) (at_next_line m) j unwritten

run-by_stop : (n : ℕ) (m : Machine) (j : ℕ) (stop : Stop) → (line_done m).stop ≡ stop → IsKept j m (line_done m).machine
    → (any_writes (trace n (line_done m).machine) j ≡ false → IsKept j (line_done m).machine (run n (line_done m).machine).1)
    → any_writes (trace (suc n) m) j ≡ false → IsKept j m (run (suc n) m).1
run-by_stop n m j Go goes first later unwritten =
    let rest : any_writes (elim (line_done m).stop [ Go ↦ trace n (line_done m).machine | Ended end ↦ [] ]) j ≡ false = (neither _ _ unwritten).1 in
    rw (run-goes n m goes) (later (rw goes at rest) ∙ first)
run-by_stop n m j (Ended end) ends first later unwritten = rw (run-ends n m end ends) first

run-nibble : (n : ℕ) (m : Machine) (j : ℕ) → any_writes (trace n m) j ≡ false → IsKept j m (run n m).1
run-nibble zero m j unwritten = refl
run-nibble (suc n) m j unwritten =
    run-by_stop n m j (line_done m).stop refl (line-nibble m j (neither _ _ unwritten).0) (run-nibble n (line_done m).machine j) unwritten

run_from-nibble : (line : ℕ) (m : Machine) (j : ℕ) → any_writes (trace_from line m) j ≡ false → IsKept j m (run_from line m).machine
run_from-nibble line m j unwritten = by_end (run lines_per_key (at_control_line line m)) (run-nibble lines_per_key (at_control_line line m) j unwritten)
  where
    by_end : (r : Option End × Machine) → IsKept j m r.1 → IsKept j m (shown_run r).machine
    by_end (None, after) h = h
    by_end (Some end, after) h = h

-- ---- pressed operations

unwritten_by_jump : (target : Target) (m : Machine) (j : ℕ) → writes (ops.goto target) m j ≡ false
unwritten_by_jump target m j = unless_error-false _

pressed_goto-nibble : (target : Target) (m : Machine) (j : ℕ) → IsKept j m (pressed_goto target m).machine
pressed_goto-nibble target m j = step-nibble (ops.goto target) (ready_to_search m) j (unwritten_by_jump target (ready_to_search m) j)

went-nibble : (m : Machine) (s : Step) (continue : Machine → Shown) (j : ℕ) → (s.stop ≡ Go → IsKept j m (continue s.machine).machine) → IsKept j m (went m s continue).machine
went-nibble m s continue j h = by_stop s.stop refl
  where
    by_stop : (stop : Stop) → s.stop ≡ stop → IsKept j m (went m s continue).machine
    by_stop Go goes = rw goes (h goes)
    by_stop (Ended end) ends = rw ends refl

trace_after-go : (stop : Stop) (m : Machine) (j : ℕ) → stop ≡ Go → any_writes (trace_after stop m) j ≡ false → any_writes (trace_from m.control.line m) j ≡ false
trace_after-go Go m j goes h = h
trace_after-go (Ended end) m j goes h = cc

single : (b : Bool) → (b || false) ≡ false → b ≡ false
single b h = (neither b false h).0

pub pressed_operation-nibble : (op : Operation) (m : Machine) (j : ℕ) → any_writes (done_by_operation op m) j ≡ false → IsKept j m (pressed_operation op m).machine
pressed_operation-nibble (ops.goto target) m j h = went-nibble m (pressed_goto target m) normally j (λ goes. pressed_goto-nibble target m j)
pressed_operation-nibble (ops.gosub target) m j h =
    went-nibble m (pressed_goto target m) (λ after. run_from after.control.line after) j
    (λ goes. run_from-nibble (pressed_goto target m).machine.control.line (pressed_goto target m).machine j (trace_after-go _ _ j goes h) ∙ pressed_goto-nibble target m j)
pressed_operation-nibble ops.to_caller m j h = step-nibble ops.to_caller (without_calls m) j refl
pressed_operation-nibble ops.run_stop m j h =
    let after = (operated ops.run_stop m).machine in
    run_from-nibble (max after.control.line 1) after j h ∙ step-nibble ops.run_stop m j refl
pressed_operation-nibble op m j h = step-nibble op m j (single _ h)

-- ---- commands in run mode

taken_back-nibble : (entry : Option ℕ) (m : Machine) (j : ℕ) → IsKept j m (taken_back_from entry m)
taken_back-nibble None m j = refl
taken_back-nibble (Some entry) m j = by_test (nat_le (radix m.control.base) entry)
  where
    by_test : (t : Bool) → IsKept j m (if t then with_entry (entry / radix m.control.base) m else cleared m)
    by_test true = refl
    by_test false = refl

gone_to_line-nibble : (n : ℕ) (m : Machine) (j : ℕ) → IsKept j m (gone_to_line n m).machine
gone_to_line-nibble n m j = by_test (nat_lt (lines m.control) n)
  where
    by_test : (t : Bool) → IsKept j m (if t then failing 4 m else normally (at_control_line n (without_calls (without_entry m)))).machine
    by_test true = refl
    by_test false = refl

pub in_run_mode-nibble : (command : Command) (m : Machine) (j : ℕ) → any_writes (done_by command m) j ≡ false → IsKept j m (in_run_mode command m).machine
in_run_mode-nibble (keys.operate op) m j h = pressed_operation-nibble op m j h
in_run_mode-nibble keys.single_step m j h = line-nibble (at_control_line (max m.control.line 1) (without_entry m)) j (neither _ _ h).0
in_run_mode-nibble keys.backspace m j h = taken_back-nibble m.control.entry m j
in_run_mode-nibble (keys.goto_line n) m j h = gone_to_line-nibble n m j
in_run_mode-nibble _ m j h = refl

-- ---- commands in program mode

resized-below : (bytes blocks : ℕ) (nibbles : List ℕ) (j : ℕ) → j < register_nibbles bytes blocks → slice_index (resized bytes blocks nibbles) j ≡ slice_index nibbles j
resized-below bytes blocks nibbles j below = by_place (nat_lt j (length nibbles)) refl
  where
    n : ℕ
    n = register_nibbles bytes blocks

    by_place : (t : Bool) → nat_lt j (length nibbles) ≡ t → slice_index (resized bytes blocks nibbles) j ≡ slice_index nibbles j
    by_place true inside =
        let short : j < length (take n nibbles) = grind (arith, nat_tests, length-take n nibbles, inside) in
        get_or_append_left (take n nibbles) (replicate (n - length nibbles) 0) 0 j short ∙ get_or-take n nibbles j 0 below
    by_place false past =
        let above : length nibbles ≤ j = grind (arith, nat_tests, past) in
        let all : take n nibbles ≡ nibbles = take_all n nibbles (omega arith) in
        rw all (get_or-append_right nibbles (replicate (n - length nibbles) 0) j 0 above
        ∙ get_or-replicate (n - length nibbles) (j - length nibbles) 0 0 (omega arith)
        ∙ sym (get_or_past nibbles j 0 above))

reprogrammed-nibble : (program : List ℕ) (line : ℕ) (m : Machine) (j : ℕ) → is_of_program (reprogrammed program line m) j ≡ false → IsKept j m (reprogrammed program line m)
reprogrammed-nibble program line m j after = resized-below m.control.bytes (blocks_of (length program)) m.contents.nibbles j (grind (arith, nat_tests, after))

not_edited : (edit before after : Bool) → edit ≡ true → (edit && (before || after)) ≡ false → after ≡ false
not_edited true before after h unwritten = (neither before after unwritten).1
not_edited false before after h unwritten = cc

inserted-nibble : (op : Operation) (m : Machine) (j : ℕ) → edits (keys.operate op) m (inserted op m).machine j ≡ false → IsKept j m (inserted op m).machine
inserted-nibble op m j unwritten = by_test (is_full m) refl
  where
    by_test : (t : Bool) → is_full m ≡ t → IsKept j m (inserted op m).machine
    by_test true full = rw full refl
    by_test false room =
        let program = insert m.control.program m.control.line (code_of op) in
        rw room (reprogrammed-nibble program (m.control.line + 1) m j (not_edited true _ _ refl (rw room at unwritten)))

deleted-nibble : (m : Machine) (j : ℕ) → edits keys.backspace m (deleted m) j ≡ false → IsKept j m (deleted m)
deleted-nibble m j unwritten = by_test (m.control.line == 0) refl
  where
    by_test : (t : Bool) → (m.control.line == 0) ≡ t → IsKept j m (deleted m)
    by_test true top = rw top refl
    by_test false below =
        rw below (reprogrammed-nibble (remove m.control.program (m.control.line - 1)) (m.control.line - 1) m j (not_edited true _ _ refl (rw below at unwritten)))

pub in_program_mode-nibble : (command : Command) (m : Machine) (j : ℕ) → edits command m (in_program_mode command m).machine j ≡ false → IsKept j m (in_program_mode command m).machine
in_program_mode-nibble (keys.operate op) m j h = inserted-nibble op m j h
in_program_mode-nibble keys.backspace m j h = deleted-nibble m j h
in_program_mode-nibble keys.clear_program m j h = reprogrammed-nibble [] 0 (without_entry m) j (not_edited true _ _ refl h)
in_program_mode-nibble (keys.goto_line n) m j h = gone_to_line-nibble n m j
in_program_mode-nibble _ m j h = refl

-- ---- keys

commanded-nibble : (command : Command) (s : Calculator) (j : ℕ) → wrote_by command s (commanded command s).machine j ≡ false → IsKept j s.machine (commanded command s).machine
commanded-nibble command s j unwritten = by_mode s.programming refl
  where
    by_mode : (t : Bool) → s.programming ≡ t → IsKept j s.machine (commanded command s).machine
    by_mode true programming = rw programming (in_program_mode-nibble command s.machine j (rw programming at unwritten))
    by_mode false running = rw running (in_run_mode-nibble command s.machine j (rw running at unwritten))

after_press-nibble : (pressed : Prefix × Pressed) (s : Calculator) (j : ℕ) → wrote_of pressed.1 s (after_press s pressed).machine j ≡ false → IsKept j s.machine (after_press s pressed).machine
after_press-nibble (prefix, keys.more) s j h = refl
after_press-nibble (prefix, keys.dropped) s j h = refl
after_press-nibble (prefix, keys.complete command) s j h = commanded-nibble command (record s { prefix = prefix; view = Normal }) j h

-- a key changes no nibble but those that it is said to write
pub press-nibble : (s : Calculator) (key : Key) (j : ℕ) → wrote s key j ≡ false → IsKept j s.machine (press s key).machine
press-nibble s key j h = after_press-nibble (press_key s.prefix key) s j h

pub pressed_all-nibble : (pressed : List Key) (s : Calculator) (j : ℕ) → all_wrote pressed s j ≡ false → IsKept j s.machine (pressed_all pressed s).machine
pressed_all-nibble [] s j h = refl
pressed_all-nibble (key ∷ rest) s j h = pressed_all-nibble rest (press s key) j (neither _ _ h).1 ∙ press-nibble s key j (neither _ _ h).0

pub operated_all-nibble : (done : List Operation) (m : Machine) (j : ℕ) → all_write done m j ≡ false → IsKept j m (operated_all done m)
operated_all-nibble [] m j h = refl
operated_all-nibble (op ∷ rest) m j h = operated_all-nibble rest (operated op m).machine j (neither _ _ h).1 ∙ step-nibble op m j (neither _ _ h).0
