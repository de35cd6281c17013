-- What writes no nibble.
use Rattle.std.proofs.Common.{◌≡◌, ℕ, ◌≤◌, Bool, true, false, nat_lt, ◌&&◌, ◌||◌, List, [], ◌∷◌, Option, Some, None, length, refl, if◌then◌else◌, arith}
use Rattle.std.proofs.lemmas.Bool.Decides.{nat_tests}
use Rattle.hp_model.specs.declared.Key.{Key}
use Rattle.hp_model.specs.Operations.{Operation, Place}
use Rattle.hp_model.specs.Operations as ops
use Rattle.hp_model.specs.State.{Machine}
use Rattle.hp_model.specs.Keys.{Command, Pressed}
use Rattle.hp_model.specs.Keys as keys
use Rattle.hp_model.specs.Questions.{answers}
use Rattle.hp_model.specs.ControlStep.{error_of}
use Rattle.hp_model.specs.Prefixes.{press_key}
use Rattle.hp_model.specs.Press.{Calculator, press}
use Rattle.hp_model.specs.WrittenNibbles.{is_writer, may_write, unless_error, writes, any_writes, any_is_writer, is_edit, edits, is_of_program, done_by, wrote_by, wrote_of, wrote, changes_by, changes_of, changes_memory, all_wrote, any_changes_memory}

may_write-none : (op : Operation) (m : Machine) (j : ℕ) → is_writer op ≡ false → may_write op m j ≡ false
may_write-none (ops.store (ops.register r)) m j h = cc
may_write-none (ops.store ops.through_index) m j h = cc
may_write-none (ops.store ops.index_register) m j h = refl
may_write-none ops.exchange_through m j h = cc
may_write-none ops.clear_registers m j h = cc
may_write-none op m j h = refl

writes-no : (error : Option ℕ) (may : Bool) → may ≡ false → unless_error error may ≡ false
writes-no None may h = h
writes-no (Some n) may h = refl

pub writes-none : (op : Operation) (m : Machine) (j : ℕ) → is_writer op ≡ false → writes op m j ≡ false
writes-none op m j h = writes-no (error_of m.control op (answers m.control op m.contents)) (may_write op m j) (may_write-none op m j h)

pub clearing-inside : (op : Operation) (m : Machine) (j : ℕ) → op ≡ ops.clear_registers → length m.contents.nibbles ≤ j → writes op m j ≡ false
clearing-inside op m j is past =
    let outside : nat_lt j (length m.contents.nibbles) ≡ false = grind (arith, nat_tests) in
    rw is outside

both_false : (a b : Bool) → (a || b) ≡ false → (a ≡ false) × (b ≡ false)
both_false true b h = cc
both_false false b h = (refl, h)

neither_true : (a b : Bool) → a ≡ false → b ≡ false → (a || b) ≡ false
neither_true a b h k = rw (h, k) refl

any_writes-none : (done : List (Operation × Machine)) (j : ℕ) → any_is_writer done ≡ false → any_writes done j ≡ false
any_writes-none [] j h = refl
any_writes-none ((op, m) ∷ done) j h =
    neither_true (writes op m j) (any_writes done j) (writes-none op m j (both_false _ _ h).0) (any_writes-none done j (both_false _ _ h).1)

no_edit : (edit others : Bool) → edit ≡ false → (edit && others) ≡ false
no_edit edit others h = rw h refl

wrote_by-none : (command : Command) (s : Calculator) (after : Machine) (j : ℕ) → changes_by command s ≡ false → wrote_by command s after j ≡ false
wrote_by-none command s after j h = by_mode s.programming h
  where
    by_mode : (t : Bool) → (if t then is_edit command s.machine else any_is_writer (done_by command s.machine)) ≡ false
        → (if t then edits command s.machine after j else any_writes (done_by command s.machine) j) ≡ false
    by_mode true h = no_edit (is_edit command s.machine) (is_of_program s.machine j || is_of_program after j) h
    by_mode false h = any_writes-none (done_by command s.machine) j h

wrote_of-none : (pressed : Pressed) (s : Calculator) (after : Machine) (j : ℕ) → changes_of pressed s ≡ false → wrote_of pressed s after j ≡ false
wrote_of-none (keys.complete command) s after j h = wrote_by-none command s after j h
wrote_of-none keys.more s after j h = refl
wrote_of-none keys.dropped s after j h = refl

pub wrote-none : (s : Calculator) (key : Key) (j : ℕ) → changes_memory s key ≡ false → wrote s key j ≡ false
wrote-none s key j h = wrote_of-none (press_key s.prefix key).1 s (press s key).machine j h

pub all_wrote-none : (pressed : List Key) (s : Calculator) (j : ℕ) → any_changes_memory pressed s ≡ false → all_wrote pressed s j ≡ false
all_wrote-none [] s j h = refl
all_wrote-none (key ∷ rest) s j h =
    neither_true (wrote s key j) (all_wrote rest (press s key) j) (wrote-none s key j (both_false _ _ h).0) (all_wrote-none rest (press s key) j (both_false _ _ h).1)
