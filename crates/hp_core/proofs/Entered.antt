-- What a digit makes of the number in entry, and of the stack.
use Rattle.std.proofs.Common.{◌≡◌, ℕ, Bool, true, false, ◌&&◌, not, List, Option, Some, None, if◌then◌else◌, refl, is_some}
use Rattle.hp_model.specs.State.{Control}
use Rattle.hp_model.specs.DataStep.{entered, with_x, lifted as lifted_data}
use Rattle.hp_words.specs.declared.content.Content.{Content}
use Rattle.hp_words.specs.Contents.{data_of}
use Rattle.hp_core.specs.Moves.{lifted}

pub ignored : (t : Bool) (m : ℕ) → None ≡ (if t then None else Some m) → t ≡ true
ignored true m e = refl
ignored false m e = cc

pub entered_as : (t : Bool) (n m : ℕ) → Some n ≡ (if t then None else Some m) → (t ≡ false) × (n ≡ m)
entered_as true n m e = cc
entered_as false n m e = (refl, cc)

pushed_if : (t : Bool) (content : Content) (nibbles : List ℕ) (n : ℕ)
    → with_x n (if t then lifted_data (data_of content nibbles) else data_of content nibbles) ≡ data_of (record (if t then lifted content else content) { x = n }) nibbles
pushed_if true content nibbles n = refl
pushed_if false content nibbles n = refl

-- the first digit of a number lifts the stack where that is enabled
pub entered_in : (c : Control) (entry : Option ℕ) (lifts : Bool) (content : Content) (nibbles : List ℕ) (n : ℕ) → lifts ≡ (not (is_some entry) && c.lift)
    → entered n c entry (data_of content nibbles) ≡ data_of (record (if lifts then lifted content else content) { x = n }) nibbles
entered_in c (Some e) lifts content nibbles n is = rw is refl
entered_in c None lifts content nibbles n is = rw is (pushed_if c.lift content nibbles n)
