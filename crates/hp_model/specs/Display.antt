-- The text of the display.
use Rattle.std.specs.Prelude.{ℕ, zero, suc, ◌+◌, ◌-◌, ◌*◌, ◌/◌, ◌%◌, ◌^◌, pos, int_lt, Bool, false, ◌||◌, ◌==◌, nat_lt, if◌then◌else◌, List, [], ◌++◌, codes, decimal, slice_index}
use Rattle.hp_model.specs.declared.Base.{Base}
use Rattle.hp_model.specs.declared.Base.TheVariants.{Hex, Dec, Oct, Bin}
use Rattle.hp_model.specs.declared.Mode.{Mode}
use Rattle.hp_model.specs.declared.Mode.TheVariants.{Unsigned, Ones, Twos}
use Rattle.hp_model.specs.declared.View.{View}
use Rattle.hp_model.specs.declared.View.TheVariants.{Normal, Show, Status, Mem, Error as Failed}
use Rattle.hp_model.specs.Words.{value, magnitude, is_negative_zero}
use Rattle.hp_model.specs.Texts.{digit_text, text_of}
use Rattle.hp_model.specs.Codes.{operation_of}
use Rattle.hp_model.specs.State.{Control, Data, Machine, lines, flag, radix, registers}
use Rattle.hp_model.specs.Keys.{Prefix}
use Rattle.hp_model.specs.Keys as keys
use Rattle.hp_model.specs.Press.{Calculator}

-- the least number of digits that holds w bits
abbrev pub digits_for : ℕ → Base → ℕ
digits_for w Hex = (w + 3) / 4
digits_for w Oct = (w + 2) / 3
digits_for w Bin = w
digits_for w Dec = 0

abbrev pub base_letter : Base → List ℕ
base_letter Hex = codes "h"
base_letter Dec = codes "d"
base_letter Oct = codes "o"
base_letter Bin = codes "b"

abbrev pub text_if : Bool → List ℕ → List ℕ
text_if shown text = if shown then text else []

-- the number that is shown, and whether a minus stands before it
abbrev pub shown_number : Base → Control → Data → ℕ
shown_number Dec c d = magnitude c.size c.mode d.x
shown_number _ c d = d.x

abbrev pub has_minus : Base → Control → Data → Bool
has_minus Dec c d = int_lt (value c.size c.mode d.x) (pos 0) || is_negative_zero c.size c.mode d.x
has_minus _ c d = false

-- with flag 3, zeros fill the number to so many digits
abbrev pub filled_to : Base → Control → Data → ℕ
filled_to base c d = if flag d 3 then digits_for c.size base else 0

-- whether a number has a digit at a place, counted from the right, with at least so many digits
abbrev pub has_digit : ℕ → ℕ → ℕ → ℕ → Bool
has_digit base filled n place = place == 0 || nat_lt place filled || nat_lt 0 (n / base ^ place)

abbrev pub place_text : ℕ → ℕ → ℕ → ℕ → List ℕ
place_text base filled n place = text_if (has_digit base filled n place) (digit_text (n / base ^ place % base))

-- the digits at so many places from one on, the highest first
abbrev pub places_text : ℕ → ℕ → ℕ → ℕ → ℕ → List ℕ
places_text base filled n first zero = []
places_text base filled n first (suc count) = place_text base filled n (first + count) ++ places_text base filled n first count

-- window k, with place 8k to 8k + 7, and what stands round it
abbrev pub number_text : Base → ℕ → Control → Data → List ℕ
number_text base k c d =
    let filled = filled_to base c d in
    let n = shown_number base c d in
    text_if (has_minus base c d) (codes "-")
    ++ places_text (radix base) filled n (8 * k) 8 ++ codes " "
    ++ text_if (has_digit (radix base) filled n (8 * k + 8)) (codes ".") ++ base_letter base ++ text_if (nat_lt 0 k) (codes ".")

abbrev pub shift_text : Prefix → List ℕ
shift_text keys.after_f = codes " f"
shift_text keys.after_g = codes " g"
shift_text _ = []

abbrev pub run_text : Base → ℕ → Calculator → List ℕ
run_text base k s =
    number_text base k s.machine.control s.machine.contents
    ++ text_if (flag s.machine.contents 4) (codes " C") ++ text_if (flag s.machine.contents 5) (codes " G") ++ shift_text s.prefix

abbrev pub three_digits : ℕ → List ℕ
three_digits n = digit_text (n / 100 % 10) ++ digit_text (n / 10 % 10) ++ digit_text (n % 10)

abbrev pub line_text : Control → List ℕ
line_text c = if c.line == 0 then [] else codes " " ++ text_of (operation_of (slice_index c.program (c.line - 1)))

abbrev pub program_text : Calculator → List ℕ
program_text s = three_digits s.machine.control.line ++ line_text s.machine.control ++ shift_text s.prefix ++ codes " PRGM"

abbrev pub mode_text : Mode → List ℕ
mode_text Unsigned = codes "0"
mode_text Ones = codes "1"
mode_text Twos = codes "2"

abbrev pub flag_text : Data → ℕ → List ℕ
flag_text d n = if flag d n then codes "1" else codes "0"

abbrev pub status_text : Machine → List ℕ
status_text m =
    mode_text m.control.mode ++ codes "-" ++ digit_text (m.control.size / 10) ++ digit_text (m.control.size % 10) ++ codes "-"
    ++ flag_text m.contents 3 ++ flag_text m.contents 2 ++ flag_text m.contents 1 ++ flag_text m.contents 0

abbrev pub memory_text : Control → List ℕ
memory_text c =
    codes "P-" ++ decimal (7 * c.blocks - lines c) ++ codes " r-" ++ decimal (registers c)

-- the display of a calculator
abbrev pub display_of : View → Calculator → List ℕ
display_of Normal s = if s.programming then program_text s else run_text s.machine.control.base s.machine.control.window s
display_of (Show base) s = run_text base 0 s
display_of Status s = status_text s.machine
display_of Mem s = memory_text s.machine.control
display_of (Failed n) s = codes "Error " ++ decimal n

abbrev pub display : Calculator → List ℕ
display s = display_of s.view s
