-- The words of a key file: those that name keys, and the two that name a machine.
use Rattle.std.specs.Prelude.{ℕ, if◌then◌else◌, List, [], ◌∷◌, codes, bytes_eq, Option, Some, None}
use Rattle.hp_model.specs.declared.Extent.{Extent}
use Rattle.hp_model.specs.declared.Extent.TheVariants.{Standard, Large}
use Rattle.hp_model.specs.declared.Key.{Key}
use Rattle.hp_model.specs.declared.Key.TheVariants.{Digit0, Digit1, Digit2, Digit3, Digit4, Digit5, Digit6, Digit7, Digit8, Digit9, DigitA, DigitB, DigitC, DigitD, DigitE, DigitF, Plus, Minus, Times, Divide, Enter, ChangeSign, Point, ShiftF, ShiftG, Gosub, Goto, ToHex, ToDec, ToOct, ToBin, RunStop, SingleStep, RollDown, Exchange, Backspace, On, Store, Recall}

-- the words of a key file
abbrev pub words : List (List ℕ × Key)
words =
    (codes "0", Digit0) ∷ (codes "1", Digit1) ∷ (codes "2", Digit2) ∷ (codes "3", Digit3) ∷ (codes "4", Digit4)
    ∷ (codes "5", Digit5) ∷ (codes "6", Digit6) ∷ (codes "7", Digit7) ∷ (codes "8", Digit8) ∷ (codes "9", Digit9)
    ∷ (codes "A", DigitA) ∷ (codes "B", DigitB) ∷ (codes "C", DigitC) ∷ (codes "D", DigitD) ∷ (codes "E", DigitE)
    ∷ (codes "F", DigitF) ∷ (codes "+", Plus) ∷ (codes "-", Minus) ∷ (codes "*", Times) ∷ (codes "/", Divide)
    ∷ (codes "ENTER", Enter) ∷ (codes "CHS", ChangeSign) ∷ (codes ".", Point) ∷ (codes "f", ShiftF)
    ∷ (codes "g", ShiftG) ∷ (codes "GSB", Gosub) ∷ (codes "GTO", Goto) ∷ (codes "HEX", ToHex)
    ∷ (codes "DEC", ToDec) ∷ (codes "OCT", ToOct) ∷ (codes "BIN", ToBin) ∷ (codes "R/S", RunStop)
    ∷ (codes "SST", SingleStep) ∷ (codes "RDN", RollDown) ∷ (codes "x<>y", Exchange) ∷ (codes "BSP", Backspace)
    ∷ (codes "ON", On) ∷ (codes "STO", Store) ∷ (codes "RCL", Recall) ∷ []

abbrev pub key_in : List (List ℕ × Key) → List ℕ → Option Key
key_in [] word = None
key_in (entry ∷ entries) word = if bytes_eq entry.0 word then Some entry.1 else key_in entries word

abbrev pub key_of_word : List ℕ → Option Key
key_of_word word = key_in words word

-- the size of memory of the machine that a word names
abbrev pub extent_of_word : List ℕ → Option Extent
extent_of_word word =
    if bytes_eq (codes "M203") word then Some Standard else if bytes_eq (codes "M609") word then Some Large else None
