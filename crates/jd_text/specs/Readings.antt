-- A reading of one line after another, and what a reader of lines answers.
use Rattle.std.specs.Prelude.{◌≡◌, ℕ, suc, Bool, true, false, List, [], ◌∷◌, Result, Ok, Err}

-- what is read by taking the lines one after another, or the number of the first bad line and its cause
abbrev pub read_lines : {S C : Type 0} → (S → List (List ℕ) → Result S C) → ℕ → S → List (List (List ℕ)) → Result S (ℕ × C)
read_lines take_line number s [] = Ok s
read_lines take_line number s (words ∷ lines) = elim (take_line s words) [
  | Err cause ↦ Err (number, cause)
  | Ok next ↦ read_lines take_line (suc number) next lines
]

-- the same up to the line that makes it whole, with that line's number. `missing` is the cause where no line does
abbrev pub read_until : {S C : Type 0} → (S → Bool) → C → (S → List (List ℕ) → Result S C) → ℕ → S → List (List (List ℕ)) → Result (S × ℕ) (ℕ × C)
read_until whole missing take_line number s [] = Err (number, missing)
read_until whole missing take_line number s (words ∷ lines) = elim (take_line s words) [
  | Err cause ↦ Err (number, cause)
  | Ok next ↦ (elim (whole next) [
    | true ↦ Ok (next, number)
    | false ↦ read_until whole missing take_line (suc number) next lines
  ])
]

-- what is due was taken: the reading that is due stands, or the cause that is due is answered
abbrev pub Takes : {S C T : Type 0} → Result S C → Result T C → S → Type 0
Takes due (Ok done) new = due ≡ Ok new
Takes due (Err cause) new = due ≡ Err cause
