-- The lines of a script for the debugger, from their words: what a key file's line may be, and the commands.
use Rattle.std.specs.Prelude.{ℕ, Bool, true, ◌&&◌, nat_le, if◌then◌else◌, List, [], ◌∷◌, codes, drop, Option, Some, None, option_map, is_some}
use Rattle.jd_text.specs.Words.{is_text}
use Rattle.jd_text.specs.Digits.{number_in}
use Rattle.hp_model.specs.declared.Extent.{Extent}
use Rattle.hp_model.specs.declared.Key.{Key}
use Rattle.hp_model.specs.KeyWords.{key_of_word}
use Rattle.hp_model.specs.Session.{machine_named}
use Rattle.hp_debug.specs.declared.commands.Command.{Command}
use Rattle.hp_debug.specs.declared.commands.Command.TheVariants.{Break, Clear, Step, Back, Go}

-- a line of keys, one that begins with a machine of its own, and a command
pub data Line : Type 0 where
  keys : List Key → Line
  new_machine : Extent → List Key → Line
  command : Command → Line

-- whether all words are key words, and the keys of those that are
abbrev pub are_key_words : List (List ℕ) → Bool
are_key_words [] = true
are_key_words (word ∷ words) = is_some (key_of_word word) && are_key_words words

abbrev pub key_before : Option Key → List Key → List Key
key_before None rest = rest
key_before (Some key) rest = key ∷ rest

abbrev pub keys_in : List (List ℕ) → List Key
keys_in [] = []
keys_in (word ∷ words) = key_before (key_of_word word) (keys_in words)

-- a line of a program, by its number in 1 to 3 decimal digits
abbrev pub program_line : ℕ → Option ℕ
program_line n = if nat_le 1 n && nat_le n 609 then Some n else None

abbrev pub line_number : List ℕ → Option ℕ
line_number word = elim (number_in 10 3 word) [ None ↦ None | Some n ↦ program_line n ]

-- a command, alone on its line
abbrev pub command_named : List ℕ → Option Command
command_named word =
    if is_text (codes ":step") word then Some Step else
    if is_text (codes ":back") word then Some Back else
    if is_text (codes ":go") word then Some Go else None

abbrev pub command_with : List ℕ → List ℕ → Option Command
command_with word number =
    if is_text (codes ":break") word then option_map Break (line_number number) else
    if is_text (codes ":clear") word then option_map Clear (line_number number) else None

abbrev pub command_of : List (List ℕ) → Option Command
command_of (word ∷ []) = command_named word
command_of (word ∷ number ∷ []) = command_with word number
command_of _ = None

-- the machine that a line names with its first word, which only the first line may
abbrev pub machine_in : Bool → List (List ℕ) → Option Extent
machine_in first [] = None
machine_in first (word ∷ words) = machine_named first word

abbrev pub keys_line : (List Key → Line) → List (List ℕ) → Option Line
keys_line line words = if are_key_words words then Some (line (keys_in words)) else None

abbrev pub command_or_keys : Option Command → List (List ℕ) → Option Line
command_or_keys (Some given) words = Some (command given)
command_or_keys None words = keys_line keys words

-- the line that some words are, if they are one. `first` says whether they are the script's first line
abbrev pub line_after_machine : Option Extent → List (List ℕ) → Option Line
line_after_machine (Some extent) words = keys_line (new_machine extent) (drop 1 words)
line_after_machine None words = command_or_keys (command_of words) words

abbrev pub script_line : Bool → List (List ℕ) → Option Line
script_line first words = line_after_machine (machine_in first words) words
