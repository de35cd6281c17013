-- The words of the commands.
use Rattle.std.specs.Prelude.{◌≡◌, ℕ, ◌^◌, nat_lt, if◌then◌else◌, List, [], ◌∷◌, map, codes, bytes_eq, Option, Some, None, option_map, String}
use Rattle.std.specs.String.{string_bytes}
use Rattle.jd_text.specs.Digits.{decimal_number}
use Rattle.hp16c_commands.specs.declared.commands.Command.{Command}
use Rattle.hp16c_commands.specs.declared.commands.Command.TheVariants.{Keys, Read, Generate}
use Rattle.hp16c_commands.specs.declared.whole_inputs.WholeInput.TheVariants as inputs

-- the command of one word
abbrev pub command_named : List ℕ → Option Command
command_named word =
    if bytes_eq word (codes "keys") then Some Keys else
    if bytes_eq word (codes "lrat") then Some (Read inputs.Lrat) else
    if bytes_eq word (codes "asm") then Some (Read inputs.Assemble) else
    if bytes_eq word (codes "list") then Some (Read inputs.List) else
    if bytes_eq word (codes "replay") then Some (Read inputs.Replay) else
    if bytes_eq word (codes "judge") then Some (Read inputs.Judge) else
    if bytes_eq word (codes "check") then Some (Read inputs.Check) else
    if bytes_eq word (codes "debug") then Some (Read inputs.Debug) else
    if bytes_eq word (codes "spec") then Some (Read inputs.Spec) else
    if bytes_eq word (codes "short") then Some (Read inputs.Short) else None

-- the number of a word of 1 to 10 decimal digits, where it is below 2^32
abbrev pub below_limit : ℕ → Option ℕ
below_limit n = if nat_lt n (2 ^ 32) then Some n else None

abbrev pub generated_number : List ℕ → Option ℕ
generated_number word = elim (decimal_number word) [ None ↦ None | Some n ↦ below_limit n ]

-- the command of two words
abbrev pub command_with : List ℕ → List ℕ → Option Command
command_with word number = if bytes_eq word (codes "gen") then option_map Generate (generated_number number) else None

-- the command that the words are
abbrev pub command_of : List (List ℕ) → Option Command
command_of (word ∷ []) = command_named word
command_of (word ∷ number ∷ []) = command_with word number
command_of _ = None

abbrev pub AreWordsOf : {A : Type 0} → Command → List (String A) → Type 0
AreWordsOf command words = command_of (map string_bytes words) ≡ Some command

abbrev pub IsNoCommand : {A : Type 0} → List (String A) → Type 0
IsNoCommand words = command_of (map string_bytes words) ≡ None
