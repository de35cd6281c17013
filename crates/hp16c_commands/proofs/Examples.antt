-- Commands, texts and answers, worked by computation.
use Rattle.std.proofs.Common.{◌≡◌, true, false, Some, None, [], ◌∷◌, refl, codes}
use Rattle.hp16c_commands.specs.declared.commands.Command.TheVariants.{Keys, Read, Generate}
use Rattle.hp16c_commands.specs.declared.outcomes.Status.TheVariants.{Done, Different, Unknown, BadInput, Limit, NoMemory, CertRefused, TooManyPaths}
use Rattle.hp16c_commands.specs.declared.whole_inputs.WholeInput.TheVariants as inputs
use Rattle.hp16c_commands.specs.Answers.{told, bad_line, too_long}
use Rattle.hp16c_commands.specs.Routines.{asm_answer}
use Rattle.hp16c_commands.specs.Checking.{check_line}
use Rattle.hp16c_commands.specs.Debugging.{debug_answer}
use Rattle.hp16c_commands.specs.Commands.{command_of}
use Rattle.hp16c_commands.specs.KeyFiles.{keys_status, keys_text}
use Rattle.hp16c_commands.specs.Lrat.{lrat_answer}
use Rattle.hp16c_commands.specs.PathTexts.{path_text}
use Rattle.hp16c_commands.specs.WholeInputs.{can_end, limit_of}

-- words
keys_alone : command_of (codes "keys" ∷ []) ≡ Some Keys
keys_alone = refl

one_word : command_of (codes "check" ∷ []) ≡ Some (Read inputs.Check)
one_word = refl

the_last_word : command_of (codes "short" ∷ []) ≡ Some (Read inputs.Short)
the_last_word = refl

a_word_too_many : command_of (codes "keys" ∷ codes "now" ∷ []) ≡ None
a_word_too_many = refl

no_word : command_of [] ≡ None
no_word = refl

greatest_number : command_of (codes "gen" ∷ codes "4294967295" ∷ []) ≡ Some (Generate 4_294_967_295)
greatest_number = refl

too_great_a_number : command_of (codes "gen" ∷ codes "4294967296" ∷ []) ≡ None
too_great_a_number = refl

-- texts
root : path_text [] ≡ codes "-"
root = refl

no_then_yes : path_text (false ∷ true ∷ []) ≡ codes "01"
no_then_yes = refl

uncovered : check_line (codes "shape") [] [] ≡ codes "shape -\n"
uncovered = refl

-- answers
a_line_of_keys : keys_text (codes "F F ENTER 1 +\n") ≡ codes "100 h\n"
a_line_of_keys = refl

a_bad_word : keys_status (codes "1\nQ\n") ≡ BadInput
a_bad_word = refl

two_codes : asm_answer (codes "LBL 0\nGTO 0\n") ≡ told Done (codes "5C 6C\n")
two_codes = refl

a_bad_second_line : asm_answer (codes "ENTER\n1/X\n") ≡ bad_line 2
a_bad_second_line = refl

nothing_refuted : lrat_answer (codes "p cnf 1 1\n1 0\n") ≡ told CertRefused (codes "not refuted\n")
nothing_refuted = refl

a_step_back_from_nothing : debug_answer (codes ":back\n1 2\n") ≡ told Done (codes "no history\n12 h\n")
a_step_back_from_nothing = refl

a_breakpoint_past_the_last_line : debug_answer (codes "1\n:break 610\n") ≡ bad_line 2
a_breakpoint_past_the_last_line = refl

past_the_limit : too_long ≡ told Limit (codes "limit\n")
past_the_limit = refl

-- limits
bytes_of_lrat : limit_of inputs.Lrat ≡ 268_435_456
bytes_of_lrat = refl

-- statuses
unknown_of_judge : can_end inputs.Judge Unknown ≡ true
unknown_of_judge = refl

paths_of_short : can_end inputs.Short TooManyPaths ≡ true
paths_of_short = refl

never_of_debug : can_end inputs.Debug Different ≡ false
never_of_debug = refl

never_of_check : can_end inputs.Check Different ≡ false
never_of_check = refl

memory_of_any : can_end inputs.List NoMemory ≡ true
memory_of_any = refl
