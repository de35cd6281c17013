-- Worked scripts, found by hand: what is written for each, or which line is bad.
use Rattle.std.specs.Prelude.{◌≡◌, ℕ, List, codes, Ok, Err}
use Rattle.hp_debug.specs.Scripts.{script_text}

abbrev pub Prints : List ℕ → List ℕ → Type 0
Prints script text = script_text script ≡ Ok text

abbrev pub IsBadAt : List ℕ → ℕ → Type 0
IsBadAt script line = script_text script ≡ Err line

pub record WorkedScripts : Type 0 where
  pub empty : Prints (codes "") (codes "")
  pub break_and_back : Prints
      (codes "g R/S g GTO A 1 + GTO A g R/S\n:break 4\nGTO A\n:go\n:go\n:back\n:back\n")
      (codes "0 h\n0 h\n0 h\nbreak 004 1 h\nbreak 004 2 h\n003 1 h\n002 1 h\n")
  pub program_mode : Prints (codes ":back\ng R/S\n:go\n:back\n") (codes "no history\n000 PRGM\nnot run\n000 0 h g\n")
  pub pending_prefix : Prints (codes "f\n:step\n:go\n:back\n") (codes "0 h f\nnot run\nnot run\n000 0 h\n")
  -- the state before a run comes back with its own line number, here 0
  pub run_from_line_0 : Prints
      (codes "g R/S 1 R/S g R/S GTO . 0 0 0\n:go\n:back\n:back\n") (codes "0 h\nend 003 1 h\n002 1 h\n000 0 h\n")
  pub run_that_returns : Prints (codes "g R/S 1 + g R/S\n:go\n:back\n") (codes "0 h\nend 000 0 h\n003 0 h\n")
  pub run_with_an_error : Prints
      (codes "g R/S 5 0 / g R/S\n:go\n:back\n:step\n") (codes "0 h\nend 003 Error 0\n003 0 h\n003 Error 0\n")
  -- a run doesn't stop before its own first line, and stops where it comes there again
  pub break_at_the_first_line : Prints
      (codes "g R/S g GTO A GTO A g R/S\n:break 1\nGTO A\n:go\n:back\n") (codes "0 h\n0 h\n0 h\nbreak 001 0 h\n002 0 h\n")
  pub break_past_the_last_line : Prints
      (codes "g R/S + g R/S\n:break 2\n:go\n:go\n") (codes "0 h\n0 h\nbreak 002 0 h\nend 000 0 h\n")
  pub break_at_609 : Prints (codes ":break 609\n:clear 609\n") (codes "0 h\n0 h\n")
  pub cleared_break : Prints (codes "g R/S + g R/S\n:break 2\n:clear 002\n:go\n") (codes "0 h\n0 h\n0 h\nend 000 0 h\n")
  pub memory_comes_back : Prints
      (codes "5 STO 0\n0 STO 0\nRCL 0\n:back\n:back\n:back\n:back\n:back\nRCL 0\n")
      (codes "5 h\n0 h\n0 h\n000 0 h\n000 0 h\n000 0 h\n000 0 h\n000 5 h\n5 h\n")
  pub larger_machine : Prints (codes "M609 f 0\n:back\n") (codes "P-0 r-304\n000 0 h f\n")
  pub blanks_around_a_command : Prints (codes " \t:back \r\n") (codes "no history\n")
  pub bad_line_0 : IsBadAt (codes ":break 0\n") 1
  pub bad_line_610 : IsBadAt (codes ":break 610\n") 1
  pub bad_fourth_digit : IsBadAt (codes ":break 0001\n") 1
  pub bad_without_number : IsBadAt (codes ":clear\n") 1
  pub bad_number_after_step : IsBadAt (codes "1\n:step 1\n") 2
  pub bad_unknown_command : IsBadAt (codes ":stop\n") 1
  pub bad_second_command : IsBadAt (codes "1\n:back :back\nQ\n") 2
  pub bad_command_after_machine : IsBadAt (codes "M609 :go\n") 1
  pub bad_machine_on_second_line : IsBadAt (codes "1\nM609\n") 2
