-- Worked key files: what each prints.
use Rattle.std.specs.Prelude.{◌≡◌, ℕ, zero, suc, List, [], ◌++◌, codes}
use Rattle.hp_model.specs.Session.{session, session_within, all_done, too_long, bad_word}

-- a good key file whose text is this
abbrev pub Prints : List ℕ → List ℕ → Type 0
Prints keys text = session keys ≡ record { text = text; ended = all_done }

abbrev pub repeated : ℕ → List ℕ → List ℕ
repeated zero text = []
repeated (suc n) text = text ++ repeated n text

-- the worked key files
pub record WorkedKeyFiles : Type 0 where
  -- sums and differences
  pub empty_file : Prints [] []
  pub two_digits : Prints (codes "F F ENTER 1 +") (codes "100 h\n")
  pub sum_out_of_range : Prints (codes "7 F F F ENTER 1 +\n") (codes "8000 h G\n")
  pub borrow : Prints (codes "0 ENTER 1 -\n") (codes "FFFF h C\n")
  pub carry : Prints (codes "F F F F ENTER 1 +\n") (codes "0 h C\n")
  pub ignored_digit : Prints (codes "1 2 3 4 5\n") (codes "1234 h\n")
  pub exchanged : Prints (codes "1 ENTER 2 x<>y\n") (codes "1 h\n")
  pub separators : Prints (codes " 1\t2\r\n\n3") (codes "12 h\n12 h\n123 h\n")
  -- word sizes and modes
  pub out_of_range : Prints (codes "8 f STO\n7 F ENTER 1 +\n") (codes "0 h\n80 h G\n")
  pub unsigned_difference : Prints (codes "8 f STO f 3\n5 ENTER 6 -\n") (codes "0 h\nFF h C G\n")
  pub negative_zero : Prints
      (codes "4 f STO f 1\ng R/S g GTO A g + g 4 0 g GSB g R/S\n3 ENTER C +\nGSB A\nf .\nDEC\nHEX 3 ENTER 3 -\n")
      (codes "0 h\n0 h\nF h\nF h\n1-04-0001\n-0 d\n0 h\n")
  pub end_around_carry : Prints (codes "4 f STO f 1 C ENTER C +") (codes "9 h C\n")
  pub least_by_minus_one : Prints
      (codes "8 f STO\n8 0 ENTER F F /\n8 0 ENTER 0 /\nx<>y\n") (codes "0 h\n80 h G\nError 0\n80 h G\n")
  -- double words
  pub double_words : Prints
      (codes "8 f STO f 3\nF F ENTER F F g *\nx<>y\nx<>y F F g /\n") (codes "0 h\nFE h\n1 h\nFF h\n")
  -- memory
  pub divided_anew : Prints
      (codes "1 2 3 4 STO 0\n8 f STO\nRCL 0\nRCL 1\n1 0 f STO\nRCL 0\n8 f STO 5 6 STO 1 1 0 f STO RCL 0\n")
      (codes "1234 h\n34 h\n34 h\n12 h\n12 h\n1234 h\n5634 h\n")
  pub kept_past_six_bits : Prints
      (codes "8 f STO F F STO 0\n6 f STO RCL 0\n8 f STO RCL 0\n") (codes "FF h\n3F h\nFF h\n")
  pub program_takes_memory : Prints (codes "f 0\ng R/S\n+\nf 0\n") (codes "P-0 r-101\n000 PRGM\n001 + PRGM\nP-6 r-98\n")
  -- programs
  pub counted_loop : Prints
      (codes "g R/S g GTO A 1 + g HEX GTO A g R/S\n3 STO SST 0 GSB A\n") (codes "0 h\n3 h\n")
  pub calls_pending : Prints (codes "g R/S g GTO 0 GSB 0 g R/S\nGSB 0\n") (codes "0 h\nError 5\n")
  -- errors, windows and views
  pub windows : Prints
      (codes "1 ENTER 1 1 f E\n4 1 f STO\n4 0 f STO\n1 2 3 4 5 6 7 8 9\nf ENTER 1\n")
      (codes "Error 2\nError 2\n41 h\n23456789 .h\n1 h.\n")
  pub filled_with_zeros : Prints
      (codes "g 4 3\nf .\nf\nf BSP\nf RCL\n") (codes "0000 h\n2-16-1000\n0000 h f\n0000 h\nError 1\n")
  -- bad words and long files
  pub bad_second_line : session (codes "1\nQ\n") ≡ record { text = codes "1 h\n"; ended = bad_word 2 (codes "Q") }
  pub word_of_eight_letters : session (codes "1\n2 ABCDEFGHIJ\n") ≡ record { text = codes "1 h\n"; ended = bad_word 2 (codes "ABCDEFGH") }
  pub at_the_limit : session_within 4 (codes "1\n2\n") ≡ record { text = codes "1 h\n12 h\n"; ended = all_done }
  pub past_the_limit : session_within 3 (codes "1\n2\n") ≡ record { text = codes "1 h\n"; ended = too_long }
  pub bad_word_before_the_limit : session_within 3 (codes "Q \n\n") ≡ record { text = []; ended = bad_word 1 (codes "Q") }
  pub bad_word_at_the_limit : session_within 1 (codes "Q \n") ≡ record { text = []; ended = too_long }
  pub full_program : Prints
      (codes "g R/S " ++ repeated 203 (codes "+ ") ++ codes "\nf 0\n+\ng R/S STO 0\n") (codes "203 + PRGM\nP-0 r-0\nError 4\nError 3\n")
  pub endless_run : Prints (codes "g R/S g GTO 0 GTO 0 g R/S\nGSB 0\n") (codes "0 h\nError 8\n")
  -- the machine of 609 bytes
  pub large_memory : Prints (codes "M609 f 0\ng R/S +\nf 0\n") (codes "P-0 r-304\n001 + PRGM\nP-6 r-301\n")
  pub large_nibbles : Prints (codes "M609 4 f STO f 0\n") (codes "P-0 r-1218\n")
  pub large_index : Prints
      (codes "M609 4 C 1 STO SST 4 f STO 7 STO R/S\ng BSP\nRCL R/S\n") (codes "7 h\n0 h\n7 h\n")
  pub standard_index : Prints (codes "M203 4 C 1 STO SST 4 f STO 7 STO R/S\n") (codes "Error 3\n")
  pub standard_memory : Prints (codes "M203 4 f STO f 0\n") (codes "P-0 r-406\n")
  pub machine_on_second_line : session (codes "1\nM609\n") ≡ record { text = codes "1 h\n"; ended = bad_word 2 (codes "M609") }
  pub machine_as_second_word : session (codes "1 M609\n") ≡ record { text = []; ended = bad_word 1 (codes "M609") }
  pub machine_named_twice : session (codes "M609 M609\n") ≡ record { text = []; ended = bad_word 1 (codes "M609") }
  pub machine_after_an_empty_line : session (codes "\nM203\n") ≡ record { text = codes "0 h\n"; ended = bad_word 2 (codes "M203") }
  pub machine_alone : Prints (codes " M609") (codes "0 h\n")
  pub full_large_program : Prints
      (codes "M609 g R/S " ++ repeated 609 (codes "+ ") ++ codes "\nf 0\n+\ng R/S STO 0\n") (codes "609 + PRGM\nP-0 r-0\nError 4\nError 3\n")
