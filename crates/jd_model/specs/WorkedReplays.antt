-- Worked replays, each by computing it.
use Rattle.std.specs.Prelude.{◌≡◌, ℕ, List, [], ◌++◌, codes, Result, Ok, Err}
use Rattle.hp_model.specs.State.{Data}
use Rattle.jd_model.specs.Problems.{Problem}
use Rattle.jd_model.specs.Replays.{replay_input, replay_text}
use Rattle.jd_model.specs.WorkedProblems.{doubling_head, doubling_routines, zero_start}

-- what a replay of a text prints, or its first bad line
abbrev pub printed : Result (Problem × Data) ℕ → Result (List ℕ) ℕ
printed (Ok (p, s)) = Ok (replay_text p s)
printed (Err line) = Err line

abbrev pub replayed : List ℕ → Result (List ℕ) ℕ
replayed text = printed (replay_input text)

abbrev pub doubling_in_ones : List ℕ
doubling_in_ones = codes "problem 1\nword 16\nmode 1\n" ++ doubling_head ++ codes "observe X C\n" ++ doubling_routines

abbrev pub start_at_8000 : List ℕ
start_at_8000 = codes "start\nX 8000\nY 0\nZ 0\nT 0\nL 0\nI 0\nflags 000000\nM\nend\n"

-- a routine that jumps to itself, against itself
abbrev pub endless_text : List ℕ
endless_text =
    codes "problem 1\nword 16\nmode 2\nbase 16\nsteps 1000\npaths 1\nbudget 16\nobserve X\n"
    ++ codes "fix X 0\nfix Y 0\nfix Z 0\nfix T 0\nfix L 0\nfix I 0\nfix F0 0\nfix F1 0\nfix F2 0\nfix F3 0\nfix C 0\nfix G 0\nfix M 0\n"
    ++ codes "first\nLBL 0\nGTO 0\nsecond\nLBL 0\nGTO 0\nend\n"

-- a division by zero against nothing, with all parts observed
abbrev pub division_text : List ℕ
division_text =
    codes "problem 1\nword 8\nmode 0\nbase 10\nsteps 5\npaths 1\nbudget 16\nobserve X Y Z T L I F0 F1 F2 F3 C G M\n"
    ++ codes "first\n/\nsecond\nR/S\nend\nstart\nX 0\nY 1\nZ 2\nT 3\nL 4\nI 5\nflags 101010\nM 0ab00\nend"

-- a register that only the larger memory has, recalled by the index register, against nothing
abbrev pub register_text : List ℕ → List ℕ
register_text memory =
    codes "problem 2\nword 16\nmode 2\nbase 16\nmemory " ++ memory ++ codes "\nsteps 5\npaths 1\nbudget 65536\nobserve X\nfix I 12C\n"
    ++ codes "first\nRCL (i)\nsecond\nend\nstart\nX 0\nY 0\nZ 0\nT 0\nL 0\nI 12C\nflags 000000\nM\nend\n"

-- a problem that assumes X below 8000, and a start with such an X
abbrev pub absolute_text : List ℕ → List ℕ
absolute_text x =
    codes "problem 2\nword 16\nmode 2\nbase 16\nmemory 203\nsteps 5\npaths 1\nbudget 65536\nobserve X\nassume X lt 8000\n"
    ++ codes "first\nABS\nsecond\nend\nstart\nX " ++ x ++ codes "\nY 0\nZ 0\nT 0\nL 0\nI 0\nflags 000000\nM\nend\n"

pub record WorkedReplays : Type 0 where
  pub carry_differs : replayed (doubling_in_ones ++ start_at_8000)
      ≡ Ok (codes "first return X 0 C 1\nsecond return X 1 C 1\ndiffer\n")
  pub both_late : replayed (endless_text ++ zero_start) ≡ Ok (codes "first late\nsecond late\ndiffer\n")
  pub all_parts : replayed division_text
      ≡ Ok (codes "first error 0 X 0 Y 1 Z 2 T 3 L 4 I 5 F0 0 F1 1 F2 0 F3 1 C 0 G 1 M 0AB\n"
      ++ codes "second halt X 0 Y 1 Z 2 T 3 L 4 I 5 F0 0 F1 1 F2 0 F3 1 C 0 G 1 M 0AB\ndiffer\n")
  pub beyond_the_standard_memory : replayed (register_text (codes "203")) ≡ Ok (codes "first error 3 X 0\nsecond return X 0\ndiffer\n")
  pub within_the_larger_memory : replayed (register_text (codes "609")) ≡ Ok (codes "first return X 0\nsecond return X 0\nagree\n")
  pub assumption_met : replayed (absolute_text (codes "7FFF")) ≡ Ok (codes "first return X 7FFF\nsecond return X 7FFF\nagree\n")
  pub assumption_not_met : replayed (absolute_text (codes "8000")) ≡ Err 24
  pub empty_input : replayed [] ≡ Err 1
  pub no_start : replayed doubling_in_ones ≡ Err 15
  pub bad_start : replayed (doubling_in_ones ++ codes "start\nX 10000\n") ≡ Err 16
