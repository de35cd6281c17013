-- What is seen of a start: how each of the two runs ends, and the parts there that are observed.
use Rattle.std.specs.Prelude.{ℕ, Bool, true, false, ◌&&◌, ◌==◌, List, [], ◌∷◌, ◌++◌, map, flat_map, codes, decimal, bytes_eq, Option, Some, None}
use Rattle.std.specs.Cmp.Lexicographic.{pointwise}
use Rattle.hp_model.specs.declared.End.{End}
use Rattle.hp_model.specs.declared.End.TheVariants.{Return, Halt, Error}
use Rattle.hp_model.specs.State.{Control, Data, Machine, memory_bytes}
use Rattle.hp_model.specs.Run.{run}
use Rattle.jd_text.specs.Digits.{hexadecimal}
use Rattle.jd_model.specs.Problems.{Problem, blocks, content_numbers}
use Rattle.jd_model.specs.ProblemLines.{part_names}
use Rattle.jd_model.specs.ProblemWriter.{chosen}
use Rattle.jd_model.specs.StartTexts.{memory_words}

-- a run that isn't over after the problem's steps, or its end and the data there
pub data Seen : Type 0 where
  late : Seen
  ended : End → Data → Seen

-- control where a run of a routine begins
abbrev pub first_control : Problem → List ℕ → Control
first_control p routine = record {
  bytes = memory_bytes p.memory;
  size = p.size;
  mode = p.mode;
  base = p.base;
  line = 1;
  program = routine;
  blocks = blocks p;
  calls = [];
  lift = true;
  entry = None;
  window = 0;
}

abbrev pub machine_at : Problem → List ℕ → Data → Machine
machine_at p routine s = record { control = first_control p routine; contents = s }

abbrev pub seen_of_run : Option End × Machine → Seen
seen_of_run (None, m) = late
seen_of_run (Some end, m) = ended end m.contents

-- what is seen of a routine's run from a start
abbrev pub seen : Problem → List ℕ → Data → Seen
seen p routine s = seen_of_run (run p.steps (machine_at p routine s))

-- ---- agreement

-- the thirteen parts, each as a list of numbers
abbrev pub parts_of : Data → List (List ℕ)
parts_of d = map (λ n. n ∷ []) (content_numbers d) ++ d.nibbles ∷ []

abbrev pub same_end : End → End → Bool
same_end Return Return = true
same_end Halt Halt = true
same_end (Error m) (Error n) = m == n
same_end _ _ = false

-- neither is late, they end alike, and the observed parts are equal
abbrev pub agree_on : List Bool → Seen → Seen → Bool
agree_on observed (ended e d) (ended f c) =
    same_end e f && pointwise bytes_eq (chosen observed (parts_of d)) (chosen observed (parts_of c))
agree_on observed _ _ = false

-- whether both routines agree from a start
abbrev pub agree : Problem → Data → Bool
agree p s = agree_on p.observed (seen p p.first s) (seen p p.second s)

-- ---- the line of what is seen

abbrev pub end_words : End → List (List ℕ)
end_words Return = codes "return" ∷ []
end_words Halt = codes "halt" ∷ []
end_words (Error n) = codes "error" ∷ decimal n ∷ []

-- names with their numbers
abbrev pub named : List (List ℕ) → List ℕ → List (List (List ℕ))
named (name ∷ names) (n ∷ ns) = (name ∷ hexadecimal n ∷ []) ∷ named names ns
named _ _ = []

-- the words of each part. The nibbles stand as in a start
abbrev pub part_words : Data → List (List (List ℕ))
part_words d = named part_names (content_numbers d) ++ memory_words d.nibbles ∷ []

abbrev pub seen_words : List Bool → Seen → List (List ℕ)
seen_words observed late = codes "late" ∷ []
seen_words observed (ended end d) = end_words end ++ flat_map (λ words. words) (chosen observed (part_words d))

-- the line after its name: a blank before each word
abbrev pub seen_text : List Bool → Seen → List ℕ
seen_text observed s = flat_map (λ word. 32 ∷ word) (seen_words observed s) ++ 10 ∷ []

-- the line of what is seen of a routine with this name
abbrev pub seen_line : Problem → List ℕ → Seen → List ℕ
seen_line p name s = name ++ seen_text p.observed s
