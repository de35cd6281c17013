-- Where two symbolic runs end.
use Rattle.std.specs.Prelude.{◌≡◌, ℕ, ◌*◌, ◌≤◌, Bool, false, length, Option, Some, None}
use Rattle.hp_model.specs.declared.End.{End}
use Rattle.jd_model.specs.Problems.{Problem, nibble_count}
use Rattle.jd_model.specs.Seen.{same_end}
use Rattle.jd_circuit.specs.Net.{Net, variables}
use Rattle.jd_content.specs.declared.content.SymContent.{SymContent}
use Rattle.jd_content.specs.Meaning.{Fits}

-- words of one size from 1 to 64, of n variables
pub record HasShape (n : ℕ) (content : SymContent) : Type 0 where
  pub size : ℕ
  pub size_least : 1 ≤ size
  pub size_most : size ≤ 64
  pub fits : Fits n size content

-- the same with as many nibbles as the runs of a problem have
pub record IsOfRun (p : Problem) (net : Net) (content : SymContent) : Type 0 where
  pub shape : HasShape (variables net) content
  pub nibbles : length content.nibbles ≡ 4 * nibble_count p

-- whether both runs ended, and in the same way
abbrev pub are_alike : Option End → Option End → Bool
are_alike (Some e) (Some f) = same_end e f
are_alike _ _ = false
