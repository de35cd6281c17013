-- What is answered for the bytes of a source: the outcome, and the text that is written.
use Rattle.std.specs.Prelude.{ℕ, List}
use Rattle.hp16c_commands.specs.declared.outcomes.Kept.TheVariants.{Nothing}
use Rattle.hp16c_commands.specs.declared.outcomes.Outcome.{Outcome}
use Rattle.hp16c_commands.specs.declared.outcomes.Status.{Status}
use Rattle.hp16c_commands.specs.declared.outcomes.Status.TheVariants.{BadInput, Limit}
use Rattle.hp16c_commands.specs.Refusals as refusals

pub record Answer : Type 0 where
  pub outcome : Outcome
  pub text : List ℕ

-- a status and a text, with which nothing is kept
abbrev pub told : Status → List ℕ → Answer
told status text = record { outcome = record { status = status; kept = Nothing }; text = text }

-- the answer where a line of the input is bad, by its number
abbrev pub bad_line : ℕ → Answer
bad_line line = told BadInput (refusals.bad_line line)

-- the answer where the input has more bytes than are taken
abbrev pub too_long : Answer
too_long = told Limit refusals.too_long
