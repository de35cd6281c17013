-- Worked examples of the definitions, by computation.
use Rattle.std.proofs.Common.{◌≡◌, ◌-◌, ◌^◌, [], ◌∷◌, true, false, refl}
use Rattle.hp_io.specs.Causes.{counted}
use Rattle.hp_io.specs.Memory.{SourceState, SinkState, after_read, after_write, new_sink, new_source, write_fails}
use Rattle.hp_io.specs.Limited.{taken_of}
use Rattle.hp_io.specs.declared.limited.Taken.TheVariants.{Whole, TooLong}

count-stands : counted (2 ^ 64 - 1) ≡ 2 ^ 64 - 1
count-stands = refl

-- three bytes, of which the second read fails
source : SourceState
source = new_source (7 ∷ 8 ∷ 9 ∷ []) (2 ∷ [])

first-read : after_read source 2 ≡ record { left = 9 ∷ []; fails = 2 ∷ []; calls = 1; faults = 0 }
unfolding source
first-read = refl

second-read : after_read (after_read source 2) 2 ≡ record { left = 9 ∷ []; fails = 2 ∷ []; calls = 2; faults = 1 }
unfolding source
second-read = refl

-- room for two bytes
sink : SinkState
sink = new_sink 2 []

short-write : after_write sink (7 ∷ 8 ∷ 9 ∷ []) ≡ record { written = 7 ∷ 8 ∷ []; room = 2; fails = []; calls = 1; faults = 0 }
unfolding sink
short-write = refl

full-write : write_fails (after_write sink (7 ∷ 8 ∷ [])) (9 ∷ []) ≡ true
unfolding sink
full-write = refl

empty-write : write_fails (after_write sink (7 ∷ 8 ∷ [])) [] ≡ false
unfolding sink
empty-write = refl

within-limit : taken_of 2 (7 ∷ 8 ∷ []) ≡ Whole (7 ∷ 8 ∷ [])
within-limit = refl

past-limit : taken_of 1 (7 ∷ 8 ∷ []) ≡ TooLong
past-limit = refl
