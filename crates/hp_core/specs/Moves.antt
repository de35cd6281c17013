-- The moves of the stack and of the flags.
use Rattle.std.specs.Prelude.{ℕ, Bool, List, Option, Some, None, slice_set}
use Rattle.hp_words.specs.declared.content.Content.{Content}
use Rattle.hp_model.specs.declared.Answer.{Answer}

abbrev pub lifted : Content → Content
lifted d = record d { y = d.x; z = d.y; t = d.z }

abbrev pub flag_after : ℕ → Option Bool → List Bool → List Bool
flag_after n None flags = flags
flag_after n (Some b) flags = slice_set flags n b

-- the flags after an answer, which tells of the carry and of out of range
abbrev pub flags_after : Answer → List Bool → List Bool
flags_after answer flags = flag_after 5 answer.range (flag_after 4 answer.carry flags)
