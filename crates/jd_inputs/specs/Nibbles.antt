-- The fields of nibbles.
use Rattle.std.specs.Prelude.{Some, None}
use Rattle.jd_model.specs.Problems.{Field}

-- a nibble that is free, and one that is fixed at zero
abbrev pub free_nibble : Field
free_nibble = record { width = 4; fixed = None }

abbrev pub zero_nibble : Field
zero_nibble = record { width = 4; fixed = Some 0 }
