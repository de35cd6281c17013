-- Two pieces that are written one after the other.
use Rattle.std.proofs.Common.{ℕ, ◌+◌, List, ◌++◌, length, take, Option, sym, subst}
use Rattle.std.specs.Io.KnownBytes.{Appends}
use Rattle.std.proofs.KnownBytes.{Appends-trans}
use Rattle.std.proofs.Math.Seq.{take-append-add}

-- the first, and a part of the second
pub second-part : (before between after : Option (List ℕ)) (first second : List ℕ) (n : ℕ) → Appends before between first → Appends between after (take n second)
    → Appends before after (take (length first + n) (first ++ second))
second-part before between after first second n whole part =
    subst (Appends before after) (sym (take-append-add first second n)) (Appends-trans before between after first (take n second) whole part)
