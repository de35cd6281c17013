-- What several writes, or several reads, do together.
use Rattle.std.proofs.Common.{ℕ, ◌+◌, ◌≤◌, List, ◌++◌, take, drop, length, subst, sym, arith, length-append, length-take}
use Rattle.std.specs.declared.option.Option.{Option}
use Rattle.std.specs.Io.KnownBytes.{Appends, Consumes}
use Rattle.std.proofs.KnownBytes.{Appends-trans, Consumes-trans}
use Rattle.std.proofs.Math.Seq.{take-add}
use Rattle.hp_io.specs.Limited.{Takes}

-- a front of some bytes, and then a front of the rest, is a longer front
pub Appends-more : (a b c : Option (List ℕ)) (bytes : List ℕ) (n m : ℕ)
    → Appends a b (take n bytes) → Appends b c (take m (drop n bytes)) → Appends a c (take (n + m) bytes)
Appends-more a b c bytes n m p q =
    subst (Appends a c) (sym (take-add n m bytes)) (Appends-trans a b c _ _ p q)

-- some bytes, and then the front of a piece
pub Takes-more : (a b c : Option (List ℕ)) (bytes piece : List ℕ) (n : ℕ)
    → Consumes a b bytes → Consumes b c (take n piece) → n ≤ length piece → Takes (length bytes + n) a c
Takes-more a b c bytes piece n p q within = (
  bytes ++ take n piece,
  Consumes-trans a b c _ _ p q,
  omega (arith, length-append bytes (take n piece), length-take n piece),
)
