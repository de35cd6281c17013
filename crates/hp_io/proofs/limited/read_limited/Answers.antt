use Rattle.std.proofs.Common.{arith, length-take}
use Rattle.hp_io.proofs.Pieces.{Takes-more}
use Rattle.hp_io.proofs.limited.read_limited.Goals as goal

pub returns-then-n-within-clause-too_long : goal.returns-then-n-within-clause-too_long
returns-then-n-within-clause-too_long g c =
    let read = c.in_ok-n.ensures in
    let more = Takes-more _ _ _ _ _ _ c.loop-bytes.invariant.taken read.bytes.0 read.bound.0 in
    let room = length-take c.asked.result c.loop-bytes.piece in
    λ _. (more.0, more.1, omega (arith, more.2, read.bound.0, c.read.auto.into, room))

pub returns-then-is_err-clause-stopped : goal.returns-then-is_err-clause-stopped
returns-then-is_err-clause-stopped g c =
    let read = c.in_ok-n.ensures in
    let more = Takes-more _ _ _ _ _ _ c.loop-bytes.invariant.taken read.bytes.0 read.bound.0 in
    (more.0, more.1, omega (arith, more.2))
