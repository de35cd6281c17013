use Rattle.std.proofs.Common.{◌≡◌, take}
use Rattle.jd_replay.proofs.replays.register_nibbles_of.Given as goal

abbrev pub invariant-loop-j : goal.invariant-loop-j
invariant-loop-j l = l.nibbles ≡ take l.j l.memory.nibbles
