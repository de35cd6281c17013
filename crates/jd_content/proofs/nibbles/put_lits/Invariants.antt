use Rattle.std.proofs.Common.{◌≡◌, ◌+◌, take, drop, ◌++◌}
use Rattle.jd_content.proofs.nibbles.put_lits.Given as goal

abbrev pub invariant-loop-i : goal.invariant-loop-i
invariant-loop-i l = l.items ≡ take l.from l.fn.items ++ take l.i l.lits ++ drop (l.from + l.i) l.fn.items
