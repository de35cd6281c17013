use Rattle.std.proofs.Common.{◌≡◌, ◌-◌, get_or, eqb}
use Rattle.hp_model.specs.Lists.{first_from}
use Rattle.hp_control.proofs.targets.find_line.Given as goal

-- what is left of the search gives what the whole gives
abbrev pub invariant-loop-i : goal.invariant-loop-i
invariant-loop-i g l =
    first_from (λ i. eqb (get_or (g.P.Program.listing l.program).codes (i - 1) 0) l.code) l.i (l.end - l.i)
    ≡ first_from (λ i. eqb (get_or (g.P.Program.listing l.program).codes (i - 1) 0) l.code) l.first (l.end - l.first)
