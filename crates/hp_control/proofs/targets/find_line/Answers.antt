use Rattle.std.proofs.Common.{◌≡◌, ◌-◌, get_or, eqb, false, arith, sym, ◌∙◌}
use Rattle.std.proofs.lemmas.Bool.Decides.{nat_tests}
use Rattle.hp_model.proofs.FirstFrom.{first_from-next}
use Rattle.hp_control.proofs.targets.find_line.Goals as goal

pub loop-i-preserved : goal.loop-i-preserved
loop-i-preserved g c =
    let fails : eqb (get_or (g.P.Program.listing c.args.program.now).codes (c.loop-i.i - 1) 0) c.args.code ≡ false = grind (arith, nat_tests) in
    sym (first_from-next (λ i. eqb (get_or (g.P.Program.listing c.args.program.now).codes (i - 1) 0) c.args.code) c.loop-i.i c.args.end (omega arith) fails) ∙ c.loop-i.invariant
