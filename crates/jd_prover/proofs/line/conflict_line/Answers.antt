use Rattle.std.proofs.Common.{◌∙◌, ap, subst, ℤ, List}
use Rattle.jd_logic.specs.declared.Line.TheVariants.{Derive}
use Rattle.jd_logic.specs.Literals.{AreLiterals}
use Rattle.jd_propagate.specs.Levels.{negated}
use Rattle.jd_prover.specs.Solving.{store_of}
use Rattle.jd_prover.proofs.Logged.{leads-right}
use Rattle.jd_prover.proofs.line.conflict_line.Goals as goal

pub returns : goal.returns
returns c =
    let s = c.args.solver.now in
    let h = c.in_ok-hints.hints in
    let e = c.in_ok-hints.ensures in
    let n = c.in_ok-clause.ensures in
    let m = n.same ∙ ap negated c.as_slice.ensures.value in
    let L : List ℤ → Type 0 = λ xs. AreLiterals xs in
    record {
      hints = h.items;
      same = ap (λ (xs : List ℤ). Derive c.args.id xs c.new-2.result) (c.new.ensures ∙ m) ∙ ap (λ (ys : List ℤ). Derive c.args.id (negated s.decisions.items) ys) c.new-2.ensures;
      right = leads-right (store_of c.args.clauses.now s.lines.items) s.trail s.decisions.items h.items c.requires.decisions e.leads;
      literals_in = subst L m n.literals;
      hints_in = e.hints;
    }
