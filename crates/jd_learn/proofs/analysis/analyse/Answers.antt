use Rattle.std.proofs.Common.{arith, ◌≡◌, sym, subst, ℕ, ℤ, List}
use Rattle.std.specs.Prelude.{reverse}
use Rattle.jd_logic.specs.Literals.{IsLiteral, IsHint, AreLiterals, AreHints}
use Rattle.jd_propagate.specs.Levels.{negated}
use Rattle.jd_prover.specs.Solving.{IsRight, IsExplained, store_of}
use Rattle.jd_learn.proofs.Analysing.{taught-right, all-reversed}
use Rattle.jd_learn.proofs.analysis.analyse.Goals as goal

pub returns : goal.returns
returns c =
    let cs = c.args.clauses.now in
    let s = c.args.solver.now in
    let v = c.trail.invariant in
    let a = c.trail.analysis in
    let N : ℕ → Type 0 = λ n. IsExplained (store_of cs s.lines.items) s.trail a.kept.items a.marks.items a.hints.items n in
    let zero' : c.trail.at ≡ 0 = omega (arith, c.trail-test.false) in
    let right = taught-right cs s a.kept.items a.marks.items a.hints.items v.analysed.are_true (subst N zero' v.analysed.explained) in
    let K : List ℤ → Type 0 = λ xs. IsRight cs s.lines.items (negated xs) c.reverse-2.new.self.items in
    let H : List ℤ → Type 0 = λ xs. IsRight cs s.lines.items (negated (reverse a.kept.items)) xs in
    let J : List ℤ → Type 0 = λ xs. AreHints xs in
    let L : List ℤ → Type 0 = λ xs. AreLiterals xs in
    record {
      right = subst K (sym c.reverse.ensures.items) (subst H (sym c.reverse-2.ensures.items) right);
      hints_in = subst J (sym c.reverse-2.ensures.items) (all-reversed IsHint a.hints.items v.analysed.explained.hints);
      literals = subst L (sym c.reverse.ensures.items) (all-reversed IsLiteral a.kept.items v.analysed.literals);
    }
