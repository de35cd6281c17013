use Rattle.std.proofs.Common.{◌≡◌, ◌∙◌, sym, subst, rules, ℤ, List, Bool, false, w32, get_or}
use mir.Val.{SFits}
use Rattle.std.proofs.lemmas.Int.{to_z-of_z}
use Rattle.jd_propagate.specs.Trails.{key_of}
use Rattle.jd_prover.specs.Solving.{store_of}
use Rattle.jd_prover.proofs.Hinting.{explained-unmarked}
use Rattle.jd_learn.proofs.analysis.pass.Goals as goal

pub returns-then-not-is_needed : goal.returns-then-not-is_needed
returns-then-not-is_needed c =
    let s = c.args.solver.now in
    let a = c.args.analysis.now in
    let l = c.literal_at-l.result in
    let f : SFits w32 l = search rules in
    let P : List Bool → Type 0 = λ xs. get_or xs (key_of l) false ≡ false in
    let Q : ℤ → Type 0 = λ z. get_or c.as_slice.result.now (key_of z) false ≡ false in
    let h = c.requires.analysed in
    record {
      explained = record {
        leads = explained-unmarked (store_of c.args.clauses.now s.lines.items) a.marks.items a.kept.items s.trail _ c.args.at l c.requires.in_trail c.literal_at-l.ensures.same
            (subst P c.as_slice.ensures.value (subst Q (to_z-of_z w32 l f) (sym c.is_needed.ensures ∙ c.if-not-is_needed.true))) h.explained.leads;
        hints = h.explained.hints;
      };
      are_true = h.are_true;
      literals = h.literals;
    }
