use Rattle.std.proofs.Common.{◌++◌, ◌∷◌, [], ◌∙◌, sym, ap, ℤ, List, subst}
use Rattle.std.proofs.lemmas.List.Elements.{All-append}
use Rattle.jd_logic.specs.Literals.{IsLiteral, AreLiterals}
use Rattle.jd_lrat.proofs.Cuts.{IsPushed, parts-pushed}
use Rattle.jd_lrat.proofs.clauses.Clauses.push.Goals as goal

pushed : (c : goal.In-Ok) → IsPushed c.self.inside.literals.items c.args.clause.now c.self.inside.ends.items c.extend_from_slice.new.self.items c.push.new.self.items
pushed c =
    parts-pushed c.self.inside.literals.items c.args.clause.now c.self.inside.ends.items c.extend_from_slice.new.self.items c.push.new.self.items c.len.result
    c.in_ok-extend_from_slice.ensures.items c.in-Ok.ensures.items (c.len.ensures ∙ c.extend_from_slice.new.self.ok.0) c.self.invariant.0

pub invariant_of-self-in-Ok : goal.invariant_of-self-in-Ok
invariant_of-self-in-Ok c =
    let P : List ℤ → Type 0 = λ xs. AreLiterals xs in
    ((pushed c).cut, subst P (sym c.in_ok-extend_from_slice.ensures.items) (All-append IsLiteral c.self.inside.literals.items c.args.clause.now c.self.invariant.1 c.requires))

pub returns-in-Ok-clause-pushed : goal.returns-in-Ok-clause-pushed
returns-in-Ok-clause-pushed c = (pushed c).pushed ∙ ap (λ xs. xs ++ c.args.clause.now ∷ []) c.self.view_is
