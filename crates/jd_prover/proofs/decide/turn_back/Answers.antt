use Rattle.std.proofs.Common.{rules, arith, ◌≡◌, ◌∙◌, ap, subst, ℕ, ◌+◌, ◌-◌, ◌<◌, ◌^◌, ℤ, pos, w32, List, [], ◌∷◌, ◌++◌, length, take, get_or}
use Rattle.std.specs.Prelude.{neg_ℤ}
use mir.Val.{SFits}
use Rattle.std.proofs.lemmas.Int.{to_z-of_z}
use Rattle.std.proofs.lemmas.List.{get_or_default}
use Rattle.jd_logic.specs.declared.Line.{Line}
use Rattle.jd_logic.specs.Ranges.{IsDerivation}
use Rattle.jd_propagate.specs.declared.reason.Reason.{Reason}
use Rattle.jd_propagate.specs.declared.reason.Reason.TheVariants as reason
use Rattle.jd_propagate.specs.Levels.{negated}
use Rattle.jd_propagate.specs.Quiet.{HasNoOpposites}
use Rattle.jd_prover.proofs.Backing.{searching-back, settled-back}
use Rattle.jd_prover.proofs.decide.turn_back.Goals as goal

pub returns-clause-start : goal.returns-clause-start
returns-clause-start c =
    let cs = c.args._clauses.now in
    let s = c.args.solver.now in
    let h = c.requires.searching in
    let r = c.requires.line in
    let id = c.args.id in
    let last = c.len-last.result - 1 in
    let many : length s.decisions.items ≡ last + 1 = omega (arith, c.len-last.ensures, c.requires.decided) in
    let limit = c.index-limit.result.now in
    let il = c.index-l.result.now in
    let fl : SFits w32 il = search rules in
    let z = to_z-of_z w32 il fl in
    let ei : il ≡ get_or s.decisions.items last (pos 0) = c.index-l.ensures ∙ get_or_default s.decisions.items last il (pos 0) (omega (arith, many)) in
    let em : limit ≡ get_or s.limits.items last 0 = c.index-limit.ensures ∙ get_or_default s.limits.items last limit 0 (omega (arith, many, h.levels.as_many)) in
    let d = get_or s.decisions.items last (pos 0) in
    let m = get_or s.limits.items last 0 in
    let small : id < 2 ^ 62 = omega (arith, c.requires.next, c.requires.many, c.requires.few) in
    let trail = c.make_false.new.trail in
    let reasons = c.make_false.new.reasons in
    let decisions = c.truncate.new.self in
    let limits = c.truncate-2.new.self in
    let lines = c.push.new.self in
    let et : trail ≡ take m s.trail ++ neg_ℤ d ∷ [] = c.in_ok-make_false.ensures.trail
    ∙ ap (λ (x : ℤ). c.cut.new.self ++ neg_ℤ x ∷ []) (z ∙ ei)
    ∙ ap (λ (xs : List ℤ). xs ++ neg_ℤ d ∷ []) (c.cut.ensures ∙ ap (λ (n : ℕ). take n s.trail) em) in
    let er : reasons.items ≡ take m s.reasons.items ++ reason.Line id ∷ [] = c.in_ok-make_false.ensures.reasons
    ∙ ap (λ (xs : List Reason). xs ++ reason.Line id ∷ []) (c.truncate-3.ensures.items ∙ ap (λ (n : ℕ). take n s.reasons.items) em) in
    let en = c.in_ok-push.ensures.items ∙ ap (λ (l : Line). s.lines.items ++ l ∷ []) r.same in
    let ranges : IsDerivation id (negated s.decisions.items) r.hints = record { id_in = record { not_zero = omega (arith, c.requires.next); bounded = omega arith }; clause_in = r.literals_in; hints_in = r.hints_in } in
    let opposites = c.literals-literals.ensures.orderly.no_opposites in
    let O : List ℤ → Type 0 = λ xs. HasNoOpposites xs in
    let o = subst O c.literals-literals.ensures.same opposites in
    record {
      searching = searching-back cs c.args._inputs last id r.hints s trail reasons decisions limits lines h o many r.right ranges c.requires.next small et er c.truncate.ensures.items c.truncate-2.ensures.items en;
      settled = settled-back cs c.args._inputs last id r.hints s trail reasons decisions limits lines h o many r.right ranges c.requires.next small et er c.truncate.ensures.items c.truncate-2.ensures.items en;
      from_in = omega arith;
    }
