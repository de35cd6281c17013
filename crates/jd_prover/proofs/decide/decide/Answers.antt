use Rattle.std.proofs.Common.{◌≡◌, ◌∙◌, ap, sym, subst, arith, w32, rules, ℕ, ◌-◌, ℤ, pos, [], ◌∷◌, ◌++◌, length, take, false}
use Rattle.std.specs.Prelude.{neg_ℤ}
use mir.Val.{SFits}
use Rattle.std.proofs.lemmas.Int.{to_z-of_z}
use Rattle.std.proofs.lemmas.List.{length_push}
use Rattle.jd_logic.specs.Literals.{IsLiteral}
use Rattle.jd_propagate.specs.Passing.{AreSettled}
use Rattle.jd_proving.specs.Propagation.{has_value}
use Rattle.jd_prover.proofs.Deciding.{negation-literal, negation-open, negation-valued, searching-decided, settled-decided}
use Rattle.jd_prover.proofs.decide.decide.Goals as goal

pub make_true-requires-clause-literal : goal.make_true-requires-clause-literal
make_true-requires-clause-literal c =
    let v = c.args.variable in
    let l = c.negation_of-l.result in
    let f : SFits w32 l = search rules in
    let L : ℤ → Type 0 = λ z. IsLiteral z in
    subst L (sym (to_z-of_z w32 l f ∙ c.negation_of-l.ensures.same)) (negation-literal v c.requires.input.0 (let i = c.requires.input.1 in omega (arith, c.requires.small)))

pub make_true-requires-clause-no_value : goal.make_true-requires-clause-no_value
make_true-requires-clause-no_value c =
    let l = c.negation_of-l.result in
    let f : SFits w32 l = search rules in
    let s = c.args.solver.now in
    let L : ℤ → Type 0 = λ z. has_value s.trail z ≡ false in
    subst L (sym (to_z-of_z w32 l f ∙ c.negation_of-l.ensures.same)) (negation-open s.trail (pos c.args.variable) c.requires.no_value)

pub returns-clause-start : goal.returns-clause-start
returns-clause-start c =
    let v = c.args.variable in
    let i = c.requires.input in
    let o = c.requires.no_value in
    let s = c.args.solver.now in
    let l = c.negation_of-l.result in
    let f : SFits w32 l = search rules in
    let e = to_z-of_z w32 l f ∙ c.negation_of-l.ensures.same in
    let d = neg_ℤ (pos v) in
    let n = c.requires.node in
    let et = c.in_ok-make_true.ensures.trail ∙ ap (λ (x : ℤ). s.trail ++ x ∷ []) e in
    let er = c.in_ok-make_true.ensures.reasons in
    let ed = c.in_ok-push-2.ensures.items ∙ ap (λ (x : ℤ). s.decisions.items ++ x ∷ []) e in
    let el = c.in_ok-push.ensures.items ∙ ap (λ (x : ℕ). s.limits.items ++ x ∷ []) c.len.ensures in
    let lit = negation-literal v (i.0) (let b = i.1 in omega (arith, c.requires.small)) in
    let n' = length s.trail in
    let trail' = c.make_true.new.trail in
    let many = ap length et ∙ length_push s.trail d in
    let S : ℕ → Type 0 = λ k. AreSettled s.long s.firsts.items s.seconds.items trail' (take k trail') in
    record {
      searching = searching-decided c.args._clauses.now c.args._inputs v d s c.make_true.new.trail c.make_true.new.reasons c.push-2.new.self c.push.new.self
          (n.0) (n.1) (n.2) lit (negation-open s.trail (pos v) o) (i.0) (i.1) o (negation-valued s.trail (pos v)) et er ed el;
      settled = subst S (let e : n' ≡ length trail' - 1 = omega arith in e) (settled-decided c.args._clauses.now c.args._inputs v d s c.make_true.new.trail c.make_true.new.reasons c.push-2.new.self c.push.new.self
          (n.0) (n.1) (n.2) lit (negation-open s.trail (pos v) o) (i.0) (i.1) o (negation-valued s.trail (pos v)) et er ed el);
      from_in = omega arith;
    }
