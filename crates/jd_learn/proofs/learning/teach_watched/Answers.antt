use Rattle.std.proofs.Common.{rules, arith, ◌≡◌, ◌∙◌, ap, sym, subst, ℕ, ◌-◌, ℤ, pos, w32, to_z, of_z, List, length, get_or}
use Rattle.std.specs.Prelude.{neg_ℤ}
use mir.Val.{SFits}
use Rattle.std.proofs.Math.IntN.{neg_ℤ-neg_ℤ}
use Rattle.std.proofs.lemmas.Int.{to_z-of_z}
use Rattle.std.proofs.lemmas.List.{get_or_default}
use Rattle.jd_logic.specs.Literals.{IsLiteral}
use Rattle.jd_propagate.specs.Quiet.{IsIn}
use Rattle.jd_propagate.specs.Levels.{negated}
use Rattle.jd_propagate.specs.Trails.{IsTrail}
use Rattle.jd_propagate.specs.Watched.{IsPair}
use Rattle.jd_learn.proofs.Lessons.{late-before, negated-at, negated-many, open-last, others-false, read-negated, watched-pair}
use Rattle.jd_learn.proofs.learning.teach_watched.Goals as goal

pub add_watched-requires-clause-pair : goal.add_watched-requires-clause-pair
add_watched-requires-clause-pair c =
    let s = c.args.solver.now in
    let kept = c.args.taught.kept.items in
    let il = c.index-last.result.now in
    let ib = c.index-earlier.result.now in
    let f : SFits w32 il = search rules in
    let g : SFits w32 ib = search rules in
    let items = c.in_ok-literals.literals.items in
    let giving = c.requires.giving in
    let n = c.len-count.ensures in
    let two = c.requires.more in
    let lits : items ≡ negated kept = c.in_ok-literals.ensures.same ∙ ap negated c.as_slice.ensures.value in
    let ea = to_z-of_z w32 il f ∙ read-negated kept items (c.len-count.result - 1) (length kept - 1) il lits c.index-last.ensures (omega (arith, n)) (omega arith) in
    let eb = to_z-of_z w32 ib g ∙ read-negated kept items (c.len-count.result - 2) (length kept - 2) ib lits c.index-earlier.ensures (omega (arith, n)) (omega arith) in
    let P : List ℤ → Type 0 = λ xs. IsPair xs (to_z w32 (of_z w32 il)) (to_z w32 (of_z w32 ib)) in
    subst P (sym (c.as_slice-4.ensures.value ∙ lits)) (watched-pair s.trail kept giving (to_z w32 (of_z w32 il)) (to_z w32 (of_z w32 ib)) two ea eb)

pub add_watched-requires-clause-literal : goal.add_watched-requires-clause-literal
add_watched-requires-clause-literal c =
    let il = c.index-last.result.now in
    let f : SFits w32 il = search rules in
    let items = c.in_ok-literals.literals.items in
    let giving = c.requires.giving in
    let lits : items ≡ negated c.args.taught.kept.items = c.in_ok-literals.ensures.same ∙ ap negated c.as_slice.ensures.value in
    let L : ℤ → Type 0 = λ z. IsLiteral z in
    subst L (sym (to_z-of_z w32 il f)) (subst L (sym c.index-last.ensures) (c.in_ok-literals.ensures.literals (c.len-count.result - 1) il
    (omega (arith, c.len-count.ensures, ap length lits, negated-many c.args.taught.kept.items, giving.some))))

pub add_watched-requires-clause-open : goal.add_watched-requires-clause-open
add_watched-requires-clause-open c =
    let s = c.args.solver.now in
    let kept = c.args.taught.kept.items in
    let il = c.index-last.result.now in
    let f : SFits w32 il = search rules in
    let items = c.in_ok-literals.literals.items in
    let giving = c.requires.giving in
    let lits : items ≡ negated kept = c.in_ok-literals.ensures.same ∙ ap negated c.as_slice.ensures.value in
    let ea = to_z-of_z w32 il f ∙ read-negated kept items (c.len-count.result - 1) (length kept - 1) il lits c.index-last.ensures (omega (arith, c.len-count.ensures)) (omega (arith, giving.some)) in
    open-last s.trail kept giving (to_z w32 (of_z w32 il)) ea

pub add_watched-requires-clause-others : goal.add_watched-requires-clause-others
add_watched-requires-clause-others c =
    let s = c.args.solver.now in
    let kept = c.args.taught.kept.items in
    let il = c.index-last.result.now in
    let f : SFits w32 il = search rules in
    let items = c.in_ok-literals.literals.items in
    let giving = c.requires.giving in
    let lits : items ≡ negated kept = c.in_ok-literals.ensures.same ∙ ap negated c.as_slice.ensures.value in
    let ea = to_z-of_z w32 il f ∙ read-negated kept items (c.len-count.result - 1) (length kept - 1) il lits c.index-last.ensures (omega (arith, c.len-count.ensures)) (omega (arith, giving.some)) in
    λ m is. others-false s.trail kept giving (to_z w32 (of_z w32 il)) m ea (let P : List ℤ → Type 0 = λ xs. IsIn xs m in subst P (c.as_slice-4.ensures.value ∙ lits) is)

pub add_watched-requires-clause-late : goal.add_watched-requires-clause-late
add_watched-requires-clause-late c =
    let s = c.args.solver.now in
    let kept = c.args.taught.kept.items in
    let iw = c.index.result.now in
    let ib = c.index-earlier.result.now in
    let f : SFits w32 iw = search rules in
    let g : SFits w32 ib = search rules in
    let items = c.in_ok-literals.literals.items in
    let n = c.len-count.ensures in
    let giving = c.requires.giving in
    let two = c.requires.more in
    let lits : items ≡ negated kept = c.in_ok-literals.ensures.same ∙ ap negated c.as_slice.ensures.value in
    let k = length kept - 2 in
    let w = get_or kept k (pos 0) in
    let ew : iw ≡ w = c.index.ensures ∙ get_or_default kept (c.len-count.result - 2) iw (pos 0) (omega (arith, n)) ∙ ap (λ (j : ℕ). get_or kept j (pos 0)) (let e : c.len-count.result - 2 ≡ k = omega (arith, n) in e) in
    let eb = to_z-of_z w32 ib g ∙ read-negated kept items (c.len-count.result - 2) k ib lits c.index-earlier.ensures (omega (arith, n)) (omega arith) ∙ negated-at kept k (omega arith) in
    let T : List ℤ → Type 0 = λ xs. IsTrail xs in
    late-before c.args.clauses.now s (to_z w32 (of_z w32 iw)) (to_z w32 (of_z w32 ib)) c.args.taught.second c.requires.quiet.learning (subst T c.literals-literals.ensures.same c.literals-literals.ensures.orderly)
    c.if-not-is_late.ensures (ap neg_ℤ eb ∙ neg_ℤ-neg_ℤ w ∙ sym (to_z-of_z w32 iw f ∙ ew))
