use Rattle.std.proofs.Common.{◌≡◌, ℕ, ◌+◌, ◌∙◌, ap, w32, rules, get_or, pos, true, List, ℤ, ◌∷◌, drop, subst, arith}
use mir.Val.{SFits}
use Rattle.std.proofs.lemmas.Int.{to_z-of_z}
use Rattle.std.proofs.lemmas.List.{drop_more, drop_all}
use Rattle.jd_logic.specs.Literals.{has}
use Rattle.jd_lrat.specs.Marked.{key_of}
use Rattle.jd_lrat.proofs.Trails.{unmarked, none_marked}
use Rattle.jd_lrat.proofs.marks.unmark_all.Goals as goal

pub loop-l-preserved : goal.loop-l-preserved
loop-l-preserved c = λ m is.
    let trail = c.args.trail.now in
    let i = c.loop-l.l-index in
    let l = get_or trail i (pos 0) in
    let f : SFits w32 l = search rules in
    let P : List ℤ → Type 0 = λ xs. has xs m ≡ true in
    unmarked c.loop-l.near.items c.loop-l.far.items c.unmark.new.near.items c.unmark.new.far.items l m (drop (i + 1) trail) c.key.result
    (c.key.ensures ∙ ap key_of (to_z-of_z w32 l f)) c.unmark.ensures.here c.unmark.ensures.others
    (λ on. subst P (drop_more trail i (pos 0) c.loop-l-test.true) (c.loop-l.invariant m is on))

pub returns : goal.returns
returns c = none_marked c.loop-l.near.items c.loop-l.far.items (λ m is on.
    let P : List ℤ → Type 0 = λ xs. has xs m ≡ true in
    subst P (drop_all c.loop-l.l-index c.args.trail.now (omega arith)) (c.loop-l.invariant m is on))
