use Rattle.std.proofs.Common.{◌∙◌, ap, ℕ, ℤ, [], ◌∷◌, ◌++◌, w32}
use Rattle.std.proofs.lemmas.Int.{to_z-of_z}
use Rattle.jd_propagate.specs.declared.reason.Reason.TheVariants as reason
use Rattle.jd_learn.proofs.Teaching.{begun-watched}
use Rattle.jd_learn.proofs.learning.add_watched.Goals as goal

pub returns-clause-begun : goal.returns-clause-begun
returns-clause-begun c =
    let s = c.args.solver.now in
    let a = c.args.first in
    let b = c.args.second in
    let m = c.in_ok-make_true.ensures in
    let w = c.in_ok-watch.ensures in
    let n = c.watch.new in
    let ea = to_z-of_z w32 a c.ranges.first in
    let eb = to_z-of_z w32 b c.ranges.second in
    let et = m.trail ∙ ap (λ (x : ℤ). s.trail ++ x ∷ []) ea in
    let er = m.reasons ∙ ap (λ (k : ℕ). s.reasons.items ++ reason.Clause k ∷ []) c.len-at.ensures in
    begun-watched c.args._clauses.now s c.requires.quiet c.args.clause.now c.args.line c.args.id c.requires.line a c.requires.open c.make_true.new.trail c.push-2.new.self et c.in_ok-push-2.ensures.items
    b n.clauses c.push.new.self n.firsts n.seconds n.lists c.make_true.new.reasons
    w.clauses c.in_ok-push.ensures.items (w.firsts ∙ ap (λ (x : ℤ). s.firsts.items ++ x ∷ []) ea) (w.seconds ∙ ap (λ (x : ℤ). s.seconds.items ++ x ∷ []) eb) w.watched er c.requires.pair c.requires.others c.requires.late
