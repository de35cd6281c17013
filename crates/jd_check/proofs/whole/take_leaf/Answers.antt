use Rattle.std.proofs.Common.{◌≡◌, ◌+◌, ◌<◌, ◌≤◌, ◌^◌, List, ◌++◌, ◌∷◌, [], length, take, sym, ap, ◌∙◌, subst, arith}
use Rattle.std.proofs.lemmas.List.{take_all}
use Rattle.jd_trees.specs.declared.CertEvent.{CertEvent}
use Rattle.jd_trees.specs.declared.CertEvent.TheVariants.{Proof}
use Rattle.jd_trees.specs.Events.{begun_events}
use Rattle.jd_check.specs.Events.{BeginsTree}
use Rattle.jd_check.specs.Runs.{IsChecking}
use Rattle.jd_check.proofs.EventByEvent.{begun-event}
use Rattle.jd_check.proofs.Hearing.{all-short, end-heard, heard-begins, line-heard, lines-short}
use Rattle.jd_check.proofs.whole.take_leaf.Goals as goal

pub loop-line-init : goal.loop-line-init
loop-line-init g c = λ p events h begins short.
    let kind = c.args.kind in
    subst (λ es. IsChecking p (events ++ es) c.hear.new.self) (sym (begun-event kind))
    (c.in_ok-hear.ensures.taken p events h (subst (λ es. BeginsTree (events ++ es)) (begun-event kind) (heard-begins events kind c.args.log.now 0 begins)) short)

pub loop-line-preserved : goal.loop-line-preserved
loop-line-preserved g c = λ p events h begins short.
    let kind = c.args.kind in
    let log = c.args.log.now in
    let k = c.loop-line.line-index in
    let line = c.line-item.result in
    let inside : k < length log = c.loop-line-test.true in
    let within : k ≤ length log = omega (arith, inside) in
    let few : k + 2 < 2 ^ 64 = omega arith in
    let so_far : List CertEvent = events ++ begun_events kind (take k log) in
    let same : so_far ++ Proof line ∷ [] ≡ events ++ begun_events kind (take (k + 1) log) =
    ap (λ l. so_far ++ Proof l ∷ []) c.line-item.is ∙ line-heard events kind log k line inside in
    subst (λ es. IsChecking p es c.hear-in-loop-line.new.self) same
    (c.in_ok-hear-2.ensures.taken p so_far (c.loop-line.invariant p events h begins short) (subst BeginsTree (sym same) (heard-begins events kind log (k + 1) begins))
    (lines-short events kind log k within few))

pub returns : goal.returns
returns g c = λ p events h begins short.
    let kind = c.args.kind in
    let log = c.args.log.now in
    let k = c.loop-line.line-index in
    let few : length log + 2 < 2 ^ 64 = omega arith in
    let all : take k log ≡ log = take_all k log c.loop-line-test.false in
    let so_far : List CertEvent = events ++ begun_events kind log in
    let heard : IsChecking p so_far c.loop-line.run = subst (λ ls. IsChecking p (events ++ begun_events kind ls) c.loop-line.run) all (c.loop-line.invariant p events h begins short) in
    subst (λ es. IsChecking p es c.hear-2.new.self) (end-heard events kind log)
    (c.in_ok-hear-3.ensures.taken p so_far heard (subst BeginsTree (sym (end-heard events kind log)) begins) (all-short events kind log few))
