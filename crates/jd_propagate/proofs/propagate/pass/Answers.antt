use Rattle.std.proofs.Common.{rules, arith}
use Rattle.std.proofs.lemmas.Grind.{common_steps}
use Rattle.jd_propagate.proofs.Extensions.{extends-trans, extends-longer}
use Rattle.jd_propagate.proofs.Keeping.{keeps-again}
use Rattle.jd_propagate.proofs.propagate.pass.Goals as goal

pub list-preserved-in-Stays : goal.list-preserved-in-Stays
list-preserved-in-Stays c =
    let v = c.list.invariant in
    let e = c.in_ok-passed.ensures in
    let n = c.step.new in
    record {
      passing = first_of (search rules, grind (arith, common_steps));
      grown = extends-trans c.args.trail.now c.list.trail n.trail v.grown e.grows;
      saved = keeps-again c.args.clauses.now c.args.firsts.now.items c.args.seconds.now.items c.args.trail.now c.list.firsts.items c.list.seconds.items c.list.trail n.firsts.items n.seconds.items n.trail v.grown v.saved e.saved;
      reasons = λ store decisions assumed r. e.reasons store decisions assumed (v.reasons store decisions assumed r);
      head_in = extends-longer c.list.trail n.trail c.args.head v.head_in e.grows;
    }

pub list-preserved : goal.list-preserved
list-preserved c =
    let v = c.list.invariant in
    let e = c.in_ok-passed.ensures in
    let n = c.step.new in
    record {
      passing = first_of (search rules, grind (arith, common_steps));
      grown = extends-trans c.args.trail.now c.list.trail n.trail v.grown e.grows;
      saved = keeps-again c.args.clauses.now c.args.firsts.now.items c.args.seconds.now.items c.args.trail.now c.list.firsts.items c.list.seconds.items c.list.trail n.firsts.items n.seconds.items n.trail v.grown v.saved e.saved;
      reasons = λ store decisions assumed r. e.reasons store decisions assumed (v.reasons store decisions assumed r);
      head_in = extends-longer c.list.trail n.trail c.args.head v.head_in e.grows;
    }

pub returns-in-Conflict-clause-saved : goal.returns-in-Conflict-clause-saved
returns-in-Conflict-clause-saved c =
    let v = c.list.invariant in
    let n = c.step.new in
    keeps-again c.args.clauses.now c.args.firsts.now.items c.args.seconds.now.items c.args.trail.now c.list.firsts.items c.list.seconds.items c.list.trail n.firsts.items n.seconds.items n.trail
    v.grown v.saved c.in_ok-passed.ensures.saved

pub returns-in-Conflict-clause-reasons : goal.returns-in-Conflict-clause-reasons
returns-in-Conflict-clause-reasons c = λ store decisions assumed r. c.in_ok-passed.ensures.reasons store decisions assumed (c.list.invariant.reasons store decisions assumed r)
