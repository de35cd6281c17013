use Rattle.std.proofs.Common.{arith, length-append}
use Rattle.jd_circuit.specs.Meaning.{lit_value}
use Rattle.jd_circuit.proofs.Values.{solves_before}
use Rattle.jd_vectors.proofs.Kept.{grows_trans, pushed}
use Rattle.jd_model.specs.Assumptions.{holds}
use Rattle.jd_content.specs.Meaning.{data_on}
use Rattle.jd_inputs.proofs.Assumed.{held_on}
use Rattle.jd_inputs.proofs.assumptions.assumption_lits.Goals as goal

pub loop-i-preserved : goal.loop-i-preserved
loop-i-preserved g c =
    let i = c.loop-i.invariant in
    let d = c.in_ok-l.ensures in
    record {
      grows = grows_trans _ _ _ i.grows d.grows;
      count = rw c.push.ensures (simp length-append (omega arith));
      of = rw c.push.ensures (pushed _ _ _ _ d.grows i.of d.of);
      more = omega arith;
      means = λ val s. rw c.push.ensures (held_on (lit_value val) (λ a. holds a (data_on val c.args.content.now)) c.loop-i.lits _ c.as_slice-assumed.result.now c.loop-i.i _ (omega arith)
          (i.means val (solves_before _ _ val d.grows s)) (d.meaning val s));
    }
