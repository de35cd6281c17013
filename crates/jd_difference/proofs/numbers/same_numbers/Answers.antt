use Rattle.std.proofs.Common.{◌≡◌, length, sym, ◌∙◌, arith}
use Rattle.jd_model.specs.Problems.{content_numbers}
use Rattle.jd_start.specs.Parts.{marks_of}
use Rattle.jd_circuit.specs.Meaning.{lit_value}
use Rattle.jd_circuit.proofs.Values.{grows_trans, solves_before}
use Rattle.jd_content.specs.Meaning.{data_on}
use Rattle.jd_difference.proofs.Comparing.{flags-count, number-count, numbers-done, numbers-turn}
use Rattle.jd_difference.proofs.numbers.same_numbers.Goals as goal

pub loop-place-preserved : goal.loop-place-preserved
loop-place-preserved g c =
    let i = c.loop-place.invariant in
    let d = c.in_ok-one.ensures in
    let a = c.in_ok-all.ensures in
    let firsts_six : length c.args.first.now.flags ≡ 6 = c.flag_count.ensures.count ∙ c.flag_count.ensures.six in
    let seconds_six : length c.args.second.now.flags ≡ 6 = c.flag_count-2.ensures.count ∙ c.flag_count-2.ensures.six in
    record {
      grows = grows_trans _ _ _ i.grows (grows_trans _ _ _ d.grows a.grows);
      of = a.of;
      more = omega arith;
      means = λ val s.
          let s1 = solves_before _ _ val a.grows s in
          let s0 = solves_before _ _ val d.grows s1 in
          let here = data_on val c.args.first.now in
          let there = data_on val c.args.second.now in
          let firsts = number-count here (flags-count val c.args.first.now firsts_six) in
          let seconds = number-count there (flags-count val c.args.second.now seconds_six) in
          numbers-turn (marks_of c.args.observed.now) (content_numbers here) (content_numbers there) c.loop-place.place
          (lit_value val c.loop-place.all) (lit_value val c.in_ok-one.one) (lit_value val c.in_ok-all.all) _ (omega (arith, firsts)) (omega (arith, seconds))
          (a.meaning val s) (d.means val s1) (i.means val s0);
    }

pub returns-clause-means : goal.returns-clause-means
returns-clause-means g c = λ val s.
    let here = data_on val c.args.first.now in
    let there = data_on val c.args.second.now in
    let firsts = number-count here (flags-count val c.args.first.now (c.flag_count.ensures.count ∙ c.flag_count.ensures.six)) in
    numbers-done (marks_of c.args.observed.now) (content_numbers here) (content_numbers there) c.loop-place.place (lit_value val c.loop-place.all) _ (omega (arith, firsts))
    (c.loop-place.invariant.means val s)
