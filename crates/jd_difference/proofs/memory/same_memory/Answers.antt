use Rattle.std.proofs.Common.{◌≡◌, ◌&&◌, ◌==◌, sym, ap, ◌∙◌, arith}
use Rattle.std.specs.Prelude.{bytes_eq}
use Rattle.hp_model.specs.Lists.{tabulated}
use Rattle.jd_circuit.specs.Meaning.{lit_value}
use Rattle.jd_circuit.proofs.Values.{grows_trans, solves_before}
use Rattle.jd_vectors.proofs.Kept.{all_of}
use Rattle.jd_content.specs.Meaning.{nibble_on}
use Rattle.jd_difference.proofs.Comparing.{nibbles-turn}
use Rattle.jd_difference.proofs.memory.same_memory.Goals as goal

pub loop-place-preserved : goal.loop-place-preserved
loop-place-preserved g c =
    let i = c.loop-place.invariant in
    let d = c.in_ok-equal.ensures in
    let a = c.in_ok-all.ensures in
    record {
      grows = grows_trans _ _ _ i.grows (grows_trans _ _ _ d.grows a.grows);
      of = a.of;
      more = omega arith;
      means = λ val s.
          let s1 = solves_before _ _ val a.grows s in
          let s0 = solves_before _ _ val d.grows s1 in
          let f = nibble_on val c.args.first.now in
          let h = nibble_on val c.args.second.now in
          let k = c.loop-place.place in
          a.meaning val s ∙ ap (λ b. b && lit_value val c.in_ok-equal.equal) (i.means val s0)
          ∙ ap (λ b. bytes_eq (tabulated f k) (tabulated h k) && b) (d.means val s1) ∙ sym (nibbles-turn f h k);
    }

pub same_nibble-requires-clause-first : goal.same_nibble-requires-clause-first
same_nibble-requires-clause-first g c = all_of c.args.c.now c.loop-place.c c.args.first.now c.loop-place.invariant.grows c.requires.first

pub same_nibble-requires-clause-second : goal.same_nibble-requires-clause-second
same_nibble-requires-clause-second g c = all_of c.args.c.now c.loop-place.c c.args.second.now c.loop-place.invariant.grows c.requires.second
