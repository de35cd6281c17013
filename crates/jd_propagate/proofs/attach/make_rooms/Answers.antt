use Rattle.std.proofs.Common.{◌∙◌, ap, arith, ℤ, List, get_or, pos, w32, rules, subst, take, inl, inr}
use mir.Val.{SFits}
use Rattle.std.proofs.lemmas.Int.{to_z-of_z}
use Rattle.std.proofs.lemmas.List.{take_more}
use Rattle.jd_propagate.specs.Quiet.{IsIn}
use Rattle.jd_propagate.specs.Trails.{key_of}
use Rattle.jd_propagate.proofs.Members.{has-push_cases}
use Rattle.jd_propagate.proofs.attach.make_rooms.Goals as goal

pub loop-l-preserved : goal.loop-l-preserved
loop-l-preserved c =
    let xs = c.args.clause.now in
    let i = c.loop-l.l-index in
    let l = get_or xs i (pos 0) in
    let f : SFits w32 l = search rules in
    let e = to_z-of_z w32 l f in
    let v = c.loop-l.invariant in
    let m = c.make_room.ensures in
    let r = c.in_ok-make_room.ensures in
    let k = c.key.ensures ∙ ap key_of e in
    record {
      same = λ j. m.same j ∙ v.same j;
      longer = omega (arith, m.longer, v.longer);
      room = λ n is. (let P : List ℤ → Type 0 = λ ys. IsIn ys n in
          elim (has-push_cases (take i xs) l n (subst P (take_more xs i (pos 0) c.loop-l-test.true) is)) [
            | inl g ↦ (let h = v.room n g in omega (arith, h, m.longer))
            | inr g ↦ (let h = ap key_of g in omega (arith, h, k, r))
          ]);
    }
