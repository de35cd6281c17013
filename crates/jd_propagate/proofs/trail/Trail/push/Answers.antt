use Rattle.std.proofs.Common.{◌≡◌, ◌∙◌, ap, sym, subst, arith, w32, false, List, ℤ}
use Rattle.std.proofs.lemmas.Int.{to_z-of_z}
use Rattle.jd_proving.specs.Propagation.{has_value}
use Rattle.jd_propagate.specs.Trails.{key_of}
use Rattle.jd_propagate.proofs.TrailSteps.{pushed, key_small}
use Rattle.jd_propagate.proofs.trail.Trail.push.Goals as goal

pub make_room-requires : goal.make_room-requires
make_room-requires c =
    let e = to_z-of_z w32 c.args.l c.ranges.l in
    omega (arith, key_small c.args.l c.requires.literal, c.key-key.ensures ∙ ap key_of e)

pub invariant_of-self-2 : goal.invariant_of-self-2
invariant_of-self-2 c =
    let i = c.self.inside in
    let e = to_z-of_z w32 c.args.l c.ranges.l in
    let P : List ℤ → Type 0 = λ xs. has_value xs c.args.l ≡ false in
    pushed i.marks.items c.make_room.new.marks.items i.literals.items c.push.new.self.items c.args.l c.key-key.result (c.key-key.ensures ∙ ap key_of e)
    (rw e at c.in_ok-push.ensures.items) c.self.invariant c.requires.literal (subst P (sym c.self.view_is) c.requires.no_value) c.make_room.ensures.kept c.in_ok-make_room.ensures.room
