use Rattle.std.proofs.Common.{◌≡◌, ◌-◌, ◌*◌, ◌∙◌, arith, pos, neg_ℤ, ap, sym, rules}
use Rattle.hp_model.specs.Words.{low}
use Rattle.hp_double.specs.Number.{number, two_words}
use Rattle.hp_double.proofs.Doubles.{low_plain, low_ones, low_others, complemented}
use Rattle.hp_double.proofs.product.double_pattern.Goals as goal

pub returns-then-not-v : goal.returns-then-not-v
returns-then-not-v c =
    let w = c.args.size.bits in
    let plain : number c.args.v ≡ pos c.args.v.magnitude = search (rules, c.then-not-v.either) in
    c.parted.ensures ∙ ap (two_words w) (sym (ap (low (2 * w) c.args.mode) plain ∙ low_plain w c.args.mode c.args.v.magnitude c.requires))

pub returns-in-Ones : goal.returns-in-Ones
returns-in-Ones c =
    let w = c.args.size.bits in
    let n = c.args.v.magnitude in
    let below : number c.args.v ≡ neg_ℤ (pos n) = search (rules, c.if-not-v.false) in
    c.complemented.ensures
    ∙ complemented w n (low (2 * w) c.args.mode (number c.args.v)) c.parted-in-Ones.result c.parted-in-Ones.ensures c.requires
    (rw (below, c.in-Ones.is) (low_ones w n c.if-v-eq0.false c.requires))

pub returns-in_default : goal.returns-in_default
returns-in_default c =
    let w = c.args.size.bits in
    let n = c.args.v.magnitude in
    let below : number c.args.v ≡ neg_ℤ (pos n) = search (rules, c.if-not-v.false) in
    c.complemented-in_default.ensures
    ∙ complemented w (n - 1) (low (2 * w) c.args.mode (number c.args.v)) c.parted-in_default.result c.parted-in_default.ensures (omega (arith, c.requires))
    (rw below (low_others w c.args.mode n c.in_default.not-Ones c.if-v-eq0.false c.requires))
