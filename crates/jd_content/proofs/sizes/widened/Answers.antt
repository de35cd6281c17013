use Rattle.std.proofs.Common.{◌≡◌, ◌^◌, ◌<◌, ◌≤◌, ◌%◌, length, arith, lit≤}
use Rattle.std.proofs.Math.Nat.{mod-eq_of_lt, pow-le-pow_right}
use Rattle.jd_vectors.specs.Number.{number}
use Rattle.jd_vectors.proofs.Numbers.{number-append, number-small}
use Rattle.jd_vectors.proofs.Kept.{Inside-append}
use Rattle.jd_content.proofs.sizes.widened.Goals as goal

pub returns-clause-inside : goal.returns-clause-inside
returns-clause-inside c = λ n h. rw (c.append.ensures, c.copy-lits.ensures) (Inside-append n _ _ h (c.constant.ensures.inside n))

pub returns-clause-meaning : goal.returns-clause-meaning
returns-clause-meaning c = λ val.
    let small = number-small val c.args.x.now in
    let power : 2 ^ length c.args.x.now ≤ 2 ^ c.args.size = pow-le-pow_right {n = 2} (lit≤ tt) c.requires.wide in
    let low : number val c.args.x.now < 2 ^ c.args.size = omega arith in
    let same : number val c.args.x.now % 2 ^ c.args.size ≡ number val c.args.x.now = mod-eq_of_lt low in
    rw (c.append.ensures, number-append, c.constant.ensures.number val, c.copy-lits.ensures, same) (omega arith)

pub returns-clause-same : goal.returns-clause-same
returns-clause-same c = λ val. rw (c.append.ensures, number-append, c.constant.ensures.number val, c.copy-lits.ensures) (omega arith)
