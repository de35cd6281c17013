use Rattle.std.proofs.Common.{◌<◌, ap, subst, arith, lit<}
use Rattle.jd_model.specs.Problems.{part_limit}
use Rattle.jd_start.specs.Parts.{place_of}
use Rattle.jd_start.proofs.FlagLists.{values_of-flag, values_of-memory}
use Rattle.jd_start.proofs.parts.Fixed.set.Goals as goal

pub returns-in-F0 : goal.returns-in-F0
returns-in-F0 c =
    values_of-flag c.args.self.now c.args.part c.args.value (omega arith) 0 (ap place_of c.in-F0.is) (lit< tt)
    (subst (λ part. c.args.value < part_limit 64 (place_of part)) c.in-F0.is c.requires)

pub returns-in-F1 : goal.returns-in-F1
returns-in-F1 c =
    values_of-flag c.args.self.now c.args.part c.args.value (omega arith) 1 (ap place_of c.in-F1.is) (lit< tt)
    (subst (λ part. c.args.value < part_limit 64 (place_of part)) c.in-F1.is c.requires)

pub returns-in-F2 : goal.returns-in-F2
returns-in-F2 c =
    values_of-flag c.args.self.now c.args.part c.args.value (omega arith) 2 (ap place_of c.in-F2.is) (lit< tt)
    (subst (λ part. c.args.value < part_limit 64 (place_of part)) c.in-F2.is c.requires)

pub returns-in-F3 : goal.returns-in-F3
returns-in-F3 c =
    values_of-flag c.args.self.now c.args.part c.args.value (omega arith) 3 (ap place_of c.in-F3.is) (lit< tt)
    (subst (λ part. c.args.value < part_limit 64 (place_of part)) c.in-F3.is c.requires)

pub returns-in-C : goal.returns-in-C
returns-in-C c =
    values_of-flag c.args.self.now c.args.part c.args.value (omega arith) 4 (ap place_of c.in-C.is) (lit< tt)
    (subst (λ part. c.args.value < part_limit 64 (place_of part)) c.in-C.is c.requires)

pub returns-in-G : goal.returns-in-G
returns-in-G c =
    values_of-flag c.args.self.now c.args.part c.args.value (omega arith) 5 (ap place_of c.in-G.is) (lit< tt)
    (subst (λ part. c.args.value < part_limit 64 (place_of part)) c.in-G.is c.requires)

pub returns-in-M : goal.returns-in-M
returns-in-M c =
    values_of-memory c.args.self.now c.args.part c.args.value (omega arith) (ap place_of c.in-M.is)
    (subst (λ part. c.args.value < part_limit 64 (place_of part)) c.in-M.is c.requires)
