use Rattle.std.proofs.Common.{ap, arith, lit<}
use Rattle.jd_start.specs.Parts.{place_of}
use Rattle.jd_start.proofs.FlagLists.{marks_of-flag, marks_of-memory}
use Rattle.jd_start.proofs.parts.Parts.insert.Goals as goal

pub returns-in-F0 : goal.returns-in-F0
returns-in-F0 c = marks_of-flag c.args.self.now c.args.part (omega arith) 0 (ap place_of c.in-F0.is) (lit< tt)

pub returns-in-F1 : goal.returns-in-F1
returns-in-F1 c = marks_of-flag c.args.self.now c.args.part (omega arith) 1 (ap place_of c.in-F1.is) (lit< tt)

pub returns-in-F2 : goal.returns-in-F2
returns-in-F2 c = marks_of-flag c.args.self.now c.args.part (omega arith) 2 (ap place_of c.in-F2.is) (lit< tt)

pub returns-in-F3 : goal.returns-in-F3
returns-in-F3 c = marks_of-flag c.args.self.now c.args.part (omega arith) 3 (ap place_of c.in-F3.is) (lit< tt)

pub returns-in-C : goal.returns-in-C
returns-in-C c = marks_of-flag c.args.self.now c.args.part (omega arith) 4 (ap place_of c.in-C.is) (lit< tt)

pub returns-in-G : goal.returns-in-G
returns-in-G c = marks_of-flag c.args.self.now c.args.part (omega arith) 5 (ap place_of c.in-G.is) (lit< tt)

pub returns-in-M : goal.returns-in-M
returns-in-M c = marks_of-memory c.args.self.now c.args.part (omega arith) (ap place_of c.in-M.is)
