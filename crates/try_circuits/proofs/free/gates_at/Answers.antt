use Rattle.try_circuits.proofs.free.gates_at.Goals as goal

pub mul_lits-requires-clause-second : goal.mul_lits-requires-clause-second
mul_lits-requires-clause-second c = c.word-by.ensures.inside _

pub div_lits-requires-clause-second : goal.div_lits-requires-clause-second
div_lits-requires-clause-second c = c.word-by.ensures.inside _
