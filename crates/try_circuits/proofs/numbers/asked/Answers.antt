use Rattle.try_circuits.proofs.numbers.asked.Goals as goal

pub answers-requires-clause-first : goal.answers-requires-clause-first
answers-requires-clause-first c = c.word.ensures.inside _

pub answers-requires-clause-second : goal.answers-requires-clause-second
answers-requires-clause-second c = c.word-2.ensures.inside _

pub answers-requires-clause-third : goal.answers-requires-clause-third
answers-requires-clause-third c = c.word-3.ensures.inside _
