use Rattle.std.proofs.Common.{◌≡◌, ◌+◌, ◌∷◌, false, map, length}
use Rattle.hp_model.specs.Words.{bit}
use Rattle.hp_model.specs.Questions.{numbers_below}
use Rattle.hp_core.proofs.given.spell.Given as goal

abbrev pub invariant-loop-k : goal.invariant-loop-k
invariant-loop-k l = record {
  items : l.given.items ≡ false ∷ map (bit l.number) (numbers_below l.k);
  len : length l.given.items ≡ l.k + 1;
}
