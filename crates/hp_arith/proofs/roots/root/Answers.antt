use Rattle.std.proofs.Common.{ℕ, ◌*◌, nat_lt, Some, false, ap, ◌∙◌}
use Rattle.hp_model.specs.WordOperations.{root}
use Rattle.hp_model.specs.declared.Answer.{Answer}
use Rattle.hp_arith.proofs.roots.root.Goals as goal

-- the answer for a square and its root
answer_of : ℕ → ℕ → Answer
answer_of n r = record { pattern = r; carry = Some (nat_lt (r * r) n); range = Some false }

pub returns-clause-ok : goal.returns-clause-ok
unfolding answer_of
returns-clause-ok c = ap (answer_of c.magnitude-square.result) c.whole_root-root.ensures.value ∙ ap (λ m. answer_of m (root m)) c.magnitude-square.ensures.value
