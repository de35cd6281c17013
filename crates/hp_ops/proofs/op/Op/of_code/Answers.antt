use Rattle.hp_ops.proofs.Inverse.{found, not_found}
use Rattle.hp_ops.proofs.op.Op.of_code.Goals as goal

pub returns-then-code-lt225-clause-inverse : goal.returns-then-code-lt225-clause-inverse
returns-then-code-lt225-clause-inverse c = found _ _ c.at.ensures.code

pub returns-else-code-lt225-clause-inverse : goal.returns-else-code-lt225-clause-inverse
returns-else-code-lt225-clause-inverse c = not_found c.args.code c.if-code-lt225.false
