use Rattle.std.proofs.Common.{sym, ◌∙◌}
use Rattle.hp_keys.proofs.Settled.{not_on}
use Rattle.hp_keys.proofs.prefixes.reply_to.Goals as goal

pub returns-in_default : goal.returns-in_default
returns-in_default c = c.take.ensures ∙ sym (not_on _ c.args.key c.in_default.not-On)
