use Rattle.hp_keys.proofs.Settled.{reply_settles}
use Rattle.hp_keys.proofs.prefixes.press_key.Goals as goal

pub returns-clause-settled : goal.returns-clause-settled
returns-clause-settled c h = reply_settles _ _ _ _ c.reply_to-reply.ensures h
