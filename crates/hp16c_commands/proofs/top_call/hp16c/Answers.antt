use Rattle.hp16c_commands.proofs.Answered.{told_both}
use Rattle.hp16c_commands.proofs.top_call.hp16c.Goals as goal

pub returns-in-Keys-clause-keys_told : goal.returns-in-Keys-clause-keys_told
returns-in-Keys-clause-keys_told g c = λ _. told_both _ _ _ _ c.keys.ensures.told_status c.keys.ensures.told_text
