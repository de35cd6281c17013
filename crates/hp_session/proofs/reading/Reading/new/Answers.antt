use Rattle.std.proofs.Common.{refl}
use Rattle.hp_session.proofs.reading.Reading.new.Goals as goal

pub returns : goal.returns
returns c = rw (c.new.ensures, c.new-2.ensures) refl
