use Rattle.jd_model.proofs.FreeStarts.{bits-of-starts}
use Rattle.jd_model.proofs.laws.bits_of_starts.Goals as goal

pub returns : goal.returns
returns c = bits-of-starts
