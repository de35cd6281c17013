use Rattle.jd_model.proofs.ReadBack.{assembled-listing, read-codes}
use Rattle.jd_model.proofs.laws.routines_read_back.Goals as goal

pub returns : goal.returns
returns c = record { listings = assembled-listing; texts_of_codes = read-codes }
