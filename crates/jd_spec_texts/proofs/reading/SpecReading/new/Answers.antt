use Rattle.std.proofs.Common.{sym, subst}
use Rattle.std.specs.List.{IsDistinct}
use Rattle.jd_spec_texts.specs.Specs.{same_part}
use Rattle.jd_spec_texts.proofs.SpecLaws.{none-twice}
use Rattle.jd_spec_texts.proofs.reading.SpecReading.new.Goals as goal

pub invariant_of-result : goal.invariant_of-result
invariant_of-result c = record { once = subst (IsDistinct same_part) (sym c.new.ensures) none-twice }
