-- A reading as the definitions see it.
use Rattle.jd_problem.specs.Readings.{reading_of}
use Rattle.jd_spec_texts.specs.declared.reading.SpecReading.{SpecReading}
use Rattle.jd_spec_texts.specs.SpecTexts.{SpecReading as ReadingValue}

abbrev pub spec_reading_of : SpecReading → ReadingValue
spec_reading_of r = record { reading = reading_of r.problem; gives = r.gives }
