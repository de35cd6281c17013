use Rattle.jd_spec_texts.proofs.SpecLaws.{texts-say-specs}
use Rattle.jd_spec_texts.proofs.laws.texts_say_specs.Goals as goal

pub returns : goal.returns
returns c = texts-say-specs
