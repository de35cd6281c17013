-- A start as the definitions see it.
use Rattle.hp_model.specs.State.{Data}
use Rattle.hp_words.specs.Contents.{data_of}
use Rattle.jd_start.specs.declared.start.Start.{Start}

abbrev pub start_data : Start → Data
start_data s = data_of s.content s.nibbles
