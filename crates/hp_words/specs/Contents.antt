-- The machine's data from a content and the register nibbles.
use Rattle.std.specs.Prelude.{ℕ, List}
use Rattle.hp_model.specs.State.{Data}
use Rattle.hp_words.specs.declared.content.Content.{Content}

abbrev pub data_of : Content → List ℕ → Data
data_of content nibbles = record {
  x = content.x;
  y = content.y;
  z = content.z;
  t = content.t;
  last = content.l;
  index = content.i;
  flags = content.flags;
  nibbles = nibbles;
}
