-- The machine at the beginning of a routine.
use Rattle.std.specs.Prelude.{ℕ, [], true, None}
use Rattle.hp_model.specs.declared.Mode.{Mode}
use Rattle.hp_model.specs.declared.Base.{Base}
use Rattle.hp_model.specs.State.{Machine}
use Rattle.hp_model.specs.Memory.{Memory}
use Rattle.hp_words.specs.declared.content.Content.{Content}
use Rattle.hp_words.specs.Contents.{data_of}

-- at line 1, with nothing pending, lift enabled, no entry and window 0
abbrev pub begun : ℕ → Mode → Base → Memory → Content → Machine
begun size mode base memory content = record {
  control = record {
    bytes = memory.bytes;
    size = size;
    mode = mode;
    base = base;
    line = 1;
    program = memory.program;
    blocks = memory.blocks;
    calls = [];
    lift = true;
    entry = None;
    window = 0;
  };
  contents = data_of content memory.nibbles;
}
