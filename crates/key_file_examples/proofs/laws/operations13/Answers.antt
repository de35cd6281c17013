-- Each key file, by computing it. Written by scripts/state_key_files.py.
use Rattle.std.proofs.Common.{refl}
use Rattle.std.specs.Fmt.{digits}
use Rattle.hp_model.specs.Press.{lines_per_key}
use Rattle.key_file_examples.proofs.laws.operations13.Goals as goal

pub returns : goal.returns
unfolding digits lines_per_key
returns c = record {
  case_180_1 = refl;
  case_180_2 = refl;
  case_181_1 = refl;
  case_181_2 = refl;
  case_182_1 = refl;
  case_182_2 = refl;
  case_183_1 = refl;
  case_183_2 = refl;
  case_184_1 = refl;
  case_184_2 = refl;
  case_185_1 = refl;
  case_185_2 = refl;
  case_186_1 = refl;
  case_186_2 = refl;
  case_187_1 = refl;
  case_187_2 = refl;
  case_188_1 = refl;
  case_188_2 = refl;
  case_189_1 = refl;
  case_189_2 = refl;
  case_190_1 = refl;
  case_190_2 = refl;
  case_191_1 = refl;
  case_191_2 = refl;
  case_192_1 = refl;
  case_192_2 = refl;
  case_193_1 = refl;
  case_193_2 = refl;
  case_194_1 = refl;
  case_194_2 = refl;
}
