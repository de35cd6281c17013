-- Each key file, by computing it. Written by scripts/state_key_files.py.
use Rattle.std.proofs.Common.{refl}
use Rattle.std.specs.Fmt.{digits}
use Rattle.hp_model.specs.Press.{lines_per_key}
use Rattle.key_file_examples.proofs.laws.operations14.Goals as goal

pub returns : goal.returns
unfolding digits lines_per_key
returns c = record {
  case_195_1 = refl;
  case_195_2 = refl;
  case_196_1 = refl;
  case_196_2 = refl;
  case_197_1 = refl;
  case_197_2 = refl;
  case_198_1 = refl;
  case_198_2 = refl;
  case_199_1 = refl;
  case_199_2 = refl;
  case_200_1 = refl;
  case_200_2 = refl;
  case_201_1 = refl;
  case_201_2 = refl;
  case_202_1 = refl;
  case_202_2 = refl;
  case_203_1 = refl;
  case_203_2 = refl;
  case_204_1 = refl;
  case_204_2 = refl;
  case_205_1 = refl;
  case_205_2 = refl;
  case_206_1 = refl;
  case_206_2 = refl;
  case_207_1 = refl;
  case_207_2 = refl;
  case_208_1 = refl;
  case_208_2 = refl;
  case_209_1 = refl;
  case_209_2 = refl;
}
