-- Each key file, by computing it. Written by scripts/state_key_files.py.
use Rattle.std.proofs.Common.{refl}
use Rattle.std.specs.Fmt.{digits}
use Rattle.hp_model.specs.Press.{lines_per_key}
use Rattle.key_file_examples.proofs.laws.operations11.Goals as goal

pub returns : goal.returns
unfolding digits lines_per_key
returns c = record {
  case_150_1 = refl;
  case_150_2 = refl;
  case_151_1 = refl;
  case_151_2 = refl;
  case_152_1 = refl;
  case_152_2 = refl;
  case_153_1 = refl;
  case_153_2 = refl;
  case_154_1 = refl;
  case_154_2 = refl;
  case_155_1 = refl;
  case_155_2 = refl;
  case_156_1 = refl;
  case_156_2 = refl;
  case_157_1 = refl;
  case_157_2 = refl;
  case_158_1 = refl;
  case_158_2 = refl;
  case_159_1 = refl;
  case_159_2 = refl;
  case_160_1 = refl;
  case_160_2 = refl;
  case_161_1 = refl;
  case_161_2 = refl;
  case_162_1 = refl;
  case_162_2 = refl;
  case_163_1 = refl;
  case_163_2 = refl;
  case_164_1 = refl;
  case_164_2 = refl;
}
