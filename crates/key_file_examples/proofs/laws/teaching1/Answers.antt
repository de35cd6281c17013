-- Each key file, by computing it. Written by scripts/state_key_files.py.
use Rattle.std.proofs.Common.{refl}
use Rattle.std.specs.Fmt.{digits}
use Rattle.hp_model.specs.Press.{lines_per_key}
use Rattle.key_file_examples.proofs.laws.teaching1.Goals as goal

pub returns : goal.returns
unfolding digits lines_per_key
returns c = record {
  case_1 = refl;
  case_2 = refl;
  case_3 = refl;
  case_4 = refl;
  case_5 = refl;
  case_6 = refl;
  case_7 = refl;
  case_8 = refl;
  case_9 = refl;
  case_10 = refl;
  case_11 = refl;
}
