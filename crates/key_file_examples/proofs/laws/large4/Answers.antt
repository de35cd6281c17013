-- Each key file, by computing it. Written by scripts/state_key_files.py.
use Rattle.std.proofs.Common.{refl}
use Rattle.std.specs.Fmt.{digits}
use Rattle.hp_model.specs.Press.{lines_per_key}
use Rattle.key_file_examples.proofs.laws.large4.Goals as goal

pub returns : goal.returns
unfolding digits lines_per_key
returns c = record {
  case_91 = refl;
  case_92 = refl;
  case_93 = refl;
  case_94 = refl;
  case_95 = refl;
  case_96 = refl;
  case_97 = refl;
  case_98 = refl;
  case_99 = refl;
  case_100 = refl;
}
