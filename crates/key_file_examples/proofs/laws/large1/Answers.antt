-- Each key file, by computing it. Written by scripts/state_key_files.py.
use Rattle.std.proofs.Common.{refl}
use Rattle.std.specs.Fmt.{digits}
use Rattle.hp_model.specs.Press.{lines_per_key}
use Rattle.key_file_examples.proofs.laws.large1.Goals as goal

pub returns : goal.returns
unfolding digits lines_per_key
returns c = record {
  case_1 = refl;
  case_2 = refl;
  case_3 = refl;
  case_4 = refl;
  case_5 = refl;
  case_6 = refl;
  case_7 = refl;
  case_8 = refl;
  case_9 = refl;
  case_10 = refl;
  case_11 = refl;
  case_12 = refl;
  case_13 = refl;
  case_14 = refl;
  case_15 = refl;
  case_16 = refl;
  case_17 = refl;
  case_18 = refl;
  case_19 = refl;
  case_20 = refl;
  case_21 = refl;
  case_22 = refl;
  case_23 = refl;
  case_24 = refl;
  case_25 = refl;
  case_26 = refl;
  case_27 = refl;
  case_28 = refl;
  case_29 = refl;
  case_30 = refl;
}
