-- Each key file, by computing it. Written by scripts/state_key_files.py.
use Rattle.std.proofs.Common.{refl}
use Rattle.std.specs.Fmt.{digits}
use Rattle.hp_model.specs.Press.{lines_per_key}
use Rattle.key_file_examples.proofs.laws.large2.Goals as goal

pub returns : goal.returns
unfolding digits lines_per_key
returns c = record {
  case_31 = refl;
  case_32 = refl;
  case_33 = refl;
  case_34 = refl;
  case_35 = refl;
  case_36 = refl;
  case_37 = refl;
  case_38 = refl;
  case_39 = refl;
  case_40 = refl;
  case_41 = refl;
  case_42 = refl;
  case_43 = refl;
  case_44 = refl;
  case_45 = refl;
  case_46 = refl;
  case_47 = refl;
  case_48 = refl;
  case_49 = refl;
  case_50 = refl;
  case_51 = refl;
  case_52 = refl;
  case_53 = refl;
  case_54 = refl;
  case_55 = refl;
  case_56 = refl;
  case_57 = refl;
  case_58 = refl;
  case_59 = refl;
  case_60 = refl;
}
