-- Each key file, by computing it. Written by scripts/state_key_files.py.
use Rattle.std.proofs.Common.{refl}
use Rattle.std.specs.Fmt.{digits}
use Rattle.hp_model.specs.Press.{lines_per_key}
use Rattle.key_file_examples.proofs.laws.operations12.Goals as goal

pub returns : goal.returns
unfolding digits lines_per_key
returns c = record {
  case_165_1 = refl;
  case_165_2 = refl;
  case_166_1 = refl;
  case_166_2 = refl;
  case_167_1 = refl;
  case_167_2 = refl;
  case_168_1 = refl;
  case_168_2 = refl;
  case_169_1 = refl;
  case_169_2 = refl;
  case_170_1 = refl;
  case_170_2 = refl;
  case_171_1 = refl;
  case_171_2 = refl;
  case_172_1 = refl;
  case_172_2 = refl;
  case_173_1 = refl;
  case_173_2 = refl;
  case_174_1 = refl;
  case_174_2 = refl;
  case_175_1 = refl;
  case_175_2 = refl;
  case_176_1 = refl;
  case_176_2 = refl;
  case_177_1 = refl;
  case_177_2 = refl;
  case_178_1 = refl;
  case_178_2 = refl;
  case_179_1 = refl;
  case_179_2 = refl;
}
