-- Each key file, by computing it. Written by scripts/state_key_files.py.
use Rattle.std.proofs.Common.{refl}
use Rattle.std.specs.Fmt.{digits}
use Rattle.hp_model.specs.Press.{lines_per_key}
use Rattle.key_file_examples.proofs.laws.operations15.Goals as goal

pub returns : goal.returns
unfolding digits lines_per_key
returns c = record {
  case_210_1 = refl;
  case_210_2 = refl;
  case_211_1 = refl;
  case_211_2 = refl;
  case_212_1 = refl;
  case_212_2 = refl;
  case_213_1 = refl;
  case_213_2 = refl;
  case_214_1 = refl;
  case_214_2 = refl;
  case_215_1 = refl;
  case_215_2 = refl;
  case_216_1 = refl;
  case_216_2 = refl;
  case_217_1 = refl;
  case_217_2 = refl;
  case_218_1 = refl;
  case_218_2 = refl;
  case_219_1 = refl;
  case_219_2 = refl;
  case_220_1 = refl;
  case_220_2 = refl;
  case_221_1 = refl;
  case_221_2 = refl;
  case_222_1 = refl;
  case_222_2 = refl;
  case_223_1 = refl;
  case_223_2 = refl;
  case_224_1 = refl;
  case_224_2 = refl;
}
