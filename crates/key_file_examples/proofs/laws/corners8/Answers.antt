-- Each key file, by computing it. Written by scripts/state_key_files.py.
use Rattle.std.proofs.Common.{refl}
use Rattle.std.specs.Fmt.{digits}
use Rattle.hp_model.specs.Press.{lines_per_key}
use Rattle.key_file_examples.proofs.laws.corners8.Goals as goal

pub returns : goal.returns
unfolding digits lines_per_key
returns c = record {
  case_211 = refl;
  case_212 = refl;
  case_213 = refl;
  case_214 = refl;
  case_215 = refl;
  case_216 = refl;
  case_217 = refl;
  case_218 = refl;
  case_219 = refl;
  case_220 = refl;
  case_221 = refl;
  case_222 = refl;
  case_223 = refl;
  case_224 = refl;
  case_225 = refl;
  case_226 = refl;
  case_227 = refl;
  case_228 = refl;
  case_229 = refl;
  case_230 = refl;
  case_231 = refl;
  case_232 = refl;
  case_233 = refl;
  case_234 = refl;
  case_235 = refl;
  case_236 = refl;
  case_237 = refl;
  case_238 = refl;
  case_239 = refl;
  case_240 = refl;
}
