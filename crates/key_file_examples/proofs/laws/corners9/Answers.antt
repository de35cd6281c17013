-- Each key file, by computing it. Written by scripts/state_key_files.py.
use Rattle.std.proofs.Common.{refl}
use Rattle.std.specs.Fmt.{digits}
use Rattle.hp_model.specs.Press.{lines_per_key}
use Rattle.key_file_examples.proofs.laws.corners9.Goals as goal

pub returns : goal.returns
unfolding digits lines_per_key
returns c = record {
  case_241 = refl;
  case_242 = refl;
  case_243 = refl;
  case_244 = refl;
  case_245 = refl;
  case_246 = refl;
  case_247 = refl;
  case_248 = refl;
  case_249 = refl;
  case_250 = refl;
  case_251 = refl;
  case_252 = refl;
  case_253 = refl;
  case_254 = refl;
  case_255 = refl;
  case_256 = refl;
  case_257 = refl;
  case_258 = refl;
  case_259 = refl;
  case_260 = refl;
  case_261 = refl;
  case_262 = refl;
  case_263 = refl;
  case_264 = refl;
  case_265 = refl;
  case_266 = refl;
  case_267 = refl;
  case_268 = refl;
  case_269 = refl;
  case_270 = refl;
}
