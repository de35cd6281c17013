-- Each key file, by computing it. Written by scripts/state_key_files.py.
use Rattle.std.proofs.Common.{refl}
use Rattle.std.specs.Fmt.{digits}
use Rattle.hp_model.specs.Press.{lines_per_key}
use Rattle.key_file_examples.proofs.laws.corners10.Goals as goal

pub returns : goal.returns
unfolding digits lines_per_key
returns c = record {
  case_271 = refl;
  case_272 = refl;
  case_275 = refl;
  case_276 = refl;
  case_277 = refl;
  case_278 = refl;
  case_279 = refl;
}
