-- Each key file, by computing it. Written by scripts/state_key_files.py.
use Rattle.std.proofs.Common.{refl}
use Rattle.std.specs.Fmt.{digits}
use Rattle.hp_model.specs.Press.{lines_per_key}
use Rattle.key_file_examples.proofs.laws.corners5.Goals as goal

pub returns : goal.returns
unfolding digits lines_per_key
returns c = record {
  case_121 = refl;
  case_122 = refl;
  case_123 = refl;
  case_124 = refl;
  case_125 = refl;
  case_126 = refl;
  case_127 = refl;
  case_128 = refl;
  case_129 = refl;
  case_130 = refl;
  case_131 = refl;
  case_132 = refl;
  case_133 = refl;
  case_134 = refl;
  case_135 = refl;
  case_136 = refl;
  case_137 = refl;
  case_138 = refl;
  case_139 = refl;
  case_140 = refl;
  case_141 = refl;
  case_142 = refl;
  case_143 = refl;
  case_144 = refl;
  case_145 = refl;
  case_146 = refl;
  case_147 = refl;
  case_148 = refl;
  case_149 = refl;
  case_150 = refl;
}
