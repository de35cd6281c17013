-- Each key file, by computing it. Written by scripts/state_key_files.py.
use Rattle.std.proofs.Common.{refl}
use Rattle.std.specs.Fmt.{digits}
use Rattle.hp_model.specs.Press.{lines_per_key}
use Rattle.key_file_examples.proofs.laws.corners6.Goals as goal

pub returns : goal.returns
unfolding digits lines_per_key
returns c = record {
  case_151 = refl;
  case_152 = refl;
  case_153 = refl;
  case_154 = refl;
  case_155 = refl;
  case_156 = refl;
  case_157 = refl;
  case_158 = refl;
  case_159 = refl;
  case_160 = refl;
  case_161 = refl;
  case_162 = refl;
  case_163 = refl;
  case_164 = refl;
  case_165 = refl;
  case_166 = refl;
  case_167 = refl;
  case_168 = refl;
  case_169 = refl;
  case_170 = refl;
  case_171 = refl;
  case_172 = refl;
  case_173 = refl;
  case_174 = refl;
  case_175 = refl;
  case_176 = refl;
  case_177 = refl;
  case_178 = refl;
  case_179 = refl;
  case_180 = refl;
}
