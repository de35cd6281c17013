-- Each key file, by computing it. Written by scripts/state_key_files.py.
use Rattle.std.proofs.Common.{refl}
use Rattle.std.specs.Fmt.{digits}
use Rattle.hp_model.specs.Press.{lines_per_key}
use Rattle.key_file_examples.proofs.laws.corners7.Goals as goal

pub returns : goal.returns
unfolding digits lines_per_key
returns c = record {
  case_181 = refl;
  case_182 = refl;
  case_183 = refl;
  case_184 = refl;
  case_185 = refl;
  case_186 = refl;
  case_187 = refl;
  case_188 = refl;
  case_189 = refl;
  case_190 = refl;
  case_191 = refl;
  case_192 = refl;
  case_193 = refl;
  case_194 = refl;
  case_195 = refl;
  case_196 = refl;
  case_197 = refl;
  case_198 = refl;
  case_199 = refl;
  case_200 = refl;
  case_201 = refl;
  case_202 = refl;
  case_203 = refl;
  case_204 = refl;
  case_205 = refl;
  case_206 = refl;
  case_207 = refl;
  case_208 = refl;
  case_209 = refl;
  case_210 = refl;
}
