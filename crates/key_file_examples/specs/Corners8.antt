-- Key files and what they print. Written by scripts/state_key_files.py.
use Rattle.std.specs.Prelude.{codes}
use Rattle.hp_model.specs.WorkedKeyFiles.{Prints}

pub record Corners8 : Type 0 where
  pub case_211 : Prints
      (codes "3 ENTER 1 ENTER f C A\nRDN\nRDN\nRDN\n")
      (codes "A h\n2 h\n1 h\n3 h\n")
  pub case_212 : Prints
      (codes "3 ENTER 1 ENTER f D A\nRDN\nRDN\nRDN\n")
      (codes "A h C\n8000 h C\n1 h C\n3 h C\n")
  pub case_213 : Prints
      (codes "3 ENTER 1 ENTER g C A\nRDN\nRDN\nRDN\n")
      (codes "A h\n2 h\n1 h\n3 h\n")
  pub case_214 : Prints
      (codes "3 ENTER 1 ENTER g D A\nRDN\nRDN\nRDN\n")
      (codes "A h C\n0 h C\n1 h C\n3 h C\n")
  pub case_215 : Prints
      (codes "3 ENTER 1 ENTER g A A\nRDN\nRDN\nRDN\n")
      (codes "A h\nF h\n8000 h\n1 h\n")
  pub case_216 : Prints
      (codes "3 ENTER 1 ENTER f 7 A\nRDN\nRDN\nRDN\n")
      (codes "A h\n8000 h\n1 h\n3 h\n")
  pub case_217 : Prints
      (codes "3 ENTER 1 ENTER f 8 A\nRDN\nRDN\nRDN\n")
      (codes "A h\n1 h\n1 h\n3 h\n")
  pub case_218 : Prints
      (codes "3 ENTER 1 ENTER g 7 A\nRDN\nRDN\nRDN\n")
      (codes "A h\n1 h\n1 h\n3 h\n")
  pub case_219 : Prints
      (codes "3 ENTER 1 ENTER f - A\nRDN\nRDN\nRDN\n")
      (codes "A h\nFFFE h\n1 h\n3 h\n")
  pub case_220 : Prints
      (codes "3 ENTER 1 ENTER g 8 A\nRDN\nRDN\nRDN\n")
      (codes "A h\n1 h\n1 h\n3 h\n")
  pub case_221 : Prints
      (codes "3 ENTER 1 ENTER g OCT A\nRDN\nRDN\nRDN\n")
      (codes "A h\n1 h\n1 h\n3 h\n")
  pub case_222 : Prints
      (codes "3 ENTER 1 ENTER CHS A\nRDN\nRDN\nRDN\n")
      (codes "A h\nFFFF h\n1 h\n3 h\n")
  pub case_223 : Prints
      (codes "3 ENTER 1 ENTER RDN A\nRDN\nRDN\nRDN\n")
      (codes "A h\n1 h\n3 h\n0 h\n")
  pub case_224 : Prints
      (codes "3 ENTER 1 ENTER g RDN A\nRDN\nRDN\nRDN\n")
      (codes "A h\n0 h\n1 h\n1 h\n")
  pub case_225 : Prints
      (codes "3 ENTER 1 ENTER x<>y A\nRDN\nRDN\nRDN\n")
      (codes "A h\n1 h\n1 h\n3 h\n")
  pub case_226 : Prints
      (codes "3 ENTER 1 ENTER STO SST A\nRDN\nRDN\nRDN\n")
      (codes "A h\n1 h\n1 h\n3 h\n")
  pub case_227 : Prints
      (codes "3 ENTER 1 ENTER STO 1 A\nRDN\nRDN\nRDN\n")
      (codes "A h\n1 h\n1 h\n3 h\n")
  pub case_228 : Prints
      (codes "3 ENTER 1 ENTER STO R/S A\nRDN\nRDN\nRDN\n")
      (codes "A h\n1 h\n1 h\n3 h\n")
  pub case_229 : Prints
      (codes "3 ENTER 1 ENTER f GTO A\nRDN\nRDN\nRDN\n")
      (codes "A h\n0 h\n1 h\n3 h\n")
  pub case_230 : Prints
      (codes "3 ENTER 1 ENTER f GSB A\nRDN\nRDN\nRDN\n")
      (codes "A h\n0 h\n1 h\n3 h\n")
  pub case_231 : Prints
      (codes "0 STO SST 3 ENTER 8 ENTER f STO A\nRDN\nRDN\n")
      (codes "A h\n8 h\n3 h\n")
  pub case_232 : Prints
      (codes "3 ENTER 0 ENTER 1 ENTER g / A\nRDN\nRDN\n")
      (codes "A h\n1 h\n0 h\n")
  pub case_233 : Prints
      (codes "3 ENTER 0 ENTER 1 ENTER g 9 A\nRDN\nRDN\ng ENTER\n")
      (codes "A h\n1 h\n0 h\n0 h\n")
  pub case_234 : Prints
      (codes "8 f STO 1 ENTER 0 ENTER 7 ENTER 2 g 9\ng ENTER\nRDN\n")
      (codes "Error 0\n0 h\n2 h\n")
  pub case_235 : Prints
      (codes "8 f STO 0 ENTER 7 ENTER RDN RDN 0 ENTER RDN x<>y 2 g 9\ng ENTER\n")
      (codes "0 h\n2 h\n")
  pub case_236 : Prints
      (codes "5 ENTER 6 ENTER f 1 2\nRDN\nRDN\n")
      (codes "2 h\n6 h\n5 h\n")
  pub case_237 : Prints
      (codes "5 ENTER 6 ENTER f 2 2\nRDN\nRDN\n")
      (codes "2 h\n6 h\n5 h\n")
  pub case_238 : Prints
      (codes "5 ENTER 6 ENTER f 3 2\nRDN\nRDN\n")
      (codes "2 h\n6 h\n5 h\n")
  pub case_239 : Prints
      (codes "5 ENTER 6 ENTER HEX 2\nRDN\nRDN\n")
      (codes "2 h\n6 h\n5 h\n")
  pub case_240 : Prints
      (codes "5 ENTER 6 ENTER g STO 2\nRDN\nRDN\n")
      (codes "2 h\n6 h\n5 h\n")
