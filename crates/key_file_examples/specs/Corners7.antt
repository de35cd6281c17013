-- Key files and what they print. Written by scripts/state_key_files.py.
use Rattle.std.specs.Prelude.{codes}
use Rattle.hp_model.specs.WorkedKeyFiles.{Prints}

pub record Corners7 : Type 0 where
  pub case_181 : Prints
      (codes "g R/S g GTO A GSB B 7 R/S g GTO B R/S 9 g GSB g R/S\nGSB A\ng R/S g R/S\nR/S\nR/S\nR/S\nR/S\nR/S\nR/S\n")
      (codes "0 h\n0 h\n0 h\n7 h\n7 h\n9 h\n9 h\n7 h\n7 h\n")
  pub case_182 : Prints
      (codes "g R/S g GTO A GSB B 7 R/S g GTO B R/S 9 g GSB g R/S\nGSB A\ng R/S BSP g R/S\nR/S\nR/S\nR/S\nR/S\nR/S\nR/S\n")
      (codes "0 h\n0 h\n0 h\n0 h\n0 h\n0 h\n7 h\n7 h\n7 h\n")
  pub case_183 : Prints
      (codes "g R/S g GTO A GSB B 7 R/S g GTO B R/S 9 g GSB g R/S\nGSB A\ng R/S 5 g R/S\nR/S\nR/S\nR/S\nR/S\nR/S\nR/S\n")
      (codes "0 h\n0 h\n0 h\n5 h\n5 h\n7 h\n7 h\n95 h\n95 h\n")
  pub case_184 : Prints
      (codes "g R/S g GTO A GSB B 7 R/S g GTO B R/S 9 g GSB g R/S\nGSB A\ng R/S GTO . 0 0 0 BSP g R/S\nR/S\nR/S\nR/S\nR/S\nR/S\nR/S\n")
      (codes "0 h\n0 h\n0 h\n0 h\n7 h\n7 h\n9 h\n9 h\n7 h\n")
  pub case_185 : Prints
      (codes "g R/S g GTO A GSB B 7 R/S g GTO B R/S 9 g GSB g R/S\nGSB A\nSTO SST\nR/S\nR/S\nR/S\nR/S\nR/S\nR/S\n")
      (codes "0 h\n0 h\n0 h\n7 h\n7 h\n9 h\n9 h\n7 h\n7 h\n")
  pub case_186 : Prints
      (codes "g R/S g GTO A GSB B 7 R/S g GTO B R/S 9 g GSB g R/S\nGSB A\nf ENTER 0\nR/S\nR/S\nR/S\nR/S\nR/S\nR/S\n")
      (codes "0 h\n0 h\n0 h\n7 h\n7 h\n9 h\n9 h\n7 h\n7 h\n")
  pub case_187 : Prints
      (codes "g R/S g GTO A GSB B 7 R/S g GTO B R/S 9 g GSB g R/S\nGSB A\n1\nR/S\nR/S\nR/S\nR/S\nR/S\nR/S\n")
      (codes "0 h\n0 h\n1 h\n7 h\n7 h\n9 h\n9 h\n7 h\n7 h\n")
  pub case_188 : Prints
      (codes "g R/S g GTO A GSB B 7 R/S g GTO B R/S 9 g GSB g R/S\nGSB A\ng ENTER\nR/S\nR/S\nR/S\nR/S\nR/S\nR/S\n")
      (codes "0 h\n0 h\n0 h\n7 h\n7 h\n9 h\n9 h\n7 h\n7 h\n")
  pub case_189 : Prints
      (codes "g R/S g GTO A GSB B 7 R/S g GTO B R/S 9 g GSB g R/S\nGSB A\nf .\nR/S\nR/S\nR/S\nR/S\nR/S\nR/S\n")
      (codes "0 h\n0 h\n2-16-0000\n7 h\n7 h\n9 h\n9 h\n7 h\n7 h\n")
  pub case_190 : Prints
      (codes "g R/S g GTO A GSB B 7 R/S g GTO B R/S 9 g GSB g R/S\nGSB A\n.\nR/S\nR/S\nR/S\nR/S\nR/S\nR/S\n")
      (codes "0 h\n0 h\nError 1\n7 h\n7 h\n9 h\n9 h\n7 h\n7 h\n")
  pub case_191 : Prints
      (codes "g R/S g GTO A GSB B 7 R/S g GTO B R/S 9 g GSB + + + + + + + + + + + + + + + + + + + + + + + + + + + + + + + + + + + + + + + + + + + + + + + + + + + + + + + + + + + + + + + + + + + + + + + + + + + + + + + + + + + + + + + + + + + + + + + + + + + + + + + + + + + + + + + + + + + + + + + + + + + + + + + + + + + + + + + + + + + + + + + + + + + + + + + + + + + + + + + + + + + + + + + + + + + + + + + + + + + + + + + + + + + + + + + + + + + \ng R/S\nGSB A\ng R/S + g R/S\nR/S\nR/S\nR/S\nR/S\n")
      (codes "203 + PRGM\n0 h\n0 h\n0 h\n7 h\n7 h\n9 h\n9 h\n")
  pub case_192 : Prints
      (codes "3 ENTER 1 ENTER ENTER + A\nRDN\nRDN\nRDN\n")
      (codes "A h\n2 h\n1 h\n3 h\n")
  pub case_193 : Prints
      (codes "3 ENTER 1 ENTER ENTER - A\nRDN\nRDN\nRDN\n")
      (codes "A h\n0 h\n1 h\n3 h\n")
  pub case_194 : Prints
      (codes "3 ENTER 1 ENTER ENTER * A\nRDN\nRDN\nRDN\n")
      (codes "A h\n1 h\n1 h\n3 h\n")
  pub case_195 : Prints
      (codes "3 ENTER 1 ENTER ENTER / A\nRDN\nRDN\nRDN\n")
      (codes "A h\n1 h\n1 h\n3 h\n")
  pub case_196 : Prints
      (codes "3 ENTER 1 ENTER ENTER f 9 A\nRDN\nRDN\nRDN\n")
      (codes "A h\n0 h\n1 h\n3 h\n")
  pub case_197 : Prints
      (codes "3 ENTER 1 ENTER ENTER f 4 A\nRDN\nRDN\nRDN\n")
      (codes "A h\n3 h\n1 h\n3 h\n")
  pub case_198 : Prints
      (codes "3 ENTER 1 ENTER ENTER f 5 A\nRDN\nRDN\nRDN\n")
      (codes "A h\n1 h\n1 h\n3 h\n")
  pub case_199 : Prints
      (codes "3 ENTER 1 ENTER ENTER f 6 A\nRDN\nRDN\nRDN\n")
      (codes "A h\n1 h\n1 h\n3 h\n")
  pub case_200 : Prints
      (codes "3 ENTER 1 ENTER ENTER f * A\nRDN\nRDN\nRDN\n")
      (codes "A h\n1 h\n1 h\n3 h\n")
  pub case_201 : Prints
      (codes "3 ENTER 1 ENTER ENTER f + A\nRDN\nRDN\nRDN\n")
      (codes "A h\n1 h\n1 h\n3 h\n")
  pub case_202 : Prints
      (codes "3 ENTER 1 ENTER ENTER f / A\nRDN\nRDN\nRDN\n")
      (codes "A h\n0 h\n1 h\n3 h\n")
  pub case_203 : Prints
      (codes "3 ENTER 1 ENTER ENTER f E A\nRDN\nRDN\nRDN\n")
      (codes "A h\n2 h\n1 h\n3 h\n")
  pub case_204 : Prints
      (codes "3 ENTER 1 ENTER ENTER f F A\nRDN\nRDN\nRDN\n")
      (codes "A h C\n8000 h C\n1 h C\n3 h C\n")
  pub case_205 : Prints
      (codes "3 ENTER 1 ENTER ENTER g E A\nRDN\nRDN\nRDN\n")
      (codes "A h\n2 h\n1 h\n3 h\n")
  pub case_206 : Prints
      (codes "3 ENTER 1 ENTER ENTER g F A\nRDN\nRDN\nRDN\n")
      (codes "A h C\n0 h C\n1 h C\n3 h C\n")
  pub case_207 : Prints
      (codes "3 ENTER 1 ENTER ENTER g * A\nRDN\nRDN\nRDN\n")
      (codes "A h\n0 h\n1 h\n1 h\n")
  pub case_208 : Prints
      (codes "3 ENTER 1 ENTER f A A\nRDN\nRDN\nRDN\n")
      (codes "A h\n2 h\n1 h\n3 h\n")
  pub case_209 : Prints
      (codes "3 ENTER 1 ENTER f B A\nRDN\nRDN\nRDN\n")
      (codes "A h C\n0 h C\n1 h C\n3 h C\n")
  pub case_210 : Prints
      (codes "3 ENTER 1 ENTER g B A\nRDN\nRDN\nRDN\n")
      (codes "A h C\n0 h C\n1 h C\n3 h C\n")
