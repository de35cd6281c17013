-- Key files and what they print. Written by scripts/state_key_files.py.
use Rattle.std.specs.Prelude.{codes}
use Rattle.hp_model.specs.WorkedKeyFiles.{Prints}

pub record Corners6 : Type 0 where
  pub case_151 : Prints
      (codes "A ENTER B ENTER 5 ENTER 3 x<>y ENTER RDN x<>y + 9\nRDN\nRDN\nRDN\ng ENTER\n")
      (codes "9 h\n8 h\nB h\n5 h\n3 h\n")
  pub case_152 : Prints
      (codes "0 ENTER ENTER ENTER 0 ENTER C ENTER 5 ENTER RDN + 9\nRDN\nRDN\nRDN\ng ENTER\n")
      (codes "9 h\n11 h\n0 h\n5 h\n5 h\n")
  pub case_153 : Prints
      (codes "0 ENTER 0 ENTER 9 ENTER 4 + 7\nRDN\nRDN\nRDN\ng ENTER\nf DEC\n")
      (codes "7 h\nD h\n0 h\n0 h\n4 h\n4 d\n")
  pub case_154 : Prints
      (codes "A ENTER B ENTER 5 ENTER 3 x<>y ENTER RDN x<>y - 9\nRDN\nRDN\nRDN\ng ENTER\n")
      (codes "9 h\n2 h\nB h\n5 h\n3 h\n")
  pub case_155 : Prints
      (codes "0 ENTER ENTER ENTER 0 ENTER C ENTER 5 ENTER RDN - 9\nRDN\nRDN\nRDN\ng ENTER\n")
      (codes "9 h\n7 h\n0 h\n5 h\n5 h\n")
  pub case_156 : Prints
      (codes "0 ENTER 0 ENTER 9 ENTER 4 - 7\nRDN\nRDN\nRDN\ng ENTER\nf DEC\n")
      (codes "7 h\n5 h\n0 h\n0 h\n4 h\n4 d\n")
  pub case_157 : Prints
      (codes "A ENTER B ENTER 5 ENTER 3 x<>y ENTER RDN x<>y * 9\nRDN\nRDN\nRDN\ng ENTER\n")
      (codes "9 h\nF h\nB h\n5 h\n3 h\n")
  pub case_158 : Prints
      (codes "0 ENTER ENTER ENTER 0 ENTER C ENTER 5 ENTER RDN * 9\nRDN\nRDN\nRDN\ng ENTER\n")
      (codes "9 h\n3C h\n0 h\n5 h\n5 h\n")
  pub case_159 : Prints
      (codes "0 ENTER 0 ENTER 9 ENTER 4 * 7\nRDN\nRDN\nRDN\ng ENTER\nf DEC\n")
      (codes "7 h\n24 h\n0 h\n0 h\n4 h\n4 d\n")
  pub case_160 : Prints
      (codes "A ENTER B ENTER 5 ENTER 3 x<>y ENTER RDN x<>y / 9\nRDN\nRDN\nRDN\ng ENTER\n")
      (codes "9 h C\n1 h C\nB h C\n5 h C\n3 h C\n")
  pub case_161 : Prints
      (codes "0 ENTER ENTER ENTER 0 ENTER C ENTER 5 ENTER RDN / 9\nRDN\nRDN\nRDN\ng ENTER\n")
      (codes "9 h C\n2 h C\n0 h C\n5 h C\n5 h C\n")
  pub case_162 : Prints
      (codes "0 ENTER 0 ENTER 9 ENTER 4 / 7\nRDN\nRDN\nRDN\ng ENTER\nf DEC\n")
      (codes "7 h C\n2 h C\n0 h C\n0 h C\n4 h C\n4 d C\n")
  pub case_163 : Prints
      (codes "8 f STO f 3 9 f 7\n9 f 8\n8 f 7\n8 f 8\n1 ENTER 8 f 4\n1 ENTER 7 f 4\n8 1 ENTER 7 f 4\n")
      (codes "Error 2\nError 2\nFF h\nFF h\nError 2\n81 h\n81 h\n")
  pub case_164 : Prints
      (codes "8 f STO 2 ENTER 0 ENTER 1 g /\n2 ENTER 0 ENTER 1 g 9\n")
      (codes "2 h\n0 h\n")
  pub case_165 : Prints
      (codes "8 f STO f 1 F F ENTER 0 ENTER RDN RDN F F ENTER F E g /\nRDN\n")
      (codes "0 h\n0 h\n")
  pub case_166 : Prints
      (codes "8 f STO f 1 F C ENTER 5 g *\nx<>y\n")
      (codes "FF h\nF0 h\n")
  pub case_167 : Prints
      (codes "8 f STO f 1 F F ENTER F 8 x<>y 2 g 9\n")
      (codes "FE h\n")
  pub case_168 : Prints
      (codes "8 f STO f 3 DEC 2 0 0\n2 5 5\n2 5 6\n")
      (codes "200 d\n200 d\n200 d\n")
  pub case_169 : Prints
      (codes "g R/S g GTO A GSB B 7 R/S g GTO B R/S 9 g GSB g R/S\nGSB A\ng GSB\nR/S\nR/S\nR/S\nR/S\nR/S\nR/S\n")
      (codes "0 h\n0 h\n0 h\n0 h\n7 h\n7 h\n9 h\n9 h\n7 h\n")
  pub case_170 : Prints
      (codes "g R/S g GTO A GSB B 7 R/S g GTO B R/S 9 g GSB g R/S\nGSB A\nGTO B\nR/S\nR/S\nR/S\nR/S\nR/S\nR/S\n")
      (codes "0 h\n0 h\n0 h\n0 h\n9 h\n9 h\n7 h\n7 h\n9 h\n")
  pub case_171 : Prints
      (codes "g R/S g GTO A GSB B 7 R/S g GTO B R/S 9 g GSB g R/S\nGSB A\nGTO 5\nR/S\nR/S\nR/S\nR/S\nR/S\nR/S\n")
      (codes "0 h\n0 h\nError 4\n7 h\n7 h\n9 h\n9 h\n7 h\n7 h\n")
  pub case_172 : Prints
      (codes "g R/S g GTO A GSB B 7 R/S g GTO B R/S 9 g GSB g R/S\nGSB A\nGSB 5\nR/S\nR/S\nR/S\nR/S\nR/S\nR/S\n")
      (codes "0 h\n0 h\nError 4\n7 h\n7 h\n9 h\n9 h\n7 h\n7 h\n")
  pub case_173 : Prints
      (codes "g R/S g GTO A GSB B 7 R/S g GTO B R/S 9 g GSB g R/S\nGSB A\nGTO . 0 0 6\nR/S\nR/S\nR/S\nR/S\nR/S\nR/S\n")
      (codes "0 h\n0 h\n0 h\n0 h\n9 h\n9 h\n7 h\n7 h\n9 h\n")
  pub case_174 : Prints
      (codes "g R/S g GTO A GSB B 7 R/S g GTO B R/S 9 g GSB g R/S\nGSB A\nGTO . 0 9 9\nR/S\nR/S\nR/S\nR/S\nR/S\nR/S\n")
      (codes "0 h\n0 h\nError 4\n7 h\n7 h\n9 h\n9 h\n7 h\n7 h\n")
  pub case_175 : Prints
      (codes "g R/S g GTO A GSB B 7 R/S g GTO B R/S 9 g GSB g R/S\nGSB A\nGTO . 0 0 8\nR/S\nR/S\nR/S\nR/S\nR/S\nR/S\n")
      (codes "0 h\n0 h\n0 h\n0 h\n0 h\n7 h\n7 h\n9 h\n9 h\n")
  pub case_176 : Prints
      (codes "g R/S g GTO A GSB B 7 R/S g GTO B R/S 9 g GSB g R/S\nGSB A\nGTO . 0 0 9\nR/S\nR/S\nR/S\nR/S\nR/S\nR/S\n")
      (codes "0 h\n0 h\nError 4\n7 h\n7 h\n9 h\n9 h\n7 h\n7 h\n")
  pub case_177 : Prints
      (codes "g R/S g GTO A GSB B 7 R/S g GTO B R/S 9 g GSB g R/S\nGSB A\nON\nR/S\nR/S\nR/S\nR/S\nR/S\nR/S\n")
      (codes "0 h\n0 h\n0 h\n7 h\n7 h\n9 h\n9 h\n7 h\n7 h\n")
  pub case_178 : Prints
      (codes "g R/S g GTO A GSB B 7 R/S g GTO B R/S 9 g GSB g R/S\nGSB A\nf RDN\nR/S\nR/S\nR/S\nR/S\nR/S\nR/S\n")
      (codes "0 h\n0 h\n0 h\n0 h\n7 h\n7 h\n9 h\n9 h\n7 h\n")
  pub case_179 : Prints
      (codes "g R/S g GTO A GSB B 7 R/S g GTO B R/S 9 g GSB g R/S\nGSB A\ng SST\nR/S\nR/S\nR/S\nR/S\nR/S\nR/S\n")
      (codes "0 h\n0 h\n0 h\n0 h\n7 h\n7 h\n9 h\n9 h\n7 h\n")
  pub case_180 : Prints
      (codes "g R/S g GTO A GSB B 7 R/S g GTO B R/S 9 g GSB g R/S\nGSB A\nSST\nR/S\nR/S\nR/S\nR/S\nR/S\nR/S\n")
      (codes "0 h\n0 h\n9 h\n7 h\n7 h\n9 h\n9 h\n7 h\n7 h\n")
