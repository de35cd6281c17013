-- Key files and what they print. Written by scripts/state_key_files.py.
use Rattle.std.specs.Prelude.{codes}
use Rattle.hp_model.specs.WorkedKeyFiles.{Prints}

pub record Corners1 : Type 0 where
  pub case_1 : Prints
      (codes "g R/S 1 2 + f RDN\nf 0\ng R/S\n")
      (codes "000 PRGM\nP-0 r-101\n0 h\n")
  pub case_2 : Prints
      (codes "g R/S 1 2 + g R/S SST f RDN\nf 0\ng R/S\nSST\n")
      (codes "0 h\nP-4 r-98\n000 PRGM\n001 1 PRGM\n")
  pub case_3 : Prints
      (codes "1 f RDN 2\nRDN\n")
      (codes "2 h\n1 h\n")
  pub case_4 : Prints
      (codes "g R/S g GTO A GSB B 7 g R/S\ng R/S g GTO B R/S 9 g GSB g R/S\nGSB A\nf RDN\nSST SST SST\n")
      (codes "0 h\n0 h\n0 h\n0 h\n0 h\n")
  pub case_5 : Prints
      (codes "g R/S g GTO A GSB B 7 R/S g GTO B R/S 9 g GSB g R/S\nGSB A\nR/S\n")
      (codes "0 h\n0 h\n7 h\n")
  pub case_6 : Prints
      (codes "g R/S g GTO A GSB B 7 R/S g GTO B R/S 9 g GSB g R/S\nGSB A\nGTO B SST SST\nSST SST\n")
      (codes "0 h\n0 h\n0 h\n9 h\n")
  pub case_7 : Prints
      (codes "g R/S g GTO A GSB B 7 R/S g GTO B R/S 9 g GSB g R/S\nGSB A\ng GSB\nGTO B R/S\nR/S\n")
      (codes "0 h\n0 h\n0 h\n0 h\n9 h\n")
  pub case_8 : Prints
      (codes "g R/S g GTO A GSB B 7 R/S g GTO B R/S 9 g GSB g R/S\nGSB A\nGTO 5\nR/S\n")
      (codes "0 h\n0 h\nError 4\n7 h\n")
  pub case_9 : Prints
      (codes "g R/S g GTO A GSB B 7 R/S g GTO B R/S 9 g GSB g R/S\nGSB A\ng SST SST\nR/S\n")
      (codes "0 h\n0 h\n0 h\n7 h\n")
  pub case_10 : Prints
      (codes "g R/S g GTO A GSB B 7 R/S g GTO B R/S 9 g GSB g R/S\nGSB A\nGTO . 0 0 6\nR/S\n")
      (codes "0 h\n0 h\n0 h\n0 h\n")
  pub case_11 : Prints
      (codes "g R/S g GTO A GSB B 7 R/S g GTO B R/S 9 g GSB g R/S\nGSB A\nGTO . 0 9 9\nR/S\n")
      (codes "0 h\n0 h\nError 4\n7 h\n")
  pub case_12 : Prints
      (codes "g R/S g GTO A GSB B 7 R/S g GTO B R/S 9 g GSB g R/S\nGSB A\nON\nR/S\n")
      (codes "0 h\n0 h\n0 h\n7 h\n")
  pub case_13 : Prints
      (codes "g R/S g GTO A GSB B 7 R/S g GTO B R/S 9 g GSB g R/S\nGSB A\ng R/S g R/S\nR/S\n")
      (codes "0 h\n0 h\n0 h\n7 h\n")
  pub case_14 : Prints
      (codes "g R/S g GTO A GSB B 7 R/S g GTO B R/S 9 g GSB g R/S\nGSB A\ng R/S BSP R/S g R/S\nR/S\nR/S\n")
      (codes "0 h\n0 h\n0 h\n0 h\n0 h\n")
  pub case_15 : Prints
      (codes "g R/S g GTO A GSB B 7 R/S g GTO B R/S 9 g GSB g R/S\nGSB A\ng R/S BSP g R/S\nR/S\nR/S\n")
      (codes "0 h\n0 h\n0 h\n0 h\n0 h\n")
  pub case_16 : Prints
      (codes "g R/S g GTO A GSB B 7 R/S g GTO B R/S 9 g GSB g R/S\nGSB A\ng R/S GTO . 0 0 0 g R/S\nR/S\n")
      (codes "0 h\n0 h\n0 h\n0 h\n")
  pub case_17 : Prints
      (codes "g R/S g GTO A GSB B 7 R/S g GTO B R/S 9 g GSB g R/S\nGSB A\ng R/S g SST g SST g SST g SST g SST g SST g SST BSP SST SST SST SST SST SST SST g R/S\nR/S\n")
      (codes "0 h\n0 h\n0 h\n7 h\n")
  pub case_18 : Prints
      (codes "g R/S g GTO A GSB B 7 R/S g GTO B R/S 9 g GSB g R/S\nGSB A\nf ENTER 0 GSB B\nR/S\n")
      (codes "0 h\n0 h\n0 h\n9 h\n")
  pub case_19 : Prints
      (codes "g R/S g GTO 0 1 GSB 1 R/S g GTO 1 2 GSB 2 g GSB g GTO 2 3 GSB 3 g GSB g GTO 3 4 GSB 4 g GSB g GTO 4 5 g GSB g R/S\nGSB 0\nRDN\n")
      (codes "0 h\n5 h\n4 h\n")
  pub case_20 : Prints
      (codes "g R/S g GTO 0 1 GSB 1 R/S g GTO 1 2 GSB 2 g GSB g GTO 2 3 GSB 3 g GSB g GTO 3 4 GSB 4 g GSB g GTO 4 5 GSB 5 g GSB g GTO 5 g GSB g R/S\nGSB 0\n")
      (codes "0 h\nError 5\n")
  pub case_21 : Prints
      (codes "g R/S g GTO 0 1 GSB 1 R/S g GTO 1 2 GSB 2 g GSB g GTO 2 3 GSB 3 g GSB g GTO 3 4 GSB 4 g GSB g GTO 4 5 GSB 6 g GSB g R/S\nGSB 0\n")
      (codes "0 h\nError 4\n")
  pub case_22 : Prints
      (codes "g R/S g GTO 0 1 GSB 1 6 R/S g GTO 1 GSB 2 7 g GSB g GTO 2 3 g GSB g R/S\nGSB 0\nRDN\nRDN\n")
      (codes "0 h\n6 h\n7 h\n3 h\n")
  pub case_23 : Prints
      (codes "g R/S g GTO A 1 R/S g GTO A 2 R/S g GTO A 3 R/S g R/S\nGSB A\nGSB A\nGSB A\nGSB A\nGTO A SST SST\n")
      (codes "0 h\n1 h\n3 h\n1 h\n3 h\n1 h\n")
  pub case_24 : Prints
      (codes "g R/S g GTO A 1 GTO A g GTO B R/S g R/S g R/S g GTO A 9 R/S g R/S\nGTO B GTO A SST SST\n")
      (codes "0 h\n9 h\n")
  pub case_25 : Prints
      (codes "g R/S 1 GTO A 5 g GTO A 2 R/S g GTO A 3 R/S g R/S\nR/S\n")
      (codes "0 h\n0 h\n")
  pub case_26 : Prints
      (codes "1 0 STO SST GTO SST\nF STO SST\nGTO SST\ng R/S g GTO F 7 g R/S GTO SST SST SST\n1 F STO SST GSB SST\n")
      (codes "Error 4\nF h\nError 4\n7 h\nError 4\n")
  pub case_27 : Prints
      (codes "g R/S g GTO 0 7 g R/S 1 0 STO SST GSB SST\n0 STO SST GSB SST\n")
      (codes "Error 4\n7 h\n")
  pub case_28 : Prints
      (codes "1 2 GTO 3\n4\n")
      (codes "Error 4\n4 h\n")
  pub case_29 : Prints
      (codes "1 2 R/S 3\nRDN\n")
      (codes "3 h\n12 h\n")
  pub case_30 : Prints
      (codes "f 3 1 2 3 4 5 6 7 8 9 A B C D E F\ng STO g STO R/S\n")
      (codes "1234 h\n1234 h\n")
