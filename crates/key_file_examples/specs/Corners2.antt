-- Key files and what they print. Written by scripts/state_key_files.py.
use Rattle.std.specs.Prelude.{codes}
use Rattle.hp_model.specs.WorkedKeyFiles.{Prints}

pub record Corners2 : Type 0 where
  pub case_31 : Prints
      (codes "4 0 f STO 1 2 3 4 5 6 7 8 9 A\ng STO\ng GSB\n")
      (codes "3456789A .h\n12 h.\n3456789A .h\n")
  pub case_32 : Prints
      (codes "4 0 f STO 1 2 3 4 5 6 7 8 9 A\ng STO\nGTO 0\nf .\ng R/S g GTO 0 g R/S GTO 0\n")
      (codes "3456789A .h\n12 h.\nError 4\n2-64-0000\n3456789A .h\n")
  pub case_33 : Prints
      (codes "4 0 f STO 1 2 3 4 5 6 7 8 9 A\ng STO\nON\n")
      (codes "3456789A .h\n12 h.\n12 h.\n")
  pub case_34 : Prints
      (codes "4 0 f STO 1 2 3 4 5 6 7 8 9 A\ng STO\nBSP\n1\n")
      (codes "3456789A .h\n12 h.\n h.\n1 h\n")
  pub case_35 : Prints
      (codes "4 0 f STO 1 2 3 4 5 6 7 8 9 A ENTER\ng STO\n8 0 f 7\nf HEX\n")
      (codes "3456789A .h\n12 h.\nError 2\n80 h\n")
  pub case_36 : Prints
      (codes "4 0 f STO 1 2 3 4 5 6 7 8 9 A\ng STO\nf 1 f HEX f\nHEX f CHS\n1 g STO f HEX\n")
      (codes "3456789A .h\n12 h.\n3456789A .h f\nError 1\n1 h\n")
  pub case_37 : Prints
      (codes "4 0 f STO DEC 1 2 3 4 5 6 7 8 9 0\ng STO\nA\n")
      (codes "34567890 .d\n12 d.\n12 d.\n")
  pub case_38 : Prints
      (codes "4 0 f STO HEX 1 2 3 4 5 6 7 8 9 A\nDEC CHS\ng STO\ng STO\nHEX\n")
      (codes "3456789A .h\n-87493530 .d\n-781 d.\n- d.\nCBA98766 .h\n")
  pub case_39 : Prints
      (codes "4 0 f STO f ENTER 7\ng STO\ng STO\n")
      (codes " h.\n h.\n h.\n")
  pub case_40 : Prints
      (codes "1 2 ON 3\n1 2 f . 3\n1 2 f 0 3\n1 2 f HEX 3\n1 2 . 3\n1 2 f CHS 3\n1 2 g SST 3\n1 2 GTO . 0 0 0 3\n1 2 GTO . 0 0 1 3\n1 2 g R/S g R/S 3\n")
      (codes "3 h\n3 h\n3 h\n3 h\n3 h\n3 h\n3 h\n3 h\n3 h\n3 h\n")
  pub case_41 : Prints
      (codes "1 2 f BSP 3\n1 2 STO + 3\n1 2 f R/S 3\n1 2 g g 3\n1 2 RCL f GTO 3\n")
      (codes "123 h\n1231 h\n1231 h\n1231 h\n123 h\n")
  pub case_42 : Prints
      (codes "1 ENTER 2 BSP RCL SST\nRDN\n")
      (codes "0 h\n1 h\n")
  pub case_43 : Prints
      (codes "1 ENTER 2 BSP 3\nRDN\n")
      (codes "3 h\n1 h\n")
  pub case_44 : Prints
      (codes "1 ENTER 1 0 BSP 3\nRDN\n")
      (codes "13 h\n1 h\n")
  pub case_45 : Prints
      (codes "5 6 + BSP 7\nRDN\ng ENTER\n")
      (codes "7 h\n0 h\n56 h\n")
  pub case_46 : Prints
      (codes "1 ENTER 2 + BSP g ENTER\n")
      (codes "2 h\n")
  pub case_47 : Prints
      (codes "1 ENTER . RCL SST\nRDN\n")
      (codes "0 h\n1 h\n")
  pub case_48 : Prints
      (codes "4 1 f STO STO +\n4 1 f STO STO\n4 1 f STO f f\n")
      (codes "41 h\n41 h\n1 h f\n")
  pub case_49 : Prints
      (codes "STO ON\nRCL ON 1\nGTO ON 2\nGSB ON 3\ng GTO ON 4\ng 4 ON 3\ng 5 ON 3\nf ENTER ON 1\n")
      (codes "0 h\n1 h\n2 h\n3 h\n4 h\n3 h\n3 h\n1 h\n")
  pub case_50 : Prints
      (codes "1 STO f 0 RCL f 0\nGTO f 5\nGSB f 6\nGTO f .\nSTO f SST\nSTO . f 3\nSTO . 3 RCL . 3\n")
      (codes "1 h\nError 4\nError 4\n1 h\n1 h\n3 h\n3 h\n")
  pub case_51 : Prints
      (codes "1 2 GTO . A 3\nGTO . 0 A 4\nGTO . 0 0 A 5\nGTO . f 0 0 0\n")
      (codes "123 h\n1234 h\n1234 h\n1234 h\n")
  pub case_52 : Prints
      (codes "g 4 6\ng 4 7 f .\ng 4 A\nf ENTER 8\nf ENTER 9 1\ng 6 6\ng 5 6\ng GTO f\ng GTO + 1\n")
      (codes "0 h\n2-16-0000\n0 h\n0 h\n1 h\n1 h\n1 h\n1 h\n11 h\n")
  pub case_53 : Prints
      (codes "g R/S g GTO A g 1 R/S 7 R/S g R/S\n1 ENTER GSB A\n1 ENTER 2 GSB A\n2 ENTER 1 GSB A\nF F F F ENTER 1 GSB A\n")
      (codes "0 h\n1 h\n7 h\n1 h\n7 h\n")
  pub case_54 : Prints
      (codes "g R/S g GTO A g 3 R/S 7 R/S g R/S\n1 ENTER GSB A\n1 ENTER 2 GSB A\n2 ENTER 1 GSB A\nF F F F ENTER 1 GSB A\n")
      (codes "0 h\n7 h\n2 h\n7 h\n1 h\n")
  pub case_55 : Prints
      (codes "g R/S g GTO A g 2 R/S 7 R/S g R/S\n0 GSB A\n1 GSB A\nF F F F GSB A\n")
      (codes "0 h\n7 h\n7 h\nFFFF h\n")
  pub case_56 : Prints
      (codes "g R/S g GTO A g - R/S 7 R/S g R/S\n0 GSB A\n1 GSB A\nF F F F GSB A\n")
      (codes "0 h\n7 h\n1 h\n7 h\n")
  pub case_57 : Prints
      (codes "g R/S g GTO A g 0 R/S 7 R/S g R/S\nf 1 0 ENTER F F F F GSB A\n1 ENTER 2 GSB A\n")
      (codes "0 h\n7 h\n2 h\n")
  pub case_58 : Prints
      (codes "g R/S g GTO A g CHS R/S 7 R/S g R/S\nf 1 0 ENTER F F F F GSB A\n1 ENTER 2 GSB A\n")
      (codes "0 h\nFFFF h\n7 h\n")
  pub case_59 : Prints
      (codes "g R/S g GTO A g . R/S 7 R/S g R/S\nf 1 F F F F GSB A\n1 GSB A\n")
      (codes "0 h\n7 h\n1 h\n")
  pub case_60 : Prints
      (codes "g R/S g GTO A g + R/S 7 R/S g R/S\nf 1 F F F F GSB A\n1 GSB A\n")
      (codes "0 h\nFFFF h\n7 h\n")
