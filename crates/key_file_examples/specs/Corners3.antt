-- Key files and what they print. Written by scripts/state_key_files.py.
use Rattle.std.specs.Prelude.{codes}
use Rattle.hp_model.specs.WorkedKeyFiles.{Prints}

pub record Corners3 : Type 0 where
  pub case_61 : Prints
      (codes "g R/S g GTO A g 0 g + g - g R/S\nGSB A\ng R/S\n")
      (codes "0 h\n0 h\n000 PRGM\n")
  pub case_62 : Prints
      (codes "f 1 g R/S g GTO A g HEX R/S 7 R/S g R/S\n1 STO SST GSB A\nRCL SST\n0 STO SST GSB A\nRCL SST\nF F F F STO SST GSB A\nRCL SST\n")
      (codes "0 h\n7 h\n0 h\n0 h\nFFFE h\nFFFF h\nFFFE h\n")
  pub case_63 : Prints
      (codes "f 1 g R/S g GTO A g DEC R/S 7 R/S g R/S\nF F F E STO SST GSB A\nRCL SST\n0 STO SST GSB A\nF F F F STO SST GSB A\nRCL SST\n")
      (codes "0 h\n7 h\nFFFF h\n0 h\nFFFF h\n1 h\n")
  pub case_64 : Prints
      (codes "4 0 f STO 1 2 3 4 5 STO SST 1 0 f STO g R/S g GTO A g HEX R/S g R/S\nGSB A\n4 0 f STO RCL SST\n")
      (codes "2345 h\n2345 h\n2344 h\n")
  pub case_65 : Prints
      (codes "1 0 f STO g R/S g GTO A g HEX R/S g R/S\n4 0 f STO 1 0 0 0 1 STO SST 1 0 f STO GSB A\n")
      (codes "0 h\n1 h\n")
  pub case_66 : Prints
      (codes "1 STO 0 f x<>y RCL 0\n")
      (codes "0 h\n")
  pub case_67 : Prints
      (codes "1 0 0 STO SST 7 STO R/S 8 f STO RCL R/S\n")
      (codes "Error 3\n")
  pub case_68 : Prints
      (codes "4 0 f STO 1 0 0 0 0 0 STO SST 1 0 f STO RCL R/S\n")
      (codes "Error 3\n")
  pub case_69 : Prints
      (codes "1 2 3 4 STO 0 6 f STO 1 5 STO 0 8 f STO RCL 0\n")
      (codes "15 h\n")
  pub case_70 : Prints
      (codes "4 f STO 1 9 6 STO SST 5 STO R/S 8 f STO g R/S + BSP g R/S\n")
      (codes "5 h\n")
  pub case_71 : Prints
      (codes "4 f STO F F STO 0 f 0\n1 0 f STO\n")
      (codes "P-0 r-406\n1 h\n")
  pub case_72 : Prints
      (codes "7 STO SST 5 ENTER RCL SST\nRDN\n")
      (codes "7 h\n5 h\n")
  pub case_73 : Prints
      (codes "7 STO 0 5 ENTER RCL 0\nRDN\n")
      (codes "7 h\n5 h\n")
  pub case_74 : Prints
      (codes "1 ENTER 2 ENTER 7 STO SST 3\nRDN\nRDN\n")
      (codes "3 h\n7 h\n2 h\n")
  pub case_75 : Prints
      (codes "1 ENTER 2 ENTER STO R/S 3\nRDN\nRDN\n")
      (codes "3 h\n2 h\n2 h\n")
  pub case_76 : Prints
      (codes "8 f STO 1 0 ENTER 2 ENTER 3 ENTER F F ENTER 4 f STO\nRDN\nRDN\nRDN\ng ENTER\n")
      (codes "F h\n3 h\n2 h\n2 h\n0 h\n")
  pub case_77 : Prints
      (codes "1 2 3 4 ENTER F F F + 4 f STO g ENTER\n1 0 f STO g ENTER\n")
      (codes "F h\n1 h\n")
  pub case_78 : Prints
      (codes "0 f STO f .\nF F F F F F F F F F F F F F F F\nf .\n")
      (codes "2-64-0000\nFFFFFFFF .h\n2-64-0000\n")
  pub case_79 : Prints
      (codes "f 1 1 0 f STO F F F F f STO f .\n")
      (codes "1-64-0000\n")
  pub case_80 : Prints
      (codes "8 f STO 1 ENTER 2 ENTER 3 ENTER 4 ENTER 8 f STO RDN RDN RDN RDN\n9\nRDN\n")
      (codes "4 h\n9 h\n4 h\n")
  pub case_81 : Prints
      (codes "1 ENTER 2 ENTER 3 ENTER 4 + 5 +\nRDN\nRDN\nRDN\n")
      (codes "C h\n2 h\n1 h\n1 h\n")
  pub case_82 : Prints
      (codes "1 ENTER CHS 2\nRDN\n")
      (codes "2 h\nFFFF h\n")
  pub case_83 : Prints
      (codes "1 ENTER RDN 2\nRDN\nRDN\n")
      (codes "2 h\n1 h\n0 h\n")
  pub case_84 : Prints
      (codes "1 ENTER g RDN 2\nRDN\n")
      (codes "2 h\n0 h\n")
  pub case_85 : Prints
      (codes "5 ENTER f 1 2\nRDN\n")
      (codes "2 h\n5 h\n")
  pub case_86 : Prints
      (codes "5 ENTER g x<>y 2\nRDN\n")
      (codes "2 h\n5 h\n")
  pub case_87 : Prints
      (codes "5 ENTER g STO 2\nRDN\n")
      (codes "2 h\n5 h\n")
  pub case_88 : Prints
      (codes "5 ENTER g RCL 2\nRDN\n")
      (codes "2 h\n5 h\n")
  pub case_89 : Prints
      (codes "5 ENTER f x<>y 2\nRDN\n")
      (codes "2 h\n5 h\n")
  pub case_90 : Prints
      (codes "g R/S g GTO A g GSB g GTO B R/S g GTO C GSB D R/S g GTO D g GSB g R/S\n1 ENTER GSB A 2\nRDN\nRDN\n1 ENTER GSB B 2\nRDN\n1 ENTER GSB C 2\nRDN\n")
      (codes "0 h\n2 h\n1 h\n0 h\n2 h\n1 h\n2 h\n1 h\n")
