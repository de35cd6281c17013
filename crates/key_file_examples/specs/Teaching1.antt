-- Key files and what they print. Written by scripts/state_key_files.py.
use Rattle.std.specs.Prelude.{codes}
use Rattle.hp_model.specs.WorkedKeyFiles.{Prints}

pub record Teaching1 : Type 0 where
  pub case_1 : Prints
      (codes "8 f STO\n7 F ENTER 1 +\nDEC\nHEX 8 0 CHS\n")
      (codes "0 h\n80 h G\n-128 d G\n80 h G\n")
  pub case_2 : Prints
      (codes "4 f STO f 1\nC ENTER C +\n5 ENTER A +\nDEC\n")
      (codes "0 h\n9 h C\nF h\n-0 d\n")
  pub case_3 : Prints
      (codes "8 f STO f 3\nF F ENTER F F g *\nx<>y\nx<>y F F g /\n")
      (codes "0 h\nFE h\n1 h\nFF h\n")
  pub case_4 : Prints
      (codes "1 2 3 4 STO 0\n8 f STO\nRCL 0\nRCL 1\n5 6 STO 1\n1 0 f STO RCL 0\n")
      (codes "1234 h\n34 h\n34 h\n12 h\n56 h\n5634 h\n")
  pub case_5 : Prints
      (codes "8 f STO f 3\n8 1 f A\n8 1 f B\n8 1 g B\nf 2 8 1 g B\n8 1 f C\n8 1 g C\n")
      (codes "0 h\n2 h C\n40 h C\n40 h C\nC0 h C\n3 h C\n3 h C\n")
  pub case_6 : Prints
      (codes "g R/S g GTO A 0 x<>y g GTO 0 g + GTO 1 f B g 6 4 GSB 2 GTO 0 g GTO 1 x<>y g GSB g GTO 2 x<>y 1 + x<>y g GSB g R/S\nF F 0 1 GSB A\n0 GSB A\n")
      (codes "0 h\n9 h\n0 h\n")
  pub case_7 : Prints
      (codes "g R/S g GTO A g + GTO 1 STO 0 f 9 RCL 0 x<>y GTO A g GTO 1 x<>y g GSB g R/S\nDEC 4 8 ENTER 1 8 GSB A\n2 7 0 ENTER 1 9 2 GSB A\n")
      (codes "0 h\n6 d\n6 d\n")
  pub case_8 : Prints
      (codes "f 3\ng R/S g GTO A x<>y STO 0 g BSP STO 1 x<>y g GTO 0 g + GTO 1 f B g 6 4 GSB 2 RCL 0 f A STO 0 RDN GTO 0 g GTO 1 RCL 1 g GSB g GTO 2 RCL 0 RCL 1 + STO 1 RDN g GSB g R/S\n1 2 3 ENTER 4 5 GSB A\n")
      (codes "0 h\n0 h\n4E6F h\n")
  pub case_9 : Prints
      (codes "g R/S g GTO A ENTER ENTER 8 f F f / ENTER ENTER 4 f F f / ENTER ENTER 2 f F f / ENTER ENTER 1 f F f / 1 f * g GSB g R/S\n7 GSB A\n3 GSB A\n")
      (codes "0 h\n1 h\n0 h C\n")
  pub case_10 : Prints
      (codes "M609 f 0\ng R/S +\nf 0\n")
      (codes "P-0 r-304\n001 + PRGM\nP-6 r-301\n")
  pub case_11 : Prints
      (codes "M609 4 C 1 STO SST 4 f STO 7 STO R/S\ng BSP\nRCL R/S\n")
      (codes "7 h\n0 h\n7 h\n")
