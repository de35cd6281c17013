-- Key files and what they print. Written by scripts/state_key_files.py.
use Rattle.std.specs.Prelude.{codes}
use Rattle.hp_model.specs.WorkedKeyFiles.{Prints}

pub record Large4 : Type 0 where
  pub case_91 : Prints
      (codes "M609\n3 A ENTER 0 ENTER 4 g * g ENTER g 9 g ENTER\nf 3\n")
      (codes "0 h\n4 h\n4 h\n")
  pub case_92 : Prints
      (codes "M609\ng R/S g C f HEX f STO g 9 g F 6\nE g BSP RCL . B STO C g * f STO f 4 STO SST\nSTO R/S g R/S 7 8 8 F g SST g GSB R/S BIN\n1 0 g BSP 5 HEX 5\nRDN\n\ng R/S GTO . 0 0 9 g GTO A g . GTO A STO . 5 g BSP\ng R/S g 4 3 g STO g STO g STO g STO g STO g STO g STO\ng GSB\nf BSP\n\n0 STO SST f GTO RCL SST HEX 1 1 f STO g HEX\nOCT 2 1 ENTER 1 0 0 f E 3 7 7 6 7 7 g C\nSTO F RCL . 3\n3 7 7 7 2 0 ENTER GTO 1 RCL R/S\nRDN\n\ng 4 4\ng SST\n\n")
      (codes "0 h\n005 6 PRGM\n013 STO I PRGM\n00011110 .b\n5 h\nF11E h\nF11E h\n014 CLX PRGM\n h.\nF11E h\nF11E h\nF11E h\n00000 h\n377576 o C\n000000 o C\nError 3\n377720 o C\n377720 o C\n377720 o C\n377720 o C\n377720 o C\n")
  pub case_93 : Prints
      (codes "M609 GTO g\n3 f CHS\n2 x<>y\nSTO BSP\n5 0 7 0 0 8 BSP BSP BSP\n3 STO + 2 f R/S\nDEC\ng STO\n")
      (codes "0 h\nError 1\n3 h\n3 h\n5 h\n532 h\n1330 d\n d.\n")
  pub case_94 : Prints
      (codes "M609\ng R/S GTO . 0 0 0 g R/S F F E 9 R/S\nBIN 1 0 0 0 0 0 0 0 0 0 0 0 0 0 0 0 f BSP 1 0 0 0 f +\ng R/S f RDN g GSB ENTER g R/S 2 HEX 1 0 f STO\n")
      (codes "0 h\nFFE9 h\n11101001 .b\nFFE9 h\n")
  pub case_95 : Prints
      (codes "M609 4 0 0 0 ENTER f BSP 3 ENTER 6 g * g ENTER g 9 g ENTER\ng R/S f RDN R/S 1 g GTO 0 1 GSB 0 g GTO 0 R/S\ng R/S GTO . 0 0 0 GTO 0\ng R/S\ng R/S GTO 0\ng R/S\ng R/S GTO 0\ng R/S\ng R/S GTO 0\ng R/S\ng R/S\n1 g GSB R/S\n\nDEC\n")
      (codes "6 h\n007 R/S PRGM\n6 h\n003 LBL 0 PRGM\n6 h\n006 LBL 0 PRGM\n6 h\n003 LBL 0 PRGM\n6 h\n006 LBL 0 PRGM\n6 h\n1 h\n1 h\n1 d\n")
  pub case_96 : Prints
      (codes "M609\nf 1\nF F F E ENTER 2 g F\n")
      (codes "0 h\n0 h\n3FFF h C\n")
  pub case_97 : Prints
      (codes "M609 g R/S f RDN g ENTER g 2 STO D f GSB * g HEX\ng D g 5 3 f B g R/S GTO . 0 0 5\n4 0 GTO SST\n\n")
      (codes "006 DSZ PRGM\n0 h\nError 4\nError 4\n")
  pub case_98 : Prints
      (codes "M609\nGTO f g\nf ENTER 4 1 f STO\ng R/S f RDN f - g BSP DEC 1 RCL SST g R/S R/S\nSST SST\nSST\nSST\nSST\nSST\nSTO 3 RCL 1\nHEX 1 RDN\n1 ENTER 1 f 8 0 f BSP 1 f +\n")
      (codes "0 h\n0 h\n0 h\n0 h\n0 h\n0 d\n0 d\n0 d\n0 d\n0 d\n0 h\n1 h\n")
  pub case_99 : Prints
      (codes "M609 0 f GTO g DEC g DEC\nF F F 1 ENTER 1 g E F 5 g D\n4 0 0 0 ENTER 1 1 f 4\ng R/S f RDN g GTO 0 0 GSB 1 ENTER g GSB g GTO 1 1 GSB 2 x<>y g GSB g GTO 2 + GSB 3 + g GSB g GTO 3 3 R/S ENTER g GSB g R/S E F F F GSB 0\n0 / g + GSB 1 R/S\ng R/S\ng R/S\nHEX 1 F f STO F 4 0 0 0 x<>y f *\nR/S 7 F F F F F C 2 g GSB g SST\n\n4 0 0 0 0 0 0 0 ENTER 4 1 f 6 f g SST\n2 HEX\n5 C 6 4 7 0 F g B\ng R/S f RDN R/S g GTO 0 + GTO 0 g GTO 0 + g GTO 1 +\ng R/S GTO . 0 0 8 GTO 0\ng R/S\ng R/S GTO . 0 0 6 GTO 0\ng R/S\ng R/S GSB 0\ng R/S\ng R/S GTO 0\ng R/S\ng R/S\n2 0 ENTER OCT 2 3 *\n0 SST 2 x<>y\ng R/S f RDN g D g SST / GTO 3 f STO ON 2 f 0 2 1 0 ENTER HEX 7 F F F F F E 5 x<>y *\ng C 1 0 0 0 0 0 0 ENTER 2 g E\n7 F F F 7 F F F ENTER 4 1 f 5 OCT g 4 3 g STO g STO g STO g STO g STO g STO g STO\ng R/S + BSP g R/S\nf BSP\n\nHEX 3 F f STO\nOCT 4 7 RCL 3 5 3 3 1 1 7 6 4 0 4 2 4 3 2 4 1 7 3 4 3 5\n")
      (codes "0 h\n807A h C\nError 2\n3 h\n1 h\n000 PRGM\n1 h\n0 h\n7FFFFFC2 h\n7FFFFFC2 h\n41 h\n2 h\n2E32387 h C\n008 + PRGM\n2E32387 h C\n002 LBL 0 PRGM\n2E32387 h C\n002 LBL 0 PRGM\n2E323CA h\n000 PRGM\n2E323CA h\n002 LBL 0 PRGM\n2E323CA h\n1140 o\n0 o\n7FFFF1A8 h\n4000002 h\n o.\n o.\n o.\n o.\n00000041 .h\n24173435 .o\n")
  pub case_100 : Prints
      (codes "M609 5 0 F 2 f A\n4 4 3 A f BSP HEX F F C 6 x<>y + B D 2 D ENTER C 9 E 7 f *\nD f STO\n")
      (codes "A1E4 h\n8925 h C\n925 h C\n")
