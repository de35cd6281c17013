-- Key files and what they print. Written by scripts/state_key_files.py.
use Rattle.std.specs.Prelude.{codes}
use Rattle.hp_model.specs.WorkedKeyFiles.{Prints}

pub record Large3 : Type 0 where
  pub case_61 : Prints
      (codes "M609\nF F E 8 ENTER f BSP D 2 1 E ENTER 1 0 g * g ENTER\ng STO\n")
      (codes "0 h\n10 h\n h.\n")
  pub case_62 : Prints
      (codes "M609 4 0 g BSP STO 9 8 0\n\nRDN\nRDN\nRDN\n\n")
      (codes "80 h\n80 h\n0 h\n0 h\n0 h\n0 h\n")
  pub case_63 : Prints
      (codes "M609\ng STO g STO g STO g STO g STO g STO F\nHEX 6 f STO 2 4 C 9 1 F 0 0 8 2 BSP BSP BSP\nf ENTER 0\ng R/S GTO . 0 0 1 D STO SST GTO SST g 4 2 STO R/S g GTO 0 f GSB E g . g RDN f E f 7 g GTO 2 g x<>y ON g SST\n\ng R/S f RDN R/S g GSB g R/S SST ENTER ENTER\nENTER SST 1\n3 F 2 f 9\ng R/S f RDN g A / ENTER f . GSB 0 g GTO 0 2\nRCL 0 f . g R/S 1 8 g SST\n\n\n")
      (codes "0 h\nF h\n0 h\n0 h\n0 h\n0 h\n0 h\n1 h\n0 h\n006 2 PRGM\n18 h\n18 h\n18 h\n")
  pub case_64 : Prints
      (codes "M609\nE\nHEX 3 3 f STO 9 A 4 E A D 6 D 9 E 0 6 f BSP 1 0 0 0 0 0 0 0 0 0 0 0 0 x<>y f /\n\nf 2\nf 1 0 0 3 7 2\ng R/S 1 ON\nf 2\nOCT 3 7 STO SST 4 0 5 0 6 6 2 1 0 1 5 7 2 4 5 2 1 g HEX 1 f STO g HEX\n0 STO SST 1 STO R/S\n0 g BSP g 4 3 0\nRDN\nRDN\n\nRDN\n\n0 ENTER 0 f / g 4 4\n8\ng R/S f RDN R/S g GTO 0\ng R/S GSB 2\ng R/S\ng R/S GTO 1\ng R/S\ng R/S GTO . 0 0 1 GTO 2\ng R/S\ng R/S GTO . 0 0 1 GTO 0\ng R/S\ng R/S GTO 0\ng R/S\ng R/S\ng R/S A + g 5 1 CHS STO SST g 9 f D * g R/S R/S\ng R/S\ng R/S 1 GTO . 0 0 9\nR/S\n\ng R/S\ng R/S\n1 ENTER 0 f 5\n1 ENTER 1 f 8 0 ENTER 1 ENTER 1 g / g ENTER\n1 ENTER 0 ENTER 1 g / g ENTER 0 ENTER 1 f / g R/S f RDN g GTO 0 + GSB 1 ENTER g GSB g GTO 1 + GSB 2 + g GSB g GTO 2 2 GSB 3 2 g GSB g GTO 3 + R/S ENTER g GSB g R/S 1 GSB 0\nSST GTO . 9 9 9\ng BIN\nSST\ng R/S\ng R/S SST\ng R/S\ng R/S R/S\ng R/S\ng R/S R/S\ng R/S\ng R/S\n1 f BSP 0 *\nHEX 0 f STO 3 f STO 4 f BSP 2 f *\n")
      (codes "0 h\nE h\nAD6D9E08 .h\nAD6D9E08 .h\nAD6D9E08 .h\n372 h\n372 h\n372 h\n1 o\n1 o\n0 o\n1 o\n0 o\n0 o\n1 o\n1 o\n0 o C\n0 o C\n002 LBL 0 PRGM\nError 4\n002 LBL 0 PRGM\nError 4\n002 LBL 0 PRGM\nError 4\n001 R/S PRGM\n0 o C\n002 LBL 0 PRGM\n0 o C\n002 LBL 0 PRGM\n0 o C\n0 o C\n000 PRGM\n1 o C\n0 o C\n0 o C\n000 PRGM\n0 o C\n0 o C\n1 o C\n0 o C G\nError 4\nError 1\n0 o C G\n014 2 PRGM\n0 o C G\n015 RTN PRGM\n0 o\n000 PRGM\n0 o C G\n019 ENTER PRGM\n0 o C G\n0 o C\n0 h C\n")
  pub case_65 : Prints
      (codes "M609 f BIN f A F ENTER 3 F f F F F F A STO . 3\n")
      (codes "FFFA h\n")
  pub case_66 : Prints
      (codes "M609 g 6 0\nSTO 2 HEX 1 F f STO OCT 1 5 7 7 7 7 7 7 7 7 7 g STO\nGTO . 9 9 9\nf BSP\n\nHEX 1 1 f STO\n")
      (codes "0 h\n157 o.\nError 4\n157 o.\n157 o.\n1FFFF h\n")
  pub case_67 : Prints
      (codes "M609 f 0\n7 C STO SST f GTO 5 8 5 D HEX 1 1 f STO STO R/S g 6 SST 1 D ENTER 0 ENTER 2 0 g 9 g ENTER\n")
      (codes "P-0 r-304\n20 h\n")
  pub case_68 : Prints
      (codes "M609\nBIN 1 0 0 0 1 0 1 0 1 0 0 0 1 1 1 ENTER 1 1 1 1 1 1 1 1 1 1 0 1 1 0 1 1 x<>y -\nSTO 3 RCL 1 1 1 1 1 1 1 1 1 1 1 0 0 0 1 0 0 ENTER 1 0 0 0 1 f 5\n1 0 0 0 0 0 0 0 0 0 g RDN\ng BIN g GSB R/S\n1 0 0 0 1 f STO\n\nHEX 0 f STO 2 1 f STO 8 3 STO SST 1 STO R/S\ng R/S + + + + + + +\nBSP BSP BSP BSP BSP BSP BSP\ng R/S RCL R/S\nf 0\n")
      (codes "0 h\n10010100 .b\nError 2\n0 b\n0 b\n0 b\n0 b\n1 h\n007 + PRGM\n000 PRGM\n1 h\nP-0 r-135\n")
  pub case_69 : Prints
      (codes "M609 g 5 2\n")
      (codes "0 h\n")
  pub case_70 : Prints
      (codes "M609 g R/S g GTO 2\n* g / g RCL g 6 3 GTO 2 A CHS f . g R/S R/S g SST\ng R/S f RDN g GTO 0 g GTO 1 x<>y 1 GTO 0 x<>y R/S\ng R/S GTO 2\n\ng R/S\n\ng R/S\ng RCL\n3 2 ENTER 1 ENTER 1 g * g ENTER\n")
      (codes "001 LBL 2 PRGM\n0 h\n007 R/S PRGM\nError 4\nError 4\n007 R/S PRGM\n007 R/S PRGM\n0 h\n0 h\n1 h\n")
  pub case_71 : Prints
      (codes "M609\ng R/S BSP\ng R/S\n")
      (codes "0 h\n000 PRGM\n0 h\n")
  pub case_72 : Prints
      (codes "M609\n3 F f STO STO . F\ng R/S g BSP ON 7 F 7 F F F F F F F F F F F F F SST\nSST\nSST\nSST SST\nSST\nSST\ng R/S\ng R/S 7 F F B F F F F F F F F F F F F STO 1 HEX 3 F f STO\n7 F F F F F E F F F F F F F F F STO 0 RCL 0\nA . - RDN RCL g R/S\n7 F F F F F F F F F B F F F F F f A\n")
      (codes "0 h\n0 h\n0 h\n0 h\n0 h\n0 h\n0 h\n0 h\n000 PRGM\nFFFFFFFF .h\nFFFFFFFF .h\n0 h\nFF7FFFFE .h C\n")
  pub case_73 : Prints
      (codes "M609\ng BIN\n")
      (codes "0 h\nError 1\n")
  pub case_74 : Prints
      (codes "M609\n1 4 7 A ENTER 4 1 g E\n8 0 0 0 ENTER 1 f F\nF F E F ENTER f BSP 2 0 ENTER 4 g / g ENTER\ng R/S f RDN 4 STO SST g GTO A g DEC GTO A g * F\nF F F D ENTER f BSP F ENTER F F E A g 9 g ENTER\ng R/S 1 0 f GTO g HEX F F E 8 STO SST 7 F F F g HEX\n8 ENTER GSB C RCL R/S\nRDN\n\nf 2\n")
      (codes "0 h\nError 2\n4000 h\n1 h\n007 F PRGM\n020 LSTX PRGM\n7FFF h\nError 3\n8 h\n8 h\n8 h\n")
  pub case_75 : Prints
      (codes "M609\ng R/S f RDN 1 g GTO 0 g GSB\ng R/S GSB 0\ng R/S\ng R/S GSB 1\ng R/S\ng R/S GTO 0\ng R/S\ng R/S\n")
      (codes "0 h\n003 RTN PRGM\n0 h\n000 PRGM\nError 4\n000 PRGM\n0 h\n002 LBL 0 PRGM\n0 h\n")
  pub case_76 : Prints
      (codes "M609 8 0 0 1 ENTER F F E 5 f /\n1 STO SST BIN 1 1 0 0 0 HEX 5 f STO f GSB 1 7 RCL SST 0 STO SST STO SST 2 STO SST\nHEX E x<>y g GTO D RCL 0\nRDN\n\n1 3 2 2 D 4 6 8 1 1 1 0 ENTER BIN 1 1 0 f 5\ng RCL\n1 1 1 0 0 ENTER 4 1 0 0\nRDN\n\n")
      (codes "7FE4 h\n2 h\n0 h\n2 h\n2 h\nError 2\n110 b\n100 b\n11100 b\n11100 b\n")
  pub case_77 : Prints
      (codes "M609 1 CHS f STO HEX 0 f STO 4 f STO\ng 6 2\nR/S\ng R/S\ng R/S\nf 1\nf 2 OCT 1 ENTER 1 6 x<>y /\n2 g SST\nR/S\n\n")
      (codes "0 h\n0 h\n0 h\n000 PRGM\n0 h\n0 h\n16 o\n2 o\n2 o\n2 o\n")
  pub case_78 : Prints
      (codes "M609 2 E ENTER 0 ENTER F F E 6 g * g ENTER\ng ENTER\ng C\ng R/S g ENTER SST g 4 0 GSB C GTO . 0 0 1 RCL 9 GSB A GTO . 0 0 0 STO . A\ng R/S\n")
      (codes "FFE6 h\nFFE6 h\nFFCC h C\n001 STO .A PRGM\nFFCC h C\n")
  pub case_79 : Prints
      (codes "M609\nf GSB\n")
      (codes "0 h\n0 h\n")
  pub case_80 : Prints
      (codes "M609 x<>y 0 RCL 8 RCL\n")
      (codes "0 h\n")
  pub case_81 : Prints
      (codes "M609 1 5 ENTER 1 1 f 4\n")
      (codes "Error 2\n")
  pub case_82 : Prints
      (codes "M609 g R/S f RDN RCL SST g BSP f ENTER 5\ng ENTER RCL SST g R/S F R/S\nGSB 0\n\nB D 9 A STO F\ng R/S f RDN 5 STO SST GTO SST g GTO 2 f + f STO g OCT f STO f C\nf 5 g 0 g 4 1 / g 9 STO 8 g GTO F g ENTER ON R/S\n\ng R/S\ng R/S R/S\ng R/S\ng R/S SST f SST\nSST SST SST\nSST\n\n1 F f GTO 3 2 STO R/S f GTO RCL R/S\ng R/S f RDN g GTO 0 0 GSB 1 x<>y g GSB g GTO 1 + GSB 2 ENTER g GSB g GTO 2 2 R/S 2 g GSB g R/S F F C 5 GSB 0\ng R/S BSP g R/S SST\ng R/S\ng R/S\n\nF F D 4 g 4 3 g STO SST\nf BSP\nA ENTER F F D 6 f 9 4 0 0 0 ENTER 7 f 8\n1 2 4 STO SST A 7 5 B STO R/S\ng R/S + + + + + + + +\nBSP BSP BSP BSP BSP BSP BSP BSP\ng R/S RCL R/S\nf 0\n\n8 7 6 0 7 1 3 3 0 0 6 BSP BSP\nC 7 BSP\nOCT\n")
      (codes "003 WINDOW 5 PRGM\n0 h\nError 4\nError 4\nBD9A h\n009 RL PRGM\n0 h\n0 h\n000 PRGM\nError 4\n003 GTO I PRGM\n5 h\nError 4\nError 4\nError 4\n0 h\n2 h\n2 h\n014 RTN PRGM\n2 h\n2 h\nFFD4 h\nFFD4 h\n007F h\nA75B h\n008 + PRGM\n000 PRGM\n0000 h\nP-0 r-297\nP-0 r-297\n0087 h\n087C h\n004174 o\n")
  pub case_83 : Prints
      (codes "M609 g R/S f *\n\n+ + f GTO f 5 x<>y 3 6 f 9 RDN g R/S R/S F F E F GTO . 0 0 2\ng R/S\ng R/S\nB g 4 3 f ENTER 7 g R/S GTO . 0 0 0 g STO R/S g R/S g GSB f ENTER 2 R/S\nf BSP\n\nf ENTER 4\nF F C A f D 2 GTO . 0 0 0\n2 f .\ng 6 5 F F F E ENTER 1 0 CHS f 8 F F F E R/S\ng R/S\ng R/S STO f\nOCT 1 2 9 f GTO 3 B 5 A g DEC\ng RCL\nHEX\n\nHEX 1 F f STO\n4 5 f BSP 4 0 0 0 0 0 0 0 g 3\ng 6 ENTER\n1 F STO SST 7 F F E F F F F g HEX\nDEC / SST\nf SST\nHEX 1 0 f STO\nf .\nBIN 1 1 1 1 1 1 0 1 1 1 1 1 1 1 1 1 g STO g STO f RDN\n\nSTO 0 RCL 0 BIN 1 1 1 1 1 1 1 1 1 1 1 1 1 0 1 1 ENTER 0 ENTER 1 1 1 1 1 1 g * g ENTER g / g ENTER B ON 4\n")
      (codes "001 AND PRGM\n001 AND PRGM\nFFEF h\n002 + PRGM\nFFEF h\n000B h\n000B h\n000B h\n h.\n0002 h\n2-16-1000\nFFFE h\n003 AND PRGM\nFFFE h\n3B5A h\n3B5A h\n3B5A h\n3B5A h\n00003B5A h\n45400000 h\n45400000 h\n7FFEFFFF h\n0 d C\n0 d C\n0000 h C\n2-16-1000\n b. C\n b. C\n00111111 .b\n")
  pub case_84 : Prints
      (codes "M609 CHS\ng 4 2\n2 ON\n1 2 0 0 0 ENTER 1 g F\n")
      (codes "0 h\n0 h\n2 h\n900 h\n")
  pub case_85 : Prints
      (codes "M609 4 ENTER f BSP 5 ENTER OCT 1 7 5 7 7 7 g * g ENTER g / g ENTER\n1 7 4 6 3 7 ENTER 1 0 1 f 7\n1 0 1 ENTER 1 7 7 7 7 5 x<>y f + 1 7 7 7 5 7 ENTER 1 7 7 7 7 6 x<>y *\n1 0 f BSP 1 7 7 7 7 6 *\n2 6 4 5 4 ENTER 1 7 7 7 7 6 f /\nGTO . 0 R/S\n\nGSB 9\n\n")
      (codes "175777 o\nError 2\n42 o\n103736 o G\n151322 o G\n151322 o G\n151322 o G\nError 4\nError 4\n")
  pub case_86 : Prints
      (codes "M609 F F B F g STO g STO g STO g STO g STO g STO g STO ON\nf BSP\n5 F A 3 g C\n")
      (codes " h.\n h.\nBF46 h\n")
  pub case_87 : Prints
      (codes "M609\ng STO\nR/S\ng R/S\ng R/S R/S\n\ng R/S f RDN GSB 0 g GTO 0\ng R/S GTO 1\ng R/S\ng R/S GTO 0\ng R/S\ng R/S GTO 2\ng R/S\ng R/S\ng 4 3 g STO g STO g STO g STO g STO\n2\nf BSP\n\n")
      (codes "0 h\n h.\n0 h\n000 PRGM\n0 h\n0 h\n002 LBL 0 PRGM\nError 4\n002 LBL 0 PRGM\n0 h\n002 LBL 0 PRGM\nError 4\n002 LBL 0 PRGM\n0 h\n h.\n0002 h\n0002 h\n0002 h\n")
  pub case_88 : Prints
      (codes "M609\nGSB 0\nF F F E R/S\n")
      (codes "0 h\nError 4\nFFFE h\n")
  pub case_89 : Prints
      (codes "M609\nBIN\n")
      (codes "0 h\n0 b\n")
  pub case_90 : Prints
      (codes "M609\n3 5 STO 0 RCL 0 4 0 0 0 g OCT 2 f 3 f ENTER 2\nOCT\n1 1 7 1 4 3 ENTER 5 f F\n4 5 4 STO SST 1 7 2 6 7 5 STO R/S\n\ng R/S + + + + + + +\nBSP BSP BSP BSP BSP BSP BSP\ng R/S RCL R/S\nf 0\n\n1 0 7 6 4 6 STO 2 HEX 1 0 f STO\n1 2 1 B ENTER 3 3 ENTER DEC 4 4 5 6 2 g 9\ng R/S f RDN g 0 f C f 1 9 f * / f GSB F f D g 9 g BSP g BSP OCT GTO 1 g R/S 1 7 7 7 1 GTO 0\ng R/S\ng R/S g GSB R/S\n\nSTO 1 RCL 1\n2 9 7 f GTO g DEC RCL R/S f GSB\ng R/S f RDN GSB 0 0 g GSB g GTO 0 GSB 1 f STO g GSB g GTO 1 6 f g HEX f C g R/S 1 8 R/S\n2 CHS STO A HEX 6 f STO\n3 3 8 g *\nHEX 1 8 ENTER HEX 7 f 7\nf 0\ng R/S g GTO 1 g 6 0 f 0 GTO 1 f D\nON HEX 2 9 f BSP 1 5 +\nBIN 1 0 f ENTER 3 g x<>y\nf BSP\n\n1 0 0 0 0 1 1 0 0 0 1 x<>y /\n1 0 0 0 0 0 STO A 1 1 0\ng R/S f RDN g 7 g HEX g 8 g R/S 1 0 0 0 0 0 SST\nSST\nSST SST SST SST SST SST SST SST SST\n\nR/S\ng R/S\ng R/S 1 0 R/S\ng R/S\n\ng R/S 1 0 RCL F 1 1 0 1 1 1\n")
      (codes "0 h\n h.\n2 o\n16363 o\n172675 o\n172675 o\n007 + PRGM\n000 PRGM\n172675 o\nP-0 r-304\nP-0 r-304\n8FA6 h\n4821 d\nError 4\n014 GTO 1 PRGM\nError 0\nError 0\n0 d\nError 3\n36 d\n3D h\n0 h\nError 2\nP-3 r-595\n004 RR PRGM\n30 h\n10 b\n10 b\n10 b\n110000 b\n110 b\n11111 b\n11111 b\n1 b\n1 b\n1 b\n000 PRGM\n1 b\n000 PRGM\n000 PRGM\n110111 b\n")
