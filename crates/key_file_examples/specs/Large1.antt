-- Key files and what they print. Written by scripts/state_key_files.py.
use Rattle.std.specs.Prelude.{codes}
use Rattle.hp_model.specs.WorkedKeyFiles.{Prints}

pub record Large1 : Type 0 where
  pub case_1 : Prints
      (codes "M609\ng 4 0\nHEX 2 1 f STO\nSTO 1 RCL 1\ng R/S f RDN g GTO 0 0 GSB 1 0 g GSB g GTO 1 1 GSB 2 1 g GSB g GTO 2 2 GSB 3 ENTER g GSB g GTO 3 + GSB 4 ENTER g GSB g GTO 4 + R/S ENTER g GSB g R/S 1 F F F F F F F F GSB 0\nGSB 0\n+\nGTO 9 SST\ng R/S\ng R/S R/S\ng R/S\ng R/S R/S\ng R/S\ng R/S R/S\ng R/S\ng R/S\n2 SST 0\n1 0 STO SST 3 g DEC 4 0 0 0 0 0 0 0 STO R/S\n8 8\n1 F F F F F F E 2 g ENTER\n2 f 0\n1 F F F F F F F F ENTER 1 ENTER D g * g ENTER g /\ng R/S f RDN 1 f ENTER 2 g BSP g STO 1 g R/S ENTER SST\nR/S\nSST\nR/S 2 BIN 1 1 1 1 1 1 1 STO SST HEX 1 F F F E F F F F STO R/S\ng R/S +\ng R/S RCL R/S\ng R/S f RDN\ng R/S RCL R/S\nf 0\n")
      (codes "0 h\n0 h\n0 h\n0 h\n3 h\n3 h\n6 h\n6 h\n025 RTN PRGM\n0 h\n000 PRGM\n3 h\n024 ENTER PRGM\n0 h\n000 PRGM\n0 h\n0 h\n40000000 h\n88 h\n3 h\nP-3 r-129\n1 h\n1 h\n1 h\n1 h\nFFFEFFFF .h\n001 + PRGM\nFFFEFFFF .h\n000 PRGM\nFFFEFFFF .h\nP-0 r-135\n")
  pub case_2 : Prints
      (codes "M609\ng R/S f RDN + x<>y g GTO 1 g GTO 0\ng R/S GTO 0\ng R/S\ng R/S GTO . 0 0 2 GSB 0\ng R/S\ng R/S GTO . 0 0 2 GTO 0\ng R/S\ng R/S GTO . 0 0 4 GTO 0\ng R/S\ng R/S B 7 1 1 BSP STO C 2 0\n")
      (codes "0 h\n004 LBL 0 PRGM\n0 h\n004 LBL 0 PRGM\n0 h\n000 PRGM\n0 h\n004 LBL 0 PRGM\n0 h\n004 LBL 0 PRGM\n20 h\n")
  pub case_3 : Prints
      (codes "M609 f ENTER 2\nf STO\n\ng R/S STO R/S +\nCHS 8 / f GTO g 6 2 A 6 x<>y f GTO f * f C f HEX g F\nf HEX\nDEC\nF F F F F F F F F F F F F F F F ENTER 4 1 f 6\nON g R/S f RDN g GTO 9 g 9 g 6 4 GTO 9\ng * g RDN g R/S GTO SST 8 0 0 0 0 0 0 0 0 0 0 0 R/S\n\n4 0 0 0 0 0 0 0 0 ENTER 9 0 C 5 B 1 7 F 4 C 8 9 5 3 6 7 +\n2 ENTER 2 0 0 0 0 0 0 0 0 0 0 0 + f BIN\nf 2\ng R/S f RDN + g GTO 1 g GSB g GSB + g GSB 1 g GTO 1\ng R/S GTO . 0 0 6 GSB 0\ng R/S\ng R/S GTO 0\ng R/S\ng R/S STO 2 HEX 3 F f STO RCL 2\n5 C 9 0 0 8 B 7 D A C 1 1 3 7 2 STO 0 RCL 0\n")
      (codes " h.\n0 h\n0 h\n002 + PRGM\n014 RRCN PRGM\n0 h\n015 DEC PRGM\n035 B? PRGM\n004 GTO 9 PRGM\n0 h\n0 h\n4C895367 .h\n00000010 .b\n00000002 .h\n008 LBL 1 PRGM\nError 4\n006 RTN PRGM\nError 4\n006 RTN PRGM\n00000002 .h\nDAC11372 .h\n")
  pub case_4 : Prints
      (codes "M609 HEX\ng R/S GTO . 0 0 0 g BSP g SST g DEC 0 g R/S 3 F R/S\nDEC 1 6 SST SST\nSST SST\nSST SST\n8 g GSB\ng R/S\ng R/S\n1 0 6 STO SST 3 CHS RCL R/S 0 f STO g HEX\ng 5 1\n2 8 ENTER RCL A 2\n4 4 B 5 1 0 6 0 0 BSP BSP 1 9 ENTER GTO 1 7 0 3 6 8 7 4 4 1 7 7 6 6 4\nRDN\nRDN\n\ng R/S GTO . 0 0 1 g GTO 0\ng 9 f 3 g 6 2 GTO 0 g R/S R/S 1 7 GTO . 0 0 1 GTO SST\ng R/S\ng R/S\nf A\n/ GTO D\ng R/S g B B g GSB\ng C\ng /\ng RDN g SST g 5 5 GTO 0 f / g 4 3 GSB 0 f 6 g - g R/S g GSB R/S\n1 6 ENTER 3 5 1 8 4 3 7 2 0 8 8 8 3 2 +\n")
      (codes "0 h\n0 h\n0 d\n0 d\n0 d\n8 d\n000 PRGM\n8 d\n0 d\n0 d\n2 d\n44177664 .d\n44510619 .d\n0 d\n0 d\n002 LBL 0 PRGM\nError 4\n001 ISZ PRGM\n17 d\n34 d\nError 4\n004 RTN PRGM\n005 RLC PRGM\n006 DBL/ PRGM\n0 d\n72088848 .d\n")
  pub case_5 : Prints
      (codes "M609\nF B F F ENTER 0 f 5\n1 3 1 f GTO F F D F HEX 1 0 f STO RCL R/S HEX 4 f STO STO SST 1 HEX 0 f STO 8 f STO STO SST\n")
      (codes "0 h\nFBFE h\n1 h\n")
  pub case_6 : Prints
      (codes "M609 BIN g STO g STO f STO\ng STO g STO g STO BSP\nf BSP\n\n")
      (codes "0 b\n b.\n b.\n b.\n")
  pub case_7 : Prints
      (codes "M609 8 ENTER / g ENTER\nRDN\nF F E C f BSP F E E 4 x<>y +\n")
      (codes "8 h\n1 h\nFFED h\n")
  pub case_8 : Prints
      (codes "M609 g 4 0\n1 SST 2 x<>y 1 0 f STO g R/S GTO . 0 0 1 0 g F BSP SST\n\ng R/S g R/S f D\nf 2 g 7 f 6 1 / g OCT g OCT 2 g GTO F g R/S STO 1 HEX 1 1 f STO RCL . 7 g 4 4\ng R/S g OCT g BSP f 0 g 6 5 RCL 0 1 0 g R/S 4 1 R/S\n")
      (codes "0 h\n000 PRGM\n000 PRGM\n001 RR PRGM\n0 h C\n0 h C\n")
  pub case_9 : Prints
      (codes "M609 g R/S f RDN g x<>y g R/S R/S\n3 ENTER 2 f F\nF B F F ENTER f BSP 0 ENTER F F F D g / g ENTER\nf 3\nf ENTER 3\nF F F 7 GSB 3 F\nRDN\nRDN\n1 E ENTER 2 9 x<>y g 1\ng A\n4 1 f C\nBIN f 1\nf ENTER 4\n\ng R/S GTO . 0 0 0 g STO R/S g R/S g GSB f ENTER 2 R/S\nf BSP\n")
      (codes "0 h\nC000 h C\nFFFD h C\nFFFD h C\n h. C\nF h C\nFFF7 h C\nFFFD h C\n1E h C\nB h C\n82 h\n10000010 b\n b.\n b.\n10000010 b\n10000010 b\n")
  pub case_10 : Prints
      (codes "M609 HEX 2 f STO\n")
      (codes "0 h\n")
  pub case_11 : Prints
      (codes "M609\nHEX 3 F f STO\nf 1\n4 B STO SST HEX 3 F f STO g HEX 7 F F F F F F F F F F F F F D F RCL R/S\n7 F F F F F F F F F F F F F B F f BSP 8 x<>y g CHS\n")
      (codes "0 h\n0 h\n0 h\n0 h\n0 h\n")
  pub case_12 : Prints
      (codes "M609 f 2\ng RCL\n1 0 STO 0\n1 g BIN 3 CHS 3 3 g 4 3 g STO g STO g STO g STO g STO g STO g STO\nON\n\nHEX C f STO\n2 0 STO 3 HEX 4 f STO RCL 3\n4 g BSP STO . 8 B\nRDN\nRDN\n\n1 f A\nBIN 1 STO 0 RCL 0 1 0 0 0 STO 0 HEX 0 f STO 3 D f STO RCL 0\ng B\ng R/S g R/S D C F D D 5 6 6 2 C 5 C D 6 3 R/S\ng R/S\ng R/S SST SST\nSST\nSST SST\nSST SST SST SST\nSST SST\n\n1 F F F F F F F F F F F F F D 3 g BSP STO 3 g ENTER\nRDN\nRDN\n\n0 1 2 2 0 6 9 4 5 F BSP BSP BSP E\ng R/S g GTO 1 g B g 5 4 g - GTO 1 g DEC 8 g R/S g SST\n1 F F F F F F F F F F F F E F F g 4 3 g STO g STO g STO g STO g STO\n0 /\n\n1 GTO . 0 0 0 0 x<>y\nHEX 2 1 f STO 9 STO . A\nHEX D f STO DEC\nA\n1 0 0 CHS f BSP 2 5 7 CHS g 3\n")
      (codes "0 h\n0 h\n10 h\n h.\n h.\n h.\n033 h\n0 h\nB h\n0 h\n0 h\n0 h\n2 h\n00000018 .h\n0000000C .h\n62C5CD63 .h\n000 PRGM\n62C5CD63 .h\n62C5CD63 .h\n62C5CD63 .h\n62C5CD63 .h\n62C5CD63 .h\n62C5CD63 .h\n00000018 .h\n00000000 .h\n62C5CD63 .h\n62C5CD63 .h\n0122069E .h\n0122069E .h\n h.\nError 0\nError 0\n00000001 .h\n00000009 .h\n9 d\n9 d\n-257 d\n")
  pub case_13 : Prints
      (codes "M609 STO 0 HEX 5 f STO\n")
      (codes "0 h\n")
  pub case_14 : Prints
      (codes "M609 g 6 0\n")
      (codes "0 h\n")
  pub case_15 : Prints
      (codes "M609 B F F F ENTER g B F F F E\nRDN\n8 0 0 1 ENTER 1 0 0 0 x<>y f *\n")
      (codes "FFFE h C\nDFFF h C\n0 h C\n")
  pub case_16 : Prints
      (codes "M609 F DEC\n1 6 5 6 7 ENTER DEC 1 5 f E\nRCL GSB BSP / E\ng R/S f RDN ENTER\nRCL . E 1 1 0 g R/S 6 5 CHS R/S\n")
      (codes "15 d\n-24485 d C\n0 d C\n001 ENTER PRGM\n0 d C\n")
  pub case_17 : Prints
      (codes "M609\nBIN\ng R/S f RDN ENTER STO R/S RCL SST g R/S 1 0 0 0 0 0 0 0 0 0 0 0 0 SST\nSST\nSST\nSST\nSST SST\nSST SST\nSST SST SST\n\nBIN\ng R/S STO . A\nGTO . 0 0 5 SST GTO 1 f ENTER 5 STO A g / BSP\ng R/S g R/S f C g SST SST STO C GTO . 0 0 9 STO . 1 BSP RCL . 0\n\ng C\nf RDN f + f C\nRCL 6 OCT\ng ENTER f . 2 RCL . 1 f B OCT\n3\ng RCL\n0 g GTO 0 2 x<>y\ng R/S g R/S f RDN g R/S 1 0 0 0 1 0 1 0 1 0 1 0 0 1 0 1 R/S\ng 6 +\n")
      (codes "0 h\n0 b\n0 b\n0 b\n0 b\n0 b\n0 b\n0 b\n0 b\n0 b\n0 b\n003 STO .A PRGM\n007 STO A PRGM\n010 RCL .0 PRGM\n010 RCL .0 PRGM\n011 RLC PRGM\n002 RL PRGM\n004 OCT PRGM\n009 OCT PRGM\n010 3 PRGM\n011 > PRGM\n015 x<>y PRGM\n10100101 .b\n10100101 .b\n")
  pub case_18 : Prints
      (codes "M609 F F F 2 7 C 7 1 f /\nF E F F ENTER F F E 0 x<>y g CHS\n4 0 0 0 ENTER 7 7 4 7 x<>y g 1\nC 9 1 D ENTER f BSP E F F F ENTER D F F F g /\nE F F F f C g R/S g D STO . 5 g ENTER g R/S F F B D GSB SST\n2 1 A 8 STO A RCL . 6 R/S\ng R/S\ng R/S 1 0 R/S\n2 B 3 1 ENTER 3 g F *\nHEX HEX 2 0 f STO\n7 D +\n2 / 1 f 1 0 f STO\ng R/S GTO . 0 0 4 GSB 0 f 9 g GSB g GTO 0 GSB 1 f C g GSB g GTO 1 f 6\nGSB 2 8 g GSB g GTO 2\nGSB 3 D g GSB g GTO 3 g B A\ng 2 f + g R/S 0 g GSB\ng R/S g GTO 0 STO . 1 A STO R/S\ng CHS GTO 0 g R/S GSB 3 6 F C 7 E 0 F A 8 0 E 0 D 6 8 1 g SST\ng R/S\ng R/S\ng 5 5\n1 C 2 A A 8 3 A E 6 8 F 4 C C 2 ENTER 1 A ENTER F F F F F F F F F F F F F F D 8 g * g ENTER g / STO 1 RCL . 4\n1 0 0 0 0 0 g STO g STO\n0 /\nf BSP\n\nBIN 1 1 1 1 0 ENTER 1 CHS g F\nBIN 1 0 0 0 0 0 0 0 0 0 STO 2 HEX 5 f STO 1 1 ENTER 0 CHS g F\n")
      (codes "FFF2 h\nFEFF h\n4000 h\n7FFD h C\nError 4\nEFFF h C\n000 PRGM\n10 h\n5660 h G\n5660 h G\n56DD h\n1 h C\n009 B? PRGM\n013 LBL 2 PRGM\n019 A PRGM\n0 h C\n004 STO (i) PRGM\n80E0D681 .h\n030 LSTX PRGM\n80E0D681 .h\n80E0D681 .h\n0 h\n h.\nError 0\n0 h\n0 h\n1111 b\n11 h\n")
  pub case_19 : Prints
      (codes "M609 STO . R/S\n")
      (codes "0 h\n")
  pub case_20 : Prints
      (codes "M609 OCT 1 0 0 0 0 0 g BSP g GTO 0 1 7 7 7 6 1\n\nRDN\nRDN\nRDN\n\n7 g RDN g ENTER 1 7 7 7 0 0 f BSP BIN 1 0 1 1 1 1 1 1 1 1 1 1 1 1 1 1 x<>y g CHS\n")
      (codes "177761 o\n177761 o\n0 o\n0 o\n0 o\n0 o\n11000000 .b\n")
  pub case_21 : Prints
      (codes "M609\n9 E E 7 ENTER f 7 8 0 0\nRDN\nRDN\n\nSST SST\nSST SST\nSST F 7 F F R/S\n2 8 R/S\n4 1 ENTER g GTO F E F F F\n\nf C\n2 g BIN 1 F F 7 F g BSP 1 2 C STO SST D E 1 A STO R/S\ng R/S + + + + + + + +\ng R/S RCL R/S\ng R/S f RDN\ng R/S RCL R/S\nf 0\n\ng A g 4 1 GTO f\nGTO\n3 CHS 1 x<>y\nE F F F ENTER 1 1 g F\nf g\nGSB 1 0 0 ENTER 1 0 f 6\nHEX 0 f STO 5 f STO 1 F STO SST 1 E STO R/S\ng R/S + + + + + + + +\nf RDN\ng R/S RCL R/S\nf 0\n\n1 g A\nB x<>y GTO 2 STO SST STO SST g R/S f RDN 1 g GTO 0\ng R/S GSB 0\ng R/S\ng R/S GTO 2\ng R/S\ng R/S GTO . 0 0 1 GSB 0\ng R/S\ng R/S GTO . 0 0 1 GSB 0\ng R/S\ng R/S\n1 g C 1 C\n0 CHS f STO f HEX\ng R/S g / g . f 6 + g 2 4 7 g 5 5 g / g CHS / g R/S R/S\ng R/S\ng R/S g SST\n\n1 CHS\n0 x<>y\nHEX 0 f STO 8 f STO 4 D STO SST B F STO R/S\ng R/S +\nBSP\ng R/S RCL R/S\nf 0\n\n")
      (codes "0 h\n800 h\n9EE7 h\n0 h\n0 h\n0 h\n0 h\nF7FF h\n28 h\nEFFF h\nEFFF h\nDFFF h C\nDE1A h C\n008 + PRGM\nError 3\n000 PRGM\n0 h C\nP-0 r-304\nP-0 r-304\n0 h C\n0 h C\nFFFD h C\nError 2\n11 h C g\nError 2\n1E h C\n008 + PRGM\n000 PRGM\n1E h C\nP-0 r-609\nP-0 r-609\n4 h C\n002 LBL 0 PRGM\n4 h C\n000 PRGM\nError 4\n000 PRGM\n4 h C\n000 PRGM\n4 h C\n000 PRGM\n4 h C\n1C h\n3 h\n1 h C\n000 PRGM\n1 h C\n1 h C\nF h C\nF h C\nBF h C\n014 + PRGM\n013 LBL 0 PRGM\nBF h C\nP-1 r-595\nP-1 r-595\n")
  pub case_22 : Prints
      (codes "M609\nf 3\n")
      (codes "0 h\n0 h\n")
  pub case_23 : Prints
      (codes "M609 9 R/S R/S C 2\n1 ENTER 2 f 8\nF F D F BSP STO A F F E 8\n\nF F F B 7 F F F x<>y f * STO 3 RCL 3 0 STO SST g HEX 1 9 RCL SST F STO SST 7 STO R/S HEX 1 f STO STO R/S 0 STO SST 0 f GSB HEX 0 f STO 3 f STO RCL SST RCL R/S\n")
      (codes "C2 h\n3 h\nFFE8 h\nFFE8 h\n0 h\n")
  pub case_24 : Prints
      (codes "M609\ng R/S f RDN g GTO 0 + GSB 1 ENTER g GSB g GTO 1 1 R/S x<>y g GSB g R/S 4 0 0 0 GSB 0\ng R/S GTO . 0 0 0 BSP g R/S\ng R/S + g R/S\nSST\nR/S\ng R/S\ng R/S R/S\ng R/S\ng R/S R/S\ng R/S\ng R/S SST\ng R/S\ng R/S\nF 7 F F ENTER 4 1 f E\n2 5 STO 2 RCL 2\nHEX 2 f STO\n")
      (codes "0 h\n1 h\n1 h\n1 h\n4001 h\n1 h\n010 x<>y PRGM\n4001 h\n000 PRGM\n1 h\n010 x<>y PRGM\n8003 h\n011 RTN PRGM\n8003 h\nError 2\n25 h\n1 h\n")
  pub case_25 : Prints
      (codes "M609\n9 f D\n")
      (codes "0 h\n8004 h C\n")
  pub case_26 : Prints
      (codes "M609\ng RCL\nf DEC\n6 3 2 BSP D 1 5 - 7 ENTER 5 ENTER 3 g * g ENTER g 9 g ENTER\nf ENTER 1\nf .\nf 1\ng 6 4\nBIN\nSTO 3\n1 0 0 0 0 0 0 0 0 0 0 ENTER 1 1 1 1 0 1 1 1 1 1 1 1 1 1 1 1 ENTER 1 1 1 0 1 0 1 0 1 1 0 1 0 1 0 0 g 9\n1 1 1 1 1 1 1 0 1 1 1 1 1 1 1 1 ENTER 1 0 0 0 +\n")
      (codes "0 h\n0 h\n0 d\n3 h C\n h. C\n2-16-0000\n3 h C\n3 h C\n11 b C\n11 b C\n00011001 .b C\n00000111 .b\n")
  pub case_27 : Prints
      (codes "M609 HEX 5 f STO\nSTO 0 RCL . 5\n")
      (codes "0 h\n0 h\n")
  pub case_28 : Prints
      (codes "M609 1 F STO SST f GTO\nHEX 3 f STO g 4 1\ng R/S f RDN 5 STO SST\ng GTO F BSP 6 g HEX GTO F g B g R/S 4 GTO 0 BIN 1 1 0 GTO . 0 0 3\n")
      (codes "1F h\n7 h\n002 STO I PRGM\n110 b\n")
  pub case_29 : Prints
      (codes "M609 f 0\n\nF F E 9 x<>y B 1 2\nRDN\nRDN\n\nHEX 2 1 f STO\n0 f CHS\n1 x<>y\nF ENTER 5 g *\nf 2\n4 1 f STO HEX 2 f STO\n")
      (codes "P-0 r-304\nP-0 r-304\nB12 h\n0 h\nFFE9 h\nFFE9 h\nFFE9 h\nError 1\n0 h\n0 h\n0 h\n1 h\n")
  pub case_30 : Prints
      (codes "M609 f BIN\ng R/S f RDN g GTO 0 0 R/S 0 g GSB g R/S 1 1 GSB 0\nf RDN GSB 0 GTO 0 SST\ng R/S\ng R/S\n")
      (codes "0 b\n0 h\n0 h\n002 0 PRGM\n0 h\n")
