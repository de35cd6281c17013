-- Key files and what they print. Written by scripts/state_key_files.py.
use Rattle.std.specs.Prelude.{codes}
use Rattle.hp_model.specs.WorkedKeyFiles.{Prints}

pub record Large2 : Type 0 where
  pub case_31 : Prints
      (codes "M609 0 STO SST 2 STO SST F F F 7 DEC 0 f STO g DEC f GTO 4 0 0 2 5 5 5 4 5 9 0 4 6 4 4 4 3 7 5 CHS ENTER 4 5 f 5\n6 CHS ENTER f BSP 6 5 CHS ENTER 5 0 g 9 g ENTER 3 GTO . 0 0 0\n0 x<>y\nHEX g RCL\ng R/S f RDN g GTO 0 + GSB 1 x<>y g GSB g GTO 1 1 GSB 2 x<>y g GSB g GTO 2 + R/S + g GSB g R/S 8 0 0 0 0 0 0 0 0 0 0 0 0 0 0 0 GSB 0\nf RDN\nON R/S\ng R/S\ng R/S\ng 7\n4 0 STO . F 0\n/ 3 BSP\nDEC RCL 1\n0 1 1 2 0 1 BSP BSP BSP\n")
      (codes "-46444375 .d\n3 d\n3 d\n3 h\n00000004 .h\n00000004 .h\n00000005 .h\n014 + PRGM\n00000005 .h\n3 h\n0 h\n0 h\n0 d\n11 d\n")
  pub case_32 : Prints
      (codes "M609 E 6 f GTO F F E F f GTO g HEX RCL R/S\nGSB SST\ng R/S\ng R/S B F F F GTO . 0 0 1 R/S\nOCT 1 0 0 ENTER DEC 2 f 8 4 7 CHS f BSP 6 9 *\n7 6 1 7 0 BSP BSP\n6 4 g 4 3 g STO g STO g STO g STO g STO g STO g STO GTO . 9 9 9\nf BSP\n4 8 CHS ENTER GTO 0 RCL 0\nRDN\nRDN\nRDN\n\ng RCL g R/S GTO . 0 0 0\ng SST\n\nON GTO BSP f .\n0 1 RCL 1 2 8 f BSP 2 CHS g 1\n4 6 1 5 CHS ENTER f BSP 0 ENTER 6 g * RDN g 9\n5 1 2 ENTER 7 ENTER 5 CHS g * 3 0 2 STO SST 3 0 5 9 0 CHS STO R/S\ng R/S +\ng R/S RCL R/S\ng R/S BSP\ng R/S RCL R/S\nf 0\n\ng R/S STO . 8 x<>y f - f STO g R/S 1 0 2 4 g GSB R/S\n\ng R/S - RCL 6 g D\nBIN g R/S 0 GTO 0 0 GSB 0\ng R/S\ng R/S R/S\nHEX\n1 g 7\nSTO 3 g R/S f RDN f GSB g B 9 g B ON 0 SST\nSST SST\nSST\nSST SST SST\n\n1 SST\ng R/S\ng R/S 1 R/S\n0 ENTER 1 f 4 1 SST\n3\n")
      (codes "Error 3\nError 4\n000 PRGM\nBFFF h\n-3243 d\n76 d\nError 4\n d.\n0 d\n-48 d\n7664 d\n-3243 d\n-3243 d\n000 PRGM\n000 PRGM\n000 PRGM\n2-16-1000\n-282 d\nError 0\n-30590 d\n001 + PRGM\nError 3\n000 PRGM\n0 d\nP-0 r-304\nP-0 r-304\n0 d\n0 d\n003 RRC PRGM\nError 4\n004 BIN PRGM\n0 b\n0 h\n1 h\n0 h\n0 h\n0 h\n0 h\n0 h\n0 h\n002 ASR PRGM\n1 h C\n1 h C\n1 h C\n")
  pub case_33 : Prints
      (codes "M609\nf 0\n0 GTO 4 HEX 2\nRDN\nRDN\n\nHEX 5 f STO\n1 F f GTO 1 7 RCL SST STO SST\ng 4 3 f ENTER 7 .\n\n\n1 f BSP 1 x<>y f *\n\n1 B f ENTER 1\nGTO . 0 0 0\n\n\ng 6 7\n")
      (codes "0 h\nP-0 r-304\n2 h\n0 h\n0 h\n0 h\n0 h\n1F h\nError 1\nError 1\nError 1\n11 h\n11 h\n h.\n h.\n h.\n h.\n h.\n")
  pub case_34 : Prints
      (codes "M609 F F D 1 g 8\n")
      (codes "2F h\n")
  pub case_35 : Prints
      (codes "M609 1 0 STO 1\n1 3 0 STO SST STO SST 2 A ENTER 1 g E 6 2 1 0 4 9 2 0 6 0 2 1 5 1 4 5 0 BSP BSP\n4 1 ENTER 3 1 g 1\ng R/S BSP\nDEC BSP BSP GTO . 0 0 1 RCL . 9\ng R/S\n1 4 6 E 1 4 1 BSP\n7 F F F 9 6 9 6 -\n")
      (codes "10 h\n62 h\n31 h\n000 PRGM\n001 RCL .9 PRGM\n31 h\n146 h\nEBCA h C\n")
  pub case_36 : Prints
      (codes "M609 3 ENTER 4 1 f 6 g BIN\nHEX 3 f STO 3 ENTER f BSP 3 ENTER 2 g * RDN g 9\n0 GTO . 9 9 9 2\n7 f ENTER 1 0\n\nf BSP\n\nHEX 0 f STO 4 f STO\nf 1\nRCL STO SST C 8\n4 7 f /\n1 STO 0 OCT 7 f BSP 6 g 3\n")
      (codes "Error 1\nError 0\n2 h\n0 h\n0 h\n0 h\n0 h\n0 h\n0 h\nC h\nC h\n7 o\n")
  pub case_37 : Prints
      (codes "M609 2 f BSP\n2 STO . 5 HEX 1 F f STO RCL . 5 B 9 f ENTER f . * 2 4 DEC\nf 2\n1 2 CHS ENTER 3 3 5 5 4 4 3 3 CHS g 3\n1 7 ENTER 6 7 1 0 8 8 6 4 ENTER 5 CHS g *\n")
      (codes "2 h\n36 d\n36 d\n-33554433 d\n-1 d\n")
  pub case_38 : Prints
      (codes "M609 1 D GTO 0 g ENTER\nHEX 3 C f STO f ENTER 0\ng 4 3 f ENTER 7 f RDN\n4 E STO SST 0 STO R/S\ng R/S + + + + + + +\ng R/S RCL R/S\ng R/S BSP BSP BSP BSP BSP BSP BSP\ng R/S RCL R/S\nf 0\n\n2 C\ng R/S f RDN f 6 ENTER HEX g ENTER 0 g R/S g SST\ng OCT F F F F F F F F F F F F F D 0 ENTER 1 ENTER 3 D g * RDN g / g ENTER\ng R/S f RDN g GSB + f ENTER 2 g GTO 0 1 g R/S BSP\n2\nR/S\n\nDEC 6 5 5 3 7 CHS g STO g STO g STO g STO g STO g STO f .\nf BSP\n\n1 4 4 1 1 5 1 8 8 0 7 5 8 5 5 8 7 2 g 7 6 7 1 0 8 8 6 5 CHS ENTER 6 3 CHS g E\ng STO\n2\n\n2 6 7 9 2 4 1 7 2 5 8 2 2 0 3 2 5 3 x<>y g GTO 8 RCL R/S\nRDN\nRDN\n3 4 3 5 9 7 3 8 3 6 9 CHS ENTER 5 9 f 6 STO . D 6 1 f STO\nHEX 7 f STO 5 C GSB SST RCL SST\n\n5 F g OCT\n0 f R/S 2\nGSB SST\nSTO 2\ng STO\n6 RCL D 5 E\nRDN\nRDN\nRDN\n\n")
      (codes "0 h\n0 h\n h.\n00000000 .h\n007 + PRGM\n00000000 .h\n000 PRGM\n00000000 .h\nP-0 r-81\nP-0 r-81\n0000002C .h\n0000002C .h\n0000003D .h C\n00000000 .h C\n00000002 .h C\n00000001 .h C\n00000001 .h C\n2-60-1000\n- d. C\n- d. C\nError 2\n- d. C\n2 d C\n2 d C\n0 d C\n-63 d C\n58220325 .d C\n47108607 .d C\n4E h C\n4E h C\nError 0\n02 h C\nError 4\n02 h C\n h. C\n5E h C\n00 h C\n06 h C\n02 h C\n02 h C\n")
  pub case_39 : Prints
      (codes "M609\ng 4 2\n")
      (codes "0 h\n0 h\n")
  pub case_40 : Prints
      (codes "M609 g RCL 1 BSP 1 1 1 f STO 3 ON\nHEX E F 3 E ENTER 1 0 f 7 0 RCL . F g ENTER\nRDN\nRDN\nRDN\n\ng R/S GTO . 0 0 0 RCL R/S x<>y\ng GTO E 0 1 RCL SST g R/S SST\nR/S\nGSB E\ng R/S\ng R/S\nBIN GTO . / BSP\n")
      (codes "3 h\n10 h\n0 h\n0 h\nFFFF h\nFFFF h\n002 x<>y PRGM\n0 h\n0 h\n0 h\n000 PRGM\n0 h\n0 b\n")
  pub case_41 : Prints
      (codes "M609\nf DEC\n6 GSB R/S 4 1 STO SST g DEC f GTO RCL R/S\nHEX 3 D f STO\n")
      (codes "0 h\n0 d\nError 3\n642 h\n")
  pub case_42 : Prints
      (codes "M609 SST\nSST\nSST SST\nSST SST\nSST SST\nSST\nSST\nSST\n\ng STO\ng R/S f RDN g GTO 0 1 f ENTER 2 1 g BSP g R/S 1\nA D 2 A 2 2 BSP BSP\n0 CHS\nf 2\nf A\nf 3\n")
      (codes "0 h\n0 h\n0 h\n0 h\n0 h\n0 h\n0 h\n0 h\n0 h\n h.\n1 h\n1A h\nFE60 h\nFE60 h\nFCC0 h C\nFCC0 h C\n")
  pub case_43 : Prints
      (codes "M609 DEC SST SST\n")
      (codes "0 d\n")
  pub case_44 : Prints
      (codes "M609\ng OCT\nF F D 9 ENTER f BSP BIN 1 0 1 0 1 0 1 0 1 1 1 0 0 0 ENTER 1 1 0 0 0 1 0 1 0 0 0 0 1 0 1 g 9\n")
      (codes "0 h\n0 h\n01001010 .b\n")
  pub case_45 : Prints
      (codes "M609 GSB 0 8 g GSB R/S\nGTO SST\n1 D f BSP 3 D x<>y f * f 3 g GTO g\n7 5 6 B ENTER f BSP 3 ENTER OCT 1 2 g * g ENTER\n1 7 7 5 7 7 ENTER 1 0 1 f 7\n1 7 ENTER 0 f 8 2 0 ENTER f BSP 7 7 7 7 7 ENTER 1 7 7 7 0 6 g 9 4 0 0 0 0 ENTER BIN 1 1 1 0 0 1 0 1 0 1 0 1 f 9\ng STO g STO g STO\ng R/S GTO . 0 0 0 g STO R/S g R/S g GSB f ENTER 2 R/S\nf BSP\ng +\nSTO 0 RCL 0\n")
      (codes "8 h\nError 4\n8 h\n12 o\nError 2\n10101100 .b\n b.\n10101100 .b\n10101100 .b\n10101100 .b\n10101100 .b\n")
  pub case_46 : Prints
      (codes "M609 1 2 F f GTO STO SST\nf - STO 3 RCL . D\n1 0 0 ENTER 8 0 ENTER 3 1 g 9 g ENTER\n")
      (codes "0 h\n0 h\n0 h\n")
  pub case_47 : Prints
      (codes "M609\nDEC 5 1 2 BSP STO D 1 7\nRDN\n\n\n3 2 2 6 0 CHS ENTER RCL F 2 CHS\nRDN\n\nSTO 0 HEX 4 0 f STO RCL 0\n\nBIN A HEX F B F F F F F F F F F F F F F F ENTER 2 8 B B C 0 5 A 6 0 3 6 0 5 7 A g * f g SST\nF F F E F F F F F F F F F F F F ENTER 2 CHS f F DEC g STO g STO g STO g STO g STO g STO g STO g STO\ng R/S GTO . 0 0 0 g STO R/S g R/S g GSB f ENTER 2 R/S\nf BSP\nGTO + ON 5 f\n\n7 4 7 7 1 7 3 9 5 0 4 3 9 7 2 9 3 4 8 GTO . 0 0 2\n5 2 3 3 9 0 5 1 3 4 5 8 4 8 7 9 4 8 0 f C\nR/S\ng R/S\n\ng R/S f 2\n2 9 1 0 7 9 8 4 1 6 9 8 8 9 4 6 0 6 0 CHS STO 0 HEX F f STO\nOCT\ng GSB\ng R/S\ng R/S 4 2 STO 0 RCL 0\n\nHEX 4 4 ENTER 2 g E\n4 0 0 0 STO 2 F CHS f STO RCL 2 7 B F F BSP STO F F\n\n\ng 4 3 g STO g STO g STO g STO g STO g STO g STO SST\ng R/S\nGTO . 0 0 3 GTO . 0 0 3\n8\ng R/S\n\n0 g SST 2 3 0 7 F ENTER 1 0 f 6\ng 5 R/S\n")
      (codes "0 h\n17 d\n51 d\n51 d\n51 d\n-2 d\n0 d\n0 d\n0 h\n0 h\n967F27E9 .h\n- d. C\n-44177665 .d C\n-44177665 .d C\n5 d C f\n5 d C f\n39729348 .d C\n-39792656 .d\n-39792656 .d\n000 PRGM\n000 PRGM\n-39792656 .d\n4174 h\n40564 o\n40564 o\n000 PRGM\n42 o\n42 o\n110 h\nF h\nF h\nF h\n h.\n002 R/S PRGM\nError 4\n003 8 PRGM\n h.\n h.\nError 2\n0010 h\n")
  pub case_48 : Prints
      (codes "M609 0 1 1 7 6 BSP BSP\nSTO 3 HEX 2 0 f STO RCL 3\nF F F F F F B F g SST 1 2 GTO . 0 0 0\n1 0 0 0 0 0 0 CHS f B\nf .\nHEX 4 g BSP F F F F F F F 3 ENTER F g 1\n")
      (codes "11 h\n0 h\n12 h\n7F800000 h\n2-32-0000\nF h\n")
  pub case_49 : Prints
      (codes "M609 1 3 1 STO SST STO R/S F F 7 F STO R/S\nSTO 3\n")
      (codes "Error 3\nFF7F h\n")
  pub case_50 : Prints
      (codes "M609 F 7 8 5 8 D F A x<>y f /\n")
      (codes "F785 h\n")
  pub case_51 : Prints
      (codes "M609 f RCL\n\nB F F F ENTER 0 f E\nD F F F ENTER 3 F f F\nE 3 C C GTO . 0 0 0\n")
      (codes "Error 1\nError 1\nBFFF h\nError 2\nE3CC h\n")
  pub case_52 : Prints
      (codes "M609 1 2 F STO SST g DEC\nSTO + R/S 0\n5 1\n2 1 1 D ENTER f BSP 1 ENTER F F F 8 g * RDN g * g ENTER\n6 F 3 4 5 1 7 6 8 5 4 1 1 3 1\n0 /\nHEX 5 f STO\n\nENTER x<>y BIN C 8\n1 1 1 1 SST\nSST\nSST\n\nSST\nSST SST\n1 1 1 0 1 CHS\ng STO g STO\n2\nf BSP\n1 0 1 0 g GSB R/S\n\n")
      (codes "12F h\n0 h\n51 h\nFFF8 h\n6F34 h\n0 h C\n0 h C\n0 h C\n0 b C\n1111 b C\n1111 b C\n1111 b C\n1111 b C\n1111 b C\n1111 b C\n11 b C\n b. C\n b. C\n b. C\n1010 b C\n1010 b C\n")
  pub case_53 : Prints
      (codes "M609 9 1 7 5 2 6 5 2 4 BSP BSP GSB SST\ng GSB\n3 R/S f 1\nF E F F BSP RCL 8 4\nRDN\n\nHEX\n1 1 ENTER 1 1 f F\ng R/S f RDN g GTO 0 0 R/S 0 g GSB g R/S DEC 3 0 CHS GSB 0\nGTO . 9 9 9\nSST\ng R/S\ng R/S R/S\ng R/S\ng R/S\nOCT 1 0 5 f ENTER 1 0\n1 ENTER g 5 0 RCL R/S\nRDN\n\ng R/S f RDN g GTO 0 0 R/S x<>y g GSB g R/S HEX A F F 8 GSB 0\ng +\nGSB 0\nGTO 0\nSST\ng R/S\ng R/S SST\ng R/S\ng R/S SST\ng R/S\ng R/S\n1 2 E STO SST STO SST\nF F C C ENTER F F E 3 ENTER F F F E g /\ng R/S g SST SST\nSTO 3 GTO . 0 0 6 RCL 4 g SST GTO . 0 0 6 GSB F\nON\nf A\ng RCL STO 2\ng RCL 6 0 1 6 5 6 1 6 3 4 A 1 F 0 BSP A\n\nf C\n9 B 3 8 ENTER f BSP D F F F ENTER 3 3 5 F g /\nf g 0\n2 C BSP f D 7\n1 1 5 5 6 0 6 1 E BSP BSP BSP\nDEC 3 2 7 6 7 CHS ENTER 1 7 f 7 g OCT\n")
      (codes "Error 4\n91 h\n3 h\n4 h\n0 h\n0 h\n0 h\nError 2\n0 d\nError 4\n0 d\n005 RTN PRGM\n0 d\n000 PRGM\n0 d\n0 o\n0 o\n1 o\n1 o\n0 h\n0 h\n0 h\n0 h\n0 h\n002 0 PRGM\n0 h\n003 R/S PRGM\n0 h\n004 x<>y PRGM\n0 h\n12E h\nError 0\n004 x<>y PRGM\n007 GSB F PRGM\nFFFE h\nFFFC h C\nFFFC h C\n601A h C\n601A h C\nC034 h\nError 0\n335F h\n7 h\n7 h\n4 d C\n")
  pub case_54 : Prints
      (codes "M609\n2 9 7 9 STO 1 HEX 2 0 f STO\nf ENTER ENTER\n")
      (codes "0 h\n2979 h\n2979 h\n")
  pub case_55 : Prints
      (codes "M609\n3 f BSP 2 x<>y\nBIN 1 0 0 0 1 ENTER 1 0 0 0 0 0 0 f E\n")
      (codes "0 h\n0 h\nError 2\n")
  pub case_56 : Prints
      (codes "M609\n1 f GTO RCL R/S 0 f CHS\n3 x<>y\ng RCL 2 GTO . 9 9 9 1 g RDN\nGSB 5\n2 STO + 0\n1 0 0 0 ENTER f - 2 F\nRDN\n\nRDN\nF F E B g STO g STO g STO g STO g STO\n\ng GSB\n\nF D F F ENTER f BSP 3 C ENTER 3 D A 8 g / g GSB R/S\n1 0 GTO . 0 0 0 F F F F GTO . 0 0 0\n\nHEX F f STO\n")
      (codes "0 h\nError 1\n0 h\n3 h\nError 4\n20 h\n2F h\nDFEF h\nDFEF h\n2010 h\n h.\n h.\nFFEB h\nFFEB h\nFD h C\nFFFF h C\nFFFF h C\n7FFF h C\n")
  pub case_57 : Prints
      (codes "M609 f 0\n")
      (codes "P-0 r-304\n")
  pub case_58 : Prints
      (codes "M609 3 STO + 1 x<>y\n")
      (codes "0 h\n")
  pub case_59 : Prints
      (codes "M609 5 x<>y STO C RCL SST\n\n2 f STO\n")
      (codes "0 h\n0 h\n0 h\n")
  pub case_60 : Prints
      (codes "M609\n1 2 F STO SST HEX 6 f STO RCL R/S g HEX 2 F HEX 5 f STO g DEC 1 9 ENTER 1 1 ENTER 1 1 g 9\n")
      (codes "0 h\nError 0\n")
