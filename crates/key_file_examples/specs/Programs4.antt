-- Key files and what they print. Written by scripts/state_key_files.py.
use Rattle.std.specs.Prelude.{codes}
use Rattle.hp_model.specs.WorkedKeyFiles.{Prints}

pub record Programs4 : Type 0 where
  pub case_91 : Prints
      (codes "HEX 5 f STO f 1\ng R/S g GTO A\n-\nSTO ENTER\n/\ng 4 4\ng 9\ng HEX\ng STO\ng R/S\nHEX 1 0\nSST\ng R/S\n")
      (codes "0 h\n001 LBL A PRGM\n002 - PRGM\n002 - PRGM\n003 / PRGM\n004 SF 4 PRGM\n005 DBLR PRGM\n006 DSZ PRGM\n007 < PRGM\n0 h\n10 h\n h.\n000 PRGM\n")
  pub case_92 : Prints
      (codes "HEX 8 f STO f 2\ng R/S g GTO A\ng f 4\n+\ng 0\nSTO 1\nON\nHEX 0\nGSB A\ng R/S\nR/S\nf 0\nGSB A\n")
      (codes "0 h\n001 LBL A PRGM\n002 SB PRGM\n003 + PRGM\n004 x!=y PRGM\n005 STO 1 PRGM\n0 h\n0 h\n1 h\n000 PRGM\n001 R/S PRGM\nP-1 r-196\n002 GSB A PRGM\n")
  pub case_93 : Prints
      (codes "HEX 2 1 f STO f 2\ng R/S g GTO A\nf RCL\nON\ng R/S\nHEX 1 0 0 0 0 0 0 0 0\nGTO A\nSST\ng SST\nBSP\ng R/S\n")
      (codes "0 h\n001 LBL A PRGM\nError 1\n0 h\n001 LBL A PRGM\n011 0 PRGM\n012 GTO A PRGM\n000 PRGM\n012 GTO A PRGM\n011 0 PRGM\n0 h\n")
  pub case_94 : Prints
      (codes "HEX 1 8 f STO f 1\ng R/S g GTO A\ng 0\ng 1\ng R/S\nHEX 5 6 1 6 0 6\nR/S\nx<>y\n")
      (codes "0 h\n001 LBL A PRGM\n002 x!=y PRGM\n003 x<=y PRGM\n0 h\n561606 h\n561606 h\n0 h\n")
  pub case_95 : Prints
      (codes "HEX 9 f STO f 1\ng R/S g GTO A\ng x<>y\ng x<>y\ng C\ng CHS\nSST\nGSB SST\nf 9\nON\nHEX 1 F F\nGSB A\ng R/S\nGSB A\nf 0\nBSP\nR/S\n")
      (codes "0 h\n001 LBL A PRGM\n002 PSE PRGM\n003 PSE PRGM\n004 RLC PRGM\n005 x=y PRGM\n000 PRGM\n001 GSB I PRGM\n002 RMD PRGM\n0 h\n1FF h\n1FE h C\n000 PRGM\n001 GSB A PRGM\nP-6 r-126\n000 PRGM\n001 R/S PRGM\n")
  pub case_96 : Prints
      (codes "HEX 1 0 f STO f 1\ng R/S g GTO A\n-\ng R/S\nHEX F F F F\nR/S\nx<>y\n")
      (codes "0 h\n001 LBL A PRGM\n002 - PRGM\n0 h\nFFFF h\n0 h C\n0 h C\n")
  pub case_97 : Prints
      (codes "HEX 1 f STO f 2\ng R/S g GTO A\nSTO SST\ng E\ng HEX\nGTO . 0 0 1\nf 2\n-\ng -\ng R/S\nHEX 1\nGSB A\nR/S\nGSB A\n")
      (codes "0 h\n001 LBL A PRGM\n002 STO I PRGM\n003 RLCN PRGM\n004 DSZ PRGM\n001 LBL A PRGM\n002 2'S PRGM\n003 - PRGM\n004 x>0 PRGM\n0 h\n1 h\n1 h G\n1 h G\n1 h G\n")
  pub case_98 : Prints
      (codes "HEX 2 f STO f 2\ng R/S g GTO A\nf ENTER 1\nENTER\ng R/S\nHEX 1\nGTO . 0 0 0\nf 0\ng R/S\nx<>y\n")
      (codes "0 h\n001 LBL A PRGM\n002 WINDOW 1 PRGM\n003 ENTER PRGM\n0 h\n1 h\n1 h\nP-4 r-392\n000 PRGM\n001 x<>y PRGM\n")
  pub case_99 : Prints
      (codes "HEX 3 f STO f 3\ng R/S g GTO A\nf 2\nf B\nSTO 1\ng A\ng 5 4\ng R/S\nHEX 7\nSST\nx<>y\n")
      (codes "0 h\n001 LBL A PRGM\n002 2'S PRGM\n003 SR PRGM\n004 STO 1 PRGM\n005 LJ PRGM\n006 CF 4 PRGM\n0 h\n7 h\n7 h\n0 h\n")
  pub case_100 : Prints
      (codes "HEX 3 F f STO f 3\ng R/S g GTO A\nRCL . 2\nf 3\nf .\nf D\nf f\ng 5 5\nON\ng OCT\nON\nHEX 0\nR/S\nBSP\nSST\ng R/S\nx<>y\nx<>y\n")
      (codes "0 h\n001 LBL A PRGM\n002 RCL .2 PRGM\n003 UNSGN PRGM\n0-63-0000\n004 RR PRGM\n004 RR f PRGM\n005 CF 5 PRGM\n0 h\n0 h\n0 h\n0 h\n0 h\n0 h\n0 h\n002 RCL .2 PRGM\n003 x<>y PRGM\n004 x<>y PRGM\n")
  pub case_101 : Prints
      (codes "HEX 2 1 f STO f 3\ng R/S g GTO A\ng f 4\ng R/S\nHEX 0\nGTO A\nR/S\ng SST\ng SST\ng SST\n")
      (codes "0 h\n001 LBL A PRGM\n002 SB PRGM\n0 h\n0 h\n0 h\n1 h\n1 h\n1 h\n1 h\n")
  pub case_102 : Prints
      (codes "HEX 9 f STO f 1\ng R/S g GTO A\nSTO 1\nf RCL\ng R/S\nHEX F F\nSST\ng SST\nBSP\nf 0\nf 0\ng R/S\n")
      (codes "0 h\n001 LBL A PRGM\n002 STO 1 PRGM\nError 1\n0 h\nFF h\nFF h\nFF h\n0 h\nP-5 r-130\nP-5 r-130\n002 STO 1 PRGM\n")
  pub case_103 : Prints
      (codes "HEX 4 0 f STO f 1\ng R/S g GTO A\ng f 4\ng STO\nSTO F\nSTO . 2\ng R/S\nHEX 7 9 E B 4 C F 6 A 3 2 0 1 2 E\nR/S\nSST\nf 0\n")
      (codes "0 h\n001 LBL A PRGM\n002 SB PRGM\n003 < PRGM\n004 STO F PRGM\n005 STO .2 PRGM\n0 h\n6A32012E .h\n6A32012E .h\n6A32012E .h\nP-2 r-24\n")
  pub case_104 : Prints
      (codes "HEX 1 8 f STO f 2\ng R/S g GTO A\n+\ng RCL\nGTO 4\nf F\nRCL R/S\nf B\nSTO ENTER\nf B\nON\nHEX 1\nGTO . 0 0 0\ng R/S\nR/S\ng SST\nGSB A\n")
      (codes "0 h\n001 LBL A PRGM\n002 + PRGM\n003 > PRGM\n004 GTO 4 PRGM\n005 RRN PRGM\n006 RCL (i) PRGM\n007 SR PRGM\n007 SR PRGM\n008 SR PRGM\n0 h\n1 h\n1 h\n000 PRGM\n001 R/S PRGM\n000 PRGM\n001 GSB A PRGM\n")
  pub case_105 : Prints
      (codes "HEX 4 0 f STO f 2\ng R/S g GTO A\ng BSP\nRDN\nf f\ng 6 4\nSTO . 2\ng x<>y\nRCL . 2\ng 5 4\nON\nHEX C 2 F D 5 6 8 6 3 9 F 3 6 7 E 1\nGTO A\nf 0\nGSB A\n")
      (codes "0 h\n001 LBL A PRGM\n002 CLX PRGM\n003 RDN PRGM\n003 RDN f PRGM\n004 F? 4 PRGM\n005 STO .2 PRGM\n006 PSE PRGM\n007 RCL .2 PRGM\n008 CF 4 PRGM\n0 h\n39F367E1 .h\n39F367E1 .h\nP-6 r-23\n0 h\n")
  pub case_106 : Prints
      (codes "HEX 2 f STO f 2\ng R/S g GTO A\nf ENTER 1\n2\nf 3\nGSB SST\nf 8\ng 1\ng F\ng R/S\nHEX 2\nR/S\nGSB A\nSST\ng R/S\ng SST\n")
      (codes "0 h\n001 LBL A PRGM\n002 WINDOW 1 PRGM\n003 2 PRGM\n004 UNSGN PRGM\n005 GSB I PRGM\n006 MASKR PRGM\n007 x<=y PRGM\n008 RRCN PRGM\n0 h\n2 h\n0 h\nError 4\nError 4\n005 GSB I PRGM\n004 UNSGN PRGM\n")
  pub case_107 : Prints
      (codes "HEX F f STO f 2\ng R/S g GTO A\ng /\nf 6\n2\n+\ng 0\nSTO f\ng E\ng R/S\nHEX 3 F F F\nGSB A\nGSB A\n")
      (codes "0 h\n001 LBL A PRGM\n002 DBL/ PRGM\n003 B? PRGM\n004 2 PRGM\n005 + PRGM\n006 x!=y PRGM\n006 x!=y PRGM\n007 E PRGM\n0 h\n3FFF h\n0 h\nError 0\n")
  pub case_108 : Prints
      (codes "HEX 8 f STO f 2\ng R/S g GTO A\ng CHS\ng GTO C\ng SST\ng B\nGSB SST\n.\nf GSB\ng R/S\nHEX 8 0\nGTO . 0 0 0\ng SST\nf 0\ng SST\nx<>y\nSST\n")
      (codes "0 h\n001 LBL A PRGM\n002 x=y PRGM\n003 LBL C PRGM\n002 x=y PRGM\n003 ASR PRGM\n004 GSB I PRGM\nError 1\n005 x<>(i) PRGM\n0 h\n80 h\n80 h\n80 h\nP-1 r-196\n80 h\n0 h\n0 h\n")
  pub case_109 : Prints
      (codes "HEX 2 0 f STO f 2\ng R/S g GTO A\nSTO f\ng 2\nf 7\nGTO 4\nf 5\ng 0\nf CHS\nON\nf /\nON\nHEX F F F F F F F F\nGSB A\nx<>y\n")
      (codes "0 h\n001 LBL A PRGM\n001 LBL A PRGM\n002 2 PRGM\n003 MASKL PRGM\n004 GTO 4 PRGM\n005 CB PRGM\n006 x!=y PRGM\nError 1\n0 h\n0 h\n0 h\nFFFFFFFF h\nError 4\nFFFFFFFF h\n")
  pub case_110 : Prints
      (codes "HEX 1 F f STO f 1\ng R/S g GTO A\ng 3\nRCL 0\nf RCL\ng 6 4\nON\nHEX 3 F F F F F F F\nSST\nBSP\nBSP\nBSP\ng SST\n")
      (codes "0 h\n001 LBL A PRGM\n002 x>y PRGM\n003 RCL 0 PRGM\nError 1\n004 F? 4 PRGM\n0 h\n3FFFFFFF h\n3FFFFFFF h\n0 h\n0 h\n0 h\n0 h\n")
  pub case_111 : Prints
      (codes "HEX 1 8 f STO f 1\ng R/S g GTO A\nSTO R/S\ng R/S\nHEX 1 B 8 E 3\nSST\nBSP\nBSP\nSST\ng SST\n")
      (codes "0 h\n001 LBL A PRGM\n002 STO (i) PRGM\n0 h\n1B8E3 h\n1B8E3 h\n0 h\n0 h\n0 h\n0 h\n")
  pub case_112 : Prints
      (codes "HEX 1 F f STO f 1\ng R/S g GTO A\nCHS\nf OCT\nGTO 4\ng D\nf CHS\ng f 4\nON\nHEX 7 F F F F F F F\nSST\nf 0\nx<>y\nBSP\nR/S\ng R/S\n")
      (codes "0 h\n001 LBL A PRGM\n002 CHS PRGM\n0 o\n003 GTO 4 PRGM\n004 RRC PRGM\nError 1\n005 SB PRGM\n0 h\n7FFFFFFF h\n1 h\nP-2 r-49\n0 h\n0 h\n0 h\n000 PRGM\n")
  pub case_113 : Prints
      (codes "HEX 1 0 f STO f 1\ng R/S g GTO A\n1\nON\nHEX\ng +\nSST\ng GTO 3\nSTO ENTER\nRCL 0\ng ENTER\ng R/S\nHEX 8\nSST\ng R/S\nR/S\n")
      (codes "0 h\n001 LBL A PRGM\n002 1 PRGM\n0 h\n0 h\n0 h\n1 h\n1 h\n1 h\n0 h\n0 h\n000 PRGM\n002 8 PRGM\n003 LBL A PRGM\n0 h\n1 h\n")
  pub case_114 : Prints
      (codes "HEX 3 0 f STO f 3\ng R/S g GTO A\nSTO 1\ng R/S\nHEX F F F F F F F F F F F F\nGSB A\nx<>y\nf 0\n")
      (codes "0 h\n001 LBL A PRGM\n002 STO 1 PRGM\n0 h\nFFFFFFFF .h\nFFFFFFFF .h\n0 h\nP-5 r-32\n")
  pub case_115 : Prints
      (codes "HEX 1 1 f STO f 2\ng R/S g GTO A\ng 7\nf GSB\nf DEC\nON\nHEX F F F F\nGTO . 0 0 0\ng SST\ng R/S\ng SST\nR/S\nBSP\n")
      (codes "0 h\n001 LBL A PRGM\n002 #B PRGM\n003 x<>(i) PRGM\n0 d\n0 h\nFFFF h\nFFFF h\nFFFF h\n003 x<>(i) PRGM\n002 #B PRGM\n003 R/S PRGM\n002 #B PRGM\n")
  pub case_116 : Prints
      (codes "HEX 8 f STO f 3\ng R/S g GTO A\nSTO 1\ng SST\ng -\ng x<>y\nf 7\ng GTO 3\nRCL F\nON\nHEX 7 4\nR/S\nBSP\nGSB A\n")
      (codes "0 h\n001 LBL A PRGM\n002 STO 1 PRGM\n001 LBL A PRGM\n002 x>0 PRGM\n003 PSE PRGM\n004 MASKL PRGM\n005 LBL 3 PRGM\n006 RCL F PRGM\n0 h\n74 h\n0 h\n0 h\n0 h\n")
  pub case_117 : Prints
      (codes "HEX 2 1 f STO f 3\ng R/S g GTO A\ng 4 4\ng RCL\nf C\n2\nf 9\n+\nf BIN\nR/S\nON\nHEX 1 0 0 0 0 0 0 0 0\nSST\nSST\nGSB A\nGSB A\ng SST\nf 0\n")
      (codes "0 h\n001 LBL A PRGM\n002 SF 4 PRGM\n003 > PRGM\n004 RL PRGM\n005 2 PRGM\n006 RMD PRGM\n007 + PRGM\n0 b\n008 R/S PRGM\n0 h\n00000000 .h\n00000000 .h\n00000000 .h\n1 h\n0 h\n0 h\nP-6 r-42\n")
  pub case_118 : Prints
      (codes "HEX 4 0 f STO f 2\ng R/S g GTO A\nf GTO\nf RCL\nf ENTER 0\ng R/S\nHEX 1\nR/S\ng SST\nBSP\n")
      (codes "0 h\n001 LBL A PRGM\n002 x<>I PRGM\nError 1\n003 WINDOW 0 PRGM\n0 h\n1 h\n1 h\n1 h\n0 h\n")
  pub case_119 : Prints
      (codes "HEX 9 f STO f 3\ng R/S g GTO A\ng OCT\ng R/S\nHEX 1 E 2\nGSB A\nSST\nR/S\nGSB A\nGSB A\ng R/S\n")
      (codes "0 h\n001 LBL A PRGM\n002 SQRT PRGM\n0 h\n1E2 h\n15 h C\n15 h C\n4 h C\n2 h\n1 h C\n000 PRGM\n")
  pub case_120 : Prints
      (codes "HEX 3 f STO f 1\ng R/S g GTO A\ng 4 4\nON\nHEX 4\nGTO . 0 0 0\ng R/S\ng SST\nx<>y\n")
      (codes "0 h\n001 LBL A PRGM\n002 SF 4 PRGM\n0 h\n4 h\n4 h\n000 PRGM\n002 SF 4 PRGM\n003 x<>y PRGM\n")
