-- Key files and what they print. Written by scripts/state_key_files.py.
use Rattle.std.specs.Prelude.{codes}
use Rattle.hp_model.specs.WorkedKeyFiles.{Prints}

pub record Programs3 : Type 0 where
  pub case_61 : Prints
      (codes "HEX 5 f STO f 3\ng R/S g GTO A\nR/S\nSTO 0\nf 6\nSTO f\n-\ng R/S\nHEX 4\nGSB A\nR/S\n")
      (codes "0 h\n001 LBL A PRGM\n002 R/S PRGM\n003 STO 0 PRGM\n004 B? PRGM\n004 B? PRGM\n004 B? PRGM\n0 h\n4 h\n4 h\n0 h\n")
  pub case_62 : Prints
      (codes "HEX 2 1 f STO f 1\ng R/S g GTO A\nf OCT\ng GTO C\ng CHS\nf *\nON\nHEX F F F F F F F F\nSST\nSST\nx<>y\ng R/S\nR/S\n")
      (codes "0 h\n001 LBL A PRGM\n0 o\n002 LBL C PRGM\n003 x=y PRGM\n004 AND PRGM\n0 h\nFFFFFFFF h\n0 h\n0 h\n0 h\n000 PRGM\n001 R/S PRGM\n")
  pub case_63 : Prints
      (codes "HEX 3 F f STO f 1\ng R/S g GTO A\nf ENTER 1\ng 9\nON\nHEX 7 F F F F F F F F F F F F F F F\nSST\nBSP\ng R/S\nSST\nSST\nR/S\n")
      (codes "0 h\n001 LBL A PRGM\n002 WINDOW 1 PRGM\n003 DBLR PRGM\n0 h\nFFFFFFFF .h\nError 0\n0 h\n003 DBLR PRGM\n000 PRGM\n001 LBL A PRGM\n002 R/S PRGM\n")
  pub case_64 : Prints
      (codes "HEX 3 F f STO f 2\ng R/S g GTO A\nf 9\ng R/S\nHEX 4 0 0 0 0 0 0 0 0 0 0 0 0 0 0 0\nGSB A\nR/S\nf 0\nGSB A\n")
      (codes "0 h\n001 LBL A PRGM\n002 RMD PRGM\n0 h\n00000000 .h\n0 h\nError 0\nP-5 r-24\nError 0\n")
  pub case_65 : Prints
      (codes "HEX 1 8 f STO f 2\ng R/S g GTO A\n/\nf D\ng 4 3\ng CHS\ng 4 0\nSTO 1\nf BSP\nf C\ng 4 0\nON\nHEX 8 0 0 0 0 0\nGTO A\nSST\nx<>y\ng SST\n")
      (codes "0 h\n001 LBL A PRGM\n002 / PRGM\n003 RR PRGM\n004 SF 3 PRGM\n005 x=y PRGM\n006 SF 0 PRGM\n007 STO 1 PRGM\n007 STO 1 PRGM\n008 RL PRGM\n009 SF 0 PRGM\n0 h\n800000 h\n800000 h\n800000 h\n0 h\n0 h\n")
  pub case_66 : Prints
      (codes "HEX 2 1 f STO f 1\ng R/S g GTO A\ng .\nRDN\nR/S\ng RCL\ng f 4\nON\nHEX A\nR/S\nBSP\ng R/S\nGSB A\n")
      (codes "0 h\n001 LBL A PRGM\n002 x!=0 PRGM\n003 RDN PRGM\n004 R/S PRGM\n005 > PRGM\n006 SB PRGM\n0 h\nA h\n400 h\n0 h\n000 PRGM\n001 GSB A PRGM\n")
  pub case_67 : Prints
      (codes "HEX 1 F f STO f 2\ng R/S g GTO A\nf /\ng 5 5\ng E\nDEC\nf OCT\ng 1\ng +\nf CHS\ng R/S\nHEX 0\nGTO A\ng R/S\nx<>y\ng SST\nx<>y\nBSP\n")
      (codes "0 h\n001 LBL A PRGM\n002 XOR PRGM\n003 CF 5 PRGM\n004 RLCN PRGM\n005 DEC PRGM\n0 o\n006 x<=y PRGM\n007 x=0 PRGM\nError 1\n0 h\n0 h\n0 h\n001 LBL A PRGM\n002 x<>y PRGM\n001 LBL A PRGM\n002 x<>y PRGM\n001 LBL A PRGM\n")
  pub case_68 : Prints
      (codes "HEX 1 f STO f 1\ng R/S g GTO A\ng 4 0\nON\nHEX 1\nSST\ng SST\n")
      (codes "0 h\n001 LBL A PRGM\n002 SF 0 PRGM\n0 h\n1 h\n1 h\n1 h\n")
  pub case_69 : Prints
      (codes "HEX 3 f STO f 1\ng R/S g GTO A\nGSB SST\nf .\nCHS\nRCL SST\nf C\nf DEC\nf F\nGSB SST\ng HEX\ng R/S\nHEX 1\nSST\ng SST\ng R/S\nf 0\nBSP\n")
      (codes "0 h\n001 LBL A PRGM\n002 GSB I PRGM\n1-03-0000\n003 CHS PRGM\n004 RCL I PRGM\n005 RL PRGM\n0 d\n006 RRN PRGM\n007 GSB I PRGM\n008 DSZ PRGM\n0 h\n1 h\n1 h\n1 h\n008 DSZ PRGM\nP-6 r-378\n007 GSB I PRGM\n")
  pub case_70 : Prints
      (codes "HEX 1 8 f STO f 3\ng R/S g GTO A\nGSB B\nOCT\ng R/S\nHEX 5\nR/S\nR/S\n")
      (codes "0 h\n001 LBL A PRGM\n002 GSB B PRGM\n003 OCT PRGM\n0 h\n5 h\n5 o\nError 4\n")
  pub case_71 : Prints
      (codes "HEX F f STO f 3\ng R/S g GTO A\nON\nf /\ng 4 4\nf F\nf -\nCHS\nSTO R/S\ng 5 4\ng R/S\nHEX 0\nR/S\ng R/S\nSST\nBSP\n")
      (codes "0 h\n001 LBL A PRGM\n0 h\n0 h\n0 h C\n0 h C\n7FFF h C\n1 h C G\n1 h C G\n1 h G\n001 LBL A PRGM\n003 0 PRGM\n004 R/S PRGM\n1 h G\n1 h G\n0 h G\n")
  pub case_72 : Prints
      (codes "HEX 3 f STO f 1\ng R/S g GTO A\ng GSB\ng B\nf B\ng GTO B\ng f 4\nRCL R/S\ng E\ng R/S\nHEX 0\nSST\nSST\nx<>y\nSST\nx<>y\n")
      (codes "0 h\n001 LBL A PRGM\n002 RTN PRGM\n003 ASR PRGM\n004 SR PRGM\n005 LBL B PRGM\n006 SB PRGM\n007 RCL (i) PRGM\n008 RLCN PRGM\n0 h\n0 h\n0 h\n0 h\n0 h\n0 h\n0 h\n")
  pub case_73 : Prints
      (codes "HEX 1 f STO f 1\ng R/S g GTO A\nCHS\nSTO F\ng B\nON\nHEX 0\nSST\nSST\ng SST\nSST\n")
      (codes "0 h\n001 LBL A PRGM\n002 CHS PRGM\n003 STO F PRGM\n004 ASR PRGM\n0 h\n0 h\n0 h\n0 h\n0 h\n0 h\n")
  pub case_74 : Prints
      (codes "HEX 7 f STO f 1\ng R/S g GTO A\ng 3\nGTO C\nRCL F\nSTO f\nSST\nSTO . 2\nSTO ENTER\ng R/S\nHEX 4\nR/S\nSST\nR/S\ng SST\nGSB A\n")
      (codes "0 h\n001 LBL A PRGM\n002 x>y PRGM\n003 GTO C PRGM\n004 RCL F PRGM\n004 RCL F PRGM\n005 STO I PRGM\n006 STO .2 PRGM\n006 STO .2 PRGM\n0 h\n4 h\n4 h\n4 h\nError 4\n4 h\nError 4\n")
  pub case_75 : Prints
      (codes "HEX 1 8 f STO f 3\ng R/S g GTO A\nf ENTER 1\nf 1\nf A\ng 1\nf OCT\nf HEX\ng F\ng R/S\nHEX 0\nGTO A\nBSP\nx<>y\ng R/S\n")
      (codes "0 h\n001 LBL A PRGM\n002 WINDOW 1 PRGM\n003 1'S PRGM\n004 SL PRGM\n005 x<=y PRGM\n0 o\n0 h\n006 RRCN PRGM\n0 h\n0 h\n0 h\n0 h\n0 h\n001 LBL A PRGM\n")
  pub case_76 : Prints
      (codes "HEX F f STO f 1\ng R/S g GTO A\nf ENTER 1\nGTO 4\nf x<>y\ng OCT\ng R/S\nHEX 3 F F F\nGTO . 0 0 0\nGSB A\nf 0\nGSB A\nx<>y\n")
      (codes "0 h\n001 LBL A PRGM\n002 WINDOW 1 PRGM\n003 GTO 4 PRGM\n004 CLREG PRGM\n005 SQRT PRGM\n0 h\n3FFF h\n3FFF h\nError 4\nP-2 r-98\nError 4\n0 h\n")
  pub case_77 : Prints
      (codes "HEX 4 f STO f 2\ng R/S g GTO A\nSST\ng R/S\nHEX 1\nGSB A\nx<>y\nBSP\nf 0\nGSB A\nx<>y\n")
      (codes "0 h\n001 LBL A PRGM\n000 PRGM\n0 h\n1 h\n1 h\n0 h\n0 h\nP-6 r-392\n0 h\n1 h\n")
  pub case_78 : Prints
      (codes "HEX 1 8 f STO f 1\ng R/S g GTO A\nf BIN\ng R/S\nHEX 8 0 0 0 0 0\nR/S\ng SST\n")
      (codes "0 h\n001 LBL A PRGM\n0 b\n0 h\n800000 h\n800000 h\n800000 h\n")
  pub case_79 : Prints
      (codes "HEX 7 f STO f 3\ng R/S g GTO A\nHEX\nBIN\ng 9\nSST\nSTO R/S\ng R/S\nHEX 7 F\nGTO . 0 0 0\nSST\nR/S\nR/S\n")
      (codes "0 h\n001 LBL A PRGM\n002 HEX PRGM\n003 BIN PRGM\n004 DBLR PRGM\n000 PRGM\n001 STO (i) PRGM\n0 h\n7F h\n7F h\n7F h\n0 b\nError 0\n")
  pub case_80 : Prints
      (codes "HEX 4 0 f STO f 3\ng R/S g GTO A\nGTO SST\nf ENTER 1\ng 2\ng 4 3\nf 5\nSTO 0\nf +\nSTO f\ng 8\nON\nHEX 4 6 8 E A B 7 B F C 6 3 7 8 0 8\nGTO A\nR/S\nGSB A\nBSP\n")
      (codes "0 h\n001 LBL A PRGM\n002 GTO I PRGM\n003 WINDOW 1 PRGM\n004 x<0 PRGM\n005 SF 3 PRGM\n006 CB PRGM\n007 STO 0 PRGM\n008 OR PRGM\n008 OR PRGM\n009 8 PRGM\n0 h\nFC637808 .h\nFC637808 .h\nError 4\nError 4\n0 h\n")
  pub case_81 : Prints
      (codes "HEX 2 f STO f 2\ng R/S g GTO A\nON\nf OCT\ng 7\nON\nHEX 0\nGTO . 0 0 0\nSST\nSST\n")
      (codes "0 h\n001 LBL A PRGM\n0 h\n0 o\n0 h\n0 h\n0 h\n0 h\n0 h\n0 h\n")
  pub case_82 : Prints
      (codes "HEX 8 f STO f 1\ng R/S g GTO A\ng 4 0\nf HEX\nHEX\ng GTO 3\ng /\ng R/S\nHEX 7 F\nGTO . 0 0 0\ng SST\nf 0\nGSB A\n")
      (codes "0 h\n001 LBL A PRGM\n002 SF 0 PRGM\n0 h\n003 HEX PRGM\n004 LBL 3 PRGM\n005 DBL/ PRGM\n0 h\n7F h\n7F h\n7F h\nP-2 r-196\n0 h\n")
  pub case_83 : Prints
      (codes "HEX 4 f STO f 1\ng R/S g GTO A\nf STO\ng RDN\nGTO 4\ng GSB\ng 4 3\ng R/S\nHEX 2\nSST\nR/S\nSST\nBSP\ng R/S\n")
      (codes "0 h\n001 LBL A PRGM\n002 WSIZE PRGM\n003 RUP PRGM\n004 GTO 4 PRGM\n005 RTN PRGM\n006 SF 3 PRGM\n0 h\n2 h\n2 h\n2 h\n2 h\n0 h\n002 WSIZE PRGM\n")
  pub case_84 : Prints
      (codes "HEX 1 F f STO f 3\ng R/S g GTO A\ng STO\nf 4\ng +\nf STO\ng R/S\nHEX 1 0\nGSB A\ng SST\nBSP\nf 0\n")
      (codes "0 h\n001 LBL A PRGM\n002 < PRGM\n003 SB PRGM\n004 x=0 PRGM\n005 WSIZE PRGM\n0 h\n10 h\n10000 h\n10000 h\n0 h\nP-2 r-49\n")
  pub case_85 : Prints
      (codes "HEX 9 f STO f 2\ng R/S g GTO A\ng GTO B\ng R/S\nHEX 6\nSST\ng R/S\nGSB A\nBSP\nx<>y\n")
      (codes "0 h\n001 LBL A PRGM\n002 LBL B PRGM\n0 h\n6 h\n6 h\n000 PRGM\n001 GSB A PRGM\n000 PRGM\n001 x<>y PRGM\n")
  pub case_86 : Prints
      (codes "HEX 9 f STO f 3\ng R/S g GTO A\n.\nf 6\nf 7\nf GSB\ng +\nON\nHEX 1 0 0\nGTO A\nR/S\nGSB A\nSST\nf 0\n")
      (codes "0 h\n001 LBL A PRGM\nError 1\n002 B? PRGM\n003 MASKL PRGM\n004 x<>(i) PRGM\n005 x=0 PRGM\n0 h\n100 h\n100 h\nError 2\nError 2\nError 2\nP-2 r-130\n")
  pub case_87 : Prints
      (codes "HEX C f STO f 2\ng R/S g GTO A\n2\nf 5\ng 8\ng x<>y\nSST\ng F\ng R/S\nHEX 3\nGSB A\nx<>y\nSST\nR/S\nGSB A\ng R/S\n")
      (codes "0 h\n001 LBL A PRGM\n002 2 PRGM\n003 CB PRGM\n004 ABS PRGM\n005 PSE PRGM\n000 PRGM\n001 RRCN PRGM\n0 h\n3 h\n3 h\n0 h\n3 h\n3 h\n3 h\n000 PRGM\n")
  pub case_88 : Prints
      (codes "HEX 2 0 f STO f 3\ng R/S g GTO A\nf BSP\nf E\ng 7\nf GTO\nCHS\nON\nHEX 7 F F F F F F F\nGSB A\nGSB A\n")
      (codes "0 h\n001 LBL A PRGM\n001 LBL A PRGM\n002 RLN PRGM\n003 #B PRGM\n004 x<>I PRGM\n005 CHS PRGM\n0 h\n7FFFFFFF h\nError 2\nError 2\n")
  pub case_89 : Prints
      (codes "HEX 2 8 f STO f 3\ng R/S g GTO A\nf E\nx<>y\ng R/S\nHEX F F F F F F F F F F\nGSB A\nf 0\nf 0\nSST\nR/S\n")
      (codes "0 h\n001 LBL A PRGM\n002 RLN PRGM\n003 x<>y PRGM\n0 h\nFFFFFFFF .h\nError 2\nP-4 r-39\nP-4 r-39\nError 2\nError 2\n")
  pub case_90 : Prints
      (codes "HEX 3 f STO f 3\ng R/S g GTO A\ng OCT\ng 0\nf D\ng RCL\ng R/S\nHEX 1\nGTO . 0 0 0\nf 0\n")
      (codes "0 h\n001 LBL A PRGM\n002 SQRT PRGM\n003 x!=y PRGM\n004 RR PRGM\n005 > PRGM\n0 h\n1 h\n1 h\nP-2 r-392\n")
