-- Key files and what they print. Written by scripts/state_key_files.py.
use Rattle.std.specs.Prelude.{codes}
use Rattle.hp_model.specs.WorkedKeyFiles.{Prints}

pub record Programs2 : Type 0 where
  pub case_31 : Prints
      (codes "HEX 2 1 f STO f 1\ng R/S g GTO A\nf 9\n/\nSTO f\ng 5 5\nSTO ENTER\nf 1\n1\nGTO 4\nON\nHEX 0\nSST\nGSB A\nGSB A\n")
      (codes "0 h\n001 LBL A PRGM\n002 RMD PRGM\n003 / PRGM\n003 / PRGM\n005 5 PRGM\n005 5 PRGM\n006 1'S PRGM\n007 1 PRGM\n008 GTO 4 PRGM\n0 h\n0 h\nError 4\nError 0\nError 0\n")
  pub case_32 : Prints
      (codes "HEX 3 0 f STO f 1\ng R/S g GTO A\nf 0\nGTO 4\nf 1\nf 1\nSTO . 2\nf 5\nON\nHEX 8 0 0 0 0 0 0 0 0 0 0 0\nR/S\ng R/S\nf 0\n")
      (codes "0 h\n001 LBL A PRGM\nP-6 r-32\n002 GTO 4 PRGM\n003 1'S PRGM\n004 1'S PRGM\n005 STO .2 PRGM\n006 CB PRGM\n0 h\n00000000 .h\nError 2\n006 CB PRGM\nP-1 r-32\n")
  pub case_33 : Prints
      (codes "HEX 2 1 f STO f 3\ng R/S g GTO A\ng 1\n/\nRCL . 2\nf 1\nf OCT\ng R/S\nHEX B\nGTO A\nBSP\nBSP\n")
      (codes "0 h\n001 LBL A PRGM\n002 x<=y PRGM\n003 / PRGM\n004 RCL .2 PRGM\n005 1'S PRGM\n0 o\n0 h\nB h\nB h\n0 h\n0 h\n")
  pub case_34 : Prints
      (codes "HEX 4 f STO f 3\ng R/S g GTO A\nf 7\ng 4 4\ng R/S\nHEX F\nGTO . 0 0 0\nf 0\n")
      (codes "0 h\n001 LBL A PRGM\n002 MASKL PRGM\n003 SF 4 PRGM\n0 h\nF h\nF h\nP-4 r-392\n")
  pub case_35 : Prints
      (codes "HEX 7 f STO f 2\ng R/S g GTO A\nx<>y\ng .\nRDN\nSST\nON\nHEX 1 C\nGTO . 0 0 0\ng SST\nGSB A\n")
      (codes "0 h\n001 LBL A PRGM\n002 x<>y PRGM\n003 x!=0 PRGM\n004 RDN PRGM\n000 PRGM\n0 h\n1C h\n1C h\n1C h\n0 h\n")
  pub case_36 : Prints
      (codes "HEX 7 f STO f 2\ng R/S g GTO A\nf 7\nf 9\nf DEC\n1\nSTO . 2\n2\ng A\ng GTO B\nON\nHEX 0\nGSB A\nBSP\n")
      (codes "0 h\n001 LBL A PRGM\n002 MASKL PRGM\n003 RMD PRGM\n0 d\n004 1 PRGM\n005 STO .2 PRGM\n006 2 PRGM\n007 LJ PRGM\n008 LBL B PRGM\n0 h\n0 h\nError 0\n0 h\n")
  pub case_37 : Prints
      (codes "HEX 7 f STO f 1\ng R/S g GTO A\ng DEC\ng F\ng R/S\nHEX 1\nGTO . 0 0 0\nGSB A\n")
      (codes "0 h\n001 LBL A PRGM\n002 ISZ PRGM\n003 RRCN PRGM\n0 h\n1 h\n1 h\n0 h\n")
  pub case_38 : Prints
      (codes "HEX 4 f STO f 2\ng R/S g GTO A\ng D\ng 5 4\nf x<>y\nRDN\nSTO SST\nf DEC\nON\nHEX 8\nGTO A\ng R/S\nR/S\ng R/S\nR/S\nSST\n")
      (codes "0 h\n001 LBL A PRGM\n002 RRC PRGM\n003 CF 4 PRGM\n004 CLREG PRGM\n005 RDN PRGM\n006 STO I PRGM\n0 d\n0 h\n8 h\n8 h\n001 LBL A PRGM\n002 R/S PRGM\n8 h\n8 h\n4 h\n")
  pub case_39 : Prints
      (codes "HEX F f STO f 2\ng R/S g GTO A\ng OCT\nRDN\nSTO 1\ng 5 4\nf .\ng R/S\nHEX 0\nGTO A\nf 0\ng R/S\nBSP\nSST\n")
      (codes "0 h\n001 LBL A PRGM\n002 SQRT PRGM\n003 RDN PRGM\n004 STO 1 PRGM\n005 CF 4 PRGM\n2-15-0000\n0 h\n0 h\n0 h\nP-2 r-98\n001 LBL A PRGM\n000 PRGM\n001 SQRT PRGM\n")
  pub case_40 : Prints
      (codes "HEX 3 F f STO f 1\ng R/S g GTO A\nf C\ng 9\nGTO C\nRCL 1\nf ENTER 1\nf 5\nf +\ng 2\ng 5 5\ng R/S\nHEX 2 3 D 8 4 2 1 C D 9 3 F F 9 5 C\nR/S\ng R/S\nBSP\nf 0\n")
      (codes "0 h\n001 LBL A PRGM\n002 RL PRGM\n003 DBLR PRGM\n004 GTO C PRGM\n005 RCL 1 PRGM\n006 WINDOW 1 PRGM\n007 CB PRGM\n008 OR PRGM\n009 x<0 PRGM\n010 CF 5 PRGM\n0 h\nD93FF95C .h\nD93FF95C .h\n000 PRGM\n000 PRGM\nP-4 r-23\n")
  pub case_41 : Prints
      (codes "HEX 3 0 f STO f 3\ng R/S g GTO A\nf RCL\ng R/S\nHEX 2 4 1 D 4 F 7 D F E 0 A\nSST\ng R/S\ng SST\nR/S\n")
      (codes "0 h\n001 LBL A PRGM\nError 1\n0 h\n4F7DFE0A .h\n4F7DFE0A .h\n000 PRGM\n001 LBL A PRGM\n002 R/S PRGM\n")
  pub case_42 : Prints
      (codes "HEX C f STO f 3\ng R/S g GTO A\nf -\ng 0\nRCL F\nf CHS\nSTO SST\nBSP\ng 9\ng R/S\nHEX 9 8 5\nGTO A\nGSB A\ng R/S\nf 0\nR/S\n")
      (codes "0 h\n001 LBL A PRGM\n002 NOT PRGM\n003 x!=y PRGM\n004 RCL F PRGM\nError 1\n005 STO I PRGM\n004 RCL F PRGM\n005 DBLR PRGM\n0 h\n985 h\n985 h\nError 0\n005 DBLR PRGM\nP-2 r-130\n006 R/S PRGM\n")
  pub case_43 : Prints
      (codes "HEX 1 0 f STO f 2\ng R/S g GTO A\nHEX\nf GSB\ng 4 0\nSTO 0\ng +\nf ENTER 1\nENTER\ng R/S\nHEX 1\nR/S\nGSB A\nSST\nR/S\nSST\n")
      (codes "0 h\n001 LBL A PRGM\n002 HEX PRGM\n003 x<>(i) PRGM\n004 SF 0 PRGM\n005 STO 0 PRGM\n006 x=0 PRGM\n007 WINDOW 1 PRGM\n008 ENTER PRGM\n0 h\n1 h\n1 h\n0 h\n0 h\n0 h\n0 h\n")
  pub case_44 : Prints
      (codes "HEX 3 0 f STO f 2\ng R/S g GTO A\nSTO f\nf OCT\ng 5 5\nf B\n-\ng SST\nRCL SST\ng C\nON\nHEX 8 0 0 0 0 0 0 0 0 0 0 0\nR/S\nx<>y\n")
      (codes "0 h\n001 LBL A PRGM\n001 LBL A PRGM\n001 LBL A PRGM\n002 CF 5 PRGM\n003 SR PRGM\n004 - PRGM\n003 SR PRGM\n004 RCL I PRGM\n005 RLC PRGM\n0 h\n00000000 .h\n0 h\n0 h\n")
  pub case_45 : Prints
      (codes "HEX 1 0 f STO f 2\ng R/S g GTO A\nf 9\n2\nf E\ng A\nf x<>y\nBSP\n+\nf 3\nRCL R/S\ng R/S\nHEX 7 F F F\nSST\nGSB A\ng SST\n")
      (codes "0 h\n001 LBL A PRGM\n002 RMD PRGM\n003 2 PRGM\n004 RLN PRGM\n005 LJ PRGM\n006 CLREG PRGM\n005 LJ PRGM\n006 + PRGM\n007 UNSGN PRGM\n008 RCL (i) PRGM\n0 h\n7FFF h\n0 h\nError 0\n0 h\n")
  pub case_46 : Prints
      (codes "HEX 4 0 f STO f 1\ng R/S g GTO A\nf C\nf ENTER 0\nSTO F\nON\nHEX 8 0 0 0 0 0 0 0 0 0 0 0 0 0 0 0\nGTO . 0 0 0\ng SST\nx<>y\nf 0\nGSB A\n")
      (codes "0 h\n001 LBL A PRGM\n002 RL PRGM\n003 WINDOW 0 PRGM\n004 STO F PRGM\n0 h\n00000000 .h\n00000000 .h\n00000000 .h\n0 h\nP-3 r-24\n0 h\n")
  pub case_47 : Prints
      (codes "HEX 8 f STO f 1\ng R/S g GTO A\ng 5 5\ng f 4\n/\ng 7\nON\nHEX 7 F\nGTO A\ng SST\ng R/S\nSST\nf 0\nf 0\n")
      (codes "0 h\n001 LBL A PRGM\n002 CF 5 PRGM\n003 SB PRGM\n004 / PRGM\n005 #B PRGM\n0 h\n7F h\n7F h\n7F h\n000 PRGM\n001 LBL A PRGM\nP-2 r-196\nP-2 r-196\n")
  pub case_48 : Prints
      (codes "HEX 1 8 f STO f 1\ng R/S g GTO A\ng -\ng R/S\nHEX 3 8 1 F 0 7\nGTO . 0 0 0\ng SST\ng SST\nGSB A\nx<>y\nGSB A\n")
      (codes "0 h\n001 LBL A PRGM\n002 x>0 PRGM\n0 h\n381F07 h\n381F07 h\n381F07 h\n381F07 h\n381F07 h\n0 h\n0 h\n")
  pub case_49 : Prints
      (codes "HEX 2 1 f STO f 1\ng R/S g GTO A\nON\ng C\ng C\ng 6 4\nRCL F\nRCL F\ng .\ng x<>y\nGSB B\ng R/S\nHEX 1 5 4 0 A 6 C 4 A\nGTO . 0 0 0\nBSP\nR/S\n")
      (codes "0 h\n001 LBL A PRGM\n0 h\n0 h\n0 h\n0 h\n0 h\n0 h\n0 h\n0 h\nError 4\n001 LBL A PRGM\n011 A PRGM\n000 PRGM\n000 PRGM\n001 R/S PRGM\n")
  pub case_50 : Prints
      (codes "HEX 1 f STO f 2\ng R/S g GTO A\nDEC\nRCL . 2\ng A\nf STO\ng R/S\nHEX 1\nGTO A\nx<>y\nR/S\nx<>y\ng R/S\n")
      (codes "0 h\n001 LBL A PRGM\n002 DEC PRGM\n003 RCL .2 PRGM\n004 LJ PRGM\n005 WSIZE PRGM\n0 h\n1 h\n1 h\n0 h\n0 d\n0 d\n000 PRGM\n")
  pub case_51 : Prints
      (codes "HEX 1 0 f STO f 2\ng R/S g GTO A\ng f 4\ng BSP\ng RCL\nf F\nf *\ng R/S\nHEX 0\nSST\nGSB A\nR/S\nx<>y\ng SST\n")
      (codes "0 h\n001 LBL A PRGM\n002 SB PRGM\n003 CLX PRGM\n004 > PRGM\n005 RRN PRGM\n006 AND PRGM\n0 h\n0 h\n0 h\n0 h\n0 h\n0 h\n0 h\n")
  pub case_52 : Prints
      (codes "HEX 2 0 f STO f 3\ng R/S g GTO A\nf ENTER 0\ng R/S\nHEX 1\nSST\nf 0\nBSP\ng SST\nBSP\nR/S\n")
      (codes "0 h\n001 LBL A PRGM\n002 WINDOW 0 PRGM\n0 h\n1 h\n1 h\nP-5 r-49\n0 h\n0 h\n0 h\n0 h\n")
  pub case_53 : Prints
      (codes "HEX 3 F f STO f 1\ng R/S g GTO A\nf STO\ng HEX\nf 3\nf *\nf 6\nRCL . 2\nBIN\ng f 4\nf CHS\ng R/S\nHEX 1\nGTO A\nGSB A\ng R/S\ng R/S\nGSB A\n")
      (codes "0 h\n001 LBL A PRGM\n002 WSIZE PRGM\n003 DSZ PRGM\n004 UNSGN PRGM\n005 AND PRGM\n006 B? PRGM\n007 RCL .2 PRGM\n008 BIN PRGM\n009 SB PRGM\nError 1\n0 h\n1 h\n1 h\n1 b\n000 PRGM\n1 b\n1 b\n")
  pub case_54 : Prints
      (codes "HEX 3 0 f STO f 2\ng R/S g GTO A\n/\nRDN\ng 5 4\nSTO 1\nf A\nf x<>y\nENTER\nHEX\ng R/S\nHEX 7 F F F F F F F F F F F\nR/S\nGSB A\nBSP\n")
      (codes "0 h\n001 LBL A PRGM\n002 / PRGM\n003 RDN PRGM\n004 CF 4 PRGM\n005 STO 1 PRGM\n006 SL PRGM\n007 CLREG PRGM\n008 ENTER PRGM\n009 HEX PRGM\n0 h\nFFFFFFFF .h\nFFFFFFFF .h\n0 h\n0 h\n")
  pub case_55 : Prints
      (codes "HEX 3 0 f STO f 1\ng R/S g GTO A\ng *\ng 0\nf BSP\nSTO f\ng .\ng BIN\nGTO 4\ng ENTER\nf 9\ng R/S\nHEX 1 C\nSST\nf 0\nBSP\nBSP\ng R/S\n")
      (codes "0 h\n001 LBL A PRGM\n002 DBL* PRGM\n003 x!=y PRGM\n003 x!=y PRGM\n003 x!=y PRGM\nError 1\nError 1\n004 GTO 4 PRGM\n005 LSTX PRGM\n006 RMD PRGM\n0 h\n1C h\n0 h\nP-1 r-32\n0 h\n0 h\n000 PRGM\n")
  pub case_56 : Prints
      (codes "HEX 7 f STO f 3\ng R/S g GTO A\ng CHS\n1\nf OCT\ng RCL\nRCL R/S\n/\ng /\nf BIN\nON\nHEX 1\nSST\nGSB A\ng SST\n")
      (codes "0 h\n001 LBL A PRGM\n002 x=y PRGM\n003 1 PRGM\n0 o\n004 > PRGM\n005 RCL (i) PRGM\n006 / PRGM\n007 DBL/ PRGM\n0 b\n0 h\n1 h\n0 h\nError 0\n0 h\n")
  pub case_57 : Prints
      (codes "HEX 2 0 f STO f 1\ng R/S g GTO A\nf *\nGSB SST\ng *\ng 2\nBIN\nGTO 4\nSST\ng F\ng R/S\nHEX 0\nGTO . 0 0 0\nSST\n")
      (codes "0 h\n001 LBL A PRGM\n002 AND PRGM\n003 GSB I PRGM\n004 DBL* PRGM\n005 x<0 PRGM\n006 BIN PRGM\n007 GTO 4 PRGM\n000 PRGM\n001 RRCN PRGM\n0 h\n0 h\n0 h\n0 h\n")
  pub case_58 : Prints
      (codes "HEX F f STO f 2\ng R/S g GTO A\nSTO 1\ng +\ng 4 0\nENTER\nf 8\nON\nHEX 0\nGTO . 0 0 0\nR/S\nf 0\ng SST\nx<>y\n")
      (codes "0 h\n001 LBL A PRGM\n002 STO 1 PRGM\n003 x=0 PRGM\n004 SF 0 PRGM\n005 ENTER PRGM\n006 MASKR PRGM\n0 h\n0 h\n0 h\n0 h\nP-1 r-98\n0 h\n0 h\n")
  pub case_59 : Prints
      (codes "HEX 1 1 f STO f 1\ng R/S g GTO A\nf 4\nf STO\ng R/S\nHEX 1\nGTO A\ng R/S\n")
      (codes "0 h\n001 LBL A PRGM\n002 SB PRGM\n003 WSIZE PRGM\n0 h\n1 h\n1 h\n001 LBL A PRGM\n")
  pub case_60 : Prints
      (codes "HEX 5 f STO f 2\ng R/S g GTO A\nRCL 0\nOCT\nRDN\nON\nHEX 5\nGTO A\nSST\nSST\nBSP\ng R/S\n")
      (codes "0 h\n001 LBL A PRGM\n002 RCL 0 PRGM\n003 OCT PRGM\n004 RDN PRGM\n0 h\n5 h\n5 h\n5 h\n0 h\n0 h\n003 OCT PRGM\n")
