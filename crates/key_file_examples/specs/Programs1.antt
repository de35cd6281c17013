-- Key files and what they print. Written by scripts/state_key_files.py.
use Rattle.std.specs.Prelude.{codes}
use Rattle.hp_model.specs.WorkedKeyFiles.{Prints}

pub record Programs1 : Type 0 where
  pub case_1 : Prints
      (codes "HEX 5 f STO f 1\ng R/S g GTO A\ng GTO C\nf -\nRCL F\ng f 4\ng OCT\nGSB B\ng R/S\nHEX 9\nGTO . 0 0 0\nf 0\nR/S\nf 0\n")
      (codes "0 h\n001 LBL A PRGM\n002 LBL C PRGM\n003 NOT PRGM\n004 RCL F PRGM\n005 SB PRGM\n006 SQRT PRGM\n007 GSB B PRGM\n0 h\n9 h\n9 h\nP-0 r-196\nError 0\nP-0 r-196\n")
  pub case_2 : Prints
      (codes "HEX 2 8 f STO f 2\ng R/S g GTO A\n2\ng DEC\nf 5\nf 2\ng GTO B\nON\nHEX 4 8 7 D 1 D 9 9 C 9\nSST\nf 0\nx<>y\ng SST\nSST\nGSB A\n")
      (codes "0 h\n001 LBL A PRGM\n002 2 PRGM\n003 ISZ PRGM\n004 CB PRGM\n005 2'S PRGM\n006 LBL B PRGM\n0 h\n7D1D99C9 .h\n7D1D99C9 .h\nP-1 r-39\n0 h\n0 h\n0 h\n0 h\n")
  pub case_3 : Prints
      (codes "HEX 9 f STO f 1\ng R/S g GTO A\nRCL 0\nSTO 1\nf F\nf HEX\ng R/S\nHEX 1 D B\nSST\ng SST\n")
      (codes "0 h\n001 LBL A PRGM\n002 RCL 0 PRGM\n003 STO 1 PRGM\n004 RRN PRGM\n0 h\n0 h\n1DB h\nError 2\n1DB h\n")
  pub case_4 : Prints
      (codes "HEX 2 8 f STO f 3\ng R/S g GTO A\ng GSB\nf C\ng 0\nSTO 1\ng R/S\nHEX 8 0 0 0 0 0 0 0 0 0\nGSB A\nx<>y\ng R/S\ng R/S\ng SST\n")
      (codes "0 h\n001 LBL A PRGM\n002 RTN PRGM\n003 RL PRGM\n004 x!=y PRGM\n005 STO 1 PRGM\n0 h\n00000000 .h\n00000000 .h\n0 h\n000 PRGM\n0 h\n0 h\n")
  pub case_5 : Prints
      (codes "HEX 9 f STO f 1\ng R/S g GTO A\nf HEX\ng RDN\nf HEX\ng GTO 3\n.\ng 1\nSTO 1\ng f 4\nRDN\ng R/S\nHEX 1 F F\nGTO A\nGSB A\n")
      (codes "0 h\n001 LBL A PRGM\n0 h\n002 RUP PRGM\n0 h\n003 LBL 3 PRGM\nError 1\n004 x<=y PRGM\n005 STO 1 PRGM\n006 SB PRGM\n007 RDN PRGM\n0 h\n1FF h\n1FF h\n0 h\n")
  pub case_6 : Prints
      (codes "HEX 1 f STO f 3\ng R/S g GTO A\ng DEC\nSTO 0\ng BSP\nRDN\ng GTO 3\ng R/S\nHEX 1\nSST\nx<>y\nR/S\ng SST\n")
      (codes "0 h\n001 LBL A PRGM\n002 ISZ PRGM\n003 STO 0 PRGM\n004 CLX PRGM\n005 RDN PRGM\n006 LBL 3 PRGM\n0 h\n1 h\n1 h\n0 h\n0 h\n0 h\n")
  pub case_7 : Prints
      (codes "HEX 1 0 f STO f 1\ng R/S g GTO A\nf ENTER 1\ng F\nf C\ng A\nON\nHEX B 4 4 4\nGTO . 0 0 0\nGSB A\nR/S\nR/S\nBSP\nSST\n")
      (codes "0 h\n001 LBL A PRGM\n002 WINDOW 1 PRGM\n003 RRCN PRGM\n004 RL PRGM\n005 LJ PRGM\n0 h\nB444 h\nB444 h\nError 2\nError 2\nError 2\n0 h\n0 h\n")
  pub case_8 : Prints
      (codes "HEX 5 f STO f 1\ng R/S g GTO A\nf D\ng R/S\nHEX 0\nGSB A\nGSB A\ng SST\ng R/S\ng SST\n")
      (codes "0 h\n001 LBL A PRGM\n002 RR PRGM\n0 h\n0 h\n0 h\n0 h\n0 h\n002 RR PRGM\n001 LBL A PRGM\n")
  pub case_9 : Prints
      (codes "HEX 2 8 f STO f 3\ng R/S g GTO A\nf E\nf 2\nf /\ng R/S\nHEX 7 F F F F F F F F F\nGTO A\nx<>y\nGSB A\nGSB A\ng R/S\n")
      (codes "0 h\n001 LBL A PRGM\n002 RLN PRGM\n003 2'S PRGM\n004 XOR PRGM\n0 h\nFFFFFFFF .h\nFFFFFFFF .h\n0 h\nFFFFFFFF .h\nError 2\n002 RLN PRGM\n")
  pub case_10 : Prints
      (codes "HEX 1 0 f STO f 3\ng R/S g GTO A\nf D\ng 4 3\ng OCT\ng CHS\nSTO ENTER\ng 4 3\nSTO f\nf C\ng R/S\nHEX F F F F\nR/S\nx<>y\nGSB A\nx<>y\nSST\n")
      (codes "0 h\n001 LBL A PRGM\n002 RR PRGM\n003 SF 3 PRGM\n004 SQRT PRGM\n005 x=y PRGM\n005 x=y PRGM\n006 SF 3 PRGM\n006 SF 3 PRGM\n007 STO C PRGM\n0 h\nFFFF h\nFFFF h\n0 h\n0000 h\nFFFF h\nFFFF h\n")
  pub case_11 : Prints
      (codes "HEX 1 f STO f 2\ng R/S g GTO A\ng HEX\ng D\nGSB B\nON\nHEX 1\nR/S\nR/S\nf 0\nGSB A\ng R/S\nSST\n")
      (codes "0 h\n001 LBL A PRGM\n002 DSZ PRGM\n003 RRC PRGM\n004 GSB B PRGM\n0 h\n1 h\nError 4\nError 4\nP-3 r-392\nError 4\n004 GSB B PRGM\n000 PRGM\n")
  pub case_12 : Prints
      (codes "HEX F f STO f 3\ng R/S g GTO A\nf x<>y\nSTO 1\ng *\nRDN\nDEC\nf HEX\ng R/S\nHEX A\nGTO A\nBSP\n")
      (codes "0 h\n001 LBL A PRGM\n002 CLREG PRGM\n003 STO 1 PRGM\n004 DBL* PRGM\n005 RDN PRGM\n006 DEC PRGM\n0 h\n0 h\nA h\nA h\n0 h\n")
  pub case_13 : Prints
      (codes "HEX 4 f STO f 1\ng R/S g GTO A\nRCL 0\nENTER\nSTO ENTER\nSTO ENTER\nON\nHEX 1\nGSB A\nf 0\nSST\nSST\n")
      (codes "0 h\n001 LBL A PRGM\n002 RCL 0 PRGM\n003 ENTER PRGM\n003 ENTER PRGM\n003 ENTER PRGM\n0 h\n1 h\n0 h\nP-4 r-392\n0 h\n0 h\n")
  pub case_14 : Prints
      (codes "HEX 1 F f STO f 2\ng R/S g GTO A\nf 6\nf 4\nf OCT\ng GTO 3\nON\nHEX 3 F F F F F F F\nSST\nR/S\nx<>y\nSST\nx<>y\n")
      (codes "0 h\n001 LBL A PRGM\n002 B? PRGM\n003 SB PRGM\n0 o\n004 LBL 3 PRGM\n0 h\n3FFFFFFF h\n3FFFFFFF h\n3FFFFFFF h\n0 h\n0 h\n3FFFFFFF h\n")
  pub case_15 : Prints
      (codes "HEX 3 F f STO f 1\ng R/S g GTO A\ng C\nf D\nENTER\ng F\nf 8\ng R/S\nHEX 1\nSST\nf 0\nSST\nx<>y\nx<>y\n")
      (codes "0 h\n001 LBL A PRGM\n002 RLC PRGM\n003 RR PRGM\n004 ENTER PRGM\n005 RRCN PRGM\n006 MASKR PRGM\n0 h\n1 h\n1 h\nP-1 r-24\n1 h\n0 h\n1 h\n")
  pub case_16 : Prints
      (codes "HEX 3 f STO f 2\ng R/S g GTO A\nSTO F\ng R/S\nHEX 1\nGTO . 0 0 0\nx<>y\n")
      (codes "0 h\n001 LBL A PRGM\n002 STO F PRGM\n0 h\n1 h\n1 h\n0 h\n")
  pub case_17 : Prints
      (codes "HEX 1 F f STO f 1\ng R/S g GTO A\ng GTO 3\ng E\nSTO f\nf +\nf BSP\ng 6 4\nGTO C\nf B\ng R/S\nHEX 6 5 2 3 C 8 F E\nGTO . 0 0 0\ng R/S\nBSP\ng R/S\n")
      (codes "0 h\n001 LBL A PRGM\n002 LBL 3 PRGM\n003 RLCN PRGM\n003 RLCN PRGM\n003 RLCN PRGM\n003 RLCN PRGM\n004 F? 4 PRGM\n005 GTO C PRGM\n006 SR PRGM\n0 h\n6523C8FE h\n6523C8FE h\n000 PRGM\n000 PRGM\n6523C8FE h\n")
  pub case_18 : Prints
      (codes "HEX 1 F f STO f 1\ng R/S g GTO A\nf 8\nf 6\nf 8\nf OCT\nf 2\ng R/S\nHEX 0\nR/S\ng SST\n")
      (codes "0 h\n001 LBL A PRGM\n002 MASKR PRGM\n003 B? PRGM\n004 MASKR PRGM\n0 o\n005 2'S PRGM\n0 h\n0 h\n0 h\n0 h\n")
  pub case_19 : Prints
      (codes "HEX 3 F f STO f 2\ng R/S g GTO A\ng x<>y\nf E\nRCL SST\nf C\nENTER\n1\ng 0\ng /\nBSP\ng R/S\nHEX 3 F F F F F F F F F F F F F F F\nR/S\nBSP\nf 0\n")
      (codes "0 h\n001 LBL A PRGM\n002 PSE PRGM\n003 RLN PRGM\n004 RCL I PRGM\n005 RL PRGM\n006 ENTER PRGM\n007 1 PRGM\n008 x!=y PRGM\n009 DBL/ PRGM\n008 x!=y PRGM\n0 h\nFFFFFFFF .h\nFFFFFFFF .h\n0 h\nP-6 r-23\n")
  pub case_20 : Prints
      (codes "HEX 1 f STO f 2\ng R/S g GTO A\nSTO . 2\ng E\nGTO C\nRCL 0\nON\nf 3\ng R/S\nHEX 0\nSST\nx<>y\nSST\nx<>y\n")
      (codes "0 h\n001 LBL A PRGM\n002 STO .2 PRGM\n003 RLCN PRGM\n004 GTO C PRGM\n005 RCL 0 PRGM\n0 h\n0 h\n005 RCL 0 PRGM\n007 0 PRGM\n000 PRGM\n001 x<>y PRGM\n002 LBL A PRGM\n003 x<>y PRGM\n")
  pub case_21 : Prints
      (codes "HEX 1 8 f STO f 1\ng R/S g GTO A\nSTO 1\ng C\ng 9\ng /\ng R/S\nHEX 0\nSST\ng SST\n")
      (codes "0 h\n001 LBL A PRGM\n002 STO 1 PRGM\n003 RLC PRGM\n004 DBLR PRGM\n005 DBL/ PRGM\n0 h\n0 h\nError 0\n0 h\n")
  pub case_22 : Prints
      (codes "HEX 1 f STO f 3\ng R/S g GTO A\nf GSB\nf GTO\n.\nCHS\ng R/S\nHEX 1\nSST\nBSP\n")
      (codes "0 h\n001 LBL A PRGM\n002 x<>(i) PRGM\n003 x<>I PRGM\nError 1\n004 CHS PRGM\n0 h\n1 h\n1 h G\n0 h G\n")
  pub case_23 : Prints
      (codes "HEX 9 f STO f 2\ng R/S g GTO A\nf 1\ng GTO C\nf *\n2\nR/S\nRCL R/S\nf ENTER 0\ng R/S\nHEX 8 8\nSST\nx<>y\ng R/S\ng SST\ng R/S\ng SST\n")
      (codes "0 h\n001 LBL A PRGM\n002 1'S PRGM\n003 LBL C PRGM\n004 AND PRGM\n005 2 PRGM\n006 R/S PRGM\n007 RCL (i) PRGM\n008 WINDOW 0 PRGM\n0 h\n88 h\n88 h\n0 h\n000 PRGM\n008 WINDOW 0 PRGM\n0 h\n0 h\n")
  pub case_24 : Prints
      (codes "HEX 3 f STO f 1\ng R/S g GTO A\ng ENTER\nON\nHEX 0\nR/S\nx<>y\nGSB A\ng SST\nGSB A\nx<>y\n")
      (codes "0 h\n001 LBL A PRGM\n002 LSTX PRGM\n0 h\n0 h\n0 h\n0 h\n0 h\n0 h\n0 h\n0 h\n")
  pub case_25 : Prints
      (codes "HEX 2 0 f STO f 3\ng R/S g GTO A\nRCL 1\ng A\ng A\n2\n+\ng STO\nf OCT\ng R/S\nHEX 1\nGSB A\nx<>y\ng R/S\nx<>y\nx<>y\ng SST\n")
      (codes "0 h\n001 LBL A PRGM\n002 RCL 1 PRGM\n003 LJ PRGM\n004 LJ PRGM\n005 2 PRGM\n006 + PRGM\n007 < PRGM\n0 o\n0 h\n1 h\n2 h\n0 h\n000 PRGM\n001 x<>y PRGM\n002 x<>y PRGM\n001 x<>y PRGM\n")
  pub case_26 : Prints
      (codes "HEX 2 f STO f 3\ng R/S g GTO A\ng 2\n1\ng ENTER\ng D\nRDN\nR/S\ng R/S\nHEX 3\nR/S\nGSB A\n")
      (codes "0 h\n001 LBL A PRGM\n002 x<0 PRGM\n003 1 PRGM\n004 LSTX PRGM\n005 RRC PRGM\n006 RDN PRGM\n007 R/S PRGM\n0 h\n3 h\n3 h\n3 h\n")
  pub case_27 : Prints
      (codes "HEX 2 1 f STO f 2\ng R/S g GTO A\nf BSP\ng 4 4\ng GTO B\ng f 4\nf x<>y\nf 6\n1\nf F\ng R/S\nHEX 0\nGSB A\nBSP\ng SST\nf 0\ng R/S\n")
      (codes "0 h\n001 LBL A PRGM\n001 LBL A PRGM\n002 SF 4 PRGM\n003 LBL B PRGM\n004 SB PRGM\n005 CLREG PRGM\n006 B? PRGM\n007 1 PRGM\n008 RRN PRGM\n0 h\n0 h\n0 h C\n0 h C\n0 h C\nP-6 r-42\n008 RRN PRGM\n")
  pub case_28 : Prints
      (codes "HEX 2 0 f STO f 1\ng R/S g GTO A\ng BIN\nf /\nGSB B\ng R/S\nHEX 1\nGTO A\nGSB A\nx<>y\nx<>y\n")
      (codes "0 h\n001 LBL A PRGM\nError 1\n002 XOR PRGM\n003 GSB B PRGM\n0 h\n1 h\n1 h\nError 4\n0 h\n1 h\n")
  pub case_29 : Prints
      (codes "HEX 8 f STO f 1\ng R/S g GTO A\nDEC\ng C\nON\nf A\nf D\nf +\ng .\ng R/S\nHEX 1\nGTO A\nSST\n")
      (codes "0 h\n001 LBL A PRGM\n002 DEC PRGM\n003 RLC PRGM\n0 h\n0 h\n0 h\n0 h\n0 h\n003 RLC PRGM\n005 1 PRGM\n006 GTO A PRGM\n000 PRGM\n")
  pub case_30 : Prints
      (codes "HEX 3 0 f STO f 3\ng R/S g GTO A\ng BIN\nBIN\nf E\nf GTO\ng RCL\nGTO 4\nON\nHEX C 5 E C 0 8 2 A 6 F 9 7\nGTO . 0 0 0\nSST\ng SST\nf 0\nBSP\nGSB A\n")
      (codes "0 h\n001 LBL A PRGM\nError 1\n002 BIN PRGM\n003 RLN PRGM\n004 x<>I PRGM\n005 > PRGM\n006 GTO 4 PRGM\n0 h\n082A6F97 .h\n082A6F97 .h\n082A6F97 .h\n082A6F97 .h\nP-1 r-32\n0 h\nError 4\n")
