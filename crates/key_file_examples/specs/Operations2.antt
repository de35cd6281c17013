-- Key files and what they print. Written by scripts/state_key_files.py.
use Rattle.std.specs.Prelude.{codes}
use Rattle.hp_model.specs.WorkedKeyFiles.{Prints}

pub record Operations2 : Type 0 where
  pub case_15_1 : Prints
      (codes "HEX 2 0 f STO f 3\nHEX 1 2 C STO SST\ng 4 1\ng 4 3\nHEX 1 6 STO 3\nHEX 7 F F F F F F F ENTER 0 ENTER 7 F F F F F F F ENTER 8 0 0 0 0 0 0 0 g ENTER\n4 BIN\nF\n1\nRDN\nRDN\nRDN\ng ENTER\nRCL SST\nf .\nf 0\nHEX\nRCL 0\n")
      (codes "0 h\n12C h\n12C h\n0000012C h\n00000016 h\n00000000 h\n00000100 .b\n00000100 .b\n00000001 .b\n00000100 .b\n00000000 .b\n00000000 .b\n00000000 .b\n00101100 .b\n0-32-1010\nP-0 r-50\n0000012C h\n00000000 h\n")
  pub case_15_2 : Prints
      (codes "HEX C f STO f 3\nHEX 0 STO SST\ng 4 4\ng 4 2\ng 4 1\nHEX 0 ENTER 7 ENTER 3 A 3 ENTER 9 3 F g ENTER\nRDN 6\nF\n1\nRDN\nRDN\nRDN\ng ENTER\nRCL SST\nf .\nf 0\nHEX\nRCL 0\n")
      (codes "0 h\n0 h\n0 h C\n0 h C\n0 h C\n0 h C\n6 h C\n6F h C\n6F1 h C\n93F h C\n3A3 h C\n7 h C\n0 h C\n0 h C\n0-12-0110\nP-0 r-135\n0 h C\n0 h C\n")
  pub case_16_1 : Prints
      (codes "HEX 7 f STO f 2\nHEX 3 STO SST\ng 4 1\ng 4 2\nHEX 4 0 STO F\nHEX 3 F ENTER 3 F ENTER 0 ENTER 1 g ENTER\n4\n+\n1\nRDN\nRDN\nRDN\ng ENTER\nRCL SST\nf .\nf 0\nHEX\nRCL 0\n")
      (codes "0 h\n3 h\n3 h\n3 h\n40 h\n0 h\n4 h\n4 h\n1 h\n4 h\n1 h\n0 h\n4 h\n3 h\n2-07-0110\nP-0 r-203\n3 h\n0 h\n")
  pub case_16_2 : Prints
      (codes "HEX 1 8 f STO f 3\nHEX 1 2 C STO SST\ng 4 3\ng 4 4\ng 4 5\nHEX F F F F F F ENTER F F F F F F ENTER F F F F F F ENTER 0 g ENTER\nHEX 4\n+\n1\nRDN\nRDN\nRDN\ng ENTER\nRCL SST\nf .\nf 0\nHEX\nRCL 0\n")
      (codes "0 h\n12C h\n00012C h\n00012C h C\n00012C h C G\n000000 h C G\n000004 h C G\n000004 h\n000001 h\n000004 h\n000000 h\nFFFFFF h\n000004 h\n00012C h\n0-24-1000\nP-0 r-67\n00012C h\n000000 h\n")
  pub case_17_1 : Prints
      (codes "HEX F f STO f 1\nHEX 1 STO SST\ng 4 3\ng 4 5\ng 4 2\nHEX 4 0 0 0 STO F\nHEX 9 9 6 ENTER 7 F F F ENTER 4 0 0 0 ENTER 1 g ENTER\ng BSP\n-\n1\nRDN\nRDN\nRDN\ng ENTER\nRCL SST\nf .\nf 0\nHEX\nRCL 0\n")
      (codes "0 h\n1 h\n0001 h\n0001 h G\n0001 h G\n4000 h G\n0000 h G\n0000 h G\n0001 h\n0001 h\n0001 h\n4000 h\n7FFF h\n0000 h\n0001 h\n1-15-1100\nP-0 r-101\n0001 h\n0000 h\n")
  pub case_17_2 : Prints
      (codes "HEX 5 f STO f 1\ng R/S g GTO A - 1 g R/S\nHEX 1 STO SST\ng 4 2\ng 4 5\ng 4 3\nHEX 1 ENTER 1 ENTER 1 ENTER 1 0 g ENTER\ng STO\nSST\nGTO A\nSST SST\nSST\n1\nRDN\nRDN\nRDN\ng ENTER\nRCL SST\nf .\nf 0\nHEX\nRCL 0\n")
      (codes "0 h\n0 h\n1 h\n1 h\n1 h G\n01 h G\n00 h G\n h. G\n01 h G\n01 h G\n1E h C\n01 h C\n11 h C\n1E h C\n10 h C\n01 h C\n01 h C\n01 h C\n1-05-1100\nP-4 r-196\n01 h C\n00 h C\n")
  pub case_18_1 : Prints
      (codes "HEX 1 0 f STO f 3\ng 4 3\ng 4 4\nHEX 1 STO 3\nHEX 1 ENTER 6 2 C 6 ENTER E F C A ENTER 1 g ENTER\nHEX 3\n*\n1\nRDN\nRDN\nRDN\ng ENTER\nRCL SST\nf .\nf 0\nHEX\nRCL 0\n")
      (codes "0 h\n0000 h\n0000 h C\n0001 h C\n0000 h C\n0003 h C\n0000 h C\n0001 h C\n0000 h C\n0001 h C\nEFCA h C\n0003 h C\n0000 h C\n0-16-1000\nP-0 r-101\n0000 h C\n0000 h C\n")
  pub case_18_2 : Prints
      (codes "HEX 3 F f STO f 3\ng R/S g GTO A * 1 g R/S\nHEX F STO SST\ng 4 3\ng 4 5\nHEX 0 STO F\nHEX 4 F 6 7 D 1 6 5 A B 0 D F 9 B 7 ENTER 2 8 ENTER 4 1 8 D C 6 D 3 E 7 D 1 8 6 E 5 ENTER 1 0 g ENTER\nHEX C\nSST\nGTO A\nSST SST\nSST\n1\nRDN\nRDN\nRDN\ng ENTER\nRCL SST\nf .\nf 0\nHEX\nRCL 0\n")
      (codes "0 h\n0 h\nF h\n0000000F .h\n0000000F .h G\n00000000 .h G\n00000000 .h G\n0000000C .h G\n00000001 .h G\n00000001 .h G\n0000000C .h\n00000001 .h\n00000011 .h\n0000000C .h\n00000000 .h\n00000010 .h\n00000001 .h\n0000000F .h\n0-63-1000\nP-4 r-24\n0000000F .h\n00000000 .h\n")
  pub case_19_1 : Prints
      (codes "HEX 3 F f STO f 2\nHEX 6 4 STO SST\ng 4 2\ng 4 4\nHEX 0 ENTER 3 9 ENTER C ENTER 4 0 0 0 0 0 0 0 0 0 0 0 0 0 0 0 g ENTER\nRDN C\n/\n1\nRDN\nRDN\nRDN\ng ENTER\nRCL SST\nf .\nf 0\nHEX\nRCL 0\n")
      (codes "0 h\n64 h\n64 h\n64 h C\n0 h C\nC h C\nAAAAAAAB .h C\n1 h C\nAAAAAAAB .h C\nC h C\n39 h C\nC h C\n64 h C\n2-63-0100\nP-0 r-25\n64 h C\n0 h C\n")
  pub case_19_2 : Prints
      (codes "HEX 1 f STO f 3\nHEX 1 STO SST\nHEX 1 ENTER 0 ENTER 0 ENTER 1 g ENTER\nRDN A\n/\n1\nRDN\nRDN\nRDN\ng ENTER\nRCL SST\nf .\nf 0\nHEX\nRCL 0\n")
      (codes "0 h\n1 h\n0 h\n1 h\n0 h\n1 h\n0 h\n0 h\n0 h\n1 h\n1 h\n0-01-0000\nP-0 r-406\n1 h\n0 h\n")
  pub case_20_1 : Prints
      (codes "HEX 8 f STO f 2\ng R/S g GTO A ENTER 1 g R/S\nHEX 6 5 STO SST\nHEX F F ENTER 7 F ENTER 7 F ENTER 0 g ENTER\ng STO HEX\nSST\nGTO A\nSST SST\nSST\n1\nRDN\nRDN\nRDN\ng ENTER\nRCL SST\nf .\nf 0\nHEX\nRCL 0\n")
      (codes "0 h\n0 h\n65 h\n0 h\n0 h\n1 h\n1 h\n1 h\n1 h\n11 h\n1 h\n0 h\n0 h\n0 h\n65 h\n2-08-0000\nP-4 r-196\n65 h\n0 h\n")
  pub case_20_2 : Prints
      (codes "HEX 4 f STO f 3\ng R/S g GTO A ENTER 1 g R/S\ng 4 2\ng 4 4\ng 4 3\nHEX 7 STO F\nHEX 0 ENTER 1 ENTER 9 ENTER E g ENTER\n0\nSST\nGTO A\nSST SST\nSST\n1\nRDN\nRDN\nRDN\ng ENTER\nRCL SST\nf .\nf 0\nHEX\nRCL 0\n")
      (codes "0 h\n0 h\n0 h\n0 h C\n0 h C\n7 h C\n0 h C\n0 h C\n1 h C\n1 h C\n1 h C\n1 h C\n1 h C\n1 h C\n0 h C\n0 h C\n0 h C\n0 h C\n0-04-1100\nP-4 r-392\n0 h C\n0 h C\n")
  pub case_21_1 : Prints
      (codes "HEX 5 f STO f 3\nHEX 1 STO SST\ng 4 0\ng 4 4\nHEX 8 ENTER 1 ENTER 1 ENTER F g ENTER\ng 4 2\nCHS\n1\nRDN\nRDN\nRDN\ng ENTER\nRCL SST\nf .\nf 0\nHEX\nRCL 0\n")
      (codes "0 h\n1 h\n1 h\n1 h C\n0 h C\n0 h C\n0 h C\n1 h C\n0 h C\nF h C\n1 h C\n0 h C\n1 h C\n0-05-0101\nP-0 r-203\n1 h C\n0 h C\n")
  pub case_21_2 : Prints
      (codes "HEX 3 F f STO f 3\ng R/S g GTO A CHS 1 g R/S\ng 4 5\ng 4 1\ng 4 4\nHEX 0 STO 0\nHEX 0 ENTER 7 F F F F F F F F F F F F F F F ENTER 1 ENTER 4 0 0 0 0 0 0 0 0 0 0 0 0 0 0 0 g ENTER\ng BSP OCT\nSST\nGTO A\nSST SST\nSST\n1\nRDN\nRDN\nRDN\ng ENTER\nRCL SST\nf .\nf 0\nHEX\nRCL 0\n")
      (codes "0 h\n0 h\n0 h G\n0 h G\n0 h C G\n0 h C G\n0 h C G\n0 o C G\n1 o C G\n1 o C G\n77777777 .o C G\n1 o C G\n11 o C G\n77777777 .o C G\n00000000 .o C G\n1 o C G\n0 o C G\n0 o C G\n0-63-0010\nP-4 r-24\n0 h C G\n0 h C G\n")
  pub case_22_1 : Prints
      (codes "HEX 4 0 f STO f 1\ng R/S g GTO A RDN 1 g R/S\nHEX 1 STO 2\nHEX 7 F F F F F F F F F F F F F F F ENTER E 2 6 4 C 9 2 9 5 7 4 B 1 8 8 F ENTER 7 F F F F F F F F F F F F F F F ENTER F F F F F F F F F F F F F F F F g ENTER\nBSP BIN\nSST\nGTO A\nSST SST\nSST\n1\nRDN\nRDN\nRDN\ng ENTER\nRCL SST\nf .\nf 0\nHEX\nRCL 0\n")
      (codes "0 h\n0 h\n1 h\n0 h\n0 b\n1 b\n1 b\n11111111 .b\n1 b\n11 b\n11111111 .b\n11111111 .b\n10001111 .b\n0 b\n0 b\n1-64-0000\nP-4 r-24\n0 h\n0 h\n")
  pub case_22_2 : Prints
      (codes "HEX 2 8 f STO f 1\ng 4 0\nHEX 0 ENTER 7 F F F F F F F F F ENTER F F F F F F F F F F ENTER 8 0 0 0 0 0 0 0 0 0 g ENTER\n4\nRDN\n1\nRDN\nRDN\nRDN\ng ENTER\nRCL SST\nf .\nf 0\nHEX\nRCL 0\n")
      (codes "0 h\n0 h\n0 h\n4 h\n0 h\n1 h\n0 h\n00000000 .h\nFFFFFFFF .h\n0 h\n0 h\n1-40-0001\nP-0 r-40\n0 h\n0 h\n")
  pub case_23_1 : Prints
      (codes "HEX 3 f STO f 1\ng 4 3\ng 4 0\nHEX 6 ENTER 0 ENTER 1 ENTER 0 g ENTER\nHEX A\ng RDN\n1\nRDN\nRDN\nRDN\ng ENTER\nRCL SST\nf .\nf 0\nHEX\nRCL 0\n")
      (codes "0 h\n0 h\n0 h\n0 h\n0 h\n0 h\n1 h\n0 h\n0 h\n0 h\n0 h\n0 h\n1-03-1001\nP-0 r-406\n0 h\n0 h\n")
  pub case_23_2 : Prints
      (codes "HEX 2 0 f STO f 2\nHEX 1 ENTER 1 F ENTER 2 0 ENTER 3 g ENTER\nBSP\ng RDN\n1\nRDN\nRDN\nRDN\ng ENTER\nRCL SST\nf .\nf 0\nHEX\nRCL 0\n")
      (codes "0 h\n0 h\n0 h\n1F h\n1 h\n1F h\n0 h\n3 h\n0 h\n0 h\n2-32-0000\nP-0 r-50\n0 h\n0 h\n")
  pub case_24_1 : Prints
      (codes "HEX 4 0 f STO f 1\nHEX 6 4 STO SST\ng 4 3\ng 4 5\ng 4 1\nHEX 0 ENTER C B 4 6 E 9 C 4 4 7 D 2 E 4 D C ENTER 1 ENTER 8 3 1 3 A 4 0 D 6 8 9 7 D 8 C g ENTER\n5\nx<>y\n1\nRDN\nRDN\nRDN\ng ENTER\nRCL SST\nf .\nf 0\nHEX\nRCL 0\n")
      (codes "0 h\n64 h\n00000064 .h\n00000064 .h G\n00000064 .h G\n00000000 .h G\n00000005 .h G\n00000000 .h G\n00000001 .h G\n00000000 .h G\n00000005 .h G\nD6897D8C .h G\n00000000 .h G\n00000064 .h G\n1-64-1010\nP-0 r-25\n00000064 .h G\n00000000 .h G\n")
  pub case_24_2 : Prints
      (codes "HEX 2 f STO f 2\nHEX 0 STO 1\nHEX 1 ENTER 1 ENTER 3 ENTER 3 g ENTER\nBSP\nx<>y\n1\nRDN\nRDN\nRDN\ng ENTER\nRCL SST\nf .\nf 0\nHEX\nRCL 0\n")
      (codes "0 h\n0 h\n0 h\n0 h\n3 h\n1 h\n3 h\n0 h\n3 h\n0 h\n0 h\n2-02-0000\nP-0 r-406\n0 h\n0 h\n")
  pub case_25_1 : Prints
      (codes "HEX 1 F f STO f 1\ng 4 4\nHEX 1 STO F\nHEX 1 ENTER 7 F F F F F F F ENTER 1 6 ENTER 4 D 3 E 5 D 4 1 g ENTER\nRDN\ng BSP\n1\nRDN\nRDN\nRDN\ng ENTER\nRCL SST\nf .\nf 0\nHEX\nRCL 0\n")
      (codes "0 h\n0 h C\n1 h C\n0 h C\n4D3E5D41 h C\n0 h C\n1 h C\n16 h C\n7FFFFFFF h C\n0 h C\n0 h C\n0 h C\n1-31-0000\nP-0 r-50\n0 h C\n0 h C\n")
  pub case_25_2 : Prints
      (codes "HEX 2 8 f STO f 1\ng 4 3\ng 4 1\ng 4 5\nHEX 1 A STO F\nHEX 9 0 7 3 F 8 2 C 4 3 ENTER 1 ENTER D 0 8 B 1 2 6 4 3 A ENTER F F F F F F F F F F g ENTER\nBSP\ng BSP\n1\nRDN\nRDN\nRDN\ng ENTER\nRCL SST\nf .\nf 0\nHEX\nRCL 0\n")
      (codes "0 h\n00000000 .h\n00000000 .h\n00000000 .h G\n0000001A .h G\n00000000 .h G\n00000000 .h G\n00000000 .h G\n00000001 .h G\nFFFFFFFF .h G\n8B12643A .h G\n00000001 .h G\n00000000 .h G\n00000000 .h G\n1-40-1010\nP-0 r-40\n00000000 .h G\n00000000 .h G\n")
  pub case_26_1 : Prints
      (codes "HEX C f STO f 1\nHEX 2 STO SST\ng 4 1\nHEX F F F ENTER F F F ENTER F F F ENTER F F F g ENTER\nBSP OCT\ng ENTER\n1\nRDN\nRDN\nRDN\ng ENTER\nRCL SST\nf .\nf 0\nHEX\nRCL 0\n")
      (codes "0 h\n2 h\n2 h\n0 h\n0 o\n0 o\n1 o\n0 o\n7777 o\n7777 o\n0 o\n2 o\n1-12-0010\nP-0 r-135\n2 h\n0 h\n")
  pub case_26_2 : Prints
      (codes "HEX 1 0 f STO f 3\nHEX 1 2 C STO SST\ng 4 3\nHEX F F F F ENTER C ENTER 0 ENTER F F F F g ENTER\nBSP DEC\ng ENTER\n1\nRDN\nRDN\nRDN\ng ENTER\nRCL SST\nf .\nf 0\nHEX\nRCL 0\n")
      (codes "0 h\n12C h\n012C h\n0000 h\n0 d\n0 d\n1 d\n0 d\n65535 d\n0 d\n0 d\n300 d\n0-16-1000\nP-0 r-101\n012C h\n0000 h\n")
  pub case_27_1 : Prints
      (codes "HEX C f STO f 1\ng 4 2\ng 4 1\ng 4 3\nHEX F F F STO 1\nHEX F F F ENTER 2 1 1 ENTER 5 0 C ENTER B 0 E g ENTER\n\nHEX\n1\nRDN\nRDN\nRDN\ng ENTER\nRCL SST\nf .\nf 0\nHEX\nRCL 0\n")
      (codes "0 h\n0 h\n0 h\n000 h\nFFF h\n000 h\n000 h\n000 h\n001 h\n000 h\nB0E h\n50C h\n000 h\n000 h\n1-12-1110\nP-0 r-135\n000 h\n000 h\n")
  pub case_27_2 : Prints
      (codes "HEX 4 f STO f 1\nHEX 0 STO SST\ng 4 3\nHEX 7 ENTER 7 ENTER 3 ENTER 6 g ENTER\nHEX D\nHEX\n1\nRDN\nRDN\nRDN\ng ENTER\nRCL SST\nf .\nf 0\nHEX\nRCL 0\n")
      (codes "0 h\n0 h\n0 h\n0 h\nD h\nD h\n1 h\nD h\n0 h\n6 h\n0 h\n0 h\n1-04-1000\nP-0 r-406\n0 h\n0 h\n")
  pub case_28_1 : Prints
      (codes "HEX 1 0 f STO f 2\nHEX 2 8 STO SST\ng 4 1\ng 4 2\nHEX 5 STO 2\nHEX 6 5 E A ENTER 1 ENTER 8 0 0 0 ENTER 1 g ENTER\n4 f ENTER 1\nDEC\n1\nRDN\nRDN\nRDN\ng ENTER\nRCL SST\nf .\nf 0\nHEX\nRCL 0\n")
      (codes "0 h\n28 h\n28 h\n28 h\n5 h\n0 h\n h.\n4 d\n1 d\n4 d\n0 d\n1 d\n0 d\n40 d\n2-16-0110\nP-0 r-101\n28 h\n0 h\n")
  pub case_28_2 : Prints
      (codes "HEX 1 0 f STO f 3\ng R/S g GTO A DEC 1 g R/S\ng 4 3\nHEX 7 F F F ENTER 7 F F F ENTER 6 7 3 D ENTER 7 F F F g ENTER\nRDN B\nSST\nGTO A\nSST SST\nSST\n1\nRDN\nRDN\nRDN\ng ENTER\nRCL SST\nf .\nf 0\nHEX\nRCL 0\n")
      (codes "0 h\n0 h\n0000 h\n0000 h\n000B h\n0001 h\n0001 h\n1 d\n1 d\n11 d\n1 d\n11 d\n32767 d\n0 d\n0 d\n0-16-1000\nP-4 r-98\n0000 h\n0000 h\n")
  pub case_29_1 : Prints
      (codes "HEX 2 8 f STO f 2\ng 4 5\ng 4 0\ng 4 1\nHEX E 6 2 C 9 D 1 D 7 B ENTER 8 5 2 5 A 1 2 2 5 8 ENTER 7 F F F F F F F F F ENTER 1 g ENTER\nRDN 6 HEX\nOCT\n1\nRDN\nRDN\nRDN\ng ENTER\nRCL SST\nf .\nf 0\nHEX\nRCL 0\n")
      (codes "0 h\n0 h G\n0 h G\n0 h G\n0 h G\n6 h G\n6 o G\n1 o G\n6 o G\n1 o G\n77777777 .o G\n0 o G\n0 o G\n2-40-0011\nP-0 r-40\n0 h G\n0 h G\n")
  pub case_29_2 : Prints
      (codes "HEX 2 1 f STO f 1\ng 4 5\ng 4 2\nHEX B STO F\nHEX F E 2 A 0 2 1 ENTER 1 F F F F F F F F ENTER 1 ENTER 2 2 8 D 1 8 3 2 g ENTER\ng STO\nOCT\n1\nRDN\nRDN\nRDN\ng ENTER\nRCL SST\nf .\nf 0\nHEX\nRCL 0\n")
      (codes "0 h\n0 h G\n0 h G\nB h G\n0 h G\n h. G\n0 o G\n1 o G\n0 o G\n43214062 .o G\n1 o G\n0 o G\n0 o G\n1-33-0100\nP-0 r-45\n0 h G\n0 h G\n")
