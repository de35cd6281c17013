-- Key files and what they print. Written by scripts/state_key_files.py.
use Rattle.std.specs.Prelude.{codes}
use Rattle.hp_model.specs.WorkedKeyFiles.{Prints}

pub record Operations1 : Type 0 where
  pub case_0_1 : Prints
      (codes "HEX 3 F f STO f 3\ng R/S g GTO A 0 1 g R/S\ng 4 3\nHEX 4 0 0 0 0 0 0 0 0 0 0 0 0 0 0 0 ENTER 1 8 9 7 A 4 B E 9 6 5 8 D 1 1 4 ENTER 3 ENTER 7 F F F F F F F F F F F F F F F g ENTER\n HEX\nSST\nGTO A\nSST SST\nSST\n1\nRDN\nRDN\nRDN\ng ENTER\nRCL SST\nf .\nf 0\nHEX\nRCL 0\n")
      (codes "0 h\n0 h\n00000000 .h\n00000000 .h\n00000000 .h\n00000001 .h\n00000001 .h\n00000000 .h\n00000001 .h\n00000011 .h\n00000000 .h\n00000001 .h\n00000000 .h\n00000000 .h\n00000000 .h\n0-63-1000\nP-4 r-24\n00000000 .h\n00000000 .h\n")
  pub case_0_2 : Prints
      (codes "HEX 8 f STO f 3\ng R/S g GTO A 0 1 g R/S\ng 4 2\ng 4 1\nHEX 6 8 STO 0\nHEX 9 ENTER 1 ENTER 3 A ENTER 8 0 g ENTER\ng STO\nSST\nGTO A\nSST SST\nSST\n1\nRDN\nRDN\nRDN\ng ENTER\nRCL SST\nf .\nf 0\nHEX\nRCL 0\n")
      (codes "0 h\n0 h\n0 h\n0 h\n68 h\n0 h\n h.\n1 h\n1 h\n0 h\n1 h\n11 h\n0 h\n1 h\n0 h\n0 h\n0 h\n0-08-0110\nP-4 r-196\n0 h\n68 h\n")
  pub case_1_1 : Prints
      (codes "HEX 8 f STO f 3\ng 4 0\ng 4 5\nHEX 7 STO F\nHEX 8 0 ENTER 3 C ENTER F F ENTER 7 F g ENTER\nENTER\n1\n1\nRDN\nRDN\nRDN\ng ENTER\nRCL SST\nf .\nf 0\nHEX\nRCL 0\n")
      (codes "0 h\n0 h\n0 h G\n7 h G\n0 h G\n0 h G\n1 h G\n11 h G\n0 h G\n7F h G\nFF h G\n0 h G\n0 h G\n0-08-0001\nP-0 r-203\n0 h G\n0 h G\n")
  pub case_1_2 : Prints
      (codes "HEX 2 8 f STO f 3\nHEX 0 STO SST\ng 4 2\nHEX 4 C D D 2 4 9 F 3 6 ENTER 0 ENTER 2 3 ENTER E g ENTER\nRDN B\n1\n1\nRDN\nRDN\nRDN\ng ENTER\nRCL SST\nf .\nf 0\nHEX\nRCL 0\n")
      (codes "0 h\n0 h\n0 h\n0 h\nB h\nB1 h\nB11 h\nE h\n23 h\n0 h\n0 h\n0 h\n0-40-0100\nP-0 r-40\n0 h\n0 h\n")
  pub case_2_1 : Prints
      (codes "HEX 2 0 f STO f 1\ng R/S g GTO A 2 1 g R/S\nHEX 9 STO SST\ng 4 4\nHEX F F F F F F F F ENTER 3 3 A 2 8 2 6 3 ENTER F F F F F F F F ENTER B 6 C 4 D F 3 E g ENTER\n DEC\nSST\nGTO A\nSST SST\nSST\n1\nRDN\nRDN\nRDN\ng ENTER\nRCL SST\nf .\nf 0\nHEX\nRCL 0\n")
      (codes "0 h\n0 h\n9 h\n9 h C\n0 h C\n0 d C\n1 d C\n1 d C\n2 d C\n1 d C\n11 d C\n2 d C\n1 d C\n0 d C\n0 d C\n9 d C\n1-32-0000\nP-4 r-49\n9 h C\n0 h C\n")
  pub case_2_2 : Prints
      (codes "HEX 2 f STO f 1\nHEX 9 STO SST\nHEX 3 STO 2\nHEX 3 ENTER 2 ENTER 1 ENTER 1 g ENTER\ng 4 2 BIN\n2\n1\nRDN\nRDN\nRDN\ng ENTER\nRCL SST\nf .\nf 0\nHEX\nRCL 0\n")
      (codes "0 h\n0 h\n3 h\n0 h\n0 b\n0 b\n1 b\n0 b\n1 b\n1 b\n0 b\n0 b\n1-02-0100\nP-0 r-406\n0 h\n0 h\n")
  pub case_3_1 : Prints
      (codes "HEX 1 8 f STO f 3\nHEX 1 2 C STO SST\ng 4 0\ng 4 5\ng 4 4\nHEX 0 ENTER 7 F F F F F ENTER 7 F F F F F ENTER B 3 9 0 4 3 g ENTER\ng 4 2\n3\n1\nRDN\nRDN\nRDN\ng ENTER\nRCL SST\nf .\nf 0\nHEX\nRCL 0\n")
      (codes "0 h\n12C h\n12C h\n12C h G\n12C h C G\n0 h C G\n0 h C G\n3 h C G\n31 h C G\n0 h C G\nB39043 h C G\n7FFFFF h C G\n0 h C G\n12C h C G\n0-24-0101\nP-0 r-67\n12C h C G\n0 h C G\n")
  pub case_3_2 : Prints
      (codes "HEX 2 1 f STO f 3\nHEX 9 STO SST\ng 4 1\nHEX D STO 1\nHEX 6 A 8 5 7 6 8 2 ENTER 1 8 8 1 D 1 8 6 3 ENTER 1 ENTER 1 F F F F F F F F g ENTER\n\n3\n1\nRDN\nRDN\nRDN\ng ENTER\nRCL SST\nf .\nf 0\nHEX\nRCL 0\n")
      (codes "0 h\n9 h\n9 h\nD h\n0 h\n0 h\n3 h\n31 h\n0 h\nFFFFFFFF .h\n1 h\n0 h\n9 h\n0-33-0010\nP-0 r-45\n9 h\n0 h\n")
  pub case_4_1 : Prints
      (codes "HEX F f STO f 1\ng 4 5\nHEX 3 D C C ENTER 1 9 B E ENTER 7 F F F ENTER 0 g ENTER\nENTER\n4\n1\nRDN\nRDN\nRDN\ng ENTER\nRCL SST\nf .\nf 0\nHEX\nRCL 0\n")
      (codes "0 h\n0 h G\n0 h G\n0 h G\n4 h G\n41 h G\n0 h G\n0 h G\n7FFF h G\n0 h G\n0 h G\n1-15-0000\nP-0 r-101\n0 h G\n0 h G\n")
  pub case_4_2 : Prints
      (codes "HEX 2 f STO f 1\ng 4 0\ng 4 4\ng 4 1\nHEX 2 STO 2\nHEX 0 ENTER 0 ENTER 3 ENTER 0 g ENTER\nBSP OCT\n4\n1\nRDN\nRDN\nRDN\ng ENTER\nRCL SST\nf .\nf 0\nHEX\nRCL 0\n")
      (codes "0 h\n0 h\n0 h C\n0 h C\n2 h C\n0 h C\n0 o C\n0 o C\n1 o C\n0 o C\n3 o C\n0 o C\n0 o C\n0 o C\n1-02-0011\nP-0 r-406\n0 h C\n0 h C\n")
  pub case_5_1 : Prints
      (codes "HEX 7 f STO f 3\nHEX 3 STO SST\ng 4 2\ng 4 0\nHEX 4 STO 1\nHEX 7 F ENTER 3 F ENTER 3 F ENTER 2 5 g ENTER\nBSP\n5\n1\nRDN\nRDN\nRDN\ng ENTER\nRCL SST\nf .\nf 0\nHEX\nRCL 0\n")
      (codes "0 h\n3 h\n3 h\n3 h\n4 h\n0 h\n0 h\n5 h\n51 h\n25 h\n3F h\n3F h\n0 h\n3 h\n0-07-0101\nP-0 r-203\n3 h\n0 h\n")
  pub case_5_2 : Prints
      (codes "HEX 1 8 f STO f 2\ng R/S g GTO A 5 1 g R/S\nHEX 3 STO SST\ng 4 0\nHEX 0 ENTER 6 3 B E 8 8 ENTER F F F F F F ENTER E E 7 6 3 6 g ENTER\nRDN\nSST\nGTO A\nSST SST\nSST\n1\nRDN\nRDN\nRDN\ng ENTER\nRCL SST\nf .\nf 0\nHEX\nRCL 0\n")
      (codes "0 h\n0 h\n3 h\n3 h\n0 h\nEE7636 h\n1 h\n1 h\n5 h\n1 h\n11 h\n5 h\n1 h\nEE7636 h\n0 h\n3 h\n2-24-0001\nP-4 r-65\n3 h\n0 h\n")
  pub case_6_1 : Prints
      (codes "HEX 8 f STO f 1\nHEX 6 5 STO SST\ng 4 5\ng 4 4\ng 4 0\nHEX 9 8 ENTER 7 F ENTER 1 A ENTER 7 F g ENTER\nHEX F\n6\n1\nRDN\nRDN\nRDN\ng ENTER\nRCL SST\nf .\nf 0\nHEX\nRCL 0\n")
      (codes "0 h\n65 h\n65 h G\n65 h C G\n65 h C G\n0 h C G\nF h C G\nF6 h C G\nF6 h C G\n0 h C G\n7F h C G\n1A h C G\n0 h C G\n65 h C G\n1-08-0001\nP-0 r-203\n65 h C G\n0 h C G\n")
  pub case_6_2 : Prints
      (codes "HEX 4 0 f STO f 2\nHEX 8 0 0 0 0 0 0 0 0 0 0 0 0 0 0 0 ENTER E 3 8 8 8 4 F 3 A 0 E 4 A 8 D 6 ENTER 8 0 0 0 0 0 0 0 0 0 0 0 0 0 0 0 ENTER 8 0 0 0 0 0 0 0 0 0 0 0 0 0 0 0 g ENTER\nBSP\n6\n1\nRDN\nRDN\nRDN\ng ENTER\nRCL SST\nf .\nf 0\nHEX\nRCL 0\n")
      (codes "0 h\n0 h\n0 h\n6 h\n61 h\n00000000 .h\n00000000 .h\nA0E4A8D6 .h\n0 h\n0 h\n2-64-0000\nP-0 r-25\n0 h\n0 h\n")
  pub case_7_1 : Prints
      (codes "HEX 4 f STO f 3\ng 4 4\ng 4 1\ng 4 5\nHEX F STO 1\nHEX 6 ENTER 8 ENTER F ENTER 1 g ENTER\nHEX 2\n7\n1\nRDN\nRDN\nRDN\ng ENTER\nRCL SST\nf .\nf 0\nHEX\nRCL 0\n")
      (codes "0 h\n0 h C\n0 h C\n0 h C G\nF h C G\n0 h C G\n2 h C G\n2 h C G\n2 h C G\n0 h C G\n1 h C G\nF h C G\n0 h C G\n0 h C G\n0-04-0010\nP-0 r-406\n0 h C G\n0 h C G\n")
  pub case_7_2 : Prints
      (codes "HEX 2 0 f STO f 2\ng 4 5\nHEX F F F F F F F F ENTER 1 ENTER 1 ENTER 7 F F F F F F F g ENTER\n4 f ENTER 1\n7\n1\nRDN\nRDN\nRDN\ng ENTER\nRCL SST\nf .\nf 0\nHEX\nRCL 0\n")
      (codes "0 h\n0 h G\n0 h G\n h. G\n7 h G\n71 h G\n4 h G\n0 h G\n7FFFFFFF h G\n0 h G\n0 h G\n2-32-0000\nP-0 r-50\n0 h G\n0 h G\n")
  pub case_8_1 : Prints
      (codes "HEX 4 0 f STO f 1\nHEX 3 STO SST\ng 4 1\ng 4 3\ng 4 5\nHEX 1 E STO 1\nHEX 1 ENTER 1 ENTER 0 ENTER F F F F F F F F F F F F F F F F g ENTER\ng BSP\n8\n1\nRDN\nRDN\nRDN\ng ENTER\nRCL SST\nf .\nf 0\nHEX\nRCL 0\n")
      (codes "0 h\n3 h\n3 h\n00000003 .h\n00000003 .h G\n0000001E .h G\n00000000 .h G\n00000000 .h G\n00000008 .h G\n00000081 .h G\nFFFFFFFF .h G\n00000000 .h G\n00000001 .h G\n00000000 .h G\n00000003 .h G\n1-64-1010\nP-0 r-25\n00000003 .h G\n00000000 .h G\n")
  pub case_8_2 : Prints
      (codes "HEX 2 8 f STO f 2\nHEX 0 STO SST\ng 4 1\nHEX 7 F F F F F F F F F ENTER 7 F F F F F F F F F ENTER 1 3 ENTER F F F F F F F F F F g ENTER\ng BSP f ENTER 1\n8\n1\nRDN\nRDN\nRDN\ng ENTER\nRCL SST\nf .\nf 0\nHEX\nRCL 0\n")
      (codes "0 h\n0 h\n0 h\n0 h\n h.\n8 h\n81 h\nFFFFFFFF .h\n13 h\nFFFFFFFF .h\n0 h\n0 h\n2-40-0010\nP-0 r-40\n0 h\n0 h\n")
  pub case_9_1 : Prints
      (codes "HEX F f STO f 3\ng R/S g GTO A 9 1 g R/S\ng 4 0\ng 4 3\nHEX 7 4 B D ENTER 4 0 0 0 ENTER 0 ENTER 7 E 5 A g ENTER\nB DEC\nSST\nGTO A\nSST SST\nSST\n1\nRDN\nRDN\nRDN\ng ENTER\nRCL SST\nf .\nf 0\nHEX\nRCL 0\n")
      (codes "0 h\n0 h\n0 h\n0000 h\n0000 h\n11 d\n1 d\n1 d\n9 d\n1 d\n11 d\n9 d\n1 d\n11 d\n0 d\n0 d\n0-15-1001\nP-4 r-98\n0000 h\n0000 h\n")
  pub case_9_2 : Prints
      (codes "HEX 3 f STO f 2\nHEX 4 STO 1\nHEX 0 ENTER 4 ENTER 0 ENTER 1 g ENTER\nHEX 9\n9\n1\nRDN\nRDN\nRDN\ng ENTER\nRCL SST\nf .\nf 0\nHEX\nRCL 0\n")
      (codes "0 h\n4 h\n0 h\n0 h\n0 h\n1 h\n0 h\n1 h\n0 h\n0 h\n0 h\n2-03-0000\nP-0 r-406\n0 h\n0 h\n")
  pub case_10_1 : Prints
      (codes "HEX 3 F f STO f 2\nHEX 3 F F F F F F F F F F F F F F F ENTER 1 4 ENTER 3 F F F F F F F F F F F F F F F ENTER 7 7 0 6 E D F D E C 0 F 8 5 7 4 g ENTER\nRDN f ENTER 1\nA\n1\nRDN\nRDN\nRDN\ng ENTER\nRCL SST\nf .\nf 0\nHEX\nRCL 0\n")
      (codes "0 h\n0 h\n7706EDFD h.\nA h\nA1 h\nEC0F8574 .h\nFFFFFFFF .h\n14 h\n0 h\n0 h\n2-63-0000\nP-0 r-25\n0 h\n0 h\n")
  pub case_10_2 : Prints
      (codes "HEX F f STO f 3\ng 4 3\ng 4 1\nHEX 5 4 C 4 STO 0\nHEX 4 ENTER 2 ENTER 1 0 9 1 ENTER 7 F F F g ENTER\ng STO HEX\nA\n1\nRDN\nRDN\nRDN\ng ENTER\nRCL SST\nf .\nf 0\nHEX\nRCL 0\n")
      (codes "0 h\n0000 h\n0000 h\n54C4 h\n0000 h\n0000 h\n000A h\n00A1 h\n0000 h\n7FFF h\n1091 h\n0000 h\n0000 h\n0-15-1010\nP-0 r-101\n0000 h\n54C4 h\n")
  pub case_11_1 : Prints
      (codes "HEX 4 0 f STO f 2\ng 4 2\ng 4 1\ng 4 0\nHEX F F F F F F F F F F F F F F F F ENTER 0 ENTER 8 0 0 0 0 0 0 0 0 0 0 0 0 0 0 0 ENTER F F F F F F F F F F F F F F F F g ENTER\nENTER\nB\n1\nRDN\nRDN\nRDN\ng ENTER\nRCL SST\nf .\nf 0\nHEX\nRCL 0\n")
      (codes "0 h\n0 h\n0 h\n0 h\n0 h\n0 h\nB h\nB1 h\n0 h\nFFFFFFFF .h\n00000000 .h\n0 h\n0 h\n2-64-0111\nP-0 r-25\n0 h\n0 h\n")
  pub case_11_2 : Prints
      (codes "HEX 1 f STO f 1\nHEX 2 STO SST\nHEX 0 ENTER 1 ENTER 0 ENTER 0 g ENTER\nHEX 1 OCT\nB\n1\nRDN\nRDN\nRDN\ng ENTER\nRCL SST\nf .\nf 0\nHEX\nRCL 0\n")
      (codes "0 h\n0 h\n0 h\n1 o\n1 o\n1 o\n1 o\n0 o\n0 o\n0 o\n0 o\n1-01-0000\nP-0 r-406\n0 h\n0 h\n")
  pub case_12_1 : Prints
      (codes "HEX 4 f STO f 3\ng R/S g GTO A C 1 g R/S\ng 4 4\ng 4 1\nHEX 1 ENTER 7 ENTER 7 ENTER 4 g ENTER\nBSP\nSST\nGTO A\nSST SST\nSST\n1\nRDN\nRDN\nRDN\ng ENTER\nRCL SST\nf .\nf 0\nHEX\nRCL 0\n")
      (codes "0 h\n0 h\n0 h C\n0 h C\n0 h C\n0 h C\n1 h C\n1 h C\nC h C\n1 h C\n1 h C\nC h C\n1 h C\n4 h C\n0 h C\n0 h C\n0-04-0010\nP-4 r-392\n0 h C\n0 h C\n")
  pub case_12_2 : Prints
      (codes "HEX 4 0 f STO f 1\ng R/S g GTO A C 1 g R/S\nHEX 6 5 STO SST\ng 4 3\nHEX 1 B ENTER 5 9 8 C F B 3 1 1 D E 4 A 1 5 8 ENTER 9 8 7 9 F 1 7 C B 1 C A 2 2 7 E ENTER 1 g ENTER\ng BSP\nSST\nGTO A\nSST SST\nSST\n1\nRDN\nRDN\nRDN\ng ENTER\nRCL SST\nf .\nf 0\nHEX\nRCL 0\n")
      (codes "0 h\n0 h\n65 h\n00000065 .h\n00000000 .h\n00000000 .h\n00000001 .h\n00000001 .h\n0000000C .h\n00000001 .h\n00000011 .h\n0000000C .h\n00000001 .h\n00000001 .h\n00000000 .h\n00000065 .h\n1-64-1000\nP-4 r-24\n00000065 .h\n00000000 .h\n")
  pub case_13_1 : Prints
      (codes "HEX F f STO f 1\nHEX 9 STO SST\ng 4 2\nHEX 1 ENTER 6 A B C ENTER 1 ENTER 9 g ENTER\nHEX 5\nD\n1\nRDN\nRDN\nRDN\ng ENTER\nRCL SST\nf .\nf 0\nHEX\nRCL 0\n")
      (codes "0 h\n9 h\n9 h\n0 h\n5 h\n5D h\n5D1 h\n0 h\n9 h\n1 h\n0 h\n9 h\n1-15-0100\nP-0 r-101\n9 h\n0 h\n")
  pub case_13_2 : Prints
      (codes "HEX 1 8 f STO f 1\ng R/S g GTO A D 1 g R/S\nHEX 9 STO SST\ng 4 3\ng 4 1\nHEX 8 0 0 0 0 0 ENTER 7 F F F F F ENTER 7 F F F F F ENTER 2 F 5 9 4 7 g ENTER\nBSP\nSST\nGTO A\nSST SST\nSST\n1\nRDN\nRDN\nRDN\ng ENTER\nRCL SST\nf .\nf 0\nHEX\nRCL 0\n")
      (codes "0 h\n0 h\n9 h\n000009 h\n000009 h\n000000 h\n000000 h\n000001 h\n000001 h\n00000D h\n000001 h\n000011 h\n00000D h\n000001 h\n2F5947 h\n000000 h\n000009 h\n1-24-1010\nP-4 r-65\n000009 h\n000000 h\n")
  pub case_14_1 : Prints
      (codes "HEX 3 F f STO f 1\ng R/S g GTO A E 1 g R/S\nHEX 8 STO 0\nHEX 1 ENTER 6 D 1 7 5 5 1 F D 1 B 3 1 5 9 9 ENTER 0 ENTER 7 F F F F F F F F F F F F F F F g ENTER\ng STO HEX\nSST\nGTO A\nSST SST\nSST\n1\nRDN\nRDN\nRDN\ng ENTER\nRCL SST\nf .\nf 0\nHEX\nRCL 0\n")
      (codes "0 h\n0 h\n8 h\n0 h\n0 h\n1 h\n1 h\nE h\n1 h\n11 h\nE h\n1 h\n0 h\n0 h\n0 h\n1-63-0000\nP-4 r-24\n0 h\n8 h\n")
  pub case_14_2 : Prints
      (codes "HEX 1 f STO f 2\nHEX 0 STO SST\ng 4 3\ng 4 1\ng 4 2\nHEX 1 ENTER 1 ENTER 1 ENTER 0 g ENTER\n DEC\nE\n1\nRDN\nRDN\nRDN\ng ENTER\nRCL SST\nf .\nf 0\nHEX\nRCL 0\n")
      (codes "0 h\n0 h\n0 h\n0 h\n0 h\n0 h\n0 d\n0 d\n0 d\n0 d\n-1 d\n-1 d\n0 d\n0 d\n2-01-1110\nP-0 r-406\n0 h\n0 h\n")
