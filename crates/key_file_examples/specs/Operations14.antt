-- Key files and what they print. Written by scripts/state_key_files.py.
use Rattle.std.specs.Prelude.{codes}
use Rattle.hp_model.specs.WorkedKeyFiles.{Prints}

pub record Operations14 : Type 0 where
  pub case_195_1 : Prints
      (codes "HEX 1 f STO f 1\nHEX 0 ENTER 1 ENTER 1 ENTER 0 g ENTER\nRDN B OCT\nRCL . 0\n1\nRDN\nRDN\nRDN\ng ENTER\nRCL SST\nf .\nf 0\nHEX\nRCL 0\n")
      (codes "0 h\n0 h\n0 o\n0 o\n1 o\n0 o\n0 o\n1 o\n0 o\n0 o\n1-01-0000\nP-0 r-406\n0 h\n0 h\n")
  pub case_195_2 : Prints
      (codes "HEX 1 0 f STO f 2\nHEX 7 F F F STO 0\nHEX 0 ENTER 7 F F F ENTER 1 6 C 6 ENTER 3 C 2 E g ENTER\nBSP HEX\nRCL . 0\n1\nRDN\nRDN\nRDN\ng ENTER\nRCL SST\nf .\nf 0\nHEX\nRCL 0\n")
      (codes "0 h\n7FFF h\n0 h\n0 h\n0 h\n1 h\n0 h\n3C2E h\n16C6 h\n0 h\n0 h\n2-16-0000\nP-0 r-101\n0 h\n7FFF h\n")
  pub case_196_1 : Prints
      (codes "HEX 1 8 f STO f 2\nHEX F STO SST\nHEX 6 B 7 6 C 0 STO 2\nHEX 0 ENTER 1 ENTER 7 F F F F F ENTER 8 0 0 0 0 0 g ENTER\n6 DEC\nRCL . 1\n1\nRDN\nRDN\nRDN\ng ENTER\nRCL SST\nf .\nf 0\nHEX\nRCL 0\n")
      (codes "0 h\nF h\n6B76C0 h\n0 h\n6 d\n0 d\n1 d\n0 d\n6 d\n0 d\n0 d\n15 d\n2-24-0000\nP-0 r-67\nF h\n0 h\n")
  pub case_196_2 : Prints
      (codes "HEX 4 0 f STO f 1\ng R/S g GTO A RCL . 1 1 g R/S\nHEX 1 STO SST\ng 4 2\ng 4 4\nHEX F F F F F F F F F F F F F F F F ENTER 0 ENTER 8 0 0 0 0 0 0 0 0 0 0 0 0 0 0 0 ENTER 8 9 6 E 0 5 9 D 1 C D 2 2 8 7 B g ENTER\nBSP\nSST\nGTO A\nSST SST\nSST\n1\nRDN\nRDN\nRDN\ng ENTER\nRCL SST\nf .\nf 0\nHEX\nRCL 0\n")
      (codes "0 h\n0 h\n1 h\n1 h\n1 h C\n0 h C\n0 h C\n1 h C\n1 h C\n0 h C\n1 h C\n11 h C\n0 h C\n1 h C\n1CD2287B .h C\n0 h C\n1 h C\n1-64-0100\nP-4 r-24\n1 h C\n0 h C\n")
  pub case_197_1 : Prints
      (codes "HEX 1 1 f STO f 3\ng 4 3\ng 4 0\nHEX 0 ENTER E 1 6 F ENTER 1 7 4 2 1 ENTER 1 F F F F g ENTER\nHEX D HEX\nRCL . 2\n1\nRDN\nRDN\nRDN\ng ENTER\nRCL SST\nf .\nf 0\nHEX\nRCL 0\n")
      (codes "0 h\n00000 h\n00000 h\n00000 h\n0000D h\n00000 h\n00001 h\n00000 h\n0000D h\n00000 h\n00000 h\n00000 h\n0-17-1001\nP-0 r-81\n00000 h\n00000 h\n")
  pub case_197_2 : Prints
      (codes "HEX 4 f STO f 3\ng R/S g GTO A RCL . 2 1 g R/S\ng 4 5\ng 4 3\ng 4 0\nHEX F ENTER 7 ENTER 0 ENTER 0 g ENTER\ng 4 2\nSST\nGTO A\nSST SST\nSST\n1\nRDN\nRDN\nRDN\ng ENTER\nRCL SST\nf .\nf 0\nHEX\nRCL 0\n")
      (codes "0 h\n0 h\n0 h G\n0 h G\n0 h G\n0 h G\n0 h G\n1 h G\n1 h G\n0 h G\n1 h G\n1 h G\n0 h G\n1 h G\n0 h G\n0 h G\n0 h G\n0-04-1101\nP-4 r-392\n0 h G\n0 h G\n")
  pub case_198_1 : Prints
      (codes "HEX F f STO f 1\nHEX 6 4 STO SST\nHEX 2 4 1 D ENTER 4 0 0 0 ENTER 1 ENTER E 9 C g ENTER\nRDN DEC\nRCL . 3\n1\nRDN\nRDN\nRDN\ng ENTER\nRCL SST\nf .\nf 0\nHEX\nRCL 0\n")
      (codes "0 h\n64 h\n0 h\n3740 d\n0 d\n1 d\n0 d\n3740 d\n1 d\n0 d\n100 d\n1-15-0000\nP-0 r-101\n64 h\n0 h\n")
  pub case_198_2 : Prints
      (codes "HEX 2 0 f STO f 1\nHEX 6 5 STO SST\ng 4 3\ng 4 5\ng 4 4\nHEX 1 ENTER 0 ENTER 4 A 6 4 0 5 0 6 ENTER 7 F F F F F F F g ENTER\n3 f ENTER 1\nRCL . 3\n1\nRDN\nRDN\nRDN\ng ENTER\nRCL SST\nf .\nf 0\nHEX\nRCL 0\n")
      (codes "0 h\n65 h\n00000065 h\n00000065 h G\n00000065 h C G\n00000000 h C G\n h. C G\n00000000 h C G\n00000001 h C G\n00000000 h C G\n00000003 h C G\n00000000 h C G\n00000000 h C G\n00000065 h C G\n1-32-1000\nP-0 r-50\n00000065 h C G\n00000000 h C G\n")
  pub case_199_1 : Prints
      (codes "HEX 4 f STO f 3\nHEX F STO SST\ng 4 1\ng 4 3\ng 4 2\nHEX 0 ENTER 1 ENTER 0 ENTER 8 g ENTER\ng STO HEX\nRCL . 4\n1\nRDN\nRDN\nRDN\ng ENTER\nRCL SST\nf .\nf 0\nHEX\nRCL 0\n")
      (codes "0 h\nF h\nF h\nF h\nF h\n0 h\n0 h\n0 h\n1 h\n0 h\n0 h\n8 h\n0 h\nF h\n0-04-1110\nP-0 r-406\nF h\n0 h\n")
  pub case_199_2 : Prints
      (codes "HEX 2 1 f STO f 2\ng R/S g GTO A RCL . 4 1 g R/S\ng 4 0\nHEX 1 STO 2\nHEX F F F F F F F F ENTER 1 ENTER 0 ENTER 1 g ENTER\nBSP BIN\nSST\nGTO A\nSST SST\nSST\n1\nRDN\nRDN\nRDN\ng ENTER\nRCL SST\nf .\nf 0\nHEX\nRCL 0\n")
      (codes "0 h\n0 h\n0 h\n1 h\n0 h\n0 b\n1 b\n1 b\n0 b\n1 b\n11 b\n0 b\n1 b\n1 b\n0 b\n0 b\n2-33-0001\nP-4 r-43\n0 h\n0 h\n")
  pub case_200_1 : Prints
      (codes "HEX 1 0 f STO f 3\ng R/S g GTO A RCL . 5 1 g R/S\nHEX 6 4 STO SST\ng 4 1\nHEX 8 8 5 0 STO 0\nHEX F F F F ENTER 1 ENTER 5 0 E 5 ENTER 7 F F F g ENTER\ng STO\nSST\nGTO A\nSST SST\nSST\n1\nRDN\nRDN\nRDN\ng ENTER\nRCL SST\nf .\nf 0\nHEX\nRCL 0\n")
      (codes "0 h\n0 h\n64 h\n64 h\n8850 h\n0 h\n h.\n1 h\n1 h\n0 h\n1 h\n11 h\n0 h\n1 h\n0 h\n0 h\n64 h\n0-16-0010\nP-4 r-98\n64 h\n8850 h\n")
  pub case_200_2 : Prints
      (codes "HEX 1 1 f STO f 3\ng R/S g GTO A RCL . 5 1 g R/S\nHEX 6 4 STO SST\ng 4 4\ng 4 1\nHEX 8 1 F B ENTER 1 6 E 9 D ENTER 0 ENTER 1 F F F F g ENTER\n BIN\nSST\nGTO A\nSST SST\nSST\n1\nRDN\nRDN\nRDN\ng ENTER\nRCL SST\nf .\nf 0\nHEX\nRCL 0\n")
      (codes "0 h\n0 h\n64 h\n64 h C\n64 h C\n0 h C\n0 b C\n1 b C\n1 b C\n0 b C\n1 b C\n11 b C\n0 b C\n1 b C\n0 b C\n0 b C\n1100100 b C\n0-17-0010\nP-4 r-78\n64 h C\n0 h C\n")
  pub case_201_1 : Prints
      (codes "HEX 1 1 f STO f 3\nHEX 2 8 STO SST\nHEX 7 A D 1 ENTER 1 0 0 0 0 ENTER 2 E 7 4 ENTER F F F F g ENTER\ng 4 2\nRCL . 6\n1\nRDN\nRDN\nRDN\ng ENTER\nRCL SST\nf .\nf 0\nHEX\nRCL 0\n")
      (codes "0 h\n28 h\n0 h\n0 h\n0 h\n1 h\n0 h\n0 h\nFFFF h\n0 h\n28 h\n0-17-0100\nP-0 r-81\n28 h\n0 h\n")
  pub case_201_2 : Prints
      (codes "HEX 1 0 f STO f 2\ng R/S g GTO A RCL . 6 1 g R/S\nHEX 0 STO SST\ng 4 0\ng 4 5\nHEX 1 STO 2\nHEX 1 ENTER 1 ENTER 8 0 0 0 ENTER 2 5 B 0 g ENTER\nRDN\nSST\nGTO A\nSST SST\nSST\n1\nRDN\nRDN\nRDN\ng ENTER\nRCL SST\nf .\nf 0\nHEX\nRCL 0\n")
      (codes "0 h\n0 h\n0 h\n0 h\n0 h G\n1 h G\n0 h G\n25B0 h G\n1 h G\n1 h G\n0 h G\n1 h G\n11 h G\n0 h G\n1 h G\n25B0 h G\n0 h G\n0 h G\n2-16-0001\nP-4 r-98\n0 h G\n0 h G\n")
  pub case_202_1 : Prints
      (codes "HEX F f STO f 2\ng 4 0\ng 4 5\ng 4 3\nHEX 4 0 0 0 ENTER 0 ENTER 7 F F F ENTER 4 0 0 0 g ENTER\nRDN 7 f ENTER 1\nRCL . 7\n1\nRDN\nRDN\nRDN\ng ENTER\nRCL SST\nf .\nf 0\nHEX\nRCL 0\n")
      (codes "0 h\n0 h\n0 h G\n0000 h G\n0000 h G\n h. G\n0000 h G\n0001 h G\n0000 h G\n0007 h G\n4000 h G\n0000 h G\n0000 h G\n2-15-1001\nP-0 r-101\n0000 h G\n0000 h G\n")
  pub case_202_2 : Prints
      (codes "HEX 4 f STO f 3\nHEX 9 STO SST\ng 4 5\ng 4 3\ng 4 4\nHEX F STO 2\nHEX 1 ENTER B ENTER 3 ENTER 0 g ENTER\nB\nRCL . 7\n1\nRDN\nRDN\nRDN\ng ENTER\nRCL SST\nf .\nf 0\nHEX\nRCL 0\n")
      (codes "0 h\n9 h\n9 h G\n9 h G\n9 h C G\nF h C G\n0 h C G\nB h C G\n0 h C G\n1 h C G\n0 h C G\nB h C G\n0 h C G\n0 h C G\n9 h C G\n0-04-1000\nP-0 r-406\n9 h C G\n0 h C G\n")
  pub case_203_1 : Prints
      (codes "HEX 7 f STO f 2\ng R/S g GTO A RCL . 8 1 g R/S\nHEX F STO SST\ng 4 1\ng 4 5\ng 4 3\nHEX 3 F STO F\nHEX 6 4 ENTER 7 F ENTER 0 ENTER 7 g ENTER\nHEX 2\nSST\nGTO A\nSST SST\nSST\n1\nRDN\nRDN\nRDN\ng ENTER\nRCL SST\nf .\nf 0\nHEX\nRCL 0\n")
      (codes "0 h\n0 h\nF h\nF h\nF h G\n0F h G\n3F h G\n00 h G\n02 h G\n01 h G\n01 h G\n00 h G\n01 h G\n11 h G\n00 h G\n01 h G\n02 h G\n00 h G\n0F h G\n2-07-1010\nP-4 r-196\n0F h G\n00 h G\n")
  pub case_203_2 : Prints
      (codes "HEX 8 f STO f 3\nHEX 6 5 STO SST\ng 4 5\nHEX 1 4 ENTER 0 ENTER F F ENTER 1 g ENTER\nHEX B BIN\nRCL . 8\n1\nRDN\nRDN\nRDN\ng ENTER\nRCL SST\nf .\nf 0\nHEX\nRCL 0\n")
      (codes "0 h\n65 h\n65 h G\n0 h G\n1011 b G\n0 b G\n1 b G\n0 b G\n1011 b G\n0 b G\n0 b G\n1100101 b G\n0-08-0000\nP-0 r-203\n65 h G\n0 h G\n")
  pub case_204_1 : Prints
      (codes "HEX 1 1 f STO f 3\ng R/S g GTO A RCL . 9 1 g R/S\nHEX B 1 F F ENTER 1 C 2 D 2 ENTER 0 ENTER 1 g ENTER\ng STO\nSST\nGTO A\nSST SST\nSST\n1\nRDN\nRDN\nRDN\ng ENTER\nRCL SST\nf .\nf 0\nHEX\nRCL 0\n")
      (codes "0 h\n0 h\n0 h\n h.\n1 h\n1 h\n0 h\n1 h\n11 h\n0 h\n1 h\n0 h\n0 h\n0 h\n0-17-0000\nP-4 r-78\n0 h\n0 h\n")
  pub case_204_2 : Prints
      (codes "HEX 4 f STO f 2\ng R/S g GTO A RCL . 9 1 g R/S\nHEX 9 STO SST\ng 4 1\nHEX 7 ENTER F ENTER 7 ENTER 1 g ENTER\nHEX 7 DEC\nSST\nGTO A\nSST SST\nSST\n1\nRDN\nRDN\nRDN\ng ENTER\nRCL SST\nf .\nf 0\nHEX\nRCL 0\n")
      (codes "0 h\n0 h\n9 h\n9 h\n0 h\n7 d\n1 d\n1 d\n0 d\n1 d\n1 d\n0 d\n1 d\n7 d\n0 d\n-7 d\n2-04-0010\nP-4 r-392\n9 h\n0 h\n")
  pub case_205_1 : Prints
      (codes "HEX 8 f STO f 1\ng 4 5\ng 4 0\nHEX 1 STO 0\nHEX B ENTER 4 6 ENTER 9 ENTER 1 g ENTER\nE\nRCL . A\n1\nRDN\nRDN\nRDN\ng ENTER\nRCL SST\nf .\nf 0\nHEX\nRCL 0\n")
      (codes "0 h\n0 h G\n0 h G\n1 h G\n0 h G\nE h G\n0 h G\n1 h G\n0 h G\nE h G\n0 h G\n0 h G\n0 h G\n1-08-0001\nP-0 r-203\n0 h G\n1 h G\n")
  pub case_205_2 : Prints
      (codes "HEX 1 F f STO f 3\ng 4 2\ng 4 5\nHEX 0 STO 2\nHEX 1 ENTER 8 ENTER 1 ENTER 3 F F F F F F F g ENTER\nRDN 7\nRCL . A\n1\nRDN\nRDN\nRDN\ng ENTER\nRCL SST\nf .\nf 0\nHEX\nRCL 0\n")
      (codes "0 h\n0 h\n0 h G\n0 h G\n0 h G\n7 h G\n0 h G\n1 h G\n0 h G\n7 h G\n3FFFFFFF h G\n0 h G\n0 h G\n0-31-0100\nP-0 r-50\n0 h G\n0 h G\n")
  pub case_206_1 : Prints
      (codes "HEX 1 1 f STO f 3\ng R/S g GTO A RCL . B 1 g R/S\ng 4 0\ng 4 2\nHEX 0 STO 0\nHEX E 6 8 ENTER 1 0 0 0 0 ENTER 1 1 ENTER 1 9 9 4 D g ENTER\n4\nSST\nGTO A\nSST SST\nSST\n1\nRDN\nRDN\nRDN\ng ENTER\nRCL SST\nf .\nf 0\nHEX\nRCL 0\n")
      (codes "0 h\n0 h\n0 h\n0 h\n0 h\n0 h\n4 h\n1 h\n1 h\n0 h\n1 h\n11 h\n0 h\n1 h\n4 h\n0 h\n0 h\n0-17-0101\nP-4 r-78\n0 h\n0 h\n")
  pub case_206_2 : Prints
      (codes "HEX 4 0 f STO f 2\ng R/S g GTO A RCL . B 1 g R/S\nHEX 2 8 STO SST\nHEX 7 F F F F F F F F F F F F F F F STO 0\nHEX 7 F F F F F F F F F F F F F F F ENTER 4 5 C 9 4 A 7 7 B E B E 5 7 3 C ENTER 3 5 1 B A B 5 1 5 3 A A D F 9 8 ENTER 8 0 0 0 0 0 0 0 0 0 0 0 0 0 0 0 g ENTER\ng BSP BIN\nSST\nGTO A\nSST SST\nSST\n1\nRDN\nRDN\nRDN\ng ENTER\nRCL SST\nf .\nf 0\nHEX\nRCL 0\n")
      (codes "0 h\n0 h\n28 h\nFFFFFFFF .h\n0 h\n0 b\n1 b\n1 b\nError 3\nError 3\n1 b\n1 b\n00000000 .b\n10011000 .b\n0 b\n101000 b\n2-64-0000\nP-4 r-24\n28 h\nFFFFFFFF .h\n")
  pub case_207_1 : Prints
      (codes "HEX 7 f STO f 1\nHEX 4 2 STO 2\nHEX 7 F ENTER 3 F ENTER 4 3 ENTER 7 F g ENTER\nHEX 3\nRCL . C\n1\nRDN\nRDN\nRDN\ng ENTER\nRCL SST\nf .\nf 0\nHEX\nRCL 0\n")
      (codes "0 h\n42 h\n0 h\n3 h\n0 h\n1 h\n0 h\n3 h\n0 h\n0 h\n0 h\n1-07-0000\nP-0 r-203\n0 h\n0 h\n")
  pub case_207_2 : Prints
      (codes "HEX 1 1 f STO f 1\nHEX F 7 B B STO 2\nHEX 9 ENTER 1 A C 8 E ENTER 1 0 0 0 0 ENTER 1 F E 7 6 g ENTER\nBSP\nRCL . C\n1\nRDN\nRDN\nRDN\ng ENTER\nRCL SST\nf .\nf 0\nHEX\nRCL 0\n")
      (codes "0 h\nF7BB h\n0 h\n0 h\n0 h\n1 h\n0 h\n1FE76 h\n10000 h\n0 h\n0 h\n1-17-0000\nP-0 r-81\n0 h\n0 h\n")
  pub case_208_1 : Prints
      (codes "HEX 2 8 f STO f 2\ng R/S g GTO A RCL . D 1 g R/S\nHEX 1 STO SST\nHEX 7 F F F F F F F F F ENTER 0 ENTER F F F F F F F F F F ENTER 1 g ENTER\n5 DEC\nSST\nGTO A\nSST SST\nSST\n1\nRDN\nRDN\nRDN\ng ENTER\nRCL SST\nf .\nf 0\nHEX\nRCL 0\n")
      (codes "0 h\n0 h\n1 h\n0 h\n5 d\n1 d\n1 d\n0 d\n1 d\n11 d\n0 d\n1 d\n5 d\n0 d\n1 d\n2-40-0000\nP-4 r-39\n1 h\n0 h\n")
  pub case_208_2 : Prints
      (codes "HEX 1 0 f STO f 2\ng 4 1\nHEX 8 0 0 0 STO 0\nHEX F F F F ENTER F B 6 C ENTER F F F F ENTER 7 F F F g ENTER\ng STO\nRCL . D\n1\nRDN\nRDN\nRDN\ng ENTER\nRCL SST\nf .\nf 0\nHEX\nRCL 0\n")
      (codes "0 h\n0 h\n8000 h\n0 h\n h.\n0 h\n1 h\n0 h\n0 h\n7FFF h\n0 h\n0 h\n2-16-0010\nP-0 r-101\n0 h\n8000 h\n")
  pub case_209_1 : Prints
      (codes "HEX F f STO f 3\nHEX 2 8 STO SST\ng 4 0\ng 4 1\ng 4 3\nHEX 0 ENTER 7 F F F ENTER 0 ENTER 7 F F F g ENTER\nRDN 3\nRCL . E\n1\nRDN\nRDN\nRDN\ng ENTER\nRCL SST\nf .\nf 0\nHEX\nRCL 0\n")
      (codes "0 h\n28 h\n28 h\n28 h\n0028 h\n0000 h\n0003 h\n0000 h\n0001 h\n0000 h\n0003 h\n7FFF h\n0000 h\n0028 h\n0-15-1011\nP-0 r-101\n0028 h\n0000 h\n")
  pub case_209_2 : Prints
      (codes "HEX 1 1 f STO f 3\ng 4 0\nHEX B B 9 ENTER 1 6 1 F 3 ENTER 5 ENTER 2 E E 6 g ENTER\nHEX 1 OCT\nRCL . E\n1\nRDN\nRDN\nRDN\ng ENTER\nRCL SST\nf .\nf 0\nHEX\nRCL 0\n")
      (codes "0 h\n0 h\n0 h\n1 o\n0 o\n1 o\n0 o\n1 o\n0 o\n0 o\n0 o\n0-17-0001\nP-0 r-81\n0 h\n0 h\n")
