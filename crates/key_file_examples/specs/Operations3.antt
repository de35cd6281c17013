-- Key files and what they print. Written by scripts/state_key_files.py.
use Rattle.std.specs.Prelude.{codes}
use Rattle.hp_model.specs.WorkedKeyFiles.{Prints}

pub record Operations3 : Type 0 where
  pub case_30_1 : Prints
      (codes "HEX F f STO f 1\ng 4 4\ng 4 5\ng 4 2\nHEX 0 STO 3\nHEX 0 ENTER 7 F F F ENTER 1 ENTER 3 F F F g ENTER\ng BSP BIN\nBIN\n1\nRDN\nRDN\nRDN\ng ENTER\nRCL SST\nf .\nf 0\nHEX\nRCL 0\n")
      (codes "0 h\n0 h C\n0 h C G\n0 h C G\n0 h C G\n0 h C G\n0 b C G\n0 b C G\n1 b C G\n11111111 .b C G\n1 b C G\n11111111 .b C G\n0 b C G\n0 b C G\n1-15-0100\nP-0 r-101\n0 h C G\n0 h C G\n")
  pub case_30_2 : Prints
      (codes "HEX 1 0 f STO f 2\nHEX 6 5 STO SST\nHEX 7 F F F STO 1\nHEX 7 F F F ENTER E B F 3 ENTER 8 0 0 0 ENTER 8 9 5 F g ENTER\ng STO\nBIN\n1\nRDN\nRDN\nRDN\ng ENTER\nRCL SST\nf .\nf 0\nHEX\nRCL 0\n")
      (codes "0 h\n65 h\n7FFF h\n0 h\n h.\n0 b\n1 b\n0 b\n01011111 .b\n00000000 .b\n0 b\n1100101 b\n2-16-0000\nP-0 r-101\n65 h\n0 h\n")
  pub case_31_1 : Prints
      (codes "HEX 4 0 f STO f 1\ng 4 0\nHEX 0 ENTER E B E B 1 7 2 3 7 7 5 6 B 5 1 C ENTER 6 2 A F 7 B 2 6 8 B 7 1 5 2 E ENTER 1 g ENTER\n OCT\nf A\n1\nRDN\nRDN\nRDN\ng ENTER\nRCL SST\nf .\nf 0\nHEX\nRCL 0\n")
      (codes "0 h\n0 h\n0 h\n0 o\n0 o\n1 o\n0 o\n1 o\n55612456 .o\n0 o\n0 o\n1-64-0001\nP-0 r-25\n0 h\n0 h\n")
  pub case_31_2 : Prints
      (codes "HEX 1 F f STO f 3\ng 4 3\ng 4 1\ng 4 2\nHEX 4 0 0 0 0 0 0 0 STO 0\nHEX 7 F F F F F F F ENTER 4 3 A 1 0 C 4 0 ENTER 3 F F F F F F F ENTER 3 F F F F F F F g ENTER\nENTER BIN\nf A\n1\nRDN\nRDN\nRDN\ng ENTER\nRCL SST\nf .\nf 0\nHEX\nRCL 0\n")
      (codes "0 h\n00000000 h\n00000000 h\n00000000 h\n40000000 h\n00000000 h\n00000000 .b\n00000000 .b\n00000001 .b\n00000000 .b\n00000000 .b\n11111111 .b\n00000000 .b\n00000000 .b\n0-31-1110\nP-0 r-50\n00000000 h\n40000000 h\n")
  pub case_32_1 : Prints
      (codes "HEX 8 f STO f 2\ng 4 3\ng 4 5\ng 4 1\nHEX 8 STO 1\nHEX 5 ENTER 1 ENTER 1 ENTER F F g ENTER\nRDN 6\nf B\n1\nRDN\nRDN\nRDN\ng ENTER\nRCL SST\nf .\nf 0\nHEX\nRCL 0\n")
      (codes "0 h\n00 h\n00 h G\n00 h G\n08 h G\n00 h G\n06 h G\n03 h G\n01 h G\n03 h G\nFF h G\n01 h G\n06 h G\n00 h G\n2-08-1010\nP-0 r-203\n00 h G\n00 h G\n")
  pub case_32_2 : Prints
      (codes "HEX 3 0 f STO f 1\ng R/S g GTO A f B 1 g R/S\nHEX F F F F F F F F F F F F ENTER F F F F F F F F F F F F ENTER 2 8 ENTER 9 4 D 1 F A 6 C 0 D 7 1 g ENTER\nHEX 6 OCT\nSST\nGTO A\nSST SST\nSST\n1\nRDN\nRDN\nRDN\ng ENTER\nRCL SST\nf .\nf 0\nHEX\nRCL 0\n")
      (codes "0 h\n0 h\n0 h\n6 o\n1 o\n1 o\n0 o C\n1 o C\n11 o C\n0 o C\n6 o C\n0 o C\n1 o C\n0 o C\n1-48-0000\nP-4 r-32\n0 h C\n0 h C\n")
  pub case_33_1 : Prints
      (codes "HEX 1 1 f STO f 3\ng 4 1\nHEX 1 F F F F STO 0\nHEX 1 6 7 6 F ENTER 1 F F F F ENTER 0 ENTER B g ENTER\nHEX 4\ng B\n1\nRDN\nRDN\nRDN\ng ENTER\nRCL SST\nf .\nf 0\nHEX\nRCL 0\n")
      (codes "0 h\n0 h\n1FFFF h\n0 h\n4 h\n2 h\n1 h\n2 h\n0 h\nB h\n4 h\n0 h\n0-17-0010\nP-0 r-81\n0 h\n1FFFF h\n")
  pub case_33_2 : Prints
      (codes "HEX 3 0 f STO f 1\nHEX 1 STO SST\nHEX 0 ENTER 2 C B A 6 9 1 C 3 2 3 1 ENTER F D 2 8 3 0 3 0 D B B F ENTER 7 F F F F F F F F F F F g ENTER\n3\ng B\n1\nRDN\nRDN\nRDN\ng ENTER\nRCL SST\nf .\nf 0\nHEX\nRCL 0\n")
      (codes "0 h\n1 h\n0 h\n3 h\n1 h C\n1 h C\n1 h C\n0 h C\nFFFFFFFF .h C\n3 h C\n1 h C\n1-48-0000\nP-0 r-33\n1 h C\n0 h C\n")
  pub case_34_1 : Prints
      (codes "HEX 1 f STO f 1\ng 4 0\nHEX 0 STO 1\nHEX 1 ENTER 1 ENTER 0 ENTER 1 g ENTER\nENTER DEC\nf C\n1\nRDN\nRDN\nRDN\ng ENTER\nRCL SST\nf .\nf 0\nHEX\nRCL 0\n")
      (codes "0 h\n0 h\n0 h\n0 h\n0 d\n0 d\n0 d\n0 d\n-0 d\n0 d\n0 d\n0 d\n1-01-0001\nP-0 r-406\n0 h\n0 h\n")
  pub case_34_2 : Prints
      (codes "HEX 1 1 f STO f 1\nHEX 6 5 STO SST\nHEX F F F F STO 3\nHEX 0 ENTER 1 0 0 0 0 ENTER 1 F F F F ENTER 1 0 0 0 0 g ENTER\nENTER\nf C\n1\nRDN\nRDN\nRDN\ng ENTER\nRCL SST\nf .\nf 0\nHEX\nRCL 0\n")
      (codes "0 h\n65 h\nFFFF h\n0 h\n0 h\n0 h\n1 h\n0 h\n0 h\n10000 h\n0 h\n65 h\n1-17-0000\nP-0 r-81\n65 h\n0 h\n")
  pub case_35_1 : Prints
      (codes "HEX 8 f STO f 2\ng R/S g GTO A f D 1 g R/S\nHEX 6 4 STO SST\ng 4 1\nHEX 7 A ENTER 8 0 ENTER F F ENTER F F g ENTER\ng BSP\nSST\nGTO A\nSST SST\nSST\n1\nRDN\nRDN\nRDN\ng ENTER\nRCL SST\nf .\nf 0\nHEX\nRCL 0\n")
      (codes "0 h\n0 h\n64 h\n64 h\n0 h\n0 h\n1 h\n1 h\n80 h C\n1 h C\n11 h C\n80 h C\nFF h C\nFF h C\n1 h C\n64 h C\n2-08-0010\nP-4 r-196\n64 h C\n0 h C\n")
  pub case_35_2 : Prints
      (codes "HEX C f STO f 1\nHEX 7 F F ENTER A 6 9 ENTER 1 ENTER 8 0 0 g ENTER\n\nf D\n1\nRDN\nRDN\nRDN\ng ENTER\nRCL SST\nf .\nf 0\nHEX\nRCL 0\n")
      (codes "0 h\n0 h\n0 h\n0 h\n1 h\n0 h\n800 h\n1 h\n0 h\n0 h\n1-12-0000\nP-0 r-135\n0 h\n0 h\n")
  pub case_36_1 : Prints
      (codes "HEX 1 f STO f 1\ng R/S g GTO A g C 1 g R/S\nHEX F STO SST\ng 4 5\ng 4 4\nHEX 0 STO 3\nHEX 1 ENTER 0 ENTER 0 ENTER 1 g ENTER\nBSP\nSST\nGTO A\nSST SST\nSST\n1\nRDN\nRDN\nRDN\ng ENTER\nRCL SST\nf .\nf 0\nHEX\nRCL 0\n")
      (codes "0 h\n0 h\n0 h\n0 h G\n0 h C G\n0 h C G\n0 h C G\n0 h C G\n1 h C G\n1 h C G\n1 h C G\n1 h C G\n1 h C G\n1 h C G\n1 h C G\n0 h C G\n1 h C G\n0 h C G\n1-01-0000\nP-4 r-392\n0 h C G\n0 h C G\n")
  pub case_36_2 : Prints
      (codes "HEX 1 F f STO f 2\ng R/S g GTO A g C 1 g R/S\ng 4 0\nHEX 3 F F F F F F F ENTER 4 0 0 0 0 0 0 0 ENTER B ENTER 4 0 0 0 0 0 0 0 g ENTER\nRDN 9 HEX\nSST\nGTO A\nSST SST\nSST\n1\nRDN\nRDN\nRDN\ng ENTER\nRCL SST\nf .\nf 0\nHEX\nRCL 0\n")
      (codes "0 h\n0 h\n0 h\n0 h\n9 h\n1 h\n1 h\n2 h\n1 h\n11 h\n2 h\n9 h\n40000000 h\n1 h\n0 h\n2-31-0001\nP-4 r-49\n0 h\n0 h\n")
  pub case_37_1 : Prints
      (codes "HEX 4 0 f STO f 3\nHEX 8 0 0 0 0 0 0 0 0 0 0 0 0 0 0 0 ENTER 0 ENTER 0 ENTER 6 F 0 D 7 9 1 2 0 2 4 9 D B 7 3 g ENTER\nRDN 2 DEC\ng D\n1\nRDN\nRDN\nRDN\ng ENTER\nRCL SST\nf .\nf 0\nHEX\nRCL 0\n")
      (codes "0 h\n0 h\n2 d\n1 d\n1 d\n1 d\n62006387 .d\n0 d\n2 d\n0 d\n0-64-0000\nP-0 r-25\n0 h\n0 h\n")
  pub case_37_2 : Prints
      (codes "HEX 2 f STO f 1\ng 4 2\nHEX 1 STO 3\nHEX 1 ENTER 3 ENTER 3 ENTER 2 g ENTER\nBSP\ng D\n1\nRDN\nRDN\nRDN\ng ENTER\nRCL SST\nf .\nf 0\nHEX\nRCL 0\n")
      (codes "0 h\n0 h\n1 h\n0 h\n0 h\n0 h\n1 h\n0 h\n2 h\n3 h\n0 h\n0 h\n1-02-0100\nP-0 r-406\n0 h\n0 h\n")
  pub case_38_1 : Prints
      (codes "HEX 1 F f STO f 2\nHEX 1 STO SST\nHEX 0 ENTER 0 ENTER 4 0 0 0 0 0 0 0 ENTER 1 A g ENTER\nBSP\nf E\n1\nRDN\nRDN\nRDN\ng ENTER\nRCL SST\nf .\nf 0\nHEX\nRCL 0\n")
      (codes "0 h\n1 h\n0 h\n0 h\n1A h\n1 h\n1A h\n40000000 h\n0 h\n0 h\n1 h\n2-31-0000\nP-0 r-50\n1 h\n0 h\n")
  pub case_38_2 : Prints
      (codes "HEX 2 1 f STO f 2\ng 4 4\ng 4 5\ng 4 2\nHEX 1 F F F F F F F F STO F\nHEX 1 F F F F F F F F ENTER 1 F F F F F F F F ENTER 1 0 0 0 0 0 0 0 0 ENTER 1 g ENTER\n DEC\nf E\n1\nRDN\nRDN\nRDN\ng ENTER\nRCL SST\nf .\nf 0\nHEX\nRCL 0\n")
      (codes "0 h\n0 h C\n0 h C G\n0 h C G\nFFFFFFFF .h C G\n0 h C G\n0 d C G\n1 d C G\n1 d C G\n1 d C G\n-94967296 .d C G\n-1 d C G\n0 d C G\n0 d C G\n2-33-0100\nP-0 r-45\n0 h C G\n0 h C G\n")
  pub case_39_1 : Prints
      (codes "HEX 4 f STO f 1\nHEX 1 STO 1\nHEX F ENTER 0 ENTER 0 ENTER 0 g ENTER\nRDN 8\nf F\n1\nRDN\nRDN\nRDN\ng ENTER\nRCL SST\nf .\nf 0\nHEX\nRCL 0\n")
      (codes "0 h\n1 h\n0 h\n8 h\nError 2\n1 h\n8 h\n0 h\n0 h\n0 h\n0 h\n1-04-0000\nP-0 r-406\n0 h\n0 h\n")
  pub case_39_2 : Prints
      (codes "HEX 4 f STO f 2\nHEX 8 STO 3\nHEX F ENTER 1 ENTER F ENTER 4 g ENTER\nHEX 4\nf F\n1\nRDN\nRDN\nRDN\ng ENTER\nRCL SST\nf .\nf 0\nHEX\nRCL 0\n")
      (codes "0 h\n8 h\n0 h\n4 h\n0 h\n1 h\n0 h\n4 h\nF h\n4 h\n0 h\n2-04-0000\nP-0 r-406\n0 h\n0 h\n")
  pub case_40_1 : Prints
      (codes "HEX 3 0 f STO f 1\ng R/S g GTO A g E 1 g R/S\nHEX 9 STO SST\ng 4 0\ng 4 4\ng 4 2\nHEX 7 F F F F F F F F F F F STO F\nHEX 8 ENTER 0 ENTER F F F F F F F F F F F F ENTER F F F F F F F F F F F F g ENTER\nRDN\nSST\nGTO A\nSST SST\nSST\n1\nRDN\nRDN\nRDN\ng ENTER\nRCL SST\nf .\nf 0\nHEX\nRCL 0\n")
      (codes "0 h\n0 h\n9 h\n9 h\n9 h C\n9 h C\nFFFFFFFF .h C\n0 h C\nFFFFFFFF .h C\n1 h C\n1 h C\nFFFFFFFF .h C\n1 h C\n11 h C\nFFFFFFFF .h C\nFFFFFFFF .h C\n0 h C\n1 h C\n9 h C\n1-48-0101\nP-4 r-32\n9 h C\n0 h C\n")
  pub case_40_2 : Prints
      (codes "HEX 7 f STO f 1\nHEX 6 4 STO SST\ng 4 5\nHEX 4 0 STO 3\nHEX 7 F ENTER 0 ENTER 7 F ENTER 4 1 g ENTER\ng BSP HEX\ng E\n1\nRDN\nRDN\nRDN\ng ENTER\nRCL SST\nf .\nf 0\nHEX\nRCL 0\n")
      (codes "0 h\n64 h\n64 h G\n40 h G\n0 h G\n0 h G\n41 h G\n1 h G\n41 h G\n7F h G\n0 h G\n0 h G\n64 h G\n1-07-0000\nP-0 r-203\n64 h G\n0 h G\n")
  pub case_41_1 : Prints
      (codes "HEX 7 f STO f 1\ng R/S g GTO A g F 1 g R/S\ng 4 5\ng 4 2\nHEX 0 STO 3\nHEX 0 ENTER 4 0 ENTER 3 F ENTER 4 0 g ENTER\nBSP\nSST\nGTO A\nSST SST\nSST\n1\nRDN\nRDN\nRDN\ng ENTER\nRCL SST\nf .\nf 0\nHEX\nRCL 0\n")
      (codes "0 h\n0 h\n0 h G\n0 h G\n0 h G\n0 h G\n0 h G\n1 h G\n1 h G\n20 h G\n1 h G\n11 h G\n20 h G\n3F h G\n40 h G\n1 h G\n0 h G\n1-07-0100\nP-4 r-196\n0 h G\n0 h G\n")
  pub case_41_2 : Prints
      (codes "HEX 1 1 f STO f 2\ng R/S g GTO A g F 1 g R/S\nHEX 3 STO SST\ng 4 1\nHEX 0 ENTER F F F F ENTER 1 ENTER 0 g ENTER\nRDN F\nSST\nGTO A\nSST SST\nSST\n1\nRDN\nRDN\nRDN\ng ENTER\nRCL SST\nf .\nf 0\nHEX\nRCL 0\n")
      (codes "0 h\n0 h\n3 h\n3 h\n0 h\nF h\n1 h\n1 h\n7 h C\n1 h C\n11 h C\n7 h C\n0 h C\n1 h C\n1 h C\n3 h C\n2-17-0010\nP-4 r-78\n3 h C\n0 h C\n")
  pub case_42_1 : Prints
      (codes "HEX 2 8 f STO f 1\nHEX 2 8 STO SST\ng 4 0\nHEX 0 STO 1\nHEX 1 ENTER 8 0 0 0 0 0 0 0 0 0 ENTER 1 ENTER 1 C g ENTER\ng 4 2\ng A\n1\nRDN\nRDN\nRDN\ng ENTER\nRCL SST\nf .\nf 0\nHEX\nRCL 0\n")
      (codes "0 h\n28 h\n28 h\n0 h\n0 h\n0 h\n0 h\n1 h\n0 h\n0 h\n1C h\n0 h\n28 h\n1-40-0101\nP-0 r-40\n28 h\n0 h\n")
  pub case_42_2 : Prints
      (codes "HEX 1 F f STO f 3\nHEX 2 8 STO SST\ng 4 2\nHEX 4 0 0 0 0 0 0 0 ENTER 0 ENTER 7 9 9 8 2 1 9 2 ENTER 5 E 4 7 8 8 9 B g ENTER\nENTER\ng A\n1\nRDN\nRDN\nRDN\ng ENTER\nRCL SST\nf .\nf 0\nHEX\nRCL 0\n")
      (codes "0 h\n28 h\n28 h\n0 h\n0 h\n0 h\n1 h\n0 h\n0 h\n0 h\n0 h\n28 h\n0-31-0100\nP-0 r-50\n28 h\n0 h\n")
  pub case_43_1 : Prints
      (codes "HEX 8 f STO f 1\nHEX F STO SST\ng 4 4\ng 4 3\ng 4 1\nHEX C 3 ENTER D D ENTER 3 ENTER 0 g ENTER\ng 4 2\nf 7\n1\nRDN\nRDN\nRDN\ng ENTER\nRCL SST\nf .\nf 0\nHEX\nRCL 0\n")
      (codes "0 h\nF h\nF h C\n0F h C\n0F h C\n00 h C\n00 h C\n00 h C\n01 h C\n00 h C\n00 h C\n03 h C\n00 h C\n0F h C\n1-08-1110\nP-0 r-203\n0F h C\n00 h C\n")
  pub case_43_2 : Prints
      (codes "HEX 2 0 f STO f 2\ng 4 2\nHEX 1 B ENTER 1 ENTER B B E D 4 4 4 9 ENTER 0 g ENTER\ng 4 2\nf 7\n1\nRDN\nRDN\nRDN\ng ENTER\nRCL SST\nf .\nf 0\nHEX\nRCL 0\n")
      (codes "0 h\n0 h\n0 h\n0 h\n0 h\n1 h\n0 h\n0 h\nBBED4449 h\n0 h\n0 h\n2-32-0100\nP-0 r-50\n0 h\n0 h\n")
  pub case_44_1 : Prints
      (codes "HEX 1 1 f STO f 1\ng R/S g GTO A f 8 1 g R/S\nHEX 2 8 STO SST\nHEX 5 STO F\nHEX 1 ENTER 1 ENTER 1 F F F F ENTER F g ENTER\nRDN F\nSST\nGTO A\nSST SST\nSST\n1\nRDN\nRDN\nRDN\ng ENTER\nRCL SST\nf .\nf 0\nHEX\nRCL 0\n")
      (codes "0 h\n0 h\n28 h\n5 h\n0 h\nF h\n1 h\n1 h\n1 h\n1 h\n11 h\n1 h\nF h\nF h\n1 h\n28 h\n1-17-0000\nP-4 r-78\n28 h\n0 h\n")
  pub case_44_2 : Prints
      (codes "HEX 1 8 f STO f 1\ng R/S g GTO A f 8 1 g R/S\nHEX 2 STO SST\nHEX F F F 5 F 5 STO 1\nHEX 8 0 0 0 0 0 ENTER 7 F F F F F ENTER 8 6 D F A 3 ENTER 5 7 A 9 D E g ENTER\n DEC\nSST\nGTO A\nSST SST\nSST\n1\nRDN\nRDN\nRDN\ng ENTER\nRCL SST\nf .\nf 0\nHEX\nRCL 0\n")
      (codes "0 h\n0 h\n2 h\nFFF5F5 h\n0 h\n0 d\n1 d\n1 d\n1 d\n1 d\n11 d\n1 d\n0 d\n5745118 d\n1 d\n2 d\n1-24-0000\nP-4 r-65\n2 h\n0 h\n")
