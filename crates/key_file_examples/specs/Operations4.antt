-- Key files and what they print. Written by scripts/state_key_files.py.
use Rattle.std.specs.Prelude.{codes}
use Rattle.hp_model.specs.WorkedKeyFiles.{Prints}

pub record Operations4 : Type 0 where
  pub case_45_1 : Prints
      (codes "HEX C f STO f 2\ng R/S g GTO A g 7 1 g R/S\nHEX 3 STO SST\ng 4 4\ng 4 0\nHEX F F F ENTER 7 3 9 ENTER 1 ENTER 8 0 0 g ENTER\nRDN HEX\nSST\nGTO A\nSST SST\nSST\n1\nRDN\nRDN\nRDN\ng ENTER\nRCL SST\nf .\nf 0\nHEX\nRCL 0\n")
      (codes "0 h\n0 h\n3 h\n3 h C\n3 h C\n0 h C\n800 h C\n1 h C\n1 h C\n1 h C\n1 h C\n11 h C\n1 h C\n800 h C\n1 h C\n1 h C\n3 h C\n2-12-0001\nP-4 r-130\n3 h C\n0 h C\n")
  pub case_45_2 : Prints
      (codes "HEX 8 f STO f 3\ng R/S g GTO A g 7 1 g R/S\ng 4 3\ng 4 4\nHEX 8 0 ENTER 1 ENTER 7 F ENTER F F g ENTER\ng 4 2 f ENTER 1\nSST\nGTO A\nSST SST\nSST\n1\nRDN\nRDN\nRDN\ng ENTER\nRCL SST\nf .\nf 0\nHEX\nRCL 0\n")
      (codes "0 h\n0 h\n00 h\n00 h C\n00 h C\n h. C\n01 h C\n01 h C\n01 h C\n01 h C\n11 h C\n01 h C\n00 h C\nFF h C\n01 h C\n00 h C\n0-08-1100\nP-4 r-196\n00 h C\n00 h C\n")
  pub case_46_1 : Prints
      (codes "HEX 4 f STO f 2\nHEX 1 STO SST\ng 4 1\ng 4 4\nHEX 1 STO 3\nHEX 8 ENTER 1 ENTER F ENTER 7 g ENTER\nHEX F\nf 4\n1\nRDN\nRDN\nRDN\ng ENTER\nRCL SST\nf .\nf 0\nHEX\nRCL 0\n")
      (codes "0 h\n1 h\n1 h\n1 h C\n1 h C\n0 h C\nF h C\n2 h C\n1 h C\n2 h C\n7 h C\nF h C\nF h C\n1 h C\n2-04-0010\nP-0 r-406\n1 h C\n0 h C\n")
  pub case_46_2 : Prints
      (codes "HEX 7 f STO f 2\ng 4 0\ng 4 4\ng 4 3\nHEX 6 STO 1\nHEX 1 ENTER 0 ENTER 0 ENTER 0 g ENTER\ng 4 2\nf 4\n1\nRDN\nRDN\nRDN\ng ENTER\nRCL SST\nf .\nf 0\nHEX\nRCL 0\n")
      (codes "0 h\n0 h\n0 h C\n00 h C\n06 h C\n00 h C\n00 h C\n01 h C\n01 h C\n01 h C\n00 h C\n00 h C\n00 h C\n00 h C\n2-07-1101\nP-0 r-203\n00 h C\n00 h C\n")
  pub case_47_1 : Prints
      (codes "HEX 1 0 f STO f 3\ng R/S g GTO A f 5 1 g R/S\ng 4 1\nHEX 0 ENTER 7 F F F ENTER 6 ENTER 1 g ENTER\nENTER HEX\nSST\nGTO A\nSST SST\nSST\n1\nRDN\nRDN\nRDN\ng ENTER\nRCL SST\nf .\nf 0\nHEX\nRCL 0\n")
      (codes "0 h\n0 h\n0 h\n0 h\n0 h\n1 h\n1 h\n0 h\n1 h\n11 h\n0 h\n1 h\n6 h\n1 h\n0 h\n0-16-0010\nP-4 r-98\n0 h\n0 h\n")
  pub case_47_2 : Prints
      (codes "HEX 2 1 f STO f 1\ng 4 5\nHEX 1 F F F F F F F F STO F\nHEX B B F 3 D D 8 E ENTER 1 F F F F F F F F ENTER 0 ENTER 0 g ENTER\n5 BIN\nf 5\n1\nRDN\nRDN\nRDN\ng ENTER\nRCL SST\nf .\nf 0\nHEX\nRCL 0\n")
      (codes "0 h\n0 h G\nFFFFFFFF .h G\n0 h G\n101 b G\n0 b G\n1 b G\n0 b G\n0 b G\n0 b G\n101 b G\n0 b G\n1-33-0000\nP-0 r-45\n0 h G\n0 h G\n")
  pub case_48_1 : Prints
      (codes "HEX 7 f STO f 2\ng R/S g GTO A f 6 1 g R/S\nHEX 7 4 ENTER 0 ENTER 3 F ENTER 4 0 g ENTER\nRDN\nSST\nGTO A\nSST SST\nSST\n1\nRDN\nRDN\nRDN\ng ENTER\nRCL SST\nf .\nf 0\nHEX\nRCL 0\n")
      (codes "0 h\n0 h\n0 h\n40 h\n1 h\n1 h\n40 h\n40 h\n1 h\n40 h\n3F h\n0 h\n1 h\n0 h\n2-07-0000\nP-4 r-196\n0 h\n0 h\n")
  pub case_48_2 : Prints
      (codes "HEX 1 0 f STO f 2\nHEX 2 STO SST\ng 4 1\ng 4 4\ng 4 5\nHEX 6 F 5 3 STO 1\nHEX 1 ENTER 1 D A 5 ENTER 6 9 9 5 ENTER F F F F g ENTER\nRDN\nf 6\n1\nRDN\nRDN\nRDN\ng ENTER\nRCL SST\nf .\nf 0\nHEX\nRCL 0\n")
      (codes "0 h\n2 h\n2 h\n2 h C\n2 h C G\n6F53 h C G\n0 h C G\nFFFF h C G\n6995 h C G\n1 h C G\n6995 h C G\n1DA5 h C G\n0 h C G\nFFFF h C G\n2 h C G\n2-16-0010\nP-0 r-101\n2 h C G\n0 h C G\n")
  pub case_49_1 : Prints
      (codes "HEX 4 0 f STO f 3\ng R/S g GTO A f - 1 g R/S\ng 4 2\ng 4 3\nHEX 8 0 0 0 0 0 0 0 0 0 0 0 0 0 0 0 STO 3\nHEX F F F F F F F F F F F F F F F F ENTER 3 6 ENTER 0 ENTER 7 F F F F F F F F F F F F F F F g ENTER\ng BSP DEC\nSST\nGTO A\nSST SST\nSST\n1\nRDN\nRDN\nRDN\ng ENTER\nRCL SST\nf .\nf 0\nHEX\nRCL 0\n")
      (codes "0 h\n0 h\n0 h\n00000000 .h\n00000000 .h\n00000000 .h\n0 d\n1 d\n1 d\n09551614 .d\n1 d\n11 d\n09551614 .d\n54775807 .d\n0 d\n1 d\n0 d\n0-64-1100\nP-4 r-24\n00000000 .h\n00000000 .h\n")
  pub case_49_2 : Prints
      (codes "HEX 2 0 f STO f 1\ng 4 2\nHEX 1 ENTER 5 0 B 9 C F 7 3 ENTER 8 F 0 4 4 0 9 1 ENTER 7 F F F F F F F g ENTER\nA OCT\nf -\n1\nRDN\nRDN\nRDN\ng ENTER\nRCL SST\nf .\nf 0\nHEX\nRCL 0\n")
      (codes "0 h\n0 h\n0 h\n12 o\n77777765 .o\n1 o\n77777765 .o\n0 o\n77777777 .o\n12 o\n0 o\n1-32-0100\nP-0 r-50\n0 h\n0 h\n")
  pub case_50_1 : Prints
      (codes "HEX C f STO f 1\ng 4 5\ng 4 1\nHEX 8 STO 2\nHEX F F F ENTER 8 0 0 ENTER 7 F F ENTER F F F g ENTER\nBSP\nf *\n1\nRDN\nRDN\nRDN\ng ENTER\nRCL SST\nf .\nf 0\nHEX\nRCL 0\n")
      (codes "0 h\n0 h G\n0 h G\n8 h G\n0 h G\n0 h G\n0 h G\n1 h G\n0 h G\n7FF h G\n800 h G\n0 h G\n0 h G\n1-12-0010\nP-0 r-135\n0 h G\n0 h G\n")
  pub case_50_2 : Prints
      (codes "HEX 5 f STO f 2\ng 4 2\nHEX 1 STO 3\nHEX 1 F ENTER 1 ENTER 1 ENTER 1 g ENTER\nRDN 4\nf *\n1\nRDN\nRDN\nRDN\ng ENTER\nRCL SST\nf .\nf 0\nHEX\nRCL 0\n")
      (codes "0 h\n0 h\n1 h\n0 h\n4 h\n0 h\n1 h\n0 h\n1 h\n1 h\n4 h\n0 h\n2-05-0100\nP-0 r-203\n0 h\n0 h\n")
  pub case_51_1 : Prints
      (codes "HEX 3 f STO f 3\nHEX 9 STO SST\ng 4 3\ng 4 2\nHEX 3 ENTER 7 ENTER 3 ENTER 3 g ENTER\nRDN DEC\nf +\n1\nRDN\nRDN\nRDN\ng ENTER\nRCL SST\nf .\nf 0\nHEX\nRCL 0\n")
      (codes "0 h\n0 h\n0 h\n0 h\n0 h\n3 d\n3 d\n1 d\n3 d\n7 d\n0 d\n3 d\n0 d\n0-03-1100\nP-0 r-406\n0 h\n0 h\n")
  pub case_51_2 : Prints
      (codes "HEX 9 f STO f 3\ng 4 4\ng 4 0\ng 4 1\nHEX 9 6 STO 1\nHEX 5 ENTER 1 ENTER 6 1 ENTER 8 4 g ENTER\nHEX D\nf +\n1\nRDN\nRDN\nRDN\ng ENTER\nRCL SST\nf .\nf 0\nHEX\nRCL 0\n")
      (codes "0 h\n0 h C\n0 h C\n0 h C\n96 h C\n0 h C\nD h C\nD h C\n1 h C\nD h C\n84 h C\n61 h C\nD h C\n0 h C\n0-09-0011\nP-0 r-135\n0 h C\n0 h C\n")
  pub case_52_1 : Prints
      (codes "HEX 1 f STO f 3\ng R/S g GTO A f / 1 g R/S\nHEX 1 STO 3\nHEX 0 ENTER 1 ENTER 1 ENTER 1 g ENTER\nRDN\nSST\nGTO A\nSST SST\nSST\n1\nRDN\nRDN\nRDN\ng ENTER\nRCL SST\nf .\nf 0\nHEX\nRCL 0\n")
      (codes "0 h\n0 h\n1 h\n0 h\n1 h\n1 h\n1 h\n0 h\n1 h\n1 h\n0 h\n1 h\n1 h\n1 h\n0 h\n0-01-0000\nP-4 r-392\n0 h\n0 h\n")
  pub case_52_2 : Prints
      (codes "HEX C f STO f 3\ng R/S g GTO A f / 1 g R/S\nHEX 6 C D ENTER 2 ENTER 1 ENTER F F F g ENTER\n0 BIN\nSST\nGTO A\nSST SST\nSST\n1\nRDN\nRDN\nRDN\ng ENTER\nRCL SST\nf .\nf 0\nHEX\nRCL 0\n")
      (codes "0 h\n0 h\n0 h\n0 b\n1 b\n1 b\n1 b\n1 b\n11 b\n1 b\n0 b\n11111111 .b\n1 b\n0 b\n0-12-0000\nP-4 r-130\n0 h\n0 h\n")
  pub case_53_1 : Prints
      (codes "HEX 7 f STO f 1\nHEX 3 STO 0\nHEX 7 F ENTER 4 F ENTER 1 ENTER 1 g ENTER\nENTER\ng 8\n1\nRDN\nRDN\nRDN\ng ENTER\nRCL SST\nf .\nf 0\nHEX\nRCL 0\n")
      (codes "0 h\n3 h\n0 h\n0 h\n0 h\n1 h\n0 h\n0 h\n1 h\n0 h\n0 h\n1-07-0000\nP-0 r-203\n0 h\n3 h\n")
  pub case_53_2 : Prints
      (codes "HEX 2 f STO f 3\ng R/S g GTO A g 8 1 g R/S\ng 4 3\ng 4 2\ng 4 0\nHEX 2 ENTER 2 ENTER 0 ENTER 2 g ENTER\nENTER f ENTER 1\nSST\nGTO A\nSST SST\nSST\n1\nRDN\nRDN\nRDN\ng ENTER\nRCL SST\nf .\nf 0\nHEX\nRCL 0\n")
      (codes "0 h\n0 h\n0 h\n0 h\n0 h\n0 h\n h.\n1 h\n1 h\n1 h\n1 h\n1 h\n1 h\n0 h\n2 h\n1 h\n0 h\n0-02-1101\nP-4 r-392\n0 h\n0 h\n")
  pub case_54_1 : Prints
      (codes "HEX C f STO f 1\nHEX 9 STO SST\nHEX 1 E 6 STO 0\nHEX 0 ENTER 1 ENTER 8 0 0 ENTER 1 g ENTER\ng STO\nf 9\n1\nRDN\nRDN\nRDN\ng ENTER\nRCL SST\nf .\nf 0\nHEX\nRCL 0\n")
      (codes "0 h\n9 h\n1E6 h\n0 h\n h.\nError 0\n1 h\n0 h\n1 h\n800 h\n0 h\n9 h\n1-12-0000\nP-0 r-135\n9 h\n1E6 h\n")
  pub case_54_2 : Prints
      (codes "HEX 3 f STO f 1\nHEX 0 STO SST\ng 4 5\nHEX 4 STO 2\nHEX 0 ENTER 3 ENTER 2 ENTER 1 g ENTER\nHEX 3\nf 9\n1\nRDN\nRDN\nRDN\ng ENTER\nRCL SST\nf .\nf 0\nHEX\nRCL 0\n")
      (codes "0 h\n0 h\n0 h G\n4 h G\n0 h G\n3 h G\n0 h G\n1 h G\n0 h G\n1 h G\n2 h G\n3 h G\n0 h G\n1-03-0000\nP-0 r-406\n0 h G\n0 h G\n")
  pub case_55_1 : Prints
      (codes "HEX 1 1 f STO f 2\ng R/S g GTO A g OCT 1 g R/S\ng 4 1\nHEX 1 ENTER 7 ENTER B ENTER 1 2 A 5 8 g ENTER\ng 4 2\nSST\nGTO A\nSST SST\nSST\n1\nRDN\nRDN\nRDN\ng ENTER\nRCL SST\nf .\nf 0\nHEX\nRCL 0\n")
      (codes "0 h\n0 h\n0 h\n0 h\n0 h\n1 h\n1 h\n1 h\n1 h\n11 h\n1 h\n0 h\n12A58 h\n1 h\n0 h\n2-17-0110\nP-4 r-78\n0 h\n0 h\n")
  pub case_55_2 : Prints
      (codes "HEX 7 f STO f 1\ng R/S g GTO A g OCT 1 g R/S\nHEX F STO SST\nHEX 1 ENTER 0 ENTER 6 2 ENTER 4 C g ENTER\ng 4 2\nSST\nGTO A\nSST SST\nSST\n1\nRDN\nRDN\nRDN\ng ENTER\nRCL SST\nf .\nf 0\nHEX\nRCL 0\n")
      (codes "0 h\n0 h\nF h\n0 h\n0 h\n1 h\n1 h\n1 h\n1 h\n11 h\n1 h\n0 h\n4C h\n1 h\nF h\n1-07-0100\nP-4 r-196\nF h\n0 h\n")
  pub case_56_1 : Prints
      (codes "HEX 4 0 f STO f 1\ng R/S g GTO A g * 1 g R/S\nHEX 0 STO SST\ng 4 5\ng 4 3\ng 4 1\nHEX 1 D STO 2\nHEX F F F F F F F F F F F F F F F F ENTER 9 ENTER 8 0 0 0 0 0 0 0 0 0 0 0 0 0 0 0 ENTER 1 g ENTER\nRDN 5\nSST\nGTO A\nSST SST\nSST\n1\nRDN\nRDN\nRDN\ng ENTER\nRCL SST\nf .\nf 0\nHEX\nRCL 0\n")
      (codes "0 h\n0 h\n0 h\n0 h G\n00000000 .h G\n00000000 .h G\n0000001D .h G\n00000000 .h G\n00000005 .h G\n00000001 .h G\n00000001 .h G\n00000000 .h\n00000001 .h\n00000011 .h\n00000000 .h\n00000005 .h\n00000001 .h\n00000001 .h\n00000000 .h\n1-64-1010\nP-4 r-24\n00000000 .h\n00000000 .h\n")
  pub case_56_2 : Prints
      (codes "HEX 3 0 f STO f 1\nHEX D 4 0 2 A 1 5 5 C 1 5 6 STO 3\nHEX 8 0 0 0 0 0 0 0 0 0 0 0 ENTER 1 ENTER 8 0 0 0 0 0 0 0 0 0 0 0 ENTER 8 0 0 0 0 0 0 0 0 0 0 0 g ENTER\n DEC\ng *\n1\nRDN\nRDN\nRDN\ng ENTER\nRCL SST\nf .\nf 0\nHEX\nRCL 0\n")
      (codes "0 h\nA155C156 .h\n0 h\n0 d\n0 d\n1 d\n0 d\n0 d\n-88355327 .d\n0 d\n0 d\n1-48-0000\nP-0 r-33\n0 h\n0 h\n")
  pub case_57_1 : Prints
      (codes "HEX 9 f STO f 2\nHEX 0 STO SST\ng 4 3\nHEX F F STO 1\nHEX C 8 ENTER 1 0 0 ENTER 1 0 0 ENTER 1 g ENTER\nHEX 8 BIN\ng /\n1\nRDN\nRDN\nRDN\ng ENTER\nRCL SST\nf .\nf 0\nHEX\nRCL 0\n")
      (codes "0 h\n0 h\n000 h\n0FF h\n000 h\n00001000 .b\n00000000 .b C\n00000001 .b C\n00000000 .b C\n00000000 .b C\n00000000 .b C\n00001000 .b C\n00000000 .b C\n2-09-1000\nP-0 r-135\n000 h C\n000 h C\n")
  pub case_57_2 : Prints
      (codes "HEX 1 F f STO f 3\ng R/S g GTO A g / 1 g R/S\nHEX 6 5 STO SST\nHEX 2 8 A D B 1 C E STO 1\nHEX 1 5 9 4 E C D 2 ENTER 2 3 5 1 F C B 0 ENTER 5 F 1 5 1 E 8 6 ENTER 1 g ENTER\ng 4 2\nSST\nGTO A\nSST SST\nSST\n1\nRDN\nRDN\nRDN\ng ENTER\nRCL SST\nf .\nf 0\nHEX\nRCL 0\n")
      (codes "0 h\n0 h\n65 h\n28ADB1CE h\n0 h\n0 h\n1 h\n1 h\n1 h\n1 h\n11 h\n1 h\n5F151E86 h\n5F151E86 h\n1 h\n65 h\n0-31-0100\nP-4 r-49\n65 h\n0 h\n")
  pub case_58_1 : Prints
      (codes "HEX 1 F f STO f 2\ng 4 3\ng 4 2\nHEX 3 F F F F F F F STO 0\nHEX 0 ENTER 4 A B 0 B E E 9 ENTER 0 ENTER 1 g ENTER\nBSP\ng 9\n1\nRDN\nRDN\nRDN\ng ENTER\nRCL SST\nf .\nf 0\nHEX\nRCL 0\n")
      (codes "0 h\n00000000 h\n00000000 h\n3FFFFFFF h\n00000000 h\n00000000 h\nError 0\n00000001 h\n00000001 h\n00000000 h\n4AB0BEE9 h\n00000000 h\n00000000 h\n2-31-1100\nP-0 r-50\n00000000 h\n3FFFFFFF h\n")
  pub case_58_2 : Prints
      (codes "HEX 4 0 f STO f 3\ng 4 3\nHEX 1 ENTER F F F F F F F F F F F F F F F F ENTER A B 4 7 8 A A 1 B 0 C 5 D F A 5 ENTER 7 F F F F F F F F F F F F F F F g ENTER\nRDN E OCT\ng 9\n1\nRDN\nRDN\nRDN\ng ENTER\nRCL SST\nf .\nf 0\nHEX\nRCL 0\n")
      (codes "0 h\n00000000 .h\n00000000 .h\n00000016 .o\nError 0\n00000001 .o\n00000016 .o\n77777777 .o\n61357645 .o\n00000000 .o\n00000000 .o\n0-64-1000\nP-0 r-25\n00000000 .h\n00000000 .h\n")
  pub case_59_1 : Prints
      (codes "HEX 1 F f STO f 3\nHEX 3 STO SST\ng 4 2\ng 4 1\nHEX 5 D 9 B E 9 6 2 STO 2\nHEX 4 0 1 A 3 A 5 ENTER 1 ENTER 7 F F F F F F F ENTER F g ENTER\nRDN F\nf 1\n1\nRDN\nRDN\nRDN\ng ENTER\nRCL SST\nf .\nf 0\nHEX\nRCL 0\n")
      (codes "0 h\n3 h\n3 h\n3 h\n5D9BE962 h\n0 h\nF h\nF h\n1 h\nF h\nF h\n7FFFFFFF h\n0 h\n3 h\n1-31-0110\nP-0 r-50\n3 h\n0 h\n")
  pub case_59_2 : Prints
      (codes "HEX 9 f STO f 1\ng 4 3\nHEX 1 1 4 STO 2\nHEX F F ENTER 1 F F ENTER 1 F F ENTER 1 0 0 g ENTER\nRDN HEX\nf 1\n1\nRDN\nRDN\nRDN\ng ENTER\nRCL SST\nf .\nf 0\nHEX\nRCL 0\n")
      (codes "0 h\n000 h\n114 h\n000 h\n100 h\n100 h\n001 h\n100 h\n1FF h\n1FF h\n000 h\n000 h\n1-09-1000\nP-0 r-135\n000 h\n000 h\n")
