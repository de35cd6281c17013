-- Key files and what they print. Written by scripts/state_key_files.py.
use Rattle.std.specs.Prelude.{codes}
use Rattle.hp_model.specs.WorkedKeyFiles.{Prints}

pub record Operations6 : Type 0 where
  pub case_75_1 : Prints
      (codes "HEX F f STO f 3\ng 4 5\ng 4 2\nHEX 4 5 C 5 STO 0\nHEX 7 F F F ENTER 0 ENTER 4 8 2 D ENTER 7 F F F g ENTER\nENTER\ng 4 1\n1\nRDN\nRDN\nRDN\ng ENTER\nRCL SST\nf .\nf 0\nHEX\nRCL 0\n")
      (codes "0 h\n0 h G\n0 h G\n45C5 h G\n0 h G\n0 h G\n0 h G\n1 h G\n0 h G\n7FFF h G\n482D h G\n0 h G\n0 h G\n0-15-0110\nP-0 r-101\n0 h G\n45C5 h G\n")
  pub case_75_2 : Prints
      (codes "HEX F f STO f 2\ng 4 4\ng 4 0\ng 4 3\nHEX 5 E 8 B ENTER 1 ENTER 1 ENTER 5 6 2 D g ENTER\ng BSP\ng 4 1\n1\nRDN\nRDN\nRDN\ng ENTER\nRCL SST\nf .\nf 0\nHEX\nRCL 0\n")
      (codes "0 h\n0 h C\n0 h C\n0000 h C\n0000 h C\n0000 h C\n0000 h C\n0001 h C\n562D h C\n0001 h C\n0001 h C\n0000 h C\n0000 h C\n2-15-1011\nP-0 r-101\n0000 h C\n0000 h C\n")
  pub case_76_1 : Prints
      (codes "HEX 7 f STO f 2\ng 4 3\ng 4 4\nHEX 5 STO F\nHEX 0 ENTER 6 ENTER 0 ENTER 4 g ENTER\nBSP DEC\ng 4 2\n1\nRDN\nRDN\nRDN\ng ENTER\nRCL SST\nf .\nf 0\nHEX\nRCL 0\n")
      (codes "0 h\n00 h\n00 h C\n05 h C\n00 h C\n0 d C\n0 d C\n1 d C\n4 d C\n0 d C\n6 d C\n0 d C\n0 d C\n2-07-1100\nP-0 r-203\n00 h C\n00 h C\n")
  pub case_76_2 : Prints
      (codes "HEX 7 f STO f 2\ng 4 5\ng 4 2\ng 4 0\nHEX 7 F STO F\nHEX 5 ENTER 0 ENTER 1 ENTER 3 3 g ENTER\nHEX 8\ng 4 2\n1\nRDN\nRDN\nRDN\ng ENTER\nRCL SST\nf .\nf 0\nHEX\nRCL 0\n")
      (codes "0 h\n0 h G\n0 h G\n0 h G\n7F h G\n0 h G\n8 h G\n8 h G\n1 h G\n8 h G\n0 h G\n33 h G\n0 h G\n0 h G\n2-07-0101\nP-0 r-203\n0 h G\n0 h G\n")
  pub case_77_1 : Prints
      (codes "HEX 4 f STO f 3\ng R/S g GTO A g 4 3 1 g R/S\nHEX 6 5 STO SST\ng 4 0\ng 4 1\nHEX 0 ENTER 1 ENTER A ENTER 3 g ENTER\n BIN\nSST\nGTO A\nSST SST\nSST\n1\nRDN\nRDN\nRDN\ng ENTER\nRCL SST\nf .\nf 0\nHEX\nRCL 0\n")
      (codes "0 h\n0 h\n6 h\n6 h\n6 h\n0 h\n0 b\n1 b\n1 b\n0001 b\n0001 b\n0011 b\n0001 b\n0000 b\n0011 b\n0000 b\n0110 b\n0-04-1011\nP-4 r-392\n6 h\n0 h\n")
  pub case_77_2 : Prints
      (codes "HEX 4 0 f STO f 1\nHEX 8 0 0 0 0 0 0 0 0 0 0 0 0 0 0 0 ENTER 6 D A B E C 8 4 1 C B 5 E 6 6 7 ENTER F F F F F F F F F F F F F F F F ENTER 1 9 g ENTER\nRDN C HEX\ng 4 3\n1\nRDN\nRDN\nRDN\ng ENTER\nRCL SST\nf .\nf 0\nHEX\nRCL 0\n")
      (codes "0 h\n0 h\nC h\n0000000C .h\n00000001 .h\n0000000C .h\n00000019 .h\nFFFFFFFF .h\n00000000 .h\n00000000 .h\n1-64-1000\nP-0 r-25\n00000000 .h\n00000000 .h\n")
  pub case_78_1 : Prints
      (codes "HEX C f STO f 2\nHEX 2 8 STO SST\ng 4 2\ng 4 4\ng 4 0\nHEX E F 9 STO 3\nHEX 8 0 0 ENTER F F F ENTER 8 0 0 ENTER F F F g ENTER\nBSP HEX\ng 4 4\n1\nRDN\nRDN\nRDN\ng ENTER\nRCL SST\nf .\nf 0\nHEX\nRCL 0\n")
      (codes "0 h\n28 h\n28 h\n28 h C\n28 h C\nEF9 h C\n0 h C\n0 h C\n0 h C\n1 h C\nFFF h C\n800 h C\nFFF h C\n0 h C\n28 h C\n2-12-0101\nP-0 r-135\n28 h C\n0 h C\n")
  pub case_78_2 : Prints
      (codes "HEX 5 f STO f 2\ng 4 3\ng 4 5\nHEX 1 0 ENTER 5 ENTER F ENTER 1 F g ENTER\n DEC\ng 4 4\n1\nRDN\nRDN\nRDN\ng ENTER\nRCL SST\nf .\nf 0\nHEX\nRCL 0\n")
      (codes "0 h\n00 h\n00 h G\n00 h G\n0 d G\n0 d C G\n1 d C G\n0 d C G\n-1 d C G\n15 d C G\n0 d C G\n0 d C G\n2-05-1000\nP-0 r-203\n00 h C G\n00 h C G\n")
  pub case_79_1 : Prints
      (codes "HEX 1 8 f STO f 2\nHEX 1 STO F\nHEX F F F F F F ENTER 7 F F F F F ENTER 6 ENTER 1 g ENTER\ng 4 2\ng 4 5\n1\nRDN\nRDN\nRDN\ng ENTER\nRCL SST\nf .\nf 0\nHEX\nRCL 0\n")
      (codes "0 h\n1 h\n0 h\n0 h\n0 h G\n1 h G\n0 h G\n1 h G\n6 h G\n0 h G\n0 h G\n2-24-0100\nP-0 r-67\n0 h G\n0 h G\n")
  pub case_79_2 : Prints
      (codes "HEX 1 1 f STO f 2\nHEX 6 5 STO SST\nHEX 1 C 0 0 A STO 0\nHEX 0 ENTER 1 7 C 9 C ENTER 8 ENTER 1 B F A A g ENTER\n HEX\ng 4 5\n1\nRDN\nRDN\nRDN\ng ENTER\nRCL SST\nf .\nf 0\nHEX\nRCL 0\n")
      (codes "0 h\n65 h\n1C00A h\n0 h\n0 h\n0 h G\n1 h G\n0 h G\n1BFAA h G\n8 h G\n0 h G\n65 h G\n2-17-0000\nP-0 r-81\n65 h G\n1C00A h G\n")
  pub case_80_1 : Prints
      (codes "HEX 7 f STO f 1\ng 4 1\ng 4 2\nHEX 7 F STO 1\nHEX 1 4 ENTER 4 0 ENTER 2 E ENTER 5 g ENTER\nRDN 9 HEX\ng 5 0\n1\nRDN\nRDN\nRDN\ng ENTER\nRCL SST\nf .\nf 0\nHEX\nRCL 0\n")
      (codes "0 h\n0 h\n0 h\n7F h\n0 h\n9 h\n9 h\n1 h\n9 h\n5 h\n2E h\n0 h\n0 h\n1-07-0110\nP-0 r-203\n0 h\n0 h\n")
  pub case_80_2 : Prints
      (codes "HEX 5 f STO f 3\ng R/S g GTO A g 5 0 1 g R/S\nHEX 1 3 ENTER 1 F ENTER 0 ENTER 1 0 g ENTER\nRDN f ENTER 1\nSST\nGTO A\nSST SST\nSST\n1\nRDN\nRDN\nRDN\ng ENTER\nRCL SST\nf .\nf 0\nHEX\nRCL 0\n")
      (codes "0 h\n0 h\n0 h\n h.\n1 h\n1 h\n1 h\n1 h\n11 h\n1 h\n10 h\n0 h\n0 h\n0 h\n0-05-0000\nP-4 r-196\n0 h\n0 h\n")
  pub case_81_1 : Prints
      (codes "HEX 1 F f STO f 2\ng 4 0\nHEX 1 ENTER 1 ENTER 4 0 0 0 0 0 0 0 ENTER 1 4 8 3 4 B 0 7 g ENTER\nRDN\ng 5 1\n1\nRDN\nRDN\nRDN\ng ENTER\nRCL SST\nf .\nf 0\nHEX\nRCL 0\n")
      (codes "0 h\n0 h\n0 h\n14834B07 h\n14834B07 h\n1 h\n14834B07 h\n40000000 h\n1 h\n0 h\n0 h\n2-31-0001\nP-0 r-50\n0 h\n0 h\n")
  pub case_81_2 : Prints
      (codes "HEX 3 0 f STO f 1\nHEX 6 4 STO SST\ng 4 0\ng 4 3\nHEX 0 STO 0\nHEX 7 F F F F F F F F F F F ENTER 1 ENTER 1 ENTER 0 g ENTER\nRDN F\ng 5 1\n1\nRDN\nRDN\nRDN\ng ENTER\nRCL SST\nf .\nf 0\nHEX\nRCL 0\n")
      (codes "0 h\n64 h\n64 h\n00000064 .h\n00000000 .h\n00000000 .h\n0000000F .h\n0000000F .h\n00000001 .h\n0000000F .h\n00000000 .h\n00000001 .h\n00000000 .h\n00000064 .h\n1-48-1001\nP-0 r-33\n00000064 .h\n00000000 .h\n")
  pub case_82_1 : Prints
      (codes "HEX 3 0 f STO f 2\ng R/S g GTO A g 5 2 1 g R/S\ng 4 5\ng 4 4\nHEX F F F F F F F F F F F F ENTER E 4 5 E F C E A C 7 8 C ENTER 1 ENTER D 2 5 D 1 1 D 7 7 C B E g ENTER\nENTER\nSST\nGTO A\nSST SST\nSST\n1\nRDN\nRDN\nRDN\ng ENTER\nRCL SST\nf .\nf 0\nHEX\nRCL 0\n")
      (codes "0 h\n0 h\n0 h G\n0 h C G\n0 h C G\n0 h C G\n1 h C G\n1 h C G\n1 h C G\n1 h C G\n11 h C G\n1 h C G\n0 h C G\n11D77CBE .h C G\n0 h C G\n0 h C G\n2-48-0000\nP-4 r-32\n0 h C G\n0 h C G\n")
  pub case_82_2 : Prints
      (codes "HEX 1 f STO f 1\nHEX 1 STO 2\nHEX 0 ENTER 1 ENTER 0 ENTER 0 g ENTER\ng BSP BIN\ng 5 2\n1\nRDN\nRDN\nRDN\ng ENTER\nRCL SST\nf .\nf 0\nHEX\nRCL 0\n")
      (codes "0 h\n1 h\n0 h\n0 b\n0 b\n1 b\n0 b\n0 b\n1 b\n0 b\n0 b\n1-01-0000\nP-0 r-406\n0 h\n0 h\n")
  pub case_83_1 : Prints
      (codes "HEX 9 f STO f 3\nHEX 6 4 STO SST\nHEX 1 F F ENTER 1 0 0 ENTER F F ENTER 1 g ENTER\n8\ng 5 3\n1\nRDN\nRDN\nRDN\ng ENTER\nRCL SST\nf .\nf 0\nHEX\nRCL 0\n")
      (codes "0 h\n64 h\n0 h\n8 h\n8 h\n1 h\n8 h\n0 h\n1 h\n0 h\n64 h\n0-09-0000\nP-0 r-135\n64 h\n0 h\n")
  pub case_83_2 : Prints
      (codes "HEX C f STO f 2\ng 4 2\nHEX 0 ENTER 7 F F ENTER 1 9 7 ENTER 0 g ENTER\ng 4 2\ng 5 3\n1\nRDN\nRDN\nRDN\ng ENTER\nRCL SST\nf .\nf 0\nHEX\nRCL 0\n")
      (codes "0 h\n0 h\n0 h\n0 h\n0 h\n1 h\n0 h\n0 h\n197 h\n0 h\n0 h\n2-12-0100\nP-0 r-135\n0 h\n0 h\n")
  pub case_84_1 : Prints
      (codes "HEX 4 0 f STO f 3\ng R/S g GTO A g 5 4 1 g R/S\ng 4 5\nHEX 1 ENTER 6 6 6 E 4 1 4 C A 4 8 1 8 5 C 6 ENTER 6 E 4 D 8 4 8 B 0 7 0 2 B 9 8 9 ENTER 8 0 0 0 0 0 0 0 0 0 0 0 0 0 0 0 g ENTER\ng STO\nSST\nGTO A\nSST SST\nSST\n1\nRDN\nRDN\nRDN\ng ENTER\nRCL SST\nf .\nf 0\nHEX\nRCL 0\n")
      (codes "0 h\n0 h\n0 h G\n0 h G\n h. G\n1 h G\n1 h G\n1 h G\n1 h G\n11 h G\n1 h G\n0 h G\n00000000 .h G\n0 h G\n0 h G\n0-64-0000\nP-4 r-24\n0 h G\n0 h G\n")
  pub case_84_2 : Prints
      (codes "HEX 3 f STO f 2\ng 4 3\nHEX 0 ENTER 4 ENTER 1 ENTER 6 g ENTER\nBSP OCT\ng 5 4\n1\nRDN\nRDN\nRDN\ng ENTER\nRCL SST\nf .\nf 0\nHEX\nRCL 0\n")
      (codes "0 h\n0 h\n0 h\n0 o\n0 o\n1 o\n6 o\n1 o\n4 o\n0 o\n0 o\n2-03-1000\nP-0 r-406\n0 h\n0 h\n")
  pub case_85_1 : Prints
      (codes "HEX 8 f STO f 2\ng 4 1\ng 4 5\ng 4 3\nHEX 8 0 STO F\nHEX 0 ENTER 0 ENTER 5 7 ENTER 8 9 g ENTER\nENTER\ng 5 5\n1\nRDN\nRDN\nRDN\ng ENTER\nRCL SST\nf .\nf 0\nHEX\nRCL 0\n")
      (codes "0 h\n0 h\n0 h G\n00 h G\n80 h G\n00 h G\n00 h G\n00 h\n01 h\n00 h\n89 h\n57 h\n00 h\n00 h\n2-08-1010\nP-0 r-203\n00 h\n00 h\n")
  pub case_85_2 : Prints
      (codes "HEX 1 0 f STO f 2\ng 4 4\ng 4 0\nHEX 8 0 0 0 STO 0\nHEX 8 0 0 0 ENTER 1 ENTER 1 ENTER 7 F F F g ENTER\nBSP\ng 5 5\n1\nRDN\nRDN\nRDN\ng ENTER\nRCL SST\nf .\nf 0\nHEX\nRCL 0\n")
      (codes "0 h\n0 h C\n0 h C\n8000 h C\n0 h C\n0 h C\n0 h C\n1 h C\n7FFF h C\n1 h C\n1 h C\n0 h C\n0 h C\n2-16-0001\nP-0 r-101\n0 h C\n8000 h C\n")
  pub case_86_1 : Prints
      (codes "HEX 2 8 f STO f 3\ng R/S g GTO A g 6 0 1 g R/S\ng 4 4\ng 4 5\ng 4 3\nHEX 9 0 5 4 2 6 A E A B STO F\nHEX 6 7 E E A 5 3 9 4 2 ENTER F F F F F F F F F F ENTER F F F F F F F F F F ENTER 5 8 7 D 6 C 6 6 A F g ENTER\ng STO\nSST\nGTO A\nSST SST\nSST\n1\nRDN\nRDN\nRDN\ng ENTER\nRCL SST\nf .\nf 0\nHEX\nRCL 0\n")
      (codes "0 h\n0 h\n0 h C\n0 h C G\n00000000 .h C G\n5426AEAB .h C G\n00000000 .h C G\n00 h. C G\n00000001 .h C G\n00000001 .h C G\n00000001 .h C G\n00000001 .h C G\n00000001 .h C G\n00000001 .h C G\n00000000 .h C G\n7D6C66AF .h C G\n00000000 .h C G\n00000000 .h C G\n0-40-1000\nP-4 r-39\n00000000 .h C G\n00000000 .h C G\n")
  pub case_86_2 : Prints
      (codes "HEX 2 1 f STO f 3\nHEX 1 2 C STO SST\ng 4 2\ng 4 3\nHEX 1 0 0 0 0 0 0 0 0 ENTER 1 0 0 0 0 0 0 0 0 ENTER F F F F F F F F ENTER 0 g ENTER\ng BSP BIN\ng 6 0\n1\nRDN\nRDN\nRDN\ng ENTER\nRCL SST\nf .\nf 0\nHEX\nRCL 0\n")
      (codes "0 h\n12C h\n12C h\n0000012C .h\n00000000 .h\n00000000 .b\n00000000 .b\n00000001 .b\n00000000 .b\n11111111 .b\n00000000 .b\n00000000 .b\n00101100 .b\n0-33-1100\nP-0 r-45\n0000012C .h\n00000000 .h\n")
  pub case_87_1 : Prints
      (codes "HEX 3 f STO f 2\ng R/S g GTO A g 6 1 1 g R/S\nHEX 1 STO SST\nHEX 3 ENTER 0 ENTER 1 ENTER 7 g ENTER\nBSP BIN\nSST\nGTO A\nSST SST\nSST\n1\nRDN\nRDN\nRDN\ng ENTER\nRCL SST\nf .\nf 0\nHEX\nRCL 0\n")
      (codes "0 h\n0 h\n1 h\n0 h\n0 b\n1 b\n1 b\n1 b\n1 b\n1 b\n1 b\n111 b\n1 b\n0 b\n1 b\n2-03-0000\nP-4 r-392\n1 h\n0 h\n")
  pub case_87_2 : Prints
      (codes "HEX 2 0 f STO f 3\nHEX 7 F F F F F F F STO 3\nHEX 6 5 D D 2 3 9 E ENTER 0 ENTER 0 ENTER 1 g ENTER\ng BSP\ng 6 1\n1\nRDN\nRDN\nRDN\ng ENTER\nRCL SST\nf .\nf 0\nHEX\nRCL 0\n")
      (codes "0 h\n7FFFFFFF h\n0 h\n0 h\n0 h\n1 h\n1 h\n0 h\n0 h\n0 h\n0 h\n0-32-0000\nP-0 r-50\n0 h\n0 h\n")
  pub case_88_1 : Prints
      (codes "HEX 1 0 f STO f 3\ng R/S g GTO A g 6 2 1 g R/S\nHEX 1 STO SST\ng 4 5\nHEX F F F F STO F\nHEX C 6 3 4 ENTER D 9 1 E ENTER 0 ENTER 6 g ENTER\ng BSP\nSST\nGTO A\nSST SST\nSST\n1\nRDN\nRDN\nRDN\ng ENTER\nRCL SST\nf .\nf 0\nHEX\nRCL 0\n")
      (codes "0 h\n0 h\n1 h\n1 h G\nFFFF h G\n0 h G\n0 h G\n1 h G\n1 h G\n1 h G\n1 h G\n1 h G\n1 h G\n6 h G\n0 h G\n0 h G\n1 h G\n0-16-0000\nP-4 r-98\n1 h G\n0 h G\n")
  pub case_88_2 : Prints
      (codes "HEX 8 f STO f 1\ng R/S g GTO A g 6 2 1 g R/S\ng 4 3\ng 4 4\ng 4 1\nHEX 1 ENTER 8 0 ENTER F F ENTER 7 F g ENTER\n4\nSST\nGTO A\nSST SST\nSST\n1\nRDN\nRDN\nRDN\ng ENTER\nRCL SST\nf .\nf 0\nHEX\nRCL 0\n")
      (codes "0 h\n0 h\n00 h\n00 h C\n00 h C\n00 h C\n04 h C\n01 h C\n01 h C\n01 h C\n01 h C\n01 h C\n01 h C\n04 h C\n00 h C\n00 h C\n00 h C\n1-08-1010\nP-4 r-196\n00 h C\n00 h C\n")
  pub case_89_1 : Prints
      (codes "HEX 3 F f STO f 3\nHEX 6 4 STO SST\ng 4 1\ng 4 3\ng 4 5\nHEX 7 F F F F F F F F F F F F F F F ENTER 4 0 0 0 0 0 0 0 0 0 0 0 0 0 0 0 ENTER 6 ENTER 7 F F F F F F F F F F F F F F F g ENTER\nHEX E f ENTER 1\ng 6 3\n1\nRDN\nRDN\nRDN\ng ENTER\nRCL SST\nf .\nf 0\nHEX\nRCL 0\n")
      (codes "0 h\n64 h\n64 h\n00000064 .h\n00000064 .h G\n00000000 .h G\n00000000 h. G\n0000000E .h G\n00000001 .h G\n0000000E .h G\n00000000 .h G\nFFFFFFFF .h G\n00000000 .h G\n00000064 .h G\n0-63-1010\nP-0 r-25\n00000064 .h G\n00000000 .h G\n")
  pub case_89_2 : Prints
      (codes "HEX 1 0 f STO f 2\nHEX C E E 4 STO F\nHEX 4 5 6 1 ENTER B 8 8 ENTER 0 ENTER 0 g ENTER\nHEX A\ng 6 3\n1\nRDN\nRDN\nRDN\ng ENTER\nRCL SST\nf .\nf 0\nHEX\nRCL 0\n")
      (codes "0 h\nCEE4 h\n0 h\nA h\nA h\n1 h\nA h\n0 h\n0 h\n0 h\n0 h\n2-16-0000\nP-0 r-101\n0 h\n0 h\n")
