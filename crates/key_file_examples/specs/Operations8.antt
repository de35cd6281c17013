-- Key files and what they print. Written by scripts/state_key_files.py.
use Rattle.std.specs.Prelude.{codes}
use Rattle.hp_model.specs.WorkedKeyFiles.{Prints}

pub record Operations8 : Type 0 where
  pub case_105_1 : Prints
      (codes "HEX C f STO f 3\ng R/S g GTO A g GTO D 1 g R/S\nHEX 6 5 STO SST\nHEX 2 ENTER 0 ENTER 7 F F ENTER 8 0 0 g ENTER\nRDN 7 OCT\nSST\nGTO A\nSST SST\nSST\n1\nRDN\nRDN\nRDN\ng ENTER\nRCL SST\nf .\nf 0\nHEX\nRCL 0\n")
      (codes "0 h\n0 h\n65 h\n0 h\n7 o\n1 o\n1 o\n1 o\n1 o\n11 o\n1 o\n7 o\n4000 o\n0 o\n145 o\n0-12-0000\nP-4 r-130\n65 h\n0 h\n")
  pub case_105_2 : Prints
      (codes "HEX 2 8 f STO f 1\nHEX 1 A STO F\nHEX 5 7 F 6 B 8 1 A 4 9 ENTER 1 7 ENTER 9 2 0 D C 2 1 D A 8 ENTER F F F F F F F F F F g ENTER\nRDN\ng GTO D\n1\nRDN\nRDN\nRDN\ng ENTER\nRCL SST\nf .\nf 0\nHEX\nRCL 0\n")
      (codes "0 h\n1A h\n0 h\nFFFFFFFF .h\nFFFFFFFF .h\n1 h\nFFFFFFFF .h\n0DC21DA8 .h\n17 h\n0 h\n0 h\n1-40-0000\nP-0 r-40\n0 h\n0 h\n")
  pub case_106_1 : Prints
      (codes "HEX 9 f STO f 3\nHEX 2 STO SST\ng 4 5\nHEX 0 STO 3\nHEX 1 0 0 ENTER 1 0 E ENTER 1 0 0 ENTER 1 0 0 g ENTER\ng STO\ng GTO E\n1\nRDN\nRDN\nRDN\ng ENTER\nRCL SST\nf .\nf 0\nHEX\nRCL 0\n")
      (codes "0 h\n2 h\n2 h G\n0 h G\n0 h G\n h. G\n0 h G\n1 h G\n0 h G\n100 h G\n100 h G\n0 h G\n2 h G\n0-09-0000\nP-0 r-135\n2 h G\n0 h G\n")
  pub case_106_2 : Prints
      (codes "HEX 2 0 f STO f 1\nHEX 1 STO SST\nHEX 0 ENTER 1 ENTER 0 ENTER 1 C g ENTER\ng STO\ng GTO E\n1\nRDN\nRDN\nRDN\ng ENTER\nRCL SST\nf .\nf 0\nHEX\nRCL 0\n")
      (codes "0 h\n1 h\n0 h\n h.\n0 h\n1 h\n0 h\n1C h\n0 h\n0 h\n1 h\n1-32-0000\nP-0 r-50\n1 h\n0 h\n")
  pub case_107_1 : Prints
      (codes "HEX C f STO f 1\ng 4 1\nHEX F F F STO F\nHEX F F F ENTER 1 ENTER F F F ENTER 7 F F g ENTER\nBSP DEC\ng GTO F\n1\nRDN\nRDN\nRDN\ng ENTER\nRCL SST\nf .\nf 0\nHEX\nRCL 0\n")
      (codes "0 h\n0 h\nFFF h\n0 h\n0 d\n0 d\n1 d\n2047 d\n-0 d\n1 d\n0 d\n0 d\n1-12-0010\nP-0 r-135\n0 h\n0 h\n")
  pub case_107_2 : Prints
      (codes "HEX 3 f STO f 2\ng R/S g GTO A g GTO F 1 g R/S\ng 4 4\nHEX 3 STO 3\nHEX 4 ENTER 0 ENTER 3 ENTER 7 g ENTER\nENTER DEC\nSST\nGTO A\nSST SST\nSST\n1\nRDN\nRDN\nRDN\ng ENTER\nRCL SST\nf .\nf 0\nHEX\nRCL 0\n")
      (codes "0 h\n0 h\n0 h C\n3 h C\n0 h C\n0 d C\n1 d C\n1 d C\n1 d C\n1 d C\n1 d C\n1 d C\n0 d C\n-1 d C\n0 d C\n0 d C\n2-03-0000\nP-4 r-392\n0 h C\n0 h C\n")
  pub case_108_1 : Prints
      (codes "HEX 2 f STO f 2\ng 4 3\ng 4 5\nHEX 1 STO 2\nHEX 1 ENTER 3 ENTER 2 ENTER 3 g ENTER\ng STO\nGTO 0\n1\nRDN\nRDN\nRDN\ng ENTER\nRCL SST\nf .\nf 0\nHEX\nRCL 0\n")
      (codes "0 h\n0 h\n0 h G\n1 h G\n0 h G\n h. G\nError 4\n1 h G\n0 h G\n3 h G\n2 h G\n0 h G\n0 h G\n2-02-1000\nP-0 r-406\n0 h G\n0 h G\n")
  pub case_108_2 : Prints
      (codes "HEX 1 F f STO f 3\ng 4 0\ng 4 5\nHEX 0 ENTER E ENTER 4 0 0 0 0 0 0 0 ENTER 1 g ENTER\nA\nGTO 0\n1\nRDN\nRDN\nRDN\ng ENTER\nRCL SST\nf .\nf 0\nHEX\nRCL 0\n")
      (codes "0 h\n0 h\n0 h G\n0 h G\nA h G\nError 4\n1 h G\nA h G\n0 h G\n1 h G\n0 h G\n0 h G\n0-31-0001\nP-0 r-50\n0 h G\n0 h G\n")
  pub case_109_1 : Prints
      (codes "HEX 2 0 f STO f 2\ng R/S g GTO A GTO 1 1 g R/S\nHEX 1 2 C STO SST\ng 4 0\ng 4 5\nHEX F F F F F F F F STO 2\nHEX F F F F F F F F ENTER F F F F F F F F ENTER 2 1 ENTER 1 1 g ENTER\nBSP\nSST\nGTO A\nSST SST\nSST\n1\nRDN\nRDN\nRDN\ng ENTER\nRCL SST\nf .\nf 0\nHEX\nRCL 0\n")
      (codes "0 h\n0 h\n12C h\n12C h\n12C h G\nFFFFFFFF h G\n0 h G\n0 h G\n1 h G\n1 h G\nError 4\nError 4\n1 h G\n1 h G\n11 h G\n21 h G\n0 h G\n12C h G\n2-32-0001\nP-4 r-49\n12C h G\n0 h G\n")
  pub case_109_2 : Prints
      (codes "HEX 4 0 f STO f 3\nHEX 2 STO SST\ng 4 2\nHEX 2 7 4 D 3 4 0 D 9 F 2 2 9 7 7 F STO 1\nHEX 2 6 7 5 D 1 6 1 4 B 1 B 1 C 7 6 ENTER 8 0 0 0 0 0 0 0 0 0 0 0 0 0 0 0 ENTER 8 0 0 0 0 0 0 0 0 0 0 0 0 0 0 0 ENTER 2 F g ENTER\nBSP DEC\nGTO 1\n1\nRDN\nRDN\nRDN\ng ENTER\nRCL SST\nf .\nf 0\nHEX\nRCL 0\n")
      (codes "0 h\n2 h\n2 h\n9F22977F .h\n0 h\n0 d\nError 4\n1 d\n47 d\n54775808 .d\n54775808 .d\n0 d\n2 d\n0-64-0100\nP-0 r-25\n2 h\n0 h\n")
  pub case_110_1 : Prints
      (codes "HEX 3 F f STO f 3\ng 4 1\ng 4 3\nHEX 6 3 6 4 8 4 9 8 6 C 1 5 0 5 2 C ENTER 1 D ENTER 3 F F F F F F F F F F F F F F F ENTER 3 g ENTER\n3 DEC\nGTO 2\n1\nRDN\nRDN\nRDN\ng ENTER\nRCL SST\nf .\nf 0\nHEX\nRCL 0\n")
      (codes "0 h\n0 h\n00000000 .h\n00000000 .h\n3 d\nError 4\n1 d\n3 d\n0 d\n3 d\n0 d\n0 d\n0-63-1010\nP-0 r-25\n00000000 .h\n00000000 .h\n")
  pub case_110_2 : Prints
      (codes "HEX F f STO f 1\ng 4 2\ng 4 4\ng 4 5\nHEX 4 0 0 0 STO F\nHEX 0 ENTER 7 F F F ENTER 7 F F F ENTER 7 F F F g ENTER\nHEX E DEC\nGTO 2\n1\nRDN\nRDN\nRDN\ng ENTER\nRCL SST\nf .\nf 0\nHEX\nRCL 0\n")
      (codes "0 h\n0 h\n0 h C\n0 h C G\n4000 h C G\n0 h C G\n14 d C G\nError 4\n1 d C G\n14 d C G\n0 d C G\n-0 d C G\n0 d C G\n0 d C G\n1-15-0100\nP-0 r-101\n0 h C G\n0 h C G\n")
  pub case_111_1 : Prints
      (codes "HEX F f STO f 3\ng R/S g GTO A GTO 3 1 g R/S\nHEX 0 STO 1\nHEX 4 ENTER 3 F F F ENTER 4 0 0 0 ENTER 3 4 D 3 g ENTER\nHEX 9\nSST\nGTO A\nSST SST\nSST\n1\nRDN\nRDN\nRDN\ng ENTER\nRCL SST\nf .\nf 0\nHEX\nRCL 0\n")
      (codes "0 h\n0 h\n0 h\n0 h\n9 h\n1 h\n1 h\nError 4\nError 4\n1 h\n1 h\n9 h\n0 h\n0 h\n0 h\n0-15-0000\nP-4 r-98\n0 h\n0 h\n")
  pub case_111_2 : Prints
      (codes "HEX 3 0 f STO f 1\ng R/S g GTO A GTO 3 1 g R/S\ng 4 4\ng 4 2\nHEX 1 ENTER 1 ENTER 9 D E 5 4 4 1 F D 8 5 ENTER 7 F F F F F F F F F F F g ENTER\n BIN\nSST\nGTO A\nSST SST\nSST\n1\nRDN\nRDN\nRDN\ng ENTER\nRCL SST\nf .\nf 0\nHEX\nRCL 0\n")
      (codes "0 h\n0 h\n0 h C\n0 h C\n0 h C\n0 b C\n1 b C\n1 b C\nError 4\nError 4\n1 b C\n1 b C\n0 b C\n11111111 .b C\n0 b C\n0 b C\n1-48-0100\nP-4 r-32\n0 h C\n0 h C\n")
  pub case_112_1 : Prints
      (codes "HEX C f STO f 2\ng R/S g GTO A GTO 4 1 g R/S\nHEX F STO SST\ng 4 4\ng 4 3\ng 4 1\nHEX F F F STO 1\nHEX 8 0 0 ENTER 8 0 0 ENTER E D 3 ENTER D 8 C g ENTER\ng STO\nSST\nGTO A\nSST SST\nSST\n1\nRDN\nRDN\nRDN\ng ENTER\nRCL SST\nf .\nf 0\nHEX\nRCL 0\n")
      (codes "0 h\n0 h\nF h\nF h C\n00F h C\n00F h C\nFFF h C\n000 h C\n h. C\n001 h C\n001 h C\nError 4\nError 4\n001 h C\n001 h C\n000 h C\nD8C h C\n000 h C\n00F h C\n2-12-1010\nP-4 r-130\n00F h C\n000 h C\n")
  pub case_112_2 : Prints
      (codes "HEX 4 f STO f 3\nHEX 0 STO 3\nHEX 8 ENTER 5 ENTER 0 ENTER 0 g ENTER\nHEX C\nGTO 4\n1\nRDN\nRDN\nRDN\ng ENTER\nRCL SST\nf .\nf 0\nHEX\nRCL 0\n")
      (codes "0 h\n0 h\n0 h\nC h\nError 4\n1 h\nC h\n0 h\n0 h\n0 h\n0 h\n0-04-0000\nP-0 r-406\n0 h\n0 h\n")
  pub case_113_1 : Prints
      (codes "HEX 9 f STO f 2\ng R/S g GTO A GTO 5 1 g R/S\nHEX 2 8 STO SST\ng 4 2\ng 4 3\ng 4 1\nHEX 1 STO 0\nHEX F F ENTER 1 ENTER 3 ENTER 1 g ENTER\nBSP f ENTER 1\nSST\nGTO A\nSST SST\nSST\n1\nRDN\nRDN\nRDN\ng ENTER\nRCL SST\nf .\nf 0\nHEX\nRCL 0\n")
      (codes "0 h\n0 h\n28 h\n28 h\n028 h\n028 h\n001 h\n000 h\n h.\n001 h\n001 h\nError 4\nError 4\n001 h\n001 h\n001 h\n003 h\n000 h\n028 h\n2-09-1110\nP-4 r-130\n028 h\n001 h\n")
  pub case_113_2 : Prints
      (codes "HEX 1 f STO f 3\nHEX 2 8 STO SST\nHEX 0 ENTER 1 ENTER 1 ENTER 0 g ENTER\nRDN 3 f ENTER 1\nGTO 5\n1\nRDN\nRDN\nRDN\ng ENTER\nRCL SST\nf .\nf 0\nHEX\nRCL 0\n")
      (codes "0 h\n0 h\n0 h\n h.\nError 4\n1 h\n0 h\n1 h\n1 h\n0 h\n0 h\n0-01-0000\nP-0 r-406\n0 h\n0 h\n")
  pub case_114_1 : Prints
      (codes "HEX 1 F f STO f 3\ng R/S g GTO A GTO 6 1 g R/S\ng 4 3\nHEX 7 8 F C 5 1 A C STO F\nHEX 0 ENTER 7 F F F F F F F ENTER 7 F F F F F F F ENTER 0 g ENTER\nRDN C\nSST\nGTO A\nSST SST\nSST\n1\nRDN\nRDN\nRDN\ng ENTER\nRCL SST\nf .\nf 0\nHEX\nRCL 0\n")
      (codes "0 h\n0 h\n00000000 h\n78FC51AC h\n00000000 h\n0000000C h\n00000001 h\n00000001 h\nError 4\nError 4\n00000001 h\n00000001 h\n0000000C h\n00000000 h\n00000000 h\n00000000 h\n0-31-1000\nP-4 r-49\n00000000 h\n00000000 h\n")
  pub case_114_2 : Prints
      (codes "HEX 5 f STO f 2\nHEX 0 STO SST\nHEX 1 ENTER 1 0 ENTER 1 F ENTER 1 0 g ENTER\nHEX 8\nGTO 6\n1\nRDN\nRDN\nRDN\ng ENTER\nRCL SST\nf .\nf 0\nHEX\nRCL 0\n")
      (codes "0 h\n0 h\n0 h\n8 h\nError 4\n1 h\n8 h\n0 h\n10 h\n0 h\n0 h\n2-05-0000\nP-0 r-203\n0 h\n0 h\n")
  pub case_115_1 : Prints
      (codes "HEX 2 0 f STO f 1\ng 4 5\nHEX 3 F C B 6 A B 6 STO 3\nHEX 7 F F F F F F F ENTER 1 ENTER 1 E F 2 5 5 8 1 ENTER 1 g ENTER\nRDN 3 BIN\nGTO 7\n1\nRDN\nRDN\nRDN\ng ENTER\nRCL SST\nf .\nf 0\nHEX\nRCL 0\n")
      (codes "0 h\n0 h G\n3FCB6AB6 h G\n0 h G\n11 b G\nError 4\n1 b G\n11 b G\n1 b G\n10000001 .b G\n0 b G\n0 b G\n1-32-0000\nP-0 r-50\n0 h G\n0 h G\n")
  pub case_115_2 : Prints
      (codes "HEX 5 f STO f 2\ng R/S g GTO A GTO 7 1 g R/S\nHEX 2 8 STO SST\ng 4 5\ng 4 3\ng 4 2\nHEX 1 0 STO 2\nHEX 7 ENTER 0 ENTER 1 0 ENTER F g ENTER\n\nSST\nGTO A\nSST SST\nSST\n1\nRDN\nRDN\nRDN\ng ENTER\nRCL SST\nf .\nf 0\nHEX\nRCL 0\n")
      (codes "0 h\n0 h\n2 h\n2 h G\n02 h G\n02 h G\n10 h G\n00 h G\n00 h G\n01 h G\n01 h G\nError 4\nError 4\n01 h G\n01 h G\n00 h G\n0F h G\n00 h G\n02 h G\n2-05-1100\nP-4 r-196\n02 h G\n00 h G\n")
  pub case_116_1 : Prints
      (codes "HEX 2 f STO f 1\ng 4 3\nHEX 0 ENTER 0 ENTER 3 ENTER 2 g ENTER\ng BSP\nGTO 8\n1\nRDN\nRDN\nRDN\ng ENTER\nRCL SST\nf .\nf 0\nHEX\nRCL 0\n")
      (codes "0 h\n0 h\n0 h\n0 h\nError 4\n1 h\n2 h\n3 h\n0 h\n0 h\n0 h\n1-02-1000\nP-0 r-406\n0 h\n0 h\n")
  pub case_116_2 : Prints
      (codes "HEX 2 0 f STO f 1\nHEX F F F F F F F F STO 3\nHEX E 2 3 3 2 4 8 4 ENTER 0 ENTER F F F F F F F F ENTER 5 B 3 D C 0 4 7 g ENTER\nHEX E\nGTO 8\n1\nRDN\nRDN\nRDN\ng ENTER\nRCL SST\nf .\nf 0\nHEX\nRCL 0\n")
      (codes "0 h\nFFFFFFFF h\n0 h\nE h\nError 4\n1 h\nE h\n0 h\n5B3DC047 h\n0 h\n0 h\n1-32-0000\nP-0 r-50\n0 h\n0 h\n")
  pub case_117_1 : Prints
      (codes "HEX 8 f STO f 1\nHEX 1 2 C STO SST\nHEX B 3 ENTER 7 F ENTER 4 ENTER 4 g ENTER\nBSP\nGTO 9\n1\nRDN\nRDN\nRDN\ng ENTER\nRCL SST\nf .\nf 0\nHEX\nRCL 0\n")
      (codes "0 h\n12 h\n0 h\n0 h\nError 4\n1 h\n4 h\n4 h\n7F h\n0 h\n12 h\n1-08-0000\nP-0 r-203\n12 h\n0 h\n")
  pub case_117_2 : Prints
      (codes "HEX 1 1 f STO f 3\nHEX 9 STO SST\ng 4 5\ng 4 0\nHEX 1 0 1 A 2 ENTER 0 ENTER B ENTER F F F F g ENTER\nE DEC\nGTO 9\n1\nRDN\nRDN\nRDN\ng ENTER\nRCL SST\nf .\nf 0\nHEX\nRCL 0\n")
      (codes "0 h\n9 h\n9 h G\n9 h G\n0 h G\n14 d G\nError 4\n1 d G\n14 d G\n0 d G\n65535 d G\n0 d G\n9 d G\n0-17-0001\nP-0 r-81\n9 h G\n0 h G\n")
  pub case_118_1 : Prints
      (codes "HEX 3 0 f STO f 3\nHEX 2 8 STO SST\ng 4 4\nHEX 7 F F F F F F F F F F F ENTER 1 ENTER A 9 5 4 0 5 E 0 1 3 E 5 ENTER 2 A 1 E 8 C 4 B E A B 3 g ENTER\nENTER BIN\nGTO A\n1\nRDN\nRDN\nRDN\ng ENTER\nRCL SST\nf .\nf 0\nHEX\nRCL 0\n")
      (codes "0 h\n28 h\n28 h C\n0 h C\n0 b C\nError 4\n1 b C\n0 b C\n10110011 .b C\n11100101 .b C\n0 b C\n101000 b C\n0-48-0000\nP-0 r-33\n28 h C\n0 h C\n")
  pub case_118_2 : Prints
      (codes "HEX 3 f STO f 1\ng R/S g GTO A GTO A 1 g R/S\nHEX 4 ENTER 4 ENTER 7 ENTER 1 g ENTER\nC\nSST\nGTO A\nSST SST\nSST\n1\nRDN\nRDN\nRDN\ng ENTER\nRCL SST\nf .\nf 0\nHEX\nRCL 0\n")
      (codes "0 h\n0 h\n0 h\n0 h\n1 h\n1 h\n1 h\n1 h\n1 h\n1 h\n0 h\n1 h\n0 h\n0 h\n1-03-0000\nP-4 r-392\n0 h\n0 h\n")
  pub case_119_1 : Prints
      (codes "HEX 1 F f STO f 3\nHEX 0 STO SST\nHEX 5 7 C 0 1 D F E STO 3\nHEX 0 ENTER 1 7 ENTER 3 6 7 F 5 4 B 7 ENTER 4 0 0 0 0 0 0 0 g ENTER\nENTER\nGTO B\n1\nRDN\nRDN\nRDN\ng ENTER\nRCL SST\nf .\nf 0\nHEX\nRCL 0\n")
      (codes "0 h\n0 h\n57C01DFE h\n0 h\n0 h\nError 4\n1 h\n0 h\n40000000 h\n367F54B7 h\n0 h\n0 h\n0-31-0000\nP-0 r-50\n0 h\n0 h\n")
  pub case_119_2 : Prints
      (codes "HEX C f STO f 3\nHEX 3 STO SST\ng 4 4\ng 4 2\nHEX 0 ENTER 0 ENTER 5 9 B ENTER 1 g ENTER\ng BSP\nGTO B\n1\nRDN\nRDN\nRDN\ng ENTER\nRCL SST\nf .\nf 0\nHEX\nRCL 0\n")
      (codes "0 h\n3 h\n3 h C\n3 h C\n0 h C\n0 h C\nError 4\n1 h C\n1 h C\n59B h C\n0 h C\n0 h C\n3 h C\n0-12-0100\nP-0 r-135\n3 h C\n0 h C\n")
