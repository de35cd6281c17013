-- Key files and what they print. Written by scripts/state_key_files.py.
use Rattle.std.specs.Prelude.{codes}
use Rattle.hp_model.specs.WorkedKeyFiles.{Prints}

pub record Operations7 : Type 0 where
  pub case_90_1 : Prints
      (codes "HEX 2 1 f STO f 2\ng R/S g GTO A g 6 4 1 g R/S\ng 4 0\ng 4 2\ng 4 4\nHEX 1 F F F F F F F F STO 1\nHEX 1 0 0 0 0 0 0 0 0 ENTER 8 1 2 F A A E 6 ENTER 0 ENTER 1 9 g ENTER\n\nSST\nGTO A\nSST SST\nSST\n1\nRDN\nRDN\nRDN\ng ENTER\nRCL SST\nf .\nf 0\nHEX\nRCL 0\n")
      (codes "0 h\n0 h\n0 h\n0 h\n0 h C\nFFFFFFFF .h C\n0 h C\n0 h C\n1 h C\n1 h C\n1 h C\n1 h C\n11 h C\n1 h C\n0 h C\n19 h C\n0 h C\n0 h C\n2-33-0101\nP-4 r-43\n0 h C\n0 h C\n")
  pub case_90_2 : Prints
      (codes "HEX 5 f STO f 3\ng 4 0\ng 4 2\nHEX 1 STO 0\nHEX 4 ENTER 8 ENTER 0 ENTER 8 g ENTER\n\ng 6 4\n1\nRDN\nRDN\nRDN\ng ENTER\nRCL SST\nf .\nf 0\nHEX\nRCL 0\n")
      (codes "0 h\n0 h\n0 h\n1 h\n0 h\n0 h\n0 h\n1 h\n0 h\n8 h\n0 h\n0 h\n0 h\n0-05-0101\nP-0 r-203\n0 h\n1 h\n")
  pub case_91_1 : Prints
      (codes "HEX 3 f STO f 1\nHEX 6 5 STO SST\ng 4 4\ng 4 1\ng 4 2\nHEX 3 ENTER 0 ENTER 1 ENTER 3 g ENTER\nENTER\ng 6 5\n1\nRDN\nRDN\nRDN\ng ENTER\nRCL SST\nf .\nf 0\nHEX\nRCL 0\n")
      (codes "0 h\n6 h\n6 h C\n6 h C\n6 h C\n0 h C\n0 h C\n0 h C\n1 h C\n0 h C\n3 h C\n1 h C\n0 h C\n6 h C\n1-03-0110\nP-0 r-406\n6 h C\n0 h C\n")
  pub case_91_2 : Prints
      (codes "HEX 1 1 f STO f 2\nHEX 9 STO SST\nHEX 0 STO 3\nHEX 1 F F F F ENTER 1 ENTER 1 ENTER 0 g ENTER\n f ENTER 1\ng 6 5\n1\nRDN\nRDN\nRDN\ng ENTER\nRCL SST\nf .\nf 0\nHEX\nRCL 0\n")
      (codes "0 h\n9 h\n0 h\n0 h\n h.\n0 h\n1 h\n0 h\n0 h\n1 h\n0 h\n9 h\n2-17-0000\nP-0 r-81\n9 h\n0 h\n")
  pub case_92_1 : Prints
      (codes "HEX 4 f STO f 2\ng R/S g GTO A g GTO 0 1 g R/S\nHEX 3 STO SST\ng 4 2\ng 4 3\ng 4 1\nHEX 0 STO 2\nHEX C ENTER F ENTER F ENTER 2 g ENTER\ng STO BIN\nSST\nGTO A\nSST SST\nSST\n1\nRDN\nRDN\nRDN\ng ENTER\nRCL SST\nf .\nf 0\nHEX\nRCL 0\n")
      (codes "0 h\n0 h\n3 h\n3 h\n3 h\n3 h\n0 h\n0 h\n0000 b\n0001 b\n0001 b\n0001 b\n0001 b\n0011 b\n0001 b\n0000 b\n0010 b\n0000 b\n0011 b\n2-04-1110\nP-4 r-392\n3 h\n0 h\n")
  pub case_92_2 : Prints
      (codes "HEX 2 8 f STO f 2\ng R/S g GTO A g GTO 0 1 g R/S\ng 4 2\ng 4 1\nHEX F 7 E 8 C 0 1 2 8 4 ENTER 8 0 0 0 0 0 0 0 0 0 ENTER 8 0 0 0 0 0 0 0 0 0 ENTER 3 3 C 2 5 6 5 8 0 2 g ENTER\nHEX A\nSST\nGTO A\nSST SST\nSST\n1\nRDN\nRDN\nRDN\ng ENTER\nRCL SST\nf .\nf 0\nHEX\nRCL 0\n")
      (codes "0 h\n0 h\n0 h\n0 h\n0 h\nA h\n1 h\n1 h\n1 h\n1 h\n11 h\n1 h\nA h\n0 h\n0 h\n0 h\n2-40-0110\nP-4 r-39\n0 h\n0 h\n")
  pub case_93_1 : Prints
      (codes "HEX 1 F f STO f 3\ng 4 0\ng 4 5\nHEX 3 F F F F F F F STO F\nHEX 4 0 0 0 0 0 0 0 ENTER 5 ENTER 0 ENTER 4 0 0 0 0 0 0 0 g ENTER\nHEX 3 DEC\ng GTO 1\n1\nRDN\nRDN\nRDN\ng ENTER\nRCL SST\nf .\nf 0\nHEX\nRCL 0\n")
      (codes "0 h\n0 h\n0 h G\n3FFFFFFF h G\n0 h G\n3 d G\n3 d G\n1 d G\n3 d G\n0 d G\n73741824 .d G\n0 d G\n0 d G\n0-31-0001\nP-0 r-50\n0 h G\n0 h G\n")
  pub case_93_2 : Prints
      (codes "HEX 1 1 f STO f 2\nHEX 3 D A 4 ENTER 1 A D A A ENTER 1 0 0 0 0 ENTER 1 E 1 B E g ENTER\n6 BIN\ng GTO 1\n1\nRDN\nRDN\nRDN\ng ENTER\nRCL SST\nf .\nf 0\nHEX\nRCL 0\n")
      (codes "0 h\n0 h\n110 b\n110 b\n1 b\n110 b\n0 b\n10111110 .b\n0 b\n0 b\n2-17-0000\nP-0 r-81\n0 h\n0 h\n")
  pub case_94_1 : Prints
      (codes "HEX 1 1 f STO f 2\nHEX 1 5 C 7 1 ENTER 1 ENTER 1 8 B 0 A ENTER 1 F F F F g ENTER\nRDN 2\ng GTO 2\n1\nRDN\nRDN\nRDN\ng ENTER\nRCL SST\nf .\nf 0\nHEX\nRCL 0\n")
      (codes "0 h\n0 h\n2 h\n2 h\n1 h\n2 h\n1FFFF h\n18B0A h\n0 h\n0 h\n2-17-0000\nP-0 r-81\n0 h\n0 h\n")
  pub case_94_2 : Prints
      (codes "HEX 3 0 f STO f 1\ng 4 3\ng 4 4\ng 4 5\nHEX 7 F F F F F F F F F F F ENTER 1 ENTER 1 6 7 8 F 3 A E D 7 D A ENTER 2 C g ENTER\nRDN 8\ng GTO 2\n1\nRDN\nRDN\nRDN\ng ENTER\nRCL SST\nf .\nf 0\nHEX\nRCL 0\n")
      (codes "0 h\n00000000 .h\n00000000 .h C\n00000000 .h C G\n00000000 .h C G\n00000008 .h C G\n00000008 .h C G\n00000001 .h C G\n00000008 .h C G\n0000002C .h C G\nF3AED7DA .h C G\n00000000 .h C G\n00000000 .h C G\n1-48-1000\nP-0 r-33\n00000000 .h C G\n00000000 .h C G\n")
  pub case_95_1 : Prints
      (codes "HEX 2 1 f STO f 3\ng R/S g GTO A g GTO 3 1 g R/S\ng 4 4\ng 4 3\nHEX 0 STO F\nHEX 1 0 0 0 0 0 0 0 0 ENTER 1 0 0 0 0 0 0 0 0 ENTER 1 0 9 0 8 A A C C ENTER 1 0 0 0 0 0 0 0 0 g ENTER\nHEX 2 DEC\nSST\nGTO A\nSST SST\nSST\n1\nRDN\nRDN\nRDN\ng ENTER\nRCL SST\nf .\nf 0\nHEX\nRCL 0\n")
      (codes "0 h\n0 h\n0 h C\n00000000 .h C\n00000000 .h C\n00000000 .h C\n2 d C\n1 d C\n1 d C\n1 d C\n1 d C\n11 d C\n1 d C\n2 d C\n0 d C\n0 d C\n0 d C\n0-33-1000\nP-4 r-43\n00000000 .h C\n00000000 .h C\n")
  pub case_95_2 : Prints
      (codes "HEX 3 F f STO f 2\ng R/S g GTO A g GTO 3 1 g R/S\nHEX 2 8 STO SST\ng 4 2\nHEX 1 ENTER 1 ENTER 3 F F F F F F F F F F F F F F F ENTER 0 g ENTER\ng STO\nSST\nGTO A\nSST SST\nSST\n1\nRDN\nRDN\nRDN\ng ENTER\nRCL SST\nf .\nf 0\nHEX\nRCL 0\n")
      (codes "0 h\n0 h\n28 h\n28 h\n0 h\n h.\n1 h\n1 h\n1 h\n1 h\n11 h\n1 h\n0 h\n0 h\n0 h\n28 h\n2-63-0100\nP-4 r-24\n28 h\n0 h\n")
  pub case_96_1 : Prints
      (codes "HEX 4 0 f STO f 3\ng 4 5\ng 4 3\nHEX 5 B 6 1 E 8 4 E E 3 5 C 0 4 C 9 STO 0\nHEX F F F F F F F F F F F F F F F F ENTER 1 7 ENTER 0 ENTER 7 F F F F F F F F F F F F F F F g ENTER\nRDN 3 f ENTER 1\ng GTO 4\n1\nRDN\nRDN\nRDN\ng ENTER\nRCL SST\nf .\nf 0\nHEX\nRCL 0\n")
      (codes "0 h\n0 h G\n00000000 .h G\nE35C04C9 .h G\n00000000 .h G\n00000000 h. G\n00000003 .h G\n00000001 .h G\n00000003 .h G\nFFFFFFFF .h G\n00000000 .h G\n00000000 .h G\n00000000 .h G\n0-64-1000\nP-0 r-25\n00000000 .h G\nE35C04C9 .h G\n")
  pub case_96_2 : Prints
      (codes "HEX 5 f STO f 1\ng 4 3\ng 4 4\ng 4 0\nHEX 7 ENTER F ENTER 1 C ENTER F g ENTER\ng 4 2\ng GTO 4\n1\nRDN\nRDN\nRDN\ng ENTER\nRCL SST\nf .\nf 0\nHEX\nRCL 0\n")
      (codes "0 h\n00 h\n00 h C\n00 h C\n00 h C\n00 h C\n00 h C\n01 h C\n00 h C\n0F h C\n1C h C\n00 h C\n00 h C\n1-05-1101\nP-0 r-203\n00 h C\n00 h C\n")
  pub case_97_1 : Prints
      (codes "HEX 4 0 f STO f 3\ng R/S g GTO A g GTO 5 1 g R/S\ng 4 0\ng 4 1\nHEX 1 ENTER 4 1 5 0 E 6 5 1 7 C 1 7 C 3 9 9 ENTER 7 F F F F F F F F F F F F F F F ENTER D 7 7 2 E 8 6 5 8 C 0 E 0 3 D 6 g ENTER\n\nSST\nGTO A\nSST SST\nSST\n1\nRDN\nRDN\nRDN\ng ENTER\nRCL SST\nf .\nf 0\nHEX\nRCL 0\n")
      (codes "0 h\n0 h\n0 h\n0 h\n0 h\n0 h\n1 h\n1 h\n1 h\n1 h\n11 h\n1 h\n0 h\n8C0E03D6 .h\n0 h\n0 h\n0-64-0011\nP-4 r-24\n0 h\n0 h\n")
  pub case_97_2 : Prints
      (codes "HEX 1 f STO f 2\nHEX 1 ENTER 0 ENTER 1 ENTER 0 g ENTER\ng STO\ng GTO 5\n1\nRDN\nRDN\nRDN\ng ENTER\nRCL SST\nf .\nf 0\nHEX\nRCL 0\n")
      (codes "0 h\n0 h\n h.\n0 h\n1 h\n0 h\n0 h\n1 h\n0 h\n0 h\n2-01-0000\nP-0 r-406\n0 h\n0 h\n")
  pub case_98_1 : Prints
      (codes "HEX 2 1 f STO f 1\ng R/S g GTO A g GTO 6 1 g R/S\nHEX F F F F F F F F STO 3\nHEX 1 F F F F F F F F ENTER F F F F F F F F ENTER A 4 8 F D E A 6 ENTER 5 3 0 1 3 1 C B g ENTER\ng BSP DEC\nSST\nGTO A\nSST SST\nSST\n1\nRDN\nRDN\nRDN\ng ENTER\nRCL SST\nf .\nf 0\nHEX\nRCL 0\n")
      (codes "0 h\n0 h\nFFFFFFFF h\n0 h\n0 d\n1 d\n1 d\n1 d\n1 d\n11 d\n1 d\n92587211 .d\n60892070 .d\n0 d\n0 d\n1-33-0000\nP-4 r-43\n0 h\n0 h\n")
  pub case_98_2 : Prints
      (codes "HEX F f STO f 1\ng 4 3\ng 4 4\nHEX 1 ENTER 1 ENTER 3 F F F ENTER 1 E 6 C g ENTER\n\ng GTO 6\n1\nRDN\nRDN\nRDN\ng ENTER\nRCL SST\nf .\nf 0\nHEX\nRCL 0\n")
      (codes "0 h\n0000 h\n0000 h C\n0000 h C\n0000 h C\n0000 h C\n0001 h C\n0000 h C\n1E6C h C\n3FFF h C\n0000 h C\n0000 h C\n1-15-1000\nP-0 r-101\n0000 h C\n0000 h C\n")
  pub case_99_1 : Prints
      (codes "HEX C f STO f 1\ng 4 5\ng 4 0\ng 4 1\nHEX 7 F F ENTER 7 F F ENTER 1 B B ENTER 8 0 0 g ENTER\nBSP\ng GTO 7\n1\nRDN\nRDN\nRDN\ng ENTER\nRCL SST\nf .\nf 0\nHEX\nRCL 0\n")
      (codes "0 h\n0 h G\n0 h G\n0 h G\n0 h G\n0 h G\n0 h G\n1 h G\n800 h G\n1BB h G\n7FF h G\n0 h G\n0 h G\n1-12-0011\nP-0 r-135\n0 h G\n0 h G\n")
  pub case_99_2 : Prints
      (codes "HEX 5 f STO f 2\ng 4 5\ng 4 2\ng 4 3\nHEX 1 STO 2\nHEX 1 ENTER 1 ENTER F ENTER 0 g ENTER\ng 4 2\ng GTO 7\n1\nRDN\nRDN\nRDN\ng ENTER\nRCL SST\nf .\nf 0\nHEX\nRCL 0\n")
      (codes "0 h\n0 h G\n0 h G\n00 h G\n01 h G\n00 h G\n00 h G\n00 h G\n01 h G\n00 h G\n00 h G\n0F h G\n00 h G\n00 h G\n2-05-1100\nP-0 r-203\n00 h G\n00 h G\n")
  pub case_100_1 : Prints
      (codes "HEX 3 0 f STO f 3\nHEX 3 STO SST\nHEX 7 5 8 F C F 6 D 4 D F E ENTER 3 1 B 5 C 0 8 7 6 F C 4 ENTER F F F F F F F F F F F F ENTER 7 F F F F F F F F F F F g ENTER\nBSP\ng GTO 8\n1\nRDN\nRDN\nRDN\ng ENTER\nRCL SST\nf .\nf 0\nHEX\nRCL 0\n")
      (codes "0 h\n3 h\n0 h\n0 h\n0 h\n1 h\nFFFFFFFF .h\nFFFFFFFF .h\nC0876FC4 .h\n0 h\n3 h\n0-48-0000\nP-0 r-33\n3 h\n0 h\n")
  pub case_100_2 : Prints
      (codes "HEX 2 8 f STO f 1\ng R/S g GTO A g GTO 8 1 g R/S\nHEX 8 0 0 0 0 0 0 0 0 0 ENTER B 2 E 9 E 8 E F D 9 ENTER 1 ENTER 7 F F F F F F F F F g ENTER\nRDN E DEC\nSST\nGTO A\nSST SST\nSST\n1\nRDN\nRDN\nRDN\ng ENTER\nRCL SST\nf .\nf 0\nHEX\nRCL 0\n")
      (codes "0 h\n0 h\n0 h\n14 d\n1 d\n1 d\n1 d\n1 d\n11 d\n1 d\n14 d\n55813887 .d\n0 d\n0 d\n1-40-0000\nP-4 r-39\n0 h\n0 h\n")
  pub case_101_1 : Prints
      (codes "HEX 3 0 f STO f 1\ng 4 3\ng 4 4\ng 4 5\nHEX C E 3 4 0 5 A 4 4 7 4 5 ENTER B ENTER A 5 3 6 7 C E 3 C D B 6 ENTER 1 F 7 9 F 2 C D F 3 5 8 g ENTER\ng STO\ng GTO 9\n1\nRDN\nRDN\nRDN\ng ENTER\nRCL SST\nf .\nf 0\nHEX\nRCL 0\n")
      (codes "0 h\n00000000 .h\n00000000 .h C\n00000000 .h C G\n00000000 .h C G\n0000 h. C G\n00000000 .h C G\n00000001 .h C G\n00000000 .h C G\nF2CDF358 .h C G\n7CE3CDB6 .h C G\n00000000 .h C G\n00000000 .h C G\n1-48-1000\nP-0 r-33\n00000000 .h C G\n00000000 .h C G\n")
  pub case_101_2 : Prints
      (codes "HEX 1 8 f STO f 1\nHEX F STO SST\ng 4 2\ng 4 3\ng 4 4\nHEX F F F F F F ENTER 0 ENTER 5 E B F 8 7 ENTER 0 g ENTER\nBSP\ng GTO 9\n1\nRDN\nRDN\nRDN\ng ENTER\nRCL SST\nf .\nf 0\nHEX\nRCL 0\n")
      (codes "0 h\nF h\nF h\n00000F h\n00000F h C\n000000 h C\n000000 h C\n000000 h C\n000001 h C\n000000 h C\n5EBF87 h C\n000000 h C\n000000 h C\n00000F h C\n1-24-1100\nP-0 r-67\n00000F h C\n000000 h C\n")
  pub case_102_1 : Prints
      (codes "HEX 3 F f STO f 3\nHEX 0 STO SST\ng 4 0\ng 4 3\ng 4 5\nHEX 4 0 0 0 0 0 0 0 0 0 0 0 0 0 0 0 ENTER 0 ENTER 7 F F F F F F F F F F F F F F F ENTER 0 g ENTER\nBSP\ng GTO A\n1\nRDN\nRDN\nRDN\ng ENTER\nRCL SST\nf .\nf 0\nHEX\nRCL 0\n")
      (codes "0 h\n0 h\n0 h\n00000000 .h\n00000000 .h G\n00000000 .h G\n00000000 .h G\n00000000 .h G\n00000001 .h G\n00000000 .h G\nFFFFFFFF .h G\n00000000 .h G\n00000000 .h G\n00000000 .h G\n0-63-1001\nP-0 r-25\n00000000 .h G\n00000000 .h G\n")
  pub case_102_2 : Prints
      (codes "HEX 9 f STO f 3\nHEX 2 8 STO SST\ng 4 4\ng 4 1\ng 4 3\nHEX C 5 ENTER 7 D ENTER 1 0 0 ENTER C 1 g ENTER\nRDN\ng GTO A\n1\nRDN\nRDN\nRDN\ng ENTER\nRCL SST\nf .\nf 0\nHEX\nRCL 0\n")
      (codes "0 h\n28 h\n28 h C\n28 h C\n028 h C\n000 h C\n0C1 h C\n0C1 h C\n001 h C\n0C1 h C\n100 h C\n07D h C\n000 h C\n028 h C\n0-09-1010\nP-0 r-135\n028 h C\n000 h C\n")
  pub case_103_1 : Prints
      (codes "HEX 7 f STO f 1\nHEX 0 STO SST\ng 4 5\ng 4 4\ng 4 0\nHEX 7 STO 2\nHEX 7 F ENTER 7 F ENTER 0 ENTER 4 0 g ENTER\ng STO f ENTER 1\ng GTO B\n1\nRDN\nRDN\nRDN\ng ENTER\nRCL SST\nf .\nf 0\nHEX\nRCL 0\n")
      (codes "0 h\n0 h\n0 h G\n0 h C G\n0 h C G\n7 h C G\n0 h C G\n h. C G\n0 h C G\n1 h C G\n0 h C G\n40 h C G\n0 h C G\n0 h C G\n0 h C G\n1-07-0001\nP-0 r-203\n0 h C G\n0 h C G\n")
  pub case_103_2 : Prints
      (codes "HEX 3 0 f STO f 2\ng R/S g GTO A g GTO B 1 g R/S\nHEX 6 4 STO SST\ng 4 2\nHEX 1 STO 3\nHEX 1 ENTER 2 1 ENTER 1 1 ENTER F F F F F F F F F F F F g ENTER\ng BSP\nSST\nGTO A\nSST SST\nSST\n1\nRDN\nRDN\nRDN\ng ENTER\nRCL SST\nf .\nf 0\nHEX\nRCL 0\n")
      (codes "0 h\n0 h\n64 h\n64 h\n1 h\n0 h\n0 h\n1 h\n1 h\n1 h\n1 h\n11 h\n1 h\nFFFFFFFF .h\n11 h\n0 h\n64 h\n2-48-0100\nP-4 r-32\n64 h\n0 h\n")
  pub case_104_1 : Prints
      (codes "HEX 1 8 f STO f 2\nHEX 7 F F F F F ENTER 8 0 0 0 0 0 ENTER 0 ENTER F F F F F F g ENTER\ng BSP f ENTER 1\ng GTO C\n1\nRDN\nRDN\nRDN\ng ENTER\nRCL SST\nf .\nf 0\nHEX\nRCL 0\n")
      (codes "0 h\n0 h\n h.\n0 h\n1 h\nFFFFFF h\n0 h\n800000 h\n0 h\n0 h\n2-24-0000\nP-0 r-67\n0 h\n0 h\n")
  pub case_104_2 : Prints
      (codes "HEX 2 1 f STO f 3\ng 4 5\nHEX 1 0 0 0 0 0 0 0 0 STO 2\nHEX 1 ENTER 1 F F F F F F F F ENTER 1 ENTER 1 1 g ENTER\ng 4 2\ng GTO C\n1\nRDN\nRDN\nRDN\ng ENTER\nRCL SST\nf .\nf 0\nHEX\nRCL 0\n")
      (codes "0 h\n0 h G\n00000000 .h G\n0 h G\n0 h G\n0 h G\n1 h G\n0 h G\n11 h G\n1 h G\n0 h G\n0 h G\n0-33-0100\nP-0 r-45\n0 h G\n0 h G\n")
