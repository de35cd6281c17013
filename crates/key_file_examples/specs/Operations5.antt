-- Key files and what they print. Written by scripts/state_key_files.py.
use Rattle.std.specs.Prelude.{codes}
use Rattle.hp_model.specs.WorkedKeyFiles.{Prints}

pub record Operations5 : Type 0 where
  pub case_60_1 : Prints
      (codes "HEX 2 0 f STO f 1\nHEX 0 STO SST\ng 4 4\nHEX 1 STO 0\nHEX 0 ENTER 8 0 0 0 0 0 0 0 ENTER 1 ENTER 7 4 A 6 8 8 7 A g ENTER\n\nf 2\n1\nRDN\nRDN\nRDN\ng ENTER\nRCL SST\nf .\nf 0\nHEX\nRCL 0\n")
      (codes "0 h\n0 h\n0 h C\n1 h C\n0 h C\n0 h C\n0 h C\n1 h C\n0 h C\n74A6887A h C\n1 h C\n0 h C\n0 h C\n2-32-0000\nP-0 r-50\n0 h C\n1 h C\n")
  pub case_60_2 : Prints
      (codes "HEX 2 f STO f 2\nHEX 3 STO SST\nHEX 0 STO 1\nHEX 3 ENTER 2 ENTER 2 ENTER 1 g ENTER\ng STO f ENTER 1\nf 2\n1\nRDN\nRDN\nRDN\ng ENTER\nRCL SST\nf .\nf 0\nHEX\nRCL 0\n")
      (codes "0 h\n3 h\n0 h\n0 h\n h.\n0 h\n1 h\n0 h\n1 h\n2 h\n0 h\n3 h\n2-02-0000\nP-0 r-406\n3 h\n0 h\n")
  pub case_61_1 : Prints
      (codes "HEX 8 f STO f 2\nHEX 2 STO SST\ng 4 2\ng 4 5\ng 4 4\nHEX F F STO 3\nHEX 7 F ENTER 8 0 ENTER 1 ENTER 7 g ENTER\nRDN 5 f ENTER 1\nf 3\n1\nRDN\nRDN\nRDN\ng ENTER\nRCL SST\nf .\nf 0\nHEX\nRCL 0\n")
      (codes "0 h\n2 h\n2 h\n2 h G\n2 h C G\nFF h C G\n0 h C G\n h. C G\n5 h C G\n1 h C G\n5 h C G\n7 h C G\n1 h C G\n0 h C G\n2 h C G\n0-08-0100\nP-0 r-203\n2 h C G\n0 h C G\n")
  pub case_61_2 : Prints
      (codes "HEX 2 f STO f 2\nHEX 3 STO SST\ng 4 4\ng 4 2\ng 4 5\nHEX 1 ENTER 1 ENTER 0 ENTER 3 g ENTER\nRDN\nf 3\n1\nRDN\nRDN\nRDN\ng ENTER\nRCL SST\nf .\nf 0\nHEX\nRCL 0\n")
      (codes "0 h\n3 h\n3 h C\n3 h C\n3 h C G\n0 h C G\n3 h C G\n3 h C G\n1 h C G\n3 h C G\n0 h C G\n1 h C G\n0 h C G\n3 h C G\n0-02-0100\nP-0 r-406\n3 h C G\n0 h C G\n")
  pub case_62_1 : Prints
      (codes "HEX 2 0 f STO f 2\ng R/S g GTO A f STO 1 g R/S\nHEX 6 4 STO SST\nHEX 8 5 B E F C 3 F STO 3\nHEX 7 D E 9 2 6 C 4 ENTER 1 8 ENTER F F F F F F F F ENTER 4 5 0 F 8 3 E A g ENTER\nRDN DEC\nSST\nGTO A\nSST SST\nSST\n1\nRDN\nRDN\nRDN\ng ENTER\nRCL SST\nf .\nf 0\nHEX\nRCL 0\n")
      (codes "0 h\n0 h\n64 h\n85BEFC3F h\n0 h\n58644714 .d\n1 d\n1 d\n0 d\n0 d\n0 d\n-1 d\n0 d\n0 d\n0 d\n0 d\n2-01-0000\nP-4 r-392\n0 h\n0 h\n")
  pub case_62_2 : Prints
      (codes "HEX 4 f STO f 1\ng 4 3\ng 4 5\nHEX 1 STO 2\nHEX 1 ENTER 7 ENTER 8 ENTER 8 g ENTER\n5\nf STO\n1\nRDN\nRDN\nRDN\ng ENTER\nRCL SST\nf .\nf 0\nHEX\nRCL 0\n")
      (codes "0 h\n0 h\n0 h G\n1 h G\n0 h G\n5 h G\n00 h G\n01 h G\n00 h G\n08 h G\n08 h G\n00 h G\n00 h G\n1-05-1000\nP-0 r-203\n00 h G\n00 h G\n")
  pub case_63_1 : Prints
      (codes "HEX 2 f STO f 2\ng 4 1\ng 4 3\nHEX 1 ENTER 2 ENTER 2 ENTER 1 g ENTER\nRDN F OCT\nf x<>y\n1\nRDN\nRDN\nRDN\ng ENTER\nRCL SST\nf .\nf 0\nHEX\nRCL 0\n")
      (codes "0 h\n0 h\n0 h\n0 h\n1 o\n1 o\n1 o\n1 o\n2 o\n2 o\n0 o\n0 o\n2-02-1010\nP-0 r-406\n0 h\n0 h\n")
  pub case_63_2 : Prints
      (codes "HEX 3 F f STO f 3\ng R/S g GTO A f x<>y 1 g R/S\nHEX 3 STO SST\ng 4 2\ng 4 0\ng 4 3\nHEX 4 0 0 0 0 0 0 0 0 0 0 0 0 0 0 0 ENTER 0 ENTER 0 ENTER 7 F F F F F F F F F F F F F F F g ENTER\nENTER\nSST\nGTO A\nSST SST\nSST\n1\nRDN\nRDN\nRDN\ng ENTER\nRCL SST\nf .\nf 0\nHEX\nRCL 0\n")
      (codes "0 h\n0 h\n3 h\n3 h\n3 h\n00000003 .h\n00000000 .h\n00000000 .h\n00000001 .h\n00000001 .h\n00000001 .h\n00000001 .h\n00000011 .h\n00000001 .h\n00000000 .h\nFFFFFFFF .h\n00000000 .h\n00000003 .h\n0-63-1101\nP-4 r-24\n00000003 .h\n00000000 .h\n")
  pub case_64_1 : Prints
      (codes "HEX 3 f STO f 3\ng R/S g GTO A g 1 1 g R/S\nHEX 6 5 STO SST\ng 4 4\ng 4 1\ng 4 2\nHEX 0 ENTER 0 ENTER 7 ENTER 0 g ENTER\ng STO BIN\nSST\nGTO A\nSST SST\nSST\n1\nRDN\nRDN\nRDN\ng ENTER\nRCL SST\nf .\nf 0\nHEX\nRCL 0\n")
      (codes "0 h\n0 h\n6 h\n6 h C\n6 h C\n6 h C\n0 h C\n0 b C\n1 b C\n1 b C\n1 b C\n1 b C\n1 b C\n1 b C\n0 b C\n0 b C\n0 b C\n110 b C\n0-03-0110\nP-4 r-392\n6 h C\n0 h C\n")
  pub case_64_2 : Prints
      (codes "HEX 1 1 f STO f 2\nHEX 2 STO SST\ng 4 4\ng 4 2\nHEX 1 0 0 0 0 STO 1\nHEX 1 0 0 0 0 ENTER 1 ENTER 1 F F F F ENTER 1 0 g ENTER\n\ng 1\n1\nRDN\nRDN\nRDN\ng ENTER\nRCL SST\nf .\nf 0\nHEX\nRCL 0\n")
      (codes "0 h\n2 h\n2 h C\n2 h C\n10000 h C\n0 h C\n0 h C\n0 h C\n1 h C\n0 h C\n10 h C\n1FFFF h C\n0 h C\n2 h C\n2-17-0100\nP-0 r-81\n2 h C\n0 h C\n")
  pub case_65_1 : Prints
      (codes "HEX C f STO f 3\nHEX 2 8 STO SST\ng 4 1\nHEX C C 3 ENTER 8 0 0 ENTER 1 ENTER F F F g ENTER\nRDN 6\ng 2\n1\nRDN\nRDN\nRDN\ng ENTER\nRCL SST\nf .\nf 0\nHEX\nRCL 0\n")
      (codes "0 h\n28 h\n28 h\n0 h\n6 h\n6 h\n1 h\n6 h\nFFF h\n1 h\n0 h\n28 h\n0-12-0010\nP-0 r-135\n28 h\n0 h\n")
  pub case_65_2 : Prints
      (codes "HEX 9 f STO f 3\ng 4 0\ng 4 5\ng 4 3\nHEX 1 0 0 STO F\nHEX 1 5 0 ENTER F F ENTER 2 ENTER 1 g ENTER\nHEX 7\ng 2\n1\nRDN\nRDN\nRDN\ng ENTER\nRCL SST\nf .\nf 0\nHEX\nRCL 0\n")
      (codes "0 h\n0 h\n0 h G\n000 h G\n100 h G\n000 h G\n007 h G\n007 h G\n001 h G\n007 h G\n000 h G\n001 h G\n000 h G\n000 h G\n0-09-1001\nP-0 r-135\n000 h G\n000 h G\n")
  pub case_66_1 : Prints
      (codes "HEX 5 f STO f 1\ng 4 3\ng 4 1\nHEX 6 STO 0\nHEX 1 ENTER 1 F ENTER 3 ENTER 1 F g ENTER\nHEX 0\ng 3\n1\nRDN\nRDN\nRDN\ng ENTER\nRCL SST\nf .\nf 0\nHEX\nRCL 0\n")
      (codes "0 h\n00 h\n00 h\n06 h\n00 h\n00 h\n00 h\n01 h\n00 h\n00 h\n1F h\n00 h\n00 h\n1-05-1010\nP-0 r-203\n00 h\n06 h\n")
  pub case_66_2 : Prints
      (codes "HEX 3 F f STO f 1\nHEX 2 STO SST\ng 4 0\ng 4 2\ng 4 4\nHEX 7 F F F F F F F F F F F F F F F ENTER 3 F F F F F F F F F F F F F F F ENTER 7 9 9 A 9 6 5 9 2 3 F 8 8 E 5 3 ENTER 4 0 0 0 0 0 0 0 0 0 0 0 0 0 0 0 g ENTER\n\ng 3\n1\nRDN\nRDN\nRDN\ng ENTER\nRCL SST\nf .\nf 0\nHEX\nRCL 0\n")
      (codes "0 h\n2 h\n2 h\n2 h\n2 h C\n0 h C\n0 h C\n0 h C\n1 h C\n0 h C\n00000000 .h C\n23F88E53 .h C\n0 h C\n2 h C\n1-63-0101\nP-0 r-25\n2 h C\n0 h C\n")
  pub case_67_1 : Prints
      (codes "HEX 5 f STO f 2\ng R/S g GTO A g - 1 g R/S\nHEX F STO SST\ng 4 5\ng 4 1\ng 4 4\nHEX 1 ENTER 1 0 ENTER 1 ENTER 1 F g ENTER\nA\nSST\nGTO A\nSST SST\nSST\n1\nRDN\nRDN\nRDN\ng ENTER\nRCL SST\nf .\nf 0\nHEX\nRCL 0\n")
      (codes "0 h\n0 h\nF h\nF h G\nF h G\nF h C G\n0 h C G\nA h C G\n1 h C G\n1 h C G\n1 h C G\n1 h C G\n11 h C G\n1 h C G\nA h C G\n0 h C G\n0 h C G\nF h C G\n2-05-0010\nP-4 r-196\nF h C G\n0 h C G\n")
  pub case_67_2 : Prints
      (codes "HEX 1 8 f STO f 3\nHEX 1 ENTER 1 ENTER F F F F F F ENTER 0 g ENTER\n7\ng -\n1\nRDN\nRDN\nRDN\ng ENTER\nRCL SST\nf .\nf 0\nHEX\nRCL 0\n")
      (codes "0 h\n0 h\n7 h\n7 h\n1 h\n7 h\n0 h\n0 h\n0 h\n0 h\n0-24-0000\nP-0 r-67\n0 h\n0 h\n")
  pub case_68_1 : Prints
      (codes "HEX F f STO f 2\nHEX 1 STO SST\ng 4 5\nHEX 1 C 5 2 ENTER 3 5 8 9 ENTER 4 2 6 4 ENTER 1 D 2 g ENTER\nHEX 1\ng 0\n1\nRDN\nRDN\nRDN\ng ENTER\nRCL SST\nf .\nf 0\nHEX\nRCL 0\n")
      (codes "0 h\n1 h\n1 h G\n0 h G\n1 h G\n1 h G\n1 h G\n1 h G\n0 h G\n1D2 h G\n0 h G\n1 h G\n2-15-0000\nP-0 r-101\n1 h G\n0 h G\n")
  pub case_68_2 : Prints
      (codes "HEX 7 f STO f 2\nHEX 3 STO SST\ng 4 5\nHEX 0 ENTER 4 0 ENTER 3 F ENTER 1 g ENTER\ng BSP OCT\ng 0\n1\nRDN\nRDN\nRDN\ng ENTER\nRCL SST\nf .\nf 0\nHEX\nRCL 0\n")
      (codes "0 h\n3 h\n3 h G\n0 h G\n0 o G\n0 o G\n1 o G\n1 o G\n77 o G\n100 o G\n0 o G\n3 o G\n2-07-0000\nP-0 r-203\n3 h G\n0 h G\n")
  pub case_69_1 : Prints
      (codes "HEX 5 f STO f 3\nHEX 2 8 STO SST\ng 4 1\ng 4 0\ng 4 5\nHEX 1 ENTER F ENTER 1 E ENTER 1 0 g ENTER\nRDN\ng .\n1\nRDN\nRDN\nRDN\ng ENTER\nRCL SST\nf .\nf 0\nHEX\nRCL 0\n")
      (codes "0 h\n2 h\n2 h\n2 h\n2 h G\n0 h G\n10 h G\n10 h G\n1 h G\n10 h G\n1E h G\nF h G\n0 h G\n2 h G\n0-05-0011\nP-0 r-203\n2 h G\n0 h G\n")
  pub case_69_2 : Prints
      (codes "HEX 2 1 f STO f 2\nHEX 1 7 4 9 1 A 5 1 F STO 2\nHEX 1 F F F F F F F F ENTER 1 ENTER 0 ENTER 1 g ENTER\nHEX B OCT\ng .\n1\nRDN\nRDN\nRDN\ng ENTER\nRCL SST\nf .\nf 0\nHEX\nRCL 0\n")
      (codes "0 h\n7491A51F .h\n0 h\n13 o\n13 o\n1 o\n13 o\n0 o\n1 o\n0 o\n0 o\n2-33-0000\nP-0 r-45\n0 h\n0 h\n")
  pub case_70_1 : Prints
      (codes "HEX 4 0 f STO f 1\nHEX 2 8 STO SST\ng 4 4\ng 4 0\ng 4 5\nHEX F F F F F F F F F F F F F F F F STO 1\nHEX A F 1 B B 4 0 5 A 5 6 A E 9 D 6 ENTER 7 F F F F F F F F F F F F F F F ENTER 2 8 ENTER F F F F F F F F F F F F F F F F g ENTER\nBSP\ng CHS\n1\nRDN\nRDN\nRDN\ng ENTER\nRCL SST\nf .\nf 0\nHEX\nRCL 0\n")
      (codes "0 h\n28 h\n28 h C\n28 h C\n28 h C G\nFFFFFFFF .h C G\n0 h C G\n0 h C G\n0 h C G\n1 h C G\nFFFFFFFF .h C G\n28 h C G\nFFFFFFFF .h C G\n0 h C G\n28 h C G\n1-64-0001\nP-0 r-25\n28 h C G\n0 h C G\n")
  pub case_70_2 : Prints
      (codes "HEX 2 0 f STO f 2\ng R/S g GTO A g CHS 1 g R/S\nHEX F F F F F F F F STO F\nHEX 8 0 0 0 0 0 0 0 ENTER F F F F F F F F ENTER 0 ENTER 1 g ENTER\nBSP BIN\nSST\nGTO A\nSST SST\nSST\n1\nRDN\nRDN\nRDN\ng ENTER\nRCL SST\nf .\nf 0\nHEX\nRCL 0\n")
      (codes "0 h\n0 h\nFFFFFFFF h\n0 h\n0 b\n1 b\n1 b\n1 b\n1 b\n11 b\n1 b\n1 b\n0 b\n0 b\n0 b\n2-32-0000\nP-4 r-49\n0 h\n0 h\n")
  pub case_71_1 : Prints
      (codes "HEX C f STO f 3\ng 4 1\ng 4 3\nHEX F F F ENTER F F F ENTER 0 ENTER 5 6 9 g ENTER\nHEX 4 OCT\ng +\n1\nRDN\nRDN\nRDN\ng ENTER\nRCL SST\nf .\nf 0\nHEX\nRCL 0\n")
      (codes "0 h\n0 h\n000 h\n000 h\n0004 o\n0004 o\n0001 o\n0004 o\n0000 o\n2551 o\n0000 o\n0000 o\n0-12-1010\nP-0 r-135\n000 h\n000 h\n")
  pub case_71_2 : Prints
      (codes "HEX 1 f STO f 3\ng 4 1\ng 4 3\nHEX 1 ENTER 0 ENTER 0 ENTER 0 g ENTER\n\ng +\n1\nRDN\nRDN\nRDN\ng ENTER\nRCL SST\nf .\nf 0\nHEX\nRCL 0\n")
      (codes "0 h\n0 h\n0 h\n0 h\n0 h\n0 h\n1 h\n0 h\n0 h\n0 h\n0 h\n0 h\n0-01-1010\nP-0 r-406\n0 h\n0 h\n")
  pub case_72_1 : Prints
      (codes "HEX 1 1 f STO f 2\ng 4 3\ng 4 0\ng 4 4\nHEX 1 0 0 0 0 ENTER 1 F F F F ENTER A ENTER 1 g ENTER\nC DEC\ng HEX\n1\nRDN\nRDN\nRDN\ng ENTER\nRCL SST\nf .\nf 0\nHEX\nRCL 0\n")
      (codes "0 h\n00000 h\n00000 h\n00000 h C\n00000 h C\n12 d C\n12 d C\n1 d C\n12 d C\n0 d C\n1 d C\n0 d C\n-1 d C\n2-17-1001\nP-0 r-81\n1FFFF h C\n00000 h C\n")
  pub case_72_2 : Prints
      (codes "HEX 1 1 f STO f 2\nHEX 3 STO SST\ng 4 2\ng 4 4\nHEX 1 STO 3\nHEX 1 E 6 8 F ENTER 1 F F F F ENTER 1 0 E 9 4 ENTER 0 g ENTER\n5\ng HEX\n1\nRDN\nRDN\nRDN\ng ENTER\nRCL SST\nf .\nf 0\nHEX\nRCL 0\n")
      (codes "0 h\n3 h\n3 h\n3 h C\n1 h C\n0 h C\n5 h C\n5 h C\n1 h C\n5 h C\n0 h C\n0 h C\n0 h C\n2 h C\n2-17-0100\nP-0 r-81\n2 h C\n0 h C\n")
  pub case_73_1 : Prints
      (codes "HEX 8 f STO f 2\ng R/S g GTO A g DEC 1 g R/S\nHEX F F ENTER F F ENTER 1 ENTER 7 F g ENTER\nRDN\nSST\nGTO A\nSST SST\nSST\n1\nRDN\nRDN\nRDN\ng ENTER\nRCL SST\nf .\nf 0\nHEX\nRCL 0\n")
      (codes "0 h\n0 h\n0 h\n7F h\n1 h\n1 h\n1 h\n1 h\n11 h\n1 h\n7F h\n1 h\n0 h\n1 h\n2-08-0000\nP-4 r-196\n1 h\n0 h\n")
  pub case_73_2 : Prints
      (codes "HEX 4 0 f STO f 2\ng 4 3\nHEX F F F F F F F F F F F F F F F F ENTER F F F F F F F F F F F F F F F F ENTER 7 9 0 B A A 1 5 B E 0 7 B 5 C 9 ENTER F F F F F F F F F F F F F F F F g ENTER\nRDN 6 OCT\ng DEC\n1\nRDN\nRDN\nRDN\ng ENTER\nRCL SST\nf .\nf 0\nHEX\nRCL 0\n")
      (codes "0 h\n00000000 .h\n00000000 .h\n00000006 .o\n00000006 .o\n00000001 .o\n00000006 .o\n77777777 .o\n01732711 .o\n00000000 .o\n00000001 .o\n2-64-1000\nP-0 r-25\n00000001 .h\n00000000 .h\n")
  pub case_74_1 : Prints
      (codes "HEX 3 0 f STO f 2\nHEX 1 2 C STO SST\ng 4 0\ng 4 5\nHEX 8 0 0 0 0 0 0 0 0 0 0 0 ENTER F F F F F F F F F F F F ENTER F F F F F F F F F F F F ENTER 1 7 9 A B C 2 D 1 8 0 A g ENTER\ng 4 2 f ENTER 1\ng 4 0\n1\nRDN\nRDN\nRDN\ng ENTER\nRCL SST\nf .\nf 0\nHEX\nRCL 0\n")
      (codes "0 h\n12C h\n12C h\n12C h G\n0 h G\n h. G\n0 h G\n1 h G\n0 h G\nBC2D180A .h G\nFFFFFFFF .h G\n0 h G\n12C h G\n2-48-0101\nP-0 r-33\n12C h G\n0 h G\n")
  pub case_74_2 : Prints
      (codes "HEX 2 1 f STO f 2\ng R/S g GTO A g 4 0 1 g R/S\nHEX 2 8 STO SST\nHEX 1 F F F F F F F F STO 2\nHEX 1 7 F 3 D 8 8 F C ENTER 9 7 C 4 1 F 4 1 ENTER 0 ENTER 1 4 9 8 6 8 C 1 7 g ENTER\nRDN 4 f ENTER 1\nSST\nGTO A\nSST SST\nSST\n1\nRDN\nRDN\nRDN\ng ENTER\nRCL SST\nf .\nf 0\nHEX\nRCL 0\n")
      (codes "0 h\n0 h\n28 h\nFFFFFFFF .h\n0 h\n h.\n1 h\n1 h\n1 h\n1 h\n11 h\n1 h\n4 h\n49868C17 .h\n0 h\n28 h\n2-33-0001\nP-4 r-43\n28 h\n0 h\n")
