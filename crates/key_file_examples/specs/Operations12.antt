-- Key files and what they print. Written by scripts/state_key_files.py.
use Rattle.std.specs.Prelude.{codes}
use Rattle.hp_model.specs.WorkedKeyFiles.{Prints}

pub record Operations12 : Type 0 where
  pub case_165_1 : Prints
      (codes "HEX 1 f STO f 2\nHEX 0 STO 3\nHEX 1 ENTER 0 ENTER 1 ENTER 0 g ENTER\nBSP\nSTO . 4\n1\nRDN\nRDN\nRDN\ng ENTER\nRCL SST\nf .\nf 0\nHEX\nRCL 0\n")
      (codes "0 h\n0 h\n0 h\n0 h\n0 h\n1 h\n0 h\n0 h\n1 h\n0 h\n0 h\n2-01-0000\nP-0 r-406\n0 h\n0 h\n")
  pub case_165_2 : Prints
      (codes "HEX 9 f STO f 2\nHEX 2 8 STO SST\nHEX 1 0 0 STO 2\nHEX 1 F F ENTER 0 ENTER 1 0 0 ENTER F 8 g ENTER\nHEX 2 DEC\nSTO . 4\n1\nRDN\nRDN\nRDN\ng ENTER\nRCL SST\nf .\nf 0\nHEX\nRCL 0\n")
      (codes "0 h\n28 h\n100 h\n0 h\n2 d\n2 d\n1 d\n2 d\n0 d\n248 d\n0 d\n40 d\n2-09-0000\nP-0 r-135\n28 h\n0 h\n")
  pub case_166_1 : Prints
      (codes "HEX 4 f STO f 3\nHEX 1 2 C STO SST\ng 4 3\ng 4 4\ng 4 1\nHEX E STO 1\nHEX 5 ENTER 8 ENTER 8 ENTER 7 g ENTER\ng BSP BIN\nSTO . 5\n1\nRDN\nRDN\nRDN\ng ENTER\nRCL SST\nf .\nf 0\nHEX\nRCL 0\n")
      (codes "0 h\n1 h\n1 h\n1 h C\n1 h C\nE h C\n0 h C\n0000 b C\n0000 b C\n0001 b C\n0000 b C\n0111 b C\n1000 b C\n0000 b C\n0001 b C\n0-04-1010\nP-0 r-406\n1 h C\n0 h C\n")
  pub case_166_2 : Prints
      (codes "HEX 4 f STO f 2\nHEX 0 STO 2\nHEX 8 ENTER 0 ENTER 0 ENTER 7 g ENTER\ng BSP\nSTO . 5\n1\nRDN\nRDN\nRDN\ng ENTER\nRCL SST\nf .\nf 0\nHEX\nRCL 0\n")
      (codes "0 h\n0 h\n0 h\n0 h\n0 h\n1 h\n0 h\n7 h\n0 h\n0 h\n0 h\n2-04-0000\nP-0 r-406\n0 h\n0 h\n")
  pub case_167_1 : Prints
      (codes "HEX 3 F f STO f 1\ng R/S g GTO A STO . 6 1 g R/S\nHEX 1 2 C STO SST\ng 4 5\nHEX 6 4 0 1 8 F D 0 F 8 B E F 2 7 6 STO 0\nHEX 1 7 7 B 6 9 2 9 A 5 9 D E E 7 ENTER 0 ENTER 7 F F F F F F F F F F F F F F F ENTER B g ENTER\nBSP\nSST\nGTO A\nSST SST\nSST\n1\nRDN\nRDN\nRDN\ng ENTER\nRCL SST\nf .\nf 0\nHEX\nRCL 0\n")
      (codes "0 h\n0 h\n12C h\n12C h G\nF8BEF276 .h G\n0 h G\n0 h G\n1 h G\n1 h G\n1 h G\n1 h G\n11 h G\n1 h G\nB h G\nFFFFFFFF .h G\n0 h G\n12C h G\n1-63-0000\nP-4 r-24\n12C h G\nF8BEF276 .h G\n")
  pub case_167_2 : Prints
      (codes "HEX F f STO f 3\ng 4 1\ng 4 3\ng 4 5\nHEX 3 F F F ENTER 5 B 1 8 ENTER F ENTER 1 3 B D g ENTER\nBSP BIN\nSTO . 6\n1\nRDN\nRDN\nRDN\ng ENTER\nRCL SST\nf .\nf 0\nHEX\nRCL 0\n")
      (codes "0 h\n0 h\n0000 h\n0000 h G\n0000 h G\n00000000 .b G\n00000000 .b G\n00000001 .b G\n00000000 .b G\n10111101 .b G\n00001111 .b G\n00000000 .b G\n00000000 .b G\n0-15-1010\nP-0 r-101\n0000 h G\n0000 h G\n")
  pub case_168_1 : Prints
      (codes "HEX 1 1 f STO f 1\nHEX 1 6 A B 6 STO F\nHEX 1 ENTER D ENTER 1 1 B 8 4 ENTER F 9 C 9 g ENTER\ng BSP BIN\nSTO . 7\n1\nRDN\nRDN\nRDN\ng ENTER\nRCL SST\nf .\nf 0\nHEX\nRCL 0\n")
      (codes "0 h\n16AB6 h\n0 h\n0 b\n0 b\n1 b\n0 b\n11001001 .b\n10000100 .b\n0 b\n0 b\n1-17-0000\nP-0 r-81\n0 h\n0 h\n")
  pub case_168_2 : Prints
      (codes "HEX 7 f STO f 2\ng 4 5\ng 4 1\ng 4 0\nHEX 4 0 STO F\nHEX 3 F ENTER 1 ENTER 1 ENTER 0 g ENTER\n\nSTO . 7\n1\nRDN\nRDN\nRDN\ng ENTER\nRCL SST\nf .\nf 0\nHEX\nRCL 0\n")
      (codes "0 h\n0 h G\n0 h G\n0 h G\n40 h G\n0 h G\n0 h G\n0 h G\n1 h G\n0 h G\n0 h G\n1 h G\n0 h G\n0 h G\n2-07-0011\nP-0 r-203\n0 h G\n0 h G\n")
  pub case_169_1 : Prints
      (codes "HEX 3 0 f STO f 2\ng R/S g GTO A STO . 8 1 g R/S\ng 4 2\ng 4 0\nHEX 8 0 0 0 0 0 0 0 0 0 0 0 ENTER 8 0 0 0 0 0 0 0 0 0 0 0 ENTER F 6 E 7 C 6 0 6 5 A C ENTER 6 6 6 8 E 5 9 4 B 5 3 5 g ENTER\ng 4 2\nSST\nGTO A\nSST SST\nSST\n1\nRDN\nRDN\nRDN\ng ENTER\nRCL SST\nf .\nf 0\nHEX\nRCL 0\n")
      (codes "0 h\n0 h\n0 h\n0 h\n0 h\n0 h\n1 h\n1 h\n1 h\n1 h\n11 h\n1 h\n0 h\nE594B535 .h\n0 h\n0 h\n2-48-0101\nP-4 r-32\n0 h\n0 h\n")
  pub case_169_2 : Prints
      (codes "HEX 2 8 f STO f 3\nHEX 9 STO SST\ng 4 0\ng 4 3\ng 4 4\nHEX 1 STO F\nHEX 7 F F F F F F F F F ENTER 7 F F F F F F F F F ENTER F F 8 0 7 3 7 2 C 6 ENTER 7 F F F F F F F F F g ENTER\nRDN B HEX\nSTO . 8\n1\nRDN\nRDN\nRDN\ng ENTER\nRCL SST\nf .\nf 0\nHEX\nRCL 0\n")
      (codes "0 h\n9 h\n9 h\n00000009 .h\n00000009 .h C\n00000001 .h C\n00000000 .h C\n0000000B .h C\n0000000B .h C\n00000001 .h C\n0000000B .h C\nFFFFFFFF .h C\n807372C6 .h C\n00000000 .h C\n00000009 .h C\n0-40-1001\nP-0 r-40\n00000009 .h C\n00000000 .h C\n")
  pub case_170_1 : Prints
      (codes "HEX 1 8 f STO f 2\ng R/S g GTO A STO . 9 1 g R/S\nHEX 6 4 STO SST\ng 4 2\ng 4 3\nHEX 1 STO F\nHEX 7 ENTER 8 0 0 0 0 0 ENTER 0 ENTER 1 g ENTER\ng STO\nSST\nGTO A\nSST SST\nSST\n1\nRDN\nRDN\nRDN\ng ENTER\nRCL SST\nf .\nf 0\nHEX\nRCL 0\n")
      (codes "0 h\n0 h\n64 h\n64 h\n000064 h\n000001 h\n000000 h\n h.\n000001 h\n000001 h\n000001 h\n000001 h\n000011 h\n000001 h\n000000 h\n000001 h\n000000 h\n000064 h\n2-24-1100\nP-4 r-65\n000064 h\n000000 h\n")
  pub case_170_2 : Prints
      (codes "HEX 1 1 f STO f 3\ng R/S g GTO A STO . 9 1 g R/S\ng 4 1\ng 4 3\ng 4 0\nHEX 1 0 0 0 0 STO 0\nHEX 1 3 1 2 F ENTER 1 0 0 0 0 ENTER 1 F F F F ENTER 3 E 5 E g ENTER\n8\nSST\nGTO A\nSST SST\nSST\n1\nRDN\nRDN\nRDN\ng ENTER\nRCL SST\nf .\nf 0\nHEX\nRCL 0\n")
      (codes "0 h\n0 h\n0 h\n00000 h\n00000 h\n10000 h\n00000 h\n00008 h\n00001 h\n00001 h\n00001 h\n00001 h\n00011 h\n00001 h\n00008 h\n00000 h\n00000 h\n00000 h\n0-17-1011\nP-4 r-78\n00000 h\n10000 h\n")
  pub case_171_1 : Prints
      (codes "HEX 1 1 f STO f 1\nHEX 3 STO SST\ng 4 4\ng 4 3\ng 4 0\nHEX 1 ENTER 5 A 5 6 ENTER 1 F F F F ENTER C 0 E 2 g ENTER\ng STO BIN\nSTO . A\n1\nRDN\nRDN\nRDN\ng ENTER\nRCL SST\nf .\nf 0\nHEX\nRCL 0\n")
      (codes "0 h\n3 h\n3 h C\n00003 h C\n00003 h C\n00000 h C\n00000000 .b C\n00000000 .b C\n00000001 .b C\n00000000 .b C\n11100010 .b C\n11111111 .b C\n00000000 .b C\n00000011 .b C\n1-17-1001\nP-0 r-81\n00003 h C\n00000 h C\n")
  pub case_171_2 : Prints
      (codes "HEX 4 0 f STO f 2\ng R/S g GTO A STO . A 1 g R/S\nHEX 4 4 0 3 F C A 7 3 4 B E 9 7 E 3 ENTER 8 0 0 0 0 0 0 0 0 0 0 0 0 0 0 0 ENTER 8 0 0 0 0 0 0 0 0 0 0 0 0 0 0 0 ENTER F F F F F F F F F F F F F F F F g ENTER\nHEX B OCT\nSST\nGTO A\nSST SST\nSST\n1\nRDN\nRDN\nRDN\ng ENTER\nRCL SST\nf .\nf 0\nHEX\nRCL 0\n")
      (codes "0 h\n0 h\n0 h\n13 o\n1 o\n1 o\nError 3\nError 3\n1 o\n1 o\n13 o\n0 o\n0 o\n0 o\n2-64-0000\nP-4 r-24\n0 h\n0 h\n")
  pub case_172_1 : Prints
      (codes "HEX 2 f STO f 2\nHEX 1 STO SST\nHEX 1 STO F\nHEX 0 ENTER 3 ENTER 1 ENTER 3 g ENTER\nRDN\nSTO . B\n1\nRDN\nRDN\nRDN\ng ENTER\nRCL SST\nf .\nf 0\nHEX\nRCL 0\n")
      (codes "0 h\n1 h\n1 h\n0 h\n3 h\n3 h\n1 h\n3 h\n1 h\n3 h\n0 h\n1 h\n2-02-0000\nP-0 r-406\n1 h\n0 h\n")
  pub case_172_2 : Prints
      (codes "HEX 2 f STO f 2\nHEX 6 5 STO SST\nHEX 0 ENTER 3 ENTER 2 ENTER 2 g ENTER\n5 f ENTER 1\nSTO . B\n1\nRDN\nRDN\nRDN\ng ENTER\nRCL SST\nf .\nf 0\nHEX\nRCL 0\n")
      (codes "0 h\n0 h\n0 h\n h.\n0 h\n1 h\n0 h\n2 h\n2 h\n0 h\n0 h\n2-02-0000\nP-0 r-406\n0 h\n0 h\n")
  pub case_173_1 : Prints
      (codes "HEX F f STO f 3\nHEX 1 2 C STO SST\ng 4 5\nHEX 8 ENTER 6 9 1 6 ENTER 7 F F F ENTER 7 F F F g ENTER\nRDN\nSTO . C\n1\nRDN\nRDN\nRDN\ng ENTER\nRCL SST\nf .\nf 0\nHEX\nRCL 0\n")
      (codes "0 h\n12C h\n12C h G\n0 h G\n7FFF h G\n7FFF h G\n1 h G\n7FFF h G\n7FFF h G\n6916 h G\n0 h G\n12C h G\n0-15-0000\nP-0 r-101\n12C h G\n0 h G\n")
  pub case_173_2 : Prints
      (codes "HEX 3 f STO f 1\ng R/S g GTO A STO . C 1 g R/S\nHEX 2 STO SST\ng 4 4\nHEX 3 ENTER 4 ENTER 0 ENTER 0 g ENTER\nHEX D DEC\nSST\nGTO A\nSST SST\nSST\n1\nRDN\nRDN\nRDN\ng ENTER\nRCL SST\nf .\nf 0\nHEX\nRCL 0\n")
      (codes "0 h\n0 h\n2 h\n2 h C\n0 h C\n0 d C\n1 d C\n1 d C\n1 d C\n1 d C\n1 d C\n1 d C\n0 d C\n0 d C\n0 d C\n2 d C\n1-03-0000\nP-4 r-392\n2 h C\n0 h C\n")
  pub case_174_1 : Prints
      (codes "HEX 2 1 f STO f 2\nHEX 2 STO SST\ng 4 5\nHEX 0 STO 0\nHEX 0 ENTER F F F F F F F F ENTER 1 F F F F F F F F ENTER F F F F F F F F g ENTER\nENTER\nSTO . D\n1\nRDN\nRDN\nRDN\ng ENTER\nRCL SST\nf .\nf 0\nHEX\nRCL 0\n")
      (codes "0 h\n2 h\n2 h G\n0 h G\n0 h G\n0 h G\n0 h G\n1 h G\n0 h G\n0 h G\nFFFFFFFF h G\n0 h G\n2 h G\n2-33-0000\nP-0 r-45\n2 h G\n0 h G\n")
  pub case_174_2 : Prints
      (codes "HEX 4 0 f STO f 3\nHEX 6 4 STO SST\nHEX 1 7 STO 3\nHEX 0 ENTER 0 ENTER 7 F F F F F F F F F F F F F F F ENTER 0 g ENTER\nRDN\nSTO . D\n1\nRDN\nRDN\nRDN\ng ENTER\nRCL SST\nf .\nf 0\nHEX\nRCL 0\n")
      (codes "0 h\n64 h\n17 h\n0 h\n0 h\nError 3\n1 h\n0 h\nFFFFFFFF .h\n0 h\n0 h\n64 h\n0-64-0000\nP-0 r-25\n64 h\n0 h\n")
  pub case_175_1 : Prints
      (codes "HEX 2 f STO f 1\nHEX 0 STO 3\nHEX 1 ENTER 3 ENTER 3 ENTER 0 g ENTER\ng 4 2\nSTO . E\n1\nRDN\nRDN\nRDN\ng ENTER\nRCL SST\nf .\nf 0\nHEX\nRCL 0\n")
      (codes "0 h\n0 h\n0 h\n0 h\n0 h\n1 h\n0 h\n0 h\n3 h\n0 h\n0 h\n1-02-0100\nP-0 r-406\n0 h\n0 h\n")
  pub case_175_2 : Prints
      (codes "HEX C f STO f 2\nHEX 1 2 C STO SST\ng 4 2\ng 4 4\nHEX 8 0 0 ENTER 0 ENTER A 2 9 ENTER 7 F F g ENTER\n\nSTO . E\n1\nRDN\nRDN\nRDN\ng ENTER\nRCL SST\nf .\nf 0\nHEX\nRCL 0\n")
      (codes "0 h\n12C h\n12C h\n12C h C\n0 h C\n0 h C\n0 h C\n1 h C\n0 h C\n7FF h C\nA29 h C\n0 h C\n12C h C\n2-12-0100\nP-0 r-135\n12C h C\n0 h C\n")
  pub case_176_1 : Prints
      (codes "HEX 2 0 f STO f 3\nHEX 2 8 STO SST\nHEX 0 ENTER 1 ENTER 4 6 A C 8 4 C 2 ENTER 8 1 B 1 F 2 7 C g ENTER\ng BSP\nSTO . F\n1\nRDN\nRDN\nRDN\ng ENTER\nRCL SST\nf .\nf 0\nHEX\nRCL 0\n")
      (codes "0 h\n28 h\n0 h\n0 h\n0 h\n1 h\n0 h\n81B1F27C h\n46AC84C2 h\n0 h\n28 h\n0-32-0000\nP-0 r-50\n28 h\n0 h\n")
  pub case_176_2 : Prints
      (codes "HEX 2 f STO f 3\nHEX 9 STO SST\ng 4 5\ng 4 0\nHEX 3 STO 0\nHEX 3 ENTER 3 ENTER 3 ENTER 0 g ENTER\n\nSTO . F\n1\nRDN\nRDN\nRDN\ng ENTER\nRCL SST\nf .\nf 0\nHEX\nRCL 0\n")
      (codes "0 h\n0 h\n0 h G\n0 h G\n3 h G\n0 h G\n0 h G\n0 h G\n1 h G\n0 h G\n0 h G\n3 h G\n0 h G\n0 h G\n0-02-0001\nP-0 r-406\n0 h G\n3 h G\n")
  pub case_177_1 : Prints
      (codes "HEX 9 f STO f 1\nHEX 6 4 STO SST\ng 4 1\nHEX F F STO F\nHEX A 1 ENTER 1 8 4 ENTER F F ENTER 0 g ENTER\nRDN 6 f ENTER 1\nSTO SST\n1\nRDN\nRDN\nRDN\ng ENTER\nRCL SST\nf .\nf 0\nHEX\nRCL 0\n")
      (codes "0 h\n64 h\n64 h\nFF h\n0 h\n h.\n6 h\n1 h\n6 h\n0 h\nFF h\n0 h\n6 h\n1-09-0010\nP-0 r-135\n6 h\n0 h\n")
  pub case_177_2 : Prints
      (codes "HEX 7 f STO f 2\nHEX 1 STO SST\nHEX 7 F ENTER 3 8 ENTER 1 ENTER 7 F g ENTER\ng 4 2 DEC\nSTO SST\n1\nRDN\nRDN\nRDN\ng ENTER\nRCL SST\nf .\nf 0\nHEX\nRCL 0\n")
      (codes "0 h\n1 h\n0 h\n0 d\n0 d\n1 d\n0 d\n-1 d\n1 d\n0 d\n0 d\n2-07-0100\nP-0 r-203\n0 h\n0 h\n")
  pub case_178_1 : Prints
      (codes "HEX 3 f STO f 1\nHEX 1 2 C STO SST\ng 4 1\ng 4 3\ng 4 5\nHEX 1 ENTER 5 ENTER 3 ENTER 1 g ENTER\nRDN\nSTO R/S\n1\nRDN\nRDN\nRDN\ng ENTER\nRCL SST\nf .\nf 0\nHEX\nRCL 0\n")
      (codes "0 h\n1 h\n1 h\n1 h\n1 h G\n0 h G\n1 h G\n1 h G\n1 h G\n1 h G\n3 h G\n5 h G\n0 h G\n1 h G\n1-03-1010\nP-0 r-406\n1 h G\n0 h G\n")
  pub case_178_2 : Prints
      (codes "HEX 3 f STO f 3\nHEX F STO SST\ng 4 4\ng 4 3\ng 4 5\nHEX 5 STO 3\nHEX 1 ENTER 4 ENTER 6 ENTER 0 g ENTER\n6 f ENTER 1\nSTO R/S\n1\nRDN\nRDN\nRDN\ng ENTER\nRCL SST\nf .\nf 0\nHEX\nRCL 0\n")
      (codes "0 h\n0 h\n0 h C\n0 h C\n0 h C G\n5 h C G\n0 h C G\n h. C G\n6 h C G\n1 h C G\n6 h C G\n0 h C G\n0 h C G\n0 h C G\n0 h C G\n0-03-1000\nP-0 r-406\n0 h C G\n6 h C G\n")
  pub case_179_1 : Prints
      (codes "HEX 8 f STO f 2\ng R/S g GTO A RCL 0 1 g R/S\ng 4 4\ng 4 5\ng 4 3\nHEX 1 ENTER 9 1 ENTER 7 F ENTER 1 g ENTER\nHEX E\nSST\nGTO A\nSST SST\nSST\n1\nRDN\nRDN\nRDN\ng ENTER\nRCL SST\nf .\nf 0\nHEX\nRCL 0\n")
      (codes "0 h\n0 h\n0 h C\n0 h C G\n00 h C G\n00 h C G\n0E h C G\n01 h C G\n01 h C G\n00 h C G\n01 h C G\n11 h C G\n00 h C G\n01 h C G\n0E h C G\n00 h C G\n00 h C G\n2-08-1000\nP-4 r-196\n00 h C G\n00 h C G\n")
  pub case_179_2 : Prints
      (codes "HEX 2 1 f STO f 2\nHEX 2 8 STO SST\ng 4 1\ng 4 5\ng 4 4\nHEX 1 8 3 8 E 2 F F 8 ENTER F F F F F F F F ENTER F F F F F F F F ENTER 0 g ENTER\nBSP BIN\nRCL 0\n1\nRDN\nRDN\nRDN\ng ENTER\nRCL SST\nf .\nf 0\nHEX\nRCL 0\n")
      (codes "0 h\n28 h\n28 h\n28 h G\n28 h C G\n0 h C G\n0 b C G\n0 b C G\n1 b C G\n0 b C G\n0 b C G\n11111111 .b C G\n0 b C G\n101000 b C G\n2-33-0010\nP-0 r-45\n28 h C G\n0 h C G\n")
