-- Key files and what they print. Written by scripts/state_key_files.py.
use Rattle.std.specs.Prelude.{codes}
use Rattle.hp_model.specs.WorkedKeyFiles.{Prints}

pub record Operations13 : Type 0 where
  pub case_180_1 : Prints
      (codes "HEX 1 1 f STO f 2\ng 4 2\ng 4 0\ng 4 1\nHEX 0 STO 3\nHEX A ENTER 1 0 0 0 0 ENTER 1 ENTER 1 g ENTER\nENTER DEC\nRCL 1\n1\nRDN\nRDN\nRDN\ng ENTER\nRCL SST\nf .\nf 0\nHEX\nRCL 0\n")
      (codes "0 h\n0 h\n0 h\n0 h\n0 h\n0 h\n0 d\n0 d\n1 d\n0 d\n0 d\n1 d\n0 d\n0 d\n2-17-0111\nP-0 r-81\n0 h\n0 h\n")
  pub case_180_2 : Prints
      (codes "HEX 5 f STO f 1\nHEX 1 ENTER D ENTER F ENTER F g ENTER\n\nRCL 1\n1\nRDN\nRDN\nRDN\ng ENTER\nRCL SST\nf .\nf 0\nHEX\nRCL 0\n")
      (codes "0 h\n0 h\n0 h\n0 h\n1 h\n0 h\n0 h\nF h\n0 h\n0 h\n1-05-0000\nP-0 r-203\n0 h\n0 h\n")
  pub case_181_1 : Prints
      (codes "HEX 2 8 f STO f 1\ng R/S g GTO A RCL 2 1 g R/S\nHEX F F F F F F F F F F STO 1\nHEX 8 0 0 0 0 0 0 0 0 0 ENTER 0 ENTER B 3 1 4 8 F 4 F 9 F ENTER 8 0 0 0 0 0 0 0 0 0 g ENTER\nENTER\nSST\nGTO A\nSST SST\nSST\n1\nRDN\nRDN\nRDN\ng ENTER\nRCL SST\nf .\nf 0\nHEX\nRCL 0\n")
      (codes "0 h\n0 h\nFFFFFFFF .h\n0 h\n0 h\n1 h\n1 h\n0 h\n1 h\n11 h\n0 h\n1 h\n0 h\n0 h\n0 h\n1-40-0000\nP-4 r-39\n0 h\n0 h\n")
  pub case_181_2 : Prints
      (codes "HEX 2 1 f STO f 2\ng R/S g GTO A RCL 2 1 g R/S\nHEX 2 STO SST\nHEX 1 ENTER 1 F F F F F F F F ENTER F F F F F F F F ENTER 0 g ENTER\n\nSST\nGTO A\nSST SST\nSST\n1\nRDN\nRDN\nRDN\ng ENTER\nRCL SST\nf .\nf 0\nHEX\nRCL 0\n")
      (codes "0 h\n0 h\n2 h\n0 h\n0 h\n1 h\n1 h\n0 h\n1 h\n11 h\n0 h\n1 h\n0 h\n0 h\n2 h\n2-33-0000\nP-4 r-43\n2 h\n0 h\n")
  pub case_182_1 : Prints
      (codes "HEX 2 8 f STO f 2\nHEX 0 STO SST\ng 4 2\ng 4 3\nHEX 0 ENTER 9 ENTER 7 F F F F F F F F F ENTER 9 1 2 1 E 5 B 5 5 D g ENTER\n\nRCL 3\n1\nRDN\nRDN\nRDN\ng ENTER\nRCL SST\nf .\nf 0\nHEX\nRCL 0\n")
      (codes "0 h\n0 h\n0 h\n00000000 .h\n00000000 .h\n00000000 .h\n00000000 .h\n00000001 .h\n00000000 .h\n00000000 .h\n21E5B55D .h\n00000000 .h\n00000000 .h\n2-40-1100\nP-0 r-40\n00000000 .h\n00000000 .h\n")
  pub case_182_2 : Prints
      (codes "HEX 5 f STO f 2\ng 4 0\ng 4 3\nHEX 1 0 STO F\nHEX C ENTER 1 0 ENTER 1 3 ENTER F g ENTER\nRDN 4 HEX\nRCL 3\n1\nRDN\nRDN\nRDN\ng ENTER\nRCL SST\nf .\nf 0\nHEX\nRCL 0\n")
      (codes "0 h\n0 h\n00 h\n10 h\n00 h\n04 h\n00 h\n01 h\n00 h\n04 h\n0F h\n00 h\n00 h\n2-05-1001\nP-0 r-203\n00 h\n00 h\n")
  pub case_183_1 : Prints
      (codes "HEX 1 0 f STO f 1\nHEX 9 STO SST\ng 4 3\ng 4 5\nHEX 0 ENTER 1 ENTER 9 A B 3 ENTER 6 B 6 2 g ENTER\n\nRCL 4\n1\nRDN\nRDN\nRDN\ng ENTER\nRCL SST\nf .\nf 0\nHEX\nRCL 0\n")
      (codes "0 h\n9 h\n0009 h\n0009 h G\n0000 h G\n0000 h G\n0000 h G\n0001 h G\n0000 h G\n0000 h G\n6B62 h G\n0000 h G\n0009 h G\n1-16-1000\nP-0 r-101\n0009 h G\n0000 h G\n")
  pub case_183_2 : Prints
      (codes "HEX 3 0 f STO f 3\ng 4 4\nHEX 3 9 0 E C 2 C 8 B 1 7 2 STO 1\nHEX 0 ENTER 5 0 7 F 1 D 5 6 2 C 9 0 ENTER 8 0 0 0 0 0 0 0 0 0 0 0 ENTER 0 g ENTER\nRDN\nRCL 4\n1\nRDN\nRDN\nRDN\ng ENTER\nRCL SST\nf .\nf 0\nHEX\nRCL 0\n")
      (codes "0 h\n0 h C\nC2C8B172 .h C\n0 h C\n0 h C\n0 h C\n1 h C\n0 h C\n0 h C\n00000000 .h C\n0 h C\n0 h C\n0-48-0000\nP-0 r-33\n0 h C\n0 h C\n")
  pub case_184_1 : Prints
      (codes "HEX 1 1 f STO f 3\ng 4 5\nHEX E STO F\nHEX 1 0 4 6 C ENTER 1 0 0 0 0 ENTER 0 ENTER 1 0 0 0 0 g ENTER\n OCT\nRCL 5\n1\nRDN\nRDN\nRDN\ng ENTER\nRCL SST\nf .\nf 0\nHEX\nRCL 0\n")
      (codes "0 h\n0 h G\nE h G\n0 h G\n0 o G\n0 o G\n1 o G\n0 o G\n0 o G\n200000 o G\n0 o G\n0 o G\n0-17-0000\nP-0 r-81\n0 h G\n0 h G\n")
  pub case_184_2 : Prints
      (codes "HEX 2 1 f STO f 1\ng 4 2\nHEX 8 9 B C 1 F 7 A ENTER 0 ENTER 1 3 9 6 7 D A ENTER E 7 D B D 3 2 C g ENTER\n\nRCL 5\n1\nRDN\nRDN\nRDN\ng ENTER\nRCL SST\nf .\nf 0\nHEX\nRCL 0\n")
      (codes "0 h\n0 h\n0 h\n0 h\n0 h\n1 h\n0 h\n0 h\nE7DBD32C h\n0 h\n0 h\n1-33-0100\nP-0 r-45\n0 h\n0 h\n")
  pub case_185_1 : Prints
      (codes "HEX 1 8 f STO f 2\nHEX 0 STO 0\nHEX 0 ENTER 8 0 0 0 0 0 ENTER 7 F F F F F ENTER 8 A 4 4 9 7 g ENTER\nRDN E\nRCL 6\n1\nRDN\nRDN\nRDN\ng ENTER\nRCL SST\nf .\nf 0\nHEX\nRCL 0\n")
      (codes "0 h\n0 h\n0 h\nE h\n0 h\n1 h\n0 h\nE h\n8A4497 h\n0 h\n0 h\n2-24-0000\nP-0 r-67\n0 h\n0 h\n")
  pub case_185_2 : Prints
      (codes "HEX 3 0 f STO f 2\ng R/S g GTO A RCL 6 1 g R/S\nHEX 9 STO SST\ng 4 4\ng 4 3\nHEX F F F F F F F F F F F F STO F\nHEX F F F F F F F F F F F F ENTER 4 5 2 D C A E 5 A E E 2 ENTER C 3 9 2 0 1 F 7 7 0 3 6 ENTER 1 D g ENTER\nRDN\nSST\nGTO A\nSST SST\nSST\n1\nRDN\nRDN\nRDN\ng ENTER\nRCL SST\nf .\nf 0\nHEX\nRCL 0\n")
      (codes "0 h\n0 h\n9 h\n9 h C\n00000009 .h C\nFFFFFFFF .h C\n00000000 .h C\n0000001D .h C\n00000001 .h C\n00000001 .h C\n00000000 .h C\n00000001 .h C\n00000011 .h C\n00000000 .h C\n00000001 .h C\n0000001D .h C\n00000000 .h C\n00000009 .h C\n2-48-1000\nP-4 r-32\n00000009 .h C\n00000000 .h C\n")
  pub case_186_1 : Prints
      (codes "HEX 7 f STO f 1\nHEX 3 STO SST\ng 4 1\ng 4 0\nHEX 3 F STO 2\nHEX 3 ENTER 1 ENTER 7 F ENTER 3 F g ENTER\nENTER\nRCL 7\n1\nRDN\nRDN\nRDN\ng ENTER\nRCL SST\nf .\nf 0\nHEX\nRCL 0\n")
      (codes "0 h\n3 h\n3 h\n3 h\n3F h\n0 h\n0 h\n0 h\n1 h\n0 h\n0 h\n3F h\n0 h\n3 h\n1-07-0011\nP-0 r-203\n3 h\n0 h\n")
  pub case_186_2 : Prints
      (codes "HEX 9 f STO f 3\ng 4 3\nHEX 1 F F STO 1\nHEX 1 8 0 ENTER 1 1 9 ENTER 1 F F ENTER 0 g ENTER\ng 4 2\nRCL 7\n1\nRDN\nRDN\nRDN\ng ENTER\nRCL SST\nf .\nf 0\nHEX\nRCL 0\n")
      (codes "0 h\n000 h\n1FF h\n000 h\n000 h\n000 h\n001 h\n000 h\n000 h\n000 h\n000 h\n000 h\n0-09-1100\nP-0 r-135\n000 h\n000 h\n")
  pub case_187_1 : Prints
      (codes "HEX 3 F f STO f 3\ng 4 4\ng 4 0\nHEX 7 F F F F F F F F F F F F F F F STO 3\nHEX 4 ENTER 1 ENTER 5 3 3 3 B 3 0 4 9 1 8 B A 2 E 9 ENTER 1 g ENTER\ng BSP\nRCL 8\n1\nRDN\nRDN\nRDN\ng ENTER\nRCL SST\nf .\nf 0\nHEX\nRCL 0\n")
      (codes "0 h\n0 h C\n0 h C\nFFFFFFFF .h C\n0 h C\n0 h C\n0 h C\n1 h C\n0 h C\n1 h C\n918BA2E9 .h C\n0 h C\n0 h C\n0-63-0001\nP-0 r-25\n0 h C\n0 h C\n")
  pub case_187_2 : Prints
      (codes "HEX 2 0 f STO f 1\ng R/S g GTO A RCL 8 1 g R/S\nHEX F F F F F F F F STO 2\nHEX E 5 7 B D D E 3 ENTER F F F F F F F F ENTER F F F F F F F F ENTER 1 8 g ENTER\ng BSP\nSST\nGTO A\nSST SST\nSST\n1\nRDN\nRDN\nRDN\ng ENTER\nRCL SST\nf .\nf 0\nHEX\nRCL 0\n")
      (codes "0 h\n0 h\nFFFFFFFF h\n0 h\n0 h\n1 h\n1 h\n0 h\n1 h\n11 h\n0 h\n1 h\n18 h\n0 h\n0 h\n1-32-0000\nP-4 r-49\n0 h\n0 h\n")
  pub case_188_1 : Prints
      (codes "HEX 1 0 f STO f 3\ng R/S g GTO A RCL 9 1 g R/S\nHEX 1 STO SST\ng 4 1\ng 4 3\nHEX 5 F 6 D STO 0\nHEX 7 F F F ENTER 1 ENTER 8 0 0 0 ENTER 0 g ENTER\n\nSST\nGTO A\nSST SST\nSST\n1\nRDN\nRDN\nRDN\ng ENTER\nRCL SST\nf .\nf 0\nHEX\nRCL 0\n")
      (codes "0 h\n0 h\n1 h\n1 h\n0001 h\n5F6D h\n0000 h\n0000 h\n0001 h\n0001 h\n0000 h\n0001 h\n0011 h\n0000 h\n0001 h\n0000 h\n0000 h\n0001 h\n0-16-1010\nP-4 r-98\n0001 h\n5F6D h\n")
  pub case_188_2 : Prints
      (codes "HEX C f STO f 2\nHEX 9 STO SST\ng 4 0\ng 4 2\ng 4 5\nHEX 0 STO 3\nHEX F F F ENTER 0 ENTER 7 F F ENTER 5 C 2 g ENTER\ng BSP OCT\nRCL 9\n1\nRDN\nRDN\nRDN\ng ENTER\nRCL SST\nf .\nf 0\nHEX\nRCL 0\n")
      (codes "0 h\n9 h\n9 h\n9 h\n9 h G\n0 h G\n0 h G\n0 o G\n0 o G\n1 o G\n0 o G\n2702 o G\n3777 o G\n0 o G\n11 o G\n2-12-0101\nP-0 r-135\n9 h G\n0 h G\n")
  pub case_189_1 : Prints
      (codes "HEX 9 f STO f 2\nHEX 0 ENTER 1 4 2 ENTER 1 7 D ENTER B E g ENTER\n6 f ENTER 1\nRCL A\n1\nRDN\nRDN\nRDN\ng ENTER\nRCL SST\nf .\nf 0\nHEX\nRCL 0\n")
      (codes "0 h\n0 h\n h.\n0 h\n1 h\n0 h\n6 h\n0 h\n0 h\n0 h\n2-09-0000\nP-0 r-135\n0 h\n0 h\n")
  pub case_189_2 : Prints
      (codes "HEX 4 0 f STO f 2\nHEX 2 STO SST\ng 4 1\nHEX D 4 C B 9 D B D 2 3 7 4 6 D 4 ENTER D 5 6 3 8 5 5 0 A 1 7 1 5 E 9 E ENTER 7 F F F F F F F F F F F F F F F ENTER 1 B g ENTER\n8\nRCL A\n1\nRDN\nRDN\nRDN\ng ENTER\nRCL SST\nf .\nf 0\nHEX\nRCL 0\n")
      (codes "0 h\n2 h\n2 h\n0 h\n8 h\n0 h\n1 h\n0 h\n8 h\n0 h\n0 h\n2 h\n2-64-0010\nP-0 r-25\n2 h\n0 h\n")
  pub case_190_1 : Prints
      (codes "HEX 3 f STO f 1\nHEX 4 ENTER 2 ENTER 0 ENTER 1 g ENTER\ng BSP DEC\nRCL B\n1\nRDN\nRDN\nRDN\ng ENTER\nRCL SST\nf .\nf 0\nHEX\nRCL 0\n")
      (codes "0 h\n0 h\n0 d\n0 d\n1 d\n0 d\n1 d\n0 d\n0 d\n0 d\n1-03-0000\nP-0 r-406\n0 h\n0 h\n")
  pub case_190_2 : Prints
      (codes "HEX 2 f STO f 2\ng R/S g GTO A RCL B 1 g R/S\ng 4 1\ng 4 2\ng 4 3\nHEX 3 ENTER 3 ENTER 0 ENTER 3 g ENTER\nRDN\nSST\nGTO A\nSST SST\nSST\n1\nRDN\nRDN\nRDN\ng ENTER\nRCL SST\nf .\nf 0\nHEX\nRCL 0\n")
      (codes "0 h\n0 h\n0 h\n0 h\n0 h\n0 h\n3 h\n1 h\n1 h\n0 h\n1 h\n1 h\n0 h\n1 h\n3 h\n0 h\n0 h\n2-02-1110\nP-4 r-392\n0 h\n0 h\n")
  pub case_191_1 : Prints
      (codes "HEX 5 f STO f 3\ng 4 5\ng 4 0\nHEX 1 2 STO 2\nHEX F ENTER F ENTER 1 ENTER 5 g ENTER\ng BSP\nRCL C\n1\nRDN\nRDN\nRDN\ng ENTER\nRCL SST\nf .\nf 0\nHEX\nRCL 0\n")
      (codes "0 h\n0 h G\n0 h G\n12 h G\n0 h G\n0 h G\n0 h G\n1 h G\n0 h G\n5 h G\n1 h G\n0 h G\n0 h G\n0-05-0001\nP-0 r-203\n0 h G\n0 h G\n")
  pub case_191_2 : Prints
      (codes "HEX 3 f STO f 1\nHEX 9 STO SST\ng 4 2\ng 4 0\nHEX 7 STO 3\nHEX 1 ENTER 6 ENTER 3 ENTER 3 g ENTER\nBSP\nRCL C\n1\nRDN\nRDN\nRDN\ng ENTER\nRCL SST\nf .\nf 0\nHEX\nRCL 0\n")
      (codes "0 h\n0 h\n0 h\n0 h\n7 h\n0 h\n0 h\n0 h\n1 h\n0 h\n3 h\n3 h\n0 h\n0 h\n1-03-0101\nP-0 r-406\n0 h\n0 h\n")
  pub case_192_1 : Prints
      (codes "HEX 5 f STO f 3\nHEX 1 ENTER 1 F ENTER F ENTER 1 0 g ENTER\nHEX 1 HEX\nRCL D\n1\nRDN\nRDN\nRDN\ng ENTER\nRCL SST\nf .\nf 0\nHEX\nRCL 0\n")
      (codes "0 h\n0 h\n1 h\n0 h\n1 h\n0 h\n1 h\n0 h\n0 h\n0 h\n0-05-0000\nP-0 r-203\n0 h\n0 h\n")
  pub case_192_2 : Prints
      (codes "HEX 4 f STO f 3\ng R/S g GTO A RCL D 1 g R/S\ng 4 3\nHEX 7 STO F\nHEX B ENTER 8 ENTER 6 ENTER 7 g ENTER\nRDN D\nSST\nGTO A\nSST SST\nSST\n1\nRDN\nRDN\nRDN\ng ENTER\nRCL SST\nf .\nf 0\nHEX\nRCL 0\n")
      (codes "0 h\n0 h\n0 h\n7 h\n0 h\nD h\n1 h\n1 h\n0 h\n1 h\n1 h\n0 h\n1 h\nD h\n0 h\n0 h\n0-04-1000\nP-4 r-392\n0 h\n0 h\n")
  pub case_193_1 : Prints
      (codes "HEX 2 f STO f 1\nHEX 2 ENTER 2 ENTER 0 ENTER 1 g ENTER\nBSP\nRCL E\n1\nRDN\nRDN\nRDN\ng ENTER\nRCL SST\nf .\nf 0\nHEX\nRCL 0\n")
      (codes "0 h\n0 h\n0 h\n0 h\n1 h\n0 h\n1 h\n0 h\n0 h\n0 h\n1-02-0000\nP-0 r-406\n0 h\n0 h\n")
  pub case_193_2 : Prints
      (codes "HEX 4 f STO f 2\ng 4 1\nHEX 1 ENTER 0 ENTER F ENTER F g ENTER\nE HEX\nRCL E\n1\nRDN\nRDN\nRDN\ng ENTER\nRCL SST\nf .\nf 0\nHEX\nRCL 0\n")
      (codes "0 h\n0 h\n0 h\nE h\n0 h\n1 h\n0 h\nE h\n0 h\n0 h\n0 h\n2-04-0010\nP-0 r-406\n0 h\n0 h\n")
  pub case_194_1 : Prints
      (codes "HEX 5 f STO f 3\ng R/S g GTO A RCL F 1 g R/S\ng 4 5\nHEX 5 ENTER 1 E ENTER 9 ENTER 1 0 g ENTER\nENTER\nSST\nGTO A\nSST SST\nSST\n1\nRDN\nRDN\nRDN\ng ENTER\nRCL SST\nf .\nf 0\nHEX\nRCL 0\n")
      (codes "0 h\n0 h\n0 h G\n0 h G\n0 h G\n1 h G\n1 h G\n0 h G\n1 h G\n11 h G\n0 h G\n1 h G\n0 h G\n0 h G\n0 h G\n0-05-0000\nP-4 r-196\n0 h G\n0 h G\n")
  pub case_194_2 : Prints
      (codes "HEX 1 8 f STO f 1\ng 4 2\ng 4 5\ng 4 4\nHEX 1 3 ENTER 8 ENTER F F F F F F ENTER 7 F F F F F g ENTER\ng STO\nRCL F\n1\nRDN\nRDN\nRDN\ng ENTER\nRCL SST\nf .\nf 0\nHEX\nRCL 0\n")
      (codes "0 h\n0 h\n0 h G\n0 h C G\n0 h C G\n h. C G\n0 h C G\n1 h C G\n0 h C G\n0 h C G\n7FFFFF h C G\n0 h C G\n0 h C G\n1-24-0100\nP-0 r-67\n0 h C G\n0 h C G\n")
