-- Key files and what they print. Written by scripts/state_key_files.py.
use Rattle.std.specs.Prelude.{codes}
use Rattle.hp_model.specs.WorkedKeyFiles.{Prints}

pub record Operations15 : Type 0 where
  pub case_210_1 : Prints
      (codes "HEX 2 1 f STO f 3\ng R/S g GTO A RCL . F 1 g R/S\ng 4 5\nHEX 1 STO 0\nHEX 1 F F F F F F F F ENTER 1 F F F F F F F F ENTER 1 0 0 0 0 0 0 0 0 ENTER 1 E 4 4 1 5 7 B g ENTER\nRDN 0 DEC\nSST\nGTO A\nSST SST\nSST\n1\nRDN\nRDN\nRDN\ng ENTER\nRCL SST\nf .\nf 0\nHEX\nRCL 0\n")
      (codes "0 h\n0 h\n0 h G\n1 h G\n0 h G\n0 d G\n1 d G\n1 d G\n0 d G\n1 d G\n11 d G\n0 d G\n1 d G\n0 d G\n0 d G\n0 d G\n0-33-0000\nP-4 r-43\n0 h G\n1 h G\n")
  pub case_210_2 : Prints
      (codes "HEX F f STO f 1\ng 4 4\ng 4 5\nHEX 1 ENTER 0 ENTER 2 7 9 9 ENTER 4 g ENTER\ng BSP\nRCL . F\n1\nRDN\nRDN\nRDN\ng ENTER\nRCL SST\nf .\nf 0\nHEX\nRCL 0\n")
      (codes "0 h\n0 h C\n0 h C G\n0 h C G\n0 h C G\n0 h C G\n1 h C G\n0 h C G\n4 h C G\n2799 h C G\n0 h C G\n0 h C G\n1-15-0000\nP-0 r-101\n0 h C G\n0 h C G\n")
  pub case_211_1 : Prints
      (codes "HEX 2 f STO f 2\ng 4 0\nHEX 1 ENTER 1 ENTER 0 ENTER 2 g ENTER\nENTER\nRCL SST\n1\nRDN\nRDN\nRDN\ng ENTER\nRCL SST\nf .\nf 0\nHEX\nRCL 0\n")
      (codes "0 h\n0 h\n0 h\n0 h\n0 h\n1 h\n0 h\n0 h\n2 h\n0 h\n0 h\n2-02-0001\nP-0 r-406\n0 h\n0 h\n")
  pub case_211_2 : Prints
      (codes "HEX 2 8 f STO f 2\ng R/S g GTO A RCL SST 1 g R/S\nHEX 3 STO SST\nHEX 7 F F F F F F F F F STO F\nHEX 8 0 0 0 0 0 0 0 0 0 ENTER 8 0 0 0 0 0 0 0 0 0 ENTER C C F 9 5 8 6 8 C 1 ENTER 9 A 1 D 4 F D 1 1 D g ENTER\nENTER\nSST\nGTO A\nSST SST\nSST\n1\nRDN\nRDN\nRDN\ng ENTER\nRCL SST\nf .\nf 0\nHEX\nRCL 0\n")
      (codes "0 h\n0 h\n3 h\nFFFFFFFF .h\n0 h\n0 h\n1 h\n1 h\n3 h\n1 h\n11 h\n3 h\n1 h\n0 h\n0 h\n3 h\n2-40-0000\nP-4 r-39\n3 h\n0 h\n")
  pub case_212_1 : Prints
      (codes "HEX 1 8 f STO f 3\ng 4 4\nHEX 3 9 A 7 6 7 STO 2\nHEX C 9 A E 0 4 ENTER 0 ENTER 4 6 E D 1 7 ENTER 0 g ENTER\ng BSP\nRCL R/S\n1\nRDN\nRDN\nRDN\ng ENTER\nRCL SST\nf .\nf 0\nHEX\nRCL 0\n")
      (codes "0 h\n0 h C\n39A767 h C\n0 h C\n0 h C\n0 h C\n1 h C\n0 h C\n0 h C\n46ED17 h C\n0 h C\n0 h C\n0-24-0000\nP-0 r-67\n0 h C\n0 h C\n")
  pub case_212_2 : Prints
      (codes "HEX 4 f STO f 2\ng R/S g GTO A RCL R/S 1 g R/S\nHEX 3 STO SST\ng 4 5\nHEX 7 STO 3\nHEX F ENTER 8 ENTER 8 ENTER 1 g ENTER\nD\nSST\nGTO A\nSST SST\nSST\n1\nRDN\nRDN\nRDN\ng ENTER\nRCL SST\nf .\nf 0\nHEX\nRCL 0\n")
      (codes "0 h\n0 h\n3 h\n3 h G\n7 h G\n0 h G\nD h G\n1 h G\n1 h G\n7 h G\n1 h G\n1 h G\n7 h G\n1 h G\nD h G\n0 h G\n3 h G\n2-04-0000\nP-4 r-392\n3 h G\n0 h G\n")
  pub case_213_1 : Prints
      (codes "HEX 5 f STO f 2\nHEX 1 F ENTER 2 ENTER 0 ENTER 1 g ENTER\nENTER\nf GTO\n1\nRDN\nRDN\nRDN\ng ENTER\nRCL SST\nf .\nf 0\nHEX\nRCL 0\n")
      (codes "0 h\n0 h\n0 h\n0 h\n1 h\n0 h\n0 h\n1 h\n0 h\n0 h\n2-05-0000\nP-0 r-203\n0 h\n0 h\n")
  pub case_213_2 : Prints
      (codes "HEX 3 0 f STO f 2\nHEX F STO SST\ng 4 2\ng 4 5\nHEX F 6 C 1 D B 3 A 1 8 5 C STO 0\nHEX 4 C A 6 4 1 3 F 3 F 1 4 ENTER 8 0 0 0 0 0 0 0 0 0 0 0 ENTER E ENTER 0 g ENTER\nRDN OCT\nf GTO\n1\nRDN\nRDN\nRDN\ng ENTER\nRCL SST\nf .\nf 0\nHEX\nRCL 0\n")
      (codes "0 h\nF h\nF h\nF h G\nDB3A185C .h G\n0 h G\n0 o G\n17 o G\n1 o G\n17 o G\n16 o G\n00000000 .o G\n0 o G\n0 o G\n2-48-0100\nP-0 r-33\n0 h G\nDB3A185C .h G\n")
  pub case_214_1 : Prints
      (codes "HEX 8 f STO f 1\ng R/S g GTO A f GSB 1 g R/S\ng 4 1\ng 4 5\nHEX D 3 ENTER 0 ENTER 4 A ENTER 8 0 g ENTER\ng BSP\nSST\nGTO A\nSST SST\nSST\n1\nRDN\nRDN\nRDN\ng ENTER\nRCL SST\nf .\nf 0\nHEX\nRCL 0\n")
      (codes "0 h\n0 h\n0 h\n0 h G\n0 h G\n0 h G\n1 h G\n1 h G\n0 h G\n1 h G\n11 h G\n0 h G\n80 h G\n4A h G\n0 h G\n0 h G\n1-08-0010\nP-4 r-196\n0 h G\n1 h G\n")
  pub case_214_2 : Prints
      (codes "HEX 1 0 f STO f 3\ng 4 3\ng 4 2\ng 4 5\nHEX 8 ENTER 8 0 0 0 ENTER 0 ENTER 1 g ENTER\ng BSP\nf GSB\n1\nRDN\nRDN\nRDN\ng ENTER\nRCL SST\nf .\nf 0\nHEX\nRCL 0\n")
      (codes "0 h\n0000 h\n0000 h\n0000 h G\n0000 h G\n0000 h G\n0000 h G\n0001 h G\n0000 h G\n0001 h G\n0000 h G\n0000 h G\n0000 h G\n0-16-1100\nP-0 r-101\n0000 h G\n0000 h G\n")
  pub case_215_1 : Prints
      (codes "HEX 1 F f STO f 3\nHEX 7 F F F F F F F STO F\nHEX 1 ENTER 0 ENTER 6 A 6 F 8 4 2 F ENTER 3 F F F F F F F g ENTER\n\nf ENTER 0\n1\nRDN\nRDN\nRDN\ng ENTER\nRCL SST\nf .\nf 0\nHEX\nRCL 0\n")
      (codes "0 h\n7FFFFFFF h\n0 h\n0 h\n0 h\n1 h\n0 h\n3FFFFFFF h\n6A6F842F h\n0 h\n0 h\n0-31-0000\nP-0 r-50\n0 h\n0 h\n")
  pub case_215_2 : Prints
      (codes "HEX 5 f STO f 2\nHEX 1 STO 2\nHEX 1 ENTER 1 B ENTER 0 ENTER 2 g ENTER\nRDN 4\nf ENTER 0\n1\nRDN\nRDN\nRDN\ng ENTER\nRCL SST\nf .\nf 0\nHEX\nRCL 0\n")
      (codes "0 h\n1 h\n0 h\n4 h\n4 h\n1 h\n4 h\n2 h\n0 h\n0 h\n0 h\n2-05-0000\nP-0 r-203\n0 h\n0 h\n")
  pub case_216_1 : Prints
      (codes "HEX 2 f STO f 2\nHEX F STO SST\ng 4 4\ng 4 5\ng 4 1\nHEX 2 ENTER 1 ENTER 1 ENTER 1 g ENTER\n2 f ENTER 1\nf ENTER 1\n1\nRDN\nRDN\nRDN\ng ENTER\nRCL SST\nf .\nf 0\nHEX\nRCL 0\n")
      (codes "0 h\n0 h\n0 h C\n0 h C G\n0 h C G\n0 h C G\n h. C G\n h. C G\n1 h C G\n2 h C G\n0 h C G\n1 h C G\n0 h C G\n0 h C G\n2-02-0010\nP-0 r-406\n0 h C G\n0 h C G\n")
  pub case_216_2 : Prints
      (codes "HEX 1 0 f STO f 1\ng 4 0\ng 4 5\ng 4 3\nHEX 8 0 0 0 ENTER 1 ENTER 8 0 0 0 ENTER 0 g ENTER\nA\nf ENTER 1\n1\nRDN\nRDN\nRDN\ng ENTER\nRCL SST\nf .\nf 0\nHEX\nRCL 0\n")
      (codes "0 h\n0 h\n0 h G\n0000 h G\n0000 h G\n000A h G\n h. G\n0001 h G\n000A h G\n0000 h G\n0000 h G\n0000 h G\n0000 h G\n1-16-1001\nP-0 r-101\n0000 h G\n0000 h G\n")
  pub case_217_1 : Prints
      (codes "HEX 4 f STO f 2\ng R/S g GTO A f ENTER 2 1 g R/S\nHEX F STO SST\ng 4 5\nHEX 8 STO 2\nHEX 7 ENTER F ENTER 0 ENTER F g ENTER\ng BSP\nSST\nGTO A\nSST SST\nSST\n1\nRDN\nRDN\nRDN\ng ENTER\nRCL SST\nf .\nf 0\nHEX\nRCL 0\n")
      (codes "0 h\n0 h\nF h\nF h G\n8 h G\n0 h G\n0 h G\n1 h G\n1 h G\n h. G\n1 h G\n1 h G\n1 h G\nF h G\n0 h G\n0 h G\nF h G\n2-04-0000\nP-4 r-392\nF h G\n0 h G\n")
  pub case_217_2 : Prints
      (codes "HEX 1 f STO f 3\ng R/S g GTO A f ENTER 2 1 g R/S\nHEX 2 STO SST\nHEX 0 ENTER 1 ENTER 1 ENTER 1 g ENTER\nHEX F\nSST\nGTO A\nSST SST\nSST\n1\nRDN\nRDN\nRDN\ng ENTER\nRCL SST\nf .\nf 0\nHEX\nRCL 0\n")
      (codes "0 h\n0 h\n0 h\n0 h\n0 h\n1 h\n1 h\n h.\n1 h\n1 h\n1 h\n0 h\n1 h\n0 h\n0 h\n0-01-0000\nP-4 r-392\n0 h\n0 h\n")
  pub case_218_1 : Prints
      (codes "HEX 1 0 f STO f 2\nHEX 1 0 ENTER 7 F F F ENTER A A B ENTER 1 g ENTER\nENTER BIN\nf ENTER 3\n1\nRDN\nRDN\nRDN\ng ENTER\nRCL SST\nf .\nf 0\nHEX\nRCL 0\n")
      (codes "0 h\n0 h\n0 b\n b.\n1 b\n0 b\n1 b\n10101011 .b\n0 b\n0 b\n2-16-0000\nP-0 r-101\n0 h\n0 h\n")
  pub case_218_2 : Prints
      (codes "HEX 2 f STO f 2\ng R/S g GTO A f ENTER 3 1 g R/S\ng 4 5\nHEX 2 ENTER 0 ENTER 3 ENTER 0 g ENTER\ng STO\nSST\nGTO A\nSST SST\nSST\n1\nRDN\nRDN\nRDN\ng ENTER\nRCL SST\nf .\nf 0\nHEX\nRCL 0\n")
      (codes "0 h\n0 h\n0 h G\n0 h G\n h. G\n1 h G\n1 h G\n h. G\n1 h G\n1 h G\n1 h G\n0 h G\n0 h G\n0 h G\n0 h G\n2-02-0000\nP-4 r-392\n0 h G\n0 h G\n")
  pub case_219_1 : Prints
      (codes "HEX 4 f STO f 1\nHEX 1 STO SST\ng 4 3\nHEX 1 STO 3\nHEX F ENTER 0 ENTER F ENTER 0 g ENTER\nHEX C\nf ENTER 4\n1\nRDN\nRDN\nRDN\ng ENTER\nRCL SST\nf .\nf 0\nHEX\nRCL 0\n")
      (codes "0 h\n1 h\n1 h\n1 h\n0 h\nC h\n h.\n1 h\nC h\n0 h\n0 h\n0 h\n1 h\n1-04-1000\nP-0 r-406\n1 h\n0 h\n")
  pub case_219_2 : Prints
      (codes "HEX 5 f STO f 1\ng 4 0\nHEX F ENTER A ENTER 1 F ENTER 1 g ENTER\nHEX 2 DEC\nf ENTER 4\n1\nRDN\nRDN\nRDN\ng ENTER\nRCL SST\nf .\nf 0\nHEX\nRCL 0\n")
      (codes "0 h\n0 h\n0 h\n2 d\n d.\n1 d\n2 d\n0 d\n1 d\n0 d\n0 d\n1-05-0001\nP-0 r-203\n0 h\n0 h\n")
  pub case_220_1 : Prints
      (codes "HEX 4 f STO f 3\nHEX 0 ENTER 1 ENTER 7 ENTER 2 g ENTER\nBSP\nf ENTER 5\n1\nRDN\nRDN\nRDN\ng ENTER\nRCL SST\nf .\nf 0\nHEX\nRCL 0\n")
      (codes "0 h\n0 h\n0 h\n h.\n1 h\n2 h\n7 h\n1 h\n0 h\n0 h\n0-04-0000\nP-0 r-406\n0 h\n0 h\n")
  pub case_220_2 : Prints
      (codes "HEX F f STO f 1\ng 4 2\ng 4 5\ng 4 1\nHEX 0 STO 1\nHEX 3 F F F ENTER 3 F F F ENTER 4 0 0 0 ENTER 6 3 3 3 g ENTER\ng 4 2\nf ENTER 5\n1\nRDN\nRDN\nRDN\ng ENTER\nRCL SST\nf .\nf 0\nHEX\nRCL 0\n")
      (codes "0 h\n0 h\n0 h G\n0 h G\n0 h G\n0 h G\n0 h G\n h. G\n1 h G\n0 h G\n6333 h G\n4000 h G\n0 h G\n0 h G\n1-15-0110\nP-0 r-101\n0 h G\n0 h G\n")
  pub case_221_1 : Prints
      (codes "HEX 1 8 f STO f 1\ng 4 0\nHEX 8 7 4 5 D 9 STO 3\nHEX 9 F F 0 B 7 ENTER C 3 E 5 2 3 ENTER 2 4 3 D F 0 ENTER 7 F F F F F g ENTER\ng STO f ENTER 1\nf ENTER 6\n1\nRDN\nRDN\nRDN\ng ENTER\nRCL SST\nf .\nf 0\nHEX\nRCL 0\n")
      (codes "0 h\n0 h\n8745D9 h\n0 h\n h.\n h.\n1 h\n0 h\n7FFFFF h\n243DF0 h\n0 h\n0 h\n1-24-0001\nP-0 r-67\n0 h\n0 h\n")
  pub case_221_2 : Prints
      (codes "HEX 4 f STO f 3\ng 4 4\ng 4 2\nHEX F ENTER 8 ENTER A ENTER F g ENTER\ng 4 2 f ENTER 1\nf ENTER 6\n1\nRDN\nRDN\nRDN\ng ENTER\nRCL SST\nf .\nf 0\nHEX\nRCL 0\n")
      (codes "0 h\n0 h C\n0 h C\n0 h C\n h. C\n h. C\n1 h C\n0 h C\nF h C\nA h C\n0 h C\n0 h C\n0-04-0100\nP-0 r-406\n0 h C\n0 h C\n")
  pub case_222_1 : Prints
      (codes "HEX 2 1 f STO f 3\nHEX 3 STO SST\ng 4 4\nHEX 1 ENTER 1 0 0 0 0 0 0 0 0 ENTER 1 F F F F F F F F ENTER 0 g ENTER\ng 4 2\nf ENTER 7\n1\nRDN\nRDN\nRDN\ng ENTER\nRCL SST\nf .\nf 0\nHEX\nRCL 0\n")
      (codes "0 h\n3 h\n3 h C\n0 h C\n0 h C\n h. C\n1 h C\n0 h C\n0 h C\nFFFFFFFF .h C\n0 h C\n3 h C\n0-33-0100\nP-0 r-45\n3 h C\n0 h C\n")
  pub case_222_2 : Prints
      (codes "HEX 2 0 f STO f 3\nHEX F STO SST\ng 4 5\ng 4 0\ng 4 1\nHEX 9 E 2 4 A 4 A B STO F\nHEX 7 F F F F F F F ENTER A 4 5 4 9 C 1 0 ENTER 8 0 0 0 0 0 0 0 ENTER 7 F F F F F F F g ENTER\ng STO BIN\nf ENTER 7\n1\nRDN\nRDN\nRDN\ng ENTER\nRCL SST\nf .\nf 0\nHEX\nRCL 0\n")
      (codes "0 h\nF h\nF h G\nF h G\nF h G\n9E24A4AB h G\n0 h G\n0 b G\n b. G\n1 b G\n0 b G\n11111111 .b G\n00000000 .b G\n0 b G\n1111 b G\n0-32-0011\nP-0 r-50\nF h G\n0 h G\n")
  pub case_223_1 : Prints
      (codes "HEX 7 f STO f 2\nHEX 6 4 STO SST\ng 4 2\ng 4 5\ng 4 4\nHEX 3 8 STO 3\nHEX 4 6 ENTER 1 C ENTER 4 0 ENTER 3 F g ENTER\ng 4 2 f ENTER 1\ng STO\n1\nRDN\nRDN\nRDN\ng ENTER\nRCL SST\nf .\nf 0\nHEX\nRCL 0\n")
      (codes "0 h\n64 h\n64 h\n64 h G\n64 h C G\n38 h C G\n0 h C G\n h. C G\n h. C G\n1 h C G\n0 h C G\n3F h C G\n40 h C G\n0 h C G\n64 h C G\n2-07-0100\nP-0 r-203\n64 h C G\n0 h C G\n")
  pub case_223_2 : Prints
      (codes "HEX 2 f STO f 3\nHEX 2 8 STO SST\nHEX 3 STO F\nHEX 3 ENTER 2 ENTER 1 ENTER 0 g ENTER\nRDN\ng STO\n1\nRDN\nRDN\nRDN\ng ENTER\nRCL SST\nf .\nf 0\nHEX\nRCL 0\n")
      (codes "0 h\n2 h\n3 h\n0 h\n0 h\n h.\n1 h\n0 h\n1 h\n2 h\n0 h\n2 h\n0-02-0000\nP-0 r-406\n2 h\n0 h\n")
  pub case_224_1 : Prints
      (codes "HEX F f STO f 1\nHEX 1 STO SST\ng 4 1\ng 4 5\nHEX A ENTER A ENTER 7 F F F ENTER 1 g ENTER\n1\ng RCL\n1\nRDN\nRDN\nRDN\ng ENTER\nRCL SST\nf .\nf 0\nHEX\nRCL 0\n")
      (codes "0 h\n1 h\n1 h\n1 h G\n0 h G\n1 h G\n1 h G\n1 h G\n1 h G\n0 h G\n1 h G\n0 h G\n1 h G\n1-15-0010\nP-0 r-101\n1 h G\n0 h G\n")
  pub case_224_2 : Prints
      (codes "HEX C f STO f 1\nHEX 1 STO SST\ng 4 0\ng 4 3\ng 4 1\nHEX A STO F\nHEX 7 F F ENTER F B C ENTER 1 ENTER 1 g ENTER\nRDN\ng RCL\n1\nRDN\nRDN\nRDN\ng ENTER\nRCL SST\nf .\nf 0\nHEX\nRCL 0\n")
      (codes "0 h\n1 h\n1 h\n001 h\n001 h\n00A h\n000 h\n001 h\n001 h\n001 h\n001 h\n001 h\nFBC h\n000 h\n001 h\n1-12-1011\nP-0 r-135\n001 h\n000 h\n")
