-- Key files and what they print. Written by scripts/state_key_files.py.
use Rattle.std.specs.Prelude.{codes}
use Rattle.hp_model.specs.WorkedKeyFiles.{Prints}

pub record Operations11 : Type 0 where
  pub case_150_1 : Prints
      (codes "HEX 2 0 f STO f 3\nHEX 2 STO SST\ng 4 2\ng 4 5\nHEX 0 ENTER 1 ENTER 8 0 0 0 0 0 0 0 ENTER 1 g ENTER\n1 HEX\nSTO 5\n1\nRDN\nRDN\nRDN\ng ENTER\nRCL SST\nf .\nf 0\nHEX\nRCL 0\n")
      (codes "0 h\n2 h\n2 h\n2 h G\n0 h G\n1 h G\n1 h G\n1 h G\n1 h G\n0 h G\n1 h G\n0 h G\n2 h G\n0-32-0100\nP-0 r-50\n2 h G\n0 h G\n")
  pub case_150_2 : Prints
      (codes "HEX 2 1 f STO f 2\nHEX F F F F F F F F STO 2\nHEX 1 F F F F F F F F ENTER E ENTER 1 0 0 0 0 0 0 0 0 ENTER F F F F F F F F g ENTER\n0 DEC\nSTO 5\n1\nRDN\nRDN\nRDN\ng ENTER\nRCL SST\nf .\nf 0\nHEX\nRCL 0\n")
      (codes "0 h\nFFFFFFFF h\n0 h\n0 d\n0 d\n1 d\n0 d\n0 d\n94967295 .d\n0 d\n0 d\n2-33-0000\nP-0 r-45\n0 h\n0 h\n")
  pub case_151_1 : Prints
      (codes "HEX 2 8 f STO f 1\nHEX F 4 1 B F B E E 5 4 STO 0\nHEX 0 ENTER 3 D F 0 9 D 3 9 2 1 ENTER 1 0 ENTER 0 g ENTER\n f ENTER 1\nSTO 6\n1\nRDN\nRDN\nRDN\ng ENTER\nRCL SST\nf .\nf 0\nHEX\nRCL 0\n")
      (codes "0 h\n1BFBEE54 .h\n0 h\n h.\n0 h\n1 h\n0 h\n0 h\n10 h\n0 h\n0 h\n1-40-0000\nP-0 r-40\n0 h\n1BFBEE54 .h\n")
  pub case_151_2 : Prints
      (codes "HEX 7 f STO f 1\nHEX F STO SST\ng 4 0\ng 4 1\ng 4 5\nHEX 4 0 ENTER 3 F ENTER 4 0 ENTER 3 F g ENTER\n0 BIN\nSTO 6\n1\nRDN\nRDN\nRDN\ng ENTER\nRCL SST\nf .\nf 0\nHEX\nRCL 0\n")
      (codes "0 h\nF h\nF h\nF h\nF h G\n0 h G\n0 b G\n0 b G\n1 b G\n0 b G\n0 b G\n111111 b G\n0 b G\n1111 b G\n1-07-0011\nP-0 r-203\nF h G\n0 h G\n")
  pub case_152_1 : Prints
      (codes "HEX 3 F f STO f 3\ng R/S g GTO A STO 7 1 g R/S\nHEX 1 STO SST\ng 4 0\ng 4 1\nHEX 7 F F F F F F F F F F F F F F F STO 2\nHEX 4 0 0 0 0 0 0 0 0 0 0 0 0 0 0 0 ENTER 4 0 0 0 0 0 0 0 0 0 0 0 0 0 0 0 ENTER 7 E 4 7 3 5 6 F 2 F 4 8 4 C F 7 ENTER 3 F F F F F F F F F F F F F F F g ENTER\n0\nSST\nGTO A\nSST SST\nSST\n1\nRDN\nRDN\nRDN\ng ENTER\nRCL SST\nf .\nf 0\nHEX\nRCL 0\n")
      (codes "0 h\n0 h\n1 h\n1 h\n1 h\nFFFFFFFF .h\n0 h\n0 h\n1 h\n1 h\n1 h\n1 h\n11 h\n1 h\n0 h\n0 h\n0 h\n1 h\n0-63-0011\nP-4 r-24\n1 h\n0 h\n")
  pub case_152_2 : Prints
      (codes "HEX 3 F f STO f 2\ng 4 4\nHEX 4 2 9 5 1 D 9 F 9 A 3 F F A 2 1 STO 3\nHEX 2 3 ENTER D 2 8 A 7 5 2 0 A 7 0 0 2 F 7 ENTER 1 ENTER 1 8 g ENTER\nRDN D\nSTO 7\n1\nRDN\nRDN\nRDN\ng ENTER\nRCL SST\nf .\nf 0\nHEX\nRCL 0\n")
      (codes "0 h\n0 h C\n9A3FFA21 .h C\n0 h C\nD h C\nD h C\n1 h C\nD h C\n18 h C\n1 h C\n0 h C\n0 h C\n2-63-0000\nP-0 r-25\n0 h C\n0 h C\n")
  pub case_153_1 : Prints
      (codes "HEX 1 0 f STO f 1\ng R/S g GTO A STO 8 1 g R/S\ng 4 3\nHEX 8 0 0 0 STO 3\nHEX B 6 7 1 ENTER 2 6 9 ENTER F F F F ENTER F F F F g ENTER\ng 4 2\nSST\nGTO A\nSST SST\nSST\n1\nRDN\nRDN\nRDN\ng ENTER\nRCL SST\nf .\nf 0\nHEX\nRCL 0\n")
      (codes "0 h\n0 h\n0000 h\n8000 h\n0000 h\n0000 h\n0001 h\n0001 h\n0001 h\n0001 h\n0011 h\n0001 h\n0000 h\nFFFF h\n0000 h\n0000 h\n1-16-1100\nP-4 r-98\n0000 h\n0000 h\n")
  pub case_153_2 : Prints
      (codes "HEX F f STO f 3\nHEX 1 2 C STO SST\nHEX 4 0 0 0 STO 2\nHEX 4 0 0 0 ENTER 0 ENTER 4 0 0 0 ENTER 2 4 A 9 g ENTER\nBSP\nSTO 8\n1\nRDN\nRDN\nRDN\ng ENTER\nRCL SST\nf .\nf 0\nHEX\nRCL 0\n")
      (codes "0 h\n12C h\n4000 h\n0 h\n0 h\n0 h\n1 h\n0 h\n24A9 h\n4000 h\n0 h\n12C h\n0-15-0000\nP-0 r-101\n12C h\n0 h\n")
  pub case_154_1 : Prints
      (codes "HEX 1 0 f STO f 1\ng R/S g GTO A STO 9 1 g R/S\ng 4 2\ng 4 4\ng 4 0\nHEX 3 A 7 9 STO 3\nHEX 1 ENTER 2 2 5 2 ENTER 7 F F F ENTER D 1 9 4 g ENTER\nHEX F HEX\nSST\nGTO A\nSST SST\nSST\n1\nRDN\nRDN\nRDN\ng ENTER\nRCL SST\nf .\nf 0\nHEX\nRCL 0\n")
      (codes "0 h\n0 h\n0 h\n0 h C\n0 h C\n3A79 h C\n0 h C\nF h C\n1 h C\n1 h C\n1 h C\n1 h C\n11 h C\n1 h C\nF h C\n0 h C\n0 h C\n0 h C\n1-16-0101\nP-4 r-98\n0 h C\n0 h C\n")
  pub case_154_2 : Prints
      (codes "HEX 1 8 f STO f 1\nHEX 6 5 STO SST\ng 4 0\ng 4 5\ng 4 4\nHEX 7 6 6 C B 2 ENTER F F F F F F ENTER A A 1 3 7 1 ENTER 6 7 3 2 6 2 g ENTER\nRDN 0 OCT\nSTO 9\n1\nRDN\nRDN\nRDN\ng ENTER\nRCL SST\nf .\nf 0\nHEX\nRCL 0\n")
      (codes "0 h\n65 h\n65 h\n65 h G\n65 h C G\n0 h C G\n0 o C G\n0 o C G\n1 o C G\n0 o C G\n31631142 o C G\n52411561 o C G\n0 o C G\n145 o C G\n1-24-0001\nP-0 r-67\n65 h C G\n0 h C G\n")
  pub case_155_1 : Prints
      (codes "HEX 2 0 f STO f 3\nHEX 1 STO SST\ng 4 2\nHEX 1 ENTER 1 0 ENTER 0 ENTER 9 B 6 9 F 7 3 A g ENTER\nRDN 3 OCT\nSTO A\n1\nRDN\nRDN\nRDN\ng ENTER\nRCL SST\nf .\nf 0\nHEX\nRCL 0\n")
      (codes "0 h\n1 h\n1 h\n0 h\n3 o\n3 o\n1 o\n3 o\n32373472 .o\n0 o\n0 o\n1 o\n0-32-0100\nP-0 r-50\n1 h\n0 h\n")
  pub case_155_2 : Prints
      (codes "HEX F f STO f 3\ng R/S g GTO A STO A 1 g R/S\ng 4 3\ng 4 0\nHEX 3 F F F STO 3\nHEX 7 F F F ENTER 1 ENTER 7 F F F ENTER 0 g ENTER\ng BSP HEX\nSST\nGTO A\nSST SST\nSST\n1\nRDN\nRDN\nRDN\ng ENTER\nRCL SST\nf .\nf 0\nHEX\nRCL 0\n")
      (codes "0 h\n0 h\n0000 h\n0000 h\n3FFF h\n0000 h\n0000 h\n0001 h\n0001 h\n0001 h\n0001 h\n0011 h\n0001 h\n0000 h\n7FFF h\n0000 h\n0000 h\n0-15-1001\nP-4 r-98\n0000 h\n0000 h\n")
  pub case_156_1 : Prints
      (codes "HEX C f STO f 2\ng R/S g GTO A STO B 1 g R/S\nHEX 1 STO 1\nHEX 8 0 0 ENTER 0 ENTER 4 ENTER 6 g ENTER\nENTER\nSST\nGTO A\nSST SST\nSST\n1\nRDN\nRDN\nRDN\ng ENTER\nRCL SST\nf .\nf 0\nHEX\nRCL 0\n")
      (codes "0 h\n0 h\n1 h\n0 h\n0 h\n1 h\n1 h\n1 h\n1 h\n11 h\n1 h\n0 h\n6 h\n0 h\n0 h\n2-12-0000\nP-4 r-130\n0 h\n0 h\n")
  pub case_156_2 : Prints
      (codes "HEX F f STO f 2\ng 4 2\ng 4 1\nHEX 1 4 2 ENTER 0 ENTER 1 ENTER 3 F F F g ENTER\ng STO\nSTO B\n1\nRDN\nRDN\nRDN\ng ENTER\nRCL SST\nf .\nf 0\nHEX\nRCL 0\n")
      (codes "0 h\n0 h\n0 h\n0 h\n h.\n0 h\n1 h\n0 h\n3FFF h\n1 h\n0 h\n0 h\n2-15-0110\nP-0 r-101\n0 h\n0 h\n")
  pub case_157_1 : Prints
      (codes "HEX F f STO f 2\ng R/S g GTO A STO C 1 g R/S\ng 4 3\ng 4 1\nHEX 4 0 0 0 ENTER 1 ENTER 0 ENTER 7 F F F g ENTER\nENTER OCT\nSST\nGTO A\nSST SST\nSST\n1\nRDN\nRDN\nRDN\ng ENTER\nRCL SST\nf .\nf 0\nHEX\nRCL 0\n")
      (codes "0 h\n0 h\n0000 h\n0000 h\n0000 h\n00000 o\n00001 o\n00001 o\n00001 o\n00001 o\n00011 o\n00001 o\n00000 o\n77777 o\n00000 o\n00000 o\n2-15-1010\nP-4 r-98\n0000 h\n0000 h\n")
  pub case_157_2 : Prints
      (codes "HEX 2 1 f STO f 1\ng 4 0\ng 4 5\ng 4 3\nHEX 1 ENTER 9 F A 8 8 0 A 6 ENTER 1 8 B C 3 2 4 D ENTER 1 0 0 0 0 0 0 0 0 g ENTER\nRDN OCT\nSTO C\n1\nRDN\nRDN\nRDN\ng ENTER\nRCL SST\nf .\nf 0\nHEX\nRCL 0\n")
      (codes "0 h\n0 h\n0 h G\n00000000 .h G\n00000000 .h G\n00000000 .o G\n00000000 .o G\n00000001 .o G\n00000000 .o G\n57031115 .o G\n52100246 .o G\n00000000 .o G\n00000000 .o G\n1-33-1001\nP-0 r-45\n00000000 .h G\n00000000 .h G\n")
  pub case_158_1 : Prints
      (codes "HEX 1 0 f STO f 2\nHEX 0 STO SST\ng 4 0\nHEX 1 0 STO 2\nHEX 9 C B ENTER 7 F F F ENTER A ENTER A g ENTER\ng STO\nSTO D\n1\nRDN\nRDN\nRDN\ng ENTER\nRCL SST\nf .\nf 0\nHEX\nRCL 0\n")
      (codes "0 h\n0 h\n0 h\n10 h\n0 h\n h.\n0 h\n1 h\n0 h\nA h\nA h\n0 h\n0 h\n2-16-0001\nP-0 r-101\n0 h\n0 h\n")
  pub case_158_2 : Prints
      (codes "HEX 3 f STO f 3\nHEX 1 STO 0\nHEX 0 ENTER 7 ENTER 4 ENTER 0 g ENTER\ng BSP\nSTO D\n1\nRDN\nRDN\nRDN\ng ENTER\nRCL SST\nf .\nf 0\nHEX\nRCL 0\n")
      (codes "0 h\n1 h\n0 h\n0 h\n0 h\n1 h\n0 h\n0 h\n4 h\n0 h\n0 h\n0-03-0000\nP-0 r-406\n0 h\n1 h\n")
  pub case_159_1 : Prints
      (codes "HEX 4 0 f STO f 1\nHEX 2 STO SST\ng 4 1\nHEX B 4 D 1 B 6 D 8 9 5 A 6 D 0 3 B STO F\nHEX 0 ENTER 8 0 0 0 0 0 0 0 0 0 0 0 0 0 0 0 ENTER 0 ENTER 8 0 0 0 0 0 0 0 0 0 0 0 0 0 0 0 g ENTER\nBSP\nSTO E\n1\nRDN\nRDN\nRDN\ng ENTER\nRCL SST\nf .\nf 0\nHEX\nRCL 0\n")
      (codes "0 h\n2 h\n2 h\n95A6D03B .h\n0 h\n0 h\n0 h\n1 h\n0 h\n00000000 .h\n0 h\n0 h\n2 h\n1-64-0010\nP-0 r-25\n2 h\n0 h\n")
  pub case_159_2 : Prints
      (codes "HEX 5 f STO f 1\ng 4 1\nHEX 4 ENTER 1 0 ENTER 0 ENTER F g ENTER\nRDN\nSTO E\n1\nRDN\nRDN\nRDN\ng ENTER\nRCL SST\nf .\nf 0\nHEX\nRCL 0\n")
      (codes "0 h\n0 h\n0 h\nF h\nF h\n1 h\nF h\n0 h\n10 h\n0 h\n0 h\n1-05-0010\nP-0 r-203\n0 h\n0 h\n")
  pub case_160_1 : Prints
      (codes "HEX 1 f STO f 2\ng R/S g GTO A STO F 1 g R/S\nHEX 1 2 C STO SST\nHEX 1 STO 3\nHEX 0 ENTER 1 ENTER 1 ENTER 1 g ENTER\nF\nSST\nGTO A\nSST SST\nSST\n1\nRDN\nRDN\nRDN\ng ENTER\nRCL SST\nf .\nf 0\nHEX\nRCL 0\n")
      (codes "0 h\n0 h\n1 h\n1 h\n0 h\n0 h\n1 h\n1 h\n1 h\n1 h\n1 h\n1 h\n0 h\n1 h\n0 h\n1 h\n2-01-0000\nP-4 r-392\n1 h\n0 h\n")
  pub case_160_2 : Prints
      (codes "HEX 8 f STO f 1\nHEX 2 8 STO SST\ng 4 2\ng 4 5\nHEX F F ENTER 0 ENTER F F ENTER 7 F g ENTER\nRDN 0\nSTO F\n1\nRDN\nRDN\nRDN\ng ENTER\nRCL SST\nf .\nf 0\nHEX\nRCL 0\n")
      (codes "0 h\n28 h\n28 h\n28 h G\n0 h G\n0 h G\n0 h G\n1 h G\n0 h G\n7F h G\nFF h G\n0 h G\n28 h G\n1-08-0100\nP-0 r-203\n28 h G\n0 h G\n")
  pub case_161_1 : Prints
      (codes "HEX 9 f STO f 2\nHEX 1 F F STO 3\nHEX 1 ENTER 1 B 0 ENTER 4 ENTER F F g ENTER\nRDN 7 BIN\nSTO . 0\n1\nRDN\nRDN\nRDN\ng ENTER\nRCL SST\nf .\nf 0\nHEX\nRCL 0\n")
      (codes "0 h\n1FF h\n0 h\n111 b\n111 b\n1 b\n111 b\n11111111 b\n100 b\n0 b\n0 b\n2-09-0000\nP-0 r-135\n0 h\n0 h\n")
  pub case_161_2 : Prints
      (codes "HEX 2 8 f STO f 1\ng 4 5\ng 4 0\ng 4 2\nHEX 7 4 F 3 5 5 1 C F 3 STO 2\nHEX C ENTER 7 F F F F F F F F F ENTER 8 0 0 0 0 0 0 0 0 0 ENTER 7 3 B 1 0 A 0 9 6 4 g ENTER\nBSP\nSTO . 0\n1\nRDN\nRDN\nRDN\ng ENTER\nRCL SST\nf .\nf 0\nHEX\nRCL 0\n")
      (codes "0 h\n0 h G\n0 h G\n0 h G\nF3551CF3 .h G\n0 h G\n0 h G\n0 h G\n1 h G\n0 h G\nB10A0964 .h G\n00000000 .h G\n0 h G\n0 h G\n1-40-0101\nP-0 r-40\n0 h G\n0 h G\n")
  pub case_162_1 : Prints
      (codes "HEX 2 f STO f 3\nHEX 2 STO SST\ng 4 2\ng 4 1\ng 4 3\nHEX 1 ENTER 1 ENTER 2 ENTER 0 g ENTER\n\nSTO . 1\n1\nRDN\nRDN\nRDN\ng ENTER\nRCL SST\nf .\nf 0\nHEX\nRCL 0\n")
      (codes "0 h\n2 h\n2 h\n2 h\n2 h\n0 h\n0 h\n0 h\n1 h\n0 h\n0 h\n2 h\n0 h\n2 h\n0-02-1110\nP-0 r-406\n2 h\n0 h\n")
  pub case_162_2 : Prints
      (codes "HEX 2 8 f STO f 1\nHEX 9 STO SST\ng 4 5\nHEX 7 F F F F F F F F F STO 1\nHEX 6 3 B 4 8 A 0 1 6 8 ENTER 7 F F F F F F F F F ENTER 5 0 1 8 C 4 B 0 C 7 ENTER 2 0 g ENTER\ng STO\nSTO . 1\n1\nRDN\nRDN\nRDN\ng ENTER\nRCL SST\nf .\nf 0\nHEX\nRCL 0\n")
      (codes "0 h\n9 h\n9 h G\nFFFFFFFF .h G\n0 h G\n h. G\n0 h G\n1 h G\n0 h G\n20 h G\n18C4B0C7 .h G\n0 h G\n9 h G\n1-40-0000\nP-0 r-40\n9 h G\n0 h G\n")
  pub case_163_1 : Prints
      (codes "HEX 4 0 f STO f 3\ng R/S g GTO A STO . 2 1 g R/S\ng 4 3\ng 4 4\ng 4 5\nHEX 8 0 0 0 0 0 0 0 0 0 0 0 0 0 0 0 STO F\nHEX F F F F F F F F F F F F F F F F ENTER F A F F 8 D 7 8 A 9 A D E E 8 4 ENTER 8 0 0 0 0 0 0 0 0 0 0 0 0 0 0 0 ENTER 8 0 0 0 0 0 0 0 0 0 0 0 0 0 0 0 g ENTER\n DEC\nSST\nGTO A\nSST SST\nSST\n1\nRDN\nRDN\nRDN\ng ENTER\nRCL SST\nf .\nf 0\nHEX\nRCL 0\n")
      (codes "0 h\n0 h\n00000000 .h\n00000000 .h C\n00000000 .h C G\n00000000 .h C G\n00000000 .h C G\n0 d C G\n1 d C G\n1 d C G\n1 d C G\n1 d C G\n11 d C G\n1 d C G\n0 d C G\n54775808 .d C G\n0 d C G\n0 d C G\n0-64-1000\nP-4 r-24\n00000000 .h C G\n00000000 .h C G\n")
  pub case_163_2 : Prints
      (codes "HEX 3 f STO f 2\nHEX 0 STO SST\ng 4 3\ng 4 1\ng 4 4\nHEX 4 ENTER 7 ENTER 3 ENTER 3 g ENTER\nRDN HEX\nSTO . 2\n1\nRDN\nRDN\nRDN\ng ENTER\nRCL SST\nf .\nf 0\nHEX\nRCL 0\n")
      (codes "0 h\n0 h\n0 h\n0 h\n0 h C\n0 h C\n3 h C\n3 h C\n1 h C\n3 h C\n3 h C\n7 h C\n0 h C\n0 h C\n2-03-1010\nP-0 r-406\n0 h C\n0 h C\n")
  pub case_164_1 : Prints
      (codes "HEX 3 F f STO f 3\ng 4 3\ng 4 2\nHEX 0 ENTER 7 F F F F F F F F F F F F F F F ENTER 1 ENTER 1 g ENTER\nRDN D OCT\nSTO . 3\n1\nRDN\nRDN\nRDN\ng ENTER\nRCL SST\nf .\nf 0\nHEX\nRCL 0\n")
      (codes "0 h\n00000000 .h\n00000000 .h\n00000000 .h\n00000015 .o\n00000015 .o\n00000001 .o\n00000015 .o\n00000001 .o\n00000001 .o\n00000000 .o\n00000000 .o\n0-63-1100\nP-0 r-25\n00000000 .h\n00000000 .h\n")
  pub case_164_2 : Prints
      (codes "HEX 2 8 f STO f 3\nHEX 0 ENTER 0 ENTER 8 0 0 0 0 0 0 0 0 0 ENTER 7 F F F F F F F F F g ENTER\nRDN HEX\nSTO . 3\n1\nRDN\nRDN\nRDN\ng ENTER\nRCL SST\nf .\nf 0\nHEX\nRCL 0\n")
      (codes "0 h\n0 h\nFFFFFFFF .h\nFFFFFFFF .h\n1 h\nFFFFFFFF .h\n00000000 .h\n0 h\n0 h\n0 h\n0-40-0000\nP-0 r-40\n0 h\n0 h\n")
