-- Key files and what they print. Written by scripts/state_key_files.py.
use Rattle.std.specs.Prelude.{codes}
use Rattle.hp_model.specs.WorkedKeyFiles.{Prints}

pub record Operations10 : Type 0 where
  pub case_135_1 : Prints
      (codes "HEX 4 f STO f 1\nHEX 3 STO SST\nHEX F ENTER 3 ENTER 1 ENTER F g ENTER\nHEX 6 DEC\nGSB A\n1\nRDN\nRDN\nRDN\ng ENTER\nRCL SST\nf .\nf 0\nHEX\nRCL 0\n")
      (codes "0 h\n3 h\n0 h\n6 d\nError 4\n1 d\n6 d\n0 d\n-0 d\n0 d\n3 d\n1-04-0000\nP-0 r-406\n3 h\n0 h\n")
  pub case_135_2 : Prints
      (codes "HEX 4 0 f STO f 2\nHEX 9 STO SST\ng 4 2\ng 4 4\nHEX 1 ENTER 1 7 ENTER 0 ENTER 8 0 0 0 0 0 0 0 0 0 0 0 0 0 0 0 g ENTER\ng 4 2\nGSB A\n1\nRDN\nRDN\nRDN\ng ENTER\nRCL SST\nf .\nf 0\nHEX\nRCL 0\n")
      (codes "0 h\n9 h\n9 h\n9 h C\n0 h C\n0 h C\nError 4\n1 h C\n0 h C\n00000000 .h C\n0 h C\n0 h C\n9 h C\n2-64-0100\nP-0 r-25\n9 h C\n0 h C\n")
  pub case_136_1 : Prints
      (codes "HEX 4 0 f STO f 1\ng 4 4\ng 4 5\ng 4 0\nHEX F F F F F F F F F F F F F F F F STO 2\nHEX 5 0 C 6 7 F 4 7 1 B 8 D 8 F 5 0 ENTER 1 ENTER F F F F F F F F F F F F F F F F ENTER 0 g ENTER\nHEX 5\nGSB B\n1\nRDN\nRDN\nRDN\ng ENTER\nRCL SST\nf .\nf 0\nHEX\nRCL 0\n")
      (codes "0 h\n0 h C\n0 h C G\n0 h C G\nFFFFFFFF .h C G\n0 h C G\n5 h C G\nError 4\n1 h C G\n5 h C G\n0 h C G\n0 h C G\n0 h C G\n0 h C G\n1-64-0001\nP-0 r-25\n0 h C G\n0 h C G\n")
  pub case_136_2 : Prints
      (codes "HEX 1 0 f STO f 2\nHEX 1 STO SST\ng 4 4\ng 4 5\ng 4 3\nHEX D STO 2\nHEX 1 ENTER F F F F ENTER F F F F ENTER 2 g ENTER\nRDN HEX\nGSB B\n1\nRDN\nRDN\nRDN\ng ENTER\nRCL SST\nf .\nf 0\nHEX\nRCL 0\n")
      (codes "0 h\n1 h\n1 h C\n1 h C G\n0001 h C G\n000D h C G\n0000 h C G\n0002 h C G\nError 4\n0001 h C G\n0002 h C G\nFFFF h C G\nFFFF h C G\n0000 h C G\n0001 h C G\n2-16-1000\nP-0 r-101\n0001 h C G\n0000 h C G\n")
  pub case_137_1 : Prints
      (codes "HEX 4 f STO f 2\ng 4 5\ng 4 3\nHEX 8 STO 2\nHEX 8 ENTER 0 ENTER 0 ENTER C g ENTER\n\nGSB C\n1\nRDN\nRDN\nRDN\ng ENTER\nRCL SST\nf .\nf 0\nHEX\nRCL 0\n")
      (codes "0 h\n0 h G\n0 h G\n8 h G\n0 h G\n0 h G\nError 4\n1 h G\n0 h G\nC h G\n0 h G\n0 h G\n0 h G\n2-04-1000\nP-0 r-406\n0 h G\n0 h G\n")
  pub case_137_2 : Prints
      (codes "HEX 1 0 f STO f 1\nHEX 3 STO SST\ng 4 5\ng 4 3\ng 4 4\nHEX 8 0 0 0 ENTER 8 0 0 0 ENTER F F F F ENTER 7 F F F g ENTER\nRDN\nGSB C\n1\nRDN\nRDN\nRDN\ng ENTER\nRCL SST\nf .\nf 0\nHEX\nRCL 0\n")
      (codes "0 h\n3 h\n3 h G\n0003 h G\n0003 h C G\n0000 h C G\n7FFF h C G\nError 4\n0001 h C G\n7FFF h C G\nFFFF h C G\n8000 h C G\n0000 h C G\n0003 h C G\n1-16-1000\nP-0 r-101\n0003 h C G\n0000 h C G\n")
  pub case_138_1 : Prints
      (codes "HEX 3 f STO f 2\ng R/S g GTO A GSB D 1 g R/S\nHEX 3 STO SST\ng 4 2\ng 4 1\nHEX 4 STO 0\nHEX 4 ENTER 1 ENTER 0 ENTER 7 g ENTER\ng 4 2\nSST\nGTO A\nSST SST\nSST\n1\nRDN\nRDN\nRDN\ng ENTER\nRCL SST\nf .\nf 0\nHEX\nRCL 0\n")
      (codes "0 h\n0 h\n3 h\n3 h\n3 h\n4 h\n0 h\n0 h\n1 h\n1 h\nError 4\nError 4\n1 h\n1 h\n0 h\n7 h\n0 h\n3 h\n2-03-0110\nP-4 r-392\n3 h\n4 h\n")
  pub case_138_2 : Prints
      (codes "HEX 1 1 f STO f 1\ng 4 5\ng 4 3\ng 4 4\nHEX 1 F F F F STO 3\nHEX 1 0 0 0 0 ENTER A F 7 6 ENTER 1 F 5 7 A ENTER 1 g ENTER\n\nGSB D\n1\nRDN\nRDN\nRDN\ng ENTER\nRCL SST\nf .\nf 0\nHEX\nRCL 0\n")
      (codes "0 h\n0 h G\n00000 h G\n00000 h C G\n1FFFF h C G\n00000 h C G\n00000 h C G\nError 4\n00001 h C G\n00000 h C G\n00001 h C G\n1F57A h C G\n00000 h C G\n00000 h C G\n1-17-1000\nP-0 r-81\n00000 h C G\n00000 h C G\n")
  pub case_139_1 : Prints
      (codes "HEX 4 0 f STO f 3\nHEX 1 STO SST\ng 4 2\ng 4 1\nHEX 1 6 4 4 2 1 E 7 2 A F 9 6 7 7 0 STO 0\nHEX 4 4 D C F 7 4 7 C A 9 2 C B F 1 ENTER D 4 E B A 2 0 1 A 0 2 D 4 C F A ENTER 1 ENTER 7 F F F F F F F F F F F F F F F g ENTER\nENTER\nGSB E\n1\nRDN\nRDN\nRDN\ng ENTER\nRCL SST\nf .\nf 0\nHEX\nRCL 0\n")
      (codes "0 h\n1 h\n1 h\n1 h\n2AF96770 .h\n0 h\n0 h\nError 4\n1 h\n0 h\nFFFFFFFF .h\n1 h\n0 h\n1 h\n0-64-0110\nP-0 r-25\n1 h\n2AF96770 .h\n")
  pub case_139_2 : Prints
      (codes "HEX 1 f STO f 2\nHEX 0 STO SST\nHEX 0 STO 3\nHEX 0 ENTER 0 ENTER 1 ENTER 1 g ENTER\ng STO\nGSB E\n1\nRDN\nRDN\nRDN\ng ENTER\nRCL SST\nf .\nf 0\nHEX\nRCL 0\n")
      (codes "0 h\n0 h\n0 h\n0 h\n h.\nError 4\n1 h\n0 h\n1 h\n1 h\n0 h\n0 h\n2-01-0000\nP-0 r-406\n0 h\n0 h\n")
  pub case_140_1 : Prints
      (codes "HEX 1 1 f STO f 1\nHEX 6 5 STO SST\ng 4 1\ng 4 0\nHEX 1 8 5 1 8 ENTER 1 ENTER 0 ENTER B g ENTER\nRDN\nGSB F\n1\nRDN\nRDN\nRDN\ng ENTER\nRCL SST\nf .\nf 0\nHEX\nRCL 0\n")
      (codes "0 h\n65 h\n65 h\n65 h\n0 h\nB h\nError 4\n1 h\nB h\n0 h\n1 h\n0 h\n65 h\n1-17-0011\nP-0 r-81\n65 h\n0 h\n")
  pub case_140_2 : Prints
      (codes "HEX 3 0 f STO f 3\ng 4 2\ng 4 1\nHEX 0 STO 2\nHEX 3 F A F 3 A 4 5 3 1 5 ENTER 5 8 A E 3 F 6 F 7 7 4 ENTER 1 7 A 5 4 0 9 5 9 E 7 F ENTER 8 0 0 0 0 0 0 0 0 0 0 0 g ENTER\nENTER DEC\nGSB F\n1\nRDN\nRDN\nRDN\ng ENTER\nRCL SST\nf .\nf 0\nHEX\nRCL 0\n")
      (codes "0 h\n0 h\n0 h\n0 h\n0 h\n0 d\nError 4\n1 d\n0 d\n88355328 .d\n20589951 .d\n0 d\n0 d\n0-48-0110\nP-0 r-33\n0 h\n0 h\n")
  pub case_141_1 : Prints
      (codes "HEX 5 f STO f 2\nHEX 1 STO SST\ng 4 1\ng 4 5\ng 4 3\nHEX 1 0 STO 1\nHEX 1 F ENTER 1 4 ENTER 0 ENTER 1 2 g ENTER\ng BSP HEX\nGSB SST\n1\nRDN\nRDN\nRDN\ng ENTER\nRCL SST\nf .\nf 0\nHEX\nRCL 0\n")
      (codes "0 h\n1 h\n1 h\n1 h G\n01 h G\n10 h G\n00 h G\n00 h G\nError 4\n01 h G\n12 h G\n00 h G\n14 h G\n00 h G\n01 h G\n2-05-1010\nP-0 r-203\n01 h G\n00 h G\n")
  pub case_141_2 : Prints
      (codes "HEX 1 0 f STO f 1\nHEX D STO F\nHEX 8 0 0 0 ENTER 8 0 0 0 ENTER F F F F ENTER 8 0 0 0 g ENTER\nRDN HEX\nGSB SST\n1\nRDN\nRDN\nRDN\ng ENTER\nRCL SST\nf .\nf 0\nHEX\nRCL 0\n")
      (codes "0 h\nD h\n0 h\n8000 h\nError 4\n1 h\n8000 h\nFFFF h\n8000 h\n0 h\n0 h\n1-16-0000\nP-0 r-101\n0 h\n0 h\n")
  pub case_142_1 : Prints
      (codes "HEX 1 0 f STO f 3\ng R/S g GTO A g GSB 1 g R/S\nHEX 1 STO SST\nHEX 8 0 0 0 STO 1\nHEX B ENTER F F F F ENTER 1 ENTER B 7 A 3 g ENTER\nRDN E DEC\nSST\nGTO A\nSST SST\nSST\n1\nRDN\nRDN\nRDN\ng ENTER\nRCL SST\nf .\nf 0\nHEX\nRCL 0\n")
      (codes "0 h\n0 h\n1 h\n8000 h\n0 h\n14 d\n1 d\n1 d\n1 d\n1 d\n1 d\n1 d\n14 d\n47011 d\n0 d\n1 d\n0-16-0000\nP-4 r-98\n1 h\n0 h\n")
  pub case_142_2 : Prints
      (codes "HEX 1 8 f STO f 3\nHEX 9 STO SST\nHEX C 4 A 0 C D ENTER 2 ENTER D 7 1 4 4 A ENTER 1 g ENTER\nENTER\ng GSB\n1\nRDN\nRDN\nRDN\ng ENTER\nRCL SST\nf .\nf 0\nHEX\nRCL 0\n")
      (codes "0 h\n9 h\n0 h\n0 h\n0 h\n1 h\n0 h\n1 h\nD7144A h\n0 h\n9 h\n0-24-0000\nP-0 r-67\n9 h\n0 h\n")
  pub case_143_1 : Prints
      (codes "HEX 1 F f STO f 1\nHEX F STO SST\nHEX 7 F F F F F F F STO F\nHEX 3 F F F F F F F ENTER 6 5 9 F 7 6 B E ENTER 7 F F F F F F F ENTER 4 0 0 0 0 0 0 0 g ENTER\n\ng x<>y\n1\nRDN\nRDN\nRDN\ng ENTER\nRCL SST\nf .\nf 0\nHEX\nRCL 0\n")
      (codes "0 h\nF h\n7FFFFFFF h\n0 h\n0 h\n0 h\n1 h\n0 h\n40000000 h\n7FFFFFFF h\n0 h\nF h\n1-31-0000\nP-0 r-50\nF h\n0 h\n")
  pub case_143_2 : Prints
      (codes "HEX 5 f STO f 2\ng R/S g GTO A g x<>y 1 g R/S\ng 4 1\ng 4 3\ng 4 0\nHEX 1 0 STO 3\nHEX 1 E ENTER 1 0 ENTER 1 0 ENTER 1 F g ENTER\nBSP f ENTER 1\nSST\nGTO A\nSST SST\nSST\n1\nRDN\nRDN\nRDN\ng ENTER\nRCL SST\nf .\nf 0\nHEX\nRCL 0\n")
      (codes "0 h\n0 h\n0 h\n00 h\n00 h\n10 h\n00 h\n h.\n01 h\n01 h\n01 h\n01 h\n11 h\n01 h\n1F h\n10 h\n00 h\n00 h\n2-05-1011\nP-4 r-196\n00 h\n00 h\n")
  pub case_144_1 : Prints
      (codes "HEX 2 f STO f 2\nHEX 2 STO 0\nHEX 1 ENTER 1 ENTER 0 ENTER 3 g ENTER\n f ENTER 1\nR/S\n1\nRDN\nRDN\nRDN\ng ENTER\nRCL SST\nf .\nf 0\nHEX\nRCL 0\n")
      (codes "0 h\n2 h\n0 h\n h.\n0 h\n1 h\n0 h\n3 h\n0 h\n0 h\n0 h\n2-02-0000\nP-0 r-406\n0 h\n2 h\n")
  pub case_144_2 : Prints
      (codes "HEX 1 1 f STO f 1\nHEX 9 STO SST\ng 4 4\ng 4 1\ng 4 2\nHEX F F F F STO 3\nHEX 1 ENTER 7 ENTER 1 A B D D ENTER 0 g ENTER\nD DEC\nR/S\n1\nRDN\nRDN\nRDN\ng ENTER\nRCL SST\nf .\nf 0\nHEX\nRCL 0\n")
      (codes "0 h\n9 h\n9 h C\n9 h C\n9 h C\nFFFF h C\n0 h C\n13 d C\n13 d C\n1 d C\n13 d C\n0 d C\n0 d C\n0 d C\n9 d C\n1-17-0110\nP-0 r-81\n9 h C\n0 h C\n")
  pub case_145_1 : Prints
      (codes "HEX 3 f STO f 1\nHEX F STO SST\ng 4 2\ng 4 3\nHEX 4 STO 0\nHEX 4 ENTER 4 ENTER 1 ENTER 7 g ENTER\ng BSP f ENTER 1\nSTO 0\n1\nRDN\nRDN\nRDN\ng ENTER\nRCL SST\nf .\nf 0\nHEX\nRCL 0\n")
      (codes "0 h\n0 h\n0 h\n0 h\n4 h\n0 h\n h.\n0 h\n1 h\n0 h\n7 h\n1 h\n0 h\n0 h\n1-03-1100\nP-0 r-406\n0 h\n0 h\n")
  pub case_145_2 : Prints
      (codes "HEX 2 8 f STO f 3\ng 4 2\nHEX 1 STO 3\nHEX 2 2 ENTER 5 6 6 E 9 1 2 4 3 D ENTER E 9 8 7 A 1 7 D 3 C ENTER 8 0 0 0 0 0 0 0 0 0 g ENTER\nA f ENTER 1\nSTO 0\n1\nRDN\nRDN\nRDN\ng ENTER\nRCL SST\nf .\nf 0\nHEX\nRCL 0\n")
      (codes "0 h\n0 h\n1 h\n0 h\n h.\nA h\n1 h\nA h\n0 h\n00000000 .h\n0 h\n0 h\n0-40-0100\nP-0 r-40\n0 h\nA h\n")
  pub case_146_1 : Prints
      (codes "HEX 1 8 f STO f 1\nHEX 2 STO SST\ng 4 0\nHEX 7 F F F F F ENTER 0 ENTER 0 ENTER 1 g ENTER\ng BSP OCT\nSTO 1\n1\nRDN\nRDN\nRDN\ng ENTER\nRCL SST\nf .\nf 0\nHEX\nRCL 0\n")
      (codes "0 h\n2 h\n2 h\n0 h\n0 o\n0 o\n1 o\n0 o\n1 o\n0 o\n0 o\n2 o\n1-24-0001\nP-0 r-67\n2 h\n0 h\n")
  pub case_146_2 : Prints
      (codes "HEX 2 0 f STO f 2\nHEX 2 8 STO SST\ng 4 4\nHEX 0 STO 3\nHEX C F 4 A 4 3 D 8 ENTER 1 5 ENTER 6 7 3 4 6 A 3 2 ENTER F F F F F F F F g ENTER\ng BSP HEX\nSTO 1\n1\nRDN\nRDN\nRDN\ng ENTER\nRCL SST\nf .\nf 0\nHEX\nRCL 0\n")
      (codes "0 h\n28 h\n28 h C\n0 h C\n0 h C\n0 h C\n0 h C\n1 h C\n0 h C\nFFFFFFFF h C\n67346A32 h C\n0 h C\n28 h C\n2-32-0000\nP-0 r-50\n28 h C\n0 h C\n")
  pub case_147_1 : Prints
      (codes "HEX 5 f STO f 2\ng R/S g GTO A STO 2 1 g R/S\ng 4 0\ng 4 5\ng 4 3\nHEX 6 STO 0\nHEX 1 ENTER 1 0 ENTER 1 ENTER 1 g ENTER\nRDN\nSST\nGTO A\nSST SST\nSST\n1\nRDN\nRDN\nRDN\ng ENTER\nRCL SST\nf .\nf 0\nHEX\nRCL 0\n")
      (codes "0 h\n0 h\n0 h\n0 h G\n00 h G\n06 h G\n00 h G\n01 h G\n01 h G\n01 h G\n01 h G\n01 h G\n11 h G\n01 h G\n01 h G\n01 h G\n00 h G\n00 h G\n2-05-1001\nP-4 r-196\n00 h G\n06 h G\n")
  pub case_147_2 : Prints
      (codes "HEX 1 8 f STO f 3\nHEX 0 STO SST\ng 4 5\nHEX F F F F F F ENTER A 9 B 2 D ENTER 1 D 8 C 3 6 ENTER 8 0 0 0 0 0 g ENTER\n\nSTO 2\n1\nRDN\nRDN\nRDN\ng ENTER\nRCL SST\nf .\nf 0\nHEX\nRCL 0\n")
      (codes "0 h\n0 h\n0 h G\n0 h G\n0 h G\n0 h G\n1 h G\n0 h G\n800000 h G\n1D8C36 h G\n0 h G\n0 h G\n0-24-0000\nP-0 r-67\n0 h G\n0 h G\n")
  pub case_148_1 : Prints
      (codes "HEX 9 f STO f 3\ng 4 1\nHEX 1 STO 3\nHEX F F ENTER F F ENTER 1 ENTER 1 0 0 g ENTER\nRDN\nSTO 3\n1\nRDN\nRDN\nRDN\ng ENTER\nRCL SST\nf .\nf 0\nHEX\nRCL 0\n")
      (codes "0 h\n0 h\n1 h\n0 h\n100 h\n100 h\n1 h\n100 h\n1 h\nFF h\n0 h\n0 h\n0-09-0010\nP-0 r-135\n0 h\n0 h\n")
  pub case_148_2 : Prints
      (codes "HEX 5 f STO f 1\ng R/S g GTO A STO 3 1 g R/S\nHEX 3 STO SST\nHEX 3 ENTER 1 F ENTER 1 0 ENTER 1 0 g ENTER\nC f ENTER 1\nSST\nGTO A\nSST SST\nSST\n1\nRDN\nRDN\nRDN\ng ENTER\nRCL SST\nf .\nf 0\nHEX\nRCL 0\n")
      (codes "0 h\n0 h\n3 h\n0 h\n h.\n1 h\n1 h\n1 h\n1 h\n11 h\n1 h\nC h\n0 h\n0 h\n3 h\n1-05-0000\nP-4 r-196\n3 h\n0 h\n")
  pub case_149_1 : Prints
      (codes "HEX 1 1 f STO f 1\nHEX 5 C 9 B STO F\nHEX 0 ENTER 1 1 9 7 B ENTER 1 ENTER F F F F g ENTER\nBSP\nSTO 4\n1\nRDN\nRDN\nRDN\ng ENTER\nRCL SST\nf .\nf 0\nHEX\nRCL 0\n")
      (codes "0 h\n5C9B h\n0 h\n0 h\n0 h\n1 h\n0 h\nFFFF h\n1 h\n0 h\n0 h\n1-17-0000\nP-0 r-81\n0 h\n0 h\n")
  pub case_149_2 : Prints
      (codes "HEX 2 1 f STO f 2\ng R/S g GTO A STO 4 1 g R/S\nHEX 0 STO SST\ng 4 1\ng 4 2\nHEX 1 ENTER 1 F F F F F F F F ENTER 1 0 0 0 0 0 0 0 0 ENTER 1 2 B 2 0 D 6 B 1 g ENTER\ng BSP f ENTER 1\nSST\nGTO A\nSST SST\nSST\n1\nRDN\nRDN\nRDN\ng ENTER\nRCL SST\nf .\nf 0\nHEX\nRCL 0\n")
      (codes "0 h\n0 h\n0 h\n0 h\n0 h\n0 h\n h.\n1 h\n1 h\n1 h\n1 h\n11 h\n1 h\n2B20D6B1 .h\n00000000 .h\n0 h\n0 h\n2-33-0110\nP-4 r-43\n0 h\n0 h\n")
