-- Key files and what they print. Written by scripts/state_key_files.py.
use Rattle.std.specs.Prelude.{codes}
use Rattle.hp_model.specs.WorkedKeyFiles.{Prints}

pub record Operations9 : Type 0 where
  pub case_120_1 : Prints
      (codes "HEX 3 f STO f 1\nHEX 1 2 C STO SST\ng 4 3\ng 4 4\nHEX 3 STO 1\nHEX 2 ENTER 0 ENTER 1 ENTER 1 g ENTER\nRDN 5 BIN\nGTO C\n1\nRDN\nRDN\nRDN\ng ENTER\nRCL SST\nf .\nf 0\nHEX\nRCL 0\n")
      (codes "0 h\n1 h\n1 h\n1 h C\n3 h C\n0 h C\n101 b C\nError 4\n001 b C\n101 b C\n001 b C\n001 b C\n000 b C\n001 b C\n1-03-1000\nP-0 r-406\n1 h C\n0 h C\n")
  pub case_120_2 : Prints
      (codes "HEX 4 0 f STO f 2\ng R/S g GTO A GTO C 1 g R/S\nHEX 6 4 STO SST\ng 4 2\ng 4 4\ng 4 1\nHEX 1 ENTER 0 ENTER B D 7 3 E 5 D 8 5 C 4 3 4 C F 5 ENTER 1 g ENTER\ng STO\nSST\nGTO A\nSST SST\nSST\n1\nRDN\nRDN\nRDN\ng ENTER\nRCL SST\nf .\nf 0\nHEX\nRCL 0\n")
      (codes "0 h\n0 h\n64 h\n64 h\n64 h C\n64 h C\n0 h C\n h. C\n1 h C\n1 h C\nError 4\nError 4\n1 h C\n1 h C\n0 h C\n1 h C\n0 h C\n64 h C\n2-64-0110\nP-4 r-24\n64 h C\n0 h C\n")
  pub case_121_1 : Prints
      (codes "HEX 1 F f STO f 3\ng R/S g GTO A GTO D 1 g R/S\nHEX 1 STO SST\nHEX 3 F F F F F F F STO F\nHEX 4 C 3 0 8 C E D ENTER 3 2 E 3 1 A 9 ENTER 7 9 2 E 5 A 0 A ENTER 5 E 5 5 7 C 9 3 g ENTER\nBSP OCT\nSST\nGTO A\nSST SST\nSST\n1\nRDN\nRDN\nRDN\ng ENTER\nRCL SST\nf .\nf 0\nHEX\nRCL 0\n")
      (codes "0 h\n0 h\n1 h\n3FFFFFFF h\n0 h\n0 o\n1 o\n1 o\nError 4\nError 4\n1 o\n1 o\n25276223 .o\n13455012 .o\n0 o\n1 o\n0-31-0000\nP-4 r-49\n1 h\n0 h\n")
  pub case_121_2 : Prints
      (codes "HEX 3 f STO f 2\nHEX 6 5 STO SST\ng 4 4\ng 4 3\ng 4 2\nHEX 1 ENTER 1 ENTER 1 ENTER 3 g ENTER\ng STO\nGTO D\n1\nRDN\nRDN\nRDN\ng ENTER\nRCL SST\nf .\nf 0\nHEX\nRCL 0\n")
      (codes "0 h\n6 h\n6 h C\n6 h C\n6 h C\n0 h C\n h. C\nError 4\n1 h C\n0 h C\n3 h C\n1 h C\n0 h C\n6 h C\n2-03-1100\nP-0 r-406\n6 h C\n0 h C\n")
  pub case_122_1 : Prints
      (codes "HEX F f STO f 1\ng R/S g GTO A GTO E 1 g R/S\ng 4 3\nHEX D STO 1\nHEX 4 7 B 6 ENTER 0 ENTER 3 F F F ENTER 1 3 C 4 g ENTER\nBSP\nSST\nGTO A\nSST SST\nSST\n1\nRDN\nRDN\nRDN\ng ENTER\nRCL SST\nf .\nf 0\nHEX\nRCL 0\n")
      (codes "0 h\n0 h\n0000 h\n000D h\n0000 h\n0000 h\n0001 h\n0001 h\nError 4\nError 4\n0001 h\n0001 h\n13C4 h\n3FFF h\n0000 h\n0000 h\n1-15-1000\nP-4 r-98\n0000 h\n0000 h\n")
  pub case_122_2 : Prints
      (codes "HEX C f STO f 3\ng R/S g GTO A GTO E 1 g R/S\nHEX 4 C B ENTER 0 ENTER 5 ENTER 0 g ENTER\n7\nSST\nGTO A\nSST SST\nSST\n1\nRDN\nRDN\nRDN\ng ENTER\nRCL SST\nf .\nf 0\nHEX\nRCL 0\n")
      (codes "0 h\n0 h\n0 h\n7 h\n1 h\n1 h\nError 4\nError 4\n1 h\n1 h\n7 h\n0 h\n0 h\n0 h\n0-12-0000\nP-4 r-130\n0 h\n0 h\n")
  pub case_123_1 : Prints
      (codes "HEX C f STO f 1\nHEX F STO SST\ng 4 3\ng 4 1\nHEX B ENTER 3 C D ENTER 9 9 9 ENTER 8 0 0 g ENTER\n OCT\nGTO F\n1\nRDN\nRDN\nRDN\ng ENTER\nRCL SST\nf .\nf 0\nHEX\nRCL 0\n")
      (codes "0 h\nF h\n00F h\n00F h\n000 h\n0000 o\nError 4\n0001 o\n0000 o\n4000 o\n4631 o\n0000 o\n0017 o\n1-12-1010\nP-0 r-135\n00F h\n000 h\n")
  pub case_123_2 : Prints
      (codes "HEX 2 1 f STO f 2\ng R/S g GTO A GTO F 1 g R/S\nHEX 0 STO SST\nHEX 1 0 0 0 0 0 0 0 0 ENTER 1 F F F F F F F F ENTER 1 4 9 F E 7 9 0 8 ENTER 1 0 0 0 0 0 0 0 0 g ENTER\n9\nSST\nGTO A\nSST SST\nSST\n1\nRDN\nRDN\nRDN\ng ENTER\nRCL SST\nf .\nf 0\nHEX\nRCL 0\n")
      (codes "0 h\n0 h\n0 h\n0 h\n9 h\n1 h\n1 h\nError 4\nError 4\n1 h\n1 h\n9 h\n0 h\n0 h\n0 h\n2-33-0000\nP-4 r-43\n0 h\n0 h\n")
  pub case_124_1 : Prints
      (codes "HEX F f STO f 2\nHEX 9 STO SST\ng 4 0\ng 4 2\nHEX 5 9 C B STO 1\nHEX 4 0 0 0 ENTER 3 F F F ENTER 3 F F F ENTER 0 g ENTER\nRDN f ENTER 1\nGTO SST\n1\nRDN\nRDN\nRDN\ng ENTER\nRCL SST\nf .\nf 0\nHEX\nRCL 0\n")
      (codes "0 h\n9 h\n9 h\n9 h\n59CB h\n0 h\n h.\nError 4\n1 h\n0 h\n3FFF h\n3FFF h\n0 h\n9 h\n2-15-0101\nP-0 r-101\n9 h\n0 h\n")
  pub case_124_2 : Prints
      (codes "HEX 7 f STO f 3\ng R/S g GTO A GTO SST 1 g R/S\nHEX 3 STO SST\ng 4 0\ng 4 5\nHEX 1 STO 1\nHEX 4 0 ENTER 4 ENTER 8 ENTER 1 g ENTER\nRDN 3\nSST\nGTO A\nSST SST\nSST\n1\nRDN\nRDN\nRDN\ng ENTER\nRCL SST\nf .\nf 0\nHEX\nRCL 0\n")
      (codes "0 h\n0 h\n3 h\n3 h\n3 h G\n1 h G\n0 h G\n3 h G\n1 h G\n1 h G\nError 4\nError 4\n1 h G\n1 h G\n3 h G\n1 h G\n0 h G\n3 h G\n0-07-0001\nP-4 r-196\n3 h G\n0 h G\n")
  pub case_125_1 : Prints
      (codes "HEX 2 1 f STO f 2\nHEX 0 STO SST\ng 4 3\ng 4 0\nHEX 4 C 2 5 B 8 A A STO 2\nHEX 0 ENTER F F F F F F F F ENTER 1 F F F F F F F F ENTER 1 0 0 0 0 0 0 0 0 g ENTER\n\nGSB 0\n1\nRDN\nRDN\nRDN\ng ENTER\nRCL SST\nf .\nf 0\nHEX\nRCL 0\n")
      (codes "0 h\n0 h\n00000000 .h\n00000000 .h\n4C25B8AA .h\n00000000 .h\n00000000 .h\nError 4\n00000001 .h\n00000000 .h\n00000000 .h\nFFFFFFFF .h\n00000000 .h\n00000000 .h\n2-33-1001\nP-0 r-45\n00000000 .h\n00000000 .h\n")
  pub case_125_2 : Prints
      (codes "HEX 5 f STO f 2\ng R/S g GTO A GSB 0 1 g R/S\nHEX 2 8 STO SST\ng 4 0\ng 4 3\ng 4 2\nHEX 1 0 ENTER 1 ENTER 2 ENTER 1 g ENTER\n4\nSST\nGTO A\nSST SST\nSST\n1\nRDN\nRDN\nRDN\ng ENTER\nRCL SST\nf .\nf 0\nHEX\nRCL 0\n")
      (codes "0 h\n0 h\n2 h\n2 h\n02 h\n02 h\n00 h\n04 h\n01 h\n01 h\nError 4\nError 4\n01 h\n01 h\n04 h\n00 h\n00 h\n02 h\n2-05-1101\nP-4 r-196\n02 h\n00 h\n")
  pub case_126_1 : Prints
      (codes "HEX C f STO f 1\nHEX F STO SST\ng 4 3\ng 4 4\nHEX F F F ENTER 0 ENTER 8 0 0 ENTER F F F g ENTER\ng STO\nGSB 1\n1\nRDN\nRDN\nRDN\ng ENTER\nRCL SST\nf .\nf 0\nHEX\nRCL 0\n")
      (codes "0 h\nF h\n00F h\n00F h C\n000 h C\n h. C\nError 4\n001 h C\n000 h C\nFFF h C\n800 h C\n000 h C\n00F h C\n1-12-1000\nP-0 r-135\n00F h C\n000 h C\n")
  pub case_126_2 : Prints
      (codes "HEX 1 0 f STO f 2\ng R/S g GTO A GSB 1 1 g R/S\nHEX 6 5 STO SST\ng 4 1\nHEX 0 STO 2\nHEX 7 F F F ENTER 7 5 3 B ENTER F F F F ENTER 8 0 0 0 g ENTER\ng STO f ENTER 1\nSST\nGTO A\nSST SST\nSST\n1\nRDN\nRDN\nRDN\ng ENTER\nRCL SST\nf .\nf 0\nHEX\nRCL 0\n")
      (codes "0 h\n0 h\n65 h\n65 h\n0 h\n0 h\n h.\n1 h\n1 h\nError 4\nError 4\n1 h\n1 h\n0 h\n8000 h\n0 h\n65 h\n2-16-0010\nP-4 r-98\n65 h\n0 h\n")
  pub case_127_1 : Prints
      (codes "HEX 1 F f STO f 2\nHEX 0 STO SST\ng 4 0\ng 4 5\nHEX 7 F F F F F F F STO 1\nHEX 7 F F F F F F F ENTER 1 ENTER D ENTER 3 F F F F F F F g ENTER\nENTER\nGSB 2\n1\nRDN\nRDN\nRDN\ng ENTER\nRCL SST\nf .\nf 0\nHEX\nRCL 0\n")
      (codes "0 h\n0 h\n0 h\n0 h G\n7FFFFFFF h G\n0 h G\n0 h G\nError 4\n1 h G\n0 h G\n3FFFFFFF h G\nD h G\n0 h G\n0 h G\n2-31-0001\nP-0 r-50\n0 h G\n0 h G\n")
  pub case_127_2 : Prints
      (codes "HEX 7 f STO f 3\nHEX 3 STO SST\ng 4 3\nHEX 2 ENTER 1 8 ENTER 3 8 ENTER 1 g ENTER\nRDN\nGSB 2\n1\nRDN\nRDN\nRDN\ng ENTER\nRCL SST\nf .\nf 0\nHEX\nRCL 0\n")
      (codes "0 h\n3 h\n03 h\n00 h\n01 h\nError 4\n01 h\n01 h\n38 h\n18 h\n00 h\n03 h\n0-07-1000\nP-0 r-203\n03 h\n00 h\n")
  pub case_128_1 : Prints
      (codes "HEX 2 8 f STO f 3\nHEX 1 STO SST\ng 4 2\nHEX 7 8 B 7 1 B B D 2 B STO 3\nHEX 1 ENTER 1 ENTER 8 0 0 0 0 0 0 0 0 0 ENTER D 2 C 9 6 F B C 6 8 g ENTER\nRDN BIN\nGSB 3\n1\nRDN\nRDN\nRDN\ng ENTER\nRCL SST\nf .\nf 0\nHEX\nRCL 0\n")
      (codes "0 h\n1 h\n1 h\nB71BBD2B .h\n0 h\n01101000 .b\nError 4\n1 b\n01101000 .b\n00000000 .b\n1 b\n0 b\n1 b\n0-40-0100\nP-0 r-40\n1 h\n0 h\n")
  pub case_128_2 : Prints
      (codes "HEX 1 1 f STO f 2\nHEX 1 STO SST\ng 4 0\ng 4 2\nHEX 1 0 0 0 0 STO F\nHEX 7 ENTER 1 0 0 0 0 ENTER 1 ENTER D C 3 6 g ENTER\nBSP\nGSB 3\n1\nRDN\nRDN\nRDN\ng ENTER\nRCL SST\nf .\nf 0\nHEX\nRCL 0\n")
      (codes "0 h\n1 h\n1 h\n1 h\n10000 h\n0 h\n0 h\nError 4\n1 h\nDC36 h\n1 h\n10000 h\n0 h\n1 h\n2-17-0101\nP-0 r-81\n1 h\n0 h\n")
  pub case_129_1 : Prints
      (codes "HEX 2 0 f STO f 1\nHEX 2 8 STO SST\ng 4 5\nHEX 8 A 8 7 0 7 F 3 STO 3\nHEX B 3 7 8 6 5 5 8 ENTER 4 E A 4 A D A 6 ENTER F 7 0 A A 4 7 6 ENTER 8 0 0 0 0 0 0 0 g ENTER\ng BSP\nGSB 4\n1\nRDN\nRDN\nRDN\ng ENTER\nRCL SST\nf .\nf 0\nHEX\nRCL 0\n")
      (codes "0 h\n28 h\n28 h G\n8A8707F3 h G\n0 h G\n0 h G\nError 4\n1 h G\n80000000 h G\nF70AA476 h G\n4EA4ADA6 h G\n0 h G\n28 h G\n1-32-0000\nP-0 r-50\n28 h G\n0 h G\n")
  pub case_129_2 : Prints
      (codes "HEX 4 0 f STO f 3\nHEX 3 STO SST\nHEX 4 2 C E 0 4 3 E B 4 5 B D 7 0 A STO 3\nHEX 0 ENTER F ENTER 9 8 6 E 0 F C 7 A 7 5 9 4 0 3 1 ENTER E A A F 1 B 6 C 8 3 0 7 F B 6 5 g ENTER\nRDN\nGSB 4\n1\nRDN\nRDN\nRDN\ng ENTER\nRCL SST\nf .\nf 0\nHEX\nRCL 0\n")
      (codes "0 h\n3 h\nB45BD70A .h\n0 h\n8307FB65 .h\nError 4\n1 h\n8307FB65 .h\nA7594031 .h\nF h\n0 h\n3 h\n0-64-0000\nP-0 r-25\n3 h\n0 h\n")
  pub case_130_1 : Prints
      (codes "HEX 1 8 f STO f 3\ng R/S g GTO A GSB 5 1 g R/S\ng 4 3\nHEX F F F F F F ENTER F F F F F F ENTER 1 ENTER E 4 4 5 3 g ENTER\nHEX D HEX\nSST\nGTO A\nSST SST\nSST\n1\nRDN\nRDN\nRDN\ng ENTER\nRCL SST\nf .\nf 0\nHEX\nRCL 0\n")
      (codes "0 h\n0 h\n000000 h\n000000 h\n00000D h\n000001 h\n000001 h\nError 4\nError 4\n000001 h\n000001 h\n00000D h\n000000 h\n000000 h\n000000 h\n0-24-1000\nP-4 r-65\n000000 h\n000000 h\n")
  pub case_130_2 : Prints
      (codes "HEX 2 0 f STO f 3\nHEX F STO SST\ng 4 5\nHEX 0 ENTER 9 3 D 9 C C A 3 ENTER E 4 A F 0 4 C 7 ENTER 1 g ENTER\nENTER\nGSB 5\n1\nRDN\nRDN\nRDN\ng ENTER\nRCL SST\nf .\nf 0\nHEX\nRCL 0\n")
      (codes "0 h\nF h\nF h G\n0 h G\n0 h G\nError 4\n1 h G\n0 h G\n1 h G\nE4AF04C7 h G\n0 h G\nF h G\n0-32-0000\nP-0 r-50\nF h G\n0 h G\n")
  pub case_131_1 : Prints
      (codes "HEX C f STO f 2\ng R/S g GTO A GSB 6 1 g R/S\nHEX 1 STO SST\ng 4 1\nHEX 0 ENTER F 4 9 ENTER 8 0 0 ENTER 0 g ENTER\n DEC\nSST\nGTO A\nSST SST\nSST\n1\nRDN\nRDN\nRDN\ng ENTER\nRCL SST\nf .\nf 0\nHEX\nRCL 0\n")
      (codes "0 h\n0 h\n1 h\n1 h\n0 h\n0 d\n1 d\n1 d\nError 4\nError 4\n1 d\n1 d\n0 d\n0 d\n0 d\n1 d\n2-12-0010\nP-4 r-130\n1 h\n0 h\n")
  pub case_131_2 : Prints
      (codes "HEX 5 f STO f 1\nHEX 6 4 STO SST\ng 4 5\nHEX B STO 0\nHEX 1 ENTER 1 5 ENTER 1 ENTER 1 5 g ENTER\ng STO DEC\nGSB 6\n1\nRDN\nRDN\nRDN\ng ENTER\nRCL SST\nf .\nf 0\nHEX\nRCL 0\n")
      (codes "0 h\n6 h\n6 h G\nB h G\n0 h G\n0 d G\nError 4\n1 d G\n0 d G\n-10 d G\n1 d G\n0 d G\n6 d G\n1-05-0000\nP-0 r-203\n6 h G\nB h G\n")
  pub case_132_1 : Prints
      (codes "HEX 2 1 f STO f 2\nHEX 6 4 STO SST\ng 4 0\ng 4 3\ng 4 5\nHEX F F F F F F F F ENTER F F F F F F F F ENTER 0 ENTER F F F F F F F F g ENTER\ng BSP DEC\nGSB 7\n1\nRDN\nRDN\nRDN\ng ENTER\nRCL SST\nf .\nf 0\nHEX\nRCL 0\n")
      (codes "0 h\n64 h\n64 h\n00000064 .h\n00000064 .h G\n00000000 .h G\n0 d G\nError 4\n1 d G\n94967295 .d G\n0 d G\n94967295 .d G\n0 d G\n100 d G\n2-33-1001\nP-0 r-45\n00000064 .h G\n00000000 .h G\n")
  pub case_132_2 : Prints
      (codes "HEX 1 f STO f 2\ng 4 5\ng 4 4\ng 4 0\nHEX 0 ENTER 1 ENTER 1 ENTER 0 g ENTER\ng STO\nGSB 7\n1\nRDN\nRDN\nRDN\ng ENTER\nRCL SST\nf .\nf 0\nHEX\nRCL 0\n")
      (codes "0 h\n0 h G\n0 h C G\n0 h C G\n0 h C G\n h. C G\nError 4\n1 h C G\n0 h C G\n0 h C G\n1 h C G\n0 h C G\n0 h C G\n2-01-0001\nP-0 r-406\n0 h C G\n0 h C G\n")
  pub case_133_1 : Prints
      (codes "HEX 3 F f STO f 3\ng 4 0\nHEX 0 ENTER 4 0 0 0 0 0 0 0 0 0 0 0 0 0 0 0 ENTER 7 F F F F F F F F F F F F F F F ENTER 0 g ENTER\ng 4 2\nGSB 8\n1\nRDN\nRDN\nRDN\ng ENTER\nRCL SST\nf .\nf 0\nHEX\nRCL 0\n")
      (codes "0 h\n0 h\n0 h\n0 h\nError 4\n1 h\n0 h\n0 h\nFFFFFFFF .h\n0 h\n0 h\n0-63-0101\nP-0 r-25\n0 h\n0 h\n")
  pub case_133_2 : Prints
      (codes "HEX 3 0 f STO f 2\nHEX 1 2 C STO SST\ng 4 4\ng 4 2\nHEX A C A 6 C B 4 C 2 3 9 4 ENTER 8 0 0 0 0 0 0 0 0 0 0 0 ENTER 7 F F F F F F F F F F F ENTER 1 g ENTER\nENTER\nGSB 8\n1\nRDN\nRDN\nRDN\ng ENTER\nRCL SST\nf .\nf 0\nHEX\nRCL 0\n")
      (codes "0 h\n12C h\n12C h C\n12C h C\n0 h C\n0 h C\nError 4\n1 h C\n0 h C\n1 h C\nFFFFFFFF .h C\n0 h C\n12C h C\n2-48-0100\nP-0 r-33\n12C h C\n0 h C\n")
  pub case_134_1 : Prints
      (codes "HEX 7 f STO f 2\nHEX 3 F STO 2\nHEX 3 F ENTER 0 ENTER 4 0 ENTER 3 F g ENTER\ng STO\nGSB 9\n1\nRDN\nRDN\nRDN\ng ENTER\nRCL SST\nf .\nf 0\nHEX\nRCL 0\n")
      (codes "0 h\n3F h\n0 h\n h.\nError 4\n1 h\n0 h\n3F h\n40 h\n0 h\n0 h\n2-07-0000\nP-0 r-203\n0 h\n0 h\n")
  pub case_134_2 : Prints
      (codes "HEX C f STO f 3\nHEX 6 4 STO SST\ng 4 1\nHEX 4 B A STO 1\nHEX D 8 D ENTER 1 ENTER 1 ENTER F F F g ENTER\ng STO BIN\nGSB 9\n1\nRDN\nRDN\nRDN\ng ENTER\nRCL SST\nf .\nf 0\nHEX\nRCL 0\n")
      (codes "0 h\n64 h\n64 h\n4BA h\n0 h\n0 b\nError 4\n1 b\n0 b\n11111111 .b\n1 b\n0 b\n1100100 b\n0-12-0010\nP-0 r-135\n64 h\n0 h\n")
