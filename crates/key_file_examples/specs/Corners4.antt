-- Key files and what they print. Written by scripts/state_key_files.py.
use Rattle.std.specs.Prelude.{codes}
use Rattle.hp_model.specs.WorkedKeyFiles.{Prints}

pub record Corners4 : Type 0 where
  pub case_91 : Prints
      (codes "B STO SST g R/S g GTO B g GTO C GTO SST g R/S\n5 ENTER GTO SST 2\nRDN\n")
      (codes "B h\n2 h\n5 h\n")
  pub case_92 : Prints
      (codes "2 ENTER 3 + 7 RDN\ng ENTER\n")
      (codes "5 h\n3 h\n")
  pub case_93 : Prints
      (codes "2 ENTER 3 * 7 RDN\ng ENTER\n")
      (codes "6 h\n3 h\n")
  pub case_94 : Prints
      (codes "6 ENTER 3 / 7 RDN\ng ENTER\n")
      (codes "2 h\n3 h\n")
  pub case_95 : Prints
      (codes "5 ENTER ENTER ENTER 4 ENTER f A 9\nRDN\nRDN\nRDN\ng ENTER\n")
      (codes "9 h\n8 h\n4 h\n5 h\n4 h\n")
  pub case_96 : Prints
      (codes "5 ENTER ENTER ENTER 4 ENTER f B 9\nRDN\nRDN\nRDN\ng ENTER\n")
      (codes "9 h\n2 h\n4 h\n5 h\n4 h\n")
  pub case_97 : Prints
      (codes "5 ENTER ENTER ENTER 4 ENTER g B 9\nRDN\nRDN\nRDN\ng ENTER\n")
      (codes "9 h\n2 h\n4 h\n5 h\n4 h\n")
  pub case_98 : Prints
      (codes "5 ENTER ENTER ENTER 4 ENTER f C 9\nRDN\nRDN\nRDN\ng ENTER\n")
      (codes "9 h\n8 h\n4 h\n5 h\n4 h\n")
  pub case_99 : Prints
      (codes "5 ENTER ENTER ENTER 4 ENTER f D 9\nRDN\nRDN\nRDN\ng ENTER\n")
      (codes "9 h\n2 h\n4 h\n5 h\n4 h\n")
  pub case_100 : Prints
      (codes "5 ENTER ENTER ENTER 4 ENTER g C 9\nRDN\nRDN\nRDN\ng ENTER\n")
      (codes "9 h\n8 h\n4 h\n5 h\n4 h\n")
  pub case_101 : Prints
      (codes "5 ENTER ENTER ENTER 4 ENTER g D 9\nRDN\nRDN\nRDN\ng ENTER\n")
      (codes "9 h\n2 h\n4 h\n5 h\n4 h\n")
  pub case_102 : Prints
      (codes "5 ENTER ENTER ENTER 4 ENTER g A 9\nRDN\nRDN\nRDN\ng ENTER\n")
      (codes "9 h\nD h\n8000 h\n4 h\n4 h\n")
  pub case_103 : Prints
      (codes "5 ENTER ENTER ENTER 4 ENTER f 7 9\nRDN\nRDN\nRDN\ng ENTER\n")
      (codes "9 h\nF000 h\n4 h\n5 h\n4 h\n")
  pub case_104 : Prints
      (codes "5 ENTER ENTER ENTER 4 ENTER f 8 9\nRDN\nRDN\nRDN\ng ENTER\n")
      (codes "9 h\nF h\n4 h\n5 h\n4 h\n")
  pub case_105 : Prints
      (codes "5 ENTER ENTER ENTER 4 ENTER g 7 9\nRDN\nRDN\nRDN\ng ENTER\n")
      (codes "9 h\n1 h\n4 h\n5 h\n4 h\n")
  pub case_106 : Prints
      (codes "5 ENTER ENTER ENTER 4 ENTER f - 9\nRDN\nRDN\nRDN\ng ENTER\n")
      (codes "9 h\nFFFB h\n4 h\n5 h\n4 h\n")
  pub case_107 : Prints
      (codes "5 ENTER ENTER ENTER 4 ENTER g 8 9\nRDN\nRDN\nRDN\ng ENTER\n")
      (codes "9 h\n4 h\n4 h\n5 h\n4 h\n")
  pub case_108 : Prints
      (codes "5 ENTER ENTER ENTER 4 ENTER g OCT 9\nRDN\nRDN\nRDN\ng ENTER\n")
      (codes "9 h\n2 h\n4 h\n5 h\n4 h\n")
  pub case_109 : Prints
      (codes "A ENTER B ENTER 5 ENTER 3 x<>y ENTER RDN x<>y f E 9\nRDN\nRDN\nRDN\ng ENTER\n")
      (codes "9 h\n28 h\nB h\n5 h\n3 h\n")
  pub case_110 : Prints
      (codes "0 ENTER ENTER ENTER 0 ENTER C ENTER 5 ENTER RDN f E 9\nRDN\nRDN\nRDN\ng ENTER\n")
      (codes "9 h\n180 h\n0 h\n5 h\n5 h\n")
  pub case_111 : Prints
      (codes "0 ENTER 0 ENTER 9 ENTER 4 f E 7\nRDN\nRDN\nRDN\ng ENTER\nf DEC\n")
      (codes "7 h\n90 h\n0 h\n0 h\n4 h\n4 d\n")
  pub case_112 : Prints
      (codes "A ENTER B ENTER 5 ENTER 3 x<>y ENTER RDN x<>y f F 9\nRDN\nRDN\nRDN\ng ENTER\n")
      (codes "9 h C\nA000 h C\nB h C\n5 h C\n3 h C\n")
  pub case_113 : Prints
      (codes "0 ENTER ENTER ENTER 0 ENTER C ENTER 5 ENTER RDN f F 9\nRDN\nRDN\nRDN\ng ENTER\n")
      (codes "9 h\n6000 h\n0 h\n5 h\n5 h\n")
  pub case_114 : Prints
      (codes "0 ENTER 0 ENTER 9 ENTER 4 f F 7\nRDN\nRDN\nRDN\ng ENTER\nf DEC\n")
      (codes "7 h C\n9000 h C\n0 h C\n0 h C\n4 h C\n4 d C\n")
  pub case_115 : Prints
      (codes "A ENTER B ENTER 5 ENTER 3 x<>y ENTER RDN x<>y g E 9\nRDN\nRDN\nRDN\ng ENTER\n")
      (codes "9 h\n28 h\nB h\n5 h\n3 h\n")
  pub case_116 : Prints
      (codes "0 ENTER ENTER ENTER 0 ENTER C ENTER 5 ENTER RDN g E 9\nRDN\nRDN\nRDN\ng ENTER\n")
      (codes "9 h\n180 h\n0 h\n5 h\n5 h\n")
  pub case_117 : Prints
      (codes "0 ENTER 0 ENTER 9 ENTER 4 g E 7\nRDN\nRDN\nRDN\ng ENTER\nf DEC\n")
      (codes "7 h\n90 h\n0 h\n0 h\n4 h\n4 d\n")
  pub case_118 : Prints
      (codes "A ENTER B ENTER 5 ENTER 3 x<>y ENTER RDN x<>y g F 9\nRDN\nRDN\nRDN\ng ENTER\n")
      (codes "9 h C\n4000 h C\nB h C\n5 h C\n3 h C\n")
  pub case_119 : Prints
      (codes "0 ENTER ENTER ENTER 0 ENTER C ENTER 5 ENTER RDN g F 9\nRDN\nRDN\nRDN\ng ENTER\n")
      (codes "9 h\nC000 h\n0 h\n5 h\n5 h\n")
  pub case_120 : Prints
      (codes "0 ENTER 0 ENTER 9 ENTER 4 g F 7\nRDN\nRDN\nRDN\ng ENTER\nf DEC\n")
      (codes "7 h C\n2000 h C\n0 h C\n0 h C\n4 h C\n4 d C\n")
