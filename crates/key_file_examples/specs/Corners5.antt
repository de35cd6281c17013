-- Key files and what they print. Written by scripts/state_key_files.py.
use Rattle.std.specs.Prelude.{codes}
use Rattle.hp_model.specs.WorkedKeyFiles.{Prints}

pub record Corners5 : Type 0 where
  pub case_121 : Prints
      (codes "A ENTER B ENTER 5 ENTER 3 x<>y ENTER RDN x<>y f 4 9\nRDN\nRDN\nRDN\ng ENTER\n")
      (codes "9 h\nD h\nB h\n5 h\n3 h\n")
  pub case_122 : Prints
      (codes "0 ENTER ENTER ENTER 0 ENTER C ENTER 5 ENTER RDN f 4 9\nRDN\nRDN\nRDN\ng ENTER\n")
      (codes "9 h\n2C h\n0 h\n5 h\n5 h\n")
  pub case_123 : Prints
      (codes "0 ENTER 0 ENTER 9 ENTER 4 f 4 7\nRDN\nRDN\nRDN\ng ENTER\nf DEC\n")
      (codes "7 h\n19 h\n0 h\n0 h\n4 h\n4 d\n")
  pub case_124 : Prints
      (codes "A ENTER B ENTER 5 ENTER 3 x<>y ENTER RDN x<>y f 5 9\nRDN\nRDN\nRDN\ng ENTER\n")
      (codes "9 h\n5 h\nB h\n5 h\n3 h\n")
  pub case_125 : Prints
      (codes "0 ENTER ENTER ENTER 0 ENTER C ENTER 5 ENTER RDN f 5 9\nRDN\nRDN\nRDN\ng ENTER\n")
      (codes "9 h\nC h\n0 h\n5 h\n5 h\n")
  pub case_126 : Prints
      (codes "0 ENTER 0 ENTER 9 ENTER 4 f 5 7\nRDN\nRDN\nRDN\ng ENTER\nf DEC\n")
      (codes "7 h\n9 h\n0 h\n0 h\n4 h\n4 d\n")
  pub case_127 : Prints
      (codes "A ENTER B ENTER 5 ENTER 3 x<>y ENTER RDN x<>y f 6 9\nRDN\nRDN\nRDN\ng ENTER\n")
      (codes "9 h\n5 h\nB h\n5 h\n3 h\n")
  pub case_128 : Prints
      (codes "0 ENTER ENTER ENTER 0 ENTER C ENTER 5 ENTER RDN f 6 9\nRDN\nRDN\nRDN\ng ENTER\n")
      (codes "9 h\nC h\n0 h\n5 h\n5 h\n")
  pub case_129 : Prints
      (codes "0 ENTER 0 ENTER 9 ENTER 4 f 6 7\nRDN\nRDN\nRDN\ng ENTER\nf DEC\n")
      (codes "7 h\n9 h\n0 h\n0 h\n4 h\n4 d\n")
  pub case_130 : Prints
      (codes "A ENTER B ENTER 5 ENTER 3 x<>y ENTER RDN x<>y f * 9\nRDN\nRDN\nRDN\ng ENTER\n")
      (codes "9 h\n1 h\nB h\n5 h\n3 h\n")
  pub case_131 : Prints
      (codes "0 ENTER ENTER ENTER 0 ENTER C ENTER 5 ENTER RDN f * 9\nRDN\nRDN\nRDN\ng ENTER\n")
      (codes "9 h\n4 h\n0 h\n5 h\n5 h\n")
  pub case_132 : Prints
      (codes "0 ENTER 0 ENTER 9 ENTER 4 f * 7\nRDN\nRDN\nRDN\ng ENTER\nf DEC\n")
      (codes "7 h\n0 h\n0 h\n0 h\n4 h\n4 d\n")
  pub case_133 : Prints
      (codes "A ENTER B ENTER 5 ENTER 3 x<>y ENTER RDN x<>y f + 9\nRDN\nRDN\nRDN\ng ENTER\n")
      (codes "9 h\n7 h\nB h\n5 h\n3 h\n")
  pub case_134 : Prints
      (codes "0 ENTER ENTER ENTER 0 ENTER C ENTER 5 ENTER RDN f + 9\nRDN\nRDN\nRDN\ng ENTER\n")
      (codes "9 h\nD h\n0 h\n5 h\n5 h\n")
  pub case_135 : Prints
      (codes "0 ENTER 0 ENTER 9 ENTER 4 f + 7\nRDN\nRDN\nRDN\ng ENTER\nf DEC\n")
      (codes "7 h\nD h\n0 h\n0 h\n4 h\n4 d\n")
  pub case_136 : Prints
      (codes "A ENTER B ENTER 5 ENTER 3 x<>y ENTER RDN x<>y f / 9\nRDN\nRDN\nRDN\ng ENTER\n")
      (codes "9 h\n6 h\nB h\n5 h\n3 h\n")
  pub case_137 : Prints
      (codes "0 ENTER ENTER ENTER 0 ENTER C ENTER 5 ENTER RDN f / 9\nRDN\nRDN\nRDN\ng ENTER\n")
      (codes "9 h\n9 h\n0 h\n5 h\n5 h\n")
  pub case_138 : Prints
      (codes "0 ENTER 0 ENTER 9 ENTER 4 f / 7\nRDN\nRDN\nRDN\ng ENTER\nf DEC\n")
      (codes "7 h\nD h\n0 h\n0 h\n4 h\n4 d\n")
  pub case_139 : Prints
      (codes "A ENTER B ENTER 5 ENTER 3 x<>y ENTER RDN x<>y f 9 9\nRDN\nRDN\nRDN\ng ENTER\n")
      (codes "9 h\n2 h\nB h\n5 h\n3 h\n")
  pub case_140 : Prints
      (codes "0 ENTER ENTER ENTER 0 ENTER C ENTER 5 ENTER RDN f 9 9\nRDN\nRDN\nRDN\ng ENTER\n")
      (codes "9 h\n2 h\n0 h\n5 h\n5 h\n")
  pub case_141 : Prints
      (codes "0 ENTER 0 ENTER 9 ENTER 4 f 9 7\nRDN\nRDN\nRDN\ng ENTER\nf DEC\n")
      (codes "7 h\n1 h\n0 h\n0 h\n4 h\n4 d\n")
  pub case_142 : Prints
      (codes "A ENTER B ENTER 5 ENTER 3 x<>y ENTER RDN x<>y g * 9\nRDN\nRDN\nRDN\ng ENTER\n")
      (codes "9 h\n0 h\nF h\nB h\n3 h\n")
  pub case_143 : Prints
      (codes "0 ENTER ENTER ENTER 0 ENTER C ENTER 5 ENTER RDN g * 9\nRDN\nRDN\nRDN\ng ENTER\n")
      (codes "9 h\n0 h\n3C h\n0 h\n5 h\n")
  pub case_144 : Prints
      (codes "0 ENTER 0 ENTER 9 ENTER 4 g * 7\nRDN\nRDN\nRDN\ng ENTER\nf DEC\n")
      (codes "7 h\n0 h\n24 h\n0 h\n4 h\n4 d\n")
  pub case_145 : Prints
      (codes "A ENTER B ENTER 5 ENTER 3 x<>y ENTER RDN x<>y g / 9\nRDN\nRDN\nRDN\ng ENTER\n")
      (codes "9 h\n3 h\n5 h\nB h\n0 h\n")
  pub case_146 : Prints
      (codes "0 ENTER ENTER ENTER 0 ENTER C ENTER 5 ENTER RDN g / 9\nRDN\nRDN\nRDN\ng ENTER\n")
      (codes "9 h\n5 h\nC h\n0 h\n0 h\n")
  pub case_147 : Prints
      (codes "0 ENTER 0 ENTER 9 ENTER 4 g / 7\nRDN\nRDN\nRDN\ng ENTER\nf DEC\n")
      (codes "7 h\n4 h\n9 h\n0 h\n0 h\n0 d\n")
  pub case_148 : Prints
      (codes "A ENTER B ENTER 5 ENTER 3 x<>y ENTER RDN x<>y g 9 9\nRDN\nRDN\nRDN\ng ENTER\n")
      (codes "9 h\n3 h\n5 h\nB h\n0 h\n")
  pub case_149 : Prints
      (codes "0 ENTER ENTER ENTER 0 ENTER C ENTER 5 ENTER RDN g 9 9\nRDN\nRDN\nRDN\ng ENTER\n")
      (codes "9 h\n5 h\nC h\n0 h\n0 h\n")
  pub case_150 : Prints
      (codes "0 ENTER 0 ENTER 9 ENTER 4 g 9 7\nRDN\nRDN\nRDN\ng ENTER\nf DEC\n")
      (codes "7 h\n4 h\n9 h\n0 h\n0 h\n0 d\n")
