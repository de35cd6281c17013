-- Key files and what they print. Written by scripts/state_key_files.py.
use Rattle.std.specs.Prelude.{codes}
use Rattle.hp_model.specs.WorkedKeyFiles.{Prints}

pub record Corners10 : Type 0 where
  pub case_271 : Prints
      (codes "g R/S 1 2 g R/S GTO . 0 0 2\ng R/S\nGTO . 0 0 3\nGTO . 0 0 0\n")
      (codes "0 h\n002 2 PRGM\nError 4\n000 PRGM\n")
  pub case_272 : Prints
      (codes "/ f R/S\n0 / STO +\nGTO . f\nf 0 STO STO\ng 4 4\n")
      (codes "0 h\n0 h\n0 h\n0 h\n0 h C\n")
  pub case_275 : Prints
      (codes "f 1 1 0 f STO F F F E STO SST g R/S g GTO 0 g DEC 7 g R/S GSB 0\n")
      (codes "FFFE h\n")
  pub case_276 : Prints
      (codes "4 f STO 1 9 6 STO SST\n")
      (codes "1 h\n")
  pub case_277 : Prints
      (codes "1 9 5 STO SST 4 f STO F STO R/S 8 f STO g R/S + + + + + + + g R/S\ng R/S BSP BSP BSP BSP BSP BSP BSP g R/S 4 f STO RCL R/S\n")
      (codes "F h\n0 h\n")
  pub case_278 : Prints
      (codes "1 8 8 STO SST 4 f STO F STO R/S 1 0 f STO 1 8 8 STO SST 4 f STO g R/S + g R/S RCL R/S\ng R/S BSP g R/S RCL R/S\n")
      (codes "0 h\n0 h\n")
  pub case_279 : Prints
      (codes "8 f STO F F STO 0 6 f STO 1 STO 0 8 f STO RCL 0\n")
      (codes "1 h\n")
