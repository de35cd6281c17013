-- Key files and what they print. Written by scripts/state_key_files.py.
use Rattle.std.specs.Prelude.{codes}
use Rattle.hp_model.specs.WorkedKeyFiles.{Prints}

pub record Corners9 : Type 0 where
  pub case_241 : Prints
      (codes "5 ENTER 6 ENTER g RCL 2\nRDN\nRDN\n")
      (codes "2 h\n6 h\n5 h\n")
  pub case_242 : Prints
      (codes "5 ENTER 6 ENTER f ENTER 0 2\nRDN\nRDN\n")
      (codes "2 h\n6 h\n5 h\n")
  pub case_243 : Prints
      (codes "5 ENTER 6 ENTER f x<>y 2\nRDN\nRDN\n")
      (codes "2 h\n6 h\n5 h\n")
  pub case_244 : Prints
      (codes "5 ENTER 6 ENTER g x<>y 2\nRDN\nRDN\n")
      (codes "2 h\n6 h\n5 h\n")
  pub case_245 : Prints
      (codes "5 ENTER 6 ENTER g 0 2\nRDN\nRDN\n")
      (codes "2 h\n6 h\n5 h\n")
  pub case_246 : Prints
      (codes "5 ENTER 6 ENTER g + 2\nRDN\nRDN\n")
      (codes "2 h\n6 h\n5 h\n")
  pub case_247 : Prints
      (codes "5 ENTER 6 ENTER g HEX 2\nRDN\nRDN\n")
      (codes "2 h\n6 h\n5 h\n")
  pub case_248 : Prints
      (codes "5 ENTER 6 ENTER g DEC 2\nRDN\nRDN\n")
      (codes "2 h\n6 h\n5 h\n")
  pub case_249 : Prints
      (codes "5 ENTER 6 ENTER g 4 0 2\nRDN\nRDN\n")
      (codes "2 h\n6 h\n5 h\n")
  pub case_250 : Prints
      (codes "5 ENTER 6 ENTER g 5 0 2\nRDN\nRDN\n")
      (codes "2 h\n6 h\n5 h\n")
  pub case_251 : Prints
      (codes "5 ENTER 6 ENTER g 6 0 2\nRDN\nRDN\n")
      (codes "2 h\n6 h\n5 h\n")
  pub case_252 : Prints
      (codes "5 ENTER 6 ENTER g GTO 1 2\nRDN\nRDN\n")
      (codes "2 h\n6 h\n5 h\n")
  pub case_253 : Prints
      (codes "B STO SST g R/S g GTO A GTO B g GTO B 2 g R/S\n5 ENTER 6 ENTER GSB A\nRDN\nRDN\n")
      (codes "B h\n2 h\n6 h\n5 h\n")
  pub case_254 : Prints
      (codes "B STO SST g R/S g GTO A GTO SST g GTO B 2 g R/S\n5 ENTER 6 ENTER GSB A\nRDN\nRDN\n")
      (codes "B h\n2 h\n6 h\n5 h\n")
  pub case_255 : Prints
      (codes "B STO SST g R/S g GTO A GSB B 2 R/S g GTO B g R/S\n5 ENTER 6 ENTER GSB A\nRDN\nRDN\n")
      (codes "B h\n2 h\n6 h\n5 h\n")
  pub case_256 : Prints
      (codes "B STO SST g R/S g GTO A GSB B 2 R/S g GTO B g GSB g R/S\n5 ENTER 6 ENTER GSB A\nRDN\nRDN\n")
      (codes "B h\n2 h\n6 h\n5 h\n")
  pub case_257 : Prints
      (codes "B STO SST g R/S g GTO A g x<>y 2 g R/S\n5 ENTER 6 ENTER GSB A\nRDN\nRDN\n")
      (codes "B h\n2 h\n6 h\n5 h\n")
  pub case_258 : Prints
      (codes "B STO SST g R/S g GTO A g STO 2 g R/S\n5 ENTER 6 ENTER GSB A\nRDN\nRDN\n")
      (codes "B h\n2 h\n6 h\n5 h\n")
  pub case_259 : Prints
      (codes "B STO SST g R/S g GTO A g RCL 2 g R/S\n5 ENTER 6 ENTER GSB A\nRDN\nRDN\n")
      (codes "B h\n2 h\n6 h\n5 h\n")
  pub case_260 : Prints
      (codes "g R/S g GTO A R/S 2 g R/S\n5 ENTER 6 ENTER GSB A R/S\nRDN\nRDN\n")
      (codes "0 h\n2 h\n6 h\n5 h\n")
  pub case_261 : Prints
      (codes "g R/S g GTO A g + 1 g R/S\n5 ENTER GSB A\nRDN\n")
      (codes "0 h\n5 h\n5 h\n")
  pub case_262 : Prints
      (codes "4 0 f STO 1 2 3 4 5 6 7 8 9 A ENTER 0\ng STO\n/\nf .\n1\nRCL SST\ng STO\nGTO 3\nSTO . F f HEX\n")
      (codes "0 h\n h.\nError 0\n2-64-0000\n1 h\n0 h\n h.\nError 4\n0 h\n")
  pub case_263 : Prints
      (codes "4 0 f STO 0 ENTER 1 2 3 4 5 6 7 8 9 A x<>y\ng STO\n/\nf BSP\n")
      (codes "0 h\n h.\nError 0\n h.\n")
  pub case_264 : Prints
      (codes "4 0 f STO 1 2 3 4 5 6 7 8 9 A\ng STO GTO 7\nf BSP\n")
      (codes "3456789A .h\nError 4\n12 h.\n")
  pub case_265 : Prints
      (codes "4 0 f STO 1 2 3 4 5 6 7 8 9 A\ng STO f .\nf BSP\ng STO f HEX f f BSP\n")
      (codes "3456789A .h\n2-64-0000\n12 h.\n h.\n")
  pub case_266 : Prints
      (codes "1 f 0\nf\nf f .\nf . f\nf HEX f\nf BSP f HEX g\n")
      (codes "P-0 r-101\n1 h f\n2-16-0000\n1 h f\n1 h f\n1 h g\n")
  pub case_267 : Prints
      (codes "g R/S / g R/S\n0 SST\ng R/S\n")
      (codes "0 h\nError 0\n001 / PRGM\n")
  pub case_268 : Prints
      (codes "g R/S 1 2 g R/S 5\nR/S\nRDN\nRDN\n")
      (codes "5 h\n2 h\n5 h\n0 h\n")
  pub case_269 : Prints
      (codes "1 2 3 R/S 4\nRDN\n")
      (codes "4 h\n123 h\n")
  pub case_270 : Prints
      (codes "g R/S 4 g R/S 3 R/S\nRDN\n")
      (codes "4 h\n3 h\n")
