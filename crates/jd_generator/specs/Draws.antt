-- The code's draws and operations as the definitions have them.
use Rattle.std.specs.Prelude.{ℕ, List, map}
use Rattle.hp_model.specs.Codes.{code_of}
use Rattle.hp_ops.specs.declared.op.Op.{Op}
use Rattle.hp_ops.specs.Meaning.{operation}
use Rattle.jd_generated.specs.Generated as generated
use Rattle.jd_generator.specs.declared.draws.Draw.{Draw}
use Rattle.jd_generator.specs.declared.draws.Draw.TheVariants.{Double, Complement, Negation, Turn, FiveMore}

abbrev pub drawn_as : Draw → generated.Draw
drawn_as Double = generated.double
drawn_as Complement = generated.complement
drawn_as Negation = generated.negation
drawn_as Turn = generated.turn
drawn_as FiveMore = generated.five_more

abbrev pub codes_of : List Op → List ℕ
codes_of ops = map (λ op. code_of (operation op)) ops
