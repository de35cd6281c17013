use Rattle.std.proofs.Common.{◌≤◌, arith, lit≤}
use Rattle.hp_model.specs.declared.Extent.{Extent}
use Rattle.hp_model.specs.declared.Extent.TheVariants.{Standard, Large}
use Rattle.hp_model.specs.State.{memory_bytes}
use Rattle.jd_problem.proofs.problem_fields.nibble_count.Goals as goal

-- each memory has the bytes of the longest routine
enough : (memory : Extent) → 203 ≤ memory_bytes memory
enough Standard = lit≤ tt
enough Large = lit≤ tt

pub register_nibbles-requires : goal.register_nibbles-requires
register_nibbles-requires c = omega (arith, enough c.args.problem.now.memory, c.blocks-2.ensures.bound)
