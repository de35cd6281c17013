use Rattle.std.proofs.Common.{◌≡◌, ◌-◌, ◌<◌, arith, sym, ap, get_or, ◌∙◌}
use Rattle.hp_model.specs.State.{memory_bytes}
use Rattle.hp_model.specs.Memory.{Memory}
use Rattle.hp_nibbles.proofs.ProgramLines.{get-lines_in}
use Rattle.hp_nibbles.proofs.Seen.{seen}
use Rattle.hp_nibbles.proofs.memory.Memory.line.Goals as goal

pub overflow_sub-result : goal.overflow_sub-result
overflow_sub-result c = omega (arith, c.self.invariant.lines_bound, c.end_of.ensures.value, seen _ c.self.inside.bytes c.self.inside.lines c.self.inside.blocks c.args.self.now c.self.view_is)

pub returns-clause-value : goal.returns-clause-value
returns-clause-value c =
    let s = seen _ c.self.inside.bytes c.self.inside.lines c.self.inside.blocks c.args.self.now c.self.view_is in
    let program = ap (λ (m : Memory). get_or m.program (c.args.i - 1) 0) c.self.view_is in
    let inside : c.args.i - 1 < c.self.inside.lines = omega (arith, s) in
    let place : c.end_of.result - c.args.i ≡ memory_bytes c.self.inside.extent - 1 - (c.args.i - 1) = omega (arith, c.end_of.ensures.value) in
    rw place (sym (get-lines_in _ c.self.inside.bytes c.self.inside.lines (c.args.i - 1) inside) ∙ program)

pub returns-clause-code : goal.returns-clause-code
returns-clause-code c =
    let s = seen _ c.self.inside.bytes c.self.inside.lines c.self.inside.blocks c.args.self.now c.self.view_is in
    let last : c.end_of.result ≡ memory_bytes c.self.inside.extent = c.end_of.ensures.value in
    c.self.invariant.lines_are_codes (c.end_of.result - c.args.i) (omega (arith, s, last)) (omega (arith, s, last, c.self.invariant.lines_bound))
