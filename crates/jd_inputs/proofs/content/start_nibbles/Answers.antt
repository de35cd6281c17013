use Rattle.std.proofs.Common.{◌≡◌, ◌*◌, ◌∙◌, List, Some, None, sym, ap, arith, drop, replicate}
use Rattle.std.specs.Prelude.{slice_index_or}
use Rattle.hp_model.specs.State.{memory_bytes, register_nibbles}
use Rattle.jd_model.specs.Problems.{Field, free_widths, nibble_count, nibble_fields, numbers_in}
use Rattle.jd_problem.specs.Problems.{problem_of}
use Rattle.jd_start.specs.Parts.{values_of}
use Rattle.jd_inputs.specs.Nibbles.{free_nibble, zero_nibble}
use Rattle.jd_inputs.proofs.Fields.{fixed_at, zero_value}
use Rattle.jd_inputs.proofs.FieldsOfNibbles.{free_count}
use Rattle.jd_inputs.proofs.content.start_nibbles.Goals as goal

pub returns-in_ok-nibbles-in-None-clause-length : goal.returns-in_ok-nibbles-in-None-clause-length
returns-in_ok-nibbles-in-None-clause-length c =
    let p = c.args.problem.now in
    let count : c.register_nibbles-count.result ≡ nibble_count (problem_of p) = c.register_nibbles-count.ensures.value ∙ ap (register_nibbles (memory_bytes p.memory)) c.blocks-2.ensures.value in
    c.in_ok-nibbles-in-None.ensures.length ∙ ap (λ n. 4 * n) count

pub returns-in_ok-nibbles-in-None-clause-inside : goal.returns-in_ok-nibbles-in-None-clause-inside
returns-in_ok-nibbles-in-None-clause-inside c = λ n h.
    let p = c.args.problem.now in
    let count : c.register_nibbles-count.result ≡ nibble_count (problem_of p) = c.register_nibbles-count.ensures.value ∙ ap (register_nibbles (memory_bytes p.memory)) c.blocks-2.ensures.value in
    let fixed : slice_index_or (values_of p.fixed) 12 None ≡ None = sym c.value.ensures ∙ c.in-None.is in
    let fields : replicate c.register_nibbles-count.result free_nibble ≡ nibble_fields (problem_of p) = rw fixed (ap (λ n. replicate n free_nibble) count) in
    c.in_ok-nibbles-in-None.ensures.inside n (omega (arith, h, ap free_widths fields, free_count c.register_nibbles-count.result))

pub returns-in_ok-nibbles-in-None-clause-numbers : goal.returns-in_ok-nibbles-in-None-clause-numbers
returns-in_ok-nibbles-in-None-clause-numbers c = λ bits h.
    let p = c.args.problem.now in
    let count : c.register_nibbles-count.result ≡ nibble_count (problem_of p) = c.register_nibbles-count.ensures.value ∙ ap (register_nibbles (memory_bytes p.memory)) c.blocks-2.ensures.value in
    let fixed : slice_index_or (values_of p.fixed) 12 None ≡ None = sym c.value.ensures ∙ c.in-None.is in
    let fields : replicate c.register_nibbles-count.result free_nibble ≡ nibble_fields (problem_of p) = rw fixed (ap (λ n. replicate n free_nibble) count) in
    c.in_ok-nibbles-in-None.ensures.numbers bits (omega (arith, h, ap free_widths fields, free_count c.register_nibbles-count.result)) ∙ ap (λ (fs : List Field). numbers_in fs (drop c.args.taken bits)) fields

pub returns-in_ok-nibbles-in-Some-clause-length : goal.returns-in_ok-nibbles-in-Some-clause-length
returns-in_ok-nibbles-in-Some-clause-length c =
    let p = c.args.problem.now in
    let count : c.register_nibbles-count.result ≡ nibble_count (problem_of p) = c.register_nibbles-count.ensures.value ∙ ap (register_nibbles (memory_bytes p.memory)) c.blocks-2.ensures.value in
    c.in_ok-nibbles-in-Some.ensures.length ∙ ap (λ n. 4 * n) count

pub returns-in_ok-nibbles-in-Some-clause-inside : goal.returns-in_ok-nibbles-in-Some-clause-inside
returns-in_ok-nibbles-in-Some-clause-inside c = λ n h. c.in_ok-nibbles-in-Some.ensures.inside n

pub returns-in_ok-nibbles-in-Some-clause-numbers : goal.returns-in_ok-nibbles-in-Some-clause-numbers
returns-in_ok-nibbles-in-Some-clause-numbers c = λ bits h.
    let p = c.args.problem.now in
    let count : c.register_nibbles-count.result ≡ nibble_count (problem_of p) = c.register_nibbles-count.ensures.value ∙ ap (register_nibbles (memory_bytes p.memory)) c.blocks-2.ensures.value in
    let fixed : slice_index_or (values_of p.fixed) 12 None ≡ Some 0 = zero_value _ _ (sym c.value.ensures ∙ c.in-Some.is) (fixed_at p.size.bits 0 (values_of p.fixed) 12 12 (omega arith) p.fixed_within) in
    let fields : replicate c.register_nibbles-count.result zero_nibble ≡ nibble_fields (problem_of p) = rw fixed (ap (λ n. replicate n zero_nibble) count) in
    c.in_ok-nibbles-in-Some.ensures.numbers bits (drop c.args.taken bits) ∙ ap (λ (fs : List Field). numbers_in fs (drop c.args.taken bits)) fields
