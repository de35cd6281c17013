use Rattle.std.proofs.Common.{◌≡◌, ◌^◌, ◌∙◌, Some, None, sym, refl, arith}
use Rattle.std.specs.Prelude.{slice_index_or}
use Rattle.jd_model.specs.Problems.{part_limit}
use Rattle.jd_start.specs.Parts.{place_of, values_of}
use Rattle.jd_circuit.specs.Net.{at}
use Rattle.jd_inputs.proofs.Fields.{below, fixed_at}
use Rattle.jd_inputs.proofs.Inputs.{inside_inputs, inputs-number, length-inputs}
use Rattle.jd_inputs.proofs.numbers.part_lits.Goals as goal

pub constant-requires-clause-small : goal.constant-requires-clause-small
constant-requires-clause-small c =
    let p = c.args.problem.now in
    let k = place_of c.args.part in
    below (part_limit p.size.bits k) _ (2 ^ c.args.width) (slice_index_or (values_of p.fixed) k None) (sym c.value.ensures ∙ c.in-Some.is) c.requires.limit
    (fixed_at p.size.bits 0 (values_of p.fixed) k k (omega arith) p.fixed_within)

pub returns-in-None-clause-taken : goal.returns-in-None-clause-taken
returns-in-None-clause-taken c =
    let fixed : slice_index_or (values_of c.args.problem.now.fixed) (place_of c.args.part) None ≡ None = sym c.value.ensures ∙ c.in-None.is in
    rw fixed refl

pub returns-in-None-clause-length : goal.returns-in-None-clause-length
returns-in-None-clause-length c = rw c.input_lits-lits.ensures (length-inputs c.args.width c.args.taken.now)

pub returns-in-None-clause-inside : goal.returns-in-None-clause-inside
returns-in-None-clause-inside c = λ n h. rw c.input_lits-lits.ensures (inside_inputs c.args.width c.args.taken.now n h)

pub returns-in-None-clause-number : goal.returns-in-None-clause-number
returns-in-None-clause-number c = λ bits h.
    let fixed : slice_index_or (values_of c.args.problem.now.fixed) (place_of c.args.part) None ≡ None = sym c.value.ensures ∙ c.in-None.is in
    rw (fixed, c.input_lits-lits.ensures) (inputs-number bits c.args.width c.args.taken.now h)

pub returns-in-Some-clause-taken : goal.returns-in-Some-clause-taken
returns-in-Some-clause-taken c =
    let fixed : slice_index_or (values_of c.args.problem.now.fixed) (place_of c.args.part) None ≡ Some c.in-Some.value = sym c.value.ensures ∙ c.in-Some.is in
    rw fixed (omega arith)

pub returns-in-Some-clause-inside : goal.returns-in-Some-clause-inside
returns-in-Some-clause-inside c = λ n h. c.constant.ensures.inside n

pub returns-in-Some-clause-number : goal.returns-in-Some-clause-number
returns-in-Some-clause-number c = λ bits h.
    let fixed : slice_index_or (values_of c.args.problem.now.fixed) (place_of c.args.part) None ≡ Some c.in-Some.value = sym c.value.ensures ∙ c.in-Some.is in
    rw fixed (c.constant.ensures.number (at bits))
