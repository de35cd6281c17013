use Rattle.std.proofs.Common.{◌∷◌, [], ◌∙◌, arith, refl}
use Rattle.jd_model.specs.Problems.{field}
use Rattle.jd_problem.specs.Problems.{problem_of}
use Rattle.jd_circuit.specs.Net.{at}
use Rattle.jd_vectors.proofs.Kept.{Inside-at, Inside-cons}
use Rattle.jd_inputs.proofs.Fields.{one_bit, step}
use Rattle.jd_inputs.proofs.content.start_flags.Goals as goal

pub returns-clause-taken : goal.returns-clause-taken
returns-clause-taken c = omega (
  arith,
  c.part_lits-first.ensures.taken,
  c.part_lits-second.ensures.taken,
  c.part_lits-third.ensures.taken,
  c.part_lits-fourth.ensures.taken,
  c.part_lits-carry.ensures.taken,
  c.part_lits-range.ensures.taken,
)

pub returns-clause-inside : goal.returns-clause-inside
returns-clause-inside c = λ n h.
    let first = c.part_lits-first.ensures in
    let second = c.part_lits-second.ensures in
    let third = c.part_lits-third.ensures in
    let fourth = c.part_lits-fourth.ensures in
    let carry = c.part_lits-carry.ensures in
    let range = c.part_lits-range.ensures in
    Inside-cons n _ _ (Inside-at n _ 0 _ (first.inside n (omega (arith, second.taken, third.taken, fourth.taken, carry.taken, range.taken))) c.at.ensures)
    (Inside-cons n _ _ (Inside-at n _ 0 _ (second.inside n (omega (arith, third.taken, fourth.taken, carry.taken, range.taken))) c.at-2.ensures)
    (Inside-cons n _ _ (Inside-at n _ 0 _ (third.inside n (omega (arith, fourth.taken, carry.taken, range.taken))) c.at-3.ensures)
    (Inside-cons n _ _ (Inside-at n _ 0 _ (fourth.inside n (omega (arith, carry.taken, range.taken))) c.at-4.ensures)
    (Inside-cons n _ _ (Inside-at n _ 0 _ (carry.inside n (omega (arith, range.taken))) c.at-5.ensures)
    (Inside-cons n _ _ (Inside-at n _ 0 _ (range.inside n (omega arith)) c.at-6.ensures)
    (record { from_one = omega arith; to_last = omega arith }))))))

pub returns-clause-numbers : goal.returns-clause-numbers
returns-clause-numbers c = λ bits h.
    let p = problem_of c.args.problem.now in
    let first = c.part_lits-first.ensures in
    let second = c.part_lits-second.ensures in
    let third = c.part_lits-third.ensures in
    let fourth = c.part_lits-fourth.ensures in
    let carry = c.part_lits-carry.ensures in
    let range = c.part_lits-range.ensures in
    let six = field p 1 11 ∷ [] in
    let five = field p 1 10 ∷ six in
    let four = field p 1 9 ∷ five in
    let three = field p 1 8 ∷ four in
    let two = field p 1 7 ∷ three in
    step bits (field p 1 6) two _ _ _ _ first.taken (one_bit (at bits) _ _ first.length c.at.ensures ∙ first.number bits (omega (arith, second.taken, third.taken, fourth.taken, carry.taken, range.taken)))
    (step bits (field p 1 7) three _ _ _ _ second.taken (one_bit (at bits) _ _ second.length c.at-2.ensures ∙ second.number bits (omega (arith, third.taken, fourth.taken, carry.taken, range.taken)))
    (step bits (field p 1 8) four _ _ _ _ third.taken (one_bit (at bits) _ _ third.length c.at-3.ensures ∙ third.number bits (omega (arith, fourth.taken, carry.taken, range.taken)))
    (step bits (field p 1 9) five _ _ _ _ fourth.taken (one_bit (at bits) _ _ fourth.length c.at-4.ensures ∙ fourth.number bits (omega (arith, carry.taken, range.taken)))
    (step bits (field p 1 10) six _ _ _ _ carry.taken (one_bit (at bits) _ _ carry.length c.at-5.ensures ∙ carry.number bits (omega (arith, range.taken)))
    (step bits (field p 1 11) [] _ _ _ [] range.taken (one_bit (at bits) _ _ range.length c.at-6.ensures ∙ range.number bits (omega arith)) refl)))))
