use Rattle.std.proofs.Common.{◌∷◌, [], ◌∙◌, ap, drop, arith, refl}
use Rattle.jd_model.specs.Problems.{field, numbers_in}
use Rattle.jd_problem.specs.Problems.{problem_of}
use Rattle.jd_inputs.specs.Inputs.{word_fields}
use Rattle.jd_inputs.proofs.Fields.{step}
use Rattle.jd_inputs.proofs.content.start_words.Goals as goal

pub returns-clause-taken : goal.returns-clause-taken
returns-clause-taken c = omega (
  arith,
  c.requires,
  c.part_lits-x.ensures.taken,
  c.part_lits-y.ensures.taken,
  c.part_lits-z.ensures.taken,
  c.part_lits-t.ensures.taken,
  c.part_lits-l.ensures.taken,
  c.part_lits-i.ensures.taken,
)

pub returns-clause-fits : goal.returns-clause-fits
returns-clause-fits c = λ n h.
    let y = c.part_lits-y.ensures in
    let z = c.part_lits-z.ensures in
    let t = c.part_lits-t.ensures in
    let l = c.part_lits-l.ensures in
    let i = c.part_lits-i.ensures in
    record {
      x = record { size = c.part_lits-x.ensures.length; inside = c.part_lits-x.ensures.inside n (omega (arith, y.taken, z.taken, t.taken, l.taken, i.taken)) };
      y = record { size = y.length; inside = y.inside n (omega (arith, z.taken, t.taken, l.taken, i.taken)) };
      z = record { size = z.length; inside = z.inside n (omega (arith, t.taken, l.taken, i.taken)) };
      t = record { size = t.length; inside = t.inside n (omega (arith, l.taken, i.taken)) };
      l = record { size = l.length; inside = l.inside n (omega (arith, i.taken)) };
      i = record { size = i.length; inside = i.inside n h };
    }

pub returns-clause-numbers : goal.returns-clause-numbers
returns-clause-numbers c = λ bits h.
    let p = problem_of c.args.problem.now in
    let x = c.part_lits-x.ensures in
    let y = c.part_lits-y.ensures in
    let z = c.part_lits-z.ensures in
    let t = c.part_lits-t.ensures in
    let l = c.part_lits-l.ensures in
    let i = c.part_lits-i.ensures in
    let six = field p 64 5 ∷ [] in
    let five = field p p.size 4 ∷ six in
    let four = field p p.size 3 ∷ five in
    let three = field p p.size 2 ∷ four in
    let two = field p p.size 1 ∷ three in
    step bits (field p p.size 0) two _ _ _ _ x.taken (x.number bits (omega (arith, y.taken, z.taken, t.taken, l.taken, i.taken)))
    (step bits (field p p.size 1) three _ _ _ _ y.taken (y.number bits (omega (arith, z.taken, t.taken, l.taken, i.taken)))
    (step bits (field p p.size 2) four _ _ _ _ z.taken (z.number bits (omega (arith, t.taken, l.taken, i.taken)))
    (step bits (field p p.size 3) five _ _ _ _ t.taken (t.number bits (omega (arith, l.taken, i.taken)))
    (step bits (field p p.size 4) six _ _ _ _ l.taken (l.number bits (omega (arith, i.taken)))
    (step bits (field p 64 5) [] _ _ _ [] i.taken (i.number bits h) refl)))))
    ∙ ap (λ k. numbers_in (word_fields p) (drop k bits)) c.requires
