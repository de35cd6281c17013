use Rattle.std.proofs.Common.{◌∙◌, ap, arith, drop, length, map, sym, Some}
use Rattle.hp_model.specs.Questions.{numbers_below}
use Rattle.jd_questions.proofs.Spelling.{after_first, erring_done, first_asked, going_on, next_bit, no_bit}
use Rattle.jd_questions.proofs.numbers.next_of_number.Goals as goal
use Rattle.jd_questions.proofs.numbers.next_of_number.Goals.{then-past-via-then-past, then-past-via-else-past+then-places-bits}

pub returns-in-empty : goal.returns-in-empty
returns-in-empty c = λ first bit e plain. first_asked first (map bit (numbers_below c.args.bits)) c.args.given.now c.in-empty.len_below

pub returns-then-past : goal.returns-then-past
returns-then-past c = λ first bit e plain.
    let given = c.args.given.now in
    let bits = map bit (numbers_below c.args.bits) in
    let places = ap length (after_first given) in
    elim c.then-past.branch [
      | then-past-via-then-past w ↦ erring_done first bits given _ e c.in-len1-up.len_at_least w.if-past.true
      | then-past-via-else-past+then-places-bits w ↦ going_on first bits given _ e c.in-len1-up.len_at_least w.if-past.false
          ∙ no_bit bit plain c.args.bits (drop 1 given) (omega (arith, places, w.if-places-bits.true))
    ]

pub returns-else-places-bits : goal.returns-else-places-bits
returns-else-places-bits c = λ first bit e plain.
    let given = c.args.given.now in
    let bits = map bit (numbers_below c.args.bits) in
    let places = ap length (after_first given) in
    going_on first bits given _ e c.in-len1-up.len_at_least c.if-past.false
    ∙ next_bit bit plain c.args.bits (drop 1 given) (omega (arith, places, c.if-places-bits.false))
    ∙ ap (λ k. Some (bit k)) (sym places)
