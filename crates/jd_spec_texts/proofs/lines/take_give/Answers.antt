use Rattle.std.proofs.Common.{◌≡◌, ◌++◌, ◌∷◌, [], true, false, Some, None, nat_lt, refl, sym, ap, ◌∙◌, subst, arith}
use Rattle.std.specs.Prelude.{if◌then◌else◌, Ok, Err}
use Rattle.std.specs.List.{IsDistinct}
use Rattle.std.proofs.lemmas.Bool.Decides.{nat_tests}
use Rattle.jd_text.specs.Words.{words_of}
use Rattle.jd_text.proofs.Tests.{test-less}
use Rattle.jd_model.specs.declared.causes.ProblemCause.TheVariants.{Range}
use Rattle.jd_model.specs.ProblemTexts.{is_before_first}
use Rattle.jd_formulas.specs.Formulas.{is_formula_in_range}
use Rattle.jd_spec_texts.specs.Readings.{spec_reading_of}
use Rattle.jd_spec_texts.specs.SpecLines.{one_give}
use Rattle.jd_spec_texts.specs.SpecTexts.{is_part_given}
use Rattle.jd_spec_texts.specs.Specs.{give_told, same_part}
use Rattle.jd_spec_texts.proofs.GiveReading.{none-line, some-line}
use Rattle.jd_spec_texts.proofs.SpecLaws.{once-more, room-more}
use Rattle.jd_spec_texts.proofs.lines.take_give.Goals as goal

pub returns-in_default : goal.returns-in_default
returns-in_default c =
    let none : give_told (one_give (words_of c.args.rest.now)) ≡ None = cc (c.in_default.is, c.one_give.ensures) in
    none-line (spec_reading_of c.args.reading.now) (one_give (words_of c.args.rest.now)) none

pub returns-then-not-is_before_first : goal.returns-then-not-is_before_first
returns-then-not-is_before_first c =
    let r = spec_reading_of c.args.reading.now in
    let off : is_before_first r.reading ≡ false = grind (arith, nat_tests, c.is_before_first.ensures, c.if-not-is_before_first.true) in
    some-line r (one_give (words_of c.args.rest.now)) c.in-Some.part c.in-Some.formula (sym c.in-Some.ensures) false (is_part_given c.in-Some.part r.gives) (nat_lt r.reading.due 9) off refl refl

pub returns-then-reading-lt-ROUTINE_DUE : goal.returns-then-reading-lt-ROUTINE_DUE
returns-then-reading-lt-ROUTINE_DUE c =
    let r = spec_reading_of c.args.reading.now in
    let on : is_before_first r.reading ≡ true = grind (arith, nat_tests, c.is_before_first.ensures, c.if-not-is_before_first.false) in
    some-line r (one_give (words_of c.args.rest.now)) c.in-Some.part c.in-Some.formula (sym c.in-Some.ensures) true false true on
    (sym c.is_part_given.ensures ∙ c.if-is_part_given.false) (test-less r.reading.due 9 c.if-reading-lt-ROUTINE_DUE.true)

pub returns-in_default-formula : goal.returns-in_default-formula
returns-in_default-formula c =
    let r = spec_reading_of c.args.reading.now in
    let on : is_before_first r.reading ≡ true = grind (arith, nat_tests, c.is_before_first.ensures, c.if-not-is_before_first.false) in
    let far = c.if-reading-lt-ROUTINE_DUE.false in
    let late : nat_lt r.reading.due 9 ≡ false = grind (arith, nat_tests) in
    let told : give_told (one_give (words_of c.args.rest.now)) ≡ Some (c.in-Some.part, None) = cc (c.in-Some.ensures, c.in_default-formula.is) in
    some-line r (one_give (words_of c.args.rest.now)) c.in-Some.part None told true false false on (sym c.is_part_given.ensures ∙ c.if-is_part_given.false) late

pub returns-then-not-is_in_range : goal.returns-then-not-is_in_range
returns-then-not-is_in_range c =
    let r = spec_reading_of c.args.reading.now in
    let ts = c.in-Some-formula.formula in
    let on : is_before_first r.reading ≡ true = grind (arith, nat_tests, c.is_before_first.ensures, c.if-not-is_before_first.false) in
    let far = c.if-reading-lt-ROUTINE_DUE.false in
    let late : nat_lt r.reading.due 9 ≡ false = grind (arith, nat_tests) in
    let told : give_told (one_give (words_of c.args.rest.now)) ≡ Some (c.in-Some.part, Some ts) = cc (c.in-Some.ensures, c.in-Some-formula.is) in
    let out : is_formula_in_range r.reading.problem.size ts ≡ false = cc (c.is_in_range.ensures, c.if-not-is_in_range.true, c.tokens.ensures.tokens) in
    some-line r (one_give (words_of c.args.rest.now)) c.in-Some.part (Some ts) told true false false on (sym c.is_part_given.ensures ∙ c.if-is_part_given.false) late
    ∙ ap (λ b. if b then Ok (record r { gives = r.gives ++ record { part = c.in-Some.part; formula = ts } ∷ [] }) else Err Range) out

pub push-requires : goal.push-requires
push-requires c =
    room-more c.args.reading.now.gives (record { part = c.in-Some.part; formula = c.in-Some-formula.formula }) c.args.reading.now.once
    (sym c.is_part_given.ensures ∙ c.if-is_part_given.false)

pub invariant_of-reading : goal.invariant_of-reading
invariant_of-reading c = record {
  once = subst (IsDistinct same_part) (sym c.push.ensures)
      (once-more c.args.reading.now.gives (record { part = c.in-Some.part; formula = c.in-Some-formula.formula }) c.args.reading.now.once
      (sym c.is_part_given.ensures ∙ c.if-is_part_given.false));
}

pub returns : goal.returns
returns c =
    let r = spec_reading_of c.args.reading.now in
    let ts = c.in-Some-formula.formula in
    let on : is_before_first r.reading ≡ true = grind (arith, nat_tests, c.is_before_first.ensures, c.if-not-is_before_first.false) in
    let far = c.if-reading-lt-ROUTINE_DUE.false in
    let late : nat_lt r.reading.due 9 ≡ false = grind (arith, nat_tests) in
    let told : give_told (one_give (words_of c.args.rest.now)) ≡ Some (c.in-Some.part, Some ts) = cc (c.in-Some.ensures, c.in-Some-formula.is) in
    let in_range : is_formula_in_range r.reading.problem.size ts ≡ true = cc (c.is_in_range.ensures, c.if-not-is_in_range.false, c.tokens.ensures.tokens) in
    some-line r (one_give (words_of c.args.rest.now)) c.in-Some.part (Some ts) told true false false on (sym c.is_part_given.ensures ∙ c.if-is_part_given.false) late
    ∙ ap (λ b. if b then Ok (record r { gives = r.gives ++ record { part = c.in-Some.part; formula = ts } ∷ [] }) else Err Range) in_range
    ∙ ap (λ gives. Ok (record r { gives = gives })) (sym c.push.ensures)
