use Rattle.std.proofs.Common.{◌<◌, ◌==◌, ◌∙◌, not, nat_le, nat_lt, ap, subst, sym}
use Rattle.std.specs.Prelude.{int_lt, nat_abs, pos}
use Rattle.hp_model.specs.Words.{bit, fits, magnitude, value}
use Rattle.hp_model.specs.WordOperations.{double_quotient}
use Rattle.hp_model.specs.Questions.{holds_of_test}
use Rattle.hp_ops.specs.Meaning.{condition}
use Rattle.jd_vectors.specs.Number.{number}
use Rattle.jd_questions.proofs.AskedData.{from_16}
use Rattle.jd_questions.proofs.literals.literal.Goals as goal

pub returns-in_ok-l-in-Test-clause-meaning : goal.returns-in_ok-l-in-Test-clause-meaning
returns-in_ok-l-in-Test-clause-meaning g c = λ listing fine val s asked.
    let mode = c.args.control.now.mode in
    let x = number val c.args.content.now.x in
    let y = number val c.args.content.now.y in
    let size = c.requires.fits.x.size in
    rw c.in-Test.is (c.in_ok-l-in-Test.ensures.meaning val s ∙ ap (λ w. holds_of_test (condition c.in-Test.test) (value w mode x) (value w mode y)) size)

pub returns-in_ok-l-in-XIsZero-clause-meaning : goal.returns-in_ok-l-in-XIsZero-clause-meaning
returns-in_ok-l-in-XIsZero-clause-meaning g c = λ listing fine val s asked.
    let mode = c.args.control.now.mode in
    let x = number val c.args.content.now.x in
    let size = c.requires.fits.x.size in
    rw c.in-XIsZero.is (c.in_ok-l-in-XIsZero.ensures.meaning val s ∙ ap (λ w. nat_abs (value w mode x) == 0) size)

pub returns-in_ok-l-in-XIsNegative-clause-meaning : goal.returns-in_ok-l-in-XIsNegative-clause-meaning
returns-in_ok-l-in-XIsNegative-clause-meaning g c = λ listing fine val s asked.
    let mode = c.args.control.now.mode in
    let x = number val c.args.content.now.x in
    let size = c.requires.fits.x.size in
    rw c.in-XIsNegative.is (c.in_ok-l-in-XIsNegative.ensures.meaning val s ∙ ap (λ w. int_lt (value w mode x) (pos 0)) size)

pub returns-in_ok-l-in-QuotientIsTooGreat-clause-meaning : goal.returns-in_ok-l-in-QuotientIsTooGreat-clause-meaning
returns-in_ok-l-in-QuotientIsTooGreat-clause-meaning g c = λ listing fine val s asked.
    let mode = c.args.control.now.mode in
    let x = number val c.args.content.now.x in
    let y = number val c.args.content.now.y in
    let z = number val c.args.content.now.z in
    let size = c.requires.fits.x.size in
    rw c.in-QuotientIsTooGreat.is (c.in_ok-l-in-QuotientIsTooGreat.ensures.meaning val s (subst (λ w. 0 < magnitude w mode x) (sym size) (rw c.in-QuotientIsTooGreat.is at asked))
    ∙ ap (λ w. not (fits w mode (double_quotient w mode y z x))) size)

pub returns-in_ok-l-in-MagnitudeAboveSize-clause-meaning : goal.returns-in_ok-l-in-MagnitudeAboveSize-clause-meaning
returns-in_ok-l-in-MagnitudeAboveSize-clause-meaning g c = λ listing fine val s asked.
    let mode = c.args.control.now.mode in
    let x = number val c.args.content.now.x in
    let size = c.requires.fits.x.size in
    rw c.in-MagnitudeAboveSize.is (c.in_ok-l-in-MagnitudeAboveSize.ensures.meaning val s ∙ ap (λ w. nat_lt w (magnitude w mode x)) size)

pub returns-in_ok-l-in-MagnitudeAtLeastSize-clause-meaning : goal.returns-in_ok-l-in-MagnitudeAtLeastSize-clause-meaning
returns-in_ok-l-in-MagnitudeAtLeastSize-clause-meaning g c = λ listing fine val s asked.
    let mode = c.args.control.now.mode in
    let x = number val c.args.content.now.x in
    let size = c.requires.fits.x.size in
    rw c.in-MagnitudeAtLeastSize.is (c.in_ok-l-in-MagnitudeAtLeastSize.ensures.meaning val s ∙ ap (λ w. nat_le w (magnitude w mode x)) size)

pub returns-in_ok-l-in-MagnitudeAbove64-clause-meaning : goal.returns-in_ok-l-in-MagnitudeAbove64-clause-meaning
returns-in_ok-l-in-MagnitudeAbove64-clause-meaning g c = λ listing fine val s asked.
    let mode = c.args.control.now.mode in
    let x = number val c.args.content.now.x in
    let size = c.requires.fits.x.size in
    rw c.in-MagnitudeAbove64.is (c.in_ok-l-in-MagnitudeAbove64.ensures.meaning val s ∙ ap (λ w. nat_lt 64 (magnitude w mode x)) size)

pub returns-in_ok-l-in-BitOfY-clause-meaning : goal.returns-in_ok-l-in-BitOfY-clause-meaning
returns-in_ok-l-in-BitOfY-clause-meaning g c = λ listing fine val s asked.
    let mode = c.args.control.now.mode in
    let x = number val c.args.content.now.x in
    let y = number val c.args.content.now.y in
    let size = c.requires.fits.x.size in
    rw c.in-BitOfY.is (c.in_ok-l-in-BitOfY.ensures.meaning val s (subst (λ w. magnitude w mode x < w) (sym size) (rw c.in-BitOfY.is at asked)) ∙ ap (λ w. bit y (magnitude w mode x)) size)

pub returns-in_ok-l-in-CountIsZero-clause-meaning : goal.returns-in_ok-l-in-CountIsZero-clause-meaning
returns-in_ok-l-in-CountIsZero-clause-meaning g c = λ listing fine val s asked.
    rw c.in-CountIsZero.is (c.in_ok-l-in-CountIsZero.ensures.meaning listing val s)

pub returns-in_ok-l-in-IndexPastRegisters-clause-meaning : goal.returns-in_ok-l-in-IndexPastRegisters-clause-meaning
returns-in_ok-l-in-IndexPastRegisters-clause-meaning g c = λ listing fine val s asked.
    rw c.in-IndexPastRegisters.is (c.in_ok-l-in-IndexPastRegisters.ensures.meaning val s ∙ ap (λ n. nat_le n (number val c.args.content.now.i)) (sym fine))

pub returns-in_ok-l-in-IndexAbove15-clause-meaning : goal.returns-in_ok-l-in-IndexAbove15-clause-meaning
returns-in_ok-l-in-IndexAbove15-clause-meaning g c = λ listing fine val s asked.
    rw c.in-IndexAbove15.is (c.in_ok-l-in-IndexAbove15.ensures.meaning val s ∙ from_16 (number val c.args.content.now.i))

pub returns-in_ok-l-in-MagnitudeBit-clause-meaning : goal.returns-in_ok-l-in-MagnitudeBit-clause-meaning
returns-in_ok-l-in-MagnitudeBit-clause-meaning g c = λ listing fine val s asked.
    let mode = c.args.control.now.mode in
    let x = number val c.args.content.now.x in
    let size = c.requires.fits.x.size in
    rw c.in-MagnitudeBit.is (c.in_ok-l-in-MagnitudeBit.ensures.meaning val s ∙ ap (λ w. bit (magnitude w mode x) c.in-MagnitudeBit.place) size)

pub returns-in-Flag-clause-meaning : goal.returns-in-Flag-clause-meaning
returns-in-Flag-clause-meaning g c = λ listing fine val s asked. rw c.in-Flag.is (c.flag.ensures.meaning val)

pub returns-in-Flag-clause-of : goal.returns-in-Flag-clause-of
returns-in-Flag-clause-of g c = c.flag.ensures.of _ c.requires.fits.flags

pub returns-in-IndexBit-clause-meaning : goal.returns-in-IndexBit-clause-meaning
returns-in-IndexBit-clause-meaning g c = λ listing fine val s asked. rw c.in-IndexBit.is (c.bit_at.ensures.meaning val)

pub returns-in-IndexBit-clause-of : goal.returns-in-IndexBit-clause-of
returns-in-IndexBit-clause-of g c = c.bit_at.ensures.of _ c.requires.fits.i.inside
