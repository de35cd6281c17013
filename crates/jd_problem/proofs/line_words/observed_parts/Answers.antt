use Rattle.std.proofs.Common.{◌≡◌, None, refl, sym, subst}
use Rattle.std.specs.Prelude.{MatchOption}
use Rattle.jd_text.specs.Words.{words_of}
use Rattle.jd_text.specs.Places.{words_at}
use Rattle.jd_model.specs.ProblemLines.{parts_named}
use Rattle.jd_start.specs.Parts.{marks_of}
use Rattle.jd_problem.specs.LineWords.{ObservesParts}
use Rattle.jd_problem.proofs.Observed.{observed-end, observed-stop}
use Rattle.jd_problem.proofs.line_words.observed_parts.Goals as goal

pub returns-in_err-part : goal.returns-in_err-part
returns-in_err-part c =
    let words = words_of c.args.line.now in
    let none : parts_named words ≡ None =
    observed-stop (marks_of c.words.parts) c.words.twice (words_at c.args.line.now c.words.at) words c.words.invariant.same c.in-Some.word.now (words_at c.args.line.now c.in-Some.end)
    c.in-Some.ensures.words c.in_err-part.ensures in
    subst (λ said. MatchOption said (parts_named words ≡ None) (λ said. ObservesParts words said.0 said.1)) (sym c.from_residual.ensures) none

pub returns : goal.returns
returns c =
    observed-end (marks_of c.words.parts) c.words.twice (words_at c.args.line.now c.words.at) (words_of c.args.line.now) c.words.invariant.same c.words.parts refl c.in_default.ensures
