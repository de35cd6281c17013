use Rattle.std.proofs.Common.{◌∙◌, sym, ap}
use Rattle.jd_model.specs.ProblemLines.{named_as, kind_name, headers, after_headers}
use Rattle.jd_problem.proofs.FirstWords.{first_or, named-append}
use Rattle.jd_problem.proofs.line_kinds.kind_named.Goals as goal

pub returns-in-Some : goal.returns-in-Some
returns-in-Some c =
    sym (named-append headers after_headers c.args.word.now
    ∙ ap (λ found. first_or found (named_as kind_name after_headers c.args.word.now)) (sym c.header_named.ensures ∙ c.in-Some.is))

pub returns-in-None : goal.returns-in-None
returns-in-None c =
    c.later_named.ensures
    ∙ sym (named-append headers after_headers c.args.word.now
    ∙ ap (λ found. first_or found (named_as kind_name after_headers c.args.word.now)) (sym c.header_named.ensures ∙ c.in-None.is))
