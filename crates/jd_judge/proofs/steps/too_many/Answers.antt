use Rattle.std.proofs.Common.{◌++◌, ◌∷◌, [], sym, ap, ◌∙◌, subst}
use Rattle.jd_start.specs.Starts.{start_data}
use Rattle.jd_books.specs.Outcomes.{AreTooMany}
use Rattle.jd_judge.proofs.Placing.{judged-many}
use Rattle.jd_judge.proofs.steps.too_many.Goals as goal

pub returns : goal.returns
returns g c = λ p claim placed over own full.
    let old = c.args.judging in
    subst (AreTooMany p) (sym (c.in_ok-push.ensures.pushed ∙ ap (λ starts. starts ++ start_data c.args.start ∷ []) c.into_starts-starts.ensures))
    (judged-many p claim old.walk old.nodes.items old.book old.starts (start_data c.args.start) placed own.0 own.1 full)
