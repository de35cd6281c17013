use Rattle.std.proofs.Common.{sym, ap, ◌∙◌, subst}
use Rattle.jd_books.specs.Trees.{places}
use Rattle.jd_books.specs.Checks.{IsCovered, first_bad, first_open}
use Rattle.jd_check.specs.Progress.{bad_of, path_of}
use Rattle.jd_check.proofs.Progressing.{tree-covered, tree-bad, tree-open}
use Rattle.jd_check.proofs.progress.Progress.answer.Goals as goal

pub returns-in-Some : goal.returns-in-Some
returns-in-Some g c = λ p tree h.
    let faults = c.into_faults-book.ensures in record {
      covered = subst (IsCovered p tree) (sym faults.book) (tree-covered p tree c.args.self h);
      first = ap (λ b. first_bad b (places tree)) faults.book ∙ tree-bad p tree c.args.self h ∙ ap bad_of (sym faults.bad ∙ c.in-Some.is);
    }

pub returns-in-Some-unrefuted : goal.returns-in-Some-unrefuted
returns-in-Some-unrefuted g c = λ p tree h.
    let faults = c.into_faults-book.ensures in record {
      covered = subst (IsCovered p tree) (sym faults.book) (tree-covered p tree c.args.self h);
      right = ap (λ b. first_bad b (places tree)) faults.book ∙ tree-bad p tree c.args.self h ∙ ap bad_of (sym faults.bad ∙ c.in-None.is);
      first = ap (λ b. first_open b (places tree)) faults.book ∙ tree-open p tree c.args.self h ∙ ap path_of (sym faults.unrefuted ∙ c.in-Some-unrefuted.is);
    }

pub returns-in-None-unrefuted : goal.returns-in-None-unrefuted
returns-in-None-unrefuted g c = λ p tree h.
    let faults = c.into_faults-book.ensures in record {
      covered = subst (IsCovered p tree) (sym faults.book) (tree-covered p tree c.args.self h);
      right = ap (λ b. first_bad b (places tree)) faults.book ∙ tree-bad p tree c.args.self h ∙ ap bad_of (sym faults.bad ∙ c.in-None.is);
      refuted = ap (λ b. first_open b (places tree)) faults.book ∙ tree-open p tree c.args.self h ∙ ap path_of (sym faults.unrefuted ∙ c.in-None-unrefuted.is);
    }
