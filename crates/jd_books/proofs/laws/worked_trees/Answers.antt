-- Each by computing it.
use Rattle.std.proofs.Common.{refl}
use Rattle.jd_books.proofs.laws.worked_trees.Goals as goal

pub returns : goal.returns
returns c = record {
  one_leaf = refl;
  fork_without_question = refl;
  leaf_at_question = refl;
  fork_at_question = refl;
  one_fork_more = refl;
  cut_at_question = refl;
  cut_at_end = refl;
  in_preorder = refl;
}
