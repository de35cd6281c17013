-- Each by computing it.
use Rattle.std.proofs.Common.{refl}
use Rattle.std.specs.Fmt.{digits}
use Rattle.jd_trees.proofs.laws.worked_certificates.Goals as goal

pub returns : goal.returns
unfolding digits
returns c = record {
  one_cut = refl;
  two_leaves = refl;
  fork_within_fork = refl;
  lines_in_leaf = refl;
  written_back = refl;
  negative_numbers = refl;
  empty_lines = refl;
  no_last_line_feed = refl;
  nothing = refl;
  no_words = refl;
  first_line_alone = refl;
  ends_too_early = refl;
  one_line_more = refl;
  end_again = refl;
  leaf_without_end = refl;
  leaf_in_leaf = refl;
  end_without_leaf = refl;
  line_outside = refl;
  other_version = refl;
  no_first_line = refl;
  first_line_twice = refl;
  word_more = refl;
  hints_unended = refl;
  greatest_id = refl;
  one_id_more = refl;
  first_bad_line = refl;
  events_so_far = refl;
  events_of_all = refl;
}
