-- The first path at which a tree doesn't cover is None exactly where it covers.
use Rattle.std.proofs.Common.{◌≡◌, Bool, true, false, List, [], ◌∷◌, Option, Some, None, refl, sym, ap, arith}
use Rattle.jd_trees.specs.declared.Kind.TheVariants.{Whole, Cut}
use Rattle.jd_model.specs.Problems.{Problem}
use Rattle.jd_books.specs.Paths.{Reached, asking, reached, after_path}
use Rattle.jd_trees.specs.Trees.{Tree, fork_of, node_of}
use Rattle.jd_books.specs.Trees.{with_answer, CoversFrom, is_asking, is_over, or_first, wrong_unless, uncovered_from}
use Rattle.hp_model.specs.declared.End.{End}

abbrev is_none : Option (List Bool) → Bool
is_none None = true
is_none (Some path) = false

true_is_false : true ≡ false → ⊥
true_is_false h = grind arith

asks-is : (r : Reached (Option End)) (path : List Bool) → wrong_unless (is_asking r) path ≡ None → r ≡ asking
asks-is asking path h = refl
asks-is (reached a rest) path h = absurd (true_is_false (ap is_none (sym h)))

over-is : (r : Reached (Option End)) (path : List Bool) → wrong_unless (is_over r) path ≡ None → (end : Option End) × (r ≡ reached end [])
over-is asking path h = absurd (true_is_false (ap is_none (sym h)))
over-is (reached a []) path h = (a, refl)
over-is (reached a (b ∷ rest)) path h = absurd (true_is_false (ap is_none (sym h)))

first-none : (a b : Option (List Bool)) → or_first a b ≡ None → a ≡ None
first-none None b h = refl
first-none (Some path) b h = h

second-none : (a b : Option (List Bool)) → or_first a b ≡ None → b ≡ None
second-none None b h = h
second-none (Some path) b h = absurd (true_is_false (ap is_none (sym h)))

pub covers-from : (p : Problem) (tree : Tree) (path : List Bool) → uncovered_from p path tree ≡ None → CoversFrom p path tree
covers-from p (fork_of at_no at_yes) path h =
    let here = wrong_unless (is_asking (after_path p path)) path in
    let left = uncovered_from p (with_answer path false) at_no in
    let right = uncovered_from p (with_answer path true) at_yes in
    let below : or_first left right ≡ None = second-none here (or_first left right) h in (
      asks-is (after_path p path) path (first-none here (or_first left right) h),
      covers-from p at_no (with_answer path false) (first-none left right below),
      covers-from p at_yes (with_answer path true) (second-none left right below),
    )
covers-from p (node_of Whole log) path h = over-is (after_path p path) path h
covers-from p (node_of Cut log) path h = tt

pub from-covers : (p : Problem) (tree : Tree) (path : List Bool) → CoversFrom p path tree → uncovered_from p path tree ≡ None
from-covers p (fork_of at_no at_yes) path h = rw (h.0, from-covers p at_no (with_answer path false) h.1, from-covers p at_yes (with_answer path true) h.2)
from-covers p (node_of Whole log) path h = rw h.1
from-covers p (node_of Cut log) path h = refl
