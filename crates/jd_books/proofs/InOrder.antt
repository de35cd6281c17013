-- A tree by its nodes in preorder.
use Rattle.std.proofs.Common.{◌≡◌, Bool, true, false, List, [], ◌∷◌, ◌++◌, Option, Some, None, refl, sym, ap, ◌∙◌, append_assoc, append-nil}
use Rattle.jd_model.specs.Problems.{Problem}
use Rattle.jd_trees.specs.declared.Kind.TheVariants.{Whole, Cut}
use Rattle.jd_books.specs.Paths.{next_path}
use Rattle.jd_trees.specs.Trees.{Tree, fork_of, node_of, preorder}
use Rattle.jd_trees.specs.declared.Node.{Node}
use Rattle.jd_books.specs.Trees.{with_answer, places_from, or_first, fork_fault, uncovered_from}
use Rattle.jd_books.specs.Nodes.{after_nodes, places_along, uncovered_along}

-- ---- the path after the last no

abbrev pub after_front : Bool → Option (List Bool) → Option (List Bool)
after_front b next = elim next [ Some n ↦ Some (b ∷ n) | None ↦ (elim b [ true ↦ None | false ↦ Some (true ∷ []) ]) ]

pub next-no : (path : List Bool) → next_path (with_answer path false) ≡ Some (with_answer path true)
next-no [] = refl
next-no (b ∷ path) = ap (after_front b) (next-no path)

pub next-yes : (path : List Bool) → next_path (with_answer path true) ≡ next_path path
next-yes [] = refl
next-yes (b ∷ path) = ap (after_front b) (next-yes path)

-- ---- nodes after a tree's

pub after-tree : (tree : Tree) (path : List Bool) (rest : List Node) → after_nodes (Some path) (preorder tree ++ rest) ≡ after_nodes (next_path path) rest
after-tree (node_of Whole log) path rest = refl
after-tree (node_of Cut log) path rest = refl
after-tree (fork_of at_no at_yes) path rest =
    ap (after_nodes (Some (with_answer path false))) (append_assoc (preorder at_no) (preorder at_yes) rest)
    ∙ after-tree at_no (with_answer path false) (preorder at_yes ++ rest)
    ∙ ap (λ at. after_nodes at (preorder at_yes ++ rest)) (next-no path)
    ∙ after-tree at_yes (with_answer path true) rest
    ∙ ap (λ at. after_nodes at rest) (next-yes path)

pub places-tree : (tree : Tree) (path : List Bool) (rest : List Node) → places_along (Some path) (preorder tree ++ rest) ≡ places_from path tree ++ places_along (next_path path) rest
places-tree (node_of Whole log) path rest = refl
places-tree (node_of Cut log) path rest = refl
places-tree (fork_of at_no at_yes) path rest =
    ap (places_along (Some (with_answer path false))) (append_assoc (preorder at_no) (preorder at_yes) rest)
    ∙ places-tree at_no (with_answer path false) (preorder at_yes ++ rest)
    ∙ ap (λ at. places_from (with_answer path false) at_no ++ places_along at (preorder at_yes ++ rest)) (next-no path)
    ∙ ap (λ r. places_from (with_answer path false) at_no ++ r) (places-tree at_yes (with_answer path true) rest)
    ∙ ap (λ at. places_from (with_answer path false) at_no ++ (places_from (with_answer path true) at_yes ++ places_along at rest)) (next-yes path)
    ∙ sym (append_assoc (places_from (with_answer path false) at_no) (places_from (with_answer path true) at_yes) (places_along (next_path path) rest))

or-first-assoc : {A : Type 0} (a b c : Option A) → or_first (or_first a b) c ≡ or_first a (or_first b c)
or-first-assoc None b c = refl
or-first-assoc (Some a) b c = refl

pub uncovered-tree : (p : Problem) (tree : Tree) (path : List Bool) (rest : List Node)
    → uncovered_along p (Some path) (preorder tree ++ rest) ≡ or_first (uncovered_from p path tree) (uncovered_along p (next_path path) rest)
uncovered-tree p (node_of Whole log) path rest = refl
uncovered-tree p (node_of Cut log) path rest = refl
uncovered-tree p (fork_of at_no at_yes) path rest =
    let left = uncovered_from p (with_answer path false) at_no in
    let right = uncovered_from p (with_answer path true) at_yes in
    let last = uncovered_along p (next_path path) rest in
    ap (or_first (fork_fault p path))
    (ap (uncovered_along p (Some (with_answer path false))) (append_assoc (preorder at_no) (preorder at_yes) rest)
    ∙ uncovered-tree p at_no (with_answer path false) (preorder at_yes ++ rest)
    ∙ ap (λ at. or_first left (uncovered_along p at (preorder at_yes ++ rest))) (next-no path)
    ∙ ap (or_first left) (uncovered-tree p at_yes (with_answer path true) rest)
    ∙ ap (λ at. or_first left (or_first right (uncovered_along p at rest))) (next-yes path)
    ∙ sym (or-first-assoc left right last))
    ∙ sym (or-first-assoc (fork_fault p path) (or_first left right) last)

-- ---- whole trees

pub after-whole : (tree : Tree) → after_nodes (Some []) (preorder tree) ≡ None
after-whole tree = ap (after_nodes (Some [])) (sym (append-nil (preorder tree))) ∙ after-tree tree [] []

pub places-whole : (tree : Tree) → places_along (Some []) (preorder tree) ≡ places_from [] tree
places-whole tree = ap (places_along (Some [])) (sym (append-nil (preorder tree))) ∙ places-tree tree [] [] ∙ append-nil (places_from [] tree)

or-none : {A : Type 0} (a : Option A) → or_first a None ≡ a
or-none None = refl
or-none (Some a) = refl

pub uncovered-whole : (p : Problem) (tree : Tree) → uncovered_along p (Some []) (preorder tree) ≡ uncovered_from p [] tree
uncovered-whole p tree = ap (uncovered_along p (Some [])) (sym (append-nil (preorder tree))) ∙ uncovered-tree p tree [] [] ∙ or-none (uncovered_from p [] tree)
