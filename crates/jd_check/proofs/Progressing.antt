-- A check's progress by one node.
use Rattle.std.proofs.Common.{◌≡◌, Bool, true, false, List, [], ◌∷◌, ◌++◌, length, Option, Some, None, refl, sym, ap, ◌∙◌, subst, append-nil}
use Rattle.std.specs.Prelude.{is_some, not}
use Rattle.std.proofs.lemmas.List.{length-map}
use Rattle.jd_logic.specs.declared.Line.{Line}
use Rattle.jd_model.specs.Problems.{Problem}
use Rattle.jd_trees.specs.declared.Kind.{Kind}
use Rattle.jd_trees.specs.declared.Kind.TheVariants.{Whole, Cut}
use Rattle.jd_books.specs.Paths.{AsksAfter, OverAfter, next_path}
use Rattle.jd_trees.specs.declared.Node.{Node}
use Rattle.jd_trees.specs.declared.Node.TheVariants.{Fork}
use Rattle.jd_trees.specs.Trees.{Tree, preorder, node}
use Rattle.jd_books.specs.Trees.{places, Place, with_answer, or_first, fork_fault, leaf_fault}
use Rattle.jd_books.specs.Nodes.{after_node, node_fault, after_nodes, places_along, uncovered_along, place_at}
use Rattle.jd_model.specs.Seen.{agree}
use Rattle.jd_books.specs.Leaves.{IsFaithful, IsBookOf}
use Rattle.jd_books.specs.Checks.{LogEnd, log_end, or_bad, or_open, first_bad, first_open, IsCovered}
use Rattle.jd_books.proofs.InOrder.{places-whole as places-tree, uncovered-whole as uncovered-tree}
use Rattle.jd_check.specs.declared.progress.Progress.{Progress}
use Rattle.jd_leaves.specs.declared.leaf.Leaf.{Leaf}
use Rattle.jd_leaves.specs.declared.lists.Path.{Path}
use Rattle.jd_leaves.specs.Views.{leaf_of}
use Rattle.jd_walk.specs.Leaves.{IsLeafOf}
use Rattle.jd_walk.specs.Walked.{Walked, answered, back_at, back_from}
use Rattle.jd_check.specs.Progress.{log_after, bad_of, path_of, next_of, IsTaken, IsNext, IsOpen}
use Rattle.jd_check.specs.declared.progress.Open.{Open}
use Rattle.jd_check.proofs.Taking.{uncovered-push, places-push, after-push, bad-push, open-push, book-push, asks-none, uncovered-whole, places-whole, after-whole, over-no-fork}

book-length : {X : Type 0} {F : X → Type 0} {M : _} (p : Problem) (nodes : List Node) (run : Progress X F M) → IsTaken p nodes run → length run.book ≡ length (places_along (Some []) nodes)
book-length p nodes run h =
    sym (length-map run.book (λ l. l.path)) ∙ ap length h.leaves.paths ∙ length-map (places_along (Some []) nodes) (λ place. place.path)

-- where the walk stands
here : {X : Type 0} {F : X → Type 0} {M : _} (p : Problem) (nodes : List Node) (run : Progress X F M) → run.whole ≡ false → IsTaken p nodes run → after_nodes (Some []) nodes ≡ Some run.walk.path
here p nodes run open_yet h = h.next ∙ ap (λ b. elim b as (λ _. Option (List Bool)) [ true ↦ None | false ↦ Some run.walk.path ]) open_yet

pub fork-taken : {X : Type 0} {F : X → Type 0} {M : _} (p : Problem) (nodes : List Node) (old new : Progress X F M) → old.whole ≡ false → IsTaken p nodes old → AsksAfter p old.walk.path
    → new.walk.problem ≡ old.walk.problem → new.walk.spent ≡ false → new.walk.path ≡ with_answer old.walk.path false → new.whole ≡ old.whole
    → new.book ≡ old.book → new.bad ≡ old.bad → new.unrefuted ≡ old.unrefuted → IsTaken p (nodes ++ Fork ∷ []) new
fork-taken p nodes old new open_yet h asks problem spent path whole book bad open_first =
    let at = here p nodes old open_yet h in
    let same : places_along (Some []) (nodes ++ Fork ∷ []) ≡ places_along (Some []) nodes = places-push (Some []) nodes Fork old.walk.path at ∙ append-nil (places_along (Some []) nodes) in
    record {
      problem = problem ∙ h.problem;
      unspent = spent;
      covered = uncovered-push p (Some []) nodes Fork old.walk.path at ∙ ap (λ o. or_first o (fork_fault p old.walk.path)) h.covered ∙ asks-none p old.walk.path asks;
      next = after-push (Some []) nodes Fork old.walk.path at ∙ ap Some (sym path) ∙ ap (λ b. elim b as (λ _. Option (List Bool)) [ true ↦ None | false ↦ Some new.walk.path ]) (sym (whole ∙ open_yet));
      leaves = subst (λ ps. IsBookOf p ps new.book) (sym same) (subst (λ b. IsBookOf p (places_along (Some []) nodes) b) (sym book) h.leaves);
      bad = ap (first_bad new.book) same ∙ ap (λ b. first_bad b (places_along (Some []) nodes)) book ∙ h.bad ∙ ap bad_of (sym bad);
      open_first = ap (first_open new.book) same ∙ ap (λ b. first_open b (places_along (Some []) nodes)) book ∙ h.open_first ∙ ap path_of (sym open_first);
    }

-- a leaf or a cut
pub node-place : (path : List Bool) (kind : Kind) (log : List Line) → place_at path (node kind log) ≡ record { path = path; kind = kind; log = log } ∷ []
node-place path Whole log = refl
node-place path Cut log = refl

pub node-after : (path : List Bool) (kind : Kind) (log : List Line) → after_node path (node kind log) ≡ next_path path
node-after path Whole log = refl
node-after path Cut log = refl

pub node-fault : (p : Problem) (path : List Bool) (kind : Kind) (log : List Line) → node_fault p path (node kind log) ≡ leaf_fault p path kind
node-fault p path Whole log = refl
node-fault p path Cut log = refl

pub leaf-taken : {X : Type 0} {F : X → Type 0} {M : _} (p : Problem) (nodes : List Node) (kind : Kind) (log : List Line) (old new : Progress X F M) (leaf : Leaf) (end : LogEnd) → old.whole ≡ false → IsTaken p nodes old
    → leaf_fault p old.walk.path kind ≡ None → leaf.path ≡ old.walk.path → leaf.kind ≡ kind → IsFaithful p (leaf_of leaf) → log_end (leaf_of leaf) log ≡ end
    → new.walk.problem ≡ old.walk.problem → new.walk.spent ≡ false → next_of new ≡ next_path old.walk.path
    → new.book ≡ old.book ++ leaf_of leaf ∷ []
    → bad_of new.bad ≡ or_first (bad_of old.bad) (or_bad leaf.path end None)
    → path_of new.unrefuted ≡ or_first (path_of old.unrefuted) (or_open leaf.path end None)
    → IsTaken p (nodes ++ node kind log ∷ []) new
leaf-taken p nodes kind log old new leaf end open_yet h right path kind_is faithful ends problem spent next book bad open_first =
    let at = here p nodes old open_yet h in
    let ps = places_along (Some []) nodes in
    let q : Place = record { path = old.walk.path; kind = kind; log = log } in
    let more : places_along (Some []) (nodes ++ node kind log ∷ []) ≡ ps ++ q ∷ [] = places-push (Some []) nodes (node kind log) old.walk.path at ∙ ap (λ r. ps ++ r) (node-place old.walk.path kind log) in
    record {
      problem = problem ∙ h.problem;
      unspent = spent;
      covered = uncovered-push p (Some []) nodes (node kind log) old.walk.path at ∙ ap (λ o. or_first o (node_fault p old.walk.path (node kind log))) h.covered ∙ node-fault p old.walk.path kind log ∙ right;
      next = after-push (Some []) nodes (node kind log) old.walk.path at ∙ node-after old.walk.path kind log ∙ sym next;
      leaves = subst (λ r. IsBookOf p r new.book) (sym more)
          (subst (IsBookOf p (ps ++ q ∷ [])) (sym book) (book-push p (agree p) ps q old.book (leaf_of leaf) h.leaves path kind_is faithful));
      bad = ap (first_bad new.book) more ∙ ap (λ b. first_bad b (ps ++ q ∷ [])) book
          ∙ bad-push old.book ps (leaf_of leaf) q (book-length p nodes old h)
          ∙ ap (λ o. or_first o (or_bad old.walk.path (log_end (leaf_of leaf) log) None)) h.bad
          ∙ ap (λ e. or_first (bad_of old.bad) (or_bad old.walk.path e None)) ends
          ∙ ap (λ r. or_first (bad_of old.bad) (or_bad r end None)) (sym path) ∙ sym bad;
      open_first = ap (first_open new.book) more ∙ ap (λ b. first_open b (ps ++ q ∷ [])) book
          ∙ open-push old.book ps (leaf_of leaf) q (book-length p nodes old h)
          ∙ ap (λ o. or_first o (or_open old.walk.path (log_end (leaf_of leaf) log) None)) h.open_first
          ∙ ap (λ e. or_first (path_of old.unrefuted) (or_open old.walk.path e None)) ends
          ∙ ap (λ r. or_first (path_of old.unrefuted) (or_open r end None)) (sym path) ∙ sym open_first;
    }

-- a node after a whole tree
pub whole-taken : {X : Type 0} {F : X → Type 0} {M : _} (p : Problem) (nodes : List Node) (n : Node) (run : Progress X F M) → run.whole ≡ true → IsTaken p nodes run → IsTaken p (nodes ++ n ∷ []) run
whole-taken p nodes n run whole h =
    let none : after_nodes (Some []) nodes ≡ None = h.next ∙ ap (λ b. elim b as (λ _. Option (List Bool)) [ true ↦ None | false ↦ Some run.walk.path ]) whole in
    let same = places-whole (Some []) nodes n none in
    record {
      problem = h.problem;
      unspent = h.unspent;
      covered = uncovered-whole p (Some []) nodes n none ∙ h.covered;
      next = after-whole (Some []) nodes n none ∙ sym none ∙ h.next;
      leaves = subst (λ ps. IsBookOf p ps run.book) (sym same) h.leaves;
      bad = ap (first_bad run.book) same ∙ h.bad;
      open_first = ap (first_open run.book) same ∙ h.open_first;
    }

-- all nodes of a tree
pub tree-covered : {X : Type 0} {F : X → Type 0} {M : _} (p : Problem) (tree : Tree) (run : Progress X F M) → IsTaken p (preorder tree) run → IsCovered p tree run.book
tree-covered p tree run h = record {
  covers = sym (uncovered-tree p tree) ∙ h.covered;
  leaves = subst (λ ps. IsBookOf p ps run.book) (places-tree tree) h.leaves;
}

pub tree-bad : {X : Type 0} {F : X → Type 0} {M : _} (p : Problem) (tree : Tree) (run : Progress X F M) → IsTaken p (preorder tree) run → first_bad run.book (places tree) ≡ bad_of run.bad
tree-bad p tree run h = ap (first_bad run.book) (sym (places-tree tree)) ∙ h.bad

pub tree-open : {X : Type 0} {F : X → Type 0} {M : _} (p : Problem) (tree : Tree) (run : Progress X F M) → IsTaken p (preorder tree) run → first_open run.book (places tree) ≡ path_of run.unrefuted
tree-open p tree run h = ap (first_open run.book) (sym (places-tree tree)) ∙ h.open_first

-- ---- a node that may not stand

pub fork-wrong : {X : Type 0} {F : X → Type 0} {M : _} (p : Problem) (nodes : List Node) (old : Progress X F M) → old.whole ≡ false → IsTaken p nodes old → OverAfter p old.walk.path
    → uncovered_along p (Some []) (nodes ++ Fork ∷ []) ≡ Some old.walk.path
fork-wrong p nodes old open_yet h over =
    uncovered-push p (Some []) nodes Fork old.walk.path (here p nodes old open_yet h) ∙ ap (λ o. or_first o (fork_fault p old.walk.path)) h.covered ∙ over-no-fork p old.walk.path over

pub leaf-wrong : {X : Type 0} {F : X → Type 0} {M : _} (p : Problem) (nodes : List Node) (kind : Kind) (log : List Line) (old : Progress X F M) → old.whole ≡ false → IsTaken p nodes old → leaf_fault p old.walk.path kind ≡ Some old.walk.path
    → uncovered_along p (Some []) (nodes ++ node kind log ∷ []) ≡ Some old.walk.path
leaf-wrong p nodes kind log old open_yet h wrong =
    uncovered-push p (Some []) nodes (node kind log) old.walk.path (here p nodes old open_yet h) ∙ ap (λ o. or_first o (node_fault p old.walk.path (node kind log))) h.covered
    ∙ node-fault p old.walk.path kind log ∙ wrong

pub wrong-next : {X : Type 0} {F : X → Type 0} {M : _} (p : Problem) (nodes : List Node) (n : Node) (run : Progress X F M) (shape : Path) (path : List Bool) → uncovered_along p (Some []) (nodes ++ n ∷ []) ≡ Some path → shape ≡ path
    → IsNext p nodes n run (Some shape)
wrong-next p nodes n run shape path h same = record {
  taken = λ e. cc;
  fault = λ q e. let one : shape ≡ q = cc in h ∙ ap Some (sym same ∙ one);
}

-- ---- a node that may stand

pub right-next : {X : Type 0} {F : X → Type 0} {M : _} (p : Problem) (nodes : List Node) (n : Node) (run : Progress X F M) → IsTaken p (nodes ++ n ∷ []) run → IsNext p nodes n run None
right-next p nodes n run h = record { taken = λ e. h; fault = λ q e. cc }

pub fork-next : {X : Type 0} {F : X → Type 0} {M : _} (p : Problem) (nodes : List Node) (old new : Progress X F M) (w : Walked) → old.whole ≡ false → IsTaken p nodes old → AsksAfter w.problem w.path
    → w.problem ≡ old.walk.problem → w.path ≡ old.walk.path → w.spent ≡ false → new.walk ≡ answered w false
    → new.whole ≡ old.whole → new.book ≡ old.book → new.bad ≡ old.bad → new.unrefuted ≡ old.unrefuted → IsNext p nodes Fork new None
fork-next p nodes old new w open_yet h asks problem path spent walk whole book bad open_first =
    right-next p nodes Fork new
    (fork-taken p nodes old new open_yet h (subst (λ q. AsksAfter q old.walk.path) (problem ∙ h.problem) (subst (AsksAfter w.problem) path asks))
    (ap (λ (k : Walked). k.problem) walk ∙ problem) (ap (λ (k : Walked). k.spent) walk ∙ spent)
    (ap (λ (k : Walked). k.path) walk ∙ ap (λ r. r ++ false ∷ []) path) whole book bad open_first)

-- the place after going back
pub record IsBack (old new : Walked) : Type 0 where
  pub problem : new.problem ≡ old.problem
  pub spent : new.spent ≡ old.spent
  pub next : (elim (not (is_some (next_path old.path))) as (λ _. Option (List Bool)) [ true ↦ None | false ↦ Some new.path ]) ≡ next_path old.path

is-back : (old : Walked) → IsBack old (back_from old)
is-back old = by_next (next_path old.path) refl
  where
    by_next : (o : Option (List Bool)) → next_path old.path ≡ o → IsBack old (elim o as (λ _. Walked) [
      | Some path ↦ back_at old path
      | None ↦ old
    ])
    by_next None e = record { problem = refl; spent = refl; next = ap (λ o. elim (not (is_some o)) as (λ _. Option (List Bool)) [ true ↦ None | false ↦ Some old.path ]) e ∙ sym e }
    by_next (Some path) e = record { problem = refl; spent = refl; next = ap (λ o. elim (not (is_some o)) as (λ _. Option (List Bool)) [ true ↦ None | false ↦ Some path ]) e ∙ sym e }

-- ---- a leaf or a cut that is open

pub taken-same : {X : Type 0} {F : X → Type 0} {M : _} (p : Problem) (nodes : List Node) (old new : Progress X F M) → IsTaken p nodes old → new.walk.problem ≡ old.walk.problem → new.walk.path ≡ old.walk.path → new.walk.spent ≡ false
    → new.whole ≡ old.whole → new.book ≡ old.book → new.bad ≡ old.bad → new.unrefuted ≡ old.unrefuted → IsTaken p nodes new
taken-same p nodes old new h problem path spent whole book bad open_first = record {
  problem = problem ∙ h.problem;
  unspent = spent;
  covered = h.covered;
  next = h.next ∙ ap (λ b. elim b as (λ _. Option (List Bool)) [ true ↦ None | false ↦ Some old.walk.path ]) (sym whole)
      ∙ ap (λ r. elim new.whole as (λ _. Option (List Bool)) [ true ↦ None | false ↦ Some r ]) (sym path);
  leaves = subst (λ b. IsBookOf p (places_along (Some []) nodes) b) (sym book) h.leaves;
  bad = ap (λ b. first_bad b (places_along (Some []) nodes)) book ∙ h.bad ∙ ap bad_of (sym bad);
  open_first = ap (λ b. first_open b (places_along (Some []) nodes)) book ∙ h.open_first ∙ ap path_of (sym open_first);
}

pub opened : {X : Type 0} {F : X → Type 0} {M : _} (p : Problem) (nodes : List Node) (kind : Kind) (old new : Progress X F M) (o : Open) → old.whole ≡ false → IsTaken p nodes old
    → new.walk.problem ≡ old.walk.problem → new.walk.path ≡ old.walk.path → new.walk.spent ≡ false
    → new.whole ≡ old.whole → new.book ≡ old.book → new.bad ≡ old.bad → new.unrefuted ≡ old.unrefuted
    → leaf_fault old.walk.problem old.walk.path kind ≡ None → IsLeafOf new.walk kind (leaf_of o.leaf)
    → ((rest : List Line) → log_end (leaf_of o.leaf) rest ≡ log_after o.check rest) → IsOpen p nodes kind [] new o
opened p nodes kind old new o going h problem path spent whole book bad open_first right is lines = record {
  taken = taken-same p nodes old new h problem path spent whole book bad open_first;
  going = whole ∙ going;
  right = subst (λ r. leaf_fault p r kind ≡ None) (sym path) (subst (λ q. leaf_fault q old.walk.path kind ≡ None) h.problem right);
  leaf = is;
  lines = lines;
}

pub ended : {X : Type 0} {F : X → Type 0} {M : _} (p : Problem) (nodes : List Node) (kind : Kind) (log : List Line) (old new : Progress X F M) (o : Open) → IsOpen p nodes kind log old o
    → new.walk ≡ back_from old.walk → new.whole ≡ not (is_some (next_path old.walk.path)) → new.book ≡ old.book ++ leaf_of o.leaf ∷ []
    → bad_of new.bad ≡ or_first (bad_of old.bad) (or_bad o.leaf.path (log_after o.check []) None)
    → path_of new.unrefuted ≡ or_first (path_of old.unrefuted) (or_open o.leaf.path (log_after o.check []) None)
    → IsTaken p (nodes ++ node kind log ∷ []) new
ended p nodes kind log old new o h walk whole book bad open_first =
    let back : IsBack old.walk new.walk = subst (IsBack old.walk) (sym walk) (is-back old.walk) in
    leaf-taken p nodes kind log old new o.leaf (log_after o.check []) h.going h.taken h.right h.leaf.path h.leaf.kind_is
    (subst (λ q. IsFaithful q (leaf_of o.leaf)) h.taken.problem h.leaf.faithful)
    (ap (log_end (leaf_of o.leaf)) (sym (append-nil log)) ∙ h.lines []) back.problem (back.spent ∙ h.taken.unspent)
    (ap (λ b. elim b as (λ _. Option (List Bool)) [ true ↦ None | false ↦ Some new.walk.path ]) whole ∙ back.next) book bad open_first
