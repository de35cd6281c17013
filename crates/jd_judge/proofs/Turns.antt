-- A node more of the judge's tree, and a start more.
use Rattle.std.proofs.Common.{◌≡◌, ◌≢◌, suc, Bool, true, false, List, [], ◌∷◌, ◌++◌, length, map, get_or, Option, Some, None, refl, sym, ap, ◌∙◌, subst, arith, append-nil}
use Rattle.std.specs.Prelude.{All, AllPairs, is_some}
use Rattle.std.proofs.lemmas.Bool.{false≢true}
use Rattle.std.proofs.lemmas.List.{length-map, get_or-map, map-append}
use Rattle.std.proofs.lemmas.List.Elements.{All-push}
use Rattle.std.proofs.lemmas.List.Quantifiers.{all_pairs_push}
use Rattle.std.proofs.lemmas.Grind.{flat_map-append}
use Rattle.jd_logic.specs.declared.Line.{Line}
use Rattle.jd_model.specs.Problems.{Problem, allows}
use Rattle.jd_trees.specs.declared.Kind.{Kind}
use Rattle.jd_trees.specs.declared.Kind.TheVariants.{Whole, Cut}
use Rattle.jd_books.specs.Paths.{AsksAfter, next_path, answers_of_start}
use Rattle.jd_trees.specs.declared.Node.{Node}
use Rattle.jd_trees.specs.declared.Node.TheVariants.{Fork}
use Rattle.jd_trees.specs.Trees.{Tree, node, preorder}
use Rattle.jd_trees.specs.Trees as tree
use Rattle.jd_books.specs.Trees.{Place, places, or_first, fork_fault, leaf_fault}
use Rattle.jd_books.specs.Nodes.{after_nodes, node_fault, places_along, uncovered_along}
use Rattle.jd_books.specs.Climbs.{Climb, path_of, nodes_of, IsClosed, is_left_of}
use Rattle.jd_books.specs.Leaves.{Leaf as LeafOf, Claim, IsFaithfulTo, IsBookTo}
use Rattle.jd_books.specs.Checks.{right_lines, log_end, or_bad, or_open, first_bad, first_open, IsProvedTo}
use Rattle.jd_books.specs.Outcomes.{AreTooMany}
use Rattle.jd_books.proofs.InOrder.{after_front, places-whole, uncovered-whole}
use Rattle.jd_books.proofs.Climbing.{closed, left-longer, left-next, left-apart}
use Rattle.jd_check.proofs.Taking.{uncovered-push, places-push, after-push, bad-push, open-push, book-push, asks-none}
use Rattle.jd_check.proofs.Progressing.{node-after, node-fault, node-place}
use Rattle.jd_walk.specs.Walked.{Walked, back_at, back_from}
use Rattle.hp_model.specs.State.{Data}
use Rattle.jd_judge.specs.Judging.{path_if_whole, whole_paths, IsTreeSoFar, AreStartsSoFar}

-- ---- the tree

-- some nodes and their book, of which the last is a leaf or a cut at a path
pub record IsGrown (p : Problem) (claim : Claim) (path : List Bool) (nodes : List Node) (book : List LeafOf) : Type 0 where
  pub closed_at : IsClosed nodes (next_path path)
  pub next : after_nodes (Some []) nodes ≡ next_path path
  pub tree_is : IsTreeSoFar p claim nodes book

book-length : (p : Problem) (claim : Claim) (ps : List Place) (book : List LeafOf) → IsBookTo p claim ps book → length book ≡ length ps
book-length p claim ps book h = sym (length-map book (λ l. l.path)) ∙ ap length h.paths ∙ length-map ps (λ place. place.path)

pub grown : (p : Problem) (claim : Claim) (path : List Bool) (nodes : List Node) (book : List LeafOf) (kind : Kind) (log : List Line) (l : LeafOf) (climb : Climb)
    → path_of climb ≡ path → nodes_of climb ≡ nodes → after_nodes (Some []) nodes ≡ Some path → IsTreeSoFar p claim nodes book
    → leaf_fault p path kind ≡ None → l.path ≡ path → l.kind ≡ kind → IsFaithfulTo p claim l → log_end l log ≡ right_lines true
    → IsGrown p claim path (nodes ++ node kind log ∷ []) (book ++ l ∷ [])
grown p claim path nodes book kind log l climb climb_path climb_nodes at h right path_is kind_is faithful ends =
    let ps = places_along (Some []) nodes in
    let q : Place = record { path = path; kind = kind; log = log } in
    let more : places_along (Some []) (nodes ++ node kind log ∷ []) ≡ ps ++ q ∷ [] = places-push (Some []) nodes (node kind log) path at ∙ ap (λ r. ps ++ r) (node-place path kind log) in
    let n : length book ≡ length ps = book-length p claim ps book h.leaves in
    record {
      closed_at = subst (λ ns. IsClosed (ns ++ node kind log ∷ []) (next_path path)) climb_nodes
          (subst (λ r. IsClosed (nodes_of climb ++ node kind log ∷ []) (next_path r)) climb_path (closed climb (tree.node_of kind log)));
      next = after-push (Some []) nodes (node kind log) path at ∙ node-after path kind log;
      tree_is = record {
        covered = uncovered-push p (Some []) nodes (node kind log) path at ∙ ap (λ o. or_first o (node_fault p path (node kind log))) h.covered ∙ node-fault p path kind log ∙ right;
        leaves = subst (λ r. IsBookTo p claim r (book ++ l ∷ [])) (sym more) (book-push p claim ps q book l h.leaves path_is kind_is faithful);
        right = ap (first_bad (book ++ l ∷ [])) more ∙ bad-push book ps l q n
            ∙ ap (λ o. or_first o (or_bad path (log_end l log) None)) h.right ∙ ap (λ e. or_bad path e None) ends;
        refuted = ap (first_open (book ++ l ∷ [])) more ∙ open-push book ps l q n
            ∙ ap (λ o. or_first o (or_open path (log_end l log) None)) h.refuted ∙ ap (λ e. or_open path e None) ends;
      };
    }

-- the tree is whole where there is no next path
pub whole-proved : (p : Problem) (claim : Claim) (path : List Bool) (nodes : List Node) (book : List LeafOf) → IsGrown p claim path nodes book → next_path path ≡ None
    → (t : Tree) × (preorder t ≡ nodes) × IsProvedTo p claim t book
whole-proved p claim path nodes book g none =
    let is : IsClosed nodes None = subst (IsClosed nodes) none g.closed_at in
    let t = is.0 in
    let e = is.1 in
    let same : places_along (Some []) nodes ≡ places t = ap (places_along (Some [])) (sym e) ∙ places-whole t in (
      t,
      e,
      record {
        covered = record {
          covers = sym (uncovered-whole p t) ∙ ap (uncovered_along p (Some [])) e ∙ g.tree_is.covered;
          leaves = subst (λ ps. IsBookTo p claim ps book) same g.tree_is.leaves;
        };
        right = ap (first_bad book) (sym same) ∙ g.tree_is.right;
        refuted = ap (first_open book) (sym same) ∙ g.tree_is.refuted;
      },
    )

-- else the next tree stands at the next path
pub next-climb : (p : Problem) (claim : Claim) (path next : List Bool) (nodes : List Node) (book : List LeafOf) → IsGrown p claim path nodes book → next_path path ≡ Some next
    → (climb : Climb) × (path_of climb ≡ next) × (nodes_of climb ≡ nodes)
next-climb p claim path next nodes book g some = subst (IsClosed nodes) some g.closed_at

-- a fork more
pub forked : (p : Problem) (claim : Claim) (path : List Bool) (nodes : List Node) (book : List LeafOf) → after_nodes (Some []) nodes ≡ Some path → IsTreeSoFar p claim nodes book → AsksAfter p path
    → IsTreeSoFar p claim (nodes ++ Fork ∷ []) book
forked p claim path nodes book at h asks =
    let same : places_along (Some []) (nodes ++ Fork ∷ []) ≡ places_along (Some []) nodes = places-push (Some []) nodes Fork path at ∙ append-nil (places_along (Some []) nodes) in
    record {
      covered = uncovered-push p (Some []) nodes Fork path at ∙ ap (λ o. or_first o (fork_fault p path)) h.covered ∙ asks-none p path asks;
      leaves = subst (λ ps. IsBookTo p claim ps book) (sym same) h.leaves;
      right = ap (first_bad book) same ∙ h.right;
      refuted = ap (first_open book) same ∙ h.refuted;
    }

-- ---- the starts

pub whole-push : (book : List LeafOf) (l : LeafOf) → whole_paths (book ++ l ∷ []) ≡ whole_paths book ++ path_if_whole l.kind l.path
whole-push book l =
    flat_map-append (λ (k : LeafOf). path_if_whole k.kind k.path) book (l ∷ []) ∙ ap (λ r. whole_paths book ++ r) (append-nil (path_if_whole l.kind l.path))

pub cut-push : (book : List LeafOf) (l : LeafOf) → l.kind ≡ Cut → whole_paths (book ++ l ∷ []) ≡ whole_paths book
cut-push book l is = whole-push book l ∙ ap (λ k. whole_paths book ++ path_if_whole k l.path) is ∙ append-nil (whole_paths book)

pub starts-cut : (p : Problem) (book : List LeafOf) (starts : List Data) (l : LeafOf) → AreStartsSoFar p book starts → l.kind ≡ Cut → AreStartsSoFar p (book ++ l ∷ []) starts
starts-cut p book starts l h is =
    let same = cut-push book l is in
    record {
      allowed = h.allowed;
      answers = h.answers ∙ sym same;
      ordered = subst (AllPairs (λ q r. is_left_of q r ≡ true)) (sym same) h.ordered;
    }

pub starts-whole : (p : Problem) (book : List LeafOf) (starts : List Data) (l : LeafOf) (s : Data) → AreStartsSoFar p book starts → l.kind ≡ Whole
    → allows p s ≡ true → answers_of_start p s ≡ l.path → All (λ q. is_left_of q l.path ≡ true) (whole_paths book)
    → AreStartsSoFar p (book ++ l ∷ []) (starts ++ s ∷ [])
starts-whole p book starts l s h is allowed own left =
    let same : whole_paths (book ++ l ∷ []) ≡ whole_paths book ++ l.path ∷ [] = whole-push book l ∙ ap (λ k. whole_paths book ++ path_if_whole k l.path) is in
    record {
      allowed = All-push (λ s. allows p s ≡ true) starts s h.allowed allowed;
      answers = map-append (answers_of_start p) starts (s ∷ []) ∙ ap (λ r. r ++ answers_of_start p s ∷ []) h.answers ∙ ap (λ r. whole_paths book ++ r ∷ []) own ∙ sym same;
      ordered = subst (AllPairs (λ q r. is_left_of q r ≡ true)) (sym same) (all_pairs_push (λ q r. is_left_of q r ≡ true) (whole_paths book) l.path h.ordered left);
    }

pub starts-length : (p : Problem) (book : List LeafOf) (starts : List Data) → AreStartsSoFar p book starts → length (whole_paths book) ≡ length starts
starts-length p book starts h = ap length (sym h.answers) ∙ length-map starts (answers_of_start p)

-- starts of whole leaves have their own answers
pub too-many : (p : Problem) (book : List LeafOf) (starts : List Data) → AreStartsSoFar p book starts → length starts ≡ suc p.paths → AreTooMany p starts
too-many p book starts h n = record {
  count = n;
  allowed = h.allowed;
  different = λ i j d below inside e.
      let answers = map (answers_of_start p) starts in
      let pairs : AllPairs (λ q r. is_left_of q r ≡ true) answers = subst (AllPairs (λ q r. is_left_of q r ≡ true)) (sym h.answers) h.ordered in
      let left : is_left_of (get_or answers i []) (get_or answers j []) ≡ true = pairs i j [] below (omega (arith, inside, length-map starts (answers_of_start p))) in
      let one : get_or answers i [] ≡ answers_of_start p (get_or starts i d) = get_or-map (answers_of_start p) starts i d [] (omega (arith, below, inside)) in
      let two : get_or answers j [] ≡ answers_of_start p (get_or starts j d) = get_or-map (answers_of_start p) starts j d [] inside in
      false≢true (sym (left-apart (answers_of_start p (get_or starts j d))) ∙ ap (λ q. is_left_of q (answers_of_start p (get_or starts j d))) (sym (one ∙ e)) ∙ ap (is_left_of (get_or answers i [])) (sym two) ∙ left);
}

-- ---- the walk

pub record IsBackTo (w k : Walked) : Type 0 where
  pub path : next_path w.path ≡ Some k.path
  pub problem : k.problem ≡ w.problem
  pub spent : k.spent ≡ w.spent

pub back-some : (w k : Walked) → k ≡ back_from w → is_some (next_path w.path) ≡ true → IsBackTo w k
back-some w k is h = by_next (next_path w.path) refl is h
  where
    by_next : (o : Option (List Bool)) → next_path w.path ≡ o → k ≡ elim o as (λ _. Walked) [ Some path ↦ back_at w path | None ↦ w ] → is_some o ≡ true
        → IsBackTo w k
    by_next None e is h = absurd (false≢true h)
    by_next (Some path) e is h = record {
      path = e ∙ ap Some (sym (ap (λ (v : Walked). v.path) is));
      problem = ap (λ (v : Walked). v.problem) is;
      spent = ap (λ (v : Walked). v.spent) is;
    }

pub back-none : (path : List Bool) → is_some (next_path path) ≡ false → next_path path ≡ None
back-none path h = by_next (next_path path) h
  where
    by_next : (o : Option (List Bool)) → is_some o ≡ false → o ≡ None
    by_next None h = refl
    by_next (Some q) h = absurd (false≢true (sym h))

-- the next path isn't empty
pub next-filled : (path next : List Bool) → next_path path ≡ Some next → next ≢ []
next-filled [] next h = cc
next-filled (b ∷ path) next h = by_next (next_path path) b h
  where
    by_next : (o : Option (List Bool)) (b : Bool) → after_front b o ≡ Some next → next ≢ []
    by_next None true h = cc
    by_next None false h = λ e. cc
    by_next (Some q) b h = λ e. cc

pub left-all : (path next : List Bool) (ps : List (List Bool)) → next_path path ≡ Some next → All (λ q. is_left_of q path ≡ true) ps → All (λ q. is_left_of q next ≡ true) ps
left-all path next ps some all k d inside = left-next (get_or ps k d) path next (all k d inside) some

pub longer-all : (path more : List Bool) (ps : List (List Bool)) → All (λ q. is_left_of q path ≡ true) ps → All (λ q. is_left_of q (path ++ more) ≡ true) ps
longer-all path more ps all k d inside = left-longer (get_or ps k d) path more (all k d inside)
