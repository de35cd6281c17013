-- One node more.
use Rattle.std.proofs.Common.{◌≡◌, Bool, true, false, List, [], ◌∷◌, ◌++◌, length, map, Option, Some, None, refl, sym, ap, ◌∙◌, subst, arith, append_assoc, append-nil}
use Rattle.std.proofs.lemmas.List.{map-append}
use Rattle.std.proofs.lemmas.List.Elements.{All-push}
use Rattle.jd_model.specs.Problems.{Problem}
use Rattle.jd_trees.specs.declared.Kind.TheVariants.{Whole}
use Rattle.jd_books.specs.Paths.{AsksAfter, OverAfter}
use Rattle.jd_trees.specs.declared.Node.{Node}
use Rattle.jd_books.specs.Trees.{Place, or_first, wrong_unless, is_asking, is_over, fork_fault, leaf_fault}
use Rattle.jd_books.specs.Nodes.{after_node, node_fault, place_at, after_nodes, places_along, uncovered_along}
use Rattle.jd_books.specs.Leaves.{Leaf, Claim, IsFaithfulTo, IsBookTo}
use Rattle.jd_books.specs.Checks.{LogEnd, bad_at, right_lines, log_end, BadAt, or_bad, first_bad, or_open, first_open}

or-first-assoc : {A : Type 0} (a b c : Option A) → or_first (or_first a b) c ≡ or_first a (or_first b c)
or-first-assoc None b c = refl
or-first-assoc (Some a) b c = refl

or-none : {A : Type 0} (a : Option A) → or_first a None ≡ a
or-none None = refl
or-none (Some a) = refl

uncovered-nil : (p : Problem) (at : Option (List Bool)) → uncovered_along p at [] ≡ None
uncovered-nil p None = refl
uncovered-nil p (Some path) = refl

places-nil : (at : Option (List Bool)) → places_along at [] ≡ []
places-nil None = refl
places-nil (Some path) = refl

after-nil : (at : Option (List Bool)) → after_nodes at [] ≡ at
after-nil None = refl
after-nil (Some path) = refl

pub uncovered-push : (p : Problem) (at : Option (List Bool)) (nodes : List Node) (n : Node) (path : List Bool) → after_nodes at nodes ≡ Some path
    → uncovered_along p at (nodes ++ n ∷ []) ≡ or_first (uncovered_along p at nodes) (node_fault p path n)
uncovered-push p at [] n path h =
    subst (λ a. uncovered_along p a (n ∷ []) ≡ or_first (uncovered_along p a []) (node_fault p path n)) (sym h ∙ after-nil at)
    (ap (or_first (node_fault p path n)) (uncovered-nil p (after_node path n)) ∙ or-none (node_fault p path n))
uncovered-push p None (m ∷ ms) n path h = cc
uncovered-push p (Some q) (m ∷ ms) n path h =
    ap (or_first (node_fault p q m)) (uncovered-push p (after_node q m) ms n path h) ∙ sym (or-first-assoc (node_fault p q m) (uncovered_along p (after_node q m) ms) (node_fault p path n))

pub places-push : (at : Option (List Bool)) (nodes : List Node) (n : Node) (path : List Bool) → after_nodes at nodes ≡ Some path
    → places_along at (nodes ++ n ∷ []) ≡ places_along at nodes ++ place_at path n
places-push at [] n path h =
    subst (λ a. places_along a (n ∷ []) ≡ places_along a [] ++ place_at path n) (sym h ∙ after-nil at)
    (ap (λ r. place_at path n ++ r) (places-nil (after_node path n)) ∙ append-nil (place_at path n))
places-push None (m ∷ ms) n path h = cc
places-push (Some q) (m ∷ ms) n path h =
    ap (λ r. place_at q m ++ r) (places-push (after_node q m) ms n path h) ∙ sym (append_assoc (place_at q m) (places_along (after_node q m) ms) (place_at path n))

pub after-push : (at : Option (List Bool)) (nodes : List Node) (n : Node) (path : List Bool) → after_nodes at nodes ≡ Some path → after_nodes at (nodes ++ n ∷ []) ≡ after_node path n
after-push at [] n path h = subst (λ a. after_nodes a (n ∷ []) ≡ after_node path n) (sym h ∙ after-nil at) (after-nil (after_node path n))
after-push None (m ∷ ms) n path h = cc
after-push (Some q) (m ∷ ms) n path h = after-push (after_node q m) ms n path h

-- ---- a leaf more

or-bad-first : (path : List Bool) (end : LogEnd) (a : Option BadAt) (b : Option BadAt) → or_bad path end (or_first a b) ≡ or_first (or_bad path end a) b
or-bad-first path (bad_at n cause) a b = refl
or-bad-first path (right_lines refuted) a b = refl

or-open-first : (path : List Bool) (end : LogEnd) (a b : Option (List Bool)) → or_open path end (or_first a b) ≡ or_first (or_open path end a) b
or-open-first path (bad_at n cause) a b = refl
or-open-first path (right_lines true) a b = refl
or-open-first path (right_lines false) a b = refl

pub bad-push : (book : List Leaf) (ps : List Place) (l : Leaf) (q : Place) → length book ≡ length ps
    → first_bad (book ++ l ∷ []) (ps ++ q ∷ []) ≡ or_first (first_bad book ps) (or_bad q.path (log_end l q.log) None)
bad-push [] [] l q n = refl
bad-push [] (x ∷ ps) l q n = absurd (omega (arith, n))
bad-push (k ∷ book) [] l q n = absurd (omega (arith, n))
bad-push (k ∷ book) (x ∷ ps) l q n =
    ap (or_bad x.path (log_end k x.log)) (bad-push book ps l q (omega (arith, n)))
    ∙ or-bad-first x.path (log_end k x.log) (first_bad book ps) (or_bad q.path (log_end l q.log) None)

pub open-push : (book : List Leaf) (ps : List Place) (l : Leaf) (q : Place) → length book ≡ length ps
    → first_open (book ++ l ∷ []) (ps ++ q ∷ []) ≡ or_first (first_open book ps) (or_open q.path (log_end l q.log) None)
open-push [] [] l q n = refl
open-push [] (x ∷ ps) l q n = absurd (omega (arith, n))
open-push (k ∷ book) [] l q n = absurd (omega (arith, n))
open-push (k ∷ book) (x ∷ ps) l q n =
    ap (or_open x.path (log_end k x.log)) (open-push book ps l q (omega (arith, n)))
    ∙ or-open-first x.path (log_end k x.log) (first_open book ps) (or_open q.path (log_end l q.log) None)

pub book-push : (p : Problem) (claim : Claim) (ps : List Place) (q : Place) (book : List Leaf) (l : Leaf) → IsBookTo p claim ps book → l.path ≡ q.path → l.kind ≡ q.kind → IsFaithfulTo p claim l
    → IsBookTo p claim (ps ++ q ∷ []) (book ++ l ∷ [])
book-push p claim ps q book l b path kind faithful = record {
  paths = map-append (λ l. l.path) book (l ∷ []) ∙ ap (λ r. r ++ l.path ∷ []) b.paths ∙ ap (λ x. map (λ place. place.path) ps ++ x ∷ []) path ∙ sym (map-append (λ place. place.path) ps (q ∷ []));
  kinds = map-append (λ l. l.kind) book (l ∷ []) ∙ ap (λ r. r ++ l.kind ∷ []) b.kinds ∙ ap (λ x. map (λ place. place.kind) ps ++ x ∷ []) kind ∙ sym (map-append (λ place. place.kind) ps (q ∷ []));
  faithful = All-push (IsFaithfulTo p claim) book l b.faithful faithful;
}

-- ---- whether a node may stand

pub asks-none : (p : Problem) (path : List Bool) → AsksAfter p path → fork_fault p path ≡ None
asks-none p path h = ap (λ r. wrong_unless (is_asking r) path) h

pub over-none : (p : Problem) (path : List Bool) → OverAfter p path → leaf_fault p path Whole ≡ None
over-none p path h = ap (λ r. wrong_unless (is_over r) path) h.1

pub over-no-fork : (p : Problem) (path : List Bool) → OverAfter p path → fork_fault p path ≡ Some path
over-no-fork p path h = ap (λ r. wrong_unless (is_asking r) path) h.1

pub asks-no-leaf : (p : Problem) (path : List Bool) → AsksAfter p path → leaf_fault p path Whole ≡ Some path
asks-no-leaf p path h = ap (λ r. wrong_unless (is_over r) path) h

-- ---- nodes after a whole tree, which none is

pub uncovered-whole : (p : Problem) (at : Option (List Bool)) (nodes : List Node) (n : Node) → after_nodes at nodes ≡ None → uncovered_along p at (nodes ++ n ∷ []) ≡ uncovered_along p at nodes
uncovered-whole p at [] n h = subst (λ a. uncovered_along p a (n ∷ []) ≡ uncovered_along p a []) (sym h ∙ after-nil at) refl
uncovered-whole p None (m ∷ ms) n h = refl
uncovered-whole p (Some q) (m ∷ ms) n h = ap (or_first (node_fault p q m)) (uncovered-whole p (after_node q m) ms n h)

pub places-whole : (at : Option (List Bool)) (nodes : List Node) (n : Node) → after_nodes at nodes ≡ None → places_along at (nodes ++ n ∷ []) ≡ places_along at nodes
places-whole at [] n h = subst (λ a. places_along a (n ∷ []) ≡ places_along a []) (sym h ∙ after-nil at) refl
places-whole None (m ∷ ms) n h = refl
places-whole (Some q) (m ∷ ms) n h = ap (λ r. place_at q m ++ r) (places-whole (after_node q m) ms n h)

pub after-whole : (at : Option (List Bool)) (nodes : List Node) (n : Node) → after_nodes at nodes ≡ None → after_nodes at (nodes ++ n ∷ []) ≡ None
after-whole at [] n h = subst (λ a. after_nodes a (n ∷ []) ≡ None) (sym h ∙ after-nil at) refl
after-whole None (m ∷ ms) n h = refl
after-whole (Some q) (m ∷ ms) n h = after-whole (after_node q m) ms n h

-- the first path at which some nodes don't cover is that of more nodes

first-stays : {A : Type 0} (a b c : Option A) (x : A) → (b ≡ Some x → c ≡ Some x) → or_first a b ≡ Some x → or_first a c ≡ Some x
first-stays None b c x more h = more h
first-stays (Some a) b c x more h = h

pub uncovered-prefix : (p : Problem) (at : Option (List Bool)) (nodes rest : List Node) (path : List Bool) → uncovered_along p at nodes ≡ Some path → uncovered_along p at (nodes ++ rest) ≡ Some path
uncovered-prefix p None [] rest path h = cc
uncovered-prefix p (Some q) [] rest path h = cc
uncovered-prefix p None (m ∷ ms) rest path h = cc
uncovered-prefix p (Some q) (m ∷ ms) rest path h =
    first-stays (node_fault p q m) (uncovered_along p (after_node q m) ms) (uncovered_along p (after_node q m) (ms ++ rest)) path
    (uncovered-prefix p (after_node q m) ms rest path) h
