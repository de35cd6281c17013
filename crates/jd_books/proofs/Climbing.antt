-- A tree that is being built in preorder, and the order of paths.
use Rattle.std.proofs.Common.{◌≡◌, Bool, true, false, List, [], ◌∷◌, ◌++◌, Option, Some, None, refl, sym, ap, ◌∙◌, append_assoc, append-nil}
use Rattle.std.proofs.lemmas.Bool.{false≢true}
use Rattle.jd_books.specs.Paths.{next_path}
use Rattle.jd_trees.specs.Trees.{Tree, fork_of, preorder}
use Rattle.jd_trees.specs.declared.Node.{Node}
use Rattle.jd_trees.specs.declared.Node.TheVariants.{Fork}
use Rattle.jd_books.specs.Climbs.{Climb, path_of, nodes_of, IsClosed, is_left_of}
use Rattle.jd_books.proofs.InOrder.{after_front}

-- a fork more
pub climb-fork : (climb : Climb) → nodes_of (climb ++ None ∷ []) ≡ nodes_of climb ++ Fork ∷ []
climb-fork [] = refl
climb-fork (None ∷ climb) = ap {B = List Node} (λ r. Fork ∷ r) (climb-fork climb)
climb-fork (Some t ∷ climb) = ap (λ r. Fork ∷ (preorder t ++ r)) (climb-fork climb) ∙ ap {B = List Node} (λ r. Fork ∷ r) (sym (append_assoc (preorder t) (nodes_of climb) (Fork ∷ [])))

pub climb-path : (climb : Climb) → path_of (climb ++ None ∷ []) ≡ path_of climb ++ false ∷ []
climb-path [] = refl
climb-path (None ∷ climb) = ap {B = List Bool} (λ r. false ∷ r) (climb-path climb)
climb-path (Some t ∷ climb) = ap {B = List Bool} (λ r. true ∷ r) (climb-path climb)

-- a whole tree more
pub closed : (climb : Climb) (t : Tree) → IsClosed (nodes_of climb ++ preorder t) (next_path (path_of climb))
closed [] t = (t, refl)
closed (None ∷ climb) t = by_next (next_path (path_of climb)) (closed climb t)
  where
    by_next : (o : Option (List Bool)) → IsClosed (nodes_of climb ++ preorder t) o → IsClosed (Fork ∷ (nodes_of climb ++ preorder t)) (after_front false o)
    by_next None h = (Some h.0 ∷ [], refl, ap {B = List Node} (λ r. Fork ∷ r) (append-nil (preorder h.0) ∙ h.1))
    by_next (Some path) h = (None ∷ h.0, ap {B = List Bool} (λ r. false ∷ r) h.1, ap {B = List Node} (λ r. Fork ∷ r) h.2)
closed (Some v ∷ climb) t = by_next (next_path (path_of climb)) (closed climb t)
  where
    grouped : Fork ∷ (preorder v ++ (nodes_of climb ++ preorder t)) ≡ (Fork ∷ (preorder v ++ nodes_of climb)) ++ preorder t
    grouped = ap {B = List Node} (λ r. Fork ∷ r) (sym (append_assoc (preorder v) (nodes_of climb) (preorder t)))

    by_next : (o : Option (List Bool)) → IsClosed (nodes_of climb ++ preorder t) o → IsClosed ((Fork ∷ (preorder v ++ nodes_of climb)) ++ preorder t) (after_front true o)
    by_next None h = (fork_of v h.0, ap (λ r. Fork ∷ (preorder v ++ r)) h.1 ∙ grouped)
    by_next (Some path) h = (Some v ∷ h.0, ap {B = List Bool} (λ r. true ∷ r) h.1, ap (λ r. Fork ∷ (preorder v ++ r)) h.2 ∙ grouped)

-- ---- the order of paths

pub left-longer : (q path more : List Bool) → is_left_of q path ≡ true → is_left_of q (path ++ more) ≡ true
left-longer [] path more h = absurd (false≢true h)
left-longer (b ∷ q) [] more h = absurd (false≢true h)
left-longer (true ∷ q) (true ∷ path) more h = left-longer q path more h
left-longer (false ∷ q) (false ∷ path) more h = left-longer q path more h
left-longer (true ∷ q) (false ∷ path) more h = h
left-longer (false ∷ q) (true ∷ path) more h = h

-- what stands left of a path, or at it, stands left of the next one
pub left-next : (q path next : List Bool) → is_left_of q path ≡ true → next_path path ≡ Some next → is_left_of q next ≡ true
left-next [] path next h n = absurd (false≢true h)
left-next (b ∷ q) [] next h n = absurd (false≢true h)
left-next (b ∷ q) (c ∷ path) next h n = by_rest (next_path path) refl n (λ rest e l. left-next q path rest l e)
  where
    by_both : (b c : Bool) (rest : List Bool) → is_left_of (b ∷ q) (c ∷ path) ≡ true → (is_left_of q path ≡ true → is_left_of q rest ≡ true) → is_left_of (b ∷ q) (c ∷ rest) ≡ true
    by_both true true rest h more = more h
    by_both false false rest h more = more h
    by_both true false rest h more = h
    by_both false true rest h more = h

    by_last : (b c : Bool) → is_left_of (b ∷ q) (c ∷ path) ≡ true → after_front c None ≡ Some next → is_left_of (b ∷ q) next ≡ true
    by_last true true h n = cc
    by_last false true h n = cc
    by_last true false h n = absurd (false≢true h)
    by_last false false h n = let e : next ≡ true ∷ [] = cc in rw e refl

    by_rest : (o : Option (List Bool)) → next_path path ≡ o → after_front c o ≡ Some next → ((rest : List Bool) → next_path path ≡ Some rest → is_left_of q path ≡ true → is_left_of q rest ≡ true) → is_left_of (b ∷ q) next ≡ true
    by_rest None e n more = by_last b c h n
    by_rest (Some rest) e n more = let is : next ≡ c ∷ rest = cc in rw is (by_both b c rest h (more rest e))

pub path-left : (path next : List Bool) → next_path path ≡ Some next → is_left_of path next ≡ true
path-left [] next n = cc
path-left (c ∷ path) next n = by_rest (next_path path) refl n (λ rest e. path-left path rest e)
  where
    by_same : (c : Bool) (rest : List Bool) → is_left_of path rest ≡ true → is_left_of (c ∷ path) (c ∷ rest) ≡ true
    by_same true rest h = h
    by_same false rest h = h

    by_last : (c : Bool) → after_front c None ≡ Some next → is_left_of (c ∷ path) next ≡ true
    by_last true n = cc
    by_last false n = let e : next ≡ true ∷ [] = cc in rw e refl

    by_rest : (o : Option (List Bool)) → next_path path ≡ o → after_front c o ≡ Some next → ((rest : List Bool) → next_path path ≡ Some rest → is_left_of path rest ≡ true) → is_left_of (c ∷ path) next ≡ true
    by_rest None e n more = by_last c n
    by_rest (Some rest) e n more = let is : next ≡ c ∷ rest = cc in rw is (by_same c rest (more rest e))

-- no path stands left of itself
pub left-apart : (q : List Bool) → is_left_of q q ≡ false
left-apart [] = refl
left-apart (true ∷ q) = left-apart q
left-apart (false ∷ q) = left-apart q
