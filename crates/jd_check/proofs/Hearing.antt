-- The events of a whole certificate, heard one after another.
use Rattle.std.proofs.Common.{◌≡◌, ℕ, suc, ◌+◌, ◌^◌, ◌<◌, ◌≤◌, List, [], ◌∷◌, ◌++◌, length, map, take, drop, get_or, refl, sym, ap, ◌∙◌, subst, arith, append_assoc, append-nil}
use Rattle.std.proofs.lemmas.List.{length-take-le, map-append, take-append-drop, take_more}
use Rattle.jd_logic.specs.declared.Line.{Line}
use Rattle.jd_trees.specs.declared.Kind.{Kind}
use Rattle.jd_trees.specs.declared.Kind.TheVariants as kinds
use Rattle.jd_trees.specs.declared.Node.{Node}
use Rattle.jd_trees.specs.declared.Node.TheVariants as nodes_as
use Rattle.jd_trees.specs.declared.CertEvent.{CertEvent}
use Rattle.jd_trees.specs.declared.CertEvent.TheVariants.{Leaf, Cut, Proof, End}
use Rattle.jd_trees.specs.Events.{begun_events, node_events, events_of}
use Rattle.jd_trees.specs.Trees.{Tree, node, preorder}
use Rattle.jd_check.specs.Events.{BeginsTree, IsShort, lines_from, open_lines}
use Rattle.jd_check.proofs.Events.{begun-more, events-more, lines-append}

-- what begins events of a tree begins them too
pub begins-front : (xs ys : List CertEvent) → BeginsTree (xs ++ ys) → BeginsTree xs
begins-front xs ys h = (h.0, (ys ++ h.1.0, sym (append_assoc xs ys h.1.0) ∙ h.1.1))

-- the events of a leaf or cut, of which some lines were heard
pub heard-front : (kind : Kind) (log rest : List Line) → begun_events kind log ++ (map (λ line. Proof line) rest ++ End ∷ []) ≡ node_events (node kind (log ++ rest))
heard-front kinds.Whole log rest =
    ap (λ es. Leaf ∷ es) (sym (append_assoc (map (λ line. Proof line) log) (map (λ line. Proof line) rest) (End ∷ []))
    ∙ ap (λ es. es ++ End ∷ []) (sym (map-append (λ line. Proof line) log rest)))
heard-front kinds.Cut log rest =
    ap (λ es. Cut ∷ es) (sym (append_assoc (map (λ line. Proof line) log) (map (λ line. Proof line) rest) (End ∷ []))
    ∙ ap (λ es. es ++ End ∷ []) (sym (map-append (λ line. Proof line) log rest)))

-- ---- the lines of the leaf or cut that is open

proofs-counted : (n : ℕ) (log : List Line) → lines_from n (map (λ line. Proof line) log) ≡ n + length log
proofs-counted n [] = omega arith
proofs-counted n (line ∷ log) = proofs-counted (suc n) log ∙ (let e : suc n + length log ≡ n + suc (length log) = omega arith in e)

pub begun-counted : (events : List CertEvent) (kind : Kind) (log : List Line) → open_lines (events ++ begun_events kind log) ≡ length log
begun-counted events kind log = lines-append 0 events (begun_events kind log) ∙ by_kind kind (open_lines events)
  where
    by_kind : (kind : Kind) (n : ℕ) → lines_from n (begun_events kind log) ≡ length log
    by_kind kinds.Whole n = proofs-counted 0 log ∙ (let e : 0 + length log ≡ length log = omega arith in e)
    by_kind kinds.Cut n = proofs-counted 0 log ∙ (let e : 0 + length log ≡ length log = omega arith in e)

node-counted : (n : ℕ) (m : Node) → lines_from n (node_events m) ≡ 0
node-counted n nodes_as.Fork = refl
node-counted n (nodes_as.Leaf log) = lines-append 0 (map (λ line. Proof line) log) (End ∷ [])
node-counted n (nodes_as.Cut log) = lines-append 0 (map (λ line. Proof line) log) (End ∷ [])

pub nodes-counted : (nodes : List Node) → open_lines (events_of nodes) ≡ 0
nodes-counted [] = refl
nodes-counted (m ∷ nodes) = lines-append 0 (node_events m) (events_of nodes) ∙ ap (λ k. lines_from k (events_of nodes)) (node-counted 0 m) ∙ nodes-counted nodes

-- ---- a leaf or a cut, line by line

pub node-ends : (kind : Kind) (log : List Line) → node_events (node kind log) ≡ begun_events kind log ++ End ∷ []
node-ends kinds.Whole log = refl
node-ends kinds.Cut log = refl

-- the lines heard so far begin what the node's events begin
pub heard-begins : (events : List CertEvent) (kind : Kind) (log : List Line) (k : ℕ) → BeginsTree (events ++ node_events (node kind log)) → BeginsTree (events ++ begun_events kind (take k log))
heard-begins events kind log k h =
    let tail : List CertEvent = map (λ line. Proof line) (drop k log) ++ End ∷ [] in
    let whole : begun_events kind (take k log) ++ tail ≡ node_events (node kind log) = heard-front kind (take k log) (drop k log) ∙ ap (λ l. node_events (node kind l)) (take-append-drop k log) in
    begins-front (events ++ begun_events kind (take k log)) tail (subst BeginsTree (ap (λ es. events ++ es) (sym whole) ∙ sym (append_assoc events (begun_events kind (take k log)) tail)) h)

-- one line more
pub line-heard : (events : List CertEvent) (kind : Kind) (log : List Line) (k : ℕ) (d : Line) → k < length log
    → (events ++ begun_events kind (take k log)) ++ Proof (get_or log k d) ∷ [] ≡ events ++ begun_events kind (take (k + 1) log)
line-heard events kind log k d inside =
    append_assoc events (begun_events kind (take k log)) (Proof (get_or log k d) ∷ [])
    ∙ ap (λ es. events ++ es) (sym (begun-more kind (take k log) (get_or log k d)) ∙ ap (begun_events kind) (sym (take_more log k d inside)))

-- the node's end
pub end-heard : (events : List CertEvent) (kind : Kind) (log : List Line) → (events ++ begun_events kind log) ++ End ∷ [] ≡ events ++ node_events (node kind log)
end-heard events kind log = append_assoc events (begun_events kind log) (End ∷ []) ∙ ap (λ es. events ++ es) (sym (node-ends kind log))

-- so few lines that one more can be counted
pub lines-short : (events : List CertEvent) (kind : Kind) (log : List Line) (k : ℕ) → k ≤ length log → k + 2 < 2 ^ 64 → IsShort (events ++ begun_events kind (take k log))
lines-short events kind log k inside few = omega (arith, few, begun-counted events kind (take k log), length-take-le k log inside)

pub all-short : (events : List CertEvent) (kind : Kind) (log : List Line) → length log + 2 < 2 ^ 64 → IsShort (events ++ begun_events kind log)
all-short events kind log few = omega (arith, few, begun-counted events kind log)

pub nodes-short : (nodes : List Node) → IsShort (events_of nodes)
nodes-short nodes = omega (arith, nodes-counted nodes)

-- ---- nodes

-- the nodes heard so far begin what all of them begin
pub nodes-begin : (nodes : List Node) (k : ℕ) → BeginsTree (events_of nodes) → BeginsTree (events_of (take k nodes))
nodes-begin nodes k h =
    begins-front (events_of (take k nodes)) (events_of (drop k nodes))
    (subst BeginsTree (ap events_of (sym (take-append-drop k nodes)) ∙ events-more (take k nodes) (drop k nodes)) h)

-- one node more
pub node-heard : (nodes : List Node) (k : ℕ) (d : Node) → k < length nodes → events_of (take k nodes) ++ node_events (get_or nodes k d) ≡ events_of (take (k + 1) nodes)
node-heard nodes k d inside =
    ap (λ es. events_of (take k nodes) ++ es) (sym (append-nil (node_events (get_or nodes k d))))
    ∙ sym (events-more (take k nodes) (get_or nodes k d ∷ [])) ∙ ap events_of (sym (take_more nodes k d inside))

-- and all of them those of their tree
pub tree-begins : (tree : Tree) → BeginsTree (events_of (preorder tree))
tree-begins tree = (tree, ([], append-nil (events_of (preorder tree))))
