-- The events of nodes tell the nodes.
use Rattle.std.proofs.Common.{◌≡◌, ℕ, suc, ◌+◌, ◌≤◌, Bool, true, false, List, [], ◌∷◌, ◌++◌, length, map, refl, sym, ap, ◌∙◌, arith, append_assoc, append-nil}
use Rattle.std.proofs.lemmas.Bool.{false≢true}
use Rattle.std.proofs.lemmas.List.{map-append}
use Rattle.std.proofs.lemmas.List.Concat.{flat_map-append}
use Rattle.jd_logic.specs.declared.Line.{Line}
use Rattle.jd_trees.specs.declared.Kind.{Kind}
use Rattle.jd_trees.specs.declared.Kind.TheVariants.{Whole}
use Rattle.jd_trees.specs.declared.Kind.TheVariants as kinds
use Rattle.jd_trees.specs.declared.Node.{Node}
use Rattle.jd_trees.specs.declared.Node.TheVariants as nodes_as
use Rattle.jd_trees.specs.declared.CertEvent.{CertEvent}
use Rattle.jd_trees.specs.declared.CertEvent.TheVariants.{Nothing, Fork, Leaf, Cut, Proof, End}
use Rattle.jd_trees.specs.Events.{begun_events, node_events, events_of}
use Rattle.jd_trees.specs.Trees.{node, preorder}
use Rattle.jd_check.specs.Events.{BeginsTree, lines_from, open_lines}

-- ---- one node

proofs_of : List Line → List CertEvent
proofs_of log = map (λ line. Proof line) log

pub record Same {A : Type 0} (a b : A) (xs ys : List CertEvent) : Type 0 where
  pub first : a ≡ b
  pub rest : xs ≡ ys

log-same : (log other : List Line) (xs ys : List CertEvent) → (map (λ line. Proof line) log ++ End ∷ []) ++ xs ≡ (map (λ line. Proof line) other ++ End ∷ []) ++ ys → Same log other xs ys
log-same [] [] xs ys e = record { first = refl; rest = cc }
log-same [] (m ∷ other) xs ys e = cc
log-same (l ∷ log) [] xs ys e = cc
log-same (l ∷ log) (m ∷ other) xs ys e =
    let lines : l ≡ m = cc in
    let tails : (map (λ line. Proof line) log ++ End ∷ []) ++ xs ≡ (map (λ line. Proof line) other ++ End ∷ []) ++ ys = cc in
    let more = log-same log other xs ys tails in
    record { first = ap (λ k. k ∷ log) lines ∙ ap {B = List Line} (λ r. m ∷ r) more.first; rest = more.rest }

node-same : (m n : Node) (xs ys : List CertEvent) → node_events m ++ xs ≡ node_events n ++ ys → Same m n xs ys
node-same nodes_as.Fork nodes_as.Fork xs ys e = record { first = refl; rest = cc }
node-same nodes_as.Fork (nodes_as.Leaf log) xs ys e = cc
node-same nodes_as.Fork (nodes_as.Cut log) xs ys e = cc
node-same (nodes_as.Leaf log) nodes_as.Fork xs ys e = cc
node-same (nodes_as.Leaf log) (nodes_as.Leaf other) xs ys e =
    let tails : (map (λ line. Proof line) log ++ End ∷ []) ++ xs ≡ (map (λ line. Proof line) other ++ End ∷ []) ++ ys = cc in
    let more = log-same log other xs ys tails in
    record { first = ap (λ l. nodes_as.Leaf l) more.first; rest = more.rest }
node-same (nodes_as.Leaf log) (nodes_as.Cut other) xs ys e = cc
node-same (nodes_as.Cut log) nodes_as.Fork xs ys e = cc
node-same (nodes_as.Cut log) (nodes_as.Leaf other) xs ys e = cc
node-same (nodes_as.Cut log) (nodes_as.Cut other) xs ys e =
    let tails : (map (λ line. Proof line) log ++ End ∷ []) ++ xs ≡ (map (λ line. Proof line) other ++ End ∷ []) ++ ys = cc in
    let more = log-same log other xs ys tails in
    record { first = ap (λ l. nodes_as.Cut l) more.first; rest = more.rest }

-- ---- many nodes

-- nodes begin others, and the next one's events are those that follow
pub record IsNextNode (nodes all : List Node) (events : List CertEvent) : Type 0 where
  pub next : Node
  pub more : List Node
  pub all_are : all ≡ nodes ++ next ∷ more
  pub events_are : events ≡ node_events next ++ events_of more

nothing-follows : (m : Node) (xs : List CertEvent) → node_events m ++ xs ≡ [] → ⊥
nothing-follows nodes_as.Fork xs e = cc
nothing-follows (nodes_as.Leaf log) xs e = cc
nothing-follows (nodes_as.Cut log) xs e = cc

pub next-node : (nodes all : List Node) (e : CertEvent) (es : List CertEvent) → events_of nodes ++ e ∷ es ≡ events_of all → IsNextNode nodes all (e ∷ es)
next-node [] [] e es h = cc
next-node [] (n ∷ all) e es h = record { next = n; more = all; all_are = refl; events_are = h }
next-node (m ∷ nodes) [] e es h = absurd (nothing-follows m (events_of nodes ++ e ∷ es) (sym (append_assoc (node_events m) (events_of nodes) (e ∷ es)) ∙ h))
next-node (m ∷ nodes) (n ∷ all) e es h =
    let same = node-same m n (events_of nodes ++ e ∷ es) (events_of all) (sym (append_assoc (node_events m) (events_of nodes) (e ∷ es)) ∙ h) in
    let more = next-node nodes all e es same.rest in
    record {
      next = more.next;
      more = more.more;
      all_are = ap (λ k. k ∷ all) (sym same.first) ∙ ap {B = List Node} (λ r. m ∷ r) more.all_are;
      events_are = more.events_are;
    }

pub nodes-same : (nodes all : List Node) → events_of nodes ≡ events_of all → nodes ≡ all
nodes-same [] [] h = refl
nodes-same [] (n ∷ all) h = absurd (nothing-follows n (events_of all) (sym h))
nodes-same (m ∷ nodes) [] h = absurd (nothing-follows m (events_of nodes) h)
nodes-same (m ∷ nodes) (n ∷ all) h =
    let same = node-same m n (events_of nodes) (events_of all) h in
    ap (λ k. k ∷ nodes) same.first ∙ ap {B = List Node} (λ r. n ∷ r) (nodes-same nodes all same.rest)

pub events-more : (nodes more : List Node) → events_of (nodes ++ more) ≡ events_of nodes ++ events_of more
events-more nodes more = flat_map-append node_events nodes more

-- ---- which events may follow

-- whether an event begins a node, or goes on in a leaf or cut
abbrev pub is_node_event : CertEvent → Bool
is_node_event Nothing = false
is_node_event Fork = true
is_node_event Leaf = true
is_node_event Cut = true
is_node_event (Proof line) = false
is_node_event End = false

abbrev pub is_log_event : CertEvent → Bool
is_log_event Nothing = false
is_log_event Fork = false
is_log_event Leaf = false
is_log_event Cut = false
is_log_event (Proof line) = true
is_log_event End = true

first-of-node : (n : Node) (e : CertEvent) (es rest : List CertEvent) → e ∷ es ≡ node_events n ++ rest → is_node_event e ≡ true
first-of-node nodes_as.Fork e es rest h = let is : e ≡ Fork = cc in rw is refl
first-of-node (nodes_as.Leaf log) e es rest h = let is : e ≡ Leaf = cc in rw is refl
first-of-node (nodes_as.Cut log) e es rest h = let is : e ≡ Cut = cc in rw is refl

pub node-follows : (nodes all : List Node) (e : CertEvent) (es : List CertEvent) → events_of nodes ++ e ∷ es ≡ events_of all → is_node_event e ≡ true
node-follows nodes all e es h = let n = next-node nodes all e es h in first-of-node n.next e es (events_of n.more) n.events_are

in-log : (log other : List Line) (e : CertEvent) (es rest : List CertEvent) → map (λ line. Proof line) log ++ e ∷ es ≡ (map (λ line. Proof line) other ++ End ∷ []) ++ rest → is_log_event e ≡ true
in-log [] [] e es rest h = let is : e ≡ End = cc in rw is refl
in-log [] (m ∷ other) e es rest h = let is : e ≡ Proof m = cc in rw is refl
in-log (l ∷ log) [] e es rest h = cc
in-log (l ∷ log) (m ∷ other) e es rest h = in-log log other e es rest cc

in-node : (kind : Kind) (log : List Line) (n : Node) (e : CertEvent) (es rest : List CertEvent) → begun_events kind log ++ e ∷ es ≡ node_events n ++ rest → is_log_event e ≡ true
in-node kinds.Whole log nodes_as.Fork e es rest h = cc
in-node kinds.Whole log (nodes_as.Leaf other) e es rest h = in-log log other e es rest cc
in-node kinds.Whole log (nodes_as.Cut other) e es rest h = cc
in-node kinds.Cut log nodes_as.Fork e es rest h = cc
in-node kinds.Cut log (nodes_as.Leaf other) e es rest h = cc
in-node kinds.Cut log (nodes_as.Cut other) e es rest h = in-log log other e es rest cc

-- the node whose events have begun
pub begun-node : (nodes all : List Node) (kind : Kind) (log : List Line) (es : List CertEvent) → events_of nodes ++ (begun_events kind log ++ es) ≡ events_of all → IsNextNode nodes all (begun_events kind log ++ es)
begun-node nodes all kinds.Whole log es h = next-node nodes all Leaf (map (λ line. Proof line) log ++ es) h
begun-node nodes all kinds.Cut log es h = next-node nodes all Cut (map (λ line. Proof line) log ++ es) h

pub line-follows : (nodes all : List Node) (kind : Kind) (log : List Line) (e : CertEvent) (es : List CertEvent) → events_of nodes ++ (begun_events kind log ++ e ∷ es) ≡ events_of all → is_log_event e ≡ true
line-follows nodes all kind log e es h =
    let n = begun-node nodes all kind log (e ∷ es) h in in-node kind log n.next e es (events_of n.more) n.events_are

-- and a leaf or cut that is open isn't the last
pub not-whole : (nodes all : List Node) (kind : Kind) (log : List Line) → events_of nodes ++ begun_events kind log ≡ events_of all → ⊥
not-whole nodes all kind log h =
    let n = begun-node nodes all kind log [] (ap (λ r. events_of nodes ++ r) (append-nil (begun_events kind log)) ∙ h) in
    cut-short kind log n.next (events_of n.more) (sym (append-nil (begun_events kind log)) ∙ n.events_are)
  where
    short : (log other : List Line) (rest : List CertEvent) → map (λ line. Proof line) log ≡ (map (λ line. Proof line) other ++ End ∷ []) ++ rest → ⊥
    short [] [] rest h = cc
    short [] (m ∷ other) rest h = cc
    short (l ∷ log) [] rest h = cc
    short (l ∷ log) (m ∷ other) rest h = short log other rest cc

    cut-short : (kind : Kind) (log : List Line) (n : Node) (rest : List CertEvent) → begun_events kind log ≡ node_events n ++ rest → ⊥
    cut-short kinds.Whole log nodes_as.Fork rest h = cc
    cut-short kinds.Whole log (nodes_as.Leaf other) rest h = short log other rest cc
    cut-short kinds.Whole log (nodes_as.Cut other) rest h = cc
    cut-short kinds.Cut log nodes_as.Fork rest h = cc
    cut-short kinds.Cut log (nodes_as.Leaf other) rest h = cc
    cut-short kinds.Cut log (nodes_as.Cut other) rest h = short log other rest cc

-- the kind and the lines of a node that began
pub record IsNodeOf (kind : Kind) (n : Node) : Type 0 where
  pub log : List Line
  pub node_is : n ≡ node kind log

pub kind-of : (kind : Kind) (n : Node) (es rest : List CertEvent) → begun_events kind [] ++ es ≡ node_events n ++ rest → IsNodeOf kind n
kind-of kinds.Whole nodes_as.Fork es rest h = cc
kind-of kinds.Whole (nodes_as.Leaf log) es rest h = record { log = log; node_is = refl }
kind-of kinds.Whole (nodes_as.Cut log) es rest h = cc
kind-of kinds.Cut nodes_as.Fork es rest h = cc
kind-of kinds.Cut (nodes_as.Leaf log) es rest h = cc
kind-of kinds.Cut (nodes_as.Cut log) es rest h = record { log = log; node_is = refl }

-- the events of a node that ends
pub ended-events : (nodes : List Node) (kind : Kind) (log : List Line) → events_of (nodes ++ node kind log ∷ []) ≡ (events_of nodes ++ begun_events kind log) ++ End ∷ []
ended-events nodes kinds.Whole log = events-more nodes (nodes_as.Leaf log ∷ []) ∙ ap (λ r. events_of nodes ++ r) (append-nil (begun_events kinds.Whole log ++ End ∷ [])) ∙ sym (append_assoc (events_of nodes) (begun_events kinds.Whole log) (End ∷ []))
ended-events nodes kinds.Cut log = events-more nodes (nodes_as.Cut log ∷ []) ∙ ap (λ r. events_of nodes ++ r) (append-nil (begun_events kinds.Cut log ++ End ∷ [])) ∙ sym (append_assoc (events_of nodes) (begun_events kinds.Cut log) (End ∷ []))

-- a line more
pub begun-more : (kind : Kind) (log : List Line) (line : Line) → begun_events kind (log ++ line ∷ []) ≡ begun_events kind log ++ Proof line ∷ []
begun-more kinds.Whole log line = ap (λ es. Leaf ∷ es) (map-append (λ line. Proof line) log (line ∷ []))
begun-more kinds.Cut log line = ap (λ es. Cut ∷ es) (map-append (λ line. Proof line) log (line ∷ []))

-- ---- lines

pub lines-append : (n : ℕ) (xs ys : List CertEvent) → lines_from n (xs ++ ys) ≡ lines_from (lines_from n xs) ys
lines-append n [] ys = refl
lines-append n (Nothing ∷ xs) ys = lines-append 0 xs ys
lines-append n (Fork ∷ xs) ys = lines-append 0 xs ys
lines-append n (Leaf ∷ xs) ys = lines-append 0 xs ys
lines-append n (Cut ∷ xs) ys = lines-append 0 xs ys
lines-append n (Proof line ∷ xs) ys = lines-append (suc n) xs ys
lines-append n (End ∷ xs) ys = lines-append 0 xs ys

lines-most : (n : ℕ) (events : List CertEvent) → lines_from n events ≤ n + length events
lines-most n [] = omega arith
lines-most n (Nothing ∷ events) = let h = lines-most 0 events in omega (arith, h)
lines-most n (Fork ∷ events) = let h = lines-most 0 events in omega (arith, h)
lines-most n (Leaf ∷ events) = let h = lines-most 0 events in omega (arith, h)
lines-most n (Cut ∷ events) = let h = lines-most 0 events in omega (arith, h)
lines-most n (Proof line ∷ events) = let h = lines-most (suc n) events in omega (arith, h)
lines-most n (End ∷ events) = let h = lines-most 0 events in omega (arith, h)

pub open_lines-most : (events : List CertEvent) → open_lines events ≤ length events
open_lines-most events = let h = lines-most 0 events in omega (arith, h)

-- ---- Nothing is no event

abbrev has_nothing : List CertEvent → Bool
has_nothing [] = false
has_nothing (Nothing ∷ events) = true
has_nothing (Fork ∷ events) = has_nothing events
has_nothing (Leaf ∷ events) = has_nothing events
has_nothing (Cut ∷ events) = has_nothing events
has_nothing (Proof line ∷ events) = has_nothing events
has_nothing (End ∷ events) = has_nothing events

found-nothing : (xs ys : List CertEvent) → has_nothing (xs ++ Nothing ∷ ys) ≡ true
found-nothing [] ys = refl
found-nothing (Nothing ∷ xs) ys = refl
found-nothing (Fork ∷ xs) ys = found-nothing xs ys
found-nothing (Leaf ∷ xs) ys = found-nothing xs ys
found-nothing (Cut ∷ xs) ys = found-nothing xs ys
found-nothing (Proof line ∷ xs) ys = found-nothing xs ys
found-nothing (End ∷ xs) ys = found-nothing xs ys

proofs-without : (log : List Line) (ys : List CertEvent) → has_nothing (map (λ line. Proof line) log ++ ys) ≡ has_nothing ys
proofs-without [] ys = refl
proofs-without (line ∷ log) ys = proofs-without log ys

node-without : (m : Node) (ys : List CertEvent) → has_nothing (node_events m ++ ys) ≡ has_nothing ys
node-without nodes_as.Fork ys = refl
node-without (nodes_as.Leaf log) ys = ap has_nothing (append_assoc (map (λ line. Proof line) log) (End ∷ []) ys) ∙ proofs-without log (End ∷ ys)
node-without (nodes_as.Cut log) ys = ap has_nothing (append_assoc (map (λ line. Proof line) log) (End ∷ []) ys) ∙ proofs-without log (End ∷ ys)

nodes-without : (nodes : List Node) → has_nothing (events_of nodes) ≡ false
nodes-without [] = refl
nodes-without (m ∷ nodes) = node-without m (events_of nodes) ∙ nodes-without nodes

pub no-nothing : {G : Type 0} (events : List CertEvent) → BeginsTree (events ++ Nothing ∷ []) → G
no-nothing events h =
    absurd (false≢true (sym (nodes-without (preorder h.0)) ∙ ap has_nothing (sym h.1.1 ∙ append_assoc events (Nothing ∷ []) h.1.0) ∙ found-nothing events h.1.0))
