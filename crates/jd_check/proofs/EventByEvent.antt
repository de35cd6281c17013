-- A check goes on by an event.
use Rattle.std.proofs.Common.{◌≡◌, ℕ, suc, ◌+◌, Bool, true, false, List, [], ◌∷◌, ◌++◌, Option, Some, None, refl, sym, ap, ◌∙◌, subst, arith, append_assoc, append-nil}
use Rattle.std.specs.Prelude.{is_some, ◌||◌}
use Rattle.std.proofs.lemmas.Bool.{false≢true}
use Rattle.jd_logic.specs.declared.Line.{Line}
use Rattle.jd_model.specs.Problems.{Problem}
use Rattle.jd_trees.specs.declared.Kind.{Kind}
use Rattle.jd_trees.specs.declared.Node.{Node}
use Rattle.jd_trees.specs.declared.Node.TheVariants as nodes_as
use Rattle.jd_trees.specs.declared.CertEvent.{CertEvent}
use Rattle.jd_trees.specs.declared.CertEvent.TheVariants.{Fork, Proof, End}
use Rattle.jd_trees.specs.Events.{begun_events, node_events, events_of}
use Rattle.jd_trees.specs.Trees.{Tree, node, preorder}
use Rattle.jd_books.specs.Nodes.{uncovered_along}
use Rattle.jd_books.specs.Checks.{first_bad, first_open, log_end, IsUncovered}
use Rattle.jd_books.specs.Leaves.{IsBookOf}
use Rattle.jd_books.proofs.InOrder.{uncovered-whole}
use Rattle.jd_leaves.specs.declared.lists.Path.{Path}
use Rattle.jd_leaves.specs.Views.{leaf_of}
use Rattle.jd_check.specs.declared.progress.Open.{Open}
use Rattle.jd_check.specs.declared.progress.Progress.{Progress}
use Rattle.jd_check.specs.Events.{Begins, BeginsTree, lines_from, open_lines}
use Rattle.jd_walk.specs.Leaves.{IsLeafOf}
use Rattle.jd_trees.specs.declared.Kind.TheVariants as kinds
use Rattle.jd_check.specs.Progress.{IsNext, IsOpen, IsTaken, bad_of, log_after, path_of}
use Rattle.jd_check.specs.Runs.{IsBetween, IsInside, IsOpenOrNot, IsRight, IsTakenOf, IsWhole, IsWrong, IsWrongOrNot, beginning}
use Rattle.jd_check.proofs.Events.{IsNodeOf, next-node, nodes-same, events-more, node-follows, line-follows, not-whole, begun-node, kind-of, ended-events, begun-more, lines-append, is_node_event, is_log_event}
use Rattle.jd_check.proofs.Progressing.{whole-taken}
use Rattle.jd_check.proofs.Taking.{uncovered-prefix}

-- ---- the first path at which a tree doesn't cover

-- nodes with which a tree begins, and which don't cover
prefix-wrong : (p : Problem) (tree : Tree) (nodes more : List Node) (path : List Bool) → preorder tree ≡ nodes ++ more → uncovered_along p (Some []) nodes ≡ Some path → IsUncovered p tree path
prefix-wrong p tree nodes more path all h =
    sym (uncovered-whole p tree) ∙ ap (uncovered_along p (Some [])) all ∙ uncovered-prefix p (Some []) nodes more path h

one-more : (nodes : List Node) (n : Node) (more : List Node) → nodes ++ n ∷ more ≡ (nodes ++ n ∷ []) ++ more
one-more nodes n more = sym (append_assoc nodes (n ∷ []) more)

pub fork-wrong : (p : Problem) (events : List CertEvent) (nodes : List Node) (path : List Bool) → events ≡ events_of nodes → uncovered_along p (Some []) (nodes ++ nodes_as.Fork ∷ []) ≡ Some path
    → IsWrong p (events ++ Fork ∷ []) path
fork-wrong p events nodes path same h tree begins =
    let all : events_of nodes ++ Fork ∷ begins.0 ≡ events_of (preorder tree) =
    ap (λ es. es ++ Fork ∷ begins.0) (sym same) ∙ sym (append_assoc events (Fork ∷ []) begins.0) ∙ begins.1 in
    let n = next-node nodes (preorder tree) Fork begins.0 all in
    let is : n.next ≡ nodes_as.Fork = is-fork n.next (events_of n.more) n.events_are in
    prefix-wrong p tree (nodes ++ nodes_as.Fork ∷ []) n.more path (n.all_are ∙ ap (λ k. nodes ++ k ∷ n.more) is ∙ one-more nodes nodes_as.Fork n.more) h
  where
    is-fork : (n : Node) (rest : List CertEvent) → Fork ∷ begins.0 ≡ node_events n ++ rest → n ≡ nodes_as.Fork
    is-fork nodes_as.Fork rest e = refl
    is-fork (nodes_as.Leaf log) rest e = cc
    is-fork (nodes_as.Cut log) rest e = cc

pub leaf-wrong : (p : Problem) (events : List CertEvent) (nodes : List Node) (kind : Kind) (path : List Bool) → events ≡ events_of nodes
    → ((log : List Line) → uncovered_along p (Some []) (nodes ++ node kind log ∷ []) ≡ Some path) → IsWrong p (events ++ begun_events kind []) path
leaf-wrong p events nodes kind path same h tree begins =
    let all : events_of nodes ++ (begun_events kind [] ++ begins.0) ≡ events_of (preorder tree) =
    ap (λ es. es ++ (begun_events kind [] ++ begins.0)) (sym same) ∙ sym (append_assoc events (begun_events kind []) begins.0) ∙ begins.1 in
    let n = begun-node nodes (preorder tree) kind [] begins.0 all in
    let is : IsNodeOf kind n.next = kind-of kind n.next begins.0 (events_of n.more) n.events_are in
    prefix-wrong p tree (nodes ++ node kind is.log ∷ []) n.more path (n.all_are ∙ ap (λ k. nodes ++ k ∷ n.more) is.node_is ∙ one-more nodes (node kind is.log) n.more) (h is.log)

-- ---- a whole tree

all-taken : {X : Type 0} {F : X → Type 0} {M : _} (p : Problem) (nodes more : List Node) (run : Progress X F M) → run.whole ≡ true → IsTaken p nodes run → IsTaken p (nodes ++ more) run
all-taken p nodes [] run whole h = subst (λ ns. IsTaken p ns run) (sym (append-nil nodes)) h
all-taken p nodes (n ∷ more) run whole h =
    subst (λ ns. IsTaken p ns run) (sym (one-more nodes n more)) (all-taken p (nodes ++ n ∷ []) more run whole (whole-taken p nodes n run whole h))

nodes-begin : (nodes all : List Node) (rest : List CertEvent) → events_of nodes ++ rest ≡ events_of all → (more : List Node) × (all ≡ nodes ++ more)
nodes-begin nodes all [] h = ([], sym (nodes-same nodes all (sym (append-nil (events_of nodes)) ∙ h)) ∙ sym (append-nil nodes))
nodes-begin nodes all (e ∷ es) h = let n = next-node nodes all e es h in (n.next ∷ n.more, n.all_are)

taken-whole : {X : Type 0} {F : X → Type 0} {M : _} (p : Problem) (events : List CertEvent) (nodes : List Node) (run : Progress X F M) → events ≡ events_of nodes → run.whole ≡ true → IsTaken p nodes run → IsWhole p events run
taken-whole p events nodes run same whole h tree begins =
    let front = nodes-begin nodes (preorder tree) begins.0 (ap (λ es. es ++ begins.0) (sym same) ∙ begins.1) in
    subst (λ ns. IsTaken p ns run) (sym front.1) (all-taken p nodes front.0 run whole h)

-- nodes that were taken, whether they make a whole tree or not
pub right-taken : {X : Type 0} {F : X → Type 0} {M : _} (p : Problem) (events : List CertEvent) (nodes : List Node) (run : Progress X F M) → events ≡ events_of nodes → IsTaken p nodes run → IsRight p events run None run.whole
right-taken p events nodes run same h = by_whole run.whole refl
  where
    by_whole : (b : Bool) → run.whole ≡ b → IsRight p events run None b
    by_whole true e = taken-whole p events nodes run same e h
    by_whole false e = record { nodes = nodes; events_are = same; going = e; taken = h }

-- ---- an event more

forked-events : (events : List CertEvent) (nodes : List Node) → events ≡ events_of nodes → events ++ Fork ∷ [] ≡ events_of (nodes ++ nodes_as.Fork ∷ [])
forked-events events nodes same = ap (λ es. es ++ Fork ∷ []) same ∙ sym (events-more nodes (nodes_as.Fork ∷ []))

pub fork-goes : {X : Type 0} {F : X → Type 0} {M : _} (p : Problem) (events : List CertEvent) (old new : Progress X F M) (shape : Option Path) (h : IsBetween p events old) → IsNext p h.nodes nodes_as.Fork new shape
    → IsWrongOrNot p (events ++ Fork ∷ []) new None shape
fork-goes p events old new (Some path) h next = fork-wrong p events h.nodes path h.events_are (next.fault path refl)
fork-goes p events old new None h next = right-taken p (events ++ Fork ∷ []) (h.nodes ++ nodes_as.Fork ∷ []) new (forked-events events h.nodes h.events_are) (next.taken refl)

pub begun-event : (kind : Kind) → begun_events kind [] ≡ beginning kind ∷ []
begun-event kinds.Whole = refl
begun-event kinds.Cut = refl

begun-lines : (events : List CertEvent) (kind : Kind) → open_lines (events ++ begun_events kind []) ≡ 0
begun-lines events kind = lines-append 0 events (begun_events kind []) ∙ by_kind kind (open_lines events)
  where
    by_kind : (kind : Kind) (n : ℕ) → lines_from n (begun_events kind []) ≡ 0
    by_kind kinds.Whole n = refl
    by_kind kinds.Cut n = refl

pub leaf-goes : {X : Type 0} {F : X → Type 0} {M : _} (p : Problem) (events : List CertEvent) (old new : Progress X F M) (kind : Kind) (part : Open) (h : IsBetween p events old) → IsOpen p h.nodes kind [] new part → part.check.count ≡ 1
    → IsRight p (events ++ begun_events kind []) new (Some part) new.whole
leaf-goes p events old new kind part h part_is count =
    subst (IsRight p (events ++ begun_events kind []) new (Some part)) (sym part_is.going) (record {
      nodes = h.nodes;
      kind = kind;
      log = [];
      events_are = ap (λ es. es ++ begun_events kind []) h.events_are;
      counted = count ∙ ap (λ n. n + 1) (sym (begun-lines events kind));
      part_is = part_is;
    })

pub line-goes : {X : Type 0} {F : X → Type 0} {M : _} (p : Problem) (events : List CertEvent) (run : Progress X F M) (old new : Open) (line : Line) → IsInside p events run old → new.leaf ≡ old.leaf → new.check.count ≡ old.check.count + 1
    → ((rest : List Line) → log_after old.check (line ∷ rest) ≡ log_after new.check rest) → IsRight p (events ++ Proof line ∷ []) run (Some new) run.whole
line-goes p events run old new line h leaf count stepped =
    subst (IsRight p (events ++ Proof line ∷ []) run (Some new)) (sym h.part_is.going) (record {
      nodes = h.nodes;
      kind = h.kind;
      log = h.log ++ line ∷ [];
      events_are = ap (λ es. es ++ Proof line ∷ []) h.events_are ∙ append_assoc (events_of h.nodes) (begun_events h.kind h.log) (Proof line ∷ [])
          ∙ ap (λ es. events_of h.nodes ++ es) (sym (begun-more h.kind h.log line));
      counted = count ∙ ap (λ n. n + 1) (h.counted ∙ (let next : open_lines events + 1 ≡ suc (open_lines events) = omega arith in next) ∙ sym (lines-append 0 events (Proof line ∷ [])));
      part_is = record {
        taken = h.part_is.taken;
        going = h.part_is.going;
        right = h.part_is.right;
        leaf = subst (λ l. IsLeafOf run.walk h.kind (leaf_of l)) (sym leaf) h.part_is.leaf;
        lines = λ rest. ap (λ l. log_end (leaf_of l) ((h.log ++ line ∷ []) ++ rest)) leaf ∙ ap (log_end (leaf_of old.leaf)) (append_assoc h.log (line ∷ []) rest) ∙ h.part_is.lines (line ∷ rest) ∙ stepped rest;
      };
    })

pub end-goes : {X : Type 0} {F : X → Type 0} {M : _} (p : Problem) (events : List CertEvent) (old new : Progress X F M) (part : Open) (h : IsInside p events old part) → IsTaken p (h.nodes ++ node h.kind h.log ∷ []) new
    → IsRight p (events ++ End ∷ []) new None new.whole
end-goes p events old new part h taken =
    right-taken p (events ++ End ∷ []) (h.nodes ++ node h.kind h.log ∷ []) new (ap (λ es. es ++ End ∷ []) h.events_are ∙ sym (ended-events h.nodes h.kind h.log)) taken

-- ---- events that can't follow

pub no-node : {X : Type 0} {F : X → Type 0} {M : _} {G : Type 0} (p : Problem) (events : List CertEvent) (run : Progress X F M) (e : CertEvent) → IsBetween p events run → BeginsTree (events ++ e ∷ []) → is_node_event e ≡ false → G
no-node p events run e h begins wrong =
    absurd (false≢true (sym wrong ∙ node-follows h.nodes (preorder begins.0) e begins.1.0
    (ap (λ es. es ++ e ∷ begins.1.0) (sym h.events_are) ∙ sym (append_assoc events (e ∷ []) begins.1.0) ∙ begins.1.1)))

pub no-line : {X : Type 0} {F : X → Type 0} {M : _} {G : Type 0} (p : Problem) (events : List CertEvent) (run : Progress X F M) (part : Open) (e : CertEvent) → IsInside p events run part → BeginsTree (events ++ e ∷ []) → is_log_event e ≡ false → G
no-line p events run part e h begins wrong =
    absurd (false≢true (sym wrong ∙ line-follows h.nodes (preorder begins.0) h.kind h.log e begins.1.0
    (sym (append_assoc (events_of h.nodes) (begun_events h.kind h.log) (e ∷ begins.1.0)) ∙ ap (λ es. es ++ e ∷ begins.1.0) (sym h.events_are) ∙ sym (append_assoc events (e ∷ []) begins.1.0) ∙ begins.1.1)))

pub not-begun : (kind : Kind) → is_log_event (beginning kind) ≡ false
not-begun kinds.Whole = refl
not-begun kinds.Cut = refl

-- ---- where no event is looked at

begins-before : (events : List CertEvent) (e : CertEvent) (tree : Tree) → Begins (events ++ e ∷ []) tree → Begins events tree
begins-before events e tree begins = (e ∷ begins.0, sym (append_assoc events (e ∷ []) begins.0) ∙ begins.1)

pub wrong-stays : (p : Problem) (events : List CertEvent) (e : CertEvent) (path : List Bool) → IsWrong p events path → IsWrong p (events ++ e ∷ []) path
wrong-stays p events e path h tree begins = h tree (begins-before events e tree begins)

pub whole-stays : {X : Type 0} {F : X → Type 0} {M : _} (p : Problem) (events : List CertEvent) (e : CertEvent) (run : Progress X F M) → IsWhole p events run → IsWhole p (events ++ e ∷ []) run
whole-stays p events e run h tree begins = h tree (begins-before events e tree begins)

pub stays : {X : Type 0} {F : X → Type 0} {M : _} (p : Problem) (events : List CertEvent) (e : CertEvent) (run : Progress X F M) (part : Option Open) (shape : Option Path) → (shape ≡ None → run.whole ≡ true)
    → IsWrongOrNot p events run part shape → IsWrongOrNot p (events ++ e ∷ []) run part shape
stays p events e run part (Some path) over h = wrong-stays p events e path h
stays p events e run part None over h =
    subst (IsRight p (events ++ e ∷ []) run part) (sym (over refl)) (whole-stays p events e run (subst (IsRight p events run part) (over refl) h))

-- where an event is looked at
pub still : {X : Type 0} {F : X → Type 0} {M : _} (p : Problem) (events : List CertEvent) (run : Progress X F M) (part : Option Open) (shape : Option Path) → (is_some shape || run.whole) ≡ false
    → IsWrongOrNot p events run part shape → IsOpenOrNot p events run part
still p events run part (Some path) looked h = absurd (false≢true (sym looked))
still p events run part None looked h = subst (IsRight p events run part) looked h

pub covers : (shape : Option Path) (whole : Bool) → (is_some shape || whole) ≡ false → shape ≡ None
covers None whole looked = refl
covers (Some path) whole looked = absurd (false≢true (sym looked))

pub over : (shape : Option Path) (whole : Bool) → (is_some shape || whole) ≡ true → shape ≡ None → whole ≡ true
over (Some path) whole yes_over e = cc
over None whole yes_over e = yes_over

-- ---- the end

all-begin : (tree : Tree) → Begins (events_of (preorder tree)) tree
all-begin tree = ([], append-nil (events_of (preorder tree)))

pub wrong-ends : (p : Problem) (tree : Tree) (path : List Bool) → IsWrong p (events_of (preorder tree)) path → IsUncovered p tree path
wrong-ends p tree path h = h tree (all-begin tree)

pub right-ends : {X : Type 0} {F : X → Type 0} {M : _} (p : Problem) (tree : Tree) (run : Progress X F M) (part : Option Open) (whole : Bool) → IsRight p (events_of (preorder tree)) run part whole → IsTakenOf p tree run
right-ends p tree run part true h = h tree (all-begin tree)
right-ends p tree run None false h = subst (λ ns. IsTaken p ns run) (sym (nodes-same (preorder tree) h.nodes h.events_are)) h.taken
right-ends p tree run (Some part) false h = absurd (not-whole h.nodes (preorder tree) h.kind h.log (sym h.events_are))

-- ---- the beginning

pub nothing-taken : {X : Type 0} {F : X → Type 0} {M : _} (p : Problem) (run : Progress X F M) → run.whole ≡ false → IsTaken p [] run → IsRight p [] run None run.whole
nothing-taken p run whole h = right-taken p [] [] run refl h

pub begun-right : {X : Type 0} {F : X → Type 0} {M : _} (p : Problem) (run : Progress X F M) → run.walk.problem ≡ p → run.walk.path ≡ [] → run.walk.spent ≡ false
    → run.whole ≡ false → run.book ≡ [] → run.bad ≡ None → run.unrefuted ≡ None → IsRight p [] run None run.whole
begun-right p run problem path spent whole book bad unrefuted =
    nothing-taken p run whole (record {
      problem = problem;
      unspent = spent;
      covered = refl;
      next = ap Some (sym path) ∙ ap (λ b. elim b as (λ _. Option (List Bool)) [ true ↦ None | false ↦ Some run.walk.path ]) (sym whole);
      leaves = subst (λ b. IsBookOf p [] b) (sym book) (record { paths = refl; kinds = refl; faithful = λ k d inside. absurd (omega (arith, inside)) });
      bad = ap (λ b. first_bad b []) book ∙ ap bad_of (sym bad);
      open_first = ap (λ b. first_open b []) book ∙ ap path_of (sym unrefuted);
    })
