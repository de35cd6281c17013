-- What a check in progress has come to, and what it answers.
use Rattle.std.specs.Prelude.{◌≡◌, ◌+◌, ◌||◌, is_some, Bool, true, false, List, ◌++◌, Option, Some, None}
use Rattle.jd_logic.specs.declared.Line.{Line}
use Rattle.jd_model.specs.Problems.{Problem}
use Rattle.jd_trees.specs.declared.CertEvent.{CertEvent}
use Rattle.jd_trees.specs.declared.CertEvent.TheVariants.{Fork, Leaf, Cut, Proof, End}
use Rattle.jd_trees.specs.declared.Kind.TheVariants.{Whole, Cut as CutKind}
use Rattle.jd_trees.specs.declared.Kind.{Kind}
use Rattle.jd_trees.specs.declared.Node.{Node}
use Rattle.jd_trees.specs.Events.{begun_events, events_of}
use Rattle.jd_trees.specs.Trees.{Tree, preorder}
use Rattle.jd_books.specs.Checks.{IsProved, IsBadAt, IsOpenAt, IsUncovered}
use Rattle.jd_leaves.specs.declared.lists.Path.{Path}
use Rattle.jd_check.specs.declared.checked.Checked.{Checked}
use Rattle.jd_check.specs.declared.checked.Checked.TheVariants as c
use Rattle.jd_check.specs.declared.going.Event.{Event}
use Rattle.jd_check.specs.declared.going.Event.TheVariants as e
use Rattle.jd_check.specs.declared.going.Going.{Going}
use Rattle.jd_check.specs.declared.progress.Open.{Open}
use Rattle.jd_check.specs.declared.progress.Progress.{Progress}
use Rattle.jd_check.specs.declared.going.CheckRun.{CheckRun}
use Rattle.jd_check.specs.Events.{Begins, open_lines}
use Rattle.jd_check.specs.Progress.{IsOpen, IsTaken}

-- an event as a certificate's lines tell it
abbrev pub beginning : Kind → CertEvent
beginning Whole = Leaf
beginning CutKind = Cut

abbrev pub event_of : Event → CertEvent
event_of e.Fork = Fork
event_of (e.Begin kind) = beginning kind
event_of (e.Line line) = Proof line.now
event_of e.End = End

-- all nodes of a tree were taken
abbrev pub IsTakenOf : {X : Type 0} {F : X → Type 0} {M : _} → Problem → Tree → Progress X F M → Type 0
IsTakenOf p tree run = IsTaken p (preorder tree) run

-- the events are those of whole nodes, all taken, and more are to come
pub record IsBetween {X : Type 0} {F : X → Type 0} {M : _} (p : Problem) (events : List CertEvent) (run : Progress X F M) : Type 0 where
  pub nodes : List Node
  pub events_are : events ≡ events_of nodes
  pub going : run.whole ≡ false
  pub taken : IsTaken p nodes run

-- the same, and those of a leaf or cut so far
pub record IsInside {X : Type 0} {F : X → Type 0} {M : _} (p : Problem) (events : List CertEvent) (run : Progress X F M) (part : Open) : Type 0 where
  pub nodes : List Node
  pub kind : Kind
  pub log : List Line
  pub events_are : events ≡ events_of nodes ++ begun_events kind log
  pub counted : part.check.count ≡ open_lines events + 1
  pub part_is : IsOpen p nodes kind log run part

-- the events are those of a whole tree
abbrev pub IsWhole : {X : Type 0} {F : X → Type 0} {M : _} → Problem → List CertEvent → Progress X F M → Type 0
IsWhole p events run = (tree : Tree) → Begins events tree → IsTakenOf p tree run

-- no tree that the events begin covers, and this is the first path at which it doesn't
abbrev pub IsWrong : Problem → List CertEvent → List Bool → Type 0
IsWrong p events path = (tree : Tree) → Begins events tree → IsUncovered p tree path

abbrev pub IsOpenOrNot : {X : Type 0} {F : X → Type 0} {M : _} → Problem → List CertEvent → Progress X F M → Option Open → Type 0
IsOpenOrNot p events run None = IsBetween p events run
IsOpenOrNot p events run (Some part) = IsInside p events run part

abbrev pub IsRight : {X : Type 0} {F : X → Type 0} {M : _} → Problem → List CertEvent → Progress X F M → Option Open → Bool → Type 0
IsRight p events run part true = IsWhole p events run
IsRight p events run part false = IsOpenOrNot p events run part

abbrev pub IsWrongOrNot : {X : Type 0} {F : X → Type 0} {M : _} → Problem → List CertEvent → Progress X F M → Option Open → Option Path → Type 0
IsWrongOrNot p events run part (Some path) = IsWrong p events path
IsWrongOrNot p events run part None = IsRight p events run part run.whole

abbrev pub IsGoing : {X : Type 0} {F : X → Type 0} {M : _} → Problem → List CertEvent → Going X F M → Type 0
IsGoing p events g = IsWrongOrNot p events g.progress g.part g.shape

-- a check to which these events have come, of a problem. Nothing is known of a spent one
abbrev pub IsChecking : {X : Type 0} {F : X → Type 0} {M : _} → Problem → List CertEvent → CheckRun X F M → Type 0
IsChecking p events run = run.spent ≡ false → IsGoing p events run.going

abbrev pub is_spent : {X : Type 0} {F : X → Type 0} {M : _} → CheckRun X F M → Bool
is_spent run = run.spent

-- whether no event is looked at any more: the tree doesn't cover, or is whole
abbrev pub is_over : {X : Type 0} {F : X → Type 0} {M : _} → CheckRun X F M → Bool
is_over run = is_some run.going.shape || run.going.progress.whole

-- all that a check has come to is as it was
abbrev pub IsUnchanged : {X : Type 0} {F : X → Type 0} {M : _} → CheckRun X F M → CheckRun X F M → Type 0
IsUnchanged old new = new.going ≡ old.going

-- what is answered on a tree
abbrev pub IsChecked : Problem → Tree → Checked → Type 0
IsChecked p tree (c.Equal book) = IsProved p tree book
IsChecked p tree (c.Shape path) = IsUncovered p tree path
IsChecked p tree (c.Bad book path line cause) = IsBadAt p tree book (record { path = path; line = line; cause = cause })
IsChecked p tree (c.More book path) = IsOpenAt p tree book path
