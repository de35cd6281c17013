-- Where the judge stands after a node, and what it answers.
use Rattle.std.proofs.Common.{◌≡◌, ◌≢◌, ◌⊎◌, ℕ, ◌<◌, ◌≤◌, Bool, true, false, not, List, [], ◌∷◌, ◌++◌, length, Option, Some, None, refl, sym, ap, ◌∙◌, subst, arith, length-append}
use Rattle.std.specs.Prelude.{All, is_some}
use Rattle.std.proofs.lemmas.Bool.{false≢true}
use Rattle.std.proofs.lemmas.List.Elements.{All-nil, All-push}
use Rattle.hp_model.specs.State.{Data}
use Rattle.jd_logic.specs.declared.Line.{Line}
use Rattle.jd_model.specs.Problems.{Problem, IsProblem, allows, free_bits, start_of}
use Rattle.jd_start.specs.declared.start.Start.{Start}
use Rattle.jd_start.specs.Starts.{start_data}
use Rattle.jd_circuit.specs.declared.literals.Lit.TheVariants.{Const}
use Rattle.jd_trees.specs.declared.Kind.{Kind}
use Rattle.jd_trees.specs.declared.Kind.TheVariants.{Whole, Cut}
use Rattle.jd_trees.specs.declared.Node.{Node}
use Rattle.jd_trees.specs.declared.Node.TheVariants.{Fork}
use Rattle.jd_trees.specs.Trees.{IsCert, IsNode, node}
use Rattle.jd_books.specs.Paths.{AsksAfter, OverAfter, answers_of_start, begins, next_path}
use Rattle.jd_books.specs.Trees.{leaf_fault}
use Rattle.jd_books.specs.Climbs.{is_left_of}
use Rattle.jd_books.specs.Leaves.{Claim, IsFaithfulTo, Leaf, clauses_of}
use Rattle.jd_books.specs.Checks.{log_end, right_lines}
use Rattle.jd_books.specs.Outcomes.{AreTooMany, IsCounterexample}
use Rattle.jd_model.specs.Seen.{agree}
use Rattle.jd_books.proofs.Cuts.{cut-faithful}
use Rattle.jd_books.proofs.Climbing.{climb-fork, climb-path, path-left}
use Rattle.jd_books.proofs.Longer.{over-own}
use Rattle.jd_books.proofs.Modelled.{IsModelled, modelled}
use Rattle.jd_books.proofs.SoundTree.{ranged}
use Rattle.jd_check.proofs.Taking.{after-push}
use Rattle.jd_proving.specs.Proving.{IsModel, IsRefuted, IsUnknown}
use Rattle.jd_decided.proofs.Refuted.{refutation-right}
use Rattle.jd_decided.proofs.Values.{model-values}
use Rattle.jd_walk.specs.Leaves.{IsLeafFor, IsLeafOf}
use Rattle.jd_walk.specs.Walked.{Walked, answered, back_from}
use Rattle.jd_judge.specs.Judging.{path_if_whole, whole_paths, IsEqual, IsUnknownAt, AreStartsSoFar, IsPlaced, Comes, IsOwn, with_start}
use Rattle.jd_judge.proofs.Turns.{IsGrown, IsBackTo, grown, whole-proved, next-climb, forked, whole-push, cut-push, starts-cut, starts-whole, starts-length, too-many, back-some, back-none, left-all, longer-all}

pub not-not : (b : Bool) → not (not b) ≡ b
not-not true = refl
not-not false = refl

-- ---- what the walk says comes next

-- the judge stands as before
pub said-placed : (p : Problem) (claim : Claim) (w k : Walked) (nodes : List Node) (book : List Leaf) (starts : List Data) → IsPlaced p claim w nodes book starts → k.problem ≡ w.problem → k.path ≡ w.path → k.spent ≡ w.spent
    → IsPlaced p claim k nodes book starts
said-placed p claim w k nodes book starts h problem path spent = record {
  problem = problem ∙ h.problem;
  unspent = spent ∙ h.unspent;
  climb = h.climb;
  climb_path = h.climb_path ∙ sym path;
  climb_nodes = h.climb_nodes;
  next = h.next ∙ ap Some (sym path);
  tree = h.tree;
  ranges = h.ranges;
  starts_are = h.starts_are;
  few = h.few;
  left = subst (λ q. All (λ r. is_left_of r q ≡ true) (whole_paths book)) (sym path) h.left;
}

-- ---- a fork

pub fork-placed : (p : Problem) (claim : Claim) (w : Walked) (nodes : List Node) (book : List Leaf) (starts : List Data) → IsPlaced p claim w nodes book starts → AsksAfter p w.path
    → IsPlaced p claim (answered w false) (nodes ++ Fork ∷ []) book starts
fork-placed p claim w nodes book starts h asks = record {
  problem = h.problem;
  unspent = h.unspent;
  climb = h.climb ++ None ∷ [];
  climb_path = climb-path h.climb ∙ ap (λ r. r ++ false ∷ []) h.climb_path;
  climb_nodes = climb-fork h.climb ∙ ap (λ r. r ++ Fork ∷ []) h.climb_nodes;
  next = after-push (Some []) nodes Fork w.path h.next;
  tree = forked p claim w.path nodes book h.next h.tree asks;
  ranges = All-push IsNode nodes Fork h.ranges tt;
  starts_are = h.starts_are;
  few = h.few;
  left = longer-all w.path (false ∷ []) (whole_paths book) h.left;
}

-- ---- a leaf or a cut

-- a leaf or a cut of the walk's path that its lines refute
pub record IsRefutedHere (p : Problem) (claim : Claim) (w : Walked) (kind : Kind) (l : Leaf) (log : List Line) : Type 0 where
  pub right : leaf_fault p w.path kind ≡ None
  pub path_is : l.path ≡ w.path
  pub kind_is : l.kind ≡ kind
  pub faithful : IsFaithfulTo p claim l
  pub ends : log_end l log ≡ right_lines true
  pub lines_in : IsNode (node kind log)

pub more : (p : Problem) (claim : Claim) (w : Walked) (nodes : List Node) (book : List Leaf) (starts : List Data) (kind : Kind) (l : Leaf) (log : List Line) → IsPlaced p claim w nodes book starts → IsRefutedHere p claim w kind l log
    → IsGrown p claim w.path (nodes ++ node kind log ∷ []) (book ++ l ∷ [])
more p claim w nodes book starts kind l log h r =
    grown p claim w.path nodes book kind log l h.climb h.climb_path h.climb_nodes h.next h.tree r.right r.path_is r.kind_is r.faithful r.ends

-- the whole tree
pub record IsFinished (p : Problem) (claim : Claim) (book : List Leaf) (nodes : List Node) : Type 0 where
  pub equal : IsEqual p claim book nodes
  pub cert : IsCert nodes

finished : (p : Problem) (claim : Claim) (path : List Bool) (book : List Leaf) (nodes : List Node) → IsGrown p claim path nodes book → is_some (next_path path) ≡ false → All IsNode nodes → length (whole_paths book) ≤ p.paths
    → IsFinished p claim book nodes
finished p claim path book nodes g none ranges few =
    let t = whole-proved p claim path nodes book g (back-none path none) in
    record {
      equal = record { tree = t.0; nodes_of_tree = t.1; proved = t.2; few = few };
      cert = record { tree = t.0; nodes_of_tree = t.1; ranges = ranges };
    }

-- the next tree stands at the next path
next-placed : (p : Problem) (claim : Claim) (w k : Walked) (nodes : List Node) (book : List Leaf) (starts : List Data) → IsGrown p claim w.path nodes book → w.problem ≡ p → w.spent ≡ false
    → IsBackTo w k → All IsNode nodes → AreStartsSoFar p book starts → length starts ≤ p.paths
    → ((next : List Bool) → next_path w.path ≡ Some next → All (λ q. is_left_of q next ≡ true) (whole_paths book)) → IsPlaced p claim k nodes book starts
next-placed p claim w k nodes book starts g problem spent back ranges ss few left =
    let at = next-climb p claim w.path k.path nodes book g back.path in
    record {
      problem = back.problem ∙ problem;
      unspent = back.spent ∙ spent;
      climb = at.0;
      climb_path = at.1;
      climb_nodes = at.2;
      next = g.next ∙ back.path;
      tree = g.tree_is;
      ranges = ranges;
      starts_are = ss;
      few = few;
      left = left k.path back.path;
    }

-- ---- a cut

module _ (p : Problem) (claim : Claim) (w : Walked) (nodes : List Node) (book : List Leaf) (starts : List Data) (l : Leaf) (log : List Line) where
  cut-ranges : IsPlaced p claim w nodes book starts → IsRefutedHere p claim w Cut l log → All IsNode (nodes ++ node Cut log ∷ [])
  cut-ranges h r = All-push IsNode nodes (node Cut log) h.ranges r.lines_in

  pub cut-next : (k : Walked) → IsPlaced p claim w nodes book starts → IsRefutedHere p claim w Cut l log → k ≡ back_from w → is_some (next_path w.path) ≡ true
      → IsPlaced p claim k (nodes ++ node Cut log ∷ []) (book ++ l ∷ []) starts
  cut-next k h r walk some =
      next-placed p claim w k (nodes ++ node Cut log ∷ []) (book ++ l ∷ []) starts (more p claim w nodes book starts Cut l log h r) h.problem h.unspent (back-some w k walk some)
      (cut-ranges h r) (starts-cut p book starts l h.starts_are r.kind_is) h.few
      (λ next e. subst (λ ps. All (λ q. is_left_of q next ≡ true) ps) (sym (cut-push book l r.kind_is)) (left-all w.path next (whole_paths book) e h.left))

  pub cut-finished : IsPlaced p claim w nodes book starts → IsRefutedHere p claim w Cut l log → is_some (next_path w.path) ≡ false → IsFinished p claim (book ++ l ∷ []) (nodes ++ node Cut log ∷ [])
  cut-finished h r none =
      finished p claim w.path (book ++ l ∷ []) (nodes ++ node Cut log ∷ []) (more p claim w nodes book starts Cut l log h r) none (cut-ranges h r)
      (omega (arith, h.few, starts-length p book starts h.starts_are, ap length (cut-push book l r.kind_is)))

-- ---- a whole leaf

-- no path stands left of the empty one
none-left : (ps : List (List Bool)) → All (λ q. is_left_of q [] ≡ true) ps → ps ≡ []
none-left [] all = refl
none-left (q ∷ ps) all = absurd (false≢true (sym (never q) ∙ all 0 q (omega arith)))
  where
    never : (q : List Bool) → is_left_of q [] ≡ false
    never [] = refl
    never (b ∷ q) = refl

module _ (p : Problem) (claim : Claim) (w : Walked) (nodes : List Node) (book : List Leaf) (starts : List Data) (l : Leaf) (log : List Line) where
  whole-ranges : IsPlaced p claim w nodes book starts → IsRefutedHere p claim w Whole l log → All IsNode (nodes ++ node Whole log ∷ [])
  whole-ranges h r = All-push IsNode nodes (node Whole log) h.ranges r.lines_in

  whole-paths : IsRefutedHere p claim w Whole l log → whole_paths (book ++ l ∷ []) ≡ whole_paths book ++ w.path ∷ []
  whole-paths r = whole-push book l ∙ ap (λ k. whole_paths book ++ path_if_whole k l.path) r.kind_is ∙ ap (λ q. whole_paths book ++ q ∷ []) r.path_is

  own-starts : (s : Data) → IsPlaced p claim w nodes book starts → IsRefutedHere p claim w Whole l log → allows p s ≡ true → answers_of_start p s ≡ w.path → AreStartsSoFar p (book ++ l ∷ []) (starts ++ s ∷ [])
  own-starts s h r allowed own =
      starts-whole p book starts l s h.starts_are r.kind_is allowed (own ∙ sym r.path_is) (subst (λ q. All (λ r. is_left_of r q ≡ true) (whole_paths book)) (sym r.path_is) h.left)

  pub whole-next : (k : Walked) (start : Option Start) → IsPlaced p claim w nodes book starts → IsRefutedHere p claim w Whole l log → IsOwn p w.path start → length starts < p.paths → k ≡ back_from w
      → is_some (next_path w.path) ≡ true → IsPlaced p claim k (nodes ++ node Whole log ∷ []) (book ++ l ∷ []) (with_start starts start)
  whole-next k None h r own room walk some = absurd (false≢true (ap (λ q. is_some (next_path q)) (sym own) ∙ some))
  whole-next k (Some start) h r own room walk some =
      next-placed p claim w k (nodes ++ node Whole log ∷ []) (book ++ l ∷ []) (starts ++ start_data start ∷ []) (more p claim w nodes book starts Whole l log h r) h.problem h.unspent (back-some w k walk some)
      (whole-ranges h r) (own-starts (start_data start) h r own.0 own.1) (omega (arith, room, length-append starts (start_data start ∷ [])))
      (λ next e. subst (λ ps. All (λ q. is_left_of q next ≡ true) ps) (sym (whole-paths r))
      (All-push (λ q. is_left_of q next ≡ true) (whole_paths book) w.path (left-all w.path next (whole_paths book) e h.left) (path-left w.path next e)))

  pub whole-finished : IsPlaced p claim w nodes book starts → IsRefutedHere p claim w Whole l log → length starts < p.paths → is_some (next_path w.path) ≡ false
      → IsFinished p claim (book ++ l ∷ []) (nodes ++ node Whole log ∷ [])
  whole-finished h r room none =
      finished p claim w.path (book ++ l ∷ []) (nodes ++ node Whole log ∷ []) (more p claim w nodes book starts Whole l log h r) none (whole-ranges h r)
      (omega (arith, room, starts-length p book starts h.starts_are, ap length (whole-paths r), length-append (whole_paths book) (w.path ∷ [])))

-- more starts than the problem has paths
pub judged-many : (p : Problem) (claim : Claim) (w : Walked) (nodes : List Node) (book : List Leaf) (starts : List Data) (s : Data) → IsPlaced p claim w nodes book starts → allows p s ≡ true → answers_of_start p s ≡ w.path
    → length starts ≡ p.paths → AreTooMany p (starts ++ s ∷ [])
judged-many p claim w nodes book starts s h allowed own full =
    let l : Leaf = record { path = w.path; inputs = 0; gates = []; guards = []; diff = Const true; kind = Whole } in
    too-many p (book ++ l ∷ []) (starts ++ s ∷ []) (starts-whole p book starts l s h.starts_are refl allowed own h.left) (omega (arith, full, length-append starts (s ∷ [])))

-- a start that comes to the end of both runs has the path's answers
pub own-there : (p : Problem) (path : List Bool) (s : Data) → Comes p path s → OverAfter p path → answers_of_start p s ≡ path
own-there p path s c over = over-own p path s over c.comes

-- at the empty path no start was kept yet
pub none-room : (p : Problem) (claim : Claim) (w : Walked) (nodes : List Node) (book : List Leaf) (starts : List Data) → IsPlaced p claim w nodes book starts → w.path ≡ [] → 1 ≤ p.paths → length starts < p.paths
none-room p claim w nodes book starts h path least =
    let none : whole_paths book ≡ [] = none-left (whole_paths book) (subst (λ r. All (λ q. is_left_of q r ≡ true) (whole_paths book)) path h.left) in
    omega (arith, least, starts-length p book starts h.starts_are, ap length none)

-- ---- what the prover answers

pub leaf-modelled : (p : Problem) (claim : Claim) (l : Leaf) (bs : List Bool) → IsProblem p → IsFaithfulTo p claim l → IsModel (clauses_of l) l.inputs bs → length bs ≡ l.inputs → IsModelled p l bs
leaf-modelled p claim l bs ranges f m count =
    let v = model-values (clauses_of l) l.inputs bs m in
    modelled p claim l bs v.values ranges f (count ∙ f.inputs) v.inputs v.all_true

pub model-comes : (p : Problem) (claim : Claim) (w : Walked) (l : Leaf) (bs : List Bool) → IsProblem p → IsFaithfulTo p claim l → l.path ≡ w.path → IsModel (clauses_of l) l.inputs bs → length bs ≡ l.inputs
    → Comes p w.path (start_of p bs)
model-comes p claim w l bs ranges f path m count =
    let c = leaf-modelled p claim l bs ranges f m count in
    record { allowed = c.allowed; comes = subst (λ q. begins q (answers_of_start p (start_of p bs)) ≡ true) path c.comes }

not-true : (b : Bool) → true ≡ not b → b ≡ false
not-true true h = absurd (false≢true (sym h))
not-true false h = refl

pub model-differs : (p : Problem) (claim : Claim) (l : Leaf) (bs : List Bool) → IsProblem p → IsFaithfulTo p claim l → l.kind ≡ Whole → IsModel (clauses_of l) l.inputs bs → length bs ≡ l.inputs → IsCounterexample p claim (start_of p bs)
model-differs p claim l bs ranges f whole m count =
    let c = leaf-modelled p claim l bs ranges f m count in
    record { allowed = c.allowed; differs = not-true (claim (start_of p bs)) (sym c.differs ∙ (f.whole whole (start_of p bs) (ranged p (start_of p bs) c.allowed) c.guards).differs) }

pub refuted-here : (p : Problem) (claim : Claim) (w : Walked) (kind : Kind) (l : Leaf) (log : List Line) (budget : ℕ) → leaf_fault p w.path kind ≡ None → IsLeafFor w claim kind l → w.problem ≡ p → IsRefuted (clauses_of l) budget log
    → IsNode (node kind log) → IsRefutedHere p claim w kind l log
refuted-here p claim w kind l log budget right is problem refuted lines = record {
  right = right;
  path_is = is.path;
  kind_is = is.kind_is;
  faithful = subst (λ q. IsFaithfulTo q claim l) problem is.faithful;
  ends = refutation-right (clauses_of l) budget log refuted;
  lines_in = lines;
}

pub unknown-here : (p : Problem) (claim : Claim) (l : Leaf) (log : List Line) (budget : ℕ) → IsFaithfulTo p claim l → (l.kind ≡ Whole) ⊎ (l.path ≢ []) → IsUnknown (clauses_of l) l.inputs budget log → budget ≡ p.budget
    → IsUnknownAt p claim l × IsUnknown (clauses_of l) (free_bits p) p.budget log
unknown-here p claim l log budget f place u is = (
  record { faithful = f; place = place },
  subst (λ b. IsUnknown (clauses_of l) (free_bits p) b log) is (subst (λ i. IsUnknown (clauses_of l) i budget log) f.inputs u),
)

-- a cut is faithful to each claim
pub cut-for : (w : Walked) (claim : Claim) (l : Leaf) → IsLeafOf w Cut l → IsLeafFor w claim Cut l
cut-for w claim l is = record { path = is.path; kind_is = is.kind_is; faithful = cut-faithful w.problem (agree w.problem) claim l is.kind_is is.faithful }

-- ---- where the judge begins

pub begun-placed : (p : Problem) (claim : Claim) (w : Walked) → w.problem ≡ p → w.path ≡ [] → w.spent ≡ false → IsPlaced p claim w [] [] []
begun-placed p claim w problem path spent = record {
  problem = problem;
  unspent = spent;
  climb = [];
  climb_path = sym path;
  climb_nodes = refl;
  next = ap Some (sym path);
  tree = record {
    covered = refl;
    leaves = record { paths = refl; kinds = refl; faithful = All-nil (IsFaithfulTo p claim) };
    right = refl;
    refuted = refl;
  };
  ranges = All-nil IsNode;
  starts_are = record { allowed = All-nil (λ s. allows p s ≡ true); answers = refl; ordered = λ i j d below inside. absurd (omega (arith, inside)) };
  few = omega arith;
  left = All-nil (λ q. is_left_of q w.path ≡ true);
}
