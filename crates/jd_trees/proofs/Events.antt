-- The events of lines begin those of a tree.
use Rattle.std.proofs.Common.{◌≡◌, ℕ, zero, suc, ◌-◌, ◌<◌, ◌==◌, Bool, true, false, not, ◌&&◌, if◌then◌else◌, List, [], ◌∷◌, ◌++◌, length, Option, Some, None, refl, sym, ap, ◌∙◌, subst, arith, append_assoc, append-nil, codes}
use Rattle.std.proofs.lemmas.List.{map-append}
use Rattle.std.proofs.lemmas.List.Concat.{flat_map-append}
use Rattle.std.proofs.lemmas.Bool.Decides.{nat_tests}
use Rattle.jd_logic.specs.declared.Line.{Line}
use Rattle.jd_logic.specs.LratText.{line_of}
use Rattle.jd_text.specs.Words.{are_texts}
use Rattle.jd_trees.specs.declared.Kind.{Kind}
use Rattle.jd_trees.specs.declared.Kind.TheVariants as kinds
use Rattle.jd_trees.specs.declared.Node.{Node}
use Rattle.jd_trees.specs.declared.Node.TheVariants as nodes
use Rattle.jd_trees.specs.declared.Spot.{Spot}
use Rattle.jd_trees.specs.declared.CertEvent.{CertEvent}
use Rattle.jd_trees.specs.declared.CertEvent.TheVariants.{Nothing, Fork, Leaf, Cut, Proof, End}
use Rattle.jd_trees.specs.Trees.{Tree, node_of, node}
use Rattle.jd_trees.specs.CertLines.{Said, said, first_spot, first_words, only, first_line, tree_line, log_line, begun_line, is_whole}
use Rattle.jd_trees.specs.CertTexts.{Told, nothing_told, with_event}
use Rattle.jd_trees.specs.Events.{begun_events, node_events, events_of, counted, EventsTo, after_event, events_after, IsTreeSoFar}
use Rattle.jd_trees.proofs.Forests.{preorders, IsTreeOf, IsRight, first-right, said-stays}

-- what was told, as events
abbrev open_events : Bool → Kind → List Line → List CertEvent
open_events true kind log = begun_events kind log
open_events false kind log = []

abbrev so_far : Told → Spot → List CertEvent
so_far told spot = events_of told.nodes ++ open_events spot.inside told.kind told.log

abbrev Adds : Told → Spot → Said → Type 0
Adds told spot what = (p : CertEvent × Spot) → what ≡ Some p → so_far (with_event told p.0) p.1 ≡ so_far told spot ++ counted p.0

some-same : {A : Type 0} (x y : A) → Some x ≡ Some y → x ≡ y
some-same x y e = cc

none-some : {A : Type 0} (x : A) → None ≡ Some x → ⊥
none-some x e = cc

bad : (told : Told) (spot : Spot) → Adds told spot None
bad told spot p e = absurd (none-some p e)

good : (told : Told) (spot : Spot) (event : CertEvent) (next : Spot) → so_far (with_event told event) next ≡ so_far told spot ++ counted event → Adds told spot (Some (event, next))
good told spot event next is p e =
    subst (λ q. so_far (with_event told q.0) q.1 ≡ so_far told spot ++ counted q.0) (some-same (event, next) p e) is

either : (told : Told) (spot : Spot) (b : Bool) (one other : Said) → (b ≡ true → Adds told spot one) → (b ≡ false → Adds told spot other) → Adds told spot (if b then one else other)
either told spot true one other h k = h refl
either told spot false one other h k = k refl

-- ---- one event more

events_of-more : (told more : List Node) → events_of (told ++ more) ≡ events_of told ++ events_of more
events_of-more told more = flat_map-append node_events told more

forked : (told : List Node) → events_of (told ++ nodes.Fork ∷ []) ++ [] ≡ (events_of told ++ []) ++ Fork ∷ []
forked told =
    append-nil (events_of (told ++ nodes.Fork ∷ [])) ∙ events_of-more told (nodes.Fork ∷ []) ∙ ap (λ es. es ++ Fork ∷ []) (sym (append-nil (events_of told)))

begins : (told : List CertEvent) (event : CertEvent) → told ++ event ∷ [] ≡ (told ++ []) ++ event ∷ []
begins told event = ap (λ es. es ++ event ∷ []) (sym (append-nil told))

begun-more : (kind : Kind) (log : List Line) (line : Line) → begun_events kind (log ++ line ∷ []) ≡ begun_events kind log ++ Proof line ∷ []
begun-more kinds.Whole log line = ap (λ es. Leaf ∷ es) (map-append (λ line. Proof line) log (line ∷ []))
begun-more kinds.Cut log line = ap (λ es. Cut ∷ es) (map-append (λ line. Proof line) log (line ∷ []))

proved : (told : List CertEvent) (kind : Kind) (log : List Line) (line : Line) → told ++ begun_events kind (log ++ line ∷ []) ≡ (told ++ begun_events kind log) ++ Proof line ∷ []
proved told kind log line =
    ap (λ es. told ++ es) (begun-more kind log line) ∙ sym (append_assoc told (begun_events kind log) (Proof line ∷ []))

node-events : (kind : Kind) (log : List Line) → node_events (node kind log) ≡ begun_events kind log ++ End ∷ []
node-events kinds.Whole log = refl
node-events kinds.Cut log = refl

node-before : (kind : Kind) (log : List Line) (more : List Node) → events_of (node kind log ∷ more) ≡ begun_events kind log ++ End ∷ events_of more
node-before kind log more =
    ap (λ es. es ++ events_of more) (node-events kind log) ∙ append_assoc (begun_events kind log) (End ∷ []) (events_of more)

ended : (told : List Node) (kind : Kind) (log : List Line) → events_of (told ++ node kind log ∷ []) ++ [] ≡ (events_of told ++ begun_events kind log) ++ End ∷ []
ended told kind log =
    append-nil (events_of (told ++ node kind log ∷ [])) ∙ events_of-more told (node kind log ∷ [])
    ∙ ap (λ es. events_of told ++ es) (node-before kind log [])
    ∙ sym (append_assoc (events_of told) (begun_events kind log) (End ∷ []))

-- ---- one line

module _ (told : Told) (spot : Spot) where
  first-adds : (words : List (List ℕ)) → Adds told spot (first_line spot words)
  first-adds words = either told spot (are_texts first_words words) _ _
      (λ h. good told spot Nothing (record spot { begun = true }) (sym (append-nil (so_far told spot))))
      (λ h. bad told spot)

  tree-adds : (words : List (List ℕ)) → spot.inside ≡ false → Adds told spot (tree_line spot words)
  tree-adds words outside = either told spot (spot.due == 0) _ _ (λ h. bad told spot)
      (λ some. either told spot (are_texts (only (codes "fork")) words) _ _
      (λ h. good told spot Fork (record spot { due = suc spot.due }) (rw outside (forked told.nodes)))
      (λ h. either told spot (are_texts (only (codes "leaf")) words) _ _
      (λ h. good told spot Leaf (record spot { inside = true }) (rw outside (begins (events_of told.nodes) Leaf)))
      (λ h. either told spot (are_texts (only (codes "cut")) words) _ _
      (λ h. good told spot Cut (record spot { inside = true }) (rw outside (begins (events_of told.nodes) Cut)))
      (λ h. bad told spot))))

  proof-adds : (line : Option Line) → spot.inside ≡ true → Adds told spot (elim line [ None ↦ None | Some line ↦ Some (Proof line, spot) ])
  proof-adds None inside = bad told spot
  proof-adds (Some l) inside = good told spot (Proof l) spot (rw inside (proved (events_of told.nodes) told.kind told.log l))

  log-adds : (words : List (List ℕ)) → spot.inside ≡ true → Adds told spot (log_line spot words)
  log-adds words inside = either told spot (are_texts (only (codes "end")) words) _ _
      (λ h. good told spot End (record spot { due = spot.due - 1; inside = false }) (rw inside (ended told.nodes told.kind told.log)))
      (λ h. proof-adds (line_of words) inside)

  begun-adds : (words : List (List ℕ)) → Adds told spot (begun_line spot words)
  begun-adds words = either told spot spot.inside _ _ (λ h. log-adds words h) (λ h. tree-adds words h)

  said-adds : (words : List (List ℕ)) → Adds told spot (said spot words)
  said-adds [] = good told spot Nothing spot (sym (append-nil (so_far told spot)))
  said-adds (word ∷ words) = either told spot spot.begun _ _ (λ h. begun-adds (word ∷ words)) (λ h. first-adds (word ∷ words))

-- ---- all lines

-- what was told before lines, with their events, is told after them
record Reaches (before : List CertEvent) (end : Spot) : Type 0 where
  pub told : Told
  pub right : IsRight told end
  pub same : so_far told end ≡ before

lines-reach : (lines : List (List (List ℕ))) (told : Told) (spot : Spot) (events : List CertEvent) (end : Spot) → IsRight told spot
    → events_after spot lines ≡ Some (events, end) → Reaches (so_far told spot ++ events) end
lines-reach [] told spot events end right e =
    subst (λ p. Reaches (so_far told spot ++ p.0) p.1) (some-same ([], spot) (events, end) e)
    (record { told = told; right = right; same = sym (append-nil (so_far told spot)) })
lines-reach (words ∷ lines) told spot events end right e =
    by (said spot words) (said-stays told spot right words) (said-adds told spot words) (λ t s es f is. lines-reach lines t s es f is) e
  where
    Rest : Type 0
    Rest = (t : Told) (s : Spot) (es : List CertEvent) (f : Spot) → IsRight t s → events_after s lines ≡ Some (es, f) → Reaches (so_far t s ++ es) f

    on : (event : CertEvent) (next : Spot) → IsRight (with_event told event) next → so_far (with_event told event) next ≡ so_far told spot ++ counted event
        → (rest : EventsTo) → events_after next lines ≡ rest → Rest → after_event event rest ≡ Some (events, end) → Reaches (so_far told spot ++ events) end
    on event next stays adds None at more e = absurd (none-some (events, end) e)
    on event next stays adds (Some r) at more e =
        let there : Reaches (so_far (with_event told event) next ++ r.0) r.1 = more (with_event told event) next r.0 r.1 stays at in
        let same : so_far (with_event told event) next ++ r.0 ≡ so_far told spot ++ (counted event ++ r.0)
        = ap (λ es. es ++ r.0) adds ∙ append_assoc (so_far told spot) (counted event) r.0 in
        subst (λ p. Reaches (so_far told spot ++ p.0) p.1) (some-same (counted event ++ r.0, r.1) (events, end) e)
        (record { told = there.told; right = there.right; same = there.same ∙ same })

    by : (what : Said) → ((p : CertEvent × Spot) → what ≡ Some p → IsRight (with_event told p.0) p.1) → Adds told spot what → Rest
        → ◌≡◌ {A = EventsTo} (elim what [ None ↦ None | Some p ↦ after_event p.0 (events_after p.1 lines) ]) (Some (events, end)) → Reaches (so_far told spot ++ events) end
    by None stays adds more e = absurd (none-some (events, end) e)
    by (Some p) stays adds more e = on p.0 p.1 (stays p refl) (adds p refl) (events_after p.1 lines) refl more e

-- ---- the tree

-- so many trees, each a leaf without lines
abbrev bare : ℕ → List Tree
bare zero = []
bare (suc n) = node_of kinds.Whole [] ∷ bare n

length-bare : (n : ℕ) → length (bare n) ≡ n
length-bare zero = refl
length-bare (suc n) = ap suc (length-bare n)

both : (a b : Bool) → (a && b) ≡ true → (a ≡ true) × (b ≡ true)
both true b h = (refl, h)
both false b h = cc

not-inside : (spot : Spot) → spot.inside ≡ true → is_whole spot ≡ true → ⊥
not-inside spot inside h = apart spot.inside inside (both (spot.begun && (spot.due == 0)) (not spot.inside) h).1
  where
    apart : (b : Bool) → b ≡ true → not b ≡ true → ⊥
    apart true e n = cc
    apart false e n = cc

none-due : (spot : Spot) → is_whole spot ≡ true → spot.due ≡ 0
none-due spot h = zero-of spot.due (both spot.begun (spot.due == 0) (both (spot.begun && (spot.due == 0)) (not spot.inside) h).0).1
  where
    zero-of : (n : ℕ) → (n == 0) ≡ true → n ≡ 0
    zero-of zero e = refl
    zero-of (suc n) e = absurd (grind (arith, nat_tests, e))

outside-tree : (told : Told) (spot : Spot) → IsRight told spot → spot.inside ≡ false → IsTreeSoFar (so_far told spot) spot
outside-tree told spot right outside =
    let trees = bare spot.due in
    let whole : IsTreeOf (told.nodes ++ preorders trees) = right.grows trees (length-bare spot.due) in
    record {
      tree = whole.tree;
      to_come = events_of (preorders trees);
      is = ap (λ b. (events_of told.nodes ++ open_events b told.kind told.log) ++ events_of (preorders trees)) outside
          ∙ ap (λ es. es ++ events_of (preorders trees)) (append-nil (events_of told.nodes))
          ∙ sym (events_of-more told.nodes (preorders trees)) ∙ ap events_of (sym whole.is);
      whole = λ h. ap (λ n. events_of (preorders (bare n))) (none-due spot h);
    }

inside-tree : (told : Told) (spot : Spot) → IsRight told spot → spot.inside ≡ true → IsTreeSoFar (so_far told spot) spot
inside-tree told spot right inside =
    let trees = bare (spot.due - 1) in
    let some : 0 < spot.due = right.due inside in
    let all : length (node_of told.kind told.log ∷ trees) ≡ spot.due = let n = length-bare (spot.due - 1) in omega (arith, n, some) in
    let whole : IsTreeOf (told.nodes ++ (node told.kind told.log ∷ preorders trees)) = right.grows (node_of told.kind told.log ∷ trees) all in
    record {
      tree = whole.tree;
      to_come = End ∷ events_of (preorders trees);
      is = ap (λ b. (events_of told.nodes ++ open_events b told.kind told.log) ++ End ∷ events_of (preorders trees)) inside
          ∙ append_assoc (events_of told.nodes) (begun_events told.kind told.log) (End ∷ events_of (preorders trees))
          ∙ ap (λ es. events_of told.nodes ++ es) (sym (node-before told.kind told.log (preorders trees)))
          ∙ sym (events_of-more told.nodes (node told.kind told.log ∷ preorders trees)) ∙ ap events_of (sym whole.is);
      whole = λ h. absurd (not-inside spot inside h);
    }

tree-so-far : (told : Told) (spot : Spot) → IsRight told spot → IsTreeSoFar (so_far told spot) spot
tree-so-far told spot right = by spot.inside refl
  where
    by : (b : Bool) → spot.inside ≡ b → IsTreeSoFar (so_far told spot) spot
    by true e = inside-tree told spot right e
    by false e = outside-tree told spot right e

pub events-are-trees : (lines : List (List (List ℕ))) (events : List CertEvent) (spot : Spot) → events_after first_spot lines ≡ Some (events, spot) → IsTreeSoFar events spot
events-are-trees lines events spot e =
    let there : Reaches events spot = lines-reach lines nothing_told first_spot events spot first-right e in
    subst (λ es. IsTreeSoFar es spot) there.same (tree-so-far there.told spot there.right)
