-- What the lines of a certificate tell, and the nodes that their events tell.
use Rattle.std.proofs.Common.{◌≡◌, ℕ, suc, ◌+◌, ◌≤◌, List, [], ◌∷◌, ◌++◌, length, map, Some, None, refl, sym, ap, ◌∙◌, subst, arith, append_assoc, append-nil, length-append, add-zero}
use Rattle.std.specs.Prelude.{Ok, Err}
use Rattle.jd_logic.specs.declared.Line.{Line}
use Rattle.jd_text.specs.Readings.{read_lines}
use Rattle.jd_trees.specs.declared.Kind.{Kind}
use Rattle.jd_trees.specs.declared.Kind.TheVariants as kinds
use Rattle.jd_trees.specs.declared.Node.{Node}
use Rattle.jd_trees.specs.declared.Node.TheVariants as nodes_as
use Rattle.jd_trees.specs.declared.Spot.{Spot}
use Rattle.jd_trees.specs.declared.CertEvent.{CertEvent}
use Rattle.jd_trees.specs.declared.CertEvent.TheVariants.{Nothing, Fork, Leaf, Cut, Proof, End}
use Rattle.jd_trees.specs.Trees.{node}
use Rattle.jd_trees.specs.CertLines.{Said, said}
use Rattle.jd_trees.specs.CertTexts.{Told, with_event, told_by, with_said, with_cert_line}
use Rattle.jd_trees.specs.Events.{node_events, events_of, counted, EventsTo, after_event, events_after}

-- ---- what events tell

told-append : (t : Told) (xs ys : List CertEvent) → told_by t (xs ++ ys) ≡ told_by (told_by t xs) ys
told-append t [] ys = refl
told-append t (x ∷ xs) ys = told-append (with_event t x) xs ys

told-counted : (t : Told) (event : CertEvent) (more : List CertEvent) → told_by (with_event t event) more ≡ told_by t (counted event ++ more)
told-counted t Nothing more = refl
told-counted t Fork more = refl
told-counted t Leaf more = refl
told-counted t Cut more = refl
told-counted t (Proof line) more = refl
told-counted t End more = refl

abbrev told : List Node → Kind → List Line → Told
told nodes kind log = record { nodes = nodes; kind = kind; log = log }

log-told : (nodes : List Node) (kind : Kind) (log more : List Line) → told_by (told nodes kind log) (map (λ line. Proof line) more) ≡ told nodes kind (log ++ more)
log-told nodes kind log [] = ap (told nodes kind) (sym (append-nil log))
log-told nodes kind log (line ∷ more) = log-told nodes kind (log ++ line ∷ []) more ∙ ap (told nodes kind) (append_assoc log (line ∷ []) more)

ended-told : (nodes : List Node) (kind : Kind) (log : List Line) → (told_by (told nodes kind []) (map (λ line. Proof line) log ++ End ∷ [])).nodes ≡ nodes ++ node kind log ∷ []
ended-told nodes kind log =
    ap (λ (t : Told). t.nodes) (told-append (told nodes kind []) (map (λ line. Proof line) log) (End ∷ []) ∙ ap (λ t. told_by t (End ∷ [])) (log-told nodes kind [] log))

node-told : (t : Told) (n : Node) → (told_by t (node_events n)).nodes ≡ t.nodes ++ n ∷ []
node-told t nodes_as.Fork = refl
node-told t (nodes_as.Leaf log) = ended-told t.nodes kinds.Whole log
node-told t (nodes_as.Cut log) = ended-told t.nodes kinds.Cut log

-- the events of nodes tell the nodes
pub nodes-told : (t : Told) (more : List Node) → (told_by t (events_of more)).nodes ≡ t.nodes ++ more
nodes-told t [] = sym (append-nil t.nodes)
nodes-told t (n ∷ more) =
    ap (λ (t : Told). t.nodes) (told-append t (node_events n) (events_of more)) ∙ nodes-told (told_by t (node_events n)) more
    ∙ ap (λ ns. ns ++ more) (node-told t n) ∙ append_assoc t.nodes (n ∷ []) more

-- ---- what lines tell

some-same : {A : Type 0} (x y : A) → Some x ≡ Some y → x ≡ y
some-same x y e = cc

none-some : {A : Type 0} (x : A) → None ≡ Some x → ⊥
none-some x e = cc

-- what is read of lines from one reading on, and of the rest from another
abbrev Reads : List (List (List ℕ)) → List (List (List ℕ)) → ℕ → Spot → Told → ℕ → Spot → Told → Type 0
Reads lines rest n spot t m end u =
    read_lines with_cert_line n (record { spot = spot; told = t }) (lines ++ rest) ≡ read_lines with_cert_line m (record { spot = end; told = u }) rest

abbrev ReadsAll : List (List (List ℕ)) → List (List (List ℕ)) → ℕ → Type 0
ReadsAll lines rest n = (spot : Spot) (t : Told) (events : List CertEvent) (end : Spot) → events_after spot lines ≡ Some (events, end) → Reads lines rest n spot t (n + length lines) end (told_by t events)

-- lines without a fault are read, whatever follows
pub lines-told : (lines rest : List (List (List ℕ))) (number : ℕ) (spot end : Spot) (t : Told) (events : List CertEvent) → events_after spot lines ≡ Some (events, end)
    → Reads lines rest number spot t (number + length lines) end (told_by t events)
lines-told [] rest number spot end t events e =
    subst (λ (q : List CertEvent × Spot). Reads [] rest number spot t (number + 0) q.1 (told_by t q.0)) (some-same ([], spot) (events, end) e)
    (ap (λ n. read_lines with_cert_line n (record { spot = spot; told = t }) rest) (sym (add-zero number)))
lines-told (words ∷ lines) rest number spot end t events e =
    by (said spot words) (λ next u es after at. lines-told lines rest (suc number) next after u es at) e
  where
    on : (event : CertEvent) (next : Spot) → ReadsAll lines rest (suc number) → (to : EventsTo) → events_after next lines ≡ to → after_event event to ≡ Some (events, end)
        → Reads lines rest (suc number) next (with_event t event) (number + suc (length lines)) end (told_by t events)
    on event next more None at e = absurd (none-some (events, end) e)
    on event next more (Some r) at e =
        let count : suc number + length lines ≡ number + suc (length lines) = omega arith in
        subst (λ (q : List CertEvent × Spot). Reads lines rest (suc number) next (with_event t event) (number + suc (length lines)) q.1 (told_by t q.0)) (some-same (counted event ++ r.0, r.1) (events, end) e)
        (more next (with_event t event) r.0 r.1 at
        ∙ ap (λ n. read_lines with_cert_line n (record { spot = r.1; told = told_by (with_event t event) r.0 }) rest) count
        ∙ ap (λ u. read_lines with_cert_line (number + suc (length lines)) (record { spot = r.1; told = u }) rest) (told-counted t event r.0))

    by : (what : Said) → ReadsAll lines rest (suc number) → ◌≡◌ {A = EventsTo} (elim what [ None ↦ None | Some p ↦ after_event p.0 (events_after p.1 lines) ]) (Some (events, end))
        → elim (with_said t what) [ Err cause ↦ Err (number, cause) | Ok next ↦ read_lines with_cert_line (suc number) next (lines ++ rest) ]
        ≡ read_lines with_cert_line (number + suc (length lines)) (record { spot = end; told = told_by t events }) rest
    by None more e = absurd (none-some (events, end) e)
    by (Some p) more e = on p.0 p.1 more (events_after p.1 lines) refl e

-- ---- one line more

-- events before what more lines tell
abbrev before : List CertEvent → EventsTo → EventsTo
before events None = None
before events (Some r) = Some (events ++ r.0, r.1)

abbrev then_lines : EventsTo → List (List (List ℕ)) → EventsTo
then_lines None more = None
then_lines (Some r) more = before r.0 (events_after r.1 more)

before-none : (to : EventsTo) → before [] to ≡ to
before-none None = refl
before-none (Some r) = refl

after-before : (event : CertEvent) (events : List CertEvent) (to : EventsTo) → after_event event (before events to) ≡ before (counted event ++ events) to
after-before event events None = refl
after-before event events (Some r) = ap (λ es. Some (es, r.1)) (sym (append_assoc (counted event) events r.0))

after-then : (event : CertEvent) (to : EventsTo) (more : List (List (List ℕ))) → after_event event (then_lines to more) ≡ then_lines (after_event event to) more
after-then event None more = refl
after-then event (Some r) more = after-before event r.0 (events_after r.1 more)

events-append : (spot : Spot) (lines more : List (List (List ℕ))) → events_after spot (lines ++ more) ≡ then_lines (events_after spot lines) more
events-append spot [] more = sym (before-none (events_after spot more))
events-append spot (words ∷ lines) more = by (said spot words) (λ next. events-append next lines more)
  where
    by : (what : Said) → ((next : Spot) → events_after next (lines ++ more) ≡ then_lines (events_after next lines) more)
        → ◌≡◌ {A = EventsTo} (elim what [ None ↦ None | Some p ↦ after_event p.0 (events_after p.1 (lines ++ more)) ])
        (then_lines (elim what [ None ↦ None | Some p ↦ after_event p.0 (events_after p.1 lines) ]) more)
    by None on = refl
    by (Some p) on = ap (after_event p.0) (on p.1) ∙ after-then p.0 (events_after p.1 lines) more

one-event : (spot new : Spot) (words : List (List ℕ)) (event : CertEvent) → said spot words ≡ Some (event, new) → events_after spot (words ∷ []) ≡ Some (counted event ++ [], new)
one-event spot new words event e =
    ap {B = EventsTo} (λ (what : Said). elim what [ None ↦ None | Some p ↦ after_event p.0 (Some ([], p.1)) ]) e

pub event-more : (lines : List (List (List ℕ))) (words : List (List ℕ)) (spot mid new : Spot) (events : List CertEvent) (event : CertEvent)
    → events_after spot lines ≡ Some (events, mid) → said mid words ≡ Some (event, new) → events_after spot (lines ++ words ∷ []) ≡ Some (events ++ counted event, new)
event-more lines words spot mid new events event told says =
    events-append spot lines (words ∷ []) ∙ ap (λ to. then_lines to (words ∷ [])) told ∙ ap (before events) (one-event mid new words event says)
    ∙ ap (λ es. Some (events ++ es, new)) (append-nil (counted event))

-- an event that is one is counted
pub counted-one : (event : CertEvent) → (event ≡ Nothing → ⊥) → counted event ≡ event ∷ []
counted-one Nothing is = absurd (is refl)
counted-one Fork is = refl
counted-one Leaf is = refl
counted-one Cut is = refl
counted-one (Proof line) is = refl
counted-one End is = refl

-- ---- as many events as lines, at most

counted-few : (event : CertEvent) → length (counted event) ≤ 1
counted-few Nothing = omega arith
counted-few Fork = omega arith
counted-few Leaf = omega arith
counted-few Cut = omega arith
counted-few (Proof line) = omega arith
counted-few End = omega arith

pub events-few : (spot end : Spot) (lines : List (List (List ℕ))) (events : List CertEvent) → events_after spot lines ≡ Some (events, end) → length events ≤ length lines
events-few spot end [] events e = subst (λ (q : List CertEvent × Spot). length q.0 ≤ 0) (some-same ([], spot) (events, end) e) (omega arith)
events-few spot end (words ∷ lines) events e = by (said spot words) (λ next after es at. events-few next after lines es at) e
  where
    on : (event : CertEvent) (to : EventsTo) → ((es : List CertEvent) (after : Spot) → to ≡ Some (es, after) → length es ≤ length lines)
        → after_event event to ≡ Some (events, end) → length events ≤ suc (length lines)
    on event None few e = absurd (none-some (events, end) e)
    on event (Some r) few e =
        let rest : length r.0 ≤ length lines = few r.0 r.1 refl in
        subst (λ (q : List CertEvent × Spot). length q.0 ≤ suc (length lines)) (some-same (counted event ++ r.0, r.1) (events, end) e)
        (omega (arith, rest, counted-few event, length-append (counted event) r.0))

    by : (what : Said) → ((next after : Spot) (es : List CertEvent) → events_after next lines ≡ Some (es, after) → length es ≤ length lines)
        → ◌≡◌ {A = EventsTo} (elim what [ None ↦ None | Some p ↦ after_event p.0 (events_after p.1 lines) ]) (Some (events, end)) → length events ≤ suc (length lines)
    by None few e = absurd (none-some (events, end) e)
    by (Some p) few e = on p.0 (events_after p.1 lines) (λ es after at. few p.1 after es at) e
