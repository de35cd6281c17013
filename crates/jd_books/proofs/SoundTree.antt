-- A start's answers lead through a tree that covers to one of its leaves or cuts.
use Rattle.std.proofs.Common.{◌≡◌, zero, suc, ◌+◌, Bool, true, false, not, List, [], ◌∷◌, ◌++◌, length, map, None, refl, sym, ap, ◌∙◌, subst, arith, append_assoc, append-nil, length-append}
use Rattle.std.specs.Prelude.{All}
use Rattle.std.specs.List.{list_all}
use Rattle.std.proofs.lemmas.Bool.{false≢true}
use Rattle.std.proofs.lemmas.List.{get_or_append_left, get_or-append-add, length-map}
use Rattle.std.proofs.lemmas.List.Elements.{All-map, All-head, All-tail}
use Rattle.std.proofs.lemmas.List.Folds.{list_all-append}
use Rattle.hp_model.specs.State.{Data}
use Rattle.hp_model.specs.Run.{run}
use Rattle.jd_circuit.specs.Meaning.{lit_value}
use Rattle.jd_circuit.specs.Net.{Solves, eval, at, values_of}
use Rattle.jd_circuit.proofs.Values.{bits_solve}
use Rattle.jd_model.specs.Problems.{Problem, fields, numbers, bits, free_bits}
use Rattle.jd_text.proofs.Tests.{left-part}
use Rattle.jd_model.specs.Assumptions.{meets}
use Rattle.jd_model.specs.Problems.{in_range, allows}
use Rattle.jd_model.specs.Seen.{machine_at}
use Rattle.jd_model.proofs.FreeBits.{length-bits_in}
use Rattle.jd_model.proofs.FreeStarts.{numbers-in-fields}
use Rattle.jd_trees.specs.declared.Kind.{Kind}
use Rattle.jd_trees.specs.declared.Kind.TheVariants.{Whole, Cut}
use Rattle.jd_books.specs.Paths.{reached, after_path, AsksAfter, answers_of_start, begins}
use Rattle.jd_books.specs.Clauses.{are_true, is_true_clause, gates_clauses, truths_clauses, IsUnsatisfiable}
use Rattle.jd_trees.specs.Trees.{Tree, fork_of, node_of}
use Rattle.jd_books.specs.Trees.{Place, with_answer, places_from, places, CoversFrom, is_asking}
use Rattle.jd_books.specs.Leaves.{Leaf, net_of, clauses_of, guards_hold, IsLeaf, Claim, IsFaithfulTo}
use Rattle.jd_books.specs.Checks.{LogEnd, bad_at, right_lines, log_end, or_bad, or_open, first_bad, first_open}
use Rattle.jd_books.specs.Laws.{Soundness}
use Rattle.jd_books.proofs.Fronts.{begins-front}
use Rattle.jd_books.proofs.ClausesTrue.{gates-true, truths-true, both}
use Rattle.jd_books.proofs.AlongRun.{after-own}
use Rattle.jd_books.proofs.Covering.{covers-from}
use Rattle.jd_books.proofs.Refuting.{refuting}

-- where control asks, the start has one more answer
more-answers : (G : Type 0) (p : Problem) (s : Data) (path rest : List Bool) → AsksAfter p path → answers_of_start p s ≡ path ++ rest
    → ((answer : Bool) (more : List Bool) → rest ≡ answer ∷ more → G) → G
more-answers G p s path [] asked e goes =
    let whole : answers_of_start p s ≡ path = e ∙ append-nil path in
    let over : after_path p path ≡ reached (run p.steps (machine_at p p.second s)).0 [] = ap (after_path p) (sym whole) ∙ after-own p s in
    absurd (false≢true (sym (ap is_asking (sym asked ∙ over))))
more-answers G p s path (answer ∷ more) asked e goes = goes answer more refl

All-left : {X : Type 0} (P : X → Type 0) (xs ys : List X) → All P (xs ++ ys) → All P xs
All-left P xs ys all k d inside = subst P (get_or_append_left xs ys d k inside) (all k d (omega (arith, length-append xs ys)))

All-right : {X : Type 0} (P : X → Type 0) (xs ys : List X) → All P (xs ++ ys) → All P ys
All-right P xs ys all k d inside = subst P (get_or-append-add xs ys k d) (all (length xs + k) d (omega (arith, length-append xs ys)))

abbrev pub GoesOn : Type 0 → Problem → Data → List Bool → Type 0
GoesOn G p s path = begins path (answers_of_start p s) ≡ true → G

abbrev pub GoesOnAt : Type 0 → Problem → Data → Place → Type 0
GoesOnAt G p s place = GoesOn G p s place.path

-- what follows from each place that begins the answers, follows
pub arrives : (G : Type 0) (p : Problem) (s : Data) (tree : Tree) (path rest : List Bool) → CoversFrom p path tree → answers_of_start p s ≡ path ++ rest
    → All (GoesOnAt G p s) (places_from path tree) → G
arrives G p s (node_of kind log) path rest covers e all =
    all 0 (record { path = path; kind = kind; log = log }) (omega arith) (ap (begins path) e ∙ begins-front path rest)
arrives G p s (fork_of at_no at_yes) path rest covers e all =
    more-answers G p s path rest covers.0 e (λ answer more is.
    let whole : answers_of_start p s ≡ with_answer path answer ++ more = e ∙ ap (λ r. path ++ r) is ∙ sym (append_assoc path (answer ∷ []) more) in
    (elim answer as (λ b. answers_of_start p s ≡ with_answer path b ++ more → G) [
      | false ↦ λ w. arrives G p s at_no (with_answer path false) more covers.1 w (All-left (GoesOnAt G p s) (places_from (with_answer path false) at_no) (places_from (with_answer path true) at_yes) all)
      | true ↦ λ w. arrives G p s at_yes (with_answer path true) more covers.2 w (All-right (GoesOnAt G p s) (places_from (with_answer path false) at_no) (places_from (with_answer path true) at_yes) all)
    ]) whole)

-- ---- a leaf

pub length-bits : (p : Problem) (s : Data) → in_range p s ≡ true → length (bits p s) ≡ free_bits p
length-bits p s h = length-bits_in (fields p) (numbers s) (numbers-in-fields p s h)

-- the values of a leaf's circuit make all its clauses true where its guards and `diff` are true
leaf-true : (l : Leaf) (bs : List Bool) → length bs ≡ l.inputs → IsLeaf l → guards_hold l bs ≡ true → eval (net_of l) bs l.diff ≡ true
    → are_true (at (values_of bs l.gates)) (clauses_of l) ≡ true
leaf-true l bs n leaf g d =
    let all = at (values_of bs l.gates) in
    let solves : Solves (net_of l) all = bits_solve (net_of l) bs n leaf.gates in
    let gates : are_true all (gates_clauses (suc l.inputs) l.gates) ≡ true = gates-true all l.inputs l.gates leaf.gates solves.gates in
    let truths : list_all (lit_value all) (l.guards ++ l.diff ∷ []) ≡ true =
    list_all-append (lit_value all) l.guards (l.diff ∷ []) ∙ both _ _ g (both _ _ d refl) in
    list_all-append (is_true_clause all) (gates_clauses (suc l.inputs) l.gates) (truths_clauses (l.guards ++ l.diff ∷ []))
    ∙ both _ _ gates (truths-true all (l.inputs + length l.gates) (l.guards ++ l.diff ∷ []) leaf.literals truths)

-- an allowed start is in range
pub ranged : (p : Problem) (s : Data) → allows p s ≡ true → in_range p s ≡ true
ranged p s h = left-part (in_range p s) (meets p.assumed s) h

-- the guards of a leaf are true from an allowed start that comes there
pub guards-true : (p : Problem) (claim : Claim) (l : Leaf) (s : Data) → IsFaithfulTo p claim l → allows p s ≡ true → begins l.path (answers_of_start p s) ≡ true → guards_hold l (bits p s) ≡ true
guards-true p claim l s f allowed b = f.guards s (ranged p s allowed) ∙ both _ _ allowed b

-- where a leaf's clauses can't all be true, no start that comes to it makes `diff` true
no-difference : (p : Problem) (claim : Claim) (l : Leaf) (s : Data) → IsFaithfulTo p claim l → IsUnsatisfiable (clauses_of l) → allows p s ≡ true
    → begins l.path (answers_of_start p s) ≡ true → eval (net_of l) (bits p s) l.diff ≡ true → ⊥
no-difference p claim l s f u allowed b d =
    let made : are_true (at (values_of (bits p s) l.gates)) (clauses_of l) ≡ true =
    leaf-true l (bits p s) (length-bits p s (ranged p s allowed) ∙ sym f.inputs) f.leaf (guards-true p claim l s f allowed b) d in
    false≢true (sym (u (at (values_of (bits p s) l.gates))) ∙ made)

-- so none comes to a cut
pub cut-refuted : (p : Problem) (claim : Claim) (l : Leaf) (s : Data) → IsFaithfulTo p claim l → IsUnsatisfiable (clauses_of l) → allows p s ≡ true
    → begins l.path (answers_of_start p s) ≡ true → l.kind ≡ Cut → ⊥
cut-refuted p claim l s f u allowed b is = no-difference p claim l s f u allowed b (ap (eval (net_of l) (bits p s)) (f.cut is))

-- and of one that comes to a leaf the claim holds
pub leaf-met : (p : Problem) (claim : Claim) (l : Leaf) (s : Data) → IsFaithfulTo p claim l → IsUnsatisfiable (clauses_of l) → allows p s ≡ true
    → begins l.path (answers_of_start p s) ≡ true → claim s ≡ true
leaf-met p claim l s f u allowed b = by_kind l.kind refl
  where
    by_claim : (a : Bool) → eval (net_of l) (bits p s) l.diff ≡ not a → a ≡ true
    by_claim true d = refl
    by_claim false d = absurd (no-difference p claim l s f u allowed b d)

    by_kind : (k : Kind) → l.kind ≡ k → claim s ≡ true
    by_kind Whole is = by_claim (claim s) (f.whole is s (ranged p s allowed) (guards-true p claim l s f allowed b)).differs
    by_kind Cut is = absurd (cut-refuted p claim l s f u allowed b is)

-- ---- a book

-- where all lines are right and none leaves a leaf open, each leaf's clauses can't all be true
pub each-refuted : (book : List Leaf) (ps : List Place) → length book ≡ length ps → first_bad book ps ≡ None → first_open book ps ≡ None → All (λ l. IsUnsatisfiable (clauses_of l)) book
each-refuted [] ps n bad open_place = λ k d inside. absurd (omega (arith, inside))
each-refuted (leaf ∷ book) [] n bad open_place = absurd (omega (arith, n))
each-refuted (leaf ∷ book) (place ∷ ps) n bad open_place =
    by_end (log_end leaf place.log) refl bad open_place (each-refuted book ps (omega (arith, n)))
  where
    cons-all : {X : Type 0} (P : X → Type 0) (x : X) (xs : List X) → P x → All P xs → All P (x ∷ xs)
    cons-all P x xs h all zero d inside = h
    cons-all P x xs h all (suc k) d inside = all k d (omega (arith, inside))

    by_end : (end : LogEnd) → log_end leaf place.log ≡ end → or_bad place.path end (first_bad book ps) ≡ None → or_open place.path end (first_open book ps) ≡ None
        → (first_bad book ps ≡ None → first_open book ps ≡ None → All (λ l. IsUnsatisfiable (clauses_of l)) book)
        → All (λ l. IsUnsatisfiable (clauses_of l)) (leaf ∷ book)
    by_end (bad_at m cause) e bad open_place more = cc
    by_end (right_lines false) e bad open_place more = cc
    by_end (right_lines true) e bad open_place more = cons-all (λ l. IsUnsatisfiable (clauses_of l)) leaf book (refuting (clauses_of leaf) 1 place.log e) (more bad open_place)

pub All-unmap : {X Y : Type 0} (P : X → Type 0) (f : Y → X) (ys : List Y) → All P (map f ys) → All (λ y. P (f y)) ys
All-unmap P f [] all k d inside = absurd (omega (arith, inside))
All-unmap P f (y ∷ ys) all zero d inside = All-head P (f y) (map f ys) all
All-unmap P f (y ∷ ys) all (suc k) d inside = All-unmap P f ys (All-tail P (f y) (map f ys) all) k d (omega (arith, inside))

pub sound : Soundness
sound p claim tree book proved s allowed =
    let same : map (λ l. l.path) book ≡ map (λ place. place.path) (places tree) = proved.covered.leaves.paths in
    let refuted : All (λ l. IsUnsatisfiable (clauses_of l)) book =
    each-refuted book (places tree) (sym (length-map book (λ l. l.path)) ∙ ap length same ∙ length-map (places tree) (λ place. place.path)) proved.right proved.refuted in
    let at_leaves : All (GoesOn (claim s ≡ true) p s) (map (λ l. l.path) book) =
    All-map (GoesOn (claim s ≡ true) p s) (λ l. l.path) book
    (λ k d inside. leaf-met p claim _ s (proved.covered.leaves.faithful k d inside) (refuted k d inside) allowed) in
    arrives (claim s ≡ true) p s tree [] (answers_of_start p s) (covers-from p tree [] proved.covered.covers) refl
    (All-unmap (GoesOn (claim s ≡ true) p s) (λ place. place.path) (places tree) (subst (All (GoesOn (claim s ≡ true) p s)) same at_leaves))
