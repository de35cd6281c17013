-- What is kept of a leaf is its cone.
use Rattle.std.proofs.Common.{◌≡◌, ◌⊎◌, inl, inr, ℕ, ◌+◌, ◌≤◌, Bool, true, false, List, [], ◌∷◌, ◌++◌, length, get_or, map, refl, sym, ap, ◌∙◌, subst, arith, length-append}
use Rattle.std.specs.Prelude.{All}
use Rattle.std.proofs.lemmas.List.{get_or-map, get_or_append_left, length-map}
use Rattle.std.proofs.lemmas.List.Elements.{All-nil, All-cons, All-head, All-tail, All-push}
use Rattle.std.proofs.Math.Seq.{get_or-append_seam}
use Rattle.jd_circuit.specs.declared.literals.Lit.{Lit}
use Rattle.jd_circuit.specs.declared.literals.Gate.{Gate}
use Rattle.jd_circuit.specs.Net.{at, eval, IsLit}
use Rattle.jd_books.specs.Leaves.{Leaf, net_of, IsLeaf}
use Rattle.std.proofs.lemmas.Bool.{false≢true}
use Rattle.jd_circuit.specs.declared.literals.Lit.TheVariants.{Const}
use Rattle.jd_circuit.specs.Meaning.{variable}
use Rattle.jd_cones.specs.Cones.{IsConeOf, IsNeeded}
use Rattle.jd_cones.specs.Marks.{gate_at, is_marked, with_mark, AreNaming, HasArgument, IsForGate, IsGrown, IsClosed, AreMarks}
use Rattle.jd_cones.proofs.Marks.{arguments-at, mark-one, mark-only, marked-one, stays-marked}
use Rattle.jd_cones.specs.Renaming.{number_in, renamed, IsRenaming}
use Rattle.jd_cones.proofs.Numbers.{argument-high, value-renamed, variable-renamed, literal-renamed}

pub guards-of : (n : ℕ) (ls : List Lit) (l : Lit) → All (IsLit n) (ls ++ l ∷ []) → All (IsLit n) ls
guards-of n ls l all = λ i d inside. subst (IsLit n) (get_or_append_left ls (l ∷ []) d i inside) (all i d (omega (arith, inside, length-append ls (l ∷ []))))

pub last-of : (n : ℕ) (ls : List Lit) (l : Lit) → All (IsLit n) (ls ++ l ∷ []) → IsLit n l
last-of n ls l all = subst (IsLit n) (get_or-append_seam ls l [] l) (all (length ls) l (omega (arith, length-append ls (l ∷ []))))

-- what holds of each literal's new name, and values that stay
all-renamed : (P : Lit → Type 0) (rename : Lit → Lit) (ls : List Lit) → All (λ l. P (rename l)) ls → All P (map rename ls)
all-renamed P rename [] all = All-nil P
all-renamed P rename (l ∷ ls) all = All-cons P (rename l) (map rename ls) (All-head (λ l. P (rename l)) l ls all) (all-renamed P rename ls (All-tail (λ l. P (rename l)) l ls all))

values-stay : (f g : Lit → Bool) (rename : Lit → Lit) (ls : List Lit) → All (λ l. f (rename l) ≡ g l) ls → map f (map rename ls) ≡ map g ls
values-stay f g rename [] all = refl
values-stay f g rename (l ∷ ls) all =
    ap (λ b. b ∷ map f (map rename ls)) (All-head (λ l. f (rename l) ≡ g l) l ls all)
    ∙ ap (λ bs. g l ∷ bs) (values-stay f g rename ls (All-tail (λ l. f (rename l) ≡ g l) l ls all))

-- the leaf of what is kept
abbrev pub kept_of : Leaf → List ℕ → List Gate → Leaf
kept_of l numbers kept = record l { gates = kept; guards = map (renamed numbers) l.guards; diff = renamed numbers l.diff }

pub leaf-kept : (l : Leaf) (marks : List Bool) (numbers : List ℕ) (kept : List Gate) → IsLeaf l → AreMarks l marks → IsRenaming l.inputs l.gates marks (length l.gates) numbers kept → IsLeaf (kept_of l numbers kept)
leaf-kept l marks numbers kept h m r =
    let n = l.inputs + length l.gates in
    let small = l.inputs + length kept in
    let lits = guards-of n l.guards l.diff h.literals in
    record {
      gates = r.wired;
      literals = All-push (IsLit small) (map (renamed numbers) l.guards) (renamed numbers l.diff)
          (all-renamed (IsLit small) (renamed numbers) l.guards (λ i d inside. literal-renamed l.inputs l.gates marks n numbers kept (get_or l.guards i d) r.same (lits i d inside) (m.guards i d inside)))
          (literal-renamed l.inputs l.gates marks n numbers kept l.diff r.same (last-of n l.guards l.diff h.literals) m.diff);
    }

pub cone-kept : (l : Leaf) (marks : List Bool) (numbers : List ℕ) (kept : List Gate) → IsLeaf l → AreMarks l marks → IsRenaming l.inputs l.gates marks (length l.gates) numbers kept → IsConeOf l (kept_of l numbers kept)
cone-kept l marks numbers kept h m r =
    let n = l.inputs + length l.gates in
    let lits = guards-of n l.guards l.diff h.literals in
    record {
      path = refl;
      inputs = refl;
      kind = refl;
      guards = λ bits e. values-stay (eval (net_of (kept_of l numbers kept)) bits) (eval (net_of l) bits) (renamed numbers) l.guards
          (λ i d inside. value-renamed l.inputs l.gates marks n numbers kept (get_or l.guards i d) bits r.same (lits i d inside) (m.guards i d inside) e);
      diff = λ bits e. value-renamed l.inputs l.gates marks n numbers kept l.diff bits r.same (last-of n l.guards l.diff h.literals) m.diff e;
      true_stays = λ e. ap (renamed numbers) e;
      fewer = r.fewer;
      needed = λ k inside.
          (let f = r.kept_for k inside in
          needed-by k f.0 f.3 (m.only (l.inputs + f.0 + 1) (omega arith) f.2));
    }
  where
    needed-by : (k j : ℕ) → number_in numbers (l.inputs + j + 1) ≡ l.inputs + k + 1
        → AreNaming l.guards (l.inputs + j + 1) ⊎ ((variable l.diff ≡ l.inputs + j + 1) ⊎ IsForGate l.inputs l.gates marks (l.inputs + j + 1)) → IsNeeded (kept_of l numbers kept) k
    needed-by k j e (inl g) =
        inl (
          g.0,
          omega (arith, g.1, length-map l.guards (renamed numbers)),
          ap variable (get_or-map (renamed numbers) l.guards g.0 (Const true) (Const true) g.1) ∙ variable-renamed numbers (get_or l.guards g.0 (Const true)) (l.inputs + j + 1) (omega arith) g.2 ∙ e,
        )
    needed-by k j e (inr (inl d)) = inr (inl (variable-renamed numbers l.diff (l.inputs + j + 1) (omega arith) d ∙ e))
    needed-by k j e (inr (inr f)) =
        (let v = l.inputs + j + 1 in
        let g = r.kept_gate f.0 f.1 f.2 in
        let high : v ≤ l.inputs + f.0 = argument-high (l.inputs + f.0) (gate_at l.gates f.0) v (arguments-at l.inputs l.gates f.0 f.1 h.gates) f.3 in
        let argument : HasArgument (gate_at kept g.0) (l.inputs + k + 1) = subst (HasArgument (gate_at kept g.0)) e (g.2 v (omega arith) high f.3) in
        let after = argument-high (l.inputs + g.0) (gate_at kept g.0) (l.inputs + k + 1) (arguments-at l.inputs kept g.0 g.1 r.wired) argument in
        inr (inr (g.0, omega (arith, after), g.1, argument)))

-- the marks of a leaf, from those of its guards, its difference and its gates
pub leaf-marked : (l : Leaf) (guards : List Lit) (gates : List Gate) (start one two three : List Bool) → IsLeaf l → length start ≡ l.inputs + length l.gates → guards ≡ l.guards → gates ≡ l.gates
    → length one ≡ length start → All (λ g. is_marked one g ≡ true) guards → two ≡ with_mark one l.diff → length three ≡ length two → IsGrown two three → IsClosed l.inputs gates 0 three
    → ((v : ℕ) → at start v ≡ false) → ((v : ℕ) → 1 ≤ v → at one v ≡ true → (at start v ≡ true) ⊎ AreNaming guards v)
    → ((v : ℕ) → 1 ≤ v → at three v ≡ true → (at two v ≡ true) ⊎ IsForGate l.inputs gates three v) → AreMarks l three
leaf-marked l guards gates start one two three h many is_guards is_gates e1 marked e2 e3 grown closed none first last =
    let n = l.inputs + length l.gates in
    let lit = last-of n l.guards l.diff h.literals in
    let room : n ≤ length one = omega (arith, e1, many) in
    let m = mark-one n one l.diff lit room in
    let more : IsGrown one two = subst (IsGrown one) (sym e2) m.grown in
    let own : is_marked two l.diff ≡ true = ap (λ marks. is_marked marks l.diff) e2 ∙ marked-one n one l.diff lit room in
    let listed : All (λ g. is_marked one g ≡ true) l.guards = subst (All (λ g. is_marked one g ≡ true)) is_guards marked in
    record {
      all = e3 ∙ ap length e2 ∙ m.all ∙ e1 ∙ many;
      guards = λ i d inside. stays-marked two three (get_or l.guards i d) grown (stays-marked one two (get_or l.guards i d) more (listed i d inside));
      diff = stays-marked two three l.diff grown own;
      closed = subst (λ gs. IsClosed l.inputs gs 0 three) is_gates closed;
      only = λ v from m. for-gate v from lit (last v from m);
    }
  where
    of-guards : (v : ℕ) → (at start v ≡ true) ⊎ AreNaming guards v → AreNaming l.guards v
    of-guards v (inl m) = absurd (false≢true (sym (none v) ∙ m))
    of-guards v (inr g) = subst (λ ls. AreNaming ls v) is_guards g

    of-diff : (v : ℕ) → 1 ≤ v → (at one v ≡ true) ⊎ (variable l.diff ≡ v) → AreNaming l.guards v ⊎ ((variable l.diff ≡ v) ⊎ IsForGate l.inputs l.gates three v)
    of-diff v from (inl m) = inl (of-guards v (first v from m))
    of-diff v from (inr e) = inr (inl e)

    for-gate : (v : ℕ) → 1 ≤ v → IsLit (l.inputs + length l.gates) l.diff → (at two v ≡ true) ⊎ IsForGate l.inputs gates three v → AreNaming l.guards v ⊎ ((variable l.diff ≡ v) ⊎ IsForGate l.inputs l.gates three v)
    for-gate v from lit (inl m) = of-diff v from (mark-only (l.inputs + length l.gates) one l.diff v lit from (subst (λ marks. at marks v ≡ true) e2 m))
    for-gate v from lit (inr f) = inr (inr (subst (λ gs. IsForGate l.inputs gs three v) is_gates f))

-- what was renumbered, as the leaf names it
pub renaming-of : (l : Leaf) (gates : List Gate) (marks ms : List Bool) (numbers : List ℕ) (kept : List Gate) → gates ≡ l.gates → ms ≡ marks → IsRenaming l.inputs gates ms (length gates) numbers kept → IsRenaming l.inputs l.gates marks (length l.gates) numbers kept
renaming-of l gates marks ms numbers kept e f r =
    subst (λ gs. IsRenaming l.inputs gs marks (length gs) numbers kept) e (subst (λ x. IsRenaming l.inputs gates x (length gates) numbers kept) f r)

pub made-of : (l : Leaf) (numbers : List ℕ) (kept gates : List Gate) (guards : List Lit) (diff : Lit) → gates ≡ kept → guards ≡ map (renamed numbers) l.guards → diff ≡ renamed numbers l.diff
    → record l { gates = gates; guards = guards; diff = diff } ≡ kept_of l numbers kept
made-of l numbers kept gates guards diff e1 e2 e3 =
    ap {B = Leaf} (λ x. record l { gates = x; guards = guards; diff = diff }) e1
    ∙ ap {B = Leaf} (λ x. record l { gates = kept; guards = x; diff = diff }) e2
    ∙ ap {B = Leaf} (λ x. record l { gates = kept; guards = map (renamed numbers) l.guards; diff = x }) e3
