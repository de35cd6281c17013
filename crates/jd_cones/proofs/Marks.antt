-- Marks, one more at a time.
use Rattle.std.proofs.Common.{◌≡◌, ◌⊎◌, inl, inr, ℕ, zero, suc, ◌+◌, ◌-◌, ◌<◌, ◌≤◌, Bool, true, false, ◌&&◌, List, [], ◌∷◌, length, get_or, set, cond, refl, sym, ap, ◌∙◌, subst, arith}
use Rattle.std.proofs.lemmas.Bool.{cases_eq, false≢true}
use Rattle.std.proofs.lemmas.List.{length-set, get_or-set_same, get_or-set_other, get_or_default}
use Rattle.jd_circuit.specs.declared.literals.Lit.{Lit}
use Rattle.jd_circuit.specs.declared.literals.Lit.TheVariants.{Const, Var, Not}
use Rattle.jd_circuit.specs.declared.literals.Gate.{Gate}
use Rattle.jd_circuit.specs.declared.literals.Gate.TheVariants.{And, Xor}
use Rattle.jd_circuit.specs.Net.{at, IsLit, IsGateOf, IsArgumentGate, IsWired}
use Rattle.jd_circuit.proofs.Values.{argument_gate}
use Rattle.jd_circuit.specs.Meaning.{variable}
use Rattle.jd_cones.specs.Marks.{gate_at, is_marked, are_marked, with_mark, with_arguments, passed, AreNaming, HasArgument, IsForGate, IsGrown, IsClosed}

-- marks that are as many and no fewer, and the same above a variable
pub record IsMore (n : ℕ) (old new : List Bool) : Type 0 where
  pub all : length new ≡ length old
  pub grown : IsGrown old new
  pub above : (v : ℕ) → n < v → at new v ≡ at old v

more-same : (n : ℕ) (marks : List Bool) → IsMore n marks marks
more-same n marks = record { all = refl; grown = λ v h. h; above = λ v l. refl }

more-more : (n : ℕ) (a b c : List Bool) → IsMore n a b → IsMore n b c → IsMore n a c
more-more n a b c p q = record { all = q.all ∙ p.all; grown = λ v h. q.grown v (p.grown v h); above = λ v l. q.above v l ∙ p.above v l }

mark-variable : (n : ℕ) (marks : List Bool) (v : ℕ) → 1 ≤ v → v ≤ n → n ≤ length marks → IsMore n marks (set marks (v - 1) true)
mark-variable n marks v low high room = record {
  all = length-set marks (v - 1) true;
  grown = λ w h. kept w h (cases_eq (w - 1) (v - 1));
  above = λ w l. get_or-set_other marks (v - 1) (w - 1) true false (λ e. omega (arith, e, l, low, high));
}
  where
    kept : (w : ℕ) → at marks w ≡ true → (w - 1 ≡ v - 1) ⊎ (w - 1 ≡ v - 1 → ⊥) → at (set marks (v - 1) true) w ≡ true
    kept w h (inl e) = ap (λ i. get_or (set marks (v - 1) true) i false) e ∙ get_or-set_same marks (v - 1) true false (omega (arith, low, high, room))
    kept w h (inr n) = get_or-set_other marks (v - 1) (w - 1) true false n ∙ h

pub mark-one : (n : ℕ) (marks : List Bool) (l : Lit) → IsLit n l → n ≤ length marks → IsMore n marks (with_mark marks l)
mark-one n marks (Const b) i room = more-same n marks
mark-one n marks (Var v) i room = mark-variable n marks v i.0 i.1 room
mark-one n marks (Not v) i room = mark-variable n marks v i.0 i.1 room

pub marked-one : (n : ℕ) (marks : List Bool) (l : Lit) → IsLit n l → n ≤ length marks → is_marked (with_mark marks l) l ≡ true
marked-one n marks (Const b) i room = refl
marked-one n marks (Var v) i room = get_or-set_same marks (v - 1) true false (omega (arith, i.0, i.1, room))
marked-one n marks (Not v) i room = get_or-set_same marks (v - 1) true false (omega (arith, i.0, i.1, room))

pub stays-marked : (old new : List Bool) (l : Lit) → IsGrown old new → is_marked old l ≡ true → is_marked new l ≡ true
stays-marked old new (Const b) g h = refl
stays-marked old new (Var v) g h = g v h
stays-marked old new (Not v) g h = g v h

both : (p q : Bool) → p ≡ true → q ≡ true → (p && q) ≡ true
both p q e f = rw (e, f) refl

pub both-parts : (p q : Bool) → (p && q) ≡ true → (p ≡ true) × (q ≡ true)
both-parts true true e = (refl, refl)
both-parts true false e = cc
both-parts false q e = cc

stay-marked : (old new : List Bool) (g : Gate) → IsGrown old new → are_marked old g ≡ true → are_marked new g ≡ true
stay-marked old new (And a b) g h = (let p = both-parts (is_marked old a) (is_marked old b) h in both (is_marked new a) (is_marked new b) (stays-marked old new a g p.0) (stays-marked old new b g p.1))
stay-marked old new (Xor a b) g h = (let p = both-parts (is_marked old a) (is_marked old b) h in both (is_marked new a) (is_marked new b) (stays-marked old new a g p.0) (stays-marked old new b g p.1))

-- what two more marks leave
record IsBoth (n : ℕ) (marks : List Bool) (a b : Lit) : Type 0 where
  more : IsMore n marks (with_mark (with_mark marks a) b)
  marked : (is_marked (with_mark (with_mark marks a) b) a && is_marked (with_mark (with_mark marks a) b) b) ≡ true

mark-two : (n : ℕ) (marks : List Bool) (a b : Lit) → IsLit n a → IsLit n b → n ≤ length marks → IsBoth n marks a b
mark-two n marks a b i j room =
    let one = with_mark marks a in
    let two = with_mark one b in
    let first = mark-one n marks a i room in
    let wide : n ≤ length one = omega (arith, room, first.all) in
    let second = mark-one n one b j wide in
    record {
      more = more-more n marks one two first second;
      marked = both (is_marked two a) (is_marked two b) (stays-marked one two a second.grown (marked-one n marks a i room)) (marked-one n one b j wide);
    }

mark-gate : (n : ℕ) (marks : List Bool) (g : Gate) → IsGateOf n g → n ≤ length marks → IsMore n marks (with_arguments marks g) × (are_marked (with_arguments marks g) g ≡ true)
mark-gate n marks (And a b) i room = (let h = mark-two n marks a b i.0 i.1 room in (h.more, h.marked))
mark-gate n marks (Xor a b) i room = (let h = mark-two n marks a b i.0 i.1 room in (h.more, h.marked))

-- ---- what a mark is for

set-only : (marks : List Bool) (w v : ℕ) → 1 ≤ w → 1 ≤ v → at (set marks (w - 1) true) v ≡ true → (at marks v ≡ true) ⊎ (w ≡ v)
set-only marks w v low from h = by (cases_eq (v - 1) (w - 1))
  where
    by : (v - 1 ≡ w - 1) ⊎ (v - 1 ≡ w - 1 → ⊥) → (at marks v ≡ true) ⊎ (w ≡ v)
    by (inl e) = inr (omega (arith, e, low, from))
    by (inr n) = inl (sym (get_or-set_other marks (w - 1) (v - 1) true false n) ∙ h)

pub mark-only : (n : ℕ) (marks : List Bool) (l : Lit) (v : ℕ) → IsLit n l → 1 ≤ v → at (with_mark marks l) v ≡ true → (at marks v ≡ true) ⊎ (variable l ≡ v)
mark-only n marks (Const b) v i from h = inl h
mark-only n marks (Var w) v i from h = set-only marks w v i.0 from h
mark-only n marks (Not w) v i from h = set-only marks w v i.0 from h

two-only : (n : ℕ) (marks : List Bool) (a b : Lit) (v : ℕ) → IsLit n a → IsLit n b → 1 ≤ v → at (with_mark (with_mark marks a) b) v ≡ true
    → (at marks v ≡ true) ⊎ ((variable a ≡ v) ⊎ (variable b ≡ v))
two-only n marks a b v i j from h = by (mark-only n (with_mark marks a) b v j from h)
  where
    first : (at marks v ≡ true) ⊎ (variable a ≡ v) → (at marks v ≡ true) ⊎ ((variable a ≡ v) ⊎ (variable b ≡ v))
    first (inl m) = inl m
    first (inr e) = inr (inl e)

    by : (at (with_mark marks a) v ≡ true) ⊎ (variable b ≡ v) → (at marks v ≡ true) ⊎ ((variable a ≡ v) ⊎ (variable b ≡ v))
    by (inl m) = first (mark-only n marks a v i from m)
    by (inr e) = inr (inr e)

gate-only : (n : ℕ) (marks : List Bool) (g : Gate) (v : ℕ) → IsGateOf n g → 1 ≤ v → at (with_arguments marks g) v ≡ true → (at marks v ≡ true) ⊎ HasArgument g v
gate-only n marks (And a b) v i from h = two-only n marks a b v i.0 i.1 from h
gate-only n marks (Xor a b) v i from h = two-only n marks a b v i.0 i.1 from h

-- a gate's arguments stand before it
pub arguments-at : (n : ℕ) (gs : List Gate) (i : ℕ) → i < length gs → IsWired n gs → IsArgumentGate (n + i) (gate_at gs i)
arguments-at n [] i inside h = absurd (omega (arith, inside))
arguments-at n (g ∷ gs) zero inside h = let e : n ≡ n + 0 = omega arith in subst (λ k. IsArgumentGate k g) e h.0
arguments-at n (g ∷ gs) (suc i) inside h = let e : n + 1 + i ≡ n + suc i = omega arith in subst (λ k. IsArgumentGate k (gate_at gs i)) e (arguments-at (n + 1) gs i (omega (arith, inside)) h.1)

pub literals-at : (n : ℕ) (gs : List Gate) (i : ℕ) → i < length gs → IsWired n gs → IsGateOf (n + i) (gate_at gs i)
literals-at n gs i inside h = argument_gate (n + i) (gate_at gs i) (arguments-at n gs i inside h)

pub gate-wider : (m n : ℕ) (g : Gate) → m ≤ n → IsGateOf m g → IsGateOf n g
gate-wider m n (And a b) le h = ((h.0.0, omega (arith, h.0.1, le)), (h.1.0, omega (arith, h.1.1, le)))
gate-wider m n (Xor a b) le h = ((h.0.0, omega (arith, h.0.1, le)), (h.1.0, omega (arith, h.1.1, le)))

-- a turn of the pass over the gates
pub record IsPassed (inputs : ℕ) (gates : List Gate) (to : ℕ) (old new : List Bool) : Type 0 where
  pub all : length new ≡ length old
  pub grown : IsGrown old new
  pub closed : IsClosed inputs gates to new
  pub only : (v : ℕ) → 1 ≤ v → at new v ≡ true → (at old v ≡ true) ⊎ IsForGate inputs gates new v

passed-by : (inputs : ℕ) (gates : List Gate) (place : ℕ) (marks : List Bool) (b : Bool) → IsWired inputs gates → length marks ≡ inputs + length gates → place < length gates → IsClosed inputs gates (place + 1) marks
    → get_or marks (inputs + place) false ≡ b → IsPassed inputs gates place marks (cond b (with_arguments marks (gate_at gates place)) marks)
passed-by inputs gates place marks true wired many inside closed e =
    let g = gate_at gates place in
    let new = with_arguments marks g in
    let h = mark-gate (inputs + place) marks g (literals-at inputs gates place inside wired) (omega (arith, many, inside)) in
    record {
      all = h.0.all;
      grown = h.0.grown;
      closed = λ k from within m. passed-at new h.0 h.1 k from within m (cases_eq k place);
      only = λ v from m. own-only v (h.0.grown (inputs + place + 1)) (gate-only (inputs + place) marks g v (literals-at inputs gates place inside wired) from m);
    }
  where
    own-only : (v : ℕ) → (at marks (inputs + place + 1) ≡ true → at (with_arguments marks (gate_at gates place)) (inputs + place + 1) ≡ true) → (at marks v ≡ true) ⊎ HasArgument (gate_at gates place) v
        → (at marks v ≡ true) ⊎ IsForGate inputs gates (with_arguments marks (gate_at gates place)) v
    own-only v grown (inl m) = inl m
    own-only v grown (inr a) =
        (let i : inputs + place + 1 - 1 ≡ inputs + place = omega arith in inr (place, inside, grown (ap (λ j. get_or marks j false) i ∙ e), a))

    passed-at : (new : List Bool) → IsMore (inputs + place) marks new → are_marked new (gate_at gates place) ≡ true → (k : ℕ) → place ≤ k → k < length gates → at new (inputs + k + 1) ≡ true → (k ≡ place) ⊎ (k ≡ place → ⊥)
        → are_marked new (gate_at gates k) ≡ true
    passed-at new more own k from within m (inl e) = ap (λ j. are_marked new (gate_at gates j)) e ∙ own
    passed-at new more own k from within m (inr n) =
        stay-marked marks new (gate_at gates k) more.grown (closed k (omega (arith, from, n)) within (sym (more.above (inputs + k + 1) (omega (arith, from))) ∙ m))
passed-by inputs gates place marks false wired many inside closed e = record {
  all = refl;
  grown = λ v h. h;
  closed = λ k from within m. left-at k from within m (cases_eq k place);
  only = λ v from m. inl m;
}
  where
    left-at : (k : ℕ) → place ≤ k → k < length gates → at marks (inputs + k + 1) ≡ true → (k ≡ place) ⊎ (k ≡ place → ⊥) → are_marked marks (gate_at gates k) ≡ true
    left-at k from within m (inl is) =
        let i : inputs + place ≡ inputs + k + 1 - 1 = omega (arith, is) in
        absurd (false≢true (sym e ∙ ap (λ j. get_or marks j false) i ∙ m))
    left-at k from within m (inr n) = closed k (omega (arith, from, n)) within m

pub gate-passed : (inputs : ℕ) (gates : List Gate) (place from to : ℕ) (start old new : List Bool) → IsWired inputs gates → length start ≡ inputs + length gates → place < length gates → from ≡ place + 1 → to ≡ place
    → IsPassed inputs gates from start old → new ≡ passed old (inputs + place) (gate_at gates place) → IsPassed inputs gates to start new
gate-passed inputs gates place from to start old new wired many inside is_from is_to h e =
    let t = passed-by inputs gates place old (get_or old (inputs + place) false) wired (h.all ∙ many) inside (subst (λ k. IsClosed inputs gates k old) is_from h.closed) refl in
    let p = passed old (inputs + place) (gate_at gates place) in
    subst (λ marks. IsPassed inputs gates to start marks) (sym e)
    (subst (λ k. IsPassed inputs gates k start p) (sym is_to)
    (record { all = t.all ∙ h.all; grown = λ v m. t.grown v (h.grown v m); closed = t.closed; only = λ v from m. both-only v t.grown (t.only v from m) (λ x. h.only v from x) }))
  where
    earlier-only : (v : ℕ) → IsGrown old (passed old (inputs + place) (gate_at gates place)) → (at start v ≡ true) ⊎ IsForGate inputs gates old v
        → (at start v ≡ true) ⊎ IsForGate inputs gates (passed old (inputs + place) (gate_at gates place)) v
    earlier-only v grown (inl m) = inl m
    earlier-only v grown (inr f) = inr (f.0, f.1, grown (inputs + f.0 + 1) f.2, f.3)

    both-only : (v : ℕ) → IsGrown old (passed old (inputs + place) (gate_at gates place)) → (at old v ≡ true) ⊎ IsForGate inputs gates (passed old (inputs + place) (gate_at gates place)) v
        → (at old v ≡ true → (at start v ≡ true) ⊎ IsForGate inputs gates old v) → (at start v ≡ true) ⊎ IsForGate inputs gates (passed old (inputs + place) (gate_at gates place)) v
    both-only v grown (inl m) before = earlier-only v grown (before m)
    both-only v grown (inr f) before = inr f

-- literals marked so far
pub record IsListed (literals : List Lit) (count : ℕ) (old new : List Bool) : Type 0 where
  pub all : length new ≡ length old
  pub grown : IsGrown old new
  pub marked : (k : ℕ) (d : Lit) → k < count → k < length literals → is_marked new (get_or literals k d) ≡ true
  pub only : (v : ℕ) → 1 ≤ v → at new v ≡ true → (at old v ≡ true) ⊎ AreNaming literals v

pub literal-listed : (literals : List Lit) (k : ℕ) (d : Lit) (start old new : List Bool) → k < length literals → IsLit (length start) (get_or literals k d)
    → IsListed literals k start old → new ≡ with_mark old (get_or literals k d) → IsListed literals (k + 1) start new
literal-listed literals k d start old new inside lit h e =
    let l = get_or literals k d in
    let room : length start ≤ length old = omega (arith, h.all) in
    let m = mark-one (length start) old l lit room in
    subst (λ marks. IsListed literals (k + 1) start marks) (sym e) (record {
      all = m.all ∙ h.all;
      grown = λ v t. m.grown v (h.grown v t);
      marked = λ j b below within. by j b below within m.grown room (cases_eq j k);
      only = λ v from t. named v (mark-only (length start) old l v lit from t) (λ x. h.only v from x);
    })
  where
    named : (v : ℕ) → (at old v ≡ true) ⊎ (variable (get_or literals k d) ≡ v) → (at old v ≡ true → (at start v ≡ true) ⊎ AreNaming literals v) → (at start v ≡ true) ⊎ AreNaming literals v
    named v (inl t) before = before t
    named v (inr is) before = inr (k, inside, ap variable (get_or_default literals k (Const true) d inside) ∙ is)

    by : (j : ℕ) (b : Lit) → j < k + 1 → j < length literals → IsGrown old (with_mark old (get_or literals k d)) → length start ≤ length old → (j ≡ k) ⊎ (j ≡ k → ⊥)
        → is_marked (with_mark old (get_or literals k d)) (get_or literals j b) ≡ true
    by j b below within grown room (inl same) =
        ap (λ x. is_marked (with_mark old (get_or literals k d)) x) (ap (λ i. get_or literals i b) same ∙ get_or_default literals k b d inside) ∙ marked-one (length start) old (get_or literals k d) lit room
    by j b below within grown room (inr n) = stays-marked old (with_mark old (get_or literals k d)) (get_or literals j b) grown (h.marked j b (omega (arith, below, n)) within)
