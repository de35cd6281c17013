-- New numbers, one more at a time.
use Rattle.std.proofs.Common.{◌≡◌, ◌⊎◌, inl, inr, ℕ, ◌+◌, ◌-◌, ◌<◌, ◌≤◌, Bool, true, false, not, ◌&&◌, List, [], ◌∷◌, ◌++◌, Some, length, get_or, refl, sym, ap, ◌∙◌, subst, arith, length-append, slice_get}
use Rattle.std.proofs.lemmas.Bool.{cases_eq, false≢true}
use Rattle.std.proofs.lemmas.List.{get_or_append_left, get_or_push}
use Rattle.std.proofs.lemmas.Option.{slice_get-get_or}
use Rattle.jd_circuit.specs.declared.literals.Lit.{Lit}
use Rattle.jd_circuit.specs.declared.literals.Lit.TheVariants.{Const, Var, Not}
use Rattle.jd_circuit.specs.declared.literals.Gate.{Gate}
use Rattle.jd_circuit.specs.declared.literals.Gate.TheVariants.{And, Xor}
use Rattle.jd_circuit.specs.Meaning.{lit_value, gate_value, variable, xor}
use Rattle.jd_circuit.specs.Net.{at, values_of, IsLit, IsArgument, IsArgumentGate, IsWired}
use Rattle.jd_circuit.proofs.Values.{IsWired-push, value_at, values-Alike, values_of-append, length-values_of}
use Rattle.jd_cones.specs.Marks.{gate_at, is_marked, are_marked, HasArgument, IsClosed}
use Rattle.jd_cones.specs.Renaming.{number_in, renamed, renamed_gate, number_after, gates_after, AreOwn, IsSame, IsRenaming}
use Rattle.jd_cones.proofs.Marks.{both-parts, arguments-at}

-- new numbers of the marked variables up to n
abbrev pub AreSame : ℕ → List Gate → List Bool → ℕ → List ℕ → List Gate → Type 0
AreSame inputs gates marks n numbers kept = (v : ℕ) → 1 ≤ v → v ≤ n → at marks v ≡ true → IsSame inputs gates kept v (number_in numbers v)

pub value-renamed : (inputs : ℕ) (gates : List Gate) (marks : List Bool) (n : ℕ) (numbers : List ℕ) (kept : List Gate) (l : Lit) (bits : List Bool) → AreSame inputs gates marks n numbers kept → IsLit n l → is_marked marks l ≡ true
    → length bits ≡ inputs → lit_value (at (values_of bits kept)) (renamed numbers l) ≡ lit_value (at (values_of bits gates)) l
value-renamed inputs gates marks n numbers kept (Const b) bits same i m e = refl
value-renamed inputs gates marks n numbers kept (Var v) bits same i m e = (same v i.0 i.1 m).means bits e
value-renamed inputs gates marks n numbers kept (Not v) bits same i m e = ap not ((same v i.0 i.1 m).means bits e)

pub literal-renamed : (inputs : ℕ) (gates : List Gate) (marks : List Bool) (n : ℕ) (numbers : List ℕ) (kept : List Gate) (l : Lit) → AreSame inputs gates marks n numbers kept → IsLit n l → is_marked marks l ≡ true
    → IsLit (inputs + length kept) (renamed numbers l)
literal-renamed inputs gates marks n numbers kept (Const b) same i m = (omega arith, omega arith)
literal-renamed inputs gates marks n numbers kept (Var v) same i m = (let s = same v i.0 i.1 m in (s.low, s.high))
literal-renamed inputs gates marks n numbers kept (Not v) same i m = (let s = same v i.0 i.1 m in (s.low, s.high))

argument-literal : (n : ℕ) (l : Lit) → IsArgument n l → IsLit n l
argument-literal n (Const b) h = (omega arith, omega arith)
argument-literal n (Var v) h = h
argument-literal n (Not v) h = h

argument-renamed : (inputs : ℕ) (gates : List Gate) (marks : List Bool) (n : ℕ) (numbers : List ℕ) (kept : List Gate) (l : Lit) → AreSame inputs gates marks n numbers kept → IsArgument n l → is_marked marks l ≡ true
    → IsArgument (inputs + length kept) (renamed numbers l)
argument-renamed inputs gates marks n numbers kept (Const b) same i m = absurd (omega (arith, i.0))
argument-renamed inputs gates marks n numbers kept (Var v) same i m = (let s = same v i.0 i.1 m in (s.low, s.high))
argument-renamed inputs gates marks n numbers kept (Not v) same i m = (let s = same v i.0 i.1 m in (s.low, s.high))

means-one : (inputs : ℕ) (gates : List Gate) (marks : List Bool) (n : ℕ) (numbers : List ℕ) (kept later : List Gate) (l : Lit) (bits : List Bool) → AreSame inputs gates marks n numbers kept → IsArgument n l → is_marked marks l ≡ true
    → ((l : Lit) → length bits ≡ inputs → IsLit (inputs + length kept) l → lit_value (at (values_of bits later)) l ≡ lit_value (at (values_of bits kept)) l)
    → length bits ≡ inputs → lit_value (at (values_of bits later)) (renamed numbers l) ≡ lit_value (at (values_of bits gates)) l
means-one inputs gates marks n numbers kept later l bits same i m stays e =
    let j = argument-literal n l i in
    stays (renamed numbers l) e (literal-renamed inputs gates marks n numbers kept l same j m) ∙ value-renamed inputs gates marks n numbers kept l bits same j m e

-- a gate under new numbers
record IsGateSame (inputs : ℕ) (gates : List Gate) (numbers : List ℕ) (kept : List Gate) (g : Gate) : Type 0 where
  inside : IsArgumentGate (inputs + length kept) (renamed_gate numbers g)
  means : (later : List Gate) → ((bits : List Bool) (l : Lit) → length bits ≡ inputs → IsLit (inputs + length kept) l → lit_value (at (values_of bits later)) l ≡ lit_value (at (values_of bits kept)) l)
      → (bits : List Bool) → length bits ≡ inputs → gate_value (at (values_of bits later)) (renamed_gate numbers g) ≡ gate_value (at (values_of bits gates)) g

gate-renamed : (inputs : ℕ) (gates : List Gate) (marks : List Bool) (n : ℕ) (numbers : List ℕ) (kept : List Gate) (g : Gate) → AreSame inputs gates marks n numbers kept → IsArgumentGate n g → are_marked marks g ≡ true
    → IsGateSame inputs gates numbers kept g
gate-renamed inputs gates marks n numbers kept (And a b) same i m =
    let p = both-parts (is_marked marks a) (is_marked marks b) m in
    record {
      inside = (argument-renamed inputs gates marks n numbers kept a same i.0 p.0, argument-renamed inputs gates marks n numbers kept b same i.1 p.1);
      means = λ later stays bits e.
          ap (λ x. x && lit_value (at (values_of bits later)) (renamed numbers b)) (means-one inputs gates marks n numbers kept later a bits same i.0 p.0 (stays bits) e)
          ∙ ap (λ x. lit_value (at (values_of bits gates)) a && x) (means-one inputs gates marks n numbers kept later b bits same i.1 p.1 (stays bits) e);
    }
gate-renamed inputs gates marks n numbers kept (Xor a b) same i m =
    let p = both-parts (is_marked marks a) (is_marked marks b) m in
    record {
      inside = (argument-renamed inputs gates marks n numbers kept a same i.0 p.0, argument-renamed inputs gates marks n numbers kept b same i.1 p.1);
      means = λ later stays bits e.
          ap (λ x. xor x (lit_value (at (values_of bits later)) (renamed numbers b))) (means-one inputs gates marks n numbers kept later a bits same i.0 p.0 (stays bits) e)
          ∙ ap (λ x. xor (lit_value (at (values_of bits gates)) a) x) (means-one inputs gates marks n numbers kept later b bits same i.1 p.1 (stays bits) e);
    }

-- one gate more leaves the variables before it
at-later : (inputs : ℕ) (kept : List Gate) (g : Gate) (bits : List Bool) (v : ℕ) → length bits ≡ inputs → 1 ≤ v → v ≤ inputs + length kept → at (values_of bits (kept ++ g ∷ [])) v ≡ at (values_of bits kept) v
at-later inputs kept g bits v e low high =
    ap (λ vs. at vs v) (values_of-append bits kept (g ∷ [])) ∙ values-Alike (values_of bits kept) (g ∷ []) v low (omega (arith, high, e, length-values_of bits kept))

value-later : (inputs : ℕ) (kept : List Gate) (g : Gate) (bits : List Bool) (l : Lit) → length bits ≡ inputs → IsLit (inputs + length kept) l → lit_value (at (values_of bits (kept ++ g ∷ []))) l ≡ lit_value (at (values_of bits kept)) l
value-later inputs kept g bits (Const b) e i = refl
value-later inputs kept g bits (Var v) e i = at-later inputs kept g bits v e i.0 i.1
value-later inputs kept g bits (Not v) e i = ap not (at-later inputs kept g bits v e i.0 i.1)

same-later : (inputs : ℕ) (gates kept : List Gate) (g : Gate) (v number : ℕ) → IsSame inputs gates kept v number → IsSame inputs gates (kept ++ g ∷ []) v number
same-later inputs gates kept g v number s = record {
  low = s.low;
  high = omega (arith, s.high, length-append kept (g ∷ []));
  means = λ bits e. at-later inputs kept g bits number e s.low s.high ∙ s.means bits e;
}

number-before : (numbers : List ℕ) (x v : ℕ) → 1 ≤ v → v ≤ length numbers → number_in (numbers ++ x ∷ []) v ≡ number_in numbers v
number-before numbers x v low high = get_or_append_left numbers (x ∷ []) 0 (v - 1) (omega (arith, low, high))

number-last : (numbers : List ℕ) (x v : ℕ) → v ≡ length numbers + 1 → number_in (numbers ++ x ∷ []) v ≡ x
number-last numbers x v e = get_or_push numbers x 0 (v - 1) (omega (arith, e))

last-gate : (gs : List Gate) (g : Gate) → slice_get (gs ++ g ∷ []) (length gs) ≡ Some g
last-gate [] g = refl
last-gate (x ∷ gs) g = last-gate gs g

-- ---- what is kept for what

pub variable-renamed : (numbers : List ℕ) (l : Lit) (v : ℕ) → 1 ≤ v → variable l ≡ v → variable (renamed numbers l) ≡ number_in numbers v
variable-renamed numbers (Const b) v low e = absurd (omega (arith, low, e))
variable-renamed numbers (Var w) v low e = ap (number_in numbers) e
variable-renamed numbers (Not w) v low e = ap (number_in numbers) e

either-renamed : (numbers : List ℕ) (a b : Lit) (v : ℕ) → 1 ≤ v → (variable a ≡ v) ⊎ (variable b ≡ v)
    → (variable (renamed numbers a) ≡ number_in numbers v) ⊎ (variable (renamed numbers b) ≡ number_in numbers v)
either-renamed numbers a b v low (inl e) = inl (variable-renamed numbers a v low e)
either-renamed numbers a b v low (inr e) = inr (variable-renamed numbers b v low e)

has-renamed : (numbers : List ℕ) (g : Gate) (v : ℕ) → 1 ≤ v → HasArgument g v → HasArgument (renamed_gate numbers g) (number_in numbers v)
has-renamed numbers (And a b) v low h = either-renamed numbers a b v low h
has-renamed numbers (Xor a b) v low h = either-renamed numbers a b v low h

either-high : (n : ℕ) (a b : Lit) (v : ℕ) → IsArgument n a → IsArgument n b → (variable a ≡ v) ⊎ (variable b ≡ v) → v ≤ n
either-high n a b v i j (inl e) = omega (arith, i.1, e)
either-high n a b v i j (inr e) = omega (arith, j.1, e)

pub argument-high : (n : ℕ) (g : Gate) (v : ℕ) → IsArgumentGate n g → HasArgument g v → v ≤ n
argument-high n (And a b) v i h = either-high n a b v i.0 i.1 h
argument-high n (Xor a b) v i h = either-high n a b v i.0 i.1 h

-- the gates before a last one, and the last one
gate-before : (kept : List Gate) (g : Gate) (k : ℕ) → k < length kept → gate_at (kept ++ g ∷ []) k ≡ gate_at kept k
gate-before kept g k inside = get_or_append_left kept (g ∷ []) (And (Const false) (Const false)) k inside

gate-last : (kept : List Gate) (g : Gate) → gate_at (kept ++ g ∷ []) (length kept) ≡ g
gate-last kept g = get_or_push kept g (And (Const false) (Const false)) (length kept) refl

-- the inputs, one more at a time
pub own-more : (before : ℕ) (numbers new : List ℕ) → AreOwn before numbers → new ≡ numbers ++ (before + 1) ∷ [] → AreOwn (before + 1) new
own-more before numbers new h e = subst (λ ns. AreOwn (before + 1) ns) (sym e) (record {
  all = omega (arith, h.all, length-append numbers ((before + 1) ∷ []));
  own = λ v low high. by v low high (cases_eq v (before + 1));
})
  where
    by : (v : ℕ) → 1 ≤ v → v ≤ before + 1 → (v ≡ before + 1) ⊎ (v ≡ before + 1 → ⊥) → number_in (numbers ++ (before + 1) ∷ []) v ≡ v
    by v low high (inl is) = number-last numbers (before + 1) v (omega (arith, is, h.all)) ∙ sym is
    by v low high (inr n) = number-before numbers (before + 1) v low (omega (arith, high, n, h.all)) ∙ h.own v low (omega (arith, high, n))

-- the inputs alone
pub inputs-renamed : (inputs : ℕ) (gates : List Gate) (marks : List Bool) (numbers : List ℕ) → AreOwn inputs numbers → IsRenaming inputs gates marks 0 numbers []
inputs-renamed inputs gates marks numbers h = record {
  all = omega (arith, h.all);
  fewer = omega arith;
  wired = tt;
  same = λ v low high m.
      let e : number_in numbers v ≡ v = h.own v low (omega (arith, high)) in
      subst (λ k. IsSame inputs gates [] v k) (sym e) (record {
        low = low;
        high = omega (arith, high);
        means = λ bits many. sym (values-Alike bits gates v low (omega (arith, high, many)));
      });
  kept_for = λ k inside. absurd (omega (arith, inside));
  kept_gate = λ j inside m. absurd (omega (arith, inside));
}

-- one more gate, which is needed or not
renamed-by : (inputs : ℕ) (gates : List Gate) (marks : List Bool) (place : ℕ) (numbers : List ℕ) (kept : List Gate) (b : Bool) → IsWired inputs gates → IsClosed inputs gates 0 marks → place < length gates
    → IsRenaming inputs gates marks place numbers kept → at marks (inputs + place + 1) ≡ b → IsRenaming inputs gates marks (place + 1) (numbers ++ number_after inputs kept b ∷ []) (gates_after numbers kept (gate_at gates place) b)
renamed-by inputs gates marks place numbers kept false wired closed inside h e = record {
  all = omega (arith, h.all, length-append numbers (0 ∷ []));
  fewer = omega (arith, h.fewer);
  wired = h.wired;
  same = λ v low high m. by v low high m (cases_eq v (inputs + place + 1));
  kept_for = λ k inside. (let f = h.kept_for k inside in (f.0, omega (arith, f.1), f.2, number-before numbers 0 (inputs + f.0 + 1) (omega arith) (omega (arith, f.1, h.all)) ∙ f.3));
  kept_gate = λ j below m. gate-by j below m (cases_eq j place);
}
  where
    gate-by : (j : ℕ) → j < place + 1 → at marks (inputs + j + 1) ≡ true → (j ≡ place) ⊎ (j ≡ place → ⊥)
        → (k : ℕ) × (k < length kept) × ((v : ℕ) → 1 ≤ v → v ≤ inputs + j → HasArgument (gate_at gates j) v → HasArgument (gate_at kept k) (number_in (numbers ++ 0 ∷ []) v))
    gate-by j below m (inl is) = absurd (false≢true (sym e ∙ ap (λ i. at marks (inputs + i + 1)) (sym is) ∙ m))
    gate-by j below m (inr n) = (let g = h.kept_gate j (omega (arith, below, n)) m in
        (g.0, g.1, λ v low high a. subst (HasArgument (gate_at kept g.0)) (sym (number-before numbers 0 v low (omega (arith, high, below, n, h.all)))) (g.2 v low high a)))

    by : (v : ℕ) → 1 ≤ v → v ≤ inputs + (place + 1) → at marks v ≡ true → (v ≡ inputs + place + 1) ⊎ (v ≡ inputs + place + 1 → ⊥) → IsSame inputs gates kept v (number_in (numbers ++ 0 ∷ []) v)
    by v low high m (inl is) = absurd (false≢true (sym e ∙ ap (at marks) (sym is) ∙ m))
    by v low high m (inr n) = subst (λ k. IsSame inputs gates kept v k) (sym (number-before numbers 0 v low (omega (arith, high, n, h.all)))) (h.same v low (omega (arith, high, n)) m)
renamed-by inputs gates marks place numbers kept true wired closed inside h e =
    let g = gate_at gates place in
    let own = renamed_gate numbers g in
    let later = kept ++ own ∷ [] in
    let s = gate-renamed inputs gates marks (inputs + place) numbers kept g h.same (arguments-at inputs gates place inside wired) (closed place (omega arith) inside e) in
    let w = IsWired-push inputs kept own h.wired s.inside in
    record {
      all = omega (arith, h.all, length-append numbers ((inputs + length kept + 1) ∷ []));
      fewer = omega (arith, h.fewer, length-append kept (own ∷ []));
      wired = w;
      same = λ v low high m. by v low high m
          (λ bits many.
          (let i : inputs + length kept + 1 ≡ length bits + length kept + 1 = omega (arith, many) in ap (at (values_of bits later)) i)
          ∙ value_at bits later (length kept) own (subst (λ n. IsWired n later) (sym many) w) (last-gate kept own)
          ∙ s.means later (λ bits l e i. value-later inputs kept own bits l e i) bits many
          ∙ sym (value_at bits gates place g (subst (λ n. IsWired n gates) (sym many) wired) (slice_get-get_or gates place (And (Const false) (Const false)) inside))
          ∙ (let i : length bits + place + 1 ≡ inputs + place + 1 = omega (arith, many) in ap (at (values_of bits gates)) i))
          (cases_eq v (inputs + place + 1));
      kept_for = λ k inside_kept. for-by k inside_kept (cases_eq k (length kept));
      kept_gate = λ j below m. gate-by j below m (cases_eq j place);
    }
  where
    for-by : (k : ℕ) → k < length (kept ++ renamed_gate numbers (gate_at gates place) ∷ []) → (k ≡ length kept) ⊎ (k ≡ length kept → ⊥)
        → (j : ℕ) × (j < place + 1) × (at marks (inputs + j + 1) ≡ true) × (number_in (numbers ++ (inputs + length kept + 1) ∷ []) (inputs + j + 1) ≡ inputs + k + 1)
    for-by k within (inl is) =
        (place, omega arith, e, number-last numbers (inputs + length kept + 1) (inputs + place + 1) (omega (arith, h.all)) ∙ (let same : inputs + length kept + 1 ≡ inputs + k + 1 = omega (arith, is) in same))
    for-by k within (inr n) =
        (let f = h.kept_for k (omega (arith, within, n, length-append kept (renamed_gate numbers (gate_at gates place) ∷ []))) in
        (f.0, omega (arith, f.1), f.2, number-before numbers (inputs + length kept + 1) (inputs + f.0 + 1) (omega arith) (omega (arith, f.1, h.all)) ∙ f.3))

    gate-by : (j : ℕ) → j < place + 1 → at marks (inputs + j + 1) ≡ true → (j ≡ place) ⊎ (j ≡ place → ⊥)
        → (k : ℕ) × (k < length (kept ++ renamed_gate numbers (gate_at gates place) ∷ []))
        × ((v : ℕ) → 1 ≤ v → v ≤ inputs + j → HasArgument (gate_at gates j) v
        → HasArgument (gate_at (kept ++ renamed_gate numbers (gate_at gates place) ∷ []) k) (number_in (numbers ++ (inputs + length kept + 1) ∷ []) v))
    gate-by j below m (inl is) = (
      length kept,
      omega (arith, length-append kept (renamed_gate numbers (gate_at gates place) ∷ [])),
      λ v low high a.
          subst (λ g. HasArgument g (number_in (numbers ++ (inputs + length kept + 1) ∷ []) v)) (sym (gate-last kept (renamed_gate numbers (gate_at gates place))))
          (subst (HasArgument (renamed_gate numbers (gate_at gates place))) (sym (number-before numbers (inputs + length kept + 1) v low (omega (arith, high, is, h.all))))
          (has-renamed numbers (gate_at gates place) v low (subst (λ i. HasArgument (gate_at gates i) v) is a))),
    )
    gate-by j below m (inr n) =
        (let g = h.kept_gate j (omega (arith, below, n)) m in (
          g.0,
          omega (arith, g.1, length-append kept (renamed_gate numbers (gate_at gates place) ∷ [])),
          λ v low high a.
              subst (λ x. HasArgument x (number_in (numbers ++ (inputs + length kept + 1) ∷ []) v)) (sym (gate-before kept (renamed_gate numbers (gate_at gates place)) g.0 g.1))
              (subst (HasArgument (gate_at kept g.0)) (sym (number-before numbers (inputs + length kept + 1) v low (omega (arith, high, below, n, h.all)))) (g.2 v low high a)),
        ))

    by : (v : ℕ) → 1 ≤ v → v ≤ inputs + (place + 1) → at marks v ≡ true
        → ((bits : List Bool) → length bits ≡ inputs → at (values_of bits (kept ++ renamed_gate numbers (gate_at gates place) ∷ [])) (inputs + length kept + 1) ≡ at (values_of bits gates) (inputs + place + 1))
        → (v ≡ inputs + place + 1) ⊎ (v ≡ inputs + place + 1 → ⊥)
        → IsSame inputs gates (kept ++ renamed_gate numbers (gate_at gates place) ∷ []) v (number_in (numbers ++ (inputs + length kept + 1) ∷ []) v)
    by v low high m means (inl is) =
        let own = renamed_gate numbers (gate_at gates place) in
        subst (λ k. IsSame inputs gates (kept ++ own ∷ []) v k) (sym (number-last numbers (inputs + length kept + 1) v (omega (arith, is, h.all)))) (record {
          low = omega arith;
          high = omega (arith, length-append kept (own ∷ []));
          means = λ bits many. means bits many ∙ ap (at (values_of bits gates)) (sym is);
        })
    by v low high m means (inr n) =
        let own = renamed_gate numbers (gate_at gates place) in
        subst (λ k. IsSame inputs gates (kept ++ own ∷ []) v k) (sym (number-before numbers (inputs + length kept + 1) v low (omega (arith, high, n, h.all))))
        (same-later inputs gates kept own v (number_in numbers v) (h.same v low (omega (arith, high, n)) m))

pub gate-renumbered : (inputs : ℕ) (gates : List Gate) (marks : List Bool) (place : ℕ) (numbers new_numbers : List ℕ) (kept new_kept : List Gate) (g : Gate) (needed : Bool) → IsWired inputs gates → IsClosed inputs gates 0 marks → place < length gates
    → IsRenaming inputs gates marks place numbers kept → g ≡ gate_at gates place → needed ≡ get_or marks (inputs + place) false
    → new_numbers ≡ numbers ++ number_after inputs kept needed ∷ [] → new_kept ≡ gates_after numbers kept g needed
    → IsRenaming inputs gates marks (place + 1) new_numbers new_kept
gate-renumbered inputs gates marks place numbers new_numbers kept new_kept g needed wired closed inside h is_gate is_needed e f =
    let i : inputs + place + 1 - 1 ≡ inputs + place = omega arith in
    let t = renamed-by inputs gates marks place numbers kept needed wired closed inside h (ap (λ j. get_or marks j false) i ∙ sym is_needed) in
    subst (λ ns. IsRenaming inputs gates marks (place + 1) ns new_kept) (sym e)
    (subst (λ ks. IsRenaming inputs gates marks (place + 1) (numbers ++ number_after inputs kept needed ∷ []) ks) (sym (f ∙ ap (λ x. gates_after numbers kept x needed) is_gate)) t)
