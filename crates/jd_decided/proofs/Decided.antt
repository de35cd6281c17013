-- Once the inputs of a leaf have values, propagation gives each gate its value, one after another.
use Rattle.std.proofs.Common.{◌≡◌, ℕ, zero, suc, ◌+◌, ◌<◌, ◌≤◌, ◌&&◌, ◌||◌, Bool, true, false, not, cond, List, [], ◌∷◌, ◌++◌, length, refl, sym, ap, ◌∙◌, subst, arith, ℤ, pos, negsuc, neg_ℤ, nat_le}
use Rattle.std.specs.Prelude.{All}
use Rattle.std.specs.List.{list_all}
use Rattle.std.specs.Ordering.{int_eq}
use Rattle.std.proofs.lemmas.Bool.{false≢true}
use Rattle.std.proofs.lemmas.Bool.Decides.{nat_tests, Decides-int_eq}
use Rattle.std.proofs.lemmas.List.Elements.{All-head, All-tail}
use Rattle.std.proofs.lemmas.List.Folds.{list_all-append}
use Rattle.jd_logic.specs.declared.Left.TheVariants.{Falsified, Unit as One, Open}
use Rattle.jd_logic.specs.Literals.{has, with_literal, counted}
use Rattle.jd_circuit.specs.declared.literals.Lit.{Lit}
use Rattle.jd_circuit.specs.declared.literals.Lit.TheVariants.{Const, Var, Not}
use Rattle.jd_circuit.specs.declared.literals.Gate.{Gate}
use Rattle.jd_circuit.specs.declared.literals.Gate.TheVariants.{And, Xor}
use Rattle.jd_circuit.specs.Meaning.{opposite}
use Rattle.jd_circuit.specs.Net.{IsLit, IsArgument, IsArgumentGate, IsWired}
use Rattle.jd_books.specs.Clauses.{number_of, gate_clauses, gates_clauses, truth_clauses, truths_clauses}
use Rattle.jd_books.specs.Leaves.{Leaf, IsLeaf, clauses_of}
use Rattle.jd_proving.specs.Propagation.{with_unit, round, propagated, has_value, has_false}
use Rattle.jd_proving.specs.Proving.{literals_from, literals_of, made_true, AreDecided}
use Rattle.jd_decided.proofs.Growing.{Within, or-right, or-cases, with-has, unit-within, round-within, round-propagated, round-append, value-within, value-is, value-not}

-- ---- a clause whose other literals are false gives its first literal a value

abbrev after_two : List ℤ → ℤ → ℤ → Bool → Bool → List ℤ
after_two t x y bx by =
    elim (counted (cond (not bx) (x ∷ cond (not by) (y ∷ []) []) (cond (not by) (y ∷ []) []))) [ Falsified ↦ t | One l ↦ with_literal t l | Open ↦ t ]

two-gives : (t : List ℤ) (x y : ℤ) → has t (neg_ℤ y) ≡ true → has_value (with_unit t (x ∷ y ∷ [])) x ≡ true
two-gives t x y h = by_first (has t (neg_ℤ x)) refl (has t (neg_ℤ y)) h
  where
    by_first : (bx : Bool) → has t (neg_ℤ x) ≡ bx → (by : Bool) → by ≡ true → has_value (after_two t x y bx by) x ≡ true
    by_first true e true f = value-not t x e
    by_first false e true f = value-is (with_literal t x) x (with-has t x)
    by_first bx e false f = absurd (false≢true f)

abbrev after_three : List ℤ → ℤ → ℤ → ℤ → Bool → Bool → Bool → List ℤ
after_three t x y z bx by bz =
    elim (counted (cond (not bx) (x ∷ cond (not by) (y ∷ cond (not bz) (z ∷ []) []) (cond (not bz) (z ∷ []) [])) (cond (not by) (y ∷ cond (not bz) (z ∷ []) []) (cond (not bz) (z ∷ []) []))))
    [ Falsified ↦ t | One l ↦ with_literal t l | Open ↦ t ]

three-gives : (t : List ℤ) (x y z : ℤ) → has t (neg_ℤ y) ≡ true → has t (neg_ℤ z) ≡ true → has_value (with_unit t (x ∷ y ∷ z ∷ [])) x ≡ true
three-gives t x y z h k = by_first (has t (neg_ℤ x)) refl (has t (neg_ℤ y)) (has t (neg_ℤ z)) h k
  where
    by_first : (bx : Bool) → has t (neg_ℤ x) ≡ bx → (by bz : Bool) → by ≡ true → bz ≡ true → has_value (after_three t x y z bx by bz) x ≡ true
    by_first true e true true f g = value-not t x e
    by_first false e true true f g = value-is (with_literal t x) x (with-has t x)
    by_first bx e false bz f g = absurd (false≢true f)
    by_first bx e true false f g = absurd (false≢true g)

-- ---- values of variables

-- the variables up to a number have values
abbrev pub HaveValues : List ℤ → ℕ → Type 0
HaveValues t n = (v : ℕ) → 1 ≤ v → v ≤ n → has_value t (pos v) ≡ true

or-turn : (a b : Bool) → (a || b) ≡ true → (b || a) ≡ true
or-turn true true h = refl
or-turn true false h = refl
or-turn false b h = or-cases false b h (λ e. absurd (false≢true e)) (λ e. rw e refl)

negative-value : (t : List ℤ) (v : ℕ) → has_value t (pos (suc v)) ≡ true → has_value t (negsuc v) ≡ true
negative-value t v h = or-turn (has t (pos (suc v))) (has t (negsuc v)) h

positive-value : (t : List ℤ) (v : ℕ) → has_value t (negsuc v) ≡ true → has_value t (pos (suc v)) ≡ true
positive-value t v h = or-turn (has t (negsuc v)) (has t (pos (suc v))) h

-- the negation of an argument's number
neg-number : (n : ℕ) (l : Lit) → IsArgument n l → neg_ℤ (number_of l) ≡ number_of (opposite l)
neg-number n (Const b) h = absurd (omega (arith, h.0))
neg-number n (Var zero) h = absurd (omega (arith, h.0))
neg-number n (Var (suc v)) h = refl
neg-number n (Not zero) h = absurd (omega (arith, h.0))
neg-number n (Not (suc v)) h = refl

neg-opposite : (n : ℕ) (l : Lit) → IsArgument n l → neg_ℤ (number_of (opposite l)) ≡ number_of l
neg-opposite n (Const b) h = absurd (omega (arith, h.0))
neg-opposite n (Var zero) h = absurd (omega (arith, h.0))
neg-opposite n (Var (suc v)) h = refl
neg-opposite n (Not zero) h = absurd (omega (arith, h.0))
neg-opposite n (Not (suc v)) h = refl

-- an argument is true or false
pub argument-value : (t : List ℤ) (n : ℕ) (l : Lit) → HaveValues t n → IsArgument n l → has_value t (number_of l) ≡ true
argument-value t n (Const b) h i = absurd (omega (arith, i.0))
argument-value t n (Var v) h i = h v i.0 i.1
argument-value t n (Not zero) h i = absurd (omega (arith, i.0))
argument-value t n (Not (suc v)) h i = negative-value t v (h (suc v) i.0 i.1)

opposite-value : (t : List ℤ) (n : ℕ) (l : Lit) → HaveValues t n → IsArgument n l → has_value t (number_of (opposite l)) ≡ true
opposite-value t n (Const b) h i = absurd (omega (arith, i.0))
opposite-value t n (Var zero) h i = absurd (omega (arith, i.0))
opposite-value t n (Var (suc v)) h i = negative-value t v (h (suc v) i.0 i.1)
opposite-value t n (Not v) h i = h v i.0 i.1

by-argument : {G : Type 0} (t : List ℤ) (n : ℕ) (l : Lit) → HaveValues t n → IsArgument n l → (has t (number_of l) ≡ true → G) → (has t (number_of (opposite l)) ≡ true → G) → G
by-argument t n l h i yes_then no_then =
    or-cases (has t (number_of l)) (has t (neg_ℤ (number_of l))) (argument-value t n l h i) yes_then (λ e. no_then (ap (has t) (sym (neg-number n l i)) ∙ e))

-- ---- a gate

module _ (t : List ℤ) (n g : ℕ) (a b : Lit) (h : HaveValues t n) (i : IsArgument n a) (j : IsArgument n b) where
  own : ℤ
  own = negsuc g

  falsified : (l : Lit) → IsArgument n l → (s : List ℤ) → Within t s → has t (number_of (opposite l)) ≡ true → has s (neg_ℤ (number_of l)) ≡ true
  falsified l k s within e = ap (has s) (neg-number n l k) ∙ within (number_of (opposite l)) e

  satisfied : (l : Lit) → IsArgument n l → (s : List ℤ) → Within t s → has t (number_of l) ≡ true → has s (neg_ℤ (number_of (opposite l))) ≡ true
  satisfied l k s within e = ap (has s) (neg-opposite n l k) ∙ within (number_of l) e

  same : Within t t
  same l e = e

  pub and-value : has_value (round t (gate_clauses (suc g) (And a b))) (pos (suc g)) ≡ true
  and-value =
      let c1 = negsuc g ∷ number_of a ∷ [] in
      let c2 = negsuc g ∷ number_of b ∷ [] in
      let c3 = pos (suc g) ∷ number_of (opposite a) ∷ number_of (opposite b) ∷ [] in
      let t1 = with_unit t c1 in
      let t2 = with_unit t1 c2 in
      by-argument t n a h i
      (λ yes_a. by-argument t n b h j
      (λ yes_b. three-gives t2 (pos (suc g)) (number_of (opposite a)) (number_of (opposite b))
      (satisfied a i t2 (λ l e. unit-within t1 c2 l (unit-within t c1 l e)) yes_a) (satisfied b j t2 (λ l e. unit-within t1 c2 l (unit-within t c1 l e)) yes_b))
      (λ no_b. value-within t2 (with_unit t2 c3) (pos (suc g)) (unit-within t2 c3) (positive-value t2 g (two-gives t1 (negsuc g) (number_of b) (falsified b j t1 (unit-within t c1) no_b)))))
      (λ no_a. value-within t1 (with_unit t2 c3) (pos (suc g)) (λ l e. unit-within t2 c3 l (unit-within t1 c2 l e)) (positive-value t1 g (two-gives t (negsuc g) (number_of a) (falsified a i t same no_a))))

  pub xor-value : has_value (round t (gate_clauses (suc g) (Xor a b))) (pos (suc g)) ≡ true
  xor-value =
      let c1 = negsuc g ∷ number_of a ∷ number_of b ∷ [] in
      let c2 = negsuc g ∷ number_of (opposite a) ∷ number_of (opposite b) ∷ [] in
      let c3 = pos (suc g) ∷ number_of (opposite a) ∷ number_of b ∷ [] in
      let c4 = pos (suc g) ∷ number_of a ∷ number_of (opposite b) ∷ [] in
      let t1 = with_unit t c1 in
      let t2 = with_unit t1 c2 in
      let t3 = with_unit t2 c3 in
      let to1 : Within t t1 = unit-within t c1 in
      let to2 : Within t t2 = λ l e. unit-within t1 c2 l (to1 l e) in
      let to3 : Within t t3 = λ l e. unit-within t2 c3 l (to2 l e) in
      by-argument t n a h i
      (λ yes_a. by-argument t n b h j
      (λ yes_b. value-within t2 (with_unit t3 c4) (pos (suc g)) (λ l e. unit-within t3 c4 l (unit-within t2 c3 l e))
      (positive-value t2 g (three-gives t1 (negsuc g) (number_of (opposite a)) (number_of (opposite b)) (satisfied a i t1 to1 yes_a) (satisfied b j t1 to1 yes_b))))
      (λ no_b. value-within t3 (with_unit t3 c4) (pos (suc g)) (unit-within t3 c4)
      (three-gives t2 (pos (suc g)) (number_of (opposite a)) (number_of b) (satisfied a i t2 to2 yes_a) (falsified b j t2 to2 no_b))))
      (λ no_a. by-argument t n b h j
      (λ yes_b. three-gives t3 (pos (suc g)) (number_of a) (number_of (opposite b)) (falsified a i t3 to3 no_a) (satisfied b j t3 to3 yes_b))
      (λ no_b. value-within t1 (with_unit t3 c4) (pos (suc g)) (λ l e. unit-within t3 c4 l (unit-within t2 c3 l (unit-within t1 c2 l e)))
      (positive-value t1 g (three-gives t (negsuc g) (number_of a) (number_of b) (falsified a i t same no_a) (falsified b j t same no_b)))))

gate-value : (t : List ℤ) (n g : ℕ) (gate : Gate) → HaveValues t n → IsArgumentGate n gate → has_value (round t (gate_clauses (suc g) gate)) (pos (suc g)) ≡ true
gate-value t n g (And a b) h w = and-value t n g a b h w.0 w.1
gate-value t n g (Xor a b) h w = xor-value t n g a b h w.0 w.1

-- ---- all gates

one-more : (t : List ℤ) (n : ℕ) (gate : Gate) → HaveValues t n → IsArgumentGate n gate → HaveValues (round t (gate_clauses (suc n) gate)) (n + 1)
one-more t n gate h w v low high = by_test (nat_le v n) refl
  where
    by_test : (b : Bool) → nat_le v n ≡ b → has_value (round t (gate_clauses (suc n) gate)) (pos v) ≡ true
    by_test true e = value-within t (round t (gate_clauses (suc n) gate)) (pos v) (round-within t (gate_clauses (suc n) gate)) (h v low (grind (arith, nat_tests)))
    by_test false e =
        let last : suc n ≡ v = grind (arith, nat_tests, high) in
        subst (λ k. has_value (round t (gate_clauses (suc n) gate)) (pos k) ≡ true) last (gate-value t n n gate h w)

gates-value : (gs : List Gate) (n : ℕ) (t : List ℤ) → IsWired n gs → HaveValues t n → HaveValues (round t (gates_clauses (suc n) gs)) (n + length gs)
gates-value [] n t w h = let e : n ≡ n + 0 = omega arith in subst (HaveValues t) e h
gates-value (g ∷ gs) n t w h =
    let first = gate_clauses (suc n) g in
    let rest = gates_clauses (suc (suc n)) gs in
    let e : n + 1 ≡ suc n = omega arith in
    let size : suc n + length gs ≡ n + suc (length gs) = omega arith in
    let more : HaveValues (round (round t first) rest) (suc n + length gs) =
    gates-value gs (suc n) (round t first) (subst (λ k. IsWired k gs) e w.1) (subst (HaveValues (round t first)) e (one-more t n g h w.0)) in
    subst (λ s. HaveValues s (n + suc (length gs))) (sym (round-append t first rest)) (subst (HaveValues (round (round t first) rest)) size more)

-- ---- the inputs

eq-self : (l : ℤ) (b : Bool) → (int_eq l l || b) ≡ true
eq-self l b = rw ((Decides-int_eq l l).1 refl) refl

inputs-value : (bits : List Bool) (n v : ℕ) → n ≤ v → v < n + length bits → has_value (literals_from n bits) (pos v) ≡ true
inputs-value [] n v low high = absurd (omega (arith, low, high))
inputs-value (b ∷ bits) n v low high = by_test (nat_le v n) refl (λ above. inputs-value bits (suc n) v above (omega (arith, high)))
  where
    here : (b : Bool) → has_value ((cond b (pos n) (neg_ℤ (pos n))) ∷ literals_from (suc n) bits) (pos n) ≡ true
    here true = value-is (pos n ∷ literals_from (suc n) bits) (pos n) (eq-self (pos n) (has (literals_from (suc n) bits) (pos n)))
    here false = value-not (neg_ℤ (pos n) ∷ literals_from (suc n) bits) (pos n) (eq-self (neg_ℤ (pos n)) (has (literals_from (suc n) bits) (neg_ℤ (pos n))))

    by_test : (t : Bool) → nat_le v n ≡ t → (suc n ≤ v → has_value (literals_from (suc n) bits) (pos v) ≡ true) → has_value (literals_from n (b ∷ bits)) (pos v) ≡ true
    by_test true e more = let same : n ≡ v = grind (arith, nat_tests, low) in subst (λ k. has_value (literals_from n (b ∷ bits)) (pos k) ≡ true) same (here b)
    by_test false e more =
        let above : suc n ≤ v = grind (arith, nat_tests) in
        value-within (literals_from (suc n) bits) (literals_from n (b ∷ bits)) (pos v) (λ l h. or-right _ _ h) (more above)

-- ---- the literals of clauses

both : (a b : Bool) → a ≡ true → b ≡ true → (a && b) ≡ true
both true true e f = refl
both true false e f = absurd (false≢true f)
both false b e f = absurd (false≢true e)

abbrev AllValued : List ℤ → List (List ℤ) → Type 0
AllValued t cs = list_all (λ c. list_all (has_value t) c) cs ≡ true

gate-valued : (t : List ℤ) (n g : ℕ) (gate : Gate) → HaveValues t n → g < n → IsArgumentGate n gate → AllValued t (gate_clauses (suc g) gate)
gate-valued t n g (And a b) h low w =
    let yes_g = h (suc g) (omega arith) (omega (arith, low)) in
    let no_g = negative-value t g yes_g in
    let yes_a = argument-value t n a h w.0 in
    let yes_b = argument-value t n b h w.1 in
    both _ _ (both _ _ no_g (both _ _ yes_a refl)) (both _ _ (both _ _ no_g (both _ _ yes_b refl))
    (both _ _ (both _ _ yes_g (both _ _ (opposite-value t n a h w.0) (both _ _ (opposite-value t n b h w.1) refl))) refl))
gate-valued t n g (Xor a b) h low w =
    let yes_g = h (suc g) (omega arith) (omega (arith, low)) in
    let no_g = negative-value t g yes_g in
    let yes_a = argument-value t n a h w.0 in
    let yes_b = argument-value t n b h w.1 in
    let no_a = opposite-value t n a h w.0 in
    let no_b = opposite-value t n b h w.1 in
    both _ _ (both _ _ no_g (both _ _ yes_a (both _ _ yes_b refl))) (both _ _ (both _ _ no_g (both _ _ no_a (both _ _ no_b refl)))
    (both _ _ (both _ _ yes_g (both _ _ no_a (both _ _ yes_b refl))) (both _ _ (both _ _ yes_g (both _ _ yes_a (both _ _ no_b refl))) refl)))

argument-less : (m n : ℕ) (g : Gate) → m ≤ n → IsArgumentGate m g → IsArgumentGate n g
argument-less m n (And a b) le h = ((h.0.0, omega (arith, h.0.1, le)), (h.1.0, omega (arith, h.1.1, le)))
argument-less m n (Xor a b) le h = ((h.0.0, omega (arith, h.0.1, le)), (h.1.0, omega (arith, h.1.1, le)))

gates-valued : (gs : List Gate) (m n : ℕ) (t : List ℤ) → IsWired m gs → m + length gs ≤ n → HaveValues t n → AllValued t (gates_clauses (suc m) gs)
gates-valued [] m n t w le h = refl
gates-valued (g ∷ gs) m n t w le h =
    let e : m + 1 ≡ suc m = omega arith in
    list_all-append (λ c. list_all (has_value t) c) (gate_clauses (suc m) g) (gates_clauses (suc (suc m)) gs)
    ∙ both _ _ (gate-valued t n m g h (omega (arith, le)) (argument-less m n g (omega (arith, le)) w.0))
    (gates-valued gs (suc m) n t (subst (λ k. IsWired k gs) e w.1) (omega (arith, le)) h)

truth-valued : (t : List ℤ) (n : ℕ) (l : Lit) → HaveValues t n → IsLit n l → AllValued t (truth_clauses l)
truth-valued t n (Const true) h i = refl
truth-valued t n (Const false) h i = refl
truth-valued t n (Var v) h i = both _ _ (both _ _ (h v i.0 i.1) refl) refl
truth-valued t n (Not zero) h i = absurd (omega (arith, i.0))
truth-valued t n (Not (suc v)) h i = both _ _ (both _ _ (negative-value t v (h (suc v) i.0 i.1)) refl) refl

truths-valued : (t : List ℤ) (n : ℕ) (ls : List Lit) → HaveValues t n → All (IsLit n) ls → AllValued t (truths_clauses ls)
truths-valued t n [] h all = refl
truths-valued t n (l ∷ ls) h all =
    list_all-append (λ c. list_all (has_value t) c) (truth_clauses l) (truths_clauses ls)
    ∙ both _ _ (truth-valued t n l h (All-head (IsLit n) l ls all)) (truths-valued t n ls h (All-tail (IsLit n) l ls all))

-- ---- a leaf

-- all clauses' propagation does what one round does, and more
round-made : (t : List ℤ) (cs : List (List ℤ)) → Within (round t cs) (propagated t cs)
round-made t [] l h = h
round-made t (c ∷ cs) l h = round-propagated t c cs l h

pub decided : (l : Leaf) → IsLeaf l → AreDecided (clauses_of l) l.inputs
decided l leaf bits count =
    let n = l.inputs + length l.gates in
    let gates = gates_clauses (suc l.inputs) l.gates in
    let truths = truths_clauses (l.guards ++ l.diff ∷ []) in
    let t = literals_of bits in
    let made = made_true (clauses_of l) bits in
    let given : HaveValues t l.inputs = λ v low high. inputs-value bits 1 v low (omega (arith, high, count)) in
    let first : HaveValues (round t gates) n = gates-value l.gates l.inputs t leaf.gates given in
    let within : Within (round t gates) made = λ k h. round-made t (gates ++ truths) k (subst (λ s. has s k ≡ true) (sym (round-append t gates truths)) (round-within (round t gates) truths k h)) in
    let all : HaveValues made n = λ v low high. value-within (round t gates) made (pos v) within (first v low high) in
    or-right (has_false made (clauses_of l)) (list_all (λ c. list_all (has_value made) c) (clauses_of l))
    (list_all-append (λ c. list_all (has_value made) c) gates truths
    ∙ both _ _ (gates-valued l.gates l.inputs n made leaf.gates (omega arith) all) (truths-valued made n (l.guards ++ l.diff ∷ []) all leaf.literals))
