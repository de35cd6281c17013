-- Clauses of gates and literals, one more at a time.
use Rattle.std.proofs.Common.{◌≡◌, ℕ, zero, suc, ◌+◌, ◌-◌, ◌<◌, ◌≤◌, ◌^◌, List, [], ◌∷◌, ◌++◌, length, take, get_or, ℤ, refl, sym, ap, ◌∙◌, subst, arith, append_assoc, append-nil, length-append}
use Rattle.std.specs.Prelude.{All}
use Rattle.std.proofs.Math.Seq.{take-suc, get_or-append_seam}
use Rattle.std.proofs.lemmas.List.{get_or_append_left}
use Rattle.jd_circuit.specs.declared.literals.Lit.{Lit}
use Rattle.jd_circuit.specs.declared.literals.Lit.TheVariants.{Const, Var, Not}
use Rattle.jd_circuit.specs.declared.literals.Gate.{Gate}
use Rattle.jd_circuit.specs.declared.literals.Gate.TheVariants.{And, Xor}
use Rattle.jd_circuit.specs.Meaning.{opposite}
use Rattle.jd_circuit.specs.Net.{IsLit, IsArgument, IsArgumentGate, IsWired}
use Rattle.jd_books.specs.Clauses.{gate_clauses, gates_clauses, truth_clauses, truths_clauses}

variable-less : (m n : ℕ) (l : Lit) → m ≤ n → IsArgument m l → IsArgument n l
variable-less m n l le h = (h.0, omega (arith, h.1, le))

gate-less : (m n : ℕ) (g : Gate) → m ≤ n → IsArgumentGate m g → IsArgumentGate n g
gate-less m n (And a b) le h = (variable-less m n a le h.0, variable-less m n b le h.1)
gate-less m n (Xor a b) le h = (variable-less m n a le h.0, variable-less m n b le h.1)

pub opposite-of : (n : ℕ) (l : Lit) → IsArgument n l → IsArgument n (opposite l)
opposite-of n (Const b) h = h
opposite-of n (Var v) h = h
opposite-of n (Not v) h = h

-- the gate at a place
gate-at : (n : ℕ) (gs : List Gate) (i : ℕ) (d : Gate) → i < length gs → IsWired n gs → IsArgumentGate (n + i) (get_or gs i d)
gate-at n [] i d inside h = absurd (omega (arith, inside))
gate-at n (g ∷ gs) zero d inside h = let e : n ≡ n + 0 = omega arith in subst (λ k. IsArgumentGate k g) e h.0
gate-at n (g ∷ gs) (suc i) d inside h = let e : n + 1 + i ≡ n + suc i = omega arith in subst (λ k. IsArgumentGate k (get_or gs i d)) e (gate-at (n + 1) gs i d (omega (arith, inside)) h.1)

pub gate-small : (n : ℕ) (gs : List Gate) (i : ℕ) (d : Gate) → i < length gs → IsWired n gs → n + length gs < 2 ^ 31 → IsArgumentGate (2 ^ 31 - 1) (get_or gs i d)
gate-small n gs i d inside h small = gate-less (n + i) (2 ^ 31 - 1) (get_or gs i d) (omega (arith, inside, small)) (gate-at n gs i d inside h)

gates-push : (k : ℕ) (gs : List Gate) (g : Gate) → gates_clauses k (gs ++ g ∷ []) ≡ gates_clauses k gs ++ gate_clauses (k + length gs) g
gates-push k [] g = append-nil (gate_clauses k g) ∙ (let e : k ≡ k + 0 = omega arith in ap (λ n. gate_clauses n g) e)
gates-push k (x ∷ gs) g =
    ap (λ r. gate_clauses k x ++ r) (gates-push (suc k) gs g ∙ (let e : suc k + length gs ≡ k + suc (length gs) = omega arith in ap (λ n. gates_clauses (suc k) gs ++ gate_clauses n g) e))
    ∙ sym (append_assoc (gate_clauses k x) (gates_clauses (suc k) gs) (gate_clauses (k + suc (length gs)) g))

truths-push : (ls : List Lit) (l : Lit) → truths_clauses (ls ++ l ∷ []) ≡ truths_clauses ls ++ truth_clauses l
truths-push [] l = append-nil (truth_clauses l)
truths-push (x ∷ ls) l = ap (λ r. truth_clauses x ++ r) (truths-push ls l) ∙ sym (append_assoc (truth_clauses x) (truths_clauses ls) (truth_clauses l))

length-taken : {X : Type 0} (i : ℕ) (xs : List X) → i < length xs → length (take i xs) ≡ i
length-taken i [] h = absurd (omega (arith, h))
length-taken zero (x ∷ xs) h = refl
length-taken (suc i) (x ∷ xs) h = ap suc (length-taken i xs (omega (arith, h)))

pub gates-more : (k : ℕ) (gs : List Gate) (i : ℕ) (d : Gate) → i < length gs → gates_clauses k (take (i + 1) gs) ≡ gates_clauses k (take i gs) ++ gate_clauses (k + i) (get_or gs i d)
gates-more k gs i d inside =
    (let e : i + 1 ≡ suc i = omega arith in ap (λ j. gates_clauses k (take j gs)) e) ∙ ap (gates_clauses k) (take-suc gs i d inside)
    ∙ gates-push k (take i gs) (get_or gs i d) ∙ ap (λ n. gates_clauses k (take i gs) ++ gate_clauses (k + n) (get_or gs i d)) (length-taken i gs inside)

pub truths-more : (ls : List Lit) (i : ℕ) (d : Lit) → i < length ls → truths_clauses (take (i + 1) ls) ≡ truths_clauses (take i ls) ++ truth_clauses (get_or ls i d)
truths-more ls i d inside =
    (let e : i + 1 ≡ suc i = omega arith in ap (λ j. truths_clauses (take j ls)) e) ∙ ap truths_clauses (take-suc ls i d inside) ∙ truths-push (take i ls) (get_or ls i d)

pub truths-last : (ls : List Lit) (l : Lit) → truths_clauses (ls ++ l ∷ []) ≡ truths_clauses ls ++ truth_clauses l
truths-last = truths-push

pub literal-less : (m n : ℕ) (l : Lit) → m ≤ n → IsLit m l → IsLit n l
literal-less m n l le h = (h.0, omega (arith, h.1, le))

-- clauses pushed one after another
pub three-pushed : (o n1 n2 n3 : List (List ℤ)) (a b c : List ℤ) → n1 ≡ o ++ a ∷ [] → n2 ≡ n1 ++ b ∷ [] → n3 ≡ n2 ++ c ∷ [] → n3 ≡ o ++ a ∷ b ∷ c ∷ []
three-pushed o n1 n2 n3 a b c e1 e2 e3 =
    e3 ∙ ap (λ r. r ++ c ∷ []) (e2 ∙ ap (λ r. r ++ b ∷ []) e1 ∙ append_assoc o (a ∷ []) (b ∷ [])) ∙ append_assoc o (a ∷ b ∷ []) (c ∷ [])

pub four-pushed : (o n1 n2 n3 n4 : List (List ℤ)) (a b c d : List ℤ) → n1 ≡ o ++ a ∷ [] → n2 ≡ n1 ++ b ∷ [] → n3 ≡ n2 ++ c ∷ [] → n4 ≡ n3 ++ d ∷ [] → n4 ≡ o ++ a ∷ b ∷ c ∷ d ∷ []
four-pushed o n1 n2 n3 n4 a b c d e1 e2 e3 e4 = e4 ∙ ap (λ r. r ++ d ∷ []) (three-pushed o n1 n2 n3 a b c e1 e2 e3) ∙ append_assoc o (a ∷ b ∷ c ∷ []) (d ∷ [])

pub two-are : (a b x y : ℤ) → a ≡ x → b ≡ y → (a ∷ b ∷ []) ≡ x ∷ y ∷ []
two-are a b x y e1 e2 = ap (λ k. k ∷ b ∷ []) e1 ∙ ap (λ k. x ∷ k ∷ []) e2

pub three-are : (a b c x y z : ℤ) → a ≡ x → b ≡ y → c ≡ z → (a ∷ b ∷ c ∷ []) ≡ x ∷ y ∷ z ∷ []
three-are a b c x y z e1 e2 e3 = ap (λ k. k ∷ b ∷ c ∷ []) e1 ∙ ap (λ k. x ∷ k ∷ c ∷ []) e2 ∙ ap (λ k. x ∷ y ∷ k ∷ []) e3

-- a turn of each loop
pub gate-turn : (gs s : List Gate) (inputs own i : ℕ) (d : Gate) (old new : List (List ℤ)) → s ≡ gs → own ≡ inputs + i → old ≡ gates_clauses (suc inputs) (take i gs)
    → new ≡ old ++ gate_clauses (own + 1) (get_or s i d) → i < length s → new ≡ gates_clauses (suc inputs) (take (i + 1) gs)
gate-turn gs s inputs own i d old new same counted before pushed inside =
    let below : i < length gs = omega (arith, inside, ap length same) in
    let number : own + 1 ≡ suc inputs + i = omega (arith, counted) in
    pushed ∙ ap (λ k. old ++ gate_clauses k (get_or s i d)) number ∙ ap (λ r. old ++ gate_clauses (suc inputs + i) (get_or r i d)) same
    ∙ ap (λ r. r ++ gate_clauses (suc inputs + i) (get_or gs i d)) before ∙ sym (gates-more (suc inputs) gs i d below)

pub truth-turn : (front : List (List ℤ)) (ls s : List Lit) (i : ℕ) (d : Lit) (old new : List (List ℤ)) → s ≡ ls → old ≡ front ++ truths_clauses (take i ls)
    → new ≡ old ++ truth_clauses (get_or s i d) → i < length s → new ≡ front ++ truths_clauses (take (i + 1) ls)
truth-turn front ls s i d old new same before pushed inside =
    let below : i < length ls = omega (arith, inside, ap length same) in
    pushed ∙ ap (λ r. old ++ truth_clauses (get_or r i d)) same ∙ ap (λ r. r ++ truth_clauses (get_or ls i d)) before
    ∙ append_assoc front (truths_clauses (take i ls)) (truth_clauses (get_or ls i d)) ∙ ap (λ r. front ++ r) (sym (truths-more ls i d below))

pub guard-small : (n : ℕ) (ls s : List Lit) (l : Lit) (i : ℕ) (d : Lit) → s ≡ ls → All (IsLit n) (ls ++ l ∷ []) → n < 2 ^ 31 → i < length s → IsLit (2 ^ 31 - 1) (get_or s i d)
guard-small n ls s l i d same all small inside =
    let below : i < length ls = omega (arith, inside, ap length same) in
    subst (λ r. IsLit (2 ^ 31 - 1) (get_or r i d)) (sym same)
    (subst (IsLit (2 ^ 31 - 1)) (get_or_append_left ls (l ∷ []) d i below)
    (literal-less n (2 ^ 31 - 1) (get_or (ls ++ l ∷ []) i d) (omega (arith, small)) (all i d (omega (arith, below, length-append ls (l ∷ []))))))

pub last-small : (n : ℕ) (ls : List Lit) (l : Lit) → All (IsLit n) (ls ++ l ∷ []) → n < 2 ^ 31 → IsLit (2 ^ 31 - 1) l
last-small n ls l all small =
    subst (IsLit (2 ^ 31 - 1)) (get_or-append_seam ls l [] l)
    (literal-less n (2 ^ 31 - 1) (get_or (ls ++ l ∷ []) (length ls) l) (omega (arith, small)) (all (length ls) l (omega (arith, length-append ls (l ∷ [])))))

-- all of a list was taken
pub taken-all : {X : Type 0} (xs s : List X) (i : ℕ) → s ≡ xs → length s ≤ i → take i xs ≡ xs
taken-all xs s i same over = take-all i xs (omega (arith, over, ap length same))
  where
    take-all : {X : Type 0} (i : ℕ) (xs : List X) → length xs ≤ i → take i xs ≡ xs
    take-all zero [] h = refl
    take-all (suc i) [] h = refl
    take-all zero (x ∷ xs) h = absurd (omega (arith, h))
    take-all {X} (suc i) (x ∷ xs) h = ap {B = List X} (λ r. x ∷ r) (take-all i xs (omega (arith, h)))
