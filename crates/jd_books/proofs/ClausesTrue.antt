-- Values that agree with a circuit's gates make the clauses of its gates true.
use Rattle.std.proofs.Common.{◌≡◌, ℕ, zero, suc, ◌+◌, ◌&&◌, ◌||◌, Bool, true, false, not, List, [], ◌∷◌, Some, slice_get, refl, sym, ap, ◌∙◌, subst, arith}
use Rattle.std.specs.Prelude.{All}
use Rattle.std.specs.List.{list_all}
use Rattle.std.proofs.lemmas.List.Elements.{All-head, All-tail}
use Rattle.std.proofs.lemmas.List.Folds.{list_all-append}
use Rattle.jd_text.proofs.Tests.{left-part, right-part}
use Rattle.jd_circuit.specs.declared.literals.Lit.{Lit}
use Rattle.jd_circuit.specs.declared.literals.Lit.TheVariants.{Const, Var, Not}
use Rattle.jd_circuit.specs.declared.literals.Gate.{Gate}
use Rattle.jd_circuit.specs.declared.literals.Gate.TheVariants.{And, Xor}
use Rattle.jd_circuit.specs.Meaning.{xor, lit_value, gate_value, opposite}
use Rattle.jd_circuit.specs.Net.{IsLit, IsArgument, IsArgumentGate, IsWired}
use Rattle.jd_books.specs.Clauses.{number_of, gate_clauses, gates_clauses, truth_clauses, truths_clauses, is_true_number, is_true_clause, are_true}

pub number-true : (values : ℕ → Bool) (n : ℕ) (l : Lit) → IsArgument n l → is_true_number values (number_of l) ≡ lit_value values l
number-true values n (Const b) h = absurd (omega (arith, h.0))
number-true values n (Var zero) h = absurd (omega (arith, h.0))
number-true values n (Var (suc v)) h = refl
number-true values n (Not zero) h = absurd (omega (arith, h.0))
number-true values n (Not (suc v)) h = refl

not-not : (b : Bool) → not (not b) ≡ b
not-not true = refl
not-not false = refl

pub opposite-true : (values : ℕ → Bool) (n : ℕ) (l : Lit) → IsArgument n l → is_true_number values (number_of (opposite l)) ≡ not (lit_value values l)
opposite-true values n (Const b) h = absurd (omega (arith, h.0))
opposite-true values n (Var zero) h = absurd (omega (arith, h.0))
opposite-true values n (Var (suc v)) h = refl
opposite-true values n (Not zero) h = absurd (omega (arith, h.0))
opposite-true values n (Not (suc v)) h = sym (not-not (values (suc v)))

and-table : (a b : Bool) → ((not (a && b) || (a || false)) && ((not (a && b) || (b || false)) && (((a && b) || (not a || (not b || false))) && true))) ≡ true
and-table true true = refl
and-table true false = refl
and-table false true = refl
and-table false false = refl

xor-table : (a b : Bool) → ((not (xor a b) || (a || (b || false))) && ((not (xor a b) || (not a || (not b || false))) && ((xor a b || (not a || (b || false))) && ((xor a b || (a || (not b || false))) && true)))) ≡ true
xor-table true true = refl
xor-table true false = refl
xor-table false true = refl
xor-table false false = refl

gate-true : (values : ℕ → Bool) (n g : ℕ) (gate : Gate) → IsArgumentGate n gate → values (suc g) ≡ gate_value values gate → are_true values (gate_clauses (suc g) gate) ≡ true
gate-true values n g (And a b) w e =
    rw (e, number-true values n a w.0, number-true values n b w.1, opposite-true values n a w.0, opposite-true values n b w.1)
    (and-table (lit_value values a) (lit_value values b))
gate-true values n g (Xor a b) w e =
    rw (e, number-true values n a w.0, number-true values n b w.1, opposite-true values n a w.0, opposite-true values n b w.1)
    (xor-table (lit_value values a) (lit_value values b))

pub both : (a b : Bool) → a ≡ true → b ≡ true → (a && b) ≡ true
both a b e f = rw (e, f)

-- each gate's variable has the gate's value
abbrev pub Agree : ℕ → List Gate → (ℕ → Bool) → Type 0
Agree n gates values = (k : ℕ) (g : Gate) → slice_get gates k ≡ Some g → values (n + k + 1) ≡ gate_value values g

pub gates-true : (values : ℕ → Bool) (n : ℕ) (gs : List Gate) → IsWired n gs → Agree n gs values → are_true values (gates_clauses (suc n) gs) ≡ true
gates-true values n [] w agree = refl
gates-true values n (g ∷ gs) w agree =
    let here : n + 0 + 1 ≡ suc n = omega arith in
    let one : are_true values (gate_clauses (suc n) g) ≡ true = gate-true values n n g w.0 (ap values (sym here) ∙ agree 0 g refl) in
    let next : n + 1 ≡ suc n = omega arith in
    let rest : are_true values (gates_clauses (suc (suc n)) gs) ≡ true =
    gates-true values (suc n) gs (subst (λ m. IsWired m gs) next w.1) (λ k h e. (let place : suc n + k + 1 ≡ n + suc k + 1 = omega arith in ap values place) ∙ agree (suc k) h e) in
    list_all-append (is_true_clause values) (gate_clauses (suc n) g) (gates_clauses (suc (suc n)) gs) ∙ both _ _ one rest

or-false : (b : Bool) → b ≡ true → ((b || false) && true) ≡ true
or-false b e = rw e

truth-true : (values : ℕ → Bool) (n : ℕ) (l : Lit) → IsLit n l → lit_value values l ≡ true → are_true values (truth_clauses l) ≡ true
truth-true values n (Const true) h e = refl
truth-true values n (Const false) h e = e
truth-true values n (Var zero) h e = absurd (omega (arith, h.0))
truth-true values n (Var (suc v)) h e = or-false (values (suc v)) e
truth-true values n (Not zero) h e = absurd (omega (arith, h.0))
truth-true values n (Not (suc v)) h e = or-false (not (values (suc v))) e

pub truths-true : (values : ℕ → Bool) (n : ℕ) (ls : List Lit) → All (IsLit n) ls → list_all (lit_value values) ls ≡ true → are_true values (truths_clauses ls) ≡ true
truths-true values n [] h e = refl
truths-true values n (l ∷ ls) h e =
    list_all-append (is_true_clause values) (truth_clauses l) (truths_clauses ls)
    ∙ both _ _ (truth-true values n l (All-head (IsLit n) l ls h) (left-part (lit_value values l) (list_all (lit_value values) ls) e))
    (truths-true values n ls (All-tail (IsLit n) l ls h) (right-part (lit_value values l) (list_all (lit_value values) ls) e))
