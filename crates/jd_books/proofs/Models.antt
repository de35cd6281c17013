-- Values that make the clauses of a circuit's gates true are the circuit's values on the bits.
use Rattle.std.proofs.Common.{◌≡◌, ℕ, suc, ◌+◌, ◌-◌, ◌≤◌, ◌&&◌, ◌||◌, Bool, true, false, not, List, [], ◌∷◌, ◌++◌, length, get_or, refl, sym, ap, ◌∙◌, subst, arith, length-append, nat_le}
use Rattle.std.proofs.lemmas.Bool.{false≢true}
use Rattle.std.proofs.lemmas.Bool.Decides.{nat_tests}
use Rattle.std.proofs.lemmas.List.{get_or_append_left}
use Rattle.std.proofs.lemmas.List.Folds.{list_all-append}
use Rattle.std.proofs.Math.Seq.{get_or-append_seam}
use Rattle.jd_text.proofs.Tests.{left-part, right-part}
use Rattle.jd_circuit.specs.declared.literals.Lit.{Lit}
use Rattle.jd_circuit.specs.declared.literals.Lit.TheVariants.{Const, Var, Not}
use Rattle.jd_circuit.specs.declared.literals.Gate.{Gate}
use Rattle.jd_circuit.specs.declared.literals.Gate.TheVariants.{And, Xor}
use Rattle.jd_circuit.specs.Meaning.{xor, lit_value, gate_value}
use Rattle.jd_circuit.specs.Net.{at, values_of, IsArgument, IsArgumentGate, IsWired}
use Rattle.jd_books.specs.Clauses.{gate_clauses, gates_clauses, is_true_clause, are_true}
use Rattle.jd_books.proofs.ClausesTrue.{number-true, opposite-true}

-- clauses that say that g is the conjunction, or the exclusive or
and-forced : (g a b : Bool) → ((not g || (a || false)) && ((not g || (b || false)) && ((g || (not a || (not b || false))) && true))) ≡ true → g ≡ (a && b)
and-forced true true true h = refl
and-forced true true false h = absurd (false≢true h)
and-forced true false b h = absurd (false≢true h)
and-forced false true true h = absurd (false≢true h)
and-forced false true false h = refl
and-forced false false b h = refl

xor-forced : (g a b : Bool) → ((not g || (a || (b || false))) && ((not g || (not a || (not b || false))) && ((g || (not a || (b || false))) && ((g || (a || (not b || false))) && true)))) ≡ true → g ≡ xor a b
xor-forced true true true h = absurd (false≢true h)
xor-forced true true false h = refl
xor-forced true false true h = refl
xor-forced true false false h = absurd (false≢true h)
xor-forced false true true h = refl
xor-forced false true false h = absurd (false≢true h)
xor-forced false false true h = absurd (false≢true h)
xor-forced false false false h = refl

gate-forced : (values : ℕ → Bool) (n g : ℕ) (gate : Gate) → IsArgumentGate n gate → are_true values (gate_clauses (suc g) gate) ≡ true → values (suc g) ≡ gate_value values gate
gate-forced values n g (And a b) w h =
    and-forced (values (suc g)) (lit_value values a) (lit_value values b)
    (rw (number-true values n a w.0, number-true values n b w.1, opposite-true values n a w.0, opposite-true values n b w.1) at h)
gate-forced values n g (Xor a b) w h =
    xor-forced (values (suc g)) (lit_value values a) (lit_value values b)
    (rw (number-true values n a w.0, number-true values n b w.1, opposite-true values n a w.0, opposite-true values n b w.1) at h)

-- values are those of a list, up to its end
abbrev pub AreOf : List Bool → (ℕ → Bool) → Type 0
AreOf vs values = (v : ℕ) → 1 ≤ v → v ≤ length vs → values v ≡ at vs v

lit-of : (vs : List Bool) (values : ℕ → Bool) (n : ℕ) (l : Lit) → n ≤ length vs → AreOf vs values → IsArgument n l → lit_value values l ≡ lit_value (at vs) l
lit-of vs values n (Const b) m h i = absurd (omega (arith, i.0))
lit-of vs values n (Var v) m h i = h v i.0 (omega (arith, i.1, m))
lit-of vs values n (Not v) m h i = ap not (h v i.0 (omega (arith, i.1, m)))

gate-of : (vs : List Bool) (values : ℕ → Bool) (n : ℕ) (g : Gate) → n ≤ length vs → AreOf vs values → IsArgumentGate n g → gate_value values g ≡ gate_value (at vs) g
gate-of vs values n (And a b) m h i = ap (λ p. p && lit_value values b) (lit-of vs values n a m h i.0) ∙ ap (λ q. lit_value (at vs) a && q) (lit-of vs values n b m h i.1)
gate-of vs values n (Xor a b) m h i = ap (λ p. xor p (lit_value values b)) (lit-of vs values n a m h i.0) ∙ ap (λ q. xor (lit_value (at vs) a) q) (lit-of vs values n b m h i.1)

of-push : (vs : List Bool) (values : ℕ → Bool) (b : Bool) → AreOf vs values → values (suc (length vs)) ≡ b → AreOf (vs ++ b ∷ []) values
of-push vs values b h e v low high = by_test (nat_le v (length vs)) refl
  where
    by_test : (t : Bool) → nat_le v (length vs) ≡ t → values v ≡ at (vs ++ b ∷ []) v
    by_test true le =
        let inside : v ≤ length vs = grind (arith, nat_tests) in
        h v low inside ∙ sym (get_or_append_left vs (b ∷ []) false (v - 1) (omega (arith, low, inside)))
    by_test false gt =
        let last : v ≡ suc (length vs) = grind (arith, nat_tests, high, length-append vs (b ∷ [])) in
        ap values last ∙ e ∙ sym ((let k : v - 1 ≡ length vs = omega (arith, last) in ap (λ j. get_or (vs ++ b ∷ []) j false) k) ∙ get_or-append_seam vs b [] false)

pub forced : (values : ℕ → Bool) (vs : List Bool) (gs : List Gate) → IsWired (length vs) gs → AreOf vs values → are_true values (gates_clauses (suc (length vs)) gs) ≡ true
    → AreOf (values_of vs gs) values
forced values vs [] w h all = h
forced values vs (g ∷ gs) w h all =
    let b = gate_value (at vs) g in
    let parts : (are_true values (gate_clauses (suc (length vs)) g) && are_true values (gates_clauses (suc (suc (length vs))) gs)) ≡ true =
    sym (list_all-append (is_true_clause values) (gate_clauses (suc (length vs)) g) (gates_clauses (suc (suc (length vs))) gs)) ∙ all in
    let one : values (suc (length vs)) ≡ b =
    gate-forced values (length vs) (length vs) g w.0 (left-part (are_true values (gate_clauses (suc (length vs)) g)) (are_true values (gates_clauses (suc (suc (length vs))) gs)) parts)
    ∙ gate-of vs values (length vs) g (omega arith) h w.0 in
    let size : suc (length vs) ≡ length (vs ++ b ∷ []) = omega (arith, length-append vs (b ∷ [])) in
    let room : length vs + 1 ≡ length (vs ++ b ∷ []) = omega (arith, length-append vs (b ∷ [])) in
    forced values (vs ++ b ∷ []) gs (subst (λ n. IsWired n gs) room w.1) (of-push vs values b h one)
    (subst (λ n. are_true values (gates_clauses (suc n) gs) ≡ true) size
    (right-part (are_true values (gate_clauses (suc (length vs)) g)) (are_true values (gates_clauses (suc (suc (length vs))) gs)) parts))
