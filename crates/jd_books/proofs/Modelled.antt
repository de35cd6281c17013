-- Values that make a leaf's clauses true are those of an allowed start that comes to the leaf.
use Rattle.std.proofs.Common.{◌≡◌, ℕ, zero, suc, ◌+◌, ◌&&◌, ◌||◌, Bool, true, false, not, List, [], ◌∷◌, ◌++◌, length, refl, sym, ap, ◌∙◌, subst, arith}
use Rattle.std.specs.Prelude.{All}
use Rattle.std.specs.List.{list_all}
use Rattle.std.proofs.lemmas.List.Elements.{All-head, All-tail}
use Rattle.std.proofs.lemmas.List.Folds.{list_all-append}
use Rattle.jd_circuit.specs.declared.literals.Lit.{Lit}
use Rattle.jd_circuit.specs.declared.literals.Lit.TheVariants.{Const, Var, Not}
use Rattle.jd_circuit.specs.Meaning.{lit_value}
use Rattle.jd_circuit.specs.Net.{at, values_of, eval, IsLit, IsWired}
use Rattle.jd_circuit.proofs.Values.{length-values_of}
use Rattle.jd_model.specs.Problems.{Problem, IsProblem, bits, free_bits, start_of}
use Rattle.jd_text.proofs.Tests.{left-part, right-part}
use Rattle.jd_model.proofs.FreeStarts.{bits-of-starts}
use Rattle.jd_books.specs.Clauses.{gates_clauses, truth_clauses, truths_clauses, is_true_clause, are_true}
use Rattle.jd_books.specs.Paths.{answers_of_start, begins}
use Rattle.jd_model.specs.Problems.{in_range, allows}
use Rattle.jd_books.specs.Leaves.{Leaf, net_of, clauses_of, guards_hold, Claim, IsFaithfulTo}
use Rattle.jd_books.proofs.ClausesTrue.{both}
use Rattle.jd_books.proofs.Models.{AreOf, forced}

only : (b : Bool) → ((b || false) && true) ≡ true → b ≡ true
only true h = refl
only false h = h

truth-forced : (values : ℕ → Bool) (n : ℕ) (l : Lit) → IsLit n l → are_true values (truth_clauses l) ≡ true → lit_value values l ≡ true
truth-forced values n (Const true) i h = refl
truth-forced values n (Const false) i h = h
truth-forced values n (Var zero) i h = absurd (omega (arith, i.0))
truth-forced values n (Var (suc v)) i h = only (values (suc v)) h
truth-forced values n (Not zero) i h = absurd (omega (arith, i.0))
truth-forced values n (Not (suc v)) i h = only (not (values (suc v))) h

truths-forced : (values : ℕ → Bool) (n : ℕ) (ls : List Lit) → All (IsLit n) ls → are_true values (truths_clauses ls) ≡ true → list_all (lit_value values) ls ≡ true
truths-forced values n [] i h = refl
truths-forced values n (l ∷ ls) i h =
    let parts : (are_true values (truth_clauses l) && are_true values (truths_clauses ls)) ≡ true =
    sym (list_all-append (is_true_clause values) (truth_clauses l) (truths_clauses ls)) ∙ h in
    both _ _ (truth-forced values n l (All-head (IsLit n) l ls i) (left-part (are_true values (truth_clauses l)) (are_true values (truths_clauses ls)) parts))
    (truths-forced values n ls (All-tail (IsLit n) l ls i) (right-part (are_true values (truth_clauses l)) (are_true values (truths_clauses ls)) parts))

lit-at : (vs : List Bool) (values : ℕ → Bool) (l : Lit) → AreOf vs values → IsLit (length vs) l → lit_value (at vs) l ≡ lit_value values l
lit-at vs values (Const b) h i = refl
lit-at vs values (Var v) h i = sym (h v i.0 i.1)
lit-at vs values (Not v) h i = ap not (sym (h v i.0 i.1))

all-at : (vs : List Bool) (values : ℕ → Bool) (ls : List Lit) → AreOf vs values → All (IsLit (length vs)) ls → list_all (lit_value (at vs)) ls ≡ list_all (lit_value values) ls
all-at vs values [] h i = refl
all-at vs values (l ∷ ls) h i =
    ap (λ b. b && list_all (lit_value (at vs)) ls) (lit-at vs values l h (All-head (IsLit (length vs)) l ls i))
    ∙ ap (λ b. lit_value values l && b) (all-at vs values ls h (All-tail (IsLit (length vs)) l ls i))

-- the start of some bits is allowed, and the leaf's guards and `diff` are true on its bits
pub record IsModelled (p : Problem) (l : Leaf) (bs : List Bool) : Type 0 where
  pub allowed : allows p (start_of p bs) ≡ true
  pub guards : guards_hold l (bits p (start_of p bs)) ≡ true
  pub comes : begins l.path (answers_of_start p (start_of p bs)) ≡ true
  pub differs : eval (net_of l) (bits p (start_of p bs)) l.diff ≡ true

pub modelled : (p : Problem) (claim : Claim) (l : Leaf) (bs : List Bool) (values : ℕ → Bool) → IsProblem p → IsFaithfulTo p claim l → length bs ≡ free_bits p → AreOf bs values → are_true values (clauses_of l) ≡ true
    → IsModelled p l bs
modelled p claim l bs values ranges f count begun all =
    let starts = bits-of-starts p ranges in
    let s = start_of p bs in
    let same : bits p s ≡ bs = starts.same_bits bs count in
    let ranged : in_range p s ≡ true = starts.ranged bs count in
    let inputs : length bs ≡ l.inputs = count ∙ sym f.inputs in
    let ls = l.guards ++ l.diff ∷ [] in
    let vs = values_of bs l.gates in
    let parts : (are_true values (gates_clauses (suc l.inputs) l.gates) && are_true values (truths_clauses ls)) ≡ true =
    sym (list_all-append (is_true_clause values) (gates_clauses (suc l.inputs) l.gates) (truths_clauses ls)) ∙ all in
    let gates : are_true values (gates_clauses (suc l.inputs) l.gates) ≡ true = left-part (are_true values (gates_clauses (suc l.inputs) l.gates)) (are_true values (truths_clauses ls)) parts in
    let of : AreOf vs values =
    forced values bs l.gates (subst (λ n. IsWired n l.gates) (sym inputs) f.leaf.gates) begun
    (subst (λ n. are_true values (gates_clauses (suc n) l.gates) ≡ true) (sym inputs) gates) in
    let size : l.inputs + length l.gates ≡ length vs = ap (λ n. n + length l.gates) (sym inputs) ∙ sym (length-values_of bs l.gates) in
    let lits : All (IsLit (length vs)) ls = subst (λ n. All (IsLit n) ls) size f.leaf.literals in
    let held : list_all (lit_value (at vs)) ls ≡ true =
    all-at vs values ls of lits
    ∙ truths-forced values (length vs) ls lits (right-part (are_true values (gates_clauses (suc l.inputs) l.gates)) (are_true values (truths_clauses ls)) parts) in
    let split : (list_all (lit_value (at vs)) l.guards && (lit_value (at vs) l.diff && true)) ≡ true =
    sym (list_all-append (lit_value (at vs)) l.guards (l.diff ∷ [])) ∙ held in
    let guards : guards_hold l (bits p s) ≡ true =
    ap (guards_hold l) same ∙ left-part (list_all (lit_value (at vs)) l.guards) (lit_value (at vs) l.diff && true) split in
    let here : (allows p s && begins l.path (answers_of_start p s)) ≡ true = sym (f.guards s ranged) ∙ guards in
    record {
      allowed = left-part (allows p s) (begins l.path (answers_of_start p s)) here;
      guards = guards;
      comes = right-part (allows p s) (begins l.path (answers_of_start p s)) here;
      differs = ap (λ b. eval (net_of l) b l.diff) same
          ∙ left-part (lit_value (at vs) l.diff) true (right-part (list_all (lit_value (at vs)) l.guards) (lit_value (at vs) l.diff && true) split);
    }
