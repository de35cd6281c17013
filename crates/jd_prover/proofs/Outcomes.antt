-- The lines as a whole: the state after them, a refutation, an exhausted budget, a model's values.
use Rattle.std.proofs.Common.{◌≡◌, ◌⊎◌, inl, inr, ℕ, suc, ◌+◌, ◌<◌, ◌≤◌, ℤ, pos, Bool, true, false, ◌&&◌, ◌||◌, List, [], ◌∷◌, ◌++◌, length, get_or, refl, ap, sym, ◌∙◌, subst, arith, Option, Some, None, eq-eqb}
use Rattle.std.specs.Prelude.{neg_ℤ, ◌==◌, if◌then◌else◌, Ok, Err, Result}
use Rattle.jd_logic.specs.declared.answers.BadLine.{BadLine}
use Rattle.jd_logic.specs.declared.Line.{Line}
use Rattle.jd_logic.specs.declared.Line.TheVariants.{Derive, Delete}
use Rattle.jd_logic.specs.Literals.{has}
use Rattle.jd_logic.specs.Checking.{State, begun, with_clause, numbered_from, derivation_fault, checked}
use Rattle.jd_proving.specs.Propagation.{has_value, is_new, all_new, is_exhausted}
use Rattle.jd_proving.specs.Proving.{literals_from, state_after, AreDecided, IsModel}
use Rattle.jd_propagate.specs.Quiet.{IsIn, IsWithin, HasNoOpposites, AreQuiet}
use Rattle.jd_propagate.specs.Levels.{derived}
use Rattle.jd_propagate.proofs.Models.{model_found}
use Rattle.jd_propagate.proofs.Members.{and_true, and_right, has-cases, false_is_not_true}

pub numbered-push : (from : ℕ) (cs : List (List ℤ)) (c : List ℤ) → numbered_from from (cs ++ c ∷ []) ≡ numbered_from from cs ++ (from + length cs, c) ∷ []
numbered-push from [] c = ap (λ (n : ℕ). (n, c) ∷ []) (let e : from ≡ from + 0 = omega arith in e)
numbered-push from (x ∷ xs) c = ap (λ ps. (from, x) ∷ ps) (numbered-push (suc from) xs c ∙ ap (λ (n : ℕ). numbered_from (suc from) xs ++ (n, c) ∷ []) (let e : suc from + length xs ≡ from + suc (length xs) = omega arith in e))

right : (s : State) (i : ℕ) (c h : List ℤ) → derivation_fault s i c h ≡ None → checked s (Derive i c h) ≡ Ok (with_clause s i c)
right s i c h e = let f : Option BadLine → Result State BadLine = λ o. elim o [ Some cause ↦ Err cause | None ↦ Ok (with_clause s i c) ] in ap f e

goes_on : (s next : State) (line : Line) (lines : List Line) → checked s line ≡ Ok next → state_after s (line ∷ lines) ≡ state_after next lines
goes_on s next line lines e = let g : Result State BadLine → Option State = λ r. elim r [ Ok n ↦ state_after n lines | Err cause ↦ None ] in ap g e

pub new-head : (s : State) (clauses : List (List ℤ)) (i : ℕ) (c h : List ℤ) (log : List Line) → all_new s clauses (Derive i c h ∷ log) ≡ true
    → (derivation_fault s i c h ≡ None) × (all_new (with_clause s i c) (clauses ++ c ∷ []) log ≡ true)
new-head s clauses i c h log all = by (derivation_fault s i c h) all
  where
    by : (o : Option BadLine) → (elim o [ Some cause ↦ false | None ↦ is_new clauses c && all_new (with_clause s i c) (clauses ++ c ∷ []) log ]) ≡ true
        → (o ≡ None) × (all_new (with_clause s i c) (clauses ++ c ∷ []) log ≡ true)
    by (Some cause) e = cc
    by None e = (refl, and_right (is_new clauses c) (all_new (with_clause s i c) (clauses ++ c ∷ []) log) e)

-- the state after derivations that are right and new, and one more that is right
pub state-after : (s : State) (clauses : List (List ℤ)) (log : List Line) (id : ℕ) (clause hints : List ℤ) → all_new s clauses log ≡ true → derivation_fault (derived s log) id clause hints ≡ None
    → state_after s (log ++ Derive id clause hints ∷ []) ≡ Some (with_clause (derived s log) id clause)
state-after s clauses [] id clause hints all e = goes_on s (with_clause s id clause) (Derive id clause hints) [] (right s id clause hints e)
state-after s clauses (Delete ids ∷ log) id clause hints all e = cc
state-after s clauses (Derive i c h ∷ log) id clause hints all e =
    let n = new-head s clauses i c h log all in
    goes_on s (with_clause s i c) (Derive i c h) (log ++ Derive id clause hints ∷ []) (right s i c h (n.0))
    ∙ state-after (with_clause s i c) (clauses ++ c ∷ []) log id clause hints (n.1) e

-- a budget that was spent
pub exhausted : (clauses : List (List ℤ)) (budget : ℕ) (log : List Line) → length log ≡ budget → all_new (begun clauses) clauses log ≡ true → is_exhausted clauses budget log ≡ true
exhausted clauses budget log many all = and_true (length log == budget) (all_new (begun clauses) clauses log) (eq-eqb (length log) budget many) all

-- the literals of the inputs' values are true
pub values-within : (n : ℕ) (bits : List Bool) (trail : List ℤ)
    → ((k : ℕ) → k < length bits → get_or bits k false ≡ has trail (pos (n + k))) → ((k : ℕ) → k < length bits → has_value trail (pos (n + k)) ≡ true)
    → IsWithin (literals_from n bits) trail
values-within n [] trail are valued = λ l is. absurd (false_is_not_true false refl is)
values-within n (b ∷ bits) trail are valued = λ l is. by l (has-cases (if b then pos n else neg_ℤ (pos n)) (literals_from (suc n) bits) l is)
    (λ h. values-within (suc n) bits trail
    (λ k lt. are (suc k) (omega arith) ∙ ap (λ (j : ℕ). has trail (pos j)) (let e : n + suc k ≡ suc n + k = omega arith in e))
    (λ k lt. ap (λ (j : ℕ). has_value trail (pos j)) (let e : suc n + k ≡ n + suc k = omega arith in e) ∙ valued (suc k) (omega arith)) l h)
  where
    here : n + 0 ≡ n
    here = omega arith

    first : (b h : Bool) → b ≡ h → h ≡ has trail (pos n) → (h || has trail (neg_ℤ (pos n))) ≡ true → IsIn trail (if b then pos n else neg_ℤ (pos n))
    first true true e f g = sym f
    first false false e f g = g
    first true false e f g = cc
    first false true e f g = cc

    value : has_value trail (pos n) ≡ true
    value = ap (λ (k : ℕ). has_value trail (pos k)) (sym here) ∙ valued 0 (omega arith)

    by : (l : ℤ) → ((if b then pos n else neg_ℤ (pos n)) ≡ l) ⊎ IsIn (literals_from (suc n) bits) l → (IsIn (literals_from (suc n) bits) l → IsIn trail l) → IsIn trail l
    by l (inl e) rest =
        let P : ℤ → Type 0 = λ z. IsIn trail z in
        subst P e (first b (has trail (pos n)) (are 0 (omega arith) ∙ ap (λ (k : ℕ). has trail (pos k)) here) refl value)
    by l (inr h) rest = rest h

-- the inputs' values are a model, where all have one and every clause is quiet
pub model-of : (clauses : List (List ℤ)) (inputs : ℕ) (bits : List Bool) (trail : List ℤ) → AreDecided clauses inputs → length bits ≡ inputs
    → ((k : ℕ) → k < inputs → get_or bits k false ≡ has trail (pos (k + 1))) → ((v : ℕ) → 0 < v → v ≤ inputs → has_value trail (pos v) ≡ true)
    → HasNoOpposites trail → AreQuiet trail clauses → IsModel clauses inputs bits
model-of clauses inputs bits trail decided many are valued opposites quiet =
    model_found clauses inputs bits trail many (decided bits many)
    (values-within 1 bits trail
    (λ k lt. are k (omega (arith, many)) ∙ ap (λ (n : ℕ). has trail (pos n)) (let e : k + 1 ≡ 1 + k = omega arith in e))
    (λ k lt. valued (1 + k) (omega arith) (omega (arith, many))))
    opposites quiet
