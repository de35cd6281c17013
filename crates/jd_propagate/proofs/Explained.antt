-- Hints that lead to a conflict from some true literals, found from the trail's end backwards.
use Rattle.std.proofs.Common.{◌≡◌, ◌⊎◌, inl, inr, ℕ, ℤ, pos, Bool, true, false, not, cond, List, [], ◌∷◌, Option, Some, None, refl, ap, sym, ◌∙◌, subst}
use Rattle.std.specs.Prelude.{neg_ℤ}
use Rattle.std.specs.Ordering.{int_eq}
use Rattle.std.specs.List.{list_all}
use Rattle.jd_logic.specs.declared.answers.BadLine.{BadLine}
use Rattle.jd_logic.specs.declared.answers.BadLine.TheVariants.{NoClause, NotUnit}
use Rattle.jd_logic.specs.declared.Left.{Left}
use Rattle.jd_logic.specs.declared.Left.TheVariants.{Falsified, Unit, Open}
use Rattle.jd_logic.specs.Literals.{has, counted, left, left_of, with_literal}
use Rattle.jd_logic.specs.Derivation.{clause_of, hints_fault}
use Rattle.jd_propagate.specs.Quiet.{IsIn, HasNoOpposites}
use Rattle.jd_propagate.specs.Hints.{LeadsToConflict}
use Rattle.jd_propagate.proofs.Members.{false_is_not_true, has-here, has-there, has-cases, int_eq-refl, list_all-each, with_literal-keeps, with_literal-has, within_with_literal}
use Rattle.jd_propagate.proofs.Closure.{left_of-has, still_open}

-- what is left is of the clause, and isn't false
left_of-among : (trues clause : List ℤ) (l : ℤ) → IsIn (left_of trues clause) l → IsIn clause l × (has trues (neg_ℤ l) ≡ false)
left_of-among trues [] l is = absurd (false_is_not_true false refl is)
left_of-among trues (m ∷ ms) l is = by (has trues (neg_ℤ m)) refl is (left_of-among trues ms l)
  where
    by : (b : Bool) → has trues (neg_ℤ m) ≡ b → IsIn (cond (not b) (m ∷ left_of trues ms) (left_of trues ms)) l
        → (IsIn (left_of trues ms) l → IsIn ms l × (has trues (neg_ℤ l) ≡ false)) → IsIn (m ∷ ms) l × (has trues (neg_ℤ l) ≡ false)
    by true e is rest = let r = rest is in (has-there m ms l (r.0), r.1)
    by false e is rest = elim (has-cases m (left_of trues ms) l is) [
      | inl f ↦ (let P : ℤ → Type 0 = λ z. IsIn (m ∷ ms) z × (has trues (neg_ℤ z) ≡ false) in subst P f (has-here m ms, e))
      | inr f ↦ (let r = rest f in (has-there m ms l (r.0), r.1))
    ]

none_left : (ls : List ℤ) → ((l : ℤ) → IsIn ls l → ⊥) → counted ls ≡ Falsified
none_left [] h = refl
none_left (l ∷ ls) h = absurd (h l (has-here l ls))

one_left : (ls : List ℤ) (l : ℤ) → IsIn ls l → ((m : ℤ) → IsIn ls m → m ≡ l) → counted ls ≡ Unit l
one_left [] l is h = absurd (false_is_not_true false refl is)
one_left (x ∷ xs) l is h =
    let e : x ≡ l = h x (has-here x xs) in
    let all : list_all (λ m. int_eq m x) xs ≡ true = list_all-each (λ m. int_eq m x) xs (λ m k. same m (h m (has-there x xs m k) ∙ sym e)) in
    ap (λ (b : Bool). cond b (Unit x) Open) all ∙ ap Unit e
  where
    same : (m : ℤ) → m ≡ x → int_eq m x ≡ true
    same m f = ap (λ (z : ℤ). int_eq z x) f ∙ int_eq-refl x

-- the rest of the hints, by what is left of the first one's clause
abbrev after_left : List (ℕ × List ℤ) → List ℤ → ℕ → List ℤ → Left → Option BadLine
after_left clauses trues id hints Falsified = None
after_left clauses trues id hints (Unit l) = hints_fault clauses (with_literal trues l) hints
after_left clauses trues id hints Open = Some (NotUnit (pos id))

by_left : (clauses : List (ℕ × List ℤ)) (trues : List ℤ) (id : ℕ) (clause hints : List ℤ) (left' : Left) → clause_of id clauses ≡ Some clause → left trues clause ≡ left'
    → hints_fault clauses trues (pos id ∷ hints) ≡ after_left clauses trues id hints left'
by_left clauses trues id clause hints left' is e =
    let f : Option (List ℤ) → Option BadLine = λ o. elim o [
      | None ↦ Some (NoClause (pos id))
      | Some c ↦ (elim (left trues c) [ Falsified ↦ None | Unit l ↦ hints_fault clauses (with_literal trues l) hints | Open ↦ Some (NotUnit (pos id)) ])
    ] in
    let g : Left → Option BadLine = λ k. elim k [ Falsified ↦ None | Unit l ↦ hints_fault clauses (with_literal trues l) hints | Open ↦ Some (NotUnit (pos id)) ] in
    ap f is ∙ ap g e ∙ same left'
  where
    same : (k : Left) → (elim k [ Falsified ↦ None | Unit l ↦ hints_fault clauses (with_literal trues l) hints | Open ↦ Some (NotUnit (pos id)) ]) ≡ after_left clauses trues id hints k
    same Falsified = refl
    same (Unit l) = refl
    same Open = refl

-- a clause all of whose literals are false
pub conflict-leads : (clauses : List (ℕ × List ℤ)) (trail : List ℤ) (need : ℤ → Type 0) (id : ℕ) (clause hints : List ℤ) → clause_of id clauses ≡ Some clause
    → ((l : ℤ) → IsIn clause l → need (neg_ℤ l)) → LeadsToConflict clauses trail need (pos id ∷ hints)
conflict-leads clauses trail need id clause hints is false' = λ trues w n.
    let e : left trues clause ≡ Falsified = none_left (left_of trues clause) (λ l k. let a = left_of-among trues clause l k in false_is_not_true (has trues (neg_ℤ l)) (a.1) (n (neg_ℤ l) (false' l (a.0)))) in
    by_left clauses trues id clause hints Falsified is e

-- the cause of a true literal
pub cause-leads : (clauses : List (ℕ × List ℤ)) (trail : List ℤ) (need next : ℤ → Type 0) (id : ℕ) (clause hints : List ℤ) (l : ℤ) → HasNoOpposites trail → IsIn trail l
    → clause_of id clauses ≡ Some clause → IsIn clause l → ((m : ℤ) → IsIn clause m → (m ≡ l) ⊎ need (neg_ℤ m))
    → ((m : ℤ) → next m → need m ⊎ (m ≡ l)) → LeadsToConflict clauses trail next hints → LeadsToConflict clauses trail need (pos id ∷ hints)
cause-leads clauses trail need next id clause hints l h in' is among others after leads = λ trues w n.
    let open' : has trues (neg_ℤ l) ≡ false = still_open trues trail l w (h l in') in
    let e : left trues clause ≡ Unit l = one_left (left_of trues clause) l (left_of-has trues clause l among open') (λ m k. alone trues n m (left_of-among trues clause m k)) in
    let rest : hints_fault clauses (with_literal trues l) hints ≡ None = leads (with_literal trues l) (within_with_literal trues trail l w in') (λ m k. kept trues n m (after m k)) in
    by_left clauses trues id clause hints (Unit l) is e ∙ rest
  where
    alone : (trues : List ℤ) → ((m : ℤ) → need m → IsIn trues m) → (m : ℤ) → IsIn clause m × (has trues (neg_ℤ m) ≡ false) → m ≡ l
    alone trues n m (a, f) = elim (others m a) [ inl e ↦ e | inr k ↦ absurd (false_is_not_true (has trues (neg_ℤ m)) f (n (neg_ℤ m) k)) ]

    kept : (trues : List ℤ) → ((m : ℤ) → need m → IsIn trues m) → (m : ℤ) → need m ⊎ (m ≡ l) → IsIn (with_literal trues l) m
    kept trues n m (inl k) = with_literal-keeps trues l m (n m k)
    kept trues n m (inr e) = let P : ℤ → Type 0 = λ z. IsIn (with_literal trues l) z in subst P (sym e) (with_literal-has trues l)

-- fewer needs
pub leads-weaker : (clauses : List (ℕ × List ℤ)) (trail : List ℤ) (need next : ℤ → Type 0) (hints : List ℤ) → ((m : ℤ) → next m → need m) → LeadsToConflict clauses trail next hints
    → LeadsToConflict clauses trail need hints
leads-weaker clauses trail need next hints f leads = λ trues w n. leads trues w (λ m k. n m (f m k))
