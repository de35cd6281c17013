-- A clause more that was taken.
use Rattle.std.proofs.Common.{◌≡◌, inl, inr, Bool, true, false, ℕ, suc, ◌+◌, ◌<◌, ℤ, List, [], ◌∷◌, ◌++◌, length, get_or, refl, ap, sym, ◌∙◌, subst, arith}
use Rattle.std.specs.Prelude.{MatchBool}
use Rattle.std.proofs.lemmas.List.{get_or_append_left, get_or_push, length_push}
use Rattle.jd_propagate.specs.Quiet.{IsWithin}
use Rattle.jd_propagate.specs.Passing.{clause_of}
use Rattle.jd_propagate.proofs.Attaching.{each_more}
use Rattle.jd_propagate.specs.Hints.{IsFalseBy}
use Rattle.jd_prover.specs.declared.solver.Solver.{Solver}
use Rattle.jd_prover.specs.Solving.{AreOrigins, IsCovered, IsTaken, IsTakenBy, IsUnitTaken}

pub origins-more : (clauses long : List (List ℤ)) (origins : List ℕ) (at : ℕ) → at < length clauses → AreOrigins clauses long origins
    → AreOrigins clauses (long ++ clause_of clauses at ∷ []) (origins ++ at ∷ [])
origins-more clauses long origins at lt o = record {
  as_many = omega (arith, o.as_many, length_push long (clause_of clauses at), length_push origins at);
  within = λ c h. each_more (λ d. get_or (origins ++ at ∷ []) d 0 < length clauses) (length long) c
      (λ d k. (let P : ℕ → Type 0 = λ v. v < length clauses in subst P (old d k) (o.within d k)))
      (let P : ℕ → Type 0 = λ v. v < length clauses in subst P new lt) (more c h);
  same = λ c h. each_more (λ d. clause_of (long ++ clause_of clauses at ∷ []) d ≡ clause_of clauses (get_or (origins ++ at ∷ []) d 0)) (length long) c
      (λ d k. get_or_append_left long (clause_of clauses at ∷ []) [] d k ∙ o.same d k ∙ ap (clause_of clauses) (old d k))
      (get_or_push long (clause_of clauses at) [] (length long) refl ∙ ap (clause_of clauses) new) (more c h);
}
  where
    more : (c : ℕ) → c < length (long ++ clause_of clauses at ∷ []) → c < length long + 1
    more c h = omega (arith, length_push long (clause_of clauses at))

    old : (d : ℕ) → d < length long → get_or origins d 0 ≡ get_or (origins ++ at ∷ []) d 0
    old d k = sym (get_or_append_left origins (at ∷ []) 0 d (let e = o.as_many in omega arith))

    new : at ≡ get_or (origins ++ at ∷ []) (length long) 0
    new = sym (get_or_push origins at 0 (length long) o.as_many)

pub covered-grows : (long : List (List ℤ)) (trues next clause : List ℤ) → IsWithin trues next → IsCovered long trues clause → IsCovered long next clause
covered-grows long trues next clause w (inl h) = inl h
covered-grows long trues next clause w (inr (l, t)) = inr (l, record { among = t.among; is_true = w l t.is_true })

pub covered-watched : (long : List (List ℤ)) (trues clause more : List ℤ) → IsCovered long trues clause → IsCovered (long ++ more ∷ []) trues clause
covered-watched long trues clause more (inl (c, lt, e)) = inl (c, omega (arith, length_push long more), get_or_append_left long (more ∷ []) [] c lt ∙ e)
covered-watched long trues clause more (inr h) = inr h

pub covered-last : (long : List (List ℤ)) (trues more : List ℤ) → IsCovered (long ++ more ∷ []) trues more
covered-last long trues more = inl (length long, omega (arith, length_push long more), get_or_push long more [] (length long) refl)

-- what holds of so many and of the next holds of one more
pub next_too : (P : ℕ → Type 0) (n : ℕ) → ((k : ℕ) → k < n → P k) → P n → (k : ℕ) → k < suc n → P k
next_too P n old new k lt = each_more P n k old new (omega arith)

-- fewer clauses are taken too
pub taken-none : (clauses : List (List ℤ)) (n : ℕ) (s : Solver) → IsTaken clauses n s → IsTaken clauses 0 s
taken-none clauses n s t = record {
  watched = t.watched;
  known = t.known;
  covered = λ k lt. absurd (omega arith);
  no_decisions = t.no_decisions;
  no_limits = t.no_limits;
  no_lines = t.no_lines;
}

-- a clause of one literal is the next one
pub unit-next : (clauses : List (List ℤ)) (n : ℕ) (s : Solver) (kept : Bool) → IsUnitTaken clauses n n s kept → IsTakenBy clauses n s kept
unit-next clauses n s false h = h
unit-next clauses n s true h =
    let t = h.0 in
    record {
      watched = t.watched;
      known = t.known;
      covered = next_too (λ k. IsCovered s.long s.trail (clause_of clauses k)) n t.covered h.1;
      no_decisions = t.no_decisions;
      no_limits = t.no_limits;
      no_lines = t.no_lines;
    }

pub unit-stays : (clauses : List (List ℤ)) (n at : ℕ) (s : Solver) (kept : Bool) → IsUnitTaken clauses n at s kept → IsTaken clauses n s
unit-stays clauses n at s false h = h.0
unit-stays clauses n at s true h = h.0

pub unit-false : (clauses : List (List ℤ)) (n at : ℕ) (s : Solver) (kept : Bool) → IsUnitTaken clauses n at s kept → MatchBool kept (Unit {0}) (IsFalseBy s.trail (clause_of clauses at))
unit-false clauses n at s false h = h.1
unit-false clauses n at s true h = tt
