-- Lines that are right and new, one more of them, and what they end with.
use Rattle.std.proofs.Common.{◌≡◌, ℕ, suc, ◌+◌, ◌<◌, ◌^◌, ℤ, Bool, true, false, not, ◌&&◌, ◌||◌, List, [], ◌∷◌, ◌++◌, length, refl, ap, sym, ◌∙◌, subst, arith, append_assoc, Option, Some, None}
use Rattle.std.specs.Prelude.{nat_le, if◌then◌else◌}
use Rattle.std.specs.List.{list_any, list_all}
use Rattle.std.proofs.lemmas.Bool.{le-leb, lt-leb}
use Rattle.std.proofs.lemmas.List.{length_push}
use Rattle.std.proofs.lemmas.List.Elements.{All-push}
use Rattle.jd_logic.specs.declared.answers.BadLine.TheVariants.{IdOrder}
use Rattle.jd_logic.specs.declared.Line.{Line}
use Rattle.jd_logic.specs.declared.Line.TheVariants.{Derive, Delete}
use Rattle.jd_logic.specs.Literals.{with_negations}
use Rattle.jd_logic.specs.Derivation.{hints_fault}
use Rattle.jd_logic.specs.Ranges.{IsDerivation, IsLine, AreLines}
use Rattle.jd_logic.specs.Checking.{State, begun, with_clause, derivation_fault, numbered_from, is_empty}
use Rattle.jd_proving.specs.Propagation.{is_new, all_new}
use Rattle.jd_proving.specs.Proving.{IsRefuted, IsUnknown, is_derivation, is_no_line, is_refutation, state_after}
use Rattle.jd_propagate.specs.Quiet.{IsIn, IsWithin}
use Rattle.jd_propagate.specs.Hints.{LeadsToConflict}
use Rattle.jd_propagate.specs.Levels.{negated, clauses_of, derived}
use Rattle.jd_propagate.proofs.Members.{false_is_not_true, or_right, and_true}
use Rattle.jd_propagate.proofs.Lines.{with_negations-within, with_negations-has, all_new-push}
use Rattle.jd_prover.specs.declared.solver.Solver.{Solver}
use Rattle.jd_prover.specs.Solving.{store_of, AreLogged, IsRight, IsConflictLine}
use Rattle.jd_prover.proofs.Outcomes.{new-head, state-after, exhausted, numbered-push}

pub lines-begun : (clauses : List (List ℤ)) → AreLogged clauses []
lines-begun clauses = record {
  stored = ap (numbered_from 1) (nothing clauses);
  greatest = omega arith;
  new = refl;
  ranges = λ k d lt. absurd (omega arith);
}
  where
    nothing : (xs : List (List ℤ)) → xs ≡ xs ++ []
    nothing [] = refl
    nothing (x ∷ xs) = ap (λ ys. x ∷ ys) (nothing xs)

pub clauses_of-push : (lines : List Line) (id : ℕ) (c h : List ℤ) → clauses_of (lines ++ Derive id c h ∷ []) ≡ clauses_of lines ++ c ∷ []
clauses_of-push [] id c h = refl
clauses_of-push (Derive i d g ∷ lines) id c h = ap (λ cs. d ∷ cs) (clauses_of-push lines id c h)
clauses_of-push (Delete ids ∷ lines) id c h = clauses_of-push lines id c h

-- the clauses given and derived, with a line more
pub clauses-more : (clauses : List (List ℤ)) (lines : List Line) (id : ℕ) (c h : List ℤ) → clauses ++ clauses_of (lines ++ Derive id c h ∷ []) ≡ (clauses ++ clauses_of lines) ++ c ∷ []
clauses-more clauses lines id c h = ap (λ cs. clauses ++ cs) (clauses_of-push lines id c h) ∙ sym (append_assoc clauses (clauses_of lines) (c ∷ []))

derived-push : (s : State) (lines : List Line) (id : ℕ) (c h : List ℤ) → derived s (lines ++ Derive id c h ∷ []) ≡ with_clause (derived s lines) id c
derived-push s [] id c h = refl
derived-push s (Derive i d g ∷ lines) id c h = derived-push (with_clause s i d) lines id c h
derived-push s (Delete ids ∷ lines) id c h = derived-push s lines id c h

pub clauses_of-many : (s : State) (clauses : List (List ℤ)) (lines : List Line) → all_new s clauses lines ≡ true → length (clauses_of lines) ≡ length lines
clauses_of-many s clauses [] e = refl
clauses_of-many s clauses (Derive i d g ∷ lines) e = ap suc (clauses_of-many (with_clause s i d) (clauses ++ d ∷ []) lines (new-head s clauses i d g lines e).1)
clauses_of-many s clauses (Delete ids ∷ lines) e = cc

are_derivations : (s : State) (clauses : List (List ℤ)) (lines : List Line) (id : ℕ) (c h : List ℤ) → all_new s clauses lines ≡ true → list_all is_derivation (lines ++ Derive id c h ∷ []) ≡ true
are_derivations s clauses [] id c h e = refl
are_derivations s clauses (Derive i d g ∷ lines) id c h e = are_derivations (with_clause s i d) (clauses ++ d ∷ []) lines id c h (new-head s clauses i d g lines e).1
are_derivations s clauses (Delete ids ∷ lines) id c h e = cc

-- hints that lead from literals to a conflict show the clause of their negations
pub leads-right : (store : List (ℕ × List ℤ)) (trail kept hints : List ℤ) → IsWithin kept trail → LeadsToConflict store trail (λ l. IsIn kept l) hints
    → hints_fault store (with_negations [] (negated kept)) hints ≡ None
leads-right store trail kept hints w leads =
    let none : IsWithin [] trail = λ l is. absurd (false_is_not_true false refl is) in
    leads (with_negations [] (negated kept)) (with_negations-within [] trail kept none w) (λ l k. with_negations-has [] kept l k)

right-fault : (s : State) (store : List (ℕ × List ℤ)) (greatest id : ℕ) (c h : List ℤ) → s.clauses ≡ store → s.greatest ≡ greatest → greatest < id
    → hints_fault store (with_negations [] c) h ≡ None → derivation_fault s id c h ≡ None
right-fault s store greatest id c h es eg lt e =
    let later : nat_le id s.greatest ≡ false = lt-leb id s.greatest (omega (arith, eg)) in
    ap (λ (b : Bool). if b then Some IdOrder else hints_fault s.clauses (with_negations [] c) h) later ∙ ap (λ (st : List (ℕ × List ℤ)). hints_fault st (with_negations [] c) h) es ∙ e

line-fault : (clauses : List (List ℤ)) (lines : List Line) (id : ℕ) (c h : List ℤ) → AreLogged clauses lines → id ≡ length clauses + length lines + 1 → IsRight clauses lines c h
    → derivation_fault (derived (begun clauses) lines) id c h ≡ None
line-fault clauses lines id c h are ei right =
    right-fault (derived (begun clauses) lines) (store_of clauses lines) (length clauses + length lines) id c h are.stored are.greatest (omega arith) right

pub all-many : (clauses : List (List ℤ)) (lines : List Line) → AreLogged clauses lines → length (clauses ++ clauses_of lines) ≡ length clauses + length lines
all-many clauses lines are = appended clauses (clauses_of lines) ∙ ap (λ (n : ℕ). length clauses + n) (clauses_of-many (begun clauses) clauses lines are.new)
  where
    appended : (xs ys : List (List ℤ)) → length (xs ++ ys) ≡ length xs + length ys
    appended [] ys = omega arith
    appended (x ∷ xs) ys = let e = appended xs ys in omega arith

-- a line more
pub lines-push : (clauses : List (List ℤ)) (lines : List Line) (id : ℕ) (c h : List ℤ) → AreLogged clauses lines → id ≡ length clauses + length lines + 1 → IsRight clauses lines c h
    → is_new (clauses ++ clauses_of lines) c ≡ true → IsDerivation id c h → AreLogged clauses (lines ++ Derive id c h ∷ [])
lines-push clauses lines id c h are ei right new ranges =
    let d = derived-push (begun clauses) lines id c h in
    let many = all-many clauses lines are in
    record {
      stored = ap (λ (s : State). s.clauses) d ∙ ap (λ (st : List (ℕ × List ℤ)). st ++ (id, c) ∷ []) are.stored
          ∙ ap (λ (n : ℕ). store_of clauses lines ++ (n, c) ∷ []) (let e : id ≡ 1 + length (clauses ++ clauses_of lines) = omega arith in e)
          ∙ sym (ap (numbered_from 1) (clauses-more clauses lines id c h) ∙ numbered-push 1 (clauses ++ clauses_of lines) c);
      greatest = ap (λ (s : State). s.greatest) d ∙ omega (arith, ei, length_push lines (Derive id c h));
      new = all_new-push (begun clauses) clauses lines id c h are.new (line-fault clauses lines id c h are ei right) new;
      ranges = All-push IsLine lines (Derive id c h) are.ranges ranges;
    }

-- the empty clause ends a refutation
pub lines-refuted : (clauses : List (List ℤ)) (budget : ℕ) (lines : List Line) (id : ℕ) (h : List ℤ) → AreLogged clauses lines → id ≡ length clauses + length lines + 1 → IsRight clauses lines [] h
    → list_any is_empty clauses ≡ false → length lines < budget → IsRefuted clauses budget (lines ++ Derive id [] h ∷ [])
lines-refuted clauses budget lines id h are ei right none few =
    let log = lines ++ Derive id [] h ∷ [] in
    let s = derived (begun clauses) lines in
    let after = state-after (begun clauses) clauses lines id [] h are.new (line-fault clauses lines id [] h are ei right) in
    let ends : Option State → Bool = λ o. elim o [ Some t ↦ t.refuted | None ↦ false ] in
    and_true (is_refutation clauses log) (nat_le (length log) budget)
    (and_true (list_all is_derivation log && (is_no_line log || not (list_any is_empty clauses))) (ends (state_after (begun clauses) log))
    (and_true (list_all is_derivation log) (is_no_line log || not (list_any is_empty clauses)) (are_derivations (begun clauses) clauses lines id [] h are.new)
    (or_right (is_no_line log) (not (list_any is_empty clauses)) (ap not none)))
    (ap ends after ∙ or_right s.refuted true refl))
    (le-leb (length log) budget (omega (arith, length_push lines (Derive id [] h))))

-- a budget that was spent
pub lines-spent : (clauses : List (List ℤ)) (inputs budget : ℕ) (lines : List Line) → AreLogged clauses lines → length lines ≡ budget → budget < 2 ^ (inputs + 1) → IsUnknown clauses inputs budget lines
lines-spent clauses inputs budget lines are many small = record { exhausted = exhausted clauses budget lines many are.new; small = small }

-- the line of a conflict before any decision
pub refuted-by : (clauses : List (List ℤ)) (budget : ℕ) (s : Solver) (id : ℕ) (line : Line) (lines : List Line) → AreLogged clauses s.lines.items → IsConflictLine clauses s id line
    → length s.decisions.items ≡ 0 → id ≡ length clauses + length s.lines.items + 1 → id < 2 ^ 63 → list_any is_empty clauses ≡ false → length s.lines.items < budget → lines ≡ s.lines.items ++ line ∷ []
    → IsRefuted clauses budget lines × AreLines lines
refuted-by clauses budget s id line lines are l none next small given few el =
    let e : line ≡ Derive id [] l.hints = l.same ∙ ap (λ (xs : List ℤ). Derive id (negated xs) l.hints) (empty s.decisions.items none) in
    let P : List Line → Type 0 = λ ls. IsRefuted clauses budget ls × AreLines ls in
    let Q : Line → Type 0 = λ k. IsRefuted clauses budget (s.lines.items ++ k ∷ []) × AreLines (s.lines.items ++ k ∷ []) in
    let R : List ℤ → Type 0 = λ xs. IsRight clauses s.lines.items (negated xs) l.hints in
    let right = subst R (empty s.decisions.items none) l.right in
    subst P (sym el) (subst Q (sym e) (
      lines-refuted clauses budget s.lines.items id l.hints are next right given few,
      All-push IsLine s.lines.items (Derive id [] l.hints) are.ranges (record { id_in = record { not_zero = omega arith; bounded = small }; clause_in = λ k d lt. absurd (omega arith); hints_in = l.hints_in }),
    ))
  where
    empty : (xs : List ℤ) → length xs ≡ 0 → xs ≡ []
    empty [] e = refl
    empty (x ∷ xs) e = absurd (omega arith)
