-- Right lines keep what makes all clauses true, and nothing makes the empty clause true.
use Rattle.std.proofs.Common.{◌≡◌, ℕ, zero, suc, ◌||◌, ◌==◌, Bool, true, false, not, cond, List, [], ◌∷◌, ◌++◌, Option, Some, None, refl, sym, ap, ◌∙◌, ℤ, pos, negsuc, neg_ℤ}
use Rattle.std.specs.Prelude.{Result, Ok, Err, nat_le}
use Rattle.std.specs.List.{list_any, list_all}
use Rattle.std.specs.Ordering.{int_eq}
use Rattle.std.proofs.Math.IntN.{neg_ℤ-neg_ℤ}
use Rattle.std.proofs.lemmas.Bool.{false≢true}
use Rattle.std.proofs.lemmas.Bool.Decides.{Decides-int_eq}
use Rattle.std.proofs.lemmas.List.Folds.{list_all-append}
use Rattle.jd_text.proofs.Tests.{left-part, right-part}
use Rattle.jd_logic.specs.declared.Line.{Line}
use Rattle.jd_logic.specs.declared.Line.TheVariants.{Derive, Delete}
use Rattle.jd_logic.specs.declared.answers.BadLine.{BadLine}
use Rattle.jd_logic.specs.declared.answers.BadLine.TheVariants.{NoClause, NotUnit, IdOrder}
use Rattle.jd_logic.specs.declared.Left.{Left}
use Rattle.jd_logic.specs.declared.Left.TheVariants.{Falsified, Unit as One, Open as Several}
use Rattle.jd_logic.specs.Literals.{has, with_literal, with_negations, left_of, counted, left}
use Rattle.jd_logic.specs.Derivation.{clause_of, hints_fault, without, deleted}
use Rattle.jd_logic.specs.Checking.{State, is_empty, begun, numbered_from, with_clause, derivation_fault, checked}
use Rattle.jd_books.specs.Clauses.{is_true_number, is_true_clause, are_true, IsUnsatisfiable}
use Rattle.jd_books.specs.Checks.{LogEnd, bad_at, right_lines, log_end_from}
use Rattle.jd_books.proofs.ClausesTrue.{both}

-- a false literal's negation, and a true literal's
neg-false : (values : ℕ → Bool) (l : ℤ) → is_true_number values l ≡ true → is_true_number values (neg_ℤ l) ≡ false
neg-false values (pos zero) h = absurd (false≢true h)
neg-false values (pos (suc v)) h = ap not h
neg-false values (negsuc v) h = by_value (values (suc v)) h
  where
    by_value : (b : Bool) → not b ≡ true → b ≡ false
    by_value true h = absurd (false≢true h)
    by_value false h = refl

-- literals that are taken as true, where the values make their negations false
abbrev AreTaken : (ℕ → Bool) → List ℤ → Type 0
AreTaken values trues = (t : ℤ) → has trues t ≡ true → is_true_number values (neg_ℤ t) ≡ false

or-cases : {G : Type 0} (a b : Bool) → (a || b) ≡ true → (a ≡ true → G) → (b ≡ true → G) → G
or-cases true b h first second = first refl
or-cases false b h first second = second h

has-pushed : {G : Type 0} (ls : List ℤ) (l t : ℤ) → has (ls ++ l ∷ []) t ≡ true → (has ls t ≡ true → G) → (l ≡ t → G) → G
has-pushed [] l t h before last = or-cases (int_eq l t) false h (λ e. last ((Decides-int_eq l t).0 e)) (λ e. absurd (false≢true e))
has-pushed (m ∷ ls) l t h before last =
    or-cases (int_eq m t) (has (ls ++ l ∷ []) t) h (λ e. before (rw e)) (λ e. has-pushed ls l t e (λ f. before (or-right (int_eq m t) (has ls t) f)) last)
  where
    or-right : (a b : Bool) → b ≡ true → (a || b) ≡ true
    or-right true b h = refl
    or-right false b h = h

taken-more : (values : ℕ → Bool) (trues : List ℤ) (l : ℤ) → AreTaken values trues → is_true_number values (neg_ℤ l) ≡ false → AreTaken values (with_literal trues l)
taken-more values trues l taken is = by_test (has trues l)
  where
    by_test : (b : Bool) → AreTaken values (cond b trues (trues ++ l ∷ []))
    by_test true = taken
    by_test false = λ t h. has-pushed trues l t h (taken t) (λ e. ap (λ m. is_true_number values (neg_ℤ m)) (sym e) ∙ is)

or-false-left : (a b : Bool) → (a || b) ≡ false → a ≡ false
or-false-left true b h = h
or-false-left false b h = refl

or-false-right : (a b : Bool) → (a || b) ≡ false → b ≡ false
or-false-right true b h = absurd (false≢true (sym h))
or-false-right false b h = h

-- the negations of a false clause's literals
taken-negations : (values : ℕ → Bool) (clause trues : List ℤ) → is_true_clause values clause ≡ false → AreTaken values trues → AreTaken values (with_negations trues clause)
taken-negations values [] trues h taken = taken
taken-negations values (l ∷ ls) trues h taken =
    taken-negations values ls (with_literal trues (neg_ℤ l)) (or-false-right (is_true_number values l) (is_true_clause values ls) h)
    (taken-more values trues (neg_ℤ l) taken (ap (is_true_number values) (neg_ℤ-neg_ℤ l) ∙ or-false-left (is_true_number values l) (is_true_clause values ls) h))

-- a true clause's true literal is left
left-true : (values : ℕ → Bool) (trues clause : List ℤ) → AreTaken values trues → is_true_clause values clause ≡ true → is_true_clause values (left_of trues clause) ≡ true
left-true values trues [] taken h = h
left-true values trues (l ∷ ls) taken h = by_test (has trues (neg_ℤ l)) refl h (left-true values trues ls taken)
  where
    by_test : (b : Bool) → has trues (neg_ℤ l) ≡ b → (is_true_number values l || is_true_clause values ls) ≡ true → (is_true_clause values ls ≡ true → is_true_clause values (left_of trues ls) ≡ true)
        → is_true_clause values (cond (not b) (l ∷ left_of trues ls) (left_of trues ls)) ≡ true
    by_test true e h rest =
        or-cases (is_true_number values l) (is_true_clause values ls) h
        (λ t. absurd (false≢true (sym (taken (neg_ℤ l) e) ∙ ap (is_true_number values) (neg_ℤ-neg_ℤ l) ∙ t))) rest
    by_test false e h rest = or-cases (is_true_number values l) (is_true_clause values ls) h (λ t. rw t) (λ t. or-right (is_true_number values l) _ (rest t))
      where
        or-right : (a b : Bool) → b ≡ true → (a || b) ≡ true
        or-right true b h = refl
        or-right false b h = h

-- literals that are all one
all-one : (values : ℕ → Bool) (l : ℤ) (ls : List ℤ) → list_all (λ m. int_eq m l) ls ≡ true → is_true_clause values ls ≡ true → is_true_number values l ≡ true
all-one values l [] all h = absurd (false≢true h)
all-one values l (m ∷ ls) all h =
    or-cases (is_true_number values m) (is_true_clause values ls) h
    (λ t. ap (is_true_number values) (sym ((Decides-int_eq m l).0 (left-part (int_eq m l) (list_all (λ k. int_eq k l) ls) all))) ∙ t)
    (all-one values l ls (right-part (int_eq m l) (list_all (λ k. int_eq k l) ls) all))

-- what counting says of true literals
abbrev CountedTrue : (ℕ → Bool) → Left → Type 0
CountedTrue values Falsified = ⊥
CountedTrue values (One l) = is_true_number values l ≡ true
CountedTrue values Several = Unit {0}

counted-true : (values : ℕ → Bool) (ls : List ℤ) → is_true_clause values ls ≡ true → CountedTrue values (counted ls)
counted-true values [] h = absurd (false≢true h)
counted-true values (l ∷ ls) h = by_test (list_all (λ m. int_eq m l) ls) refl
  where
    by_test : (b : Bool) → list_all (λ m. int_eq m l) ls ≡ b → CountedTrue values (cond b (One l) Several)
    by_test true e = or-cases (is_true_number values l) (is_true_clause values ls) h (λ t. t) (all-one values l ls e)
    by_test false e = tt

-- ---- the clauses that are there

abbrev ClausesTrue : (ℕ → Bool) → List (ℕ × List ℤ) → Type 0
ClausesTrue values cs = list_all (λ c. is_true_clause values c.1) cs ≡ true

abbrev FoundTrue : (ℕ → Bool) → Option (List ℤ) → Type 0
FoundTrue values None = Unit {0}
FoundTrue values (Some c) = is_true_clause values c ≡ true

found-true : (values : ℕ → Bool) (id : ℕ) (cs : List (ℕ × List ℤ)) → ClausesTrue values cs → FoundTrue values (clause_of id cs)
found-true values id [] all = tt
found-true values id (c ∷ cs) all =
    by_test (c.0 == id) (left-part (is_true_clause values c.1) _ all) (found-true values id cs (right-part (is_true_clause values c.1) _ all))
  where
    by_test : (b : Bool) → is_true_clause values c.1 ≡ true → FoundTrue values (clause_of id cs) → FoundTrue values (cond b (Some c.1) (clause_of id cs))
    by_test true h rest = h
    by_test false h rest = rest

without-true : (values : ℕ → Bool) (id : ℕ) (cs : List (ℕ × List ℤ)) → ClausesTrue values cs → ClausesTrue values (without id cs)
without-true values id [] all = refl
without-true values id (c ∷ cs) all =
    by_test (not (c.0 == id)) (left-part (is_true_clause values c.1) _ all) (without-true values id cs (right-part (is_true_clause values c.1) _ all))
  where
    by_test : (b : Bool) → is_true_clause values c.1 ≡ true → ClausesTrue values (without id cs) → ClausesTrue values (cond b (c ∷ without id cs) (without id cs))
    by_test true h rest = both _ _ h rest
    by_test false h rest = rest

-- ---- lines

-- what a hint's clause gives, by what is left of it
abbrev hint_left : List (ℕ × List ℤ) → List ℤ → List ℤ → ℕ → Left → Option BadLine
hint_left cs trues hints id Falsified = None
hint_left cs trues hints id (One l) = hints_fault cs (with_literal trues l) hints
hint_left cs trues hints id Several = Some (NotUnit (pos id))

abbrev hint_found : List (ℕ × List ℤ) → List ℤ → List ℤ → ℕ → Option (List ℤ) → Option BadLine
hint_found cs trues hints id None = Some (NoClause (pos id))
hint_found cs trues hints id (Some clause) = hint_left cs trues hints id (left trues clause)

-- hints lead to a conflict only where the literals taken as true are too many
no-conflict : (values : ℕ → Bool) (cs : List (ℕ × List ℤ)) (hints trues : List ℤ) → ClausesTrue values cs → AreTaken values trues → hints_fault cs trues hints ≡ None → ⊥
no-conflict values cs [] trues all taken h = cc
no-conflict values cs (negsuc n ∷ hints) trues all taken h = cc
no-conflict values cs (pos id ∷ hints) trues all taken h =
    by_found (clause_of id cs) (found-true values id cs all) h (λ l t. no-conflict values cs hints (with_literal trues l) all (taken-more values trues l taken (neg-false values l t)))
  where
    by_left : (l : Left) → CountedTrue values l → ((l : ℤ) → is_true_number values l ≡ true → hints_fault cs (with_literal trues l) hints ≡ None → ⊥)
        → hint_left cs trues hints id l ≡ None → ⊥
    by_left Falsified t goes h = t
    by_left (One l) t goes h = goes l t h
    by_left Several t goes h = cc

    by_found : (found : Option (List ℤ)) → FoundTrue values found → hint_found cs trues hints id found ≡ None
        → ((l : ℤ) → is_true_number values l ≡ true → hints_fault cs (with_literal trues l) hints ≡ None → ⊥) → ⊥
    by_found None t h goes = cc
    by_found (Some clause) t h goes = by_left (left trues clause) (counted-true values (left_of trues clause) (left-true values trues clause taken t)) goes h

-- what stays true of a state
record StaysTrue (values : ℕ → Bool) (s : State) : Type 0 where
  clauses : ClausesTrue values s.clauses
  open_yet : s.refuted ≡ false

empty-false : (values : ℕ → Bool) (clause : List ℤ) → is_true_clause values clause ≡ true → is_empty clause ≡ false
empty-false values [] h = absurd (false≢true h)
empty-false values (l ∷ ls) h = refl

derived-true : (values : ℕ → Bool) (s : State) (id : ℕ) (clause hints : List ℤ) → StaysTrue values s → derivation_fault s id clause hints ≡ None → is_true_clause values clause ≡ true
derived-true values s id clause hints stays h = by_value (is_true_clause values clause) refl
  where
    by_order : (b : Bool) → cond b (Some IdOrder) (hints_fault s.clauses (with_negations [] clause) hints) ≡ None → hints_fault s.clauses (with_negations [] clause) hints ≡ None
    by_order true h = cc
    by_order false h = h

    by_value : (b : Bool) → is_true_clause values clause ≡ b → b ≡ true
    by_value true e = refl
    by_value false e =
        absurd (no-conflict values s.clauses hints (with_negations [] clause) stays.clauses
        (taken-negations values clause [] e (λ t h. absurd (false≢true h))) (by_order (nat_le id s.greatest) h))

with-true : (values : ℕ → Bool) (s : State) (id : ℕ) (clause : List ℤ) → StaysTrue values s → is_true_clause values clause ≡ true → StaysTrue values (with_clause s id clause)
with-true values s id clause stays h = record {
  clauses = list_all-append (λ c. is_true_clause values c.1) s.clauses ((id, clause) ∷ []) ∙ both _ _ stays.clauses (both _ _ h refl);
  open_yet = ap (λ b. b || is_empty clause) stays.open_yet ∙ empty-false values clause h;
}

abbrev DeletedTrue : (ℕ → Bool) → Result (List (ℕ × List ℤ)) BadLine → Type 0
DeletedTrue values (Ok cs) = ClausesTrue values cs
DeletedTrue values (Err cause) = Unit {0}

deleted-true : (values : ℕ → Bool) (ids : List ℕ) (cs : List (ℕ × List ℤ)) → ClausesTrue values cs → DeletedTrue values (deleted cs ids)
deleted-true values [] cs all = all
deleted-true values (id ∷ ids) cs all = by_found (clause_of id cs) (deleted-true values ids (without id cs) (without-true values id cs all))
  where
    by_found : (found : Option (List ℤ)) → DeletedTrue values (deleted (without id cs) ids) → DeletedTrue values (elim found [ None ↦ Err (NoClause (pos id)) | Some clause ↦ deleted (without id cs) ids ])
    by_found None more = tt
    by_found (Some clause) more = more

abbrev CheckedTrue : (ℕ → Bool) → Result State BadLine → Type 0
CheckedTrue values (Ok s) = StaysTrue values s
CheckedTrue values (Err cause) = Unit {0}

checked-true : (values : ℕ → Bool) (s : State) (line : Line) → StaysTrue values s → CheckedTrue values (checked s line)
checked-true values s (Derive id clause hints) stays = by_fault (derivation_fault s id clause hints) refl
  where
    by_fault : (fault : Option BadLine) → derivation_fault s id clause hints ≡ fault → CheckedTrue values (elim fault [ Some cause ↦ Err cause | None ↦ Ok (with_clause s id clause) ])
    by_fault (Some cause) e = tt
    by_fault None e = with-true values s id clause stays (derived-true values s id clause hints stays e)
checked-true values s (Delete ids) stays = by_deleted (deleted s.clauses ids) (deleted-true values ids s.clauses stays.clauses)
  where
    by_deleted : (r : Result (List (ℕ × List ℤ)) BadLine) → DeletedTrue values r → CheckedTrue values (elim r [ Err cause ↦ Err cause | Ok clauses ↦ Ok (record s { clauses = clauses }) ])
    by_deleted (Ok cs) h = record { clauses = h; open_yet = stays.open_yet }
    by_deleted (Err cause) h = tt

-- ---- logs

abbrev ends_of : ℕ → List Line → Result State BadLine → LogEnd
ends_of n log (Err cause) = bad_at n cause
ends_of n log (Ok next) = log_end_from next (suc n) log

never-refuted : (values : ℕ → Bool) (log : List Line) (s : State) (n : ℕ) → StaysTrue values s → log_end_from s n log ≡ right_lines true → ⊥
never-refuted values [] s n stays h = let e : s.refuted ≡ true = cc in false≢true (sym stays.open_yet ∙ e)
never-refuted values (line ∷ log) s n stays h = by_checked (checked s line) (checked-true values s line stays) h (λ next. never-refuted values log next (suc n))
  where
    by_checked : (r : Result State BadLine) → CheckedTrue values r → ends_of n log r ≡ right_lines true
        → ((next : State) → StaysTrue values next → log_end_from next (suc n) log ≡ right_lines true → ⊥) → ⊥
    by_checked (Ok next) t h more = more next t h
    by_checked (Err cause) t h more = cc

numbered-true : (values : ℕ → Bool) (id : ℕ) (cs : List (List ℤ)) → are_true values cs ≡ true → ClausesTrue values (numbered_from id cs)
numbered-true values id [] h = refl
numbered-true values id (c ∷ cs) h = both _ _ (left-part (is_true_clause values c) (are_true values cs) h) (numbered-true values (suc id) cs (right-part (is_true_clause values c) (are_true values cs) h))

none-empty : (values : ℕ → Bool) (cs : List (List ℤ)) → are_true values cs ≡ true → list_any is_empty cs ≡ false
none-empty values [] h = refl
none-empty values (c ∷ cs) h = rw (empty-false values c (left-part (is_true_clause values c) (are_true values cs) h)) (none-empty values cs (right-part (is_true_clause values c) (are_true values cs) h))

pub refuting : (clauses : List (List ℤ)) (n : ℕ) (log : List Line) → log_end_from (begun clauses) n log ≡ right_lines true → IsUnsatisfiable clauses
refuting clauses n log h values = by_value (are_true values clauses) refl
  where
    by_value : (b : Bool) → are_true values clauses ≡ b → b ≡ false
    by_value false e = refl
    by_value true e = absurd (never-refuted values log (begun clauses) n (record { clauses = numbered-true values 1 clauses e; open_yet = none-empty values clauses e }) h)
