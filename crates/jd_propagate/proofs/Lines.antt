-- The line of the negated decisions is right, and new.
use Rattle.std.proofs.Common.{◌≡◌, ◌≢◌, ◌⊎◌, inl, inr, ℕ, ℤ, Bool, true, false, ◌&&◌, List, [], ◌∷◌, ◌++◌, refl, ap, sym, ◌∙◌, subst, append_assoc, Option, Some, None}
use Rattle.std.specs.Prelude.{neg_ℤ, nat_le, if◌then◌else◌}
use Rattle.std.proofs.Math.IntN.{neg_ℤ-neg_ℤ}
use Rattle.std.proofs.lemmas.List.Elements.{All-append, All-weaker}
use Rattle.jd_logic.specs.declared.answers.BadLine.{BadLine}
use Rattle.jd_logic.specs.declared.answers.BadLine.TheVariants.{IdOrder}
use Rattle.jd_logic.specs.declared.Line.{Line}
use Rattle.jd_logic.specs.declared.Line.TheVariants.{Derive, Delete}
use Rattle.jd_logic.specs.Literals.{has, with_literal, with_negations}
use Rattle.jd_logic.specs.Derivation.{hints_fault}
use Rattle.jd_logic.specs.Checking.{State, with_clause, derivation_fault}
use Rattle.jd_proving.specs.Propagation.{has_value, leaves_open, is_new, is_new_after, all_new}
use Rattle.jd_propagate.specs.Quiet.{IsIn, IsWithin, HasNoOpposites, IsQuiet, AreQuiet}
use Rattle.jd_propagate.specs.Hints.{LeadsToConflict}
use Rattle.jd_propagate.specs.Levels.{negated, IsTrueLine, IsLineBefore, IsLevel, clauses_of, derived}
use Rattle.jd_propagate.proofs.Members.{false_is_not_true, or_false, and_true, and_left, and_right, has-here, has-there, has-cases, has-append_left, has-append_right, within_with_literal, with_literal-keeps, with_literal-has}
use Rattle.jd_propagate.proofs.Closure.{stays_open}
use Rattle.jd_propagate.proofs.TrailSteps.{value-left, value-right}

pub negated-has : (ds : List ℤ) (d : ℤ) → IsIn ds d → IsIn (negated ds) (neg_ℤ d)
negated-has [] d is = absurd (false_is_not_true false refl is)
negated-has (e ∷ ds) d is = elim (has-cases e ds d is) [
  | inl f ↦ (let P : ℤ → Type 0 = λ z. IsIn (neg_ℤ e ∷ negated ds) z in subst P (ap neg_ℤ f) (has-here (neg_ℤ e) (negated ds)))
  | inr f ↦ has-there (neg_ℤ e) (negated ds) (neg_ℤ d) (negated-has ds d f)
]

pub negated-push : (ds : List ℤ) (d : ℤ) → negated (ds ++ d ∷ []) ≡ negated ds ++ neg_ℤ d ∷ []
negated-push [] d = refl
negated-push (e ∷ ds) d = ap (λ xs. neg_ℤ e ∷ xs) (negated-push ds d)

-- the literals that a line's negation makes true
pub with_negations-within : (xs ys ds : List ℤ) → IsWithin xs ys → IsWithin ds ys → IsWithin (with_negations xs (negated ds)) ys
with_negations-within xs ys [] w v = w
with_negations-within xs ys (d ∷ ds) w v =
    let P : ℤ → Type 0 = λ z. IsIn ys z in
    with_negations-within (with_literal xs (neg_ℤ (neg_ℤ d))) ys ds
    (within_with_literal xs ys (neg_ℤ (neg_ℤ d)) w (subst P (sym (neg_ℤ-neg_ℤ d)) (v d (has-here d ds))))
    (λ l is. v l (has-there d ds l is))

pub with_negations-keeps : (xs ls : List ℤ) (l : ℤ) → IsIn xs l → IsIn (with_negations xs ls) l
with_negations-keeps xs [] l is = is
with_negations-keeps xs (m ∷ ms) l is = with_negations-keeps (with_literal xs (neg_ℤ m)) ms l (with_literal-keeps xs (neg_ℤ m) l is)

pub with_negations-has : (xs ds : List ℤ) (d : ℤ) → IsIn ds d → IsIn (with_negations xs (negated ds)) d
with_negations-has xs [] d is = absurd (false_is_not_true false refl is)
with_negations-has xs (e ∷ ds) d is = by (has-cases e ds d is) (with_negations-has (with_literal xs (neg_ℤ (neg_ℤ e))) ds d)
  where
    next : List ℤ
    next = with_literal xs (neg_ℤ (neg_ℤ e))

    by : (e ≡ d) ⊎ IsIn ds d → (IsIn ds d → IsIn (with_negations (with_literal xs (neg_ℤ (neg_ℤ e))) (negated ds)) d) → IsIn (with_negations (with_literal xs (neg_ℤ (neg_ℤ e))) (negated ds)) d
    by (inl f) rest =
        let P : ℤ → Type 0 = λ z. IsIn (with_literal xs (neg_ℤ (neg_ℤ e))) z in
        with_negations-keeps (with_literal xs (neg_ℤ (neg_ℤ e))) (negated ds) d (subst P (neg_ℤ-neg_ℤ e ∙ f) (with_literal-has xs (neg_ℤ (neg_ℤ e))))
    by (inr f) rest = rest f

pub new_after : (clauses : List (List ℤ)) (before xs : List ℤ) (l : ℤ) → is_new_after clauses before (xs ++ l ∷ []) ≡ leaves_open clauses (before ++ xs) l
new_after clauses before [] l = ap (λ ys. leaves_open clauses ys l) (nothing before)
  where
    nothing : (xs : List ℤ) → xs ≡ xs ++ []
    nothing [] = refl
    nothing (x ∷ xs) = ap (λ ys. x ∷ ys) (nothing xs)
new_after clauses before (x ∷ []) l = refl
new_after clauses before (x ∷ y ∷ ys) l =
    new_after clauses (before ++ x ∷ []) (y ∷ ys) l ∙ ap (λ zs. leaves_open clauses zs l) (append_assoc before (x ∷ []) (y ∷ ys))

line-quiet : (trues : List ℤ) (d : ℤ) (line : List ℤ) → IsLineBefore trues d line → IsQuiet trues line
line-quiet trues d line (inl t) = inl t
line-quiet trues d line (inr (a, q)) = q

-- a clause all of whose literals but the last are false, and whose last has no value
pub clause_is_new : (clauses : List (List ℤ)) (earlier trues : List ℤ) (d : ℤ) → HasNoOpposites trues → AreQuiet trues clauses → IsWithin earlier trues → has_value trues d ≡ false
    → is_new clauses (negated (earlier ++ d ∷ [])) ≡ true
clause_is_new clauses earlier trues d h quiet w open' =
    let none : IsWithin [] trues = λ l is. absurd (false_is_not_true false refl is) in
    ap (is_new clauses) (negated-push earlier d)
    ∙ new_after clauses [] (negated earlier) (neg_ℤ d)
    ∙ stays_open clauses (negated earlier) trues (neg_ℤ d) (with_negations-within [] trues earlier none w) h quiet
    (or_false (has trues (neg_ℤ d)) (has trues (neg_ℤ (neg_ℤ d))) (value-right trues d open') (ap (has trues) (neg_ℤ-neg_ℤ d) ∙ value-left trues d open'))

-- the line that a conflict below a decision gives
pub line_is_new : (clauses lines : List (List ℤ)) (earlier trues : List ℤ) (d : ℤ) → HasNoOpposites trues → IsLevel clauses lines earlier trues d
    → is_new (clauses ++ lines) (negated (earlier ++ d ∷ [])) ≡ true
line_is_new clauses lines earlier trues d h v =
    let Q : List ℤ → Type 0 = λ c. IsQuiet trues c in
    let quiet : AreQuiet trues (clauses ++ lines) =
    All-append Q clauses lines v.quiet (All-weaker (IsLineBefore trues d) Q (line-quiet trues d) lines v.lines_before) in
    clause_is_new (clauses ++ lines) earlier trues d h quiet v.earlier_true v.no_value

-- at an earlier decision the line leaves two literals open
pub line_before : (trues decisions : List ℤ) (d last : ℤ) → IsIn decisions d → IsIn decisions last → d ≢ last → has_value trues d ≡ false → has_value trues last ≡ false
    → IsLineBefore trues d (negated decisions)
line_before trues decisions d last is also apart none empty = inr (
  negated-has decisions d is,
  inr (
    (neg_ℤ d, neg_ℤ last),
    record {
      first = record { among = negated-has decisions d is; not_false = ap (has trues) (neg_ℤ-neg_ℤ d) ∙ value-left trues d none };
      second = record { among = negated-has decisions last also; not_false = ap (has trues) (neg_ℤ-neg_ℤ last) ∙ value-left trues last empty };
      apart = λ e. apart (sym (neg_ℤ-neg_ℤ d) ∙ ap neg_ℤ e ∙ neg_ℤ-neg_ℤ last);
    },
  ),
)

-- with the last decision's negation every line is true
pub line_true : (trues line : List ℤ) (d : ℤ) → IsLineBefore trues d line → IsTrueLine (trues ++ neg_ℤ d ∷ []) line
line_true trues line d (inl (l, t)) = (l, record { among = t.among; is_true = has-append_left trues (neg_ℤ d ∷ []) l t.is_true })
line_true trues line d (inr (a, q)) = (neg_ℤ d, record { among = a; is_true = has-append_right trues (neg_ℤ d ∷ []) (neg_ℤ d) (has-here (neg_ℤ d) []) })

pub own_line_true : (trues decisions : List ℤ) (d : ℤ) → IsIn decisions d → IsTrueLine (trues ++ neg_ℤ d ∷ []) (negated decisions)
own_line_true trues decisions d is =
    (neg_ℤ d, record { among = negated-has decisions d is; is_true = has-append_right trues (neg_ℤ d ∷ []) (neg_ℤ d) (has-here (neg_ℤ d) []) })

-- hints that lead to a conflict from the decisions show the line
pub line_is_right : (s : State) (trail decisions : List ℤ) (need : ℤ → Type 0) (id : ℕ) (hints : List ℤ) → nat_le id s.greatest ≡ false → IsWithin decisions trail
    → ((l : ℤ) → need l → IsIn decisions l) → LeadsToConflict s.clauses trail need hints → derivation_fault s id (negated decisions) hints ≡ None
line_is_right s trail decisions need id hints later w n leads =
    let none : IsWithin [] trail = λ l is. absurd (false_is_not_true false refl is) in
    let trues = with_negations [] (negated decisions) in
    let e : hints_fault s.clauses trues hints ≡ None = leads trues (with_negations-within [] trail decisions none w) (λ l k. with_negations-has [] decisions l (n l k)) in
    ap (λ (b : Bool). if b then Some IdOrder else hints_fault s.clauses trues hints) later ∙ e

-- a line more
pub all_new-push : (s : State) (clauses : List (List ℤ)) (log : List Line) (id : ℕ) (clause hints : List ℤ) → all_new s clauses log ≡ true
    → derivation_fault (derived s log) id clause hints ≡ None → is_new (clauses ++ clauses_of log) clause ≡ true
    → all_new s clauses (log ++ Derive id clause hints ∷ []) ≡ true
all_new-push s clauses [] id clause hints all right new =
    let f : Option BadLine → Bool = λ o. elim o [ Some cause ↦ false | None ↦ is_new clauses clause && true ] in
    let e : is_new clauses clause ≡ true = ap (λ cs. is_new cs clause) (nothing clauses) ∙ new in
    ap f right ∙ and_true (is_new clauses clause) true e refl
  where
    nothing : (xs : List (List ℤ)) → xs ≡ xs ++ []
    nothing [] = refl
    nothing (x ∷ xs) = ap (λ ys. x ∷ ys) (nothing xs)
all_new-push s clauses (Delete ids ∷ log) id clause hints all right new = cc
all_new-push s clauses (Derive i c h ∷ log) id clause hints all right new =
    by (derivation_fault s i c h) all (λ rest. all_new-push (with_clause s i c) (clauses ++ c ∷ []) log id clause hints rest right
    (ap (λ cs. is_new cs clause) (append_assoc clauses (c ∷ []) (clauses_of log)) ∙ new))
  where
    by : (o : Option BadLine) → (elim o [ Some cause ↦ false | None ↦ is_new clauses c && all_new (with_clause s i c) (clauses ++ c ∷ []) log ]) ≡ true
        → (all_new (with_clause s i c) (clauses ++ c ∷ []) log ≡ true → all_new (with_clause s i c) (clauses ++ c ∷ []) (log ++ Derive id clause hints ∷ []) ≡ true)
        → (elim o [ Some cause ↦ false | None ↦ is_new clauses c && all_new (with_clause s i c) (clauses ++ c ∷ []) (log ++ Derive id clause hints ∷ []) ]) ≡ true
    by (Some cause) e rest = cc
    by None e rest =
        and_true (is_new clauses c) (all_new (with_clause s i c) (clauses ++ c ∷ []) (log ++ Derive id clause hints ∷ []))
        (and_left (is_new clauses c) (all_new (with_clause s i c) (clauses ++ c ∷ []) log) e)
        (rest (and_right (is_new clauses c) (all_new (with_clause s i c) (clauses ++ c ∷ []) log) e))
