-- What each spec that a text says keeps to: it holds before any line, and each line that is taken keeps it.
use Rattle.std.proofs.Common.{◌≡◌, ◌≢◌, ℕ, suc, ◌<◌, ◌≤◌, ◌&&◌, ◌==◌, Bool, true, false, List, [], ◌∷◌, ◌++◌, length, get_or, Option, Some, None, refl, sym, ap, ◌∙◌, subst, arith, nat_lt, length-append}
use Rattle.std.specs.Prelude.{not, ◌||◌, if◌then◌else◌, map, replicate, option_map, Result, Ok, Err}
use Rattle.std.specs.Cmp.{IsEquivalence, nat_eq_equiv, on_equiv}
use Rattle.std.specs.List.{IsDistinct, list_all, list_any}
use Rattle.std.proofs.lemmas.Bool.{eqb-true, false≢true, true≢false}
use Rattle.std.proofs.lemmas.Bool.Decides.{nat_tests}
use Rattle.std.proofs.lemmas.List.Folds.{list_all-append}
use Rattle.std.proofs.lemmas.Map.Keys.{IsDistinct-push, apart_from_distinct}
use Rattle.std.proofs.lemmas.Map.Made.{length-le_from_is_member}
use Rattle.jd_text.specs.Words.{is_text, word_lines}
use Rattle.jd_text.specs.Readings.{read_lines}
use Rattle.jd_text.proofs.Tests.{left-part, right-part, test-less}
use Rattle.jd_model.specs.declared.causes.ProblemCause.{ProblemCause}
use Rattle.jd_model.specs.declared.causes.ProblemCause.TheVariants.{Syntax, Repeated, Missing, Range, Asm}
use Rattle.jd_model.specs.declared.line_kinds.LineKind.{LineKind}
use Rattle.jd_model.specs.declared.line_kinds.LineKind.TheVariants as kind
use Rattle.jd_model.specs.declared.line_kinds.Version.{Version}
use Rattle.jd_model.specs.declared.line_kinds.Version.TheVariants.{One, Two}
use Rattle.jd_model.specs.declared.causes.AsmCause.{AsmCause}
use Rattle.jd_model.specs.Assembly.{with_line}
use Rattle.jd_model.specs.Problems.{Problem}
use Rattle.jd_model.specs.ProblemLines.{Said, nothing, number, parts, part_at, assuming, said, one_number, named_as, kind_name, place_of, place_after, with_said}
use Rattle.jd_model.specs.ProblemTexts.{Reading, after_line, cause_of, has_twice, is_before_first, is_in_first, is_misplaced, is_out_of_range, is_repeated, is_whole, said_line, with_first, with_second}
use Rattle.jd_formulas.specs.Formulas.{is_formula_in_range}
use Rattle.jd_gives.specs.declared.parts.GivenPart.{GivenPart}
use Rattle.jd_gives.specs.declared.parts.GivenPart.TheVariants as part
use Rattle.jd_gives.specs.declared.gives.Give.{Give}
use Rattle.jd_gives.specs.Gives.{place}
use Rattle.jd_spec_texts.specs.declared.kinds.SpecKind.{SpecKind}
use Rattle.jd_spec_texts.specs.declared.kinds.SpecKind.TheVariants.{Spec, Shared, Give as GiveLine, Routine, End}
use Rattle.jd_spec_texts.specs.SpecLines.{given_parts, one_give, own_kinds, own_name, shared_kinds, spec_kind_of}
use Rattle.jd_spec_texts.specs.SpecTexts.{SpecReading, end_line, give_line, is_part_given, kind_line, no_spec_read, other_line, past_observed, routine_line, shared_line, spec_line, stands_after_gives, with_due, with_spec_line}
use Rattle.jd_spec_texts.specs.Specs.{IsSpec, TextsSaySpecs, same_part}

-- ---- gives with different parts

same-parts : IsEquivalence same_part
same-parts = on_equiv (λ (g : Give). place g.part) nat_eq_equiv

pub once-more : (gives : List Give) (give : Give) → IsDistinct same_part gives → is_part_given give.part gives ≡ false → IsDistinct same_part (gives ++ give ∷ [])
once-more gives give once other = IsDistinct-push same-parts gives give once other

-- there are at most as many as parts
pub parts-few : (gives : List Give) → IsDistinct same_part gives → length gives ≤ 12
parts-few gives once = length-le_from_is_member same-parts gives each once (λ give _. among give.part)
  where
    each : List Give
    each = map (λ p. record { part = p; formula = [] }) given_parts

    among : (p : GivenPart) → list_any (λ (g : Give). place p == place g.part) each ≡ true
    among part.X = refl
    among part.Y = refl
    among part.Z = refl
    among part.T = refl
    among part.L = refl
    among part.I = refl
    among part.F0 = refl
    among part.F1 = refl
    among part.F2 = refl
    among part.F3 = refl
    among part.C = refl
    among part.G = refl

pub room-more : (gives : List Give) (give : Give) → IsDistinct same_part gives → is_part_given give.part gives ≡ false → length gives < 12
room-more gives give once other =
    omega (arith, parts-few (gives ++ give ∷ []) (once-more gives give once other), length-append gives (give ∷ []))

-- ---- what is kept

record Keeps (r : SpecReading) : Type 0 where
  formulas : list_all (λ g. is_formula_in_range r.reading.problem.size g.formula) r.gives ≡ true
  once : IsDistinct same_part r.gives
  after_headers : 1 ≤ length r.gives → 9 ≤ r.reading.due
  some : 10 ≤ r.reading.due → 1 ≤ length r.gives
  stage : 10 < r.reading.due → r.reading.due ≡ 12
  unobserved : r.reading.problem.observed ≡ replicate 13 false
  no_second : r.reading.problem.second ≡ []

peel : {A C : Type 0} (b : Bool) (c : C) (x : Result A C) (a : A) → (if b then Err c else x) ≡ Ok a → (b ≡ false) × (x ≡ Ok a)
peel true c x a h = absurd cc
peel false c x a h = (refl, h)

last : {A C : Type 0} (b : Bool) (c : C) (x a : A) → (if b then Ok x else Err c) ≡ Ok a → (b ≡ true) × (x ≡ a)
last true c x a h = (refl, cc)
last false c x a h = absurd cc

skip : {A : Type 0} (b : Bool) (c : A) (x : Option A) → (if b then Some c else x) ≡ None → (b ≡ false) × (x ≡ None)
skip true c x h = absurd cc
skip false c x h = (refl, h)

-- ---- kinds of lines that are said as in a problem

abbrev is_shared : LineKind → Bool
is_shared kind.Problem = false
is_shared kind.Observe = false
is_shared kind.First = false
is_shared kind.Second = false
is_shared kind.End = false
is_shared _ = true

abbrev is_known : SpecKind → Bool
is_known (Shared k) = is_shared k
is_known _ = true

named-in : {A : Type 0} (name : A → List ℕ) (p : A → Bool) (ks : List A) (word : List ℕ) (k : A) → list_all p ks ≡ true → named_as name ks word ≡ Some k → p k ≡ true
named-in name p [] word k all h = absurd cc
named-in {A} name p (a ∷ more) word k all h =
    by_test (is_text (name a) word) h (λ e. named-in name p more word k (right-part (p a) (list_all p more) all) e)
  where
    by_test : (b : Bool) → (if b then Some a else named_as name more word) ≡ Some k → (named_as name more word ≡ Some k → p k ≡ true) → p k ≡ true
    by_test true e later = let same : a ≡ k = cc in subst (λ (x : A). p x ≡ true) same (left-part (p a) (list_all p more) all)
    by_test false e later = later e

known : (word : List ℕ) (k : SpecKind) → spec_kind_of word ≡ Some k → is_known k ≡ true
known word k h = by_own (named_as own_name own_kinds word) refl h
  where
    by_shared : (o : Option LineKind) → named_as kind_name shared_kinds word ≡ o → option_map Shared o ≡ Some k → is_known k ≡ true
    by_shared None e g = absurd cc
    by_shared (Some s) e g = let same : Shared s ≡ k = cc in subst (λ x. is_known x ≡ true) same (named-in kind_name is_shared shared_kinds word s refl e)

    by_own : (o : Option SpecKind) → named_as own_name own_kinds word ≡ o
        → (elim o as (λ _. Option SpecKind) [ Some own ↦ Some own | None ↦ option_map Shared (named_as kind_name shared_kinds word) ]) ≡ Some k → is_known k ≡ true
    by_own None e g = by_shared (named_as kind_name shared_kinds word) refl g
    by_own (Some own) e g = let same : own ≡ k = cc in subst (λ x. is_known x ≡ true) same (named-in own_name is_known own_kinds word own refl e)

-- ---- what such a line leaves

abbrev Left : Problem → Problem → Type 0
Left p q = (q.observed ≡ p.observed) × (q.second ≡ p.second)

left-by : (k : LineKind) (s : Said) (p : Problem) → is_shared k ≡ true → Left p (with_said k s p)
left-by kind.Problem s p h = absurd (false≢true h)
left-by kind.Observe s p h = absurd (false≢true h)
left-by kind.First s p h = absurd (false≢true h)
left-by kind.Second s p h = absurd (false≢true h)
left-by kind.End s p h = absurd (false≢true h)
left-by kind.Size s p h = elim s as (λ t. Left p (with_said kind.Size t p)) [ nothing ↦ (refl, refl) | number n ↦ (refl, refl) | parts ks ↦ (refl, refl) | part_at k n ↦ (refl, refl) | assuming a ↦ (refl, refl) ]
left-by kind.Mode s p h = elim s as (λ t. Left p (with_said kind.Mode t p)) [ nothing ↦ (refl, refl) | number n ↦ (refl, refl) | parts ks ↦ (refl, refl) | part_at k n ↦ (refl, refl) | assuming a ↦ (refl, refl) ]
left-by kind.Base s p h = elim s as (λ t. Left p (with_said kind.Base t p)) [ nothing ↦ (refl, refl) | number n ↦ (refl, refl) | parts ks ↦ (refl, refl) | part_at k n ↦ (refl, refl) | assuming a ↦ (refl, refl) ]
left-by kind.Memory s p h = elim s as (λ t. Left p (with_said kind.Memory t p)) [ nothing ↦ (refl, refl) | number n ↦ (refl, refl) | parts ks ↦ (refl, refl) | part_at k n ↦ (refl, refl) | assuming a ↦ (refl, refl) ]
left-by kind.Steps s p h = elim s as (λ t. Left p (with_said kind.Steps t p)) [ nothing ↦ (refl, refl) | number n ↦ (refl, refl) | parts ks ↦ (refl, refl) | part_at k n ↦ (refl, refl) | assuming a ↦ (refl, refl) ]
left-by kind.Paths s p h = elim s as (λ t. Left p (with_said kind.Paths t p)) [ nothing ↦ (refl, refl) | number n ↦ (refl, refl) | parts ks ↦ (refl, refl) | part_at k n ↦ (refl, refl) | assuming a ↦ (refl, refl) ]
left-by kind.Budget s p h = elim s as (λ t. Left p (with_said kind.Budget t p)) [ nothing ↦ (refl, refl) | number n ↦ (refl, refl) | parts ks ↦ (refl, refl) | part_at k n ↦ (refl, refl) | assuming a ↦ (refl, refl) ]
left-by kind.Fix s p h = elim s as (λ t. Left p (with_said kind.Fix t p)) [ nothing ↦ (refl, refl) | number n ↦ (refl, refl) | parts ks ↦ (refl, refl) | part_at k n ↦ (refl, refl) | assuming a ↦ (refl, refl) ]
left-by kind.Assume s p h = elim s as (λ t. Left p (with_said kind.Assume t p)) [ nothing ↦ (refl, refl) | number n ↦ (refl, refl) | parts ks ↦ (refl, refl) | part_at k n ↦ (refl, refl) | assuming a ↦ (refl, refl) ]

due-by : (k : LineKind) (v : Version) → is_shared k ≡ true → place_after k v ≤ 9
due-by kind.Problem v h = absurd (false≢true h)
due-by kind.Observe v h = absurd (false≢true h)
due-by kind.First v h = absurd (false≢true h)
due-by kind.Second v h = absurd (false≢true h)
due-by kind.End v h = absurd (false≢true h)
due-by kind.Base One h = omega arith
due-by kind.Base Two h = omega arith
due-by kind.Size v h = omega arith
due-by kind.Mode v h = omega arith
due-by kind.Memory v h = omega arith
due-by kind.Steps v h = omega arith
due-by kind.Paths v h = omega arith
due-by kind.Budget v h = omega arith
due-by kind.Fix v h = omega arith
due-by kind.Assume v h = omega arith

-- ---- such a line where parts are given

-- the headers that problems have too
abbrev is_header : LineKind → Bool
is_header kind.Fix = false
is_header kind.Assume = false
is_header k = is_shared k

either : (a b : Bool) → a ≡ true → (a || b) ≡ true
either a b e = ap (λ x. x || b) e

repeated-by : (r : Reading) (k : LineKind) (s : Said) → is_header k ≡ true → 9 ≤ r.due → is_repeated r k s ≡ true
repeated-by r kind.Problem s h far = absurd (false≢true h)
repeated-by r kind.Observe s h far = absurd (false≢true h)
repeated-by r kind.First s h far = absurd (false≢true h)
repeated-by r kind.Second s h far = absurd (false≢true h)
repeated-by r kind.End s h far = absurd (false≢true h)
repeated-by r kind.Fix s h far = absurd (false≢true h)
repeated-by r kind.Assume s h far = absurd (false≢true h)
repeated-by r kind.Size s h far = let e = test-less 1 r.due (omega (arith, far)) in elim s as (λ t. is_repeated r kind.Size t ≡ true) [ nothing ↦ e | number n ↦ e | parts ks ↦ either (nat_lt 1 r.due) (has_twice ks) e | part_at k n ↦ e | assuming a ↦ e ]
repeated-by r kind.Mode s h far = let e = test-less 2 r.due (omega (arith, far)) in elim s as (λ t. is_repeated r kind.Mode t ≡ true) [ nothing ↦ e | number n ↦ e | parts ks ↦ either (nat_lt 2 r.due) (has_twice ks) e | part_at k n ↦ e | assuming a ↦ e ]
repeated-by r kind.Base s h far = let e = test-less 3 r.due (omega (arith, far)) in elim s as (λ t. is_repeated r kind.Base t ≡ true) [ nothing ↦ e | number n ↦ e | parts ks ↦ either (nat_lt 3 r.due) (has_twice ks) e | part_at k n ↦ e | assuming a ↦ e ]
repeated-by r kind.Memory s h far = let e = test-less 4 r.due (omega (arith, far)) in elim s as (λ t. is_repeated r kind.Memory t ≡ true) [ nothing ↦ e | number n ↦ e | parts ks ↦ either (nat_lt 4 r.due) (has_twice ks) e | part_at k n ↦ e | assuming a ↦ e ]
repeated-by r kind.Steps s h far = let e = test-less 5 r.due (omega (arith, far)) in elim s as (λ t. is_repeated r kind.Steps t ≡ true) [ nothing ↦ e | number n ↦ e | parts ks ↦ either (nat_lt 5 r.due) (has_twice ks) e | part_at k n ↦ e | assuming a ↦ e ]
repeated-by r kind.Paths s h far = let e = test-less 6 r.due (omega (arith, far)) in elim s as (λ t. is_repeated r kind.Paths t ≡ true) [ nothing ↦ e | number n ↦ e | parts ks ↦ either (nat_lt 6 r.due) (has_twice ks) e | part_at k n ↦ e | assuming a ↦ e ]
repeated-by r kind.Budget s h far = let e = test-less 7 r.due (omega (arith, far)) in elim s as (λ t. is_repeated r kind.Budget t ≡ true) [ nothing ↦ e | number n ↦ e | parts ks ↦ either (nat_lt 7 r.due) (has_twice ks) e | part_at k n ↦ e | assuming a ↦ e ]

cause-far : (r : Reading) (k : LineKind) (s : Said) → is_header k ≡ true → 9 ≤ r.due → cause_of r k s ≡ None → ⊥
cause-far r k s header far none =
    let rest = skip (is_misplaced r k) Syntax (if is_repeated r k s then Some Repeated else if nat_lt r.due (place_of k) then Some Missing else if is_out_of_range r k s then Some Range else None) none in
    let again = skip (is_repeated r k s) Repeated (if nat_lt r.due (place_of k) then Some Missing else if is_out_of_range r k s then Some Range else None) rest.1 in
    true≢false (sym (repeated-by r k s header far) ∙ again.0)

-- a part that is given lets `fix` and `assume` lines stand no more, and all headers were given
header-or : (r : SpecReading) (k : LineKind) → is_shared k ≡ true → stands_after_gives r k ≡ false → 1 ≤ length r.gives → is_header k ≡ true
header-or r kind.Fix h off some = absurd (true≢false (sym (test-less 0 (length r.gives) (omega (arith, some))) ∙ off))
header-or r kind.Assume h off some = absurd (true≢false (sym (test-less 0 (length r.gives) (omega (arith, some))) ∙ off))
header-or r kind.Problem h off some = h
header-or r kind.Observe h off some = h
header-or r kind.First h off some = h
header-or r kind.Second h off some = h
header-or r kind.End h off some = h
header-or r kind.Size h off some = h
header-or r kind.Mode h off some = h
header-or r kind.Base h off some = h
header-or r kind.Memory h off some = h
header-or r kind.Steps h off some = h
header-or r kind.Paths h off some = h
header-or r kind.Budget h off some = h

no-gives : {A : Type 0} (xs : List A) → (1 ≤ length xs → ⊥) → xs ≡ []
no-gives [] h = refl
no-gives (x ∷ xs) h = absurd (h (omega arith))

past : (r : Reading) → r.due ≤ 9 → (past_observed r).due ≤ 9
past r few = by_test (r.due == 8)
  where
    by_test : (b : Bool) → (if b then record r { due = 9 } else r).due ≤ 9
    by_test true = omega arith
    by_test false = few

past-problem : (r : Reading) → (past_observed r).problem ≡ r.problem
past-problem r = by_test (r.due == 8)
  where
    by_test : (b : Bool) → (if b then record r { due = 9 } else r).problem ≡ r.problem
    by_test true = refl
    by_test false = refl

-- ---- each sort of line keeps it

shared-keeps : (r next : SpecReading) (k : LineKind) (words : List (List ℕ)) → is_shared k ≡ true → shared_line r k words ≡ Ok next → Keeps r → Keeps next
shared-keeps r next k words shared h keeps = by_said (said k words) after.1
  where
    after : (stands_after_gives r k ≡ false) × ((elim (said_line r.reading k (said k words)) as (λ _. Result SpecReading ProblemCause) [ Err cause ↦ Err cause | Ok read ↦ Ok (record r { reading = past_observed read }) ]) ≡ Ok next)
    after = peel (stands_after_gives r k) Syntax (elim (said_line r.reading k (said k words)) as (λ _. Result SpecReading ProblemCause) [ Err cause ↦ Err cause | Ok read ↦ Ok (record r { reading = past_observed read }) ]) next h

    kept : (s : Said) → cause_of r.reading k s ≡ None → Keeps (record r { reading = past_observed (after_line r.reading k s) })
    kept s none =
        let now = after_line r.reading k s in
        let few : (past_observed now).due ≤ 9 = past now (due-by k r.reading.version shared) in
        let no : 1 ≤ length r.gives → ⊥ = λ some. cause-far r.reading k s (header-or r k shared after.0 some) (keeps.after_headers some) none in
        let left = left-by k s r.reading.problem shared in
        let same = past-problem now in
        record {
          formulas = ap (list_all (λ g. is_formula_in_range (past_observed now).problem.size g.formula)) (no-gives r.gives no);
          once = keeps.once;
          after_headers = λ some. absurd (no some);
          some = λ ten. absurd (omega (arith, ten, few));
          stage = λ more. absurd (omega (arith, more, few));
          unobserved = ap (λ p. p.observed) same ∙ left.0 ∙ keeps.unobserved;
          no_second = ap (λ p. p.second) same ∙ left.1 ∙ keeps.no_second;
        }

    by_cause : (s : Said) (o : Option ProblemCause) → cause_of r.reading k s ≡ o
        → (elim (elim o as (λ _. Result Reading ProblemCause) [ None ↦ Ok (after_line r.reading k s) | Some cause ↦ Err cause ]) as (λ _. Result SpecReading ProblemCause) [ Err cause ↦ Err cause | Ok read ↦ Ok (record r { reading = past_observed read }) ]) ≡ Ok next → Keeps next
    by_cause s (Some cause) e g = absurd cc
    by_cause s None e g = let same : record r { reading = past_observed (after_line r.reading k s) } ≡ next = cc in subst Keeps same (kept s e)

    by_said : (o : Option Said)
        → (elim (said_line r.reading k o) as (λ _. Result SpecReading ProblemCause) [ Err cause ↦ Err cause | Ok read ↦ Ok (record r { reading = past_observed read }) ]) ≡ Ok next → Keeps next
    by_said None g = absurd cc
    by_said (Some s) g = by_cause s (cause_of r.reading k s) refl g

spec-keeps : (r next : SpecReading) (s : Option Said) → spec_line r s ≡ Ok next → Keeps r → Keeps next
spec-keeps r next None h keeps = absurd cc
spec-keeps r next (Some nothing) h keeps = absurd cc
spec-keeps r next (Some (parts ks)) h keeps = absurd cc
spec-keeps r next (Some (part_at k n)) h keeps = absurd cc
spec-keeps r next (Some (assuming a)) h keeps = absurd cc
spec-keeps r next (Some (number n)) h keeps =
    let first = peel (nat_lt 0 r.reading.due) Repeated (if n == 1 then Ok (with_due 1 r) else Err Range) next h in
    let e = first.0 in
    let none : r.reading.due ≡ 0 = grind (arith, nat_tests) in
    subst Keeps (last (n == 1) Range (with_due 1 r) next first.1).1 (record {
      formulas = keeps.formulas;
      once = keeps.once;
      after_headers = λ some. absurd (omega (arith, none, keeps.after_headers some));
      some = λ ten. absurd (omega (arith, ten));
      stage = λ more. absurd (omega (arith, more));
      unobserved = keeps.unobserved;
      no_second = keeps.no_second;
    })

give-keeps : (r next : SpecReading) (give : Option Give) → give_line r give ≡ Ok next → Keeps r → Keeps next
give-keeps r next None h keeps = absurd cc
give-keeps r next (Some give) h keeps =
    let more = record r { gives = r.gives ++ give ∷ [] } in
    let size = r.reading.problem.size in
    let ranged = if is_formula_in_range size give.formula then Ok more else Err Range in
    let a = peel (not (is_before_first r.reading)) Syntax (if is_part_given give.part r.gives then Err Repeated else if nat_lt r.reading.due 9 then Err Missing else ranged) next h in
    let b = peel (is_part_given give.part r.gives) Repeated (if nat_lt r.reading.due 9 then Err Missing else ranged) next a.1 in
    let c = peel (nat_lt r.reading.due 9) Missing ranged next b.1 in
    let d = last (is_formula_in_range size give.formula) Range more next c.1 in
    let e = c.0 in
    let far : 9 ≤ r.reading.due = grind (arith, nat_tests) in
    let test = λ (g : Give). is_formula_in_range size g.formula in
    subst Keeps d.1 (record {
      formulas = list_all-append test r.gives (give ∷ []) ∙ ap (λ x. x && list_all test (give ∷ [])) keeps.formulas ∙ ap (λ x. x && true) d.0;
      once = once-more r.gives give keeps.once b.0;
      after_headers = λ some. far;
      some = λ ten. omega (arith, length-append r.gives (give ∷ []));
      stage = keeps.stage;
      unobserved = keeps.unobserved;
      no_second = keeps.no_second;
    })

neither : (a b : Bool) → (a || b) ≡ false → (a ≡ false) × (b ≡ false)
neither true b e = absurd (true≢false e)
neither false b e = (refl, e)

routine-keeps : (r next : SpecReading) (words : List (List ℕ)) → routine_line r words ≡ Ok next → Keeps r → Keeps next
routine-keeps r next (word ∷ words) h keeps = absurd cc
routine-keeps r next [] h keeps =
    let a = peel (not (is_before_first r.reading)) Repeated (if nat_lt r.reading.due 9 || length r.gives == 0 then Err Missing else Ok (with_due 10 r)) next h in
    let b = peel (nat_lt r.reading.due 9 || length r.gives == 0) Missing (Ok (with_due 10 r)) next a.1 in
    let e = (neither (nat_lt r.reading.due 9) (length r.gives == 0) b.0).1 in
    let some : 1 ≤ length r.gives = grind (arith, nat_tests) in
    let same : with_due 10 r ≡ next = cc b.1 in
    subst Keeps same (record {
      formulas = keeps.formulas;
      once = keeps.once;
      after_headers = λ _. omega arith;
      some = λ _. some;
      stage = λ more. absurd (omega (arith, more));
      unobserved = keeps.unobserved;
      no_second = keeps.no_second;
    })

end-keeps : (r next : SpecReading) (words : List (List ℕ)) → end_line r words ≡ Ok next → Keeps r → Keeps next
end-keeps r next (word ∷ words) h keeps = absurd cc
end-keeps r next [] h keeps =
    let a = peel (is_before_first r.reading) Missing (Ok (with_due 12 r)) next h in
    let e = a.0 in
    let ten : 10 ≤ r.reading.due = grind (arith, nat_tests) in
    let same : with_due 12 r ≡ next = cc a.1 in
    subst Keeps same (record {
      formulas = keeps.formulas;
      once = keeps.once;
      after_headers = λ _. omega arith;
      some = λ _. keeps.some ten;
      stage = λ _. refl;
      unobserved = keeps.unobserved;
      no_second = keeps.no_second;
    })

-- in the routine the first one is read
in-first : (r : SpecReading) → Keeps r → is_whole r.reading ≡ false → is_before_first r.reading ≡ false → is_in_first r.reading ≡ true
in-first r keeps open_still begun =
    let here : 10 < r.reading.due → r.reading.due ≡ 12 = keeps.stage in
    grind (arith, nat_tests)

other-keeps : (r next : SpecReading) (words : List (List ℕ)) → is_whole r.reading ≡ false → other_line r words ≡ Ok next → Keeps r → Keeps next
other-keeps r next words unended h keeps = by_place (is_before_first r.reading) refl h
  where
    taken : Bool → Result (List ℕ) AsmCause → Result Reading ProblemCause
    taken first x = elim x [ Err cause ↦ Err (Asm cause) | Ok routine ↦ Ok (if first then with_first routine r.reading else with_second routine r.reading) ]

    kept : (routine : List ℕ) → Keeps (record r { reading = with_first routine r.reading })
    kept routine = record {
      formulas = keeps.formulas;
      once = keeps.once;
      after_headers = keeps.after_headers;
      some = keeps.some;
      stage = keeps.stage;
      unobserved = keeps.unobserved;
      no_second = keeps.no_second;
    }

    by_line : (first : Bool) → first ≡ true → (x : Result (List ℕ) AsmCause)
        → (elim (elim x as (λ _. Result Reading ProblemCause) [ Err cause ↦ Err (Asm cause) | Ok routine ↦ Ok (if first then with_first routine r.reading else with_second routine r.reading) ]) as (λ _. Result SpecReading ProblemCause) [ Err cause ↦ Err cause | Ok read ↦ Ok (record r { reading = read }) ]) ≡ Ok next → Keeps next
    by_line false off x g = absurd (false≢true off)
    by_line true on (Err cause) g = absurd cc
    by_line true on (Ok routine) g = let same : record r { reading = with_first routine r.reading } ≡ next = cc in subst Keeps same (kept routine)

    by_place : (b : Bool) → is_before_first r.reading ≡ b
        → (elim (elim b as (λ _. Result Reading ProblemCause) [
          | true ↦ Err Syntax
          | false ↦ (elim (with_line (if is_in_first r.reading then r.reading.problem.first else r.reading.problem.second) words) as (λ _. Result Reading ProblemCause) [ Err cause ↦ Err (Asm cause) | Ok routine ↦ Ok (if is_in_first r.reading then with_first routine r.reading else with_second routine r.reading) ])
        ]) as (λ _. Result SpecReading ProblemCause) [ Err cause ↦ Err cause | Ok read ↦ Ok (record r { reading = read }) ]) ≡ Ok next → Keeps next
    by_place true e g = absurd cc
    by_place false e g = by_line (is_in_first r.reading) (in-first r keeps unended e) (with_line (if is_in_first r.reading then r.reading.problem.first else r.reading.problem.second) words) g

kind-keeps : (r next : SpecReading) (k : SpecKind) (words : List (List ℕ)) → is_known k ≡ true → kind_line r k words ≡ Ok next → Keeps r → Keeps next
kind-keeps r next Spec words shared h keeps = spec-keeps r next (one_number words) h keeps
kind-keeps r next (Shared k) words shared h keeps = shared-keeps r next k words shared h keeps
kind-keeps r next GiveLine words shared h keeps = give-keeps r next (one_give words) h keeps
kind-keeps r next Routine words shared h keeps = routine-keeps r next words h keeps
kind-keeps r next End words shared h keeps = end-keeps r next words h keeps

line-keeps : (r next : SpecReading) (words : List (List ℕ)) → with_spec_line r words ≡ Ok next → Keeps r → Keeps next
line-keeps r next [] h keeps = let same : r ≡ next = cc in subst Keeps same keeps
line-keeps r next (word ∷ words) h keeps = by_kind (spec_kind_of word) refl here.1
  where
    here : (is_whole r.reading ≡ false) × ((elim (spec_kind_of word) as (λ _. Result SpecReading ProblemCause) [ None ↦ other_line r (word ∷ words) | Some k ↦ kind_line r k words ]) ≡ Ok next)
    here = peel (is_whole r.reading) Syntax (elim (spec_kind_of word) as (λ _. Result SpecReading ProblemCause) [ None ↦ other_line r (word ∷ words) | Some k ↦ kind_line r k words ]) next h

    by_kind : (o : Option SpecKind) → spec_kind_of word ≡ o
        → (elim o as (λ _. Result SpecReading ProblemCause) [ None ↦ other_line r (word ∷ words) | Some k ↦ kind_line r k words ]) ≡ Ok next → Keeps next
    by_kind None e g = other-keeps r next (word ∷ words) here.0 g keeps
    by_kind (Some k) e g = kind-keeps r next k words (known word k e) g keeps

-- ---- all lines

lines-keep : (n : ℕ) (r last : SpecReading) (lines : List (List (List ℕ))) → read_lines with_spec_line n r lines ≡ Ok last → Keeps r → Keeps last
lines-keep n r last [] h keeps = let same : r ≡ last = cc in subst Keeps same keeps
lines-keep n r last (words ∷ lines) h keeps =
    taken (with_spec_line r words) refl h (λ next e g. lines-keep (suc n) next last lines g (line-keeps r next words e keeps))
  where
    taken : (x : Result SpecReading ProblemCause) → with_spec_line r words ≡ x
        → (elim x as (λ _. Result SpecReading (ℕ × ProblemCause)) [ Err cause ↦ Err (n, cause) | Ok next ↦ read_lines with_spec_line (suc n) next lines ]) ≡ Ok last
        → ((next : SpecReading) → with_spec_line r words ≡ Ok next → read_lines with_spec_line (suc n) next lines ≡ Ok last → Keeps last) → Keeps last
    taken (Err cause) e g rest = absurd cc
    taken (Ok next) e g rest = rest next e g

apart : (gives : List Give) → IsDistinct same_part gives → (i j : ℕ) (d : Give) → i < j → j < length gives → (get_or gives i d).part ≢ (get_or gives j d).part
apart gives once i j d below inside e =
    true≢false (sym (same-parts.refl (get_or gives i d) ∙ refl) ∙ ap (λ p. place (get_or gives i d).part == place p) e ∙ apart_from_distinct same_part gives i j d once below inside)

pub none-twice : IsDistinct same_part []
unfolding IsDistinct
none-twice = tt

pub texts-say-specs : TextsSaySpecs
texts-say-specs text p gives h = finished (read_lines with_spec_line 1 no_spec_read (word_lines text)) refl h
  where
    nothing-kept : Keeps no_spec_read
    nothing-kept = record {
      formulas = refl;
      once = none-twice;
      after_headers = λ some. absurd (omega (arith, some));
      some = λ ten. absurd (omega (arith, ten));
      stage = λ more. absurd (omega (arith, more));
      unobserved = refl;
      no_second = refl;
    }

    whole : (r : SpecReading) → Keeps r → 12 ≡ r.reading.due → IsSpec r.reading.problem r.gives
    whole r keeps e = record {
      some = keeps.some (omega (arith, e));
      once = λ i j d. apart r.gives keeps.once i j d;
      formulas = keeps.formulas;
      unobserved = keeps.unobserved;
      no_second = keeps.no_second;
    }

    finished : (x : Result SpecReading (ℕ × ProblemCause)) → read_lines with_spec_line 1 no_spec_read (word_lines text) ≡ x
        → (elim x as (λ _. Result (Problem × List Give) (ℕ × ProblemCause)) [ Err fault ↦ Err fault | Ok r ↦ if is_whole r.reading then Ok (r.reading.problem, r.gives) else Err (suc (length (word_lines text)), Missing) ]) ≡ Ok (p, gives) → IsSpec p gives
    finished (Err fault) e g = absurd cc
    finished (Ok r) e g =
        let here = last (is_whole r.reading) (suc (length (word_lines text)), Missing) (r.reading.problem, r.gives) (p, gives) g in
        let keeps = lines-keep 1 no_spec_read r (word_lines text) e nothing-kept in
        let due : 12 ≡ r.reading.due = sym (eqb-true r.reading.due 12 here.0) in
        subst (λ (q : Problem × List Give). IsSpec q.0 q.1) here.1 (whole r keeps due)
