-- A start that is read is allowed.
use Rattle.std.proofs.Common.{◌≡◌, ℕ, zero, suc, ◌<◌, ◌≤◌, ◌==◌, Bool, true, false, List, [], ◌∷◌, ◌++◌, length, get_or, take, drop, Option, Some, None, refl, ap, ◌∙◌, subst, arith}
use Rattle.std.specs.Prelude.{not, ◌&&◌, ◌||◌, Result, Ok, Err, slice_index_or, if◌then◌else◌}
use Rattle.std.specs.Cmp.Derive.{both_true}
use Rattle.std.proofs.lemmas.Bool.{eqb-true}
use Rattle.std.proofs.lemmas.List.{append-nil, length-map, length-take-le, length-drop}
use Rattle.hp_model.specs.State.{Data}
use Rattle.jd_text.specs.Words.{is_text, word_lines}
use Rattle.jd_model.specs.declared.causes.ProblemCause.{ProblemCause}
use Rattle.jd_model.specs.declared.causes.ProblemCause.TheVariants.{Syntax, Range, Missing}
use Rattle.jd_text.specs.Readings.{read_lines}
use Rattle.jd_model.specs.Assumptions.{meets}
use Rattle.jd_model.specs.Problems.{Problem, Field, field, fields, numbers, start_with, are_in_fields, is_in_field, in_range, allows}
use Rattle.jd_model.specs.StartTexts.{StartReading, line_names, line_fields, filled_up, are_met, spelled, with_numbers, with_start_line, nothing_started, start_of_text}
use Rattle.jd_text.proofs.Tests.{left-part, right-part}
use Rattle.jd_model.proofs.FreeStarts.{at-field, in-width, numbers-back}
use Rattle.jd_problem.proofs.FieldLists.{are_in_fields-append, are_in_fields-length}

-- the fields of the lines before line k
abbrev fields_before : Problem → ℕ → List Field
fields_before p zero = []
fields_before p (suc k) = fields_before p k ++ line_fields p k

-- each number that was read is in its field, and after the last line the assumptions hold
record Fits (p : Problem) (r : StartReading) : Type 0 where
  inside : are_in_fields (fields_before p r.given) r.numbers ≡ true
  met : r.given ≡ 10 → meets p.assumed (start_with r.numbers) ≡ true

-- ---- one line

if-ok : {A C : Type 0} (b : Bool) (x : A) (e : C) (y : A) → (if b then Ok x else Err e) ≡ Ok y → (b ≡ true) × (x ≡ y)
if-ok true x e y h = (refl, cc)
if-ok false x e y h = absurd cc

if-then : {A C : Type 0} (b : Bool) (x : Result A C) (e : C) (y : A) → (if b then x else Err e) ≡ Ok y → x ≡ Ok y
if-then true x e y h = h
if-then false x e y h = absurd cc

last-met : (p : Problem) (k : ℕ) (ns : List ℕ) → k ≡ 9 → are_met p k ns ≡ true → meets p.assumed (start_with ns) ≡ true
last-met p k ns last h = subst (λ j. (not (j == 9) || meets p.assumed (start_with ns)) ≡ true) last h

fits-numbers : (p : Problem) (r next : StartReading) (said : Option (List ℕ)) → with_numbers p r said ≡ Ok next → Fits p r → Fits p next
fits-numbers p r next None h fits = absurd cc
fits-numbers p r next (Some ns) h fits =
    let fs = line_fields p r.given in
    let all = filled_up (length fs) ns in
    let met = are_met p r.given (r.numbers ++ all) in
    let here = if-ok (are_in_fields fs all && met) (record { given = suc r.given; numbers = r.numbers ++ all }) Range next h in
    subst (Fits p) here.1 (record {
      inside = are_in_fields-append (fields_before p r.given) fs r.numbers all (are_in_fields-length (fields_before p r.given) r.numbers fits.inside)
          ∙ both_true fits.inside (left-part (are_in_fields fs all) met here.0);
      met = λ last. last-met p r.given (r.numbers ++ all) (omega (arith, last)) (right-part (are_in_fields fs all) met here.0);
    })

fits-line : (p : Problem) (r next : StartReading) (words : List (List ℕ)) → with_start_line p r words ≡ Ok next → Fits p r → Fits p next
fits-line p r next [] h fits = let same : r ≡ next = cc in subst (Fits p) same fits
fits-line p r next (word ∷ words) h fits =
    fits-numbers p r next (spelled r.given words)
    (if-then (is_text (slice_index_or line_names r.given []) word) (with_numbers p r (spelled r.given words)) Syntax next h) fits

-- ---- all lines

fits-lines : (p : Problem) (n : ℕ) (r last : StartReading) (lines : List (List (List ℕ))) → read_lines (with_start_line p) n r lines ≡ Ok last → Fits p r → Fits p last
fits-lines p n r last [] h fits = let same : r ≡ last = cc in subst (Fits p) same fits
fits-lines p n r last (words ∷ lines) h fits =
    taken (with_start_line p r words) refl h (λ next e g. fits-lines p (suc n) next last lines g (fits-line p r next words e fits))
  where
    taken : (x : Result StartReading ProblemCause) → with_start_line p r words ≡ x
        → (elim x as (λ _. Result StartReading (ℕ × ProblemCause)) [ Err cause ↦ Err (n, cause) | Ok next ↦ read_lines (with_start_line p) (suc n) next lines ]) ≡ Ok last
        → ((next : StartReading) → with_start_line p r words ≡ Ok next → read_lines (with_start_line p) (suc n) next lines ≡ Ok last → Fits p last) → Fits p last
    taken (Err cause) e g rest = absurd cc
    taken (Ok next) e g rest = rest next e g

-- ---- the start of numbers in their fields

fields_before-all : (p : Problem) → fields_before p 10 ≡ fields p
fields_before-all p = append-nil (fields p)

ranged-start : (p : Problem) (ns : List ℕ) → are_in_fields (fields p) ns ≡ true → in_range p (start_with ns) ≡ true
ranged-start p ns h =
    let back : numbers (start_with ns) ≡ ns = numbers-back ns enough (flag 6 refl (omega arith)) (flag 7 refl (omega arith)) (flag 8 refl (omega arith)) (flag 9 refl (omega arith)) (flag 10 refl (omega arith)) (flag 11 refl (omega arith)) in
    both_true (ap (λ n. n == 6) six) (ap (are_in_fields (fields p)) back ∙ h)
  where
    twelve : 12 ≤ length (fields p)
    twelve = omega arith

    enough : 12 ≤ length ns
    enough = omega (arith, twelve, are_in_fields-length (fields p) ns h)

    six : length (start_with ns).flags ≡ 6
    six = length-map (take 6 (drop 6 ns)) (λ n. n == 1) ∙ length-take-le 6 (drop 6 ns) (omega (arith, enough, length-drop 6 ns))

    flag : (k : ℕ) → get_or (fields p) k (field p 1 6) ≡ field p 1 k → k < length (fields p) → get_or ns k 0 < 2
    flag k at inside = in-width (field p 1 k) (get_or ns k 0) (subst (λ f. is_in_field f (get_or ns k 0) ≡ true) at (at-field (fields p) ns k (field p 1 6) 0 h inside))

pub started-allowed : (p : Problem) (text : List ℕ) (s : Data) → start_of_text p text ≡ Ok s → allows p s ≡ true
started-allowed p text s h = finished (read_lines (with_start_line p) 1 nothing_started (word_lines text)) refl h
  where
    nothing-fits : Fits p nothing_started
    nothing-fits = record { inside = refl; met = λ last. absurd (omega (arith, last)) }

    finished : (x : Result StartReading (ℕ × ProblemCause)) → read_lines (with_start_line p) 1 nothing_started (word_lines text) ≡ x
        → (elim x as (λ _. Result Data (ℕ × ProblemCause)) [ Err fault ↦ Err fault | Ok r ↦ if r.given == 10 then Ok (start_with r.numbers) else Err (suc (length (word_lines text)), Missing) ]) ≡ Ok s → allows p s ≡ true
    finished (Err fault) e g = absurd cc
    finished (Ok r) e g =
        let whole = if-ok (r.given == 10) (start_with r.numbers) (suc (length (word_lines text)), Missing) s g in
        let fits : Fits p r = fits-lines p 1 nothing_started r (word_lines text) e nothing-fits in
        let ten : r.given ≡ 10 = eqb-true r.given 10 whole.0 in
        let all : are_in_fields (fields p) r.numbers ≡ true = subst (λ fs. are_in_fields fs r.numbers ≡ true) (ap (fields_before p) ten ∙ fields_before-all p) fits.inside in
        subst (λ d. allows p d ≡ true) whole.1 (both_true (ranged-start p r.numbers all) (fits.met ten))
