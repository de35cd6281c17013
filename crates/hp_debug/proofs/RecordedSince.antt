-- Histories that end with a state and so many recorded since, and the steps back over them.
use Rattle.std.proofs.Common.{◌≡◌, ℕ, zero, suc, ◌+◌, ◌-◌, ◌≤◌, Bool, true, false, if◌then◌else◌, nat_lt, List, [], ◌∷◌, ◌++◌, length, take, drop, get_or, refl, ap, sym, subst, ◌∙◌, arith, length-append}
use Rattle.std.proofs.lemmas.Bool.Decides.{nat_tests}
use Rattle.std.proofs.Math.Seq.{take-append_seam, get_or-append_seam}
use Rattle.hp_model.specs.Press.{Calculator}
use Rattle.hp_debug.specs.Debuggers.{Debugger, within_depth, state_recorded, stepped_back}
use Rattle.hp_debug.specs.Laws.{stepped_back_by}

-- a history ends with a state and so many after it
abbrev pub EndsWith : Calculator → ℕ → List Calculator → Type 0
EndsWith s zero h = (front : List Calculator) × (h ≡ front ++ s ∷ [])
EndsWith s (suc n) h = (front : List Calculator) × ((last : Calculator) × ((h ≡ front ++ last ∷ []) × EndsWith s n front))

-- after so many records
abbrev pub RecordedSince : Calculator → ℕ → Debugger → Type 0
RecordedSince s zero d = d.present ≡ s
RecordedSince s (suc n) d = EndsWith s n d.history

length_more : (front : List Calculator) (last : Calculator) → length (front ++ last ∷ []) ≡ length front + 1
length_more front last = length-append front (last ∷ [])

-- where there are too many the oldest state is dropped, and the end stays
dropped : (front : List Calculator) (last : Calculator) → 1 ≤ length front → drop 1 (front ++ last ∷ []) ≡ drop 1 front ++ last ∷ []
dropped [] last few = absurd (omega (arith, few))
dropped (s ∷ front) last few = refl

ends-dropped : (n : ℕ) (s : Calculator) (h : List Calculator) → EndsWith s n h → n + 2 ≤ length h → EndsWith s n (drop 1 h)
ends-dropped zero s h (front, is) many =
    (drop 1 front, ap (λ (x : List Calculator). drop 1 x) is ∙ dropped front s (omega (arith, many, ap (λ (x : List Calculator). length x) is, length_more front s)))
ends-dropped (suc n) s h (front, (last, (is, rest))) many =
    let more : n + 2 ≤ length front = omega (arith, many, ap (λ (x : List Calculator). length x) is, length_more front last) in
    (drop 1 front, (last, (ap (λ (x : List Calculator). drop 1 x) is ∙ dropped front last (omega (arith, more)), ends-dropped n s front rest more)))

ends-length : (n : ℕ) (s : Calculator) (h : List Calculator) → EndsWith s n h → n + 1 ≤ length h
ends-length zero s h (front, is) = omega (arith, ap (λ (x : List Calculator). length x) is, length_more front s)
ends-length (suc n) s h (front, (last, (is, rest))) =
    omega (arith, ap (λ (x : List Calculator). length x) is, length_more front last, ends-length n s front rest)

ends-within-depth : (n depth : ℕ) (s : Calculator) (h : List Calculator) → n + 1 ≤ depth → EndsWith s n h → EndsWith s n (within_depth depth h)
ends-within-depth n depth s h within ends = by_test (nat_lt depth (length h)) refl
  where
    by_test : (b : Bool) → nat_lt depth (length h) ≡ b → EndsWith s n (if b then drop 1 h else h)
    by_test true past = ends-dropped n s h ends (grind (arith, nat_tests, within, past))
    by_test false here = ends

pub since-recording : (n : ℕ) (s before : Calculator) (d : Debugger) → n + 1 ≤ d.depth → RecordedSince s n (record d { present = before }) → EndsWith s n (state_recorded before d).history
since-recording zero s before d within after =
    ends-within-depth zero d.depth s (d.history ++ before ∷ []) within (d.history, ap (λ (x : Calculator). d.history ++ x ∷ []) after)
since-recording (suc n) s before d within after =
    ends-within-depth (suc n) d.depth s (d.history ++ before ∷ []) within (d.history, (before, (refl, after)))

-- back over one record
last_place : (front : List Calculator) (last : Calculator) → length (front ++ last ∷ []) - 1 ≡ length front
last_place front last = omega (arith, length_more front last)

taken : (front : List Calculator) (last : Calculator) → take (length (front ++ last ∷ []) - 1) (front ++ last ∷ []) ≡ front
taken front last = ap (λ k. take k (front ++ last ∷ [])) (last_place front last) ∙ take-append_seam front (last ∷ [])

found : (front : List Calculator) (last other : Calculator) → get_or (front ++ last ∷ []) (length (front ++ last ∷ []) - 1) other ≡ last
found front last other = ap (λ k. get_or (front ++ last ∷ []) k other) (last_place front last) ∙ get_or-append_seam front last [] other

since-step-back : (n : ℕ) (s : Calculator) (d : Debugger) → RecordedSince s (suc n) d → RecordedSince s n (stepped_back d)
since-step-back zero s d (front, is) = ap (λ (h : List Calculator). get_or h (length h - 1) d.present) is ∙ found front s d.present
since-step-back (suc n) s d (front, (last, (is, rest))) =
    subst (EndsWith s n) (sym (ap (λ (h : List Calculator). take (length h - 1) h) is ∙ taken front last)) rest

pub since-steps-back : (n : ℕ) (s : Calculator) (d : Debugger) → RecordedSince s n d → (stepped_back_by n d).present ≡ s
since-steps-back zero s d after = after
since-steps-back (suc n) s d after = since-steps-back n s (stepped_back d) (since-step-back n s d after)
