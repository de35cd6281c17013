-- The numbers of fields, one after another.
use Rattle.std.proofs.Common.{◌≡◌, ℕ, zero, suc, ◌+◌, ◌*◌, ◌<◌, ◌==◌, ◌&&◌, nat_lt, Bool, true, false, List, [], ◌∷◌, ◌++◌, length, map, drop, slice_get, Some, None, refl, sym, ap, ◌∙◌, arith}
use Rattle.std.specs.Prelude.{slice_index_or}
use Rattle.std.specs.declared.option.Option.{Option}
use Rattle.std.proofs.lemmas.Bool.Decides.{nat_tests}
use Rattle.std.proofs.lemmas.List.{drop-drop}
use Rattle.jd_model.specs.Problems.{Field, are_fixed_from, free_width, free_widths, is_fixed_below, number_in_field, numbers_in, part_limit, start_with}
use Rattle.jd_circuit.specs.declared.literals.Lit.{Lit}
use Rattle.jd_circuit.specs.Meaning.{lit_value}
use Rattle.jd_vectors.specs.Number.{bit, number}

-- ---- what a part is fixed at

both : (p q : Bool) → (p && q) ≡ true → (p ≡ true) × (q ≡ true)
both true q e = (refl, e)
both false q e = cc

pub fixed_at : (size k : ℕ) (fs : List (Option ℕ)) (j m : ℕ) → m ≡ k + j → are_fixed_from size k fs ≡ true → is_fixed_below (part_limit size m) (slice_index_or fs j None) ≡ true
fixed_at size k [] zero m h e = refl
fixed_at size k [] (suc j) m h e = refl
fixed_at size k (f ∷ fs) zero m h e =
    let here : m ≡ k = omega arith in
    rw here (both (is_fixed_below (part_limit size k) f) (are_fixed_from size (suc k) fs) e).0
fixed_at size k (f ∷ fs) (suc j) m h e = fixed_at size (suc k) fs j m (omega arith) (both (is_fixed_below (part_limit size k) f) (are_fixed_from size (suc k) fs) e).1

pub below : (limit value bound : ℕ) (fixed : Option ℕ) → fixed ≡ Some value → limit ≡ bound → is_fixed_below limit fixed ≡ true → value < bound
below limit value bound fixed e h t =
    let test : nat_lt value bound ≡ true = rw (e, h) at t in
    grind (arith, nat_tests)

-- ---- numbers in order

pub step : (bits : List Bool) (f : Field) (fs : List Field) (t u n : ℕ) (ns : List ℕ) → u ≡ t + free_width f → n ≡ number_in_field f (drop t bits) → ns ≡ numbers_in fs (drop u bits)
    → n ∷ ns ≡ numbers_in (f ∷ fs) (drop t bits)
step bits f fs t u n ns e here rest =
    let moved : drop u bits ≡ drop (free_width f) (drop t bits) = ap (λ k. drop k bits) e ∙ sym (drop-drop (free_width f) t bits) in
    ap (λ m. m ∷ ns) here ∙ ap (λ (ms : List ℕ). number_in_field f (drop t bits) ∷ ms) (rest ∙ ap (numbers_in fs) moved)

pub join : (fs gs : List Field) (bits : List Bool) (t : ℕ) → numbers_in (fs ++ gs) (drop t bits) ≡ numbers_in fs (drop t bits) ++ numbers_in gs (drop (t + free_widths fs) bits)
join [] gs bits t = let same : t ≡ t + 0 = omega arith in ap (λ k. numbers_in gs (drop k bits)) same
join (f ∷ fs) gs bits t =
    let moved : drop (free_width f) (drop t bits) ≡ drop (t + free_width f) bits = drop-drop (free_width f) t bits in
    let sum : t + free_width f + free_widths fs ≡ t + (free_width f + free_widths fs) = omega arith in
    rw moved (ap (λ (ns : List ℕ). number_in_field f (drop t bits) ∷ ns) (join fs gs bits (t + free_width f) ∙ ap (λ k. numbers_in fs (drop (t + free_width f) bits) ++ numbers_in gs (drop k bits)) sum))

-- the same from the first bit on
pub join_first : (fs gs : List Field) (bits : List Bool) → numbers_in (fs ++ gs) bits ≡ numbers_in fs bits ++ numbers_in gs (drop (free_widths fs) bits)
join_first fs gs bits =
    let none : 0 + free_widths fs ≡ free_widths fs = omega arith in
    join fs gs bits 0 ∙ ap (λ k. numbers_in fs bits ++ numbers_in gs (drop k bits)) none

pub widths_joined : (fs gs : List Field) → free_widths (fs ++ gs) ≡ free_widths fs + free_widths gs
widths_joined [] gs = omega arith
widths_joined (f ∷ fs) gs = omega (arith, widths_joined fs gs)

-- ---- flags

pub one_bit : (val : ℕ → Bool) (ls : List Lit) (l : Lit) → length ls ≡ 1 → slice_get ls 0 ≡ Some l → bit (lit_value val l) ≡ number val ls
one_bit val [] l h e = cc
one_bit val (m ∷ []) l h e = same e
  where
    same : Some m ≡ Some l → bit (lit_value val l) ≡ bit (lit_value val m) + 2 * 0
    same f = ap (λ (o : Option Lit). elim o [ None ↦ 0 | Some k ↦ bit (lit_value val k) ]) (sym f) ∙ omega arith
one_bit val (m ∷ k ∷ ls) l h e = absurd (omega arith)

pub bits_of_literals : (f : Lit → Bool) (ls : List Lit) → map bit (map f ls) ≡ map (λ l. bit (f l)) ls
bits_of_literals f [] = refl
bits_of_literals f (l ∷ ls) = ap (λ (ns : List ℕ). bit (f l) ∷ ns) (bits_of_literals f ls)

one_back : (b : Bool) → (bit b == 1) ≡ b
one_back true = refl
one_back false = refl

-- the start of words, flags and nibbles
pub start_is : (x y z t l i : ℕ) (bs : List Bool) (ns : List ℕ) → length bs ≡ 6
    → record { x = x; y = y; z = z; t = t; last = l; index = i; flags = bs; nibbles = ns } ≡ start_with (x ∷ y ∷ z ∷ t ∷ l ∷ i ∷ (map bit bs ++ ns))
start_is x y z t l i (a ∷ b ∷ c ∷ d ∷ e ∷ f ∷ []) ns h = rw (one_back a, one_back b, one_back c, one_back d, one_back e, one_back f) refl
start_is x y z t l i [] ns h = absurd (omega arith)
start_is x y z t l i (a ∷ []) ns h = absurd (omega arith)
start_is x y z t l i (a ∷ b ∷ []) ns h = absurd (omega arith)
start_is x y z t l i (a ∷ b ∷ c ∷ []) ns h = absurd (omega arith)
start_is x y z t l i (a ∷ b ∷ c ∷ d ∷ []) ns h = absurd (omega arith)
start_is x y z t l i (a ∷ b ∷ c ∷ d ∷ e ∷ []) ns h = absurd (omega arith)
start_is x y z t l i (a ∷ b ∷ c ∷ d ∷ e ∷ f ∷ g ∷ bs) ns h = absurd (omega arith)

-- nibbles can be fixed at zero alone
pub zero_value : (value : ℕ) (fixed : Option ℕ) → fixed ≡ Some value → is_fixed_below 1 fixed ≡ true → fixed ≡ Some 0
zero_value value fixed e t =
    let small : value < 1 = below 1 value 1 fixed e refl t in
    let zero_is : value ≡ 0 = omega (arith, small) in
    e ∙ ap (λ (v : ℕ). Some v) zero_is
