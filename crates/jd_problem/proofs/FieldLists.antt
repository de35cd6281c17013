-- The fields of a start's numbers, taken together.
use Rattle.std.proofs.Common.{◌≡◌, ℕ, zero, suc, ◌+◌, ◌-◌, ◌*◌, ◌<◌, ◌≤◌, ◌&&◌, ◌==◌, Bool, true, false, List, [], ◌∷◌, ◌++◌, length, get_or, drop, replicate, Option, Some, None, refl, sym, ap, ◌∙◌, arith, append_assoc}
use Rattle.std.proofs.lemmas.Bool.{false≢true}
use Rattle.std.proofs.lemmas.Bool.Decides.{nat_tests}
use Rattle.std.proofs.lemmas.List.{drop-drop, length-replicate, length-map}
use Rattle.hp_model.specs.WordOperations.{bit_number}
use Rattle.hp_model.specs.State.{Data}
use Rattle.jd_model.specs.Problems.{Problem, Field, field, content_fields, nibble_fields, fields, content_numbers, numbers, start_with, start_of, in_range, free_bits, free_width, free_widths, is_in_field, are_in_fields, number_in_field, numbers_in}

pub free_widths-append : (fs gs : List Field) → free_widths (fs ++ gs) ≡ free_widths fs + free_widths gs
free_widths-append [] gs = omega arith
free_widths-append (f ∷ fs) gs = omega (arith, free_widths-append fs gs)

pub free_widths-replicate : (n : ℕ) (f : Field) → free_widths (replicate n f) ≡ n * free_width f
free_widths-replicate zero f = omega arith
free_widths-replicate (suc n) f = let e = free_widths-replicate n f in grind (arith, e)

pub numbers_in-append : (fs gs : List Field) (bs : List Bool) → numbers_in (fs ++ gs) bs ≡ numbers_in fs bs ++ numbers_in gs (drop (free_widths fs) bs)
numbers_in-append [] gs bs = refl
numbers_in-append (f ∷ fs) gs bs =
    let rest = drop (free_width f) bs in
    ap (λ ns. number_in_field f bs ∷ ns) (numbers_in-append fs gs rest ∙ ap (λ bits. numbers_in fs rest ++ numbers_in gs bits) (drop-drop (free_widths fs) (free_width f) bs))

pub are_in_fields-append : (fs gs : List Field) (ns ms : List ℕ) → length fs ≡ length ns → are_in_fields (fs ++ gs) (ns ++ ms) ≡ (are_in_fields fs ns && are_in_fields gs ms)
are_in_fields-append [] gs [] ms same = refl
are_in_fields-append [] gs (n ∷ ns) ms same = absurd (omega (arith, same))
are_in_fields-append (f ∷ fs) gs [] ms same = absurd (omega (arith, same))
are_in_fields-append (f ∷ fs) gs (n ∷ ns) ms same = regroup (is_in_field f n) _ _ _ (are_in_fields-append fs gs ns ms (omega (arith, same)))
  where
    regroup : (a b c d : Bool) → d ≡ (b && c) → (a && d) ≡ ((a && b) && c)
    regroup true b c d e = e
    regroup false b c d e = refl

-- as many numbers as fields
pub are_in_fields-length : (fs : List Field) (ns : List ℕ) → are_in_fields fs ns ≡ true → length fs ≡ length ns
are_in_fields-length [] [] h = refl
are_in_fields-length [] (n ∷ ns) h = absurd (false≢true h)
are_in_fields-length (f ∷ fs) [] h = absurd (false≢true h)
are_in_fields-length (f ∷ fs) (n ∷ ns) h = ap suc (are_in_fields-length fs ns (rest (is_in_field f n) (are_in_fields fs ns) h))
  where
    rest : (a b : Bool) → (a && b) ≡ true → b ≡ true
    rest true b e = e
    rest false b e = absurd (false≢true e)

not_true : (b : Bool) → (b ≡ true → ⊥) → false ≡ b
not_true true n = absurd (n refl)
not_true false n = refl

-- the numbers of fields of the same kind are as many
pub other-count : (n m : ℕ) (f : Field) (ns : List ℕ) → m ≡ n → (length ns ≡ m → ⊥) → (length ns == m) ≡ are_in_fields (replicate n f) ns
other-count n m f ns is other =
    let not : (length ns == m) ≡ false = grind (arith, nat_tests) in
    not ∙ not_true (are_in_fields (replicate n f) ns) (λ h. other (sym (are_in_fields-length (replicate n f) ns h) ∙ length-replicate n f ∙ sym is))

-- one more field of the same kind
replicate-turn : (f : Field) (count k : ℕ) → k < count → replicate (count - k) f ≡ f ∷ replicate (count - (k + 1)) f
replicate-turn f count k more = let e : count - k ≡ suc (count - (k + 1)) = omega arith in ap (λ n. replicate n f) e

module _ (f : Field) (count k : ℕ) (more : k < count) where
  pub room-turn : (at n : ℕ) → at + free_widths (replicate (count - k) f) ≤ n → at + free_width f + free_widths (replicate (count - (k + 1)) f) ≤ n
  room-turn at n h = omega (arith, h, ap free_widths (replicate-turn f count k more))

  pub numbers-turn : (ns : List ℕ) (bs : List Bool) (at : ℕ)
      → ns ++ number_in_field f (drop at bs) ∷ [] ++ numbers_in (replicate (count - (k + 1)) f) (drop (at + free_width f) bs) ≡ ns ++ numbers_in (replicate (count - k) f) (drop at bs)
  numbers-turn ns bs at =
      let n = number_in_field f (drop at bs) in
      let rest = replicate (count - (k + 1)) f in
      append_assoc ns (n ∷ []) (numbers_in rest (drop (at + free_width f) bs))
      ∙ ap (λ bits. ns ++ n ∷ numbers_in rest bits) (sym (drop-drop (free_width f) at bs))
      ∙ ap (λ fs. ns ++ numbers_in fs (drop at bs)) (sym (replicate-turn f count k more))

-- how many bits are free
free_width-most : (w : ℕ) (fixed : Option ℕ) → free_width (record { width = w; fixed = fixed }) ≤ w
free_width-most w None = omega arith
free_width-most w (Some v) = omega arith

module _ (p : Problem) where
  part : (w k : ℕ) → free_width (field p w k) ≤ w
  part w k = free_width-most w (get_or p.fixed k None)

  pub free_bits-sum : free_bits p ≡ free_widths (content_fields p) + free_widths (nibble_fields p)
  free_bits-sum = free_widths-append (content_fields p) (nibble_fields p)

  pub free_bits-most : p.size ≤ 64 → free_widths (nibble_fields p) ≤ 4872 → free_bits p ≤ 5262
  free_bits-most size few =
      omega (arith, part p.size 0, part p.size 1, part p.size 2, part p.size 3, part p.size 4, part 64 5, part 1 6, part 1 7, part 1 8, part 1 9, part 1 10, part 1 11)

-- ---- the content and the nibbles apart

pub start_of-parts : (p : Problem) (bs : List Bool) (first nibbles : List ℕ) → first ≡ numbers_in (content_fields p) bs
    → nibbles ≡ numbers_in (nibble_fields p) (drop (free_widths (content_fields p)) bs) → start_with (first ++ nibbles) ≡ start_of p bs
start_of-parts p bs first nibbles f n =
    ap (λ ns. start_with (ns ++ nibbles)) f ∙ ap (λ ns. start_with (numbers_in (content_fields p) bs ++ ns)) n
    ∙ ap start_with (sym (numbers_in-append (content_fields p) (nibble_fields p) bs))

module _ (p : Problem) (s : Data) (six : length s.flags ≡ 6) where
  in_range-parts : in_range p s ≡ (are_in_fields (content_fields p) (content_numbers s) && are_in_fields (nibble_fields p) s.nibbles)
  in_range-parts =
      ap (λ n. (n == 6) && are_in_fields (fields p) (numbers s)) six
      ∙ are_in_fields-append (content_fields p) (nibble_fields p) (content_numbers s) s.nibbles (omega (arith, six, length-map s.flags bit_number))

  module _ (fs : List Field) (ns : List ℕ) (passed : Bool) (is : passed ≡ are_in_fields fs ns) (f : fs ≡ content_fields p) (n : ns ≡ content_numbers s) where
    parts-passed : in_range p s ≡ (passed && are_in_fields (nibble_fields p) s.nibbles)
    parts-passed = in_range-parts ∙ ap (λ b. b && are_in_fields (nibble_fields p) s.nibbles) (sym (is ∙ ap (λ gs. are_in_fields gs ns) f ∙ ap (are_in_fields (content_fields p)) n))

    pub in_range-else : passed ≡ false → passed ≡ in_range p s
    in_range-else fails = fails ∙ sym (parts-passed ∙ ap (λ b. b && are_in_fields (nibble_fields p) s.nibbles) fails)

    pub in_range-then : passed ≡ true → (nibbles : List ℕ) (rest : Bool) → rest ≡ are_in_fields (nibble_fields p) nibbles → nibbles ≡ s.nibbles → rest ≡ in_range p s
    in_range-then passes nibbles rest e same =
        e ∙ ap (are_in_fields (nibble_fields p)) same ∙ sym (parts-passed ∙ ap (λ b. b && are_in_fields (nibble_fields p) s.nibbles) passes)
