-- The flags and the nibbles in the lists of parts.
use Rattle.std.proofs.Common.{◌≡◌, ℕ, zero, suc, ◌<◌, Bool, true, List, [], ◌∷◌, ◌++◌, length, map, refl, sym, ap, ◌∙◌, subst, arith}
use Rattle.std.specs.Prelude.{slice_set, ◌==◌, Option, Some, None, option_map, if◌then◌else◌}
use Rattle.std.proofs.Math.Seq.{set-append_seam}
use Rattle.std.proofs.lemmas.List.{set-append_left, map-set, length-map}
use Rattle.hp_model.specs.WordOperations.{bit_number}
use Rattle.jd_start.specs.declared.parts.Part.{Part}
use Rattle.jd_start.specs.declared.parts.Parts.{Parts}
use Rattle.jd_start.specs.declared.parts.Fixed.{Fixed}
use Rattle.jd_start.specs.Parts.{place_of, marks_of, values_of}

abbrev six_and : {A : Type 0} → A → A → A → A → A → A → List A → List A
six_and x y z t l i rest = x ∷ y ∷ z ∷ t ∷ l ∷ i ∷ rest

module _ {A : Type 0} (x y z t l i : A) (flags : List A) (last v : A) (count : length flags ≡ 6) where
  flag-set : (k place : ℕ) → place ≡ suc (suc (suc (suc (suc (suc k))))) → k < 6
      → six_and x y z t l i (slice_set flags k v ++ last ∷ []) ≡ slice_set (six_and x y z t l i (flags ++ last ∷ [])) place v
  flag-set k place at few =
      ap (six_and x y z t l i) (sym (set-append_left flags (last ∷ []) k v (omega arith)))
      ∙ sym (ap (λ n. slice_set (six_and x y z t l i (flags ++ last ∷ [])) n v) at)

  last-set : (place : ℕ) → place ≡ 12 → six_and x y z t l i (flags ++ v ∷ []) ≡ slice_set (six_and x y z t l i (flags ++ last ∷ [])) place v
  last-set place at =
      ap (six_and x y z t l i) (sym (subst (λ n. slice_set (flags ++ last ∷ []) n v ≡ flags ++ v ∷ []) count (set-append_seam flags last [] v)))
      ∙ sym (ap (λ n. slice_set (six_and x y z t l i (flags ++ last ∷ [])) n v) at)

module _ (p : Parts) (part : Part) (count : length p.flags ≡ 6) where
  -- a flag is marked
  pub marks_of-flag : (k : ℕ) → place_of part ≡ suc (suc (suc (suc (suc (suc k))))) → k < 6
      → six_and p.x p.y p.z p.t p.l p.i (slice_set p.flags k true ++ p.memory ∷ []) ≡ slice_set (marks_of p) (place_of part) true
  marks_of-flag k at few = flag-set p.x p.y p.z p.t p.l p.i p.flags p.memory true count k (place_of part) at few

  -- the nibbles are marked
  pub marks_of-memory : place_of part ≡ 12 → six_and p.x p.y p.z p.t p.l p.i (p.flags ++ true ∷ []) ≡ slice_set (marks_of p) (place_of part) true
  marks_of-memory at = last-set p.x p.y p.z p.t p.l p.i p.flags p.memory true count (place_of part) at

bit_number-back : (value : ℕ) → value < 2 → bit_number (value == 1) ≡ value
bit_number-back zero few = refl
bit_number-back (suc zero) few = refl
bit_number-back (suc (suc n)) few = absurd (omega arith)

abbrev numbers_of : List (Option Bool) → List (Option ℕ)
numbers_of flags = map (option_map bit_number) flags

module _ (f : Fixed) (part : Part) (value : ℕ) (count : length f.flags ≡ 6) where
  numbers_count : length (numbers_of f.flags) ≡ 6
  numbers_count = length-map f.flags (option_map bit_number) ∙ count

  -- a flag is fixed
  pub values_of-flag : (k : ℕ) → place_of part ≡ suc (suc (suc (suc (suc (suc k))))) → k < 6 → value < 2
      → six_and f.x f.y f.z f.t f.l f.i (numbers_of (slice_set f.flags k (Some (value == 1))) ++ (if f.memory then Some 0 else None) ∷ [])
      ≡ slice_set (values_of f) (place_of part) (Some value)
  values_of-flag k at few small =
      ap (λ flags. six_and f.x f.y f.z f.t f.l f.i (flags ++ (if f.memory then Some 0 else None) ∷ []))
      (map-set (option_map bit_number) f.flags k (Some (value == 1)) ∙ ap (λ n. slice_set (numbers_of f.flags) k (Some n)) (bit_number-back value small))
      ∙ flag-set f.x f.y f.z f.t f.l f.i (numbers_of f.flags) (if f.memory then Some 0 else None) (Some value) numbers_count k (place_of part) at few

  -- the nibbles are fixed
  pub values_of-memory : place_of part ≡ 12 → value < 1 → six_and f.x f.y f.z f.t f.l f.i (numbers_of f.flags ++ Some 0 ∷ []) ≡ slice_set (values_of f) (place_of part) (Some value)
  values_of-memory at small =
      let none : 0 ≡ value = omega arith in
      ap (λ n. six_and f.x f.y f.z f.t f.l f.i (numbers_of f.flags ++ Some n ∷ [])) none
      ∙ last-set f.x f.y f.z f.t f.l f.i (numbers_of f.flags) (if f.memory then Some 0 else None) (Some value) numbers_count (place_of part) at
