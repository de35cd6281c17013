-- The parts that an `observe` line names, one word after another.
use Rattle.std.proofs.Common.{◌≡◌, ℕ, zero, suc, ◌<◌, Bool, true, false, List, [], ◌∷◌, length, replicate, refl, sym, ap, ◌∙◌, arith}
use Rattle.std.specs.Prelude.{Option, Some, None, option_map, ◌||◌, ◌==◌, slice_set, slice_index_or}
use Rattle.std.specs.List.{list_any}
use Rattle.std.proofs.Math.Bool.{or-true, or-false}
use Rattle.std.proofs.lemmas.Bool.Decides.{nat_tests}
use Rattle.std.proofs.lemmas.List.{length-set}
use Rattle.std.proofs.lemmas.List.Quantifiers.{position-Some}
use Rattle.jd_text.specs.Words.{is_text}
use Rattle.jd_model.specs.ProblemLines.{part_names, part_named, with_part, parts_named, marked}
use Rattle.jd_model.specs.ProblemTexts.{has_twice}
use Rattle.jd_start.specs.declared.parts.Parts.{Parts}
use Rattle.jd_start.specs.Parts.{marks_of}
use Rattle.jd_problem.specs.LineWords.{ObservesParts}

-- the marks after the words that are left, and whether a part was named twice
abbrev pub observed_in : List Bool → Bool → List (List ℕ) → Option (List Bool × Bool)
observed_in marks twice [] = Some (marks, twice)
observed_in marks twice (word ∷ words) = elim (part_named word) [
  | None ↦ None
  | Some k ↦ observed_in (slice_set marks k true) (twice || slice_index_or marks k false) words
]

-- whether one of these places is marked
abbrev meets : List Bool → List ℕ → Bool
meets marks ks = list_any (λ k. slice_index_or marks k false) ks

mark-one : (marks : List Bool) (k j : ℕ) → k < length marks → slice_index_or (slice_set marks k true) j false ≡ (slice_index_or marks j false || (j == k))
mark-one [] k j inside = absurd (omega arith)
mark-one (m ∷ marks) zero zero inside = sym (or-true m)
mark-one (m ∷ marks) zero (suc j) inside =
    let e : (suc j == 0) ≡ false = grind (arith, nat_tests) in rw e (sym (or-false (slice_index_or marks j false)))
mark-one (m ∷ marks) (suc k) zero inside = let e : (0 == suc k) ≡ false = grind (arith, nat_tests) in rw e (sym (or-false m))
mark-one (m ∷ marks) (suc k) (suc j) inside =
    let e : (suc j == suc k) ≡ (j == k) = grind (arith, nat_tests) in mark-one marks k j (omega arith) ∙ ap (λ b. slice_index_or marks j false || b) (sym e)

exchanged : (a b c d : Bool) → ((a || b) || (c || d)) ≡ ((a || c) || (b || d))
exchanged true b c d = refl
exchanged false true c d = sym (or-true c)
exchanged false false c d = refl

meets-more : (marks : List Bool) (k : ℕ) (ks : List ℕ) → k < length marks → meets (slice_set marks k true) ks ≡ (meets marks ks || list_any (λ j. j == k) ks)
meets-more marks k [] inside = refl
meets-more marks k (j ∷ ks) inside =
    rw (mark-one marks k j inside, meets-more marks k ks inside) (exchanged (slice_index_or marks j false) (j == k) (meets marks ks) (list_any (λ i. i == k) ks))

none-marked : (n k : ℕ) → slice_index_or (replicate n false) k false ≡ false
none-marked zero k = refl
none-marked (suc n) zero = refl
none-marked (suc n) (suc k) = none-marked n k

meets-none : (n : ℕ) (ks : List ℕ) → meets (replicate n false) ks ≡ false
meets-none n [] = refl
meets-none n (k ∷ ks) = rw (none-marked n k) (meets-none n ks)

abbrev told : List Bool → Bool → List ℕ → List Bool × Bool
told marks twice ks = (marked marks ks, twice || meets marks ks || has_twice ks)

regrouped : (t m others again rest : Bool) → (((t || m) || (others || again)) || rest) ≡ ((t || (m || others)) || (again || rest))
regrouped true m others again rest = refl
regrouped false true others again rest = refl
regrouped false false true again rest = refl
regrouped false false false again rest = refl

told-more : (marks : List Bool) (twice : Bool) (k : ℕ) (ks : List ℕ) → k < length marks
    → told (slice_set marks k true) (twice || slice_index_or marks k false) ks ≡ told marks twice (k ∷ ks)
told-more marks twice k ks inside =
    ap (λ b. (marked (slice_set marks k true) ks, b))
    (ap (λ b. twice || slice_index_or marks k false || b || has_twice ks) (meets-more marks k ks inside)
    ∙ regrouped twice (slice_index_or marks k false) (meets marks ks) (list_any (λ j. j == k) ks) (has_twice ks))

told-parts : (marks : List Bool) (twice : Bool) (k : ℕ) (rest : Option (List ℕ)) → k < length marks
    → option_map (told (slice_set marks k true) (twice || slice_index_or marks k false)) rest ≡ option_map (told marks twice) (with_part (Some k) rest)
told-parts marks twice k None inside = refl
told-parts marks twice k (Some ks) inside = ap Some (told-more marks twice k ks inside)

place-inside : (word : List ℕ) (k : ℕ) → part_named word ≡ Some k → k < 13
place-inside word k found = (position-Some (λ name. is_text name word) part_names k [] found).0

abbrev Observes : List (List ℕ) → Type 0
Observes words = (marks : List Bool) (twice : Bool) → length marks ≡ 13 → observed_in marks twice words ≡ option_map (told marks twice) (parts_named words)

observed-found : (words : List (List ℕ)) → Observes words → (marks : List Bool) (twice : Bool) → length marks ≡ 13 → (found : Option ℕ) → ((k : ℕ) → found ≡ Some k → k < 13)
    → elim found [ None ↦ None | Some k ↦ observed_in (slice_set marks k true) (twice || slice_index_or marks k false) words ]
    ≡ option_map (told marks twice) (with_part found (parts_named words))
observed-found words rest marks twice count None inside = refl
observed-found words rest marks twice count (Some k) inside =
    let lt : k < 13 = inside k refl in
    rest (slice_set marks k true) (twice || slice_index_or marks k false) (length-set marks k true ∙ count) ∙ told-parts marks twice k (parts_named words) (omega arith)

observed-all : (words : List (List ℕ)) → Observes words
observed-all [] marks twice count = ap (λ b. Some (marks, b)) (sym (or-false (twice || false) ∙ or-false twice))
observed-all (word ∷ words) marks twice count = observed-found words (observed-all words) marks twice count (part_named word) (place-inside word)

abbrev all_observed : List (List ℕ) → Option (List Bool × Bool)
all_observed words = observed_in (replicate 13 false) false words

observed-named : (words : List (List ℕ)) (p : Parts) (twice : Bool) (named : Option (List ℕ)) → parts_named words ≡ named
    → Some (marks_of p, twice) ≡ option_map (told (replicate 13 false) false) named → ObservesParts words p twice
observed-named words p twice None is same = absurd (cc)
observed-named words p twice (Some ks) is same =
    let both : ◌≡◌ {A = List Bool × Bool} (marks_of p, twice) (told (replicate 13 false) false ks) = cc in
    record {
      places = ks;
      named = is;
      marks = ap (λ r. r.0) both;
      repeats = ap (λ r. r.1) both ∙ ap (λ b. b || has_twice ks) (meets-none 13 ks);
    }

-- words that all name parts
observed-good : (words : List (List ℕ)) (p : Parts) (twice : Bool) → Some (marks_of p, twice) ≡ all_observed words → ObservesParts words p twice
observed-good words p twice same = observed-named words p twice (parts_named words) refl (same ∙ observed-all words (replicate 13 false) false refl)

none-named : (named : Option (List ℕ)) → None ≡ option_map (told (replicate 13 false) false) named → named ≡ None
none-named None same = refl
none-named (Some ks) same = absurd (cc)

-- a word that names none
observed-bad : (words : List (List ℕ)) → None ≡ all_observed words → parts_named words ≡ None
observed-bad words same = none-named (parts_named words) (same ∙ observed-all words (replicate 13 false) false refl)

module _ (marks : List Bool) (twice : Bool) (left words : List (List ℕ)) (same : observed_in marks twice left ≡ all_observed words) where
  -- no word is left
  pub observed-end : (p : Parts) → marks_of p ≡ marks → left ≡ [] → ObservesParts words p twice
  observed-end p is end = observed-good words p twice (ap (λ ms. Some (ms, twice)) is ∙ ap (observed_in marks twice) (sym end) ∙ same)

  -- the next word names no part
  pub observed-stop : (word : List ℕ) (rest : List (List ℕ)) → left ≡ word ∷ rest → None ≡ part_named word → parts_named words ≡ None
  observed-stop word rest next none =
      let stopped : observed_in marks twice (word ∷ rest) ≡ None = rw (← none, observed_in) refl in
      observed-bad words (sym (ap (observed_in marks twice) next ∙ stopped) ∙ same)
