-- Values of all variables decide the clauses.
use Rattle.std.proofs.Common.{◌≡◌, inl, inr, ℕ, zero, suc, ◌+◌, ◌<◌, ◌≤◌, ℤ, pos, negsuc, Bool, true, false, List, [], ◌∷◌, length, get_or, refl, subst, arith}
use Rattle.std.specs.Prelude.{neg_ℤ, nat_abs, if◌then◌else◌}
use Rattle.std.specs.List.{list_all}
use Rattle.jd_logic.specs.declared.Left.{Left}
use Rattle.jd_logic.specs.declared.Left.TheVariants.{Falsified, Unit, Open}
use Rattle.jd_logic.specs.Literals.{AreLiterals, has, left, with_literal}
use Rattle.jd_proving.specs.Propagation.{has_value, has_false, round, rounds, with_unit}
use Rattle.jd_proving.specs.Proving.{AreDecided, literals_from, literals_of, made_true}
use Rattle.jd_propagate.specs.Quiet.{IsIn, IsWithin}
use Rattle.jd_propagate.proofs.Steps.{literal_in}
use Rattle.jd_propagate.proofs.Members.{and_true, or_cases, or_left, or_right, has-here, has-there, list_all-each, with_literal-keeps}

unit-keeps : (xs clause : List ℤ) → IsWithin xs (with_unit xs clause)
unit-keeps xs clause l is = by (left xs clause)
  where
    by : (found : Left) → IsIn (elim found [ Falsified ↦ xs | Unit m ↦ with_literal xs m | Open ↦ xs ]) l
    by Falsified = is
    by (Unit m) = with_literal-keeps xs m l is
    by Open = is

round-keeps : (xs : List ℤ) (clauses : List (List ℤ)) → IsWithin xs (round xs clauses)
round-keeps xs [] l is = is
round-keeps xs (c ∷ cs) l is = round-keeps (with_unit xs c) cs l (unit-keeps xs c l is)

rounds-keep : (n : ℕ) (xs : List ℤ) (clauses : List (List ℤ)) → IsWithin xs (rounds n xs clauses)
rounds-keep zero xs clauses l is = is
rounds-keep (suc n) xs clauses l is = rounds-keep n (round xs clauses) clauses l (round-keeps xs clauses l is)

-- each variable from a number on has a value
valued-from : (n k : ℕ) (bits : List Bool) → k < length bits → has_value (literals_from n bits) (pos (n + k)) ≡ true
valued-from n k [] lt = absurd (omega arith)
valued-from n zero (true ∷ bits) lt =
    let P : ℕ → Type 0 = λ m. has_value (pos n ∷ literals_from (suc n) bits) (pos m) ≡ true in
    let e : n ≡ n + 0 = omega arith in
    subst P e (or_left (has (pos n ∷ literals_from (suc n) bits) (pos n)) _ (has-here (pos n) (literals_from (suc n) bits)))
valued-from n zero (false ∷ bits) lt =
    let xs = neg_ℤ (pos n) ∷ literals_from (suc n) bits in
    let P : ℕ → Type 0 = λ m. has_value (neg_ℤ (pos n) ∷ literals_from (suc n) bits) (pos m) ≡ true in
    let e : n ≡ n + 0 = omega arith in
    subst P e (or_right (has xs (pos n)) (has xs (neg_ℤ (pos n))) (has-here (neg_ℤ (pos n)) (literals_from (suc n) bits)))
valued-from n (suc k) (b ∷ bits) lt =
    let xs = literals_from (suc n) bits in
    let P : ℕ → Type 0 = λ m. has_value ((if b then pos n else neg_ℤ (pos n)) ∷ literals_from (suc n) bits) (pos m) ≡ true in
    let e : suc n + k ≡ n + suc k = omega arith in
    subst P e (value-there (if b then pos n else neg_ℤ (pos n)) xs (pos (suc n + k)) (valued-from (suc n) k bits (omega arith)))
  where
    value-there : (x : ℤ) (xs : List ℤ) (l : ℤ) → has_value xs l ≡ true → has_value (x ∷ xs) l ≡ true
    value-there x xs l e = elim (or_cases (has xs l) (has xs (neg_ℤ l)) e) [
      | inl a ↦ or_left (has (x ∷ xs) l) (has (x ∷ xs) (neg_ℤ l)) (has-there x xs l a)
      | inr b ↦ or_right (has (x ∷ xs) l) (has (x ∷ xs) (neg_ℤ l)) (has-there x xs (neg_ℤ l) b)
    ]

-- so has each literal up to their number, once more is true too
literal-valued : (bits : List Bool) (ys : List ℤ) (l : ℤ) → IsWithin (literals_of bits) ys → 0 < nat_abs l → nat_abs l ≤ length bits → has_value ys l ≡ true
literal-valued bits ys l w z le = by l z le
  where
    grows : (m : ℤ) → has_value (literals_of bits) m ≡ true → has_value ys m ≡ true
    grows m e = elim (or_cases (has (literals_of bits) m) (has (literals_of bits) (neg_ℤ m)) e) [
      | inl a ↦ or_left (has ys m) (has ys (neg_ℤ m)) (w m a)
      | inr b ↦ or_right (has ys m) (has ys (neg_ℤ m)) (w (neg_ℤ m) b)
    ]

    swapped : (k : ℕ) → has_value ys (pos (suc k)) ≡ true → has_value ys (negsuc k) ≡ true
    swapped k e = elim (or_cases (has ys (pos (suc k))) (has ys (negsuc k)) e) [
      | inl a ↦ or_right (has ys (negsuc k)) (has ys (pos (suc k))) a
      | inr b ↦ or_left (has ys (negsuc k)) (has ys (pos (suc k))) b
    ]

    at : (k : ℕ) → k < length bits → has_value ys (pos (suc k)) ≡ true
    at k lt =
        let P : ℕ → Type 0 = λ m. has_value ys (pos m) ≡ true in
        let e : 1 + k ≡ suc k = omega arith in
        subst P e (grows (pos (1 + k)) (valued-from 1 k bits lt))

    by : (l : ℤ) → 0 < nat_abs l → nat_abs l ≤ length bits → has_value ys l ≡ true
    by (pos zero) z le = absurd (omega arith)
    by (pos (suc k)) z le = at k (omega arith)
    by (negsuc k) z le = swapped k (at k (omega arith))

pub all-decided : (clauses : List (List ℤ)) (n : ℕ) → ((k : ℕ) → k < length clauses → AreLiterals (get_or clauses k [])) → ((k : ℕ) → k < length clauses → (l : ℤ) → IsIn (get_or clauses k []) l → nat_abs l ≤ n)
    → AreDecided clauses n
all-decided clauses n literals small = λ bits many.
    or_right (has_false (made_true clauses bits) clauses) (list_all (λ c. list_all (has_value (made_true clauses bits)) c) clauses)
    (each (made_true clauses bits) bits many (rounds-keep (length clauses) (literals_of bits) clauses) clauses literals small)
  where
    each : (ys : List ℤ) (bits : List Bool) → length bits ≡ n → IsWithin (literals_of bits) ys → (cs : List (List ℤ)) → ((k : ℕ) → k < length cs → AreLiterals (get_or cs k []))
        → ((k : ℕ) → k < length cs → (l : ℤ) → IsIn (get_or cs k []) l → nat_abs l ≤ n) → list_all (λ c. list_all (has_value ys) c) cs ≡ true
    each ys bits many w [] lits few = refl
    each ys bits many w (c ∷ cs) lits few =
        and_true (list_all (has_value ys) c) (list_all (λ d. list_all (has_value ys) d) cs)
        (list_all-each (has_value ys) c (λ l is. literal-valued bits ys l w (not_zero c l (lits 0 (omega arith)) is) (let f = few 0 (omega arith) l is in omega arith)))
        (each ys bits many w cs (λ k lt. lits (suc k) (omega arith)) (λ k lt. few (suc k) (omega arith)))
      where
        not_zero : (xs : List ℤ) (l : ℤ) → AreLiterals xs → IsIn xs l → 0 < nat_abs l
        not_zero xs l all is = (literal_in xs l all is).not_zero
