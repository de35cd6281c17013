-- Decimal digits by their places in the text.
use Rattle.std.proofs.Common.{◌≡◌, ℕ, zero, suc, ◌+◌, ◌-◌, ◌*◌, ◌/◌, ◌%◌, ◌^◌, ◌<◌, ◌≤◌, nat_lt, List, [], ◌∷◌, ◌++◌, length, get_or, arith, refl, sym, ap, ◌∙◌, lit≤, decimal, length-append, ◌⊎◌, inl, inr, Bool, true, false}
use Rattle.std.proofs.Math.Nat.{pow-suc, div-div-eq-div-mul, div-one, one-le-pow, div-eq_of_lt}
use Rattle.std.proofs.lemmas.Fmt.{decimal_step, decimal_digit, decimal_nonempty}
use Rattle.std.proofs.lemmas.List.{get_or_at, get_or_append_left}
use Rattle.std.proofs.lemmas.Bool.Decides.{nat_tests}
use Rattle.hp_model.specs.Display.{has_digit, place_text}

divided : (n k : ℕ) → n / 10 / 10 ^ k ≡ n / 10 ^ suc k
divided n k = div-div-eq-div-mul n 10 (10 ^ k) ∙ ap (λ p. n / p) (let e : 10 * 10 ^ k ≡ 10 ^ k * 10 = omega arith in e ∙ sym (pow-suc 10 k))

last_of : (xs : List ℕ) (y : ℕ) → get_or (xs ++ y ∷ []) (length (xs ++ y ∷ []) - 1) 0 ≡ y
last_of xs y = get_or_at xs y [] 0 (length (xs ++ y ∷ []) - 1) (simp length-append (omega arith))

last_place : (xs : List ℕ) (y : ℕ) → get_or (xs ++ y ∷ []) (length (xs ++ y ∷ []) - 1 - 0) 0 ≡ y
last_place xs y = let same : length (xs ++ y ∷ []) - 1 - 0 ≡ length (xs ++ y ∷ []) - 1 = omega arith in rw same (last_of xs y)

before_last : (xs : List ℕ) (y k : ℕ) → k < length xs → get_or (xs ++ y ∷ []) (length (xs ++ y ∷ []) - 1 - suc k) 0 ≡ get_or xs (length xs - 1 - k) 0
before_last xs y k h =
    let place : length (xs ++ y ∷ []) - 1 - suc k ≡ length xs - 1 - k = simp length-append (omega arith) in
    rw place (get_or_append_left xs (y ∷ []) 0 (length xs - 1 - k) (omega arith))

order : (n : ℕ) → (n < 10) ⊎ (10 ≤ n)
order n = by_test (nat_lt n 10) refl
  where
    by_test : (t : Bool) → nat_lt n 10 ≡ t → (n < 10) ⊎ (10 ≤ n)
    by_test true e = inl (grind (arith, nat_tests))
    by_test false e = inr (grind (arith, nat_tests))

shorter : (n : ℕ) → 10 ≤ n → n < 2 ^ 64 → length (decimal n) ≡ length (decimal (n / 10)) + 1
shorter n large small = ap length (decimal_step n large small) ∙ length-append (decimal (n / 10)) ((48 + n % 10) ∷ [])

single : (n : ℕ) → n < 10 → length (decimal n) ≡ 1
single n h = ap length (decimal_digit n h)

pub digit_at : (place n : ℕ) → n < 2 ^ 64 → place < length (decimal n) → get_or (decimal n) (length (decimal n) - 1 - place) 0 ≡ 48 + n / 10 ^ place % 10
digit_at zero n small inside = elim (order n) [
  | inl one ↦ rw (decimal_digit n one) (omega (arith, div-one n))
  | inr more ↦ rw (decimal_step n more small) (last_place (decimal (n / 10)) (48 + n % 10) ∙ rw div-one refl)
]
digit_at (suc k) n small inside = elim (order n) [
  | inl one ↦ absurd (omega (arith, single n one))
  | inr more ↦
      let next : k < length (decimal (n / 10)) = omega (arith, shorter n more small) in
      rw (decimal_step n more small) (before_last (decimal (n / 10)) (48 + n % 10) k next ∙ digit_at k (n / 10) (omega arith) next ∙ ap (λ m. 48 + m % 10) (divided n k))
]

some_above : (place n : ℕ) → n < 2 ^ 64 → place < length (decimal n) → 0 < place → 0 < n / 10 ^ place
some_above zero n small inside some = absurd (omega arith)
some_above (suc zero) n small inside some = elim (order n) [
  | inl one ↦ absurd (omega (arith, single n one))
  | inr more ↦ omega arith
]
some_above (suc (suc k)) n small inside some = elim (order n) [
  | inl one ↦ absurd (omega (arith, single n one))
  | inr more ↦ rw (← divided n (suc k)) (some_above (suc k) (n / 10) (omega arith) (omega (arith, shorter n more small)) (omega arith))
]

within : (place n : ℕ) → n < 2 ^ 64 → 0 < n / 10 ^ place → place < length (decimal n)
within zero n small some = decimal_nonempty n small
within (suc k) n small some = elim (order n) [
  | inl one ↦
      let bound : 10 ^ suc k ≡ 10 ^ k * 10 = pow-suc 10 k in
      let least = one-le-pow k 10 (lit≤ tt) in
      let below : n < 10 ^ suc k = omega arith in
      absurd (omega (arith, div-eq_of_lt below))
  | inr more ↦ omega (arith, shorter n more small, within k (n / 10) (omega arith) (rw (divided n k) some))
]

pub has_place : (place n : ℕ) → n < 2 ^ 64 → nat_lt place (length (decimal n)) ≡ has_digit 10 0 n place
has_place place n small =
    let one = some_above place n small in
    let two = within place n small in
    let three = decimal_nonempty n small in
    grind (arith, nat_tests, one, two, three)

pub place_is : (place n : ℕ) → n < 2 ^ 64 → place < length (decimal n) → place_text 10 0 n place ≡ get_or (decimal n) (length (decimal n) - 1 - place) 0 ∷ []
place_is place n small inside =
    let has : has_digit 10 0 n place ≡ true = sym (has_place place n small) ∙ grind (arith, nat_tests) in
    let low : nat_lt (n / 10 ^ place % 10) 10 ≡ true = grind (arith, nat_tests) in
    rw (has, low, digit_at place n small inside) refl

pub no_place : (place n : ℕ) → n < 2 ^ 64 → length (decimal n) ≤ place → place_text 10 0 n place ≡ []
no_place place n small past =
    let none : has_digit 10 0 n place ≡ false = sym (has_place place n small) ∙ grind (arith, nat_tests) in
    rw none refl

pub is_ascii : (place n : ℕ) → n < 2 ^ 64 → place < length (decimal n) → get_or (decimal n) (length (decimal n) - 1 - place) 0 < 128
is_ascii place n small inside = rw (digit_at place n small inside) (omega arith)
