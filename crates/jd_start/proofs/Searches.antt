-- A search through a list, one element more.
use Rattle.std.proofs.Common.{◌≡◌, ℕ, ◌+◌, ◌<◌, ◌≤◌, Bool, true, false, not, cond, List, length, get_or, drop, ap, ◌∙◌, arith}
use Rattle.std.specs.Prelude.{Some, None, nat_lt}
use Rattle.std.specs.List.{position, position_or_len}
use Rattle.std.proofs.lemmas.Bool.Decides.{nat_tests}
use Rattle.std.proofs.lemmas.List.{drop_more, drop_all}

module _ {A : Type 0} (test : A → Bool) (xs : List A) (i : ℕ) where
  -- the elements before place i fail the test
  abbrev pub FailBefore : Type 0
  FailBefore = position_or_len test xs ≡ i + position_or_len test (drop i xs)

  at-place : position_or_len test xs ≡ i → (inside : Bool) → nat_lt i (length xs) ≡ inside → position test xs ≡ cond inside (Some i) None
  at-place at inside is = ap (λ k. cond (nat_lt k (length xs)) (Some k) None) at ∙ ap (λ b. cond b (Some i) None) is

  module _ (before : FailBefore) where
    next : (d : A) → i < length xs → (passes : Bool) → test (get_or xs i d) ≡ passes
        → position_or_len test xs ≡ i + cond (not passes) (1 + position_or_len test (drop (i + 1) xs)) 0
    next d inside passes is =
        before ∙ ap (λ ys. i + position_or_len test ys) (drop_more xs i d inside)
        ∙ ap (λ b. i + cond (not b) (1 + position_or_len test (drop (i + 1) xs)) 0) is

    pub found-here : (d : A) → i < length xs → test (get_or xs i d) ≡ true → position test xs ≡ Some i
    found-here d inside passes = at-place (omega (arith, next d inside true passes)) true (grind (arith, nat_tests))

    pub found-later : (d : A) → i < length xs → test (get_or xs i d) ≡ false → position_or_len test xs ≡ i + 1 + position_or_len test (drop (i + 1) xs)
    found-later d inside fails = omega (arith, next d inside false fails)

    pub found-none : length xs ≤ i → position test xs ≡ None
    found-none past =
        let end = ap (position_or_len test) (drop_all i xs past) in
        at-place (omega (arith, before, end)) false (grind (arith, nat_tests))
