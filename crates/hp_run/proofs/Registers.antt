-- A register whose nibbles stay reads as before.
use Rattle.std.proofs.Common.{◌≡◌, ℕ, zero, suc, ◌+◌, ◌*◌, ◌%◌, ◌^◌, ◌<◌, List, slice_index, true, arith, refl, ap}
use Rattle.std.proofs.lemmas.Bool.Decides.{nat_tests}
use Rattle.hp_model.specs.State.{width}
use Rattle.hp_model.specs.Memory.{nibble_sum, register_value, is_of_register}

same_sum : (f g : ℕ → ℕ) (k : ℕ) → ((j : ℕ) → j < k → f j ≡ g j) → nibble_sum f k ≡ nibble_sum g k
same_sum f g zero h = refl
same_sum f g (suc k) h =
    let here : f k ≡ g k = h k (omega arith) in
    let before = same_sum f g k (λ j below. h j (omega (arith, below))) in
    rw (here, before) refl

pub kept_register : (w r : ℕ) (old new : List ℕ) → ((j : ℕ) → is_of_register w r j ≡ true → slice_index new j ≡ slice_index old j)
    → register_value w new r ≡ register_value w old r
kept_register w r old new h =
    ap (λ n. n % 2 ^ w) (same_sum (λ j. slice_index new (width w * r + j)) (λ j. slice_index old (width w * r + j)) (width w)
    (λ j below. h (width w * r + j) (grind (arith, nat_tests, below))))
