-- So many turns are one move round the end, and the last bit that went round is the carry.
use Rattle.std.proofs.Common.{◌≡◌, ℕ, zero, suc, ◌+◌, ◌-◌, ◌*◌, ◌%◌, ◌^◌, ◌<◌, ◌≤◌, ◌==◌, Bool, true, false, cond, refl, sym, ap, ◌∙◌, arith}
use Rattle.std.proofs.lemmas.Bool.Decides.{nat_tests}
use Rattle.hp_model.specs.Words.{bit}
use Rattle.hp_model.specs.Operations as ops
use Rattle.hp_model.specs.WordOperations.{turned_times, top_bit}
use Rattle.hp_bits.proofs.Turns.{left_times, right_times, last_carry, shown_low, shown_top}
use Rattle.jd_vectors.specs.Number as numbers
use Rattle.jd_shifts.specs.Moves.{moved_round}
use Rattle.jd_turns.proofs.Places.{round_rest}

chosen : (k : ℕ) (c e : Bool) → cond (suc k == 0) c e ≡ e
chosen k c e = let z : (suc k == 0) ≡ false = grind (arith, nat_tests) in rw z refl

both : (p q : ℕ) (a b : Bool) → p ≡ q → a ≡ b → ◌≡◌ {A = ℕ × Bool} (p, a) (q, b)
both p q a b e f = rw (e, f) refl

pub left_turned : (w n y r : ℕ) (c e a : Bool) → 1 ≤ w → n ≤ w → y < 2 ^ w → r ≡ moved_round w (n % w) y → e ≡ bit r 0 → a ≡ cond (n == 0) c e
    → ◌≡◌ {A = ℕ × Bool} (r, a) (turned_times n ops.left w y c)
left_turned w zero y r c e a some inside small er ee ea =
    both _ _ _ _ (er ∙ round_rest w 0 y some inside small ∙ sym (left_times w 0 y c some inside small)) ea
left_turned w (suc k) y r c e a some inside small er ee ea =
    let word : r ≡ (turned_times (suc k) ops.left w y c).0 = er ∙ round_rest w (suc k) y some inside small ∙ sym (left_times w (suc k) y c some inside small) in
    both _ _ _ _ word (ea ∙ chosen k c e ∙ ee ∙ ap (λ v. bit v 0) word ∙ sym (last_carry ops.left w (λ v. bit v 0) some (λ x c h. shown_low w x c some) k y c small))

pub right_turned : (w n by y r : ℕ) (c e a : Bool) → 1 ≤ w → n ≤ w → y < 2 ^ w → by ≡ w - n → r ≡ moved_round w (by % w) y → e ≡ bit r (w - 1) → a ≡ cond (n == 0) c e
    → ◌≡◌ {A = ℕ × Bool} (r, a) (turned_times n ops.right w y c)
right_turned w n by y r c e a some inside small eb er ee ea =
    let word : r ≡ (turned_times n ops.right w y c).0 =
    er ∙ ap (λ k. moved_round w (k % w) y) eb ∙ round_rest w (w - n) y some (omega arith) small ∙ sym (right_times w n y c some inside small) in
    both _ _ _ _ word (ea ∙ carry n word)
  where
    carry : (n : ℕ) → r ≡ (turned_times n ops.right w y c).0 → cond (n == 0) c e ≡ (turned_times n ops.right w y c).1
    carry zero word = refl
    carry (suc k) word = chosen k c e ∙ ee ∙ ap (λ v. top_bit w v) word ∙ sym (last_carry ops.right w (top_bit w) some (λ x c h. shown_top w x c some h) k y c small)

pub back_is : (w m by other : ℕ) (out : Bool) → w ≤ 64 → m ≤ w → by + 2 ^ 8 * numbers.bit out ≡ w + other + 1 → other + m + 1 ≡ 2 ^ 8 → by < 2 ^ 8 → by ≡ w - m
back_is w m by other true few inside e h small = omega arith
back_is w m by other false few inside e h small = omega arith
