-- Questions on the bits of a number, in order.
use Rattle.std.proofs.Common.{◌≡◌, ℕ, zero, suc, ◌-◌, ◌<◌, ◌≤◌, ◌&&◌, nat_lt, Bool, true, false, List, [], ◌∷◌, ◌++◌, length, map, take, drop, Some, None, refl, sym, ap, ◌∙◌, arith}
use Rattle.std.specs.Prelude.{if◌then◌else◌, slice_get, get_or}
use Rattle.std.specs.declared.option.Option.{Option}
use Rattle.std.proofs.lemmas.List.{length-drop}
use Rattle.std.proofs.Math.Seq.{take-length}
use Rattle.std.proofs.lemmas.Bool.Decides.{nat_tests}
use Rattle.hp_model.specs.Questions.{Question, means_error, next_question, numbers_below}
use Rattle.hp_model.proofs.Bits.{length-numbers_below}

get_before : (xs : List ℕ) (y k : ℕ) → k < length xs → slice_get (xs ++ y ∷ []) k ≡ slice_get xs k
get_before [] y k h = absurd (omega arith)
get_before (x ∷ xs) y zero h = refl
get_before (x ∷ xs) y (suc k) h = get_before xs y k (omega arith)

get_last : (xs : List ℕ) (y : ℕ) → slice_get (xs ++ y ∷ []) (length xs) ≡ Some y
get_last [] y = refl
get_last (x ∷ xs) y = get_last xs y

-- below n + 1: below n, or n itself
number_from : (n k : ℕ) (t : Bool) → nat_lt k n ≡ t → k < suc n → (k < n → slice_get (numbers_below n) k ≡ Some k) → slice_get (numbers_below n ++ n ∷ []) k ≡ Some k
number_from n k true e h earlier =
    let before : k < n = grind (arith, nat_tests) in
    get_before (numbers_below n) n k (omega (arith, length-numbers_below n)) ∙ earlier before
number_from n k false e h earlier =
    let here : n ≡ k = grind (arith, nat_tests) in
    let at : length (numbers_below n) ≡ k = length-numbers_below n ∙ here in
    ap (slice_get (numbers_below n ++ n ∷ [])) (sym at) ∙ get_last (numbers_below n) n ∙ ap (λ (m : ℕ). Some m) here

number_at : (n k : ℕ) → k < n → slice_get (numbers_below n) k ≡ Some k
number_at zero k h = absurd (omega arith)
number_at (suc n) k h = number_from n k (nat_lt k n) refl h (λ before. number_at n k before)

-- questions that mean no error are asked in order
in_order : (bit : ℕ → Question) → ((k : ℕ) → means_error (bit k) ≡ false) → (ks : List ℕ) (given : List Bool) (k : ℕ) → slice_get ks (length given) ≡ Some k
    → next_question (map bit ks) given ≡ Some (bit k)
in_order bit plain [] given k e = cc
in_order bit plain (j ∷ ks) [] k e = same e
  where
    same : Some j ≡ Some k → Some (bit j) ≡ Some (bit k)
    same f = ap (λ (o : Option ℕ). elim o [ None ↦ None | Some m ↦ Some (bit m) ]) f
in_order bit plain (j ∷ ks) (a ∷ given) k e = rw (plain j) (in_order bit plain ks given k e)

in_order_past : (bit : ℕ → Question) → ((k : ℕ) → means_error (bit k) ≡ false) → (ks : List ℕ) (given : List Bool) → length ks ≤ length given → next_question (map bit ks) given ≡ None
in_order_past bit plain [] given h = refl
in_order_past bit plain (j ∷ ks) [] h = absurd (omega arith)
in_order_past bit plain (j ∷ ks) (a ∷ given) h = rw (plain j) (in_order_past bit plain ks given (omega arith))

-- after fewer bits than there are, the next one is asked, and then nothing
pub next_bit : (bit : ℕ → Question) → ((k : ℕ) → means_error (bit k) ≡ false) → (n : ℕ) (given : List Bool) → length given < n
    → next_question (map bit (numbers_below n)) given ≡ Some (bit (length given))
next_bit bit plain n given h = in_order bit plain (numbers_below n) given (length given) (number_at n (length given) h)

pub no_bit : (bit : ℕ → Question) → ((k : ℕ) → means_error (bit k) ≡ false) → (n : ℕ) (given : List Bool) → n ≤ length given → next_question (map bit (numbers_below n)) given ≡ None
no_bit bit plain n given h = in_order_past bit plain (numbers_below n) given (omega (arith, length-numbers_below n))

-- answers that begin with one
pub headed : (given : List Bool) (b : Bool) (d : Bool) → 1 ≤ length given → get_or given 0 d ≡ b → given ≡ b ∷ drop 1 given
headed [] b d h e = absurd (omega arith)
headed (x ∷ given) b d h e = ap (λ y. y ∷ given) e

-- ---- the first questions

pub first_asked : (q : Question) (qs : List Question) (given : List Bool) → length given < 1 → next_question (q ∷ qs) given ≡ Some q
first_asked q qs [] h = refl
first_asked q qs (b ∷ given) h = absurd (omega arith)

either_way : (t : Bool) (q : Option Question) → (if t then q else q) ≡ q
either_way true q = refl
either_way false q = refl

pub alone_done : (q : Question) (given : List Bool) → 1 ≤ length given → next_question (q ∷ []) given ≡ None
alone_done q [] h = absurd (omega arith)
alone_done q (b ∷ given) h = either_way (means_error q && b) None

-- a yes that means an error ends the questions
pub erring_done : (q : Question) (qs : List Question) (given : List Bool) (d : Bool) → means_error q ≡ true → 1 ≤ length given → get_or given 0 d ≡ true → next_question (q ∷ qs) given ≡ None
erring_done q qs [] d e h f = absurd (omega arith)
erring_done q qs (b ∷ given) d e h f = rw (e, f) refl

-- and after a no the others are asked
pub going_on : (q : Question) (qs : List Question) (given : List Bool) (d : Bool) → means_error q ≡ true → 1 ≤ length given → get_or given 0 d ≡ false
    → next_question (q ∷ qs) given ≡ next_question qs (drop 1 given)
going_on q qs [] d e h f = absurd (omega arith)
going_on q qs (b ∷ given) d e h f = rw (e, f) refl

-- the answers after the first, as a part of the slice
pub after_first : (given : List Bool) → take (length given - 1) (drop 1 given) ≡ drop 1 given
after_first given = ap (λ n. take n (drop 1 given)) (sym (length-drop 1 given)) ∙ take-length (drop 1 given)
