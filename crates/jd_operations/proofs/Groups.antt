-- What groups of operations answer and put is what the operations do, where the answers so far were no.
use Rattle.std.proofs.Common.{◌≡◌, ℕ, zero, suc, ◌-◌, ◌*◌, ◌%◌, ◌^◌, ◌<◌, ◌≤◌, ◌==◌, ◌||◌, Bool, true, false, nat_le, nat_lt, List, [], ◌∷◌, set, get_or, Some, None, refl, sym, ap, ◌∙◌, subst, arith}
use Rattle.std.proofs.lemmas.Bool.Decides.{nat_tests}
use Rattle.std.proofs.Math.Nat.{mod-eq_of_lt}
use Rattle.std.specs.Prelude.{if◌then◌else◌}
use Rattle.hp_model.specs.declared.Answer.{Answer}
use Rattle.hp_model.specs.declared.Mode.{Mode}
use Rattle.hp_model.specs.Operations as ops
use Rattle.hp_model.specs.Operations.{Rotation as Way}
use Rattle.hp_model.specs.State.{Control, Data, carry, with_flag}
use Rattle.hp_model.specs.Questions.{answers, x_magnitude}
use Rattle.hp_model.specs.ControlStep.{answer_at, error_of}
use Rattle.hp_model.specs.DataStep.{changed, of_two, saved}
use Rattle.hp_model.specs.WordOperations.{binary_length, carrying, left_shifts, rotated_times_of, turned_times}
use Rattle.hp_bits.proofs.Lengths.{below_power}
use Rattle.hp_ops.specs.Meaning.{of_arithmetic, of_bits, of_logic, of_loop}
use Rattle.hp_ops.specs.declared.groups.Arithmetic.{Arithmetic}
use Rattle.hp_ops.specs.declared.groups.Arithmetic.TheVariants as arithmetic
use Rattle.hp_ops.specs.declared.groups.Bits.{Bits}
use Rattle.hp_ops.specs.declared.groups.Bits.TheVariants as bits
use Rattle.hp_ops.specs.declared.groups.Logic.{Logic}
use Rattle.hp_ops.specs.declared.groups.Logic.TheVariants as logic
use Rattle.hp_ops.specs.declared.groups.Loop.{Loop}
use Rattle.hp_ops.specs.declared.groups.Loop.TheVariants as loop
use Rattle.jd_content.proofs.Told.{either, not_erring}
use Rattle.jd_comparisons.specs.Counts.{counted}
use Rattle.jd_operations.specs.Answers.{HasDivisor, HasPlace, arithmetic_of, bits_of, logic_of, put_arithmetic, put_bits, put_logic}

-- ---- arithmetic

pub arithmetic_is : (op : Arithmetic) (k : Control) (given : List Bool) (d : Data) → put_arithmetic op (arithmetic_of op k.size k.mode d.y d.x) d ≡ changed k (of_arithmetic op) given d
arithmetic_is arithmetic.Add k given d = refl
arithmetic_is arithmetic.Subtract k given d = refl
arithmetic_is arithmetic.Multiply k given d = refl
arithmetic_is arithmetic.Divide k given d = refl
arithmetic_is arithmetic.Remainder k given d = refl
arithmetic_is arithmetic.ChangeSign k given d = refl
arithmetic_is arithmetic.Absolute k given d = refl
arithmetic_is arithmetic.SquareRoot k given d = refl

above_zero : (m : ℕ) → (m == 0) ≡ false → 0 < m
above_zero m e = grind (arith, nat_tests)

pub has_divisor : (op : Arithmetic) (k : Control) (given : List Bool) (d : Data) → error_of k (of_arithmetic op) given ≡ None → answers k (of_arithmetic op) d ≡ given
    → HasDivisor op k.size k.mode d.x
has_divisor arithmetic.Divide k given d none e = above_zero (x_magnitude k d) (ap (answer_at 0) e ∙ not_erring 0 _ none)
has_divisor arithmetic.Remainder k given d none e = above_zero (x_magnitude k d) (ap (answer_at 0) e ∙ not_erring 0 _ none)
has_divisor arithmetic.Add k given d none e = tt
has_divisor arithmetic.Subtract k given d none e = tt
has_divisor arithmetic.Multiply k given d none e = tt
has_divisor arithmetic.ChangeSign k given d none e = tt
has_divisor arithmetic.Absolute k given d none e = tt
has_divisor arithmetic.SquareRoot k given d none e = tt

-- told at the word's number of literals, and at its size
pub arithmetic_at : (op : Arithmetic) (v w : ℕ) (mode : Mode) (y x : ℕ) (a : Answer) → v ≡ w → (HasDivisor op v mode x → a ≡ arithmetic_of op v mode y x)
    → HasDivisor op w mode x → a ≡ arithmetic_of op w mode y x
arithmetic_at op v w mode y x a e means = subst (λ u. HasDivisor op u mode x → a ≡ arithmetic_of op u mode y x) e means

-- the divisor of a double word, where neither answer was yes
pub double_divisor : (k : Control) (m : ℕ) (given : List Bool) (rest : List Bool) → (answer_at 0 given || answer_at 1 given) ≡ false → ((m == 0) ∷ rest) ≡ given → 0 < m
double_divisor k m given rest none e = above_zero m (ap (answer_at 0) e ∙ (either (answer_at 0 given) (answer_at 1 given) none).0)

-- ---- masks, the count of ones, and single bits of Y

pub bits_is : (op : Bits) (k : Control) (given : List Bool) (d : Data) → put_bits op (bits_of op k.size k.mode d.y d.x) d ≡ changed k (of_bits op) given d
bits_is bits.MaskLeft k given d = refl
bits_is bits.MaskRight k given d = refl
bits_is bits.CountOnes k given d = refl
bits_is bits.Set k given d = refl
bits_is bits.Clear k given d = refl
bits_is bits.Test k given d = refl

at_most : (w m : ℕ) → nat_lt w m ≡ false → m ≤ w
at_most w m e = grind (arith, nat_tests)

under : (w m : ℕ) → nat_le w m ≡ false → m < w
under w m e = grind (arith, nat_tests)

pub has_place : (op : Bits) (k : Control) (given : List Bool) (d : Data) → error_of k (of_bits op) given ≡ None → answers k (of_bits op) d ≡ given → HasPlace op k.size k.mode d.x
has_place bits.MaskLeft k given d none e = at_most k.size (x_magnitude k d) (ap (answer_at 0) e ∙ not_erring 2 _ none)
has_place bits.MaskRight k given d none e = at_most k.size (x_magnitude k d) (ap (answer_at 0) e ∙ not_erring 2 _ none)
has_place bits.CountOnes k given d none e = tt
has_place bits.Set k given d none e = under k.size (x_magnitude k d) (ap (answer_at 0) e ∙ not_erring 2 _ none)
has_place bits.Clear k given d none e = under k.size (x_magnitude k d) (ap (answer_at 0) e ∙ not_erring 2 _ none)
has_place bits.Test k given d none e = tt

pub bits_at : (op : Bits) (v w : ℕ) (mode : Mode) (y x : ℕ) (a : Answer) → v ≡ w → (HasPlace op v mode x → a ≡ bits_of op v mode y x)
    → HasPlace op w mode x → a ≡ bits_of op w mode y x
bits_at op v w mode y x a e means = subst (λ u. HasPlace op u mode x → a ≡ bits_of op u mode y x) e means

-- so many places are no more than the word has bits
pub places_few : (way : Way) (k : Control) (given : List Bool) (d : Data) → error_of k (ops.rotate_many way) given ≡ None → answers k (ops.rotate_many way) d ≡ given → x_magnitude k d ≤ k.size
places_few way k given d none e = at_most k.size (x_magnitude k d) (ap (answer_at 0) e ∙ not_erring 2 _ none)

-- ---- logic

pub logic_is : (op : Logic) (k : Control) (given : List Bool) (d : Data) → put_logic op (logic_of op k.size d.y d.x) d ≡ changed k (of_logic op) given d
logic_is logic.Not k given d = refl
logic_is logic.And k given d = refl
logic_is logic.Or k given d = refl
logic_is logic.Xor k given d = refl

-- ---- rotations

set_same : (flags : List Bool) (n : ℕ) → set flags n (get_or flags n false) ≡ flags
set_same [] n = refl
set_same (b ∷ flags) zero = refl
set_same (b ∷ flags) (suc n) = ap (λ fs. b ∷ fs) (set_same flags n)

not_none : (n : ℕ) → (suc n == 0) ≡ false
not_none n = grind (arith, nat_tests)

-- the carry after no place is the carry before
pub many_is : (way : Way) (k : Control) (n : ℕ) (d : Data)
    → of_two (carrying (turned_times n way k.size d.y (carry d)).0 (turned_times n way k.size d.y (carry d)).1) d
    ≡ of_two (rotated_times_of way k.size n d.y (carry d)) d
many_is way k zero d = ap (λ (fs : List Bool). record d { x = d.y; y = d.z; z = d.t; last = d.x; flags = fs }) (set_same d.flags 4)
many_is way k (suc n) d =
    let t = turned_times (suc n) way k.size d.y (carry d) in
    ap (λ (b : Bool). of_two (record { pattern = t.0; carry = if b then None else Some t.1; range = None }) d) (sym (not_none n))

-- ---- left justification

pub justified_is : (k : Control) (given : List Bool) (d : Data) (n p : ℕ) → n ≡ left_shifts k.size d.x → p ≡ d.x * 2 ^ left_shifts k.size d.x
    → record d { x = n; y = p; z = d.y; t = d.z; last = d.x } ≡ changed k ops.left_justify given d
justified_is k given d n p e f = rw (e, f) refl

-- ---- the double product

pub multiplied_is : (p : ℕ × ℕ) (u l : ℕ) (d : Data) (fs : List Bool) → (u, l) ≡ p → fs ≡ set d.flags 5 false
    → record d { x = u; y = l; last = d.x; flags = fs } ≡ with_flag 5 false (record (saved d) { x = p.0; y = p.1 })
multiplied_is p u l d fs e f = ap (λ (q : ℕ × ℕ). record d { x = q.0; y = q.1; last = d.x; flags = fs }) e ∙ ap (λ (gs : List Bool). record d { x = p.0; y = p.1; last = d.x; flags = gs }) f

-- ---- counting

pub counted_is : (op : Loop) (k : Control) (given : List Bool) (d : Data) (n : ℕ) → n ≡ counted op k.size k.mode (d.index % 2 ^ k.size) → record d { index = n } ≡ changed k (of_loop op) given d
counted_is loop.Decrement k given d n e = ap (λ (m : ℕ). record d { index = m }) e
counted_is loop.Increment k given d n e = ap (λ (m : ℕ). record d { index = m }) e

-- ---- counts that fit their words

at_most_word : (w b : ℕ) (t : Bool) → (if t then 0 else w - b) ≤ w
at_most_word w b true = omega arith
at_most_word w b false = omega arith

pub shifts_kept : (v w x : ℕ) → v ≡ w → left_shifts v x % 2 ^ w ≡ left_shifts w x
shifts_kept v w x e = ap (λ u. left_shifts u x % 2 ^ w) e ∙ mod-eq_of_lt (omega (arith, at_most_word w (binary_length w x) (x == 0), below_power w))

-- ---- so many turns

-- the answer of so many turns, told at the word's number of literals, where places spell the count
pub turned_answer : (way : Way) (v w n m y p : ℕ) (before before_too after : Bool) → v ≡ w → n ≡ m → before ≡ before_too → (p, after) ≡ turned_times n way v y before
    → carrying p after ≡ carrying (turned_times m way w y before_too).0 (turned_times m way w y before_too).1
turned_answer way v w n m y p before before_too after e f b t =
    ap (λ (r : ℕ × Bool). carrying r.0 r.1) (rw (sym e, sym f, sym b) t)
