-- Answers of literals are the rows of sums.
use Rattle.std.proofs.Common.{◌≡◌, ℕ, ◌+◌, ◌-◌, ◌*◌, ◌^◌, ◌<◌, ◌≤◌, Bool, nat_le, List, length, Some, refl, ◌∙◌, arith}
use Rattle.hp_model.specs.declared.Mode.{Mode}
use Rattle.hp_model.specs.declared.Mode.TheVariants.{Unsigned, Ones, Twos}
use Rattle.hp_model.specs.WordOperations.{sum_of}
use Rattle.jd_circuit.specs.declared.literals.Lit.{Lit}
use Rattle.jd_circuit.specs.Meaning.{lit_value}
use Rattle.jd_vectors.specs.Number.{number, bit}
use Rattle.jd_rows.specs.Answers.{overflows}
use Rattle.jd_rows.proofs.Tops.{small, at_width}
use Rattle.jd_rows.proofs.Range.{SumIs, sum_unsigned, sum_twos, sum_ones}

sum_answer : (w : ℕ) (mode : Mode) (y x s : ℕ) (k o : Bool) → SumIs w mode y x s k o → record { pattern = s; carry = Some k; range = Some o } ≡ sum_of w mode y x
sum_answer w mode y x s k o p = rw (p.pattern, p.carry, p.range) refl

pub unsigned_answer : (val : ℕ → Bool) (w : ℕ) (y x p : List Lit) (carry : Lit) → length y ≡ w → length p ≡ length y
    → number val p + 2 ^ length y * bit (lit_value val carry) ≡ number val y + number val x + 0
    → record { pattern = number val p; carry = Some (lit_value val carry); range = Some (lit_value val carry) } ≡ sum_of w Unsigned (number val y) (number val x)
unsigned_answer val w y x p carry hy hp e =
    let sum : number val p + 2 ^ w * bit (lit_value val carry) ≡ number val y + number val x = omega (arith, rw hy at e) in
    sum_answer w Unsigned _ _ _ _ _ (sum_unsigned w (number val y) (number val x) (number val p) (lit_value val carry) (small val p w (hp ∙ hy)) sum)

pub twos_answer : (val : ℕ → Bool) (w : ℕ) (y x p : List Lit) (carry range ty tx tp : Lit) → 1 ≤ w → length y ≡ w → length x ≡ w → length p ≡ length y
    → number val p + 2 ^ length y * bit (lit_value val carry) ≡ number val y + number val x + 0
    → lit_value val ty ≡ nat_le (2 ^ (length y - 1)) (number val y) → lit_value val tx ≡ nat_le (2 ^ (length x - 1)) (number val x) → lit_value val tp ≡ nat_le (2 ^ (length p - 1)) (number val p)
    → lit_value val range ≡ overflows (lit_value val ty) (lit_value val tx) (lit_value val tp)
    → record { pattern = number val p; carry = Some (lit_value val carry); range = Some (lit_value val range) } ≡ sum_of w Twos (number val y) (number val x)
twos_answer val w y x p carry range ty tx tp h hy hx hp e ey ex ep o =
    let sum : number val p + 2 ^ w * bit (lit_value val carry) ≡ number val y + number val x = omega (arith, rw hy at e) in
    rw (o, at_width (lit_value val ty) (number val y) (length y) w hy ey, at_width (lit_value val tx) (number val x) (length x) w hx ex, at_width (lit_value val tp) (number val p) (length p) w (hp ∙ hy) ep)
    (sum_answer w Twos _ _ _ _ _ (sum_twos w (number val y) (number val x) (number val p) (lit_value val carry) h (small val y w hy) (small val x w hx) (small val p w (hp ∙ hy)) sum))

pub ones_answer : (val : ℕ → Bool) (w : ℕ) (y x s zeros p : List Lit) (carry none range ty tx tp : Lit) → 1 ≤ w → length y ≡ w → length x ≡ w → length s ≡ length y → length p ≡ length s
    → number val zeros ≡ 0
    → number val s + 2 ^ length y * bit (lit_value val carry) ≡ number val y + number val x + 0
    → number val p + 2 ^ length s * bit (lit_value val none) ≡ number val s + number val zeros + bit (lit_value val carry)
    → lit_value val ty ≡ nat_le (2 ^ (length y - 1)) (number val y) → lit_value val tx ≡ nat_le (2 ^ (length x - 1)) (number val x) → lit_value val tp ≡ nat_le (2 ^ (length p - 1)) (number val p)
    → lit_value val range ≡ overflows (lit_value val ty) (lit_value val tx) (lit_value val tp)
    → record { pattern = number val p; carry = Some (lit_value val carry); range = Some (lit_value val range) } ≡ sum_of w Ones (number val y) (number val x)
ones_answer val w y x s zeros p carry none range ty tx tp h hy hx hs hp z e d ey ex ep o =
    let sum : number val s + 2 ^ w * bit (lit_value val carry) ≡ number val y + number val x = omega (arith, rw hy at e) in
    let next : number val p + 2 ^ w * bit (lit_value val none) ≡ number val s + 0 + bit (lit_value val carry) = let hw : length s ≡ w = hs ∙ hy in omega (arith, rw (hw, z) at d) in
    rw (o, at_width (lit_value val ty) (number val y) (length y) w hy ey, at_width (lit_value val tx) (number val x) (length x) w hx ex, at_width (lit_value val tp) (number val p) (length p) w (hp ∙ hs ∙ hy) ep)
    (sum_answer w Ones _ _ _ _ _ (sum_ones w (number val y) (number val x) (number val s) (number val p) (lit_value val carry) (lit_value val none) h (small val y w hy) (small val x w hx) (small val s w (hs ∙ hy)) sum (small val p w (hp ∙ hs ∙ hy)) next))
