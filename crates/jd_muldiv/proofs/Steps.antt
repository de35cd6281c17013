-- One step of a product, a quotient and a root, as numbers.
use Rattle.std.proofs.Common.{◌≡◌, ℕ, zero, suc, ◌+◌, ◌*◌, ◌/◌, ◌%◌, ◌<◌, ◌≤◌, Bool, true, false, not, ◌&&◌, cond, nat_le, nat_lt, min, refl, sym, ap, subst, ◌∙◌, arith}
use Rattle.std.proofs.lemmas.Bool.Decides.{nat_tests}
use Rattle.std.proofs.lemmas.Nat.{mod-mul-add, div-mul-add}
use Rattle.std.proofs.Math.Nat.{mul-le-mul}
use Rattle.jd_vectors.specs.Number.{bit}
use Rattle.jd_vectors.proofs.Numbers.{bit-small}
use Rattle.jd_muldiv.specs.Steps.{GoesOn, Taken, Rooted}

-- ---- taking away: P is 2 ^ the length of the other number

fits : (P L N S B t : ℕ) (top carry : Bool) → L + P * bit top ≡ S → N + B + 1 ≡ P → t + P * bit carry ≡ L + N + 1 → L < P → t < P → S < B + P
    → Taken S B (not (not top && not carry) && true) (cond (not (not top && not carry) && true) t L)
fits P L N S B t true true e n h l s r = absurd (omega arith)
fits P L N S B t true false e n h l s r = record { where_it_fits = grind (arith, nat_tests); sum = omega arith }
fits P L N S B t false true e n h l s r = record { where_it_fits = grind (arith, nat_tests); sum = omega arith }
fits P L N S B t false false e n h l s r = record { where_it_fits = grind (arith, nat_tests); sum = omega arith }

stays : (P L S W t : ℕ) (top carry : Bool) → L + P * bit top ≡ S → P ≤ W → S < P
    → Taken S W (not (not top && not carry) && false) (cond (not (not top && not carry) && false) t L)
stays P L S W t true carry e m r = absurd (omega arith)
stays P L S W t false true e m r = record { where_it_fits = grind (arith, nat_tests); sum = omega arith }
stays P L S W t false false e m r = record { where_it_fits = grind (arith, nat_tests); sum = omega arith }

pub taken : (P L N S B W t : ℕ) (top carry above : Bool) → L + P * bit top ≡ S → N + B + 1 ≡ P → t + P * bit carry ≡ L + N + 1 → L < P → t < P → GoesOn B P above S W
    → Taken S W (not (not top && not carry) && not above) (cond (not (not top && not carry) && not above) t L)
taken P L N S B W t top carry true e n h l s g = stays P L S W t top carry e (g.more refl) (g.less refl)
taken P L N S B W t top carry false e n h l s g =
    let whole : B ≡ W = sym (g.same refl) in
    subst (λ w. Taken S w (not (not top && not carry) && true) (cond (not (not top && not carry) && true) t L)) whole
    (fits P L N S B t top carry e n h l s (rw whole (g.room refl)))

-- a number that is known whole
pub ends : (part P from : ℕ) → from < part + P → GoesOn part P false from part
ends part P from h = record {
  same = λ e. refl;
  room = λ e. h;
  more = λ e. cc;
  less = λ e. cc;
}

-- what was read of a divisor B of which D stands above P
pub going : (B part P D R from d : ℕ) (above : Bool) → above ≡ nat_lt 0 D → B ≡ part + P * D → from ≡ d + 2 * R → d ≤ 1 → R < B → part < P → (0 < D → from < P)
    → GoesOn part P above from B
going B part P zero R from d above e whole is one less small few =
    let whole_part : B ≡ part = omega (arith, whole) in
    let off : above ≡ false = grind (arith, nat_tests, e) in
    record {
      same = λ h. whole_part;
      room = λ h. omega (arith, whole_part);
      more = λ h. cc;
      less = λ h. cc;
    }
going B part P (suc D) R from d above e whole is one less small few =
    let on : above ≡ true = grind (arith, nat_tests, e) in
    record {
      same = λ h. cc;
      room = λ h. cc;
      more = λ h. omega (arith, whole);
      less = λ h. few (omega arith);
    }

-- ---- a quotient: A are the literals that were read, of which d is the next

pub record Divided (A B Q R : ℕ) : Type 0 where
  pub sum : Q * B + R ≡ A
  pub less : R < B

small_rest : (S B R : ℕ) (f : Bool) → S < B + B → Taken S B f R → R < B
small_rest S B R true h t = omega (arith, t.sum)
small_rest S B R false h t = let e : nat_le B S ≡ false = sym t.where_it_fits in grind (arith, nat_tests, t.sum, e)

pub divided : (A B Q R R' : ℕ) (d f : Bool) → Divided A B Q R → Taken (bit d + 2 * R) B f R' → Divided (bit d + 2 * A) B (bit f + 2 * Q) R'
divided A B Q R R' d f i t =
    let one : bit d ≤ 1 = bit-small d in
    record { sum = omega (arith, ap (λ n. 2 * n) i.sum, t.sum); less = small_rest (bit d + 2 * R) B R' f (omega (arith, i.less)) t }

pub quotient : (A B Q R : ℕ) → Divided A B Q R → (Q ≡ A / B) × (R ≡ A % B)
quotient A B Q R i = (sym (ap (λ n. n / B) (sym i.sum) ∙ div-mul-add Q B R i.less), sym (ap (λ n. n % B) (sym i.sum) ∙ mod-mul-add Q B R i.less))

-- ---- a root: two literals more

rooted_by : (A r R S R' : ℕ) (f : Bool) → Rooted A r R → S ≤ 3 + 4 * R → 4 * R ≤ S → Taken S (1 + 2 * (0 + 2 * r)) f R' → Rooted (S + 4 * (r * r)) (bit f + 2 * r) R'
rooted_by A r R S R' true i high low t = record { sum = omega (arith, t.sum); greatest = omega (arith, t.sum, i.greatest) }
rooted_by A r R S R' false i high low t =
    let e : nat_le (1 + 2 * (0 + 2 * r)) S ≡ false = sym t.where_it_fits in
    record { sum = omega (arith, t.sum); greatest = grind (arith, nat_tests, t.sum, e) }

pub rooted : (A r R R' : ℕ) (low high f : Bool) → Rooted A r R → Taken (bit low + 2 * (bit high + 2 * R)) (1 + 2 * (0 + 2 * r)) f R'
    → Rooted (bit low + 2 * (bit high + 2 * A)) (bit f + 2 * r) R'
rooted A r R R' low high f i t =
    let S = bit low + 2 * (bit high + 2 * R) in
    let l : bit low ≤ 1 = bit-small low in
    let h : bit high ≤ 1 = bit-small high in
    let j = rooted_by A r R S R' f i (omega arith) (omega arith) t in
    record { sum = omega (arith, j.sum, ap (λ n. 4 * n) i.sum); greatest = j.greatest }

-- what is left is small enough to be taken from
pub root_room : (r R P : ℕ) (low high : Bool) → R ≤ 2 * r → r < P → bit low + 2 * (bit high + 2 * R) < 1 + 2 * (0 + 2 * r) + 4 * P
root_room r R P low high h s =
    let l : bit low ≤ 1 = bit-small low in
    let h' : bit high ≤ 1 = bit-small high in
    omega arith

below_square : (r : ℕ) → r ≤ r * r
below_square zero = omega arith
below_square (suc r) = let e : suc r * suc r ≡ r * r + r + r + 1 = omega arith in omega arith

pub root_small : (A r R P : ℕ) → Rooted A r R → A < P → (r < P) × (R < P)
root_small A r R P i h = (omega (arith, below_square r, i.sum), omega (arith, i.sum))

-- ---- a product

pub multiplied : (I P front high sum carry A B b : ℕ) → sum + P * carry ≡ high + A * b + 0 → front + I * high ≡ A * B → front + I * sum + I * P * carry ≡ A * (B + I * b)
multiplied I P front high sum carry A B b e h = omega (arith, h, ap (λ n. I * n) e)

pub gated_turn : (x P : ℕ) (p c : Bool) → x * bit c + P * bit (p && c) ≡ (x + P * bit p) * bit c
gated_turn x P true true = omega arith
gated_turn x P true false = omega arith
gated_turn x P false true = omega arith
gated_turn x P false false = omega arith

-- ---- gates

pub division_room : (i n old gates next : ℕ) → (i ≡ 0 → gates ≤ old + n) → (1 ≤ i → gates ≤ old + 8 * (i * (n + 1))) → next ≤ gates + 8 * min n (i + 1) + 2
    → next ≤ old + 8 * ((i + 1) * (n + 1))
division_room zero n old gates next first more h = omega (arith, first refl, h)
division_room (suc i) n old gates next first more h =
    let turn : (suc i + 1) * (n + 1) ≡ suc i * (n + 1) + (n + 1) = omega arith in
    omega (arith, more (omega arith), h, turn)

pub turns_room : (i n k m : ℕ) → i ≤ n → k ≤ m → i * k ≤ n * m
turns_room i n k m h e = mul-le-mul h e
