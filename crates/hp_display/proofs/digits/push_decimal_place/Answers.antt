use Rattle.std.proofs.Common.{◌≡◌, ℕ, ◌-◌, ◌<◌, ◌^◌, List, arith, length, sym, decimal, get_or, append-nil, length-append}
use Rattle.std.proofs.lemmas.Str.{encode_ascii}
use Rattle.hp_display.proofs.Decimals.{place_is, no_place, is_ascii}
use Rattle.hp_display.proofs.digits.push_decimal_place.Goals as goal

-- the byte that is pushed
ascii : (digits : List ℕ) (n place : ℕ) → digits ≡ decimal n → n < 2 ^ 64 → place < length digits → get_or digits (length digits - 1 - place) 0 < 128
ascii digits n place same small inside = rw same (is_ascii place n small (rw same at inside))

pub push-requires : goal.push-requires
push-requires c =
    let low = ascii c.args.digits.now c.args.n c.args.place c.requires.digits (omega arith) c.if-place-digits.true in
    (omega arith, rw (encode_ascii (get_or c.args.digits.now (length c.args.digits.now - 1 - c.args.place) 0) low) (omega (arith, c.requires.room)))

pub returns-then-place-digits-clause-text : goal.returns-then-place-digits-clause-text
returns-then-place-digits-clause-text c =
    let low = ascii c.args.digits.now c.args.n c.args.place c.requires.digits (omega arith) c.if-place-digits.true in
    let is = place_is c.args.place c.args.n (omega arith) (rw c.requires.digits at c.if-place-digits.true) in
    let pushed = c.push.ensures.ascii low in
    rw (is, ← c.requires.digits) pushed

pub returns-then-place-digits-clause-len : goal.returns-then-place-digits-clause-len
returns-then-place-digits-clause-len c =
    let low = ascii c.args.digits.now c.args.n c.args.place c.requires.digits (omega arith) c.if-place-digits.true in
    let pushed = c.push.ensures.ascii low in
    rw pushed (simp length-append (omega arith))

pub returns-else-place-digits-clause-text : goal.returns-else-place-digits-clause-text
returns-else-place-digits-clause-text c =
    let none = no_place c.args.place c.args.n (omega arith) (rw c.requires.digits at c.if-place-digits.false) in
    rw none (sym (append-nil c.args.text.now.bytes))
