-- What an edit does to nibbles.
use Rattle.std.proofs.Common.{◌≡◌, ℕ, ◌-◌, ◌/◌, ◌<◌, ◌≤◌, List, length, get_or, take, replicate, arith, refl, ap, ◌∙◌}
use Rattle.std.proofs.lemmas.List.{get_or_append_left, get_or-append_right, get_or-take, get_or-replicate, length-take, get_or_past}
use Rattle.std.proofs.lemmas.Bool.Decides.{nat_tests}
use Rattle.hp_model.specs.State.{register_nibbles, blocks_of}
use Rattle.hp_model.specs.Memory.{Memory, half_of, resized, edited}
use Rattle.hp_nibbles.proofs.Comparisons.{is_lt, not_lt}
use Rattle.hp_nibbles.specs.Passing.{PassesNibbles}

zero_half : (j : ℕ) → half_of 0 j ≡ 0
zero_half j = grind (arith, nat_tests)

module _ (program : List ℕ) (m : Memory) (size : length m.nibbles ≡ register_nibbles m.bytes m.blocks) where
  abbrev all : ℕ
  all = register_nibbles m.bytes (blocks_of (length program))

  kept_at : (j : ℕ) → j < register_nibbles m.bytes m.blocks → j < all → get_or (resized m.bytes (blocks_of (length program)) m.nibbles) j 0 ≡ get_or m.nibbles j 0
  kept_at j before after =
      let early : j < length (take all m.nibbles) = omega (arith, length-take all m.nibbles) in
      get_or_append_left (take all m.nibbles) (replicate (all - length m.nibbles) 0) 0 j early ∙ get_or-take all m.nibbles j 0 after

  zero_at : (j : ℕ) → register_nibbles m.bytes m.blocks ≤ j → j < all → get_or (resized m.bytes (blocks_of (length program)) m.nibbles) j 0 ≡ 0
  zero_at j before after =
      let whole : length (take all m.nibbles) ≡ register_nibbles m.bytes m.blocks = omega (arith, length-take all m.nibbles) in
      get_or-append_right (take all m.nibbles) (replicate (all - length m.nibbles) 0) (register_nibbles m.bytes m.blocks) j 0 whole before
      ∙ get_or-replicate (all - length m.nibbles) (j - register_nibbles m.bytes m.blocks) 0 0 (omega arith)

  pub edit_passes : PassesNibbles m (edited program m)
  edit_passes = record {
    kept = λ j before after. rw (is_lt j all after, is_lt j (register_nibbles m.bytes m.blocks) before) (kept_at j before after);
    given_back = λ j before after. rw (is_lt j all after) (zero_at j before after);
    taken = λ j before after no_line. rw (not_lt j all after) (ap (λ (b : ℕ). half_of b j) (get_or_past program (m.bytes - 1 - j / 2) 0 (omega arith)) ∙ zero_half j);
  }

pub none_pass : (m : Memory) → PassesNibbles m m
none_pass m = record {
  kept = λ j before after. refl;
  given_back = λ j before after. absurd (omega arith);
  taken = λ j before after no_line. absurd (omega arith);
}
