-- What pressed keys leave as it was, and keys pressed in turn.
use Rattle.std.proofs.Common.{◌≡◌, ℕ, ◌+◌, List, ◌∷◌, drop, get_or, length, ◌<◌, ◌≤◌, add-one, slice_index, false, ap, sym, ◌∙◌}
use Rattle.std.proofs.Math.Seq.{drop-cons}
use Rattle.std.proofs.lemmas.List.{drop_all}
use Rattle.hp_model.specs.declared.Key.{Key}
use Rattle.hp_model.specs.declared.View.TheVariants.{Normal}
use Rattle.hp_model.specs.Keys.{Command, Prefix}
use Rattle.hp_model.specs.Keys as keys
use Rattle.hp_model.specs.Prefixes.{press_key}
use Rattle.hp_model.specs.Press.{Calculator, commanded, after_press, press}
use Rattle.hp_model.specs.WrittenNibbles.{wrote, pressed_all}
use Rattle.hp_model.proofs.KeptByKeys.{press-nibble}

-- a nibble that a key which completes a command may not change
pub kept_by_command : (s : Calculator) (key : Key) (prefix : Prefix) (command : Command) (next : Calculator) (j : ℕ)
    → (prefix, keys.complete command) ≡ press_key s.prefix key → next ≡ commanded command (record s { prefix = prefix; view = Normal }) → wrote s key j ≡ false
    → slice_index next.machine.contents.nibbles j ≡ slice_index s.machine.contents.nibbles j
kept_by_command s key prefix command next j given is unwritten =
    let exact : next ≡ press s key = is ∙ ap (after_press s) given in
    ap (λ (t : Calculator). slice_index t.machine.contents.nibbles j) exact ∙ press-nibble s key j unwritten

-- one more key of the list
pub one_more : (pressed : List Key) (i : ℕ) (other : Key) (s next whole : Calculator) → i < length pressed → next ≡ press s (get_or pressed i other)
    → pressed_all (drop i pressed) s ≡ whole → pressed_all (drop (i + 1) pressed) next ≡ whole
one_more pressed i other s next whole inside next_is before =
    let here : drop i pressed ≡ get_or pressed i other ∷ drop (i + 1) pressed = rw add-one (drop-cons pressed i other inside) in
    ap (λ (t : Calculator). pressed_all (drop (i + 1) pressed) t) next_is ∙ sym (ap (λ (ks : List Key). pressed_all ks s) here) ∙ before

-- no key is left
pub no_more : (pressed : List Key) (i : ℕ) (s whole : Calculator) → length pressed ≤ i → pressed_all (drop i pressed) s ≡ whole → s ≡ whole
no_more pressed i s whole past before = sym (ap (λ (ks : List Key). pressed_all ks s) (drop_all i pressed past)) ∙ before
