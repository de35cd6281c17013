-- What a routine becomes by the draws that are left.
use Rattle.std.proofs.Common.{◌≡◌, ℕ, suc, ◌+◌, ◌-◌, ◌/◌, ◌%◌, ◌<◌, List, ◌++◌, map, append_assoc, sym, ap, ◌∙◌, arith}
use Rattle.std.proofs.lemmas.List.{map-append}
use Rattle.hp_model.specs.Operations.{Operation}
use Rattle.hp_model.specs.Codes.{code_of}
use Rattle.jd_generated.specs.Generated.{Draw, draw_of, drawn, draws, appended}

-- the codes of what so many draws append, from a state of the generator
abbrev pub to_come : (Draw → List Operation) → ℕ → ℕ → List ℕ
to_come words count s = map code_of (appended words (draws count s))

-- one draw more
module _ (words : Draw → List Operation) (count i s next : ℕ) (draw : Draw) (old new : List ℕ) (inside : i < count) (same : next ≡ drawn s)
    (is : draw ≡ draw_of (next / 65536 % 5)) (added : new ≡ old ++ map code_of (words draw)) where
  after : List ℕ
  after = to_come words (count - (i + 1)) next

  left : to_come words (count - i) s ≡ map code_of (words draw) ++ after
  unfolding after
  left =
      let more : count - i ≡ suc (count - (i + 1)) = omega arith in
      ap (λ n. to_come words n s) more
      ∙ (ap (λ t. map code_of (words (draw_of (t / 65536 % 5)) ++ appended words (draws (count - (i + 1)) t))) (sym same)
      ∙ (ap (λ d. map code_of (words d ++ appended words (draws (count - (i + 1)) next))) (sym is)
      ∙ map-append code_of (words draw) (appended words (draws (count - (i + 1)) next))))

  pub draw-more : new ++ to_come words (count - (i + 1)) next ≡ old ++ to_come words (count - i) s
  unfolding after
  draw-more =
      ap (λ codes. codes ++ after) added ∙ (append_assoc old (map code_of (words draw)) after ∙ ap (λ codes. old ++ codes) (sym left))
