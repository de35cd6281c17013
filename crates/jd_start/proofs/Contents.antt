-- Whether assumptions hold is a matter of a start's content.
use Rattle.std.proofs.Common.{◌≡◌, ℕ, ◌&&◌, List, [], ◌∷◌, refl, ap, ◌∙◌}
use Rattle.hp_words.specs.Contents.{data_of}
use Rattle.hp_words.specs.declared.content.Content.{Content}
use Rattle.jd_model.specs.declared.assumptions.NumPart.{NumPart}
use Rattle.jd_model.specs.declared.assumptions.NumPart.TheVariants.{X, Y, Z, T, L, I}
use Rattle.jd_model.specs.declared.assumptions.Against.{Against}
use Rattle.jd_model.specs.declared.assumptions.Against.TheVariants.{Part, Number}
use Rattle.jd_model.specs.declared.assumptions.Assume.{Assume}
use Rattle.jd_model.specs.Assumptions.{part_value, against_value, relates, holds, meets}

module _ (content : Content) (nibbles : List ℕ) where
  part-same : (part : NumPart) → part_value part (data_of content []) ≡ part_value part (data_of content nibbles)
  part-same X = refl
  part-same Y = refl
  part-same Z = refl
  part-same T = refl
  part-same L = refl
  part-same I = refl

  against-same : (right : Against) → against_value right (data_of content []) ≡ against_value right (data_of content nibbles)
  against-same (Part part) = part-same part
  against-same (Number n) = refl

  holds-same : (a : Assume) → holds a (data_of content []) ≡ holds a (data_of content nibbles)
  holds-same a =
      ap (λ n. relates a.relation n (against_value a.right (data_of content []))) (part-same a.left)
      ∙ ap (relates a.relation (part_value a.left (data_of content nibbles))) (against-same a.right)

  pub meets-same : (assumed : List Assume) → meets assumed (data_of content []) ≡ meets assumed (data_of content nibbles)
  meets-same [] = refl
  meets-same (a ∷ assumed) =
      ap (λ b. b && meets assumed (data_of content [])) (holds-same a) ∙ ap (λ b. holds a (data_of content nibbles) && b) (meets-same assumed)
