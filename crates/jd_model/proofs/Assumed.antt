-- The words of an assumption read back as the assumption.
use Rattle.std.proofs.Common.{◌≡◌, ℕ, ◌^◌, ◌<◌, ◌≤◌, ◌&&◌, Bool, true, false, List, [], ◌∷◌, Option, Some, None, refl, ap, ◌∙◌, arith, nat_lt}
use Rattle.std.specs.Prelude.{nat_eq, option_map}
use Rattle.std.specs.Cmp.Derive.{both_true}
use Rattle.std.specs.List.{list_all}
use Rattle.std.proofs.lemmas.Bool.Decides.{nat_tests}
use Rattle.jd_model.specs.declared.assumptions.NumPart.{NumPart}
use Rattle.jd_model.specs.declared.assumptions.NumPart.TheVariants.{X, Y, Z, T, L, I}
use Rattle.jd_model.specs.declared.assumptions.Relation.{Relation}
use Rattle.jd_model.specs.declared.assumptions.Relation.TheVariants.{Lt, Le, Eq, Ne}
use Rattle.jd_model.specs.declared.assumptions.Against.{Against}
use Rattle.jd_model.specs.declared.assumptions.Against.TheVariants.{Part, Number}
use Rattle.jd_model.specs.declared.assumptions.Assume.{Assume}
use Rattle.jd_text.specs.Digits.{digit_value, are_digits, hexadecimal, hexadecimal_number}
use Rattle.jd_model.specs.Assumptions.{number_in, IsAssume}
use Rattle.jd_model.specs.ProblemLines.{num_part_name, num_part_named, relation_name, relation_named, against_named, assumption, Said, assuming, one_assumption}
use Rattle.jd_model.specs.ProblemWriter.{against_word, assume_line}
use Rattle.jd_text.proofs.Tests.{left-part}
use Rattle.jd_text.proofs.WrittenLines.{is_proper}
use Rattle.jd_text.proofs.WrittenNumbers.{hexadecimal-digits, hexadecimal-number, hexadecimal-proper}

-- ---- names

part-back : (part : NumPart) → num_part_named (num_part_name part) ≡ Some part
part-back X = refl
part-back Y = refl
part-back Z = refl
part-back T = refl
part-back L = refl
part-back I = refl

part-proper : (part : NumPart) → is_proper (num_part_name part) ≡ true
part-proper X = refl
part-proper Y = refl
part-proper Z = refl
part-proper T = refl
part-proper L = refl
part-proper I = refl

relation-back : (relation : Relation) → relation_named (relation_name relation) ≡ Some relation
relation-back Lt = refl
relation-back Le = refl
relation-back Eq = refl
relation-back Ne = refl

relation-proper : (relation : Relation) → is_proper (relation_name relation) ≡ true
relation-proper Lt = refl
relation-proper Le = refl
relation-proper Eq = refl
relation-proper Ne = refl

-- ---- numbers, which are no names of parts

-- the name of a part is no digit
no-digit : (k b : ℕ) → nat_lt (digit_value k) 16 ≡ false → nat_lt (digit_value b) 16 ≡ true → nat_eq k b ≡ false
no-digit k b h g = grind (arith, nat_tests)

digits-no-part : (word : List ℕ) → are_digits 16 word ≡ true → num_part_named word ≡ None
digits-no-part [] h = refl
digits-no-part (b ∷ word) h =
    let digit = left-part (nat_lt (digit_value b) 16) (are_digits 16 word) h in
    rw (no-digit 88 b refl digit, no-digit 89 b refl digit, no-digit 90 b refl digit, no-digit 84 b refl digit, no-digit 76 b refl digit, no-digit 73 b refl digit) refl

against-back : (right : Against) → number_in right < 2 ^ 64 → against_named (against_word right) ≡ Some right
against-back (Part X) h = refl
against-back (Part Y) h = refl
against-back (Part Z) h = refl
against-back (Part T) h = refl
against-back (Part L) h = refl
against-back (Part I) h = refl
against-back (Number n) h =
    ap by_part (digits-no-part (hexadecimal n) (hexadecimal-digits n h)) ∙ ap (option_map Number) (hexadecimal-number n h)
  where
    by_part : Option NumPart → Option Against
    by_part found = elim found [ Some part ↦ Some (Part part) | None ↦ option_map Number (hexadecimal_number (hexadecimal n)) ]

against-proper : (right : Against) → number_in right < 2 ^ 64 → is_proper (against_word right) ≡ true
against-proper (Part part) h = part-proper part
against-proper (Number n) h = hexadecimal-proper n h

-- ---- lines

-- what the line of an assumption says
pub assumption-back : (a : Assume) → IsAssume a
    → one_assumption (num_part_name a.left ∷ relation_name a.relation ∷ against_word a.right ∷ []) ≡ Some (assuming a)
assumption-back a h =
    ap (λ left. option_map assuming (assumption left (relation_named (relation_name a.relation)) (against_named (against_word a.right)))) (part-back a.left)
    ∙ ap (λ relation. option_map assuming (assumption (Some a.left) relation (against_named (against_word a.right)))) (relation-back a.relation)
    ∙ ap (λ right. option_map assuming (assumption (Some a.left) (Some a.relation) right)) (against-back a.right h)

-- and its words are proper
pub assumption-proper : (a : Assume) → IsAssume a → list_all is_proper (assume_line a) ≡ true
assumption-proper a h =
    both_true refl (both_true (part-proper a.left) (both_true (relation-proper a.relation) (both_true (against-proper a.right h) refl)))
