-- A `give` line of its words.
use Rattle.std.proofs.Common.{◌≡◌, ℕ, ◌&&◌, Bool, true, false, List, [], ◌∷◌, ◌++◌, length, Option, Some, None, refl, ap, ◌∙◌, nat_le, nat_lt}
use Rattle.std.specs.Prelude.{if◌then◌else◌, not, Result, Ok, Err}
use Rattle.std.specs.List.{list_all}
use Rattle.jd_model.specs.declared.causes.ProblemCause.{ProblemCause}
use Rattle.jd_model.specs.declared.causes.ProblemCause.TheVariants.{Syntax, Repeated, Missing, Range}
use Rattle.jd_model.specs.ProblemTexts.{is_before_first}
use Rattle.jd_formulas.specs.Formulas.{is_formula_in_range, is_one_width, is_token_in_range, token_limit, widths}
use Rattle.jd_gives.specs.declared.gives.Give.{Give}
use Rattle.jd_spec_texts.specs.SpecTexts.{SpecReading, give_line, is_part_given}
use Rattle.jd_text.specs.Places.{words_at}
use Rattle.jd_text.specs.Words.{words_of}
use Rattle.jd_model.specs.ProblemLines.{named_as}
use Rattle.jd_formulas.specs.declared.tokens.Token.{Token}
use Rattle.jd_gives.specs.declared.parts.GivenPart.{GivenPart}
use Rattle.jd_spec_texts.specs.FormulaWords.{are_kept, formula_told, kept_if}
use Rattle.jd_spec_texts.specs.SpecLines.{give_of, given_name, given_parts, one_give, tokens_named, whole_formula}
use Rattle.jd_spec_texts.specs.Specs.{give_told}

first-words : (line : List ℕ) → words_of line ≡ words_at line 0
first-words line = refl

module _ (line name : List ℕ) (rest : List (List ℕ)) (part : GivenPart) (words : words_at line 0 ≡ name ∷ rest) (named : named_as given_name given_parts name ≡ Some part) where
  told : give_told (one_give (words_of line)) ≡ give_told (give_of (Some part) (whole_formula (tokens_named rest)))
  told = ap (λ ws. give_told (one_give ws)) (first-words line ∙ words) ∙ ap (λ p. give_told (give_of p (whole_formula (tokens_named rest)))) named

  pub give-none : formula_told (whole_formula (tokens_named rest)) ≡ None → give_told (one_give (words_of line)) ≡ None
  give-none h = told ∙ by_formula (whole_formula (tokens_named rest)) h
    where
      by_formula : (o : Option (List Token)) → formula_told o ≡ None → give_told (give_of (Some part) o) ≡ None
      by_formula None e = refl
      by_formula (Some ts) e = absurd cc

  pub give-some : (kept : Option (List Token)) → formula_told (whole_formula (tokens_named rest)) ≡ Some kept → give_told (one_give (words_of line)) ≡ Some (part, kept)
  give-some kept h = told ∙ by_formula (whole_formula (tokens_named rest)) h
    where
      by_formula : (o : Option (List Token)) → formula_told o ≡ Some kept → give_told (give_of (Some part) o) ≡ Some (part, kept)
      by_formula None e = absurd cc
      by_formula (Some ts) e = let same = e in cc

-- ---- a `give` line of what is kept of it

abbrev with_give : SpecReading → GivenPart → List Token → SpecReading
with_give r part ts = record r { gives = r.gives ++ record { part = part; formula = ts } ∷ [] }

abbrev ranged : SpecReading → GivenPart → Option (List Token) → Result SpecReading ProblemCause
ranged r part None = Err Range
ranged r part (Some ts) = if is_formula_in_range r.reading.problem.size ts then Ok (with_give r part ts) else Err Range

abbrev tested : Bool → Bool → Bool → Result SpecReading ProblemCause → Result SpecReading ProblemCause
tested before given early rest = if not before then Err Syntax else if given then Err Repeated else if early then Err Missing else rest

-- words that aren't kept are out of range
unkept : (r : SpecReading) (part : GivenPart) (ts : List Token) → (if is_formula_in_range r.reading.problem.size ts then Ok (with_give r part ts) else Err Range) ≡ ranged r part (kept_if ts)
unkept r part ts = by_test (are_kept ts) refl
  where
    both : (a b c : Bool) → (a && b) ≡ false → (a && (b && c)) ≡ false
    both false b c e = refl
    both true b c e = ap (λ x. x && c) e

    by_test : (b : Bool) → are_kept ts ≡ b → (if is_formula_in_range r.reading.problem.size ts then Ok (with_give r part ts) else Err Range) ≡ ranged r part (if b then Some ts else None)
    by_test true e = refl
    by_test false e =
        let off : is_formula_in_range r.reading.problem.size ts ≡ false = both (nat_le (length ts) token_limit) (list_all is_token_in_range ts) (is_one_width (widths r.reading.problem.size ts)) e in
        ap (λ b. if b then Ok (with_give r part ts) else Err Range) off

pub none-line : (r : SpecReading) (give : Option Give) → give_told give ≡ None → give_line r give ≡ Err Syntax
none-line r None h = refl
none-line r (Some give) h = absurd cc

module _ (r : SpecReading) (give : Option Give) (part : GivenPart) (kept : Option (List Token)) (is : give_told give ≡ Some (part, kept)) where
  pub some-line : (before given early : Bool) → is_before_first r.reading ≡ before → is_part_given part r.gives ≡ given → nat_lt r.reading.due 9 ≡ early
      → give_line r give ≡ tested before given early (ranged r part kept)
  some-line before given early a b c = by_give give is
    where
      by_give : (g : Option Give) → give_told g ≡ Some (part, kept) → give_line r g ≡ tested before given early (ranged r part kept)
      by_give None e = absurd cc
      by_give (Some g) e =
          let both : (g.part, kept_if g.formula) ≡ (part, kept) = cc in
          let parts : g.part ≡ part = ap (λ (x : GivenPart × Option (List Token)). x.0) both in
          let keeps : kept_if g.formula ≡ kept = ap (λ (x : GivenPart × Option (List Token)). x.1) both in
          ap (λ x. tested (is_before_first r.reading) (is_part_given g.part r.gives) (nat_lt r.reading.due 9) x) (unkept r g.part g.formula)
          ∙ ap (λ p. tested (is_before_first r.reading) (is_part_given p r.gives) (nat_lt r.reading.due 9) (ranged r p (kept_if g.formula))) parts
          ∙ ap (λ k. tested (is_before_first r.reading) (is_part_given part r.gives) (nat_lt r.reading.due 9) (ranged r part k)) keeps
          ∙ ap (λ x. tested x (is_part_given part r.gives) (nat_lt r.reading.due 9) (ranged r part kept)) a
          ∙ ap (λ x. tested before x (nat_lt r.reading.due 9) (ranged r part kept)) b
          ∙ ap (λ x. tested before given x (ranged r part kept)) c
