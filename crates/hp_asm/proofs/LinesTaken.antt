-- A line of assembly whose first word begins an operation's text.
use Rattle.std.proofs.Common.{◌≡◌, ℕ, Bool, true, false, List, ◌∷◌, refl, sym, ap, ◌∙◌, arith}
use Rattle.std.specs.Prelude.{Result, Err}
use Rattle.jd_text.specs.Words.{words_of}
use Rattle.jd_text.specs.Places.{words_at, IsWordTo}
use Rattle.jd_model.specs.declared.causes.AsmCause.{AsmCause}
use Rattle.jd_model.specs.declared.causes.AsmCause.TheVariants.{UnknownWord, FloatKey}
use Rattle.jd_model.specs.Assembly.{is_float_key, begins_text, with_operation, with_line}

abbrev judged : Bool → Bool → Result (List ℕ) AsmCause → Result (List ℕ) AsmCause
judged float begun taken = elim float [
  | true ↦ Err FloatKey
  | false ↦ (elim begun [ true ↦ taken | false ↦ Err UnknownWord ])
]

judged-good : (float begun : Bool) (taken : Result (List ℕ) AsmCause) → float ≡ false → begun ≡ true → judged float begun taken ≡ taken
judged-good false true taken e f = refl
judged-good true begun taken e f = absurd (grind arith)
judged-good false false taken e f = absurd (grind arith)

pub with_line-begun : (routine line word : List ℕ) (end : ℕ) → IsWordTo line 0 word end → is_float_key word ≡ false → begins_text word ≡ true
    → with_line routine (words_of line) ≡ with_operation routine (words_of line)
with_line-begun routine line word end t float begun =
    let words : words_of line ≡ word ∷ words_at line end = t.words in
    ap (with_line routine) words
    ∙ judged-good (is_float_key word) (begins_text word) (with_operation routine (word ∷ words_at line end)) float begun
    ∙ sym (ap (with_operation routine) words)
