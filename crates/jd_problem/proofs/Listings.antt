-- A routine's assembly text has its lines, word by word.
use Rattle.std.proofs.Common.{◌≡◌, ℕ, ◌<◌, Bool, true, false, List, [], ◌∷◌, ◌++◌, refl, sym, ap, ◌∙◌, arith, nat_lt}
use Rattle.std.specs.Prelude.{All, bytes_eq}
use Rattle.std.proofs.lemmas.Bool.Decides.{nat_tests}
use Rattle.std.proofs.lemmas.List.Elements.{All-head, All-tail}
use Rattle.std.proofs.lemmas.Slice.Eq.{bytes_eq-Decides}
use Rattle.jd_text.specs.Words.{words_of, line, written}
use Rattle.jd_model.specs.Assembly.{IsRoutine, text_of_code, listing}
use Rattle.jd_model.specs.ProblemWriter.{routine_lines}
use Rattle.jd_text.proofs.Tests.{passes_from, passes_at}

abbrev is_plain : ℕ → Bool
is_plain code = bytes_eq (line (words_of (text_of_code code))) (text_of_code code ++ 10 ∷ [])

plain_1 : passes_from is_plain 0 75 ≡ true
plain_1 = refl

plain_2 : passes_from is_plain 75 75 ≡ true
plain_2 = refl

plain_3 : passes_from is_plain 150 75 ≡ true
plain_3 = refl

-- a code's line is its text
code-plain : (code : ℕ) → code < 225 → text_of_code code ++ 10 ∷ [] ≡ line (words_of (text_of_code code))
code-plain code h =
    sym ((bytes_eq-Decides (line (words_of (text_of_code code))) (text_of_code code ++ 10 ∷ [])).0 (by_place (nat_lt code 75) (nat_lt code 150) refl refl))
  where
    by_place : (a b : Bool) → nat_lt code 75 ≡ a → nat_lt code 150 ≡ b → is_plain code ≡ true
    by_place true b e f = passes_at is_plain 0 75 code plain_1 (omega arith) (grind (arith, nat_tests, e))
    by_place false true e f = passes_at is_plain 75 75 code plain_2 (grind (arith, nat_tests, e)) (grind (arith, nat_tests, f))
    by_place false false e f = passes_at is_plain 150 75 code plain_3 (grind (arith, nat_tests, f)) (omega (arith, h))

listing-codes : (routine : List ℕ) → All (λ code. code < 225) routine → listing routine ≡ written (routine_lines routine)
listing-codes [] small = refl
listing-codes (code ∷ routine) small =
    ap (λ text. text ++ listing routine) (code-plain code (All-head (λ c. c < 225) code routine small))
    ∙ ap (λ text. line (words_of (text_of_code code)) ++ text) (listing-codes routine (All-tail (λ c. c < 225) code routine small))

pub listing-lines : (routine : List ℕ) → IsRoutine routine → listing routine ≡ written (routine_lines routine)
listing-lines routine is = listing-codes routine is.codes
