-- The phrases of the parts, one part more.
use Rattle.std.proofs.Common.{◌≡◌, ℕ, zero, suc, ◌+◌, ◌<◌, ◌≤◌, Bool, false, cond, List, [], ◌∷◌, ◌++◌, length, get_or, drop, refl, ap, ◌∙◌, arith}
use Rattle.std.specs.Prelude.{flat_map}
use Rattle.std.proofs.lemmas.Grind.{flat_map-append}
use Rattle.std.proofs.lemmas.List.{drop_all}
use Rattle.jd_text.specs.Digits.{hexadecimal}
use Rattle.jd_model.specs.ProblemWriter.{chosen}
use Rattle.jd_model.specs.Seen.{named}
use Rattle.jd_start.specs.Written.{spaced}
use Rattle.jd_start.proofs.PartByPart.{chosen-next}
use Rattle.jd_replay.specs.Phrases.{phrases}

phrases-append : (a b : List (List (List ℕ))) → phrases (a ++ b) ≡ phrases a ++ phrases b
phrases-append a b =
    ap spaced (flat_map-append (λ words. words) a b) ∙ flat_map-append (λ word. 32 ∷ word) (flat_map (λ words. words) a) (flat_map (λ words. words) b)

-- the phrase of a part but for the nibbles
pub named-phrase : (names : List (List ℕ)) (numbers : List ℕ) (memory : List (List ℕ)) (place : ℕ) → place < length names → place < length numbers
    → get_or (named names numbers ++ memory ∷ []) place [] ≡ get_or names place [] ∷ hexadecimal (get_or numbers place 0) ∷ []
named-phrase [] numbers memory place few short = absurd (omega arith)
named-phrase (name ∷ names) [] memory place few short = absurd (omega arith)
named-phrase (name ∷ names) (n ∷ numbers) memory zero few short = refl
named-phrase (name ∷ names) (n ∷ numbers) memory (suc place) few short = named-phrase names numbers memory place (omega arith) (omega arith)

-- one more phrase
pub phrases-next : (marks : List Bool) (lists : List (List (List ℕ))) (place : ℕ) → place < length lists
    → phrases (chosen (drop place marks) (drop place lists))
    ≡ phrases (cond (get_or marks place false) (get_or lists place [] ∷ []) []) ++ phrases (chosen (drop (place + 1) marks) (drop (place + 1) lists))
phrases-next marks lists place short =
    ap phrases (chosen-next marks lists place [] short)
    ∙ phrases-append (cond (get_or marks place false) (get_or lists place [] ∷ []) []) (chosen (drop (place + 1) marks) (drop (place + 1) lists))

-- how many phrases there are, and the last
pub count-phrases : (names : List (List ℕ)) (numbers : List ℕ) (memory : List (List ℕ)) → length numbers ≤ length names
    → length (named names numbers ++ memory ∷ []) ≡ suc (length numbers)
count-phrases [] [] memory few = refl
count-phrases [] (n ∷ numbers) memory few = absurd (omega arith)
count-phrases (name ∷ names) [] memory few = refl
count-phrases (name ∷ names) (n ∷ numbers) memory few = ap suc (count-phrases names numbers memory (omega arith))

pub last-phrase : (names : List (List ℕ)) (numbers : List ℕ) (memory : List (List ℕ)) (place : ℕ) → length numbers ≤ length names → place ≡ length numbers
    → get_or (named names numbers ++ memory ∷ []) place [] ≡ memory
last-phrase [] [] memory zero few at = refl
last-phrase [] [] memory (suc place) few at = absurd (omega arith)
last-phrase [] (n ∷ numbers) memory place few at = absurd (omega arith)
last-phrase (name ∷ names) [] memory zero few at = refl
last-phrase (name ∷ names) [] memory (suc place) few at = absurd (omega arith)
last-phrase (name ∷ names) (n ∷ numbers) memory zero few at = absurd (omega arith)
last-phrase (name ∷ names) (n ∷ numbers) memory (suc place) few at = last-phrase names numbers memory place (omega arith) (omega arith)

chosen-none : {A : Type 0} (marks : List Bool) → chosen {A = A} marks [] ≡ []
chosen-none [] = refl
chosen-none (b ∷ marks) = refl

-- after the last phrase nothing is left
pub phrases-end : (marks : List Bool) (lists : List (List (List ℕ))) (place : ℕ) → length lists ≤ place → phrases (chosen (drop place marks) (drop place lists)) ≡ []
phrases-end marks lists place past =
    ap (λ ls. phrases (chosen (drop place marks) ls)) (drop_all place lists past) ∙ ap phrases (chosen-none (drop place marks))
