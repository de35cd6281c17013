-- Generated routines agree from every allowed start.
use Rattle.std.proofs.Common.{◌≡◌, ℕ, zero, suc, ◌+◌, ◌*◌, ◌%◌, ◌<◌, ◌≤◌, true, false, ◌==◌, ◌&&◌, nat_lt, List, [], ◌∷◌, length, replicate, Option, Some, None, drop, arith, refl, sym, ap, subst, ◌∙◌}
use Rattle.std.proofs.lemmas.List.{length-append}
use Rattle.std.proofs.lemmas.Bool.{eqb-true, ltb-true}
use Rattle.std.proofs.lemmas.Bool.Decides.{nat_tests}
use Rattle.std.specs.Str.{bytes_eq}
use Rattle.std.specs.Cmp.Lexicographic.{pointwise}
use Rattle.hp_model.specs.declared.End.{End}
use Rattle.hp_model.specs.Operations.{Operation}
use Rattle.hp_model.specs.State.{Data, Machine}
use Rattle.hp_model.specs.Run.{run, run_answers}
use Rattle.jd_model.specs.Problems.{allows, Field, blocks, are_in_fields, is_in_field, fields, numbers}
use Rattle.jd_model.specs.ProblemWriter.{chosen}
use Rattle.jd_model.specs.Seen.{agree, agree_on, machine_at, parts_of, seen_of_run}
use Rattle.jd_generated.specs.Generated.{Draw, double, complement, negation, turn, five_more, in_first, in_second, appended, routine, draws, draws_for, generated}
use Rattle.jd_generated.proofs.Draws.{rest_of, ready, first-serves, second-serves, x_after, same-values, first-of, second-of}
use Rattle.jd_generated.specs.Laws.{AskOnce}
use Rattle.jd_generated.proofs.Asked.{asked-once, first-asks-nothing, second-asks-nothing}
use Rattle.jd_generated.proofs.Runs.{value, headed, IsOver, whole-run}

-- ---- as many lines

few : (words : Draw → List Operation) → ((draw : Draw) → length (words draw) ≤ 7) → (steps : List Draw) → length (appended words steps) ≤ 7 * length steps
few words short [] = omega arith
few words short (draw ∷ steps) =
    let e = length-append (words draw) (appended words steps) in
    let s = short draw in
    let r = few words short steps in omega arith

count-of : (count s : ℕ) → length (draws count s) ≡ count
count-of zero s = refl
count-of (suc count) s = ap suc (count-of count _)

short-first : (draw : Draw) → length (in_first draw) ≤ 7
short-first double = omega arith
short-first complement = omega arith
short-first negation = omega arith
short-first turn = omega arith
short-first five_more = omega arith

short-second : (draw : Draw) → length (in_second draw) ≤ 7
short-second double = omega arith
short-second complement = omega arith
short-second negation = omega arith
short-second turn = omega arith
short-second five_more = omega arith

within : (words : Draw → List Operation) → ((draw : Draw) → length (words draw) ≤ 7) → (n : ℕ) → length (appended words (draws_for n)) + 3 ≤ 500
within words short n =
    let e = few words short (draws_for n) in
    let c : length (draws_for n) ≡ 1 + n % 24 = count-of (1 + n % 24) n in
    let m : n % 24 < 24 = omega arith in omega arith

-- ---- one value

same-value : (steps : List Draw) (x : ℕ) → x < 256 → value in_first steps x ≡ value in_second steps x
same-value [] x below = refl
same-value (draw ∷ steps) x below =
    let (same, small) = same-values draw x below in
    same-value steps (x_after (in_first draw) x) small ∙ ap (value in_second steps) same

-- ---- an allowed start

-- X is a byte, and Y, Z and T are zero
record IsByte (s : Data) : Type 0 where
  x : s.x < 256
  y : s.y ≡ 0
  z : s.z ≡ 0
  t : s.t ≡ 0

-- a field that is fixed at zero
abbrev zero_field : Field
zero_field = record { width = 8; fixed = Some 0 }

is-zero : (n : ℕ) → is_in_field zero_field n ≡ true → n ≡ 0
is-zero n e = eqb-true n 0 (second-of (nat_lt n 256) (n == 0) e)

-- the first four numbers of a start
byte-in : (fs : List Field) (s : Data) (ns : List ℕ)
    → are_in_fields (record { width = 8; fixed = None } ∷ zero_field ∷ zero_field ∷ zero_field ∷ fs) (s.x ∷ s.y ∷ s.z ∷ s.t ∷ ns) ≡ true → IsByte s
byte-in fs s ns e =
    let after_x = second-of (is_in_field (record { width = 8; fixed = None }) s.x)
    (are_in_fields (zero_field ∷ zero_field ∷ zero_field ∷ fs) (s.y ∷ s.z ∷ s.t ∷ ns)) e in
    let after_y = second-of (is_in_field zero_field s.y) (are_in_fields (zero_field ∷ zero_field ∷ fs) (s.z ∷ s.t ∷ ns)) after_x in
    let after_z = second-of (is_in_field zero_field s.z) (are_in_fields (zero_field ∷ fs) (s.t ∷ ns)) after_y in
    let in_x = first-of (is_in_field (record { width = 8; fixed = None }) s.x)
    (are_in_fields (zero_field ∷ zero_field ∷ zero_field ∷ fs) (s.y ∷ s.z ∷ s.t ∷ ns)) e in
    record {
      x = ltb-true s.x 256 (first-of (nat_lt s.x 256) true in_x);
      y = is-zero s.y (first-of (is_in_field zero_field s.y) (are_in_fields (zero_field ∷ zero_field ∷ fs) (s.z ∷ s.t ∷ ns)) after_x);
      z = is-zero s.z (first-of (is_in_field zero_field s.z) (are_in_fields (zero_field ∷ fs) (s.t ∷ ns)) after_y);
      t = is-zero s.t (first-of (is_in_field zero_field s.t) (are_in_fields fs ns) after_z);
    }

is-byte : (n : ℕ) (s : Data) → allows (generated n) s ≡ true → IsByte s
is-byte n s allowed =
    byte-in (drop 4 (fields (generated n))) s (drop 4 (numbers s))
    (second-of (length s.flags == 6) (are_in_fields (fields (generated n)) (numbers s))
    (first-of (length s.flags == 6 && are_in_fields (fields (generated n)) (numbers s)) true allowed))

begins : (n : ℕ) (s : Data) (program : List ℕ) → IsByte s → machine_at (generated n) program s ≡ ready program (blocks (generated n)) 0 s.x (rest_of s)
begins n s program byte = rw (byte.y, machine_at) (rw byte.z (rw byte.t refl))

-- ---- agreement

none-chosen : {A : Type 0} → (n : ℕ) (xs : List A) → chosen (replicate n false) xs ≡ []
none-chosen zero xs = refl
none-chosen (suc n) [] = refl
none-chosen (suc n) (x ∷ xs) = none-chosen n xs

-- the parts that are observed
shown : (n : ℕ) (d : Data) → chosen (generated n).observed (parts_of d) ≡ (d.x ∷ []) ∷ (d.y ∷ []) ∷ (d.z ∷ []) ∷ []
shown n d = ap (λ rest. (d.x ∷ []) ∷ (d.y ∷ []) ∷ (d.z ∷ []) ∷ rest) (none-chosen 10 (drop 3 (parts_of d)))

-- X, and two zeros
abbrev in_stack : ℕ → List (List ℕ)
in_stack x = (x ∷ []) ∷ (0 ∷ []) ∷ (0 ∷ []) ∷ []

in-stack : (n x : ℕ) (over : Option End × Machine) → IsOver x over → chosen (generated n).observed (parts_of over.1.contents) ≡ in_stack x
in-stack n x over is = shown n over.1.contents ∙ three over.1.contents.x over.1.contents.y over.1.contents.z is.shows is.y is.z
  where
    three : (a b c : ℕ) → a ≡ x → b ≡ 0 → c ≡ 0 → (a ∷ []) ∷ (b ∷ []) ∷ (c ∷ []) ∷ [] ≡ in_stack x
    three a b c e f g = rw e (rw f (rw g refl))

same-parts : (x : ℕ) (a b : List (List ℕ)) → a ≡ in_stack x → b ≡ in_stack x → pointwise bytes_eq a b ≡ true
same-parts x a b e f = let same : (x == x) ≡ true = grind (arith, nat_tests) in rw e (rw f (rw same refl))

-- two runs that returned with the same X, and zeros above it
agrees : (n x : ℕ) (first second : Option End × Machine) → IsOver x first → IsOver x second
    → agree_on (generated n).observed (seen_of_run first) (seen_of_run second) ≡ true
agrees n x (end, m) (end2, m2) one other =
    rw one.end (rw other.end (same-parts x _ _ (in-stack n x (end, m) one) (in-stack n x (end2, m2) other)))

pub generated-agree : (n : ℕ) (s : Data) → allows (generated n) s ≡ true → agree (generated n) s ≡ true
generated-agree n s allowed =
    let byte = is-byte n s allowed in
    let steps = draws_for n in
    let one = whole-run in_first first-serves steps (blocks (generated n)) s.x 500 (rest_of s) (within in_first short-first n) in
    let other = whole-run in_second second-serves steps (blocks (generated n)) s.x 500 (rest_of s) (within in_second short-second n) in
    let same : value in_second steps (headed s.x) ≡ value in_first steps (headed s.x) = sym (same-value steps (headed s.x) (small s.x byte.x)) in
    rw (begins n s (routine in_first steps) byte, agree) (rw (begins n s (routine in_second steps) byte)
    (agrees n (value in_first steps (headed s.x)) _ _ one (subst (λ x. IsOver x (run 500 (ready (routine in_second steps) (blocks (generated n)) 0 s.x (rest_of s)))) same other)))
  where
    small : (x : ℕ) → x < 256 → headed x < 256
    small x below = grind (arith, nat_tests)

pub generated-ask-once : (n : ℕ) (s : Data) → allows (generated n) s ≡ true → AskOnce n s
generated-ask-once n s allowed =
    let byte = is-byte n s allowed in
    let steps = draws_for n in
    let one = asked-once in_first first-serves first-asks-nothing steps (blocks (generated n)) s.x 500 (rest_of s) (within in_first short-first n) in
    let other = asked-once in_second second-serves second-asks-nothing steps (blocks (generated n)) s.x 500 (rest_of s) (within in_second short-second n) in
    record {
      first = ap (run_answers 500) (begins n s (routine in_first steps) byte) ∙ one;
      second = ap (run_answers 500) (begins n s (routine in_second steps) byte) ∙ other;
    }
