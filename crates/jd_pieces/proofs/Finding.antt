-- What the search for candidates has found so far.
use Rattle.std.proofs.Common.{◌≡◌, ℕ, zero, suc, lit≤, add-one, ◌+◌, ◌-◌, ◌<◌, ◌≤◌, Bool, true, false, cond, List, [], ◌∷◌, ◌++◌, length, take, drop, get_or, refl, sym, ap, ◌∙◌, subst, append_assoc, arith, drop-cons, length-append, lit<}
use Rattle.std.specs.Prelude.{All, Contains, if◌then◌else◌}
use Rattle.std.proofs.lemmas.List.{drop_more, drop-drop, append-nil}
use Rattle.std.proofs.Math.ListN.{drop_of_length-le}
use Rattle.std.proofs.lemmas.List.Elements.{All-nil, All-cons, All-append, Contains-append_left, Contains-append_right}
use Rattle.jd_pieces.proofs.Standing.{stands-splits, piece-long}
use Rattle.jd_pieces.specs.declared.places.Candidate.{Candidate}
use Rattle.jd_pieces.specs.Rows.{Row, row, rows, row_numbered}
use Rattle.jd_pieces.specs.Candidates.{stands, IsCandidate, found_at, found_from, candidates}

-- what a row adds at a place
abbrev pub found_by : Bool → ℕ → ℕ → List Candidate
found_by b place number = if b then (record { place = place; row = number }) ∷ [] else []

pub found_at-next : (place number : ℕ) (codes : List ℕ) (index : ℕ) → index < length rows →
    found_at place number (drop index rows) codes ≡ found_by (stands (get_or rows index (row [] [])) codes) place number ++ found_at place (suc number) (drop (suc index) rows) codes
found_at-next place number codes index h = ap (λ rs. found_at place number rs codes) (drop-cons rows index (row [] []) h)

-- one more row was looked at, and added where its piece stands
pub push-turn : (found more whole : List Candidate) (place number : ℕ) (codes : List ℕ) → 1 ≤ number → number ≤ 9 →
    more ≡ found_by (stands (row_numbered number) codes) place number →
    found ++ found_at place number (drop (number - 1) rows) codes ≡ whole →
    (found ++ more) ++ found_at place (number + 1) (drop (number + 1 - 1) rows) codes ≡ whole
push-turn found more whole place number codes least most adds so_far =
    let next = found_at-next place number codes (number - 1) (omega arith) in
    let rest = found_at place (suc number) (drop (suc (number - 1)) rows) codes in
    let there : found_at place (number + 1) (drop (number + 1 - 1) rows) codes ≡ rest =
    let a : number + 1 ≡ suc number = omega arith in
    let b : number + 1 - 1 ≡ suc (number - 1) = omega arith in
    ap (λ n. found_at place n (drop (number + 1 - 1) rows) codes) a ∙ ap (λ k. found_at place (suc number) (drop k rows) codes) b in
    append_assoc found more (found_at place (number + 1) (drop (number + 1 - 1) rows) codes)
    ∙ ap (λ xs. found ++ xs) (ap (λ xs. more ++ xs) there ∙ ap (λ xs. xs ++ rest) adds ∙ sym next)
    ∙ so_far

pub found_from-next : (codes : List ℕ) (index : ℕ) → index < length codes →
    found_from (index + 1) (drop index codes) ≡ found_at (index + 1) 1 rows (drop index codes) ++ found_from (index + 1 + 1) (drop (index + 1) codes)
found_from-next codes index h =
    let cons = drop_more codes index 0 h in
    let P : List ℕ → Type 0 = λ xs. found_from (index + 1) xs ≡ found_at (index + 1) 1 rows xs ++ found_from (index + 1 + 1) (drop (index + 1) codes) in
    subst P (sym cons) (ap (λ n. found_at (index + 1) 1 rows (get_or codes index 0 ∷ drop (index + 1) codes) ++ found_from n (drop (index + 1) codes)) (sym (add-one (index + 1))))

-- the operations of one more place were looked at
pub place-turn : (found whole : List Candidate) (codes : List ℕ) (index : ℕ) → index < length codes →
    found ++ found_from (index + 1) (drop index codes) ≡ whole →
    (found ++ found_at (index + 1) 1 rows (drop index codes)) ++ found_from (index + 1 + 1) (drop (index + 1) codes) ≡ whole
place-turn found whole codes index h so_far =
    append_assoc found (found_at (index + 1) 1 rows (drop index codes)) (found_from (index + 1 + 1) (drop (index + 1) codes))
    ∙ ap (λ xs. found ++ xs) (sym (found_from-next codes index h)) ∙ so_far

-- all places were looked at
pub all-looked : (found whole : List Candidate) (codes : List ℕ) (index : ℕ) → length codes ≤ index →
    found ++ found_from (index + 1) (drop index codes) ≡ whole → found ≡ whole
all-looked found whole codes index h so_far =
    let P : List ℕ → Type 0 = λ xs. found ++ found_from (index + 1) xs ≡ whole in
    sym (append-nil found) ∙ subst P (drop_of_length-le codes h) so_far

-- ---- each that is found stands there

one-found : (routine : List ℕ) (place number : ℕ) (codes : List ℕ) (b : Bool) → 1 ≤ place → 1 ≤ number → number ≤ 9 → codes ≡ drop (place - 1) routine →
    stands (row_numbered number) codes ≡ b → All (IsCandidate routine) (found_by b place number)
one-found routine place number codes false place_least least most there e = All-nil (IsCandidate routine)
one-found routine place number codes true place_least least most there e =
    All-cons (IsCandidate routine) (record { place = place; row = number }) []
    (record { place_least = place_least; row_least = least; row_most = most; stands_there = subst (λ xs. stands (row_numbered number) xs ≡ true) there e })
    (All-nil (IsCandidate routine))

-- the rows from a number on
found-rows : (routine : List ℕ) (place number count : ℕ) (codes : List ℕ) → 1 ≤ place → 1 ≤ number → number + count ≡ 10 → codes ≡ drop (place - 1) routine →
    All (IsCandidate routine) (found_at place number (drop (number - 1) rows) codes)
found-rows routine place number zero codes place_least least sum there =
    let none : drop (number - 1) rows ≡ [] = drop_of_length-le rows (omega (arith, sum)) in
    subst (λ rs. All (IsCandidate routine) (found_at place number rs codes)) (sym none) (All-nil (IsCandidate routine))
found-rows routine place number (suc count) codes place_least least sum there =
    let b = stands (row_numbered number) codes in
    let rest = found_at place (suc number) (drop (suc (number - 1)) rows) codes in
    let again : suc number - 1 ≡ suc (number - 1) = omega arith in
    let more : All (IsCandidate routine) rest =
    subst (λ k. All (IsCandidate routine) (found_at place (suc number) (drop k rows) codes)) again
    (found-rows routine place (suc number) count codes place_least (omega arith) (omega (arith, sum)) there) in
    subst (All (IsCandidate routine)) (sym (found_at-next place number codes (number - 1) (omega (arith, sum, least))))
    (All-append (IsCandidate routine) (found_by b place number) rest (one-found routine place number codes b place_least least (omega (arith, sum)) there refl) more)

drop-next : (n : ℕ) (xs : List ℕ) (y : ℕ) (ys : List ℕ) → 1 ≤ n → y ∷ ys ≡ drop (n - 1) xs → ys ≡ drop (suc n - 1) xs
drop-next n xs y ys least e =
    ap (drop 1) e ∙ drop-drop 1 (n - 1) xs ∙ ap (λ k. drop k xs) (omega arith)

found-places : (routine : List ℕ) (place : ℕ) (codes : List ℕ) → 1 ≤ place → codes ≡ drop (place - 1) routine → All (IsCandidate routine) (found_from place codes)
found-places routine place [] least there = All-nil (IsCandidate routine)
found-places routine place (code ∷ codes) least there =
    All-append (IsCandidate routine) (found_at place 1 rows (code ∷ codes)) (found_from (suc place) codes)
    (found-rows routine place 1 9 (code ∷ codes) least (lit≤ tt) refl there)
    (found-places routine (suc place) codes (omega arith) (drop-next place routine code codes least there))

pub all-stand : (routine : List ℕ) → All (IsCandidate routine) (candidates routine)
all-stand routine = found-places routine 1 routine (lit≤ tt) refl

-- ---- each that stands is found

contains-rows : (c : Candidate) (codes : List ℕ) (number more : ℕ) → number + more ≡ c.row → 1 ≤ number → c.row ≤ 9 →
    stands (row_numbered c.row) codes ≡ true → Contains (found_at c.place number (drop (number - 1) rows) codes) c
contains-rows c codes number zero sum least most there =
    let here : number ≡ c.row = omega (arith, sum) in
    let rest = found_at c.place (suc number) (drop (suc (number - 1)) rows) codes in
    let b = stands (row_numbered number) codes in
    let is_true : b ≡ true = ap (λ n. stands (row_numbered n) codes) here ∙ there in
    let found : Contains (found_by true c.place number) c = (0, lit< tt, ap (λ n. record { place = c.place; row = n }) here) in
    subst (λ xs. Contains xs c) (sym (found_at-next c.place number codes (number - 1) (omega (arith, sum, least, most))))
    (Contains-append_left (found_by b c.place number) rest c (subst (λ b. Contains (found_by b c.place number) c) (sym is_true) found))
contains-rows c codes number (suc more) sum least most there =
    let rest = found_at c.place (suc number) (drop (suc (number - 1)) rows) codes in
    let b = stands (row_numbered number) codes in
    let again : suc number - 1 ≡ suc (number - 1) = omega arith in
    let later = contains-rows c codes (suc number) more (omega (arith, sum)) (omega arith) most there in
    subst (λ xs. Contains xs c) (sym (found_at-next c.place number codes (number - 1) (omega (arith, sum, least, most))))
    (Contains-append_right (found_by b c.place number) rest c
    (subst (λ k. Contains (found_at c.place (suc number) (drop k rows) codes) c) again later))

nothing-stands : (c : Candidate) (k : ℕ) → 1 ≤ c.row → c.row ≤ 9 → stands (row_numbered c.row) (drop k []) ≡ true → ⊥
nothing-stands c k least most there =
    let none : drop k [] ≡ [] = drop_of_length-le [] (omega arith) in
    let split = stands-splits (row_numbered c.row) [] (subst (λ xs. stands (row_numbered c.row) xs ≡ true) none there) in
    let long = piece-long c.row least most in
    omega (arith, long, ap length split ∙ length-append (row_numbered c.row).piece (drop (length (row_numbered c.row).piece) []))

contains-places : (c : Candidate) (place k : ℕ) (codes : List ℕ) → c.place ≡ place + k → 1 ≤ c.row → c.row ≤ 9 →
    stands (row_numbered c.row) (drop k codes) ≡ true → Contains (found_from place codes) c
contains-places c place k [] at least most there = absurd (nothing-stands c k least most there)
contains-places c place zero (code ∷ codes) at least most there =
    let here : c.place ≡ place = omega (arith, at) in
    let found = contains-rows c (code ∷ codes) 1 (c.row - 1) (omega (arith, least)) (lit≤ tt) most there in
    Contains-append_left (found_at place 1 rows (code ∷ codes)) (found_from (suc place) codes) c
    (subst (λ n. Contains (found_at n 1 rows (code ∷ codes)) c) here found)
contains-places c place (suc k) (code ∷ codes) at least most there =
    Contains-append_right (found_at place 1 rows (code ∷ codes)) (found_from (suc place) codes) c
    (contains-places c (suc place) k codes (omega (arith, at)) least most there)

pub all-found : (routine : List ℕ) (c : Candidate) → IsCandidate routine c → Contains (candidates routine) c
all-found routine c h = contains-places c 1 (c.place - 1) routine (omega (arith, h.place_least)) h.row_least h.row_most h.stands_there
