-- Paths that begin lists of answers.
use Rattle.std.proofs.Common.{◌≡◌, ◌&&◌, Bool, true, false, List, [], ◌∷◌, ◌++◌, refl, sym, ap, ◌∙◌}
use Rattle.std.specs.Bool.{beq}
use Rattle.std.proofs.lemmas.Bool.{false≢true}
use Rattle.jd_text.proofs.Tests.{left-part, right-part}
use Rattle.jd_books.specs.Paths.{begins}

pub beq-same : (a b : Bool) → beq a b ≡ true → a ≡ b
beq-same true true h = refl
beq-same true false h = absurd (false≢true h)
beq-same false true h = absurd (false≢true h)
beq-same false false h = refl

pub begins-split : (path xs : List Bool) → begins path xs ≡ true → (rest : List Bool) × (xs ≡ path ++ rest)
begins-split [] xs h = (xs, refl)
begins-split (b ∷ path) [] h = absurd (false≢true h)
begins-split (b ∷ path) (x ∷ xs) h =
    let more = begins-split path xs (right-part (beq b x) (begins path xs) h) in
    (more.0, ap (λ y. y ∷ xs) (sym (beq-same b x (left-part (beq b x) (begins path xs) h))) ∙ ap {B = List Bool} (λ r. b ∷ r) more.1)

pub begins-front : (path rest : List Bool) → begins path (path ++ rest) ≡ true
begins-front [] rest = refl
begins-front (true ∷ path) rest = begins-front path rest
begins-front (false ∷ path) rest = begins-front path rest

pub begins-append : (front path xs : List Bool) → begins (front ++ path) (front ++ xs) ≡ begins path xs
begins-append [] path xs = refl
begins-append (true ∷ front) path xs = begins-append front path xs
begins-append (false ∷ front) path xs = begins-append front path xs

-- a longer path begins less
pub begins-longer : (path more xs : List Bool) → begins path xs ≡ false → begins (path ++ more) xs ≡ false
begins-longer [] more xs h = absurd (false≢true (sym h))
begins-longer (b ∷ path) more [] h = refl
begins-longer (b ∷ path) more (x ∷ xs) h = by_first (beq b x) h (begins-longer path more xs)
  where
    by_first : (e : Bool) → (e && begins path xs) ≡ false → (begins path xs ≡ false → begins (path ++ more) xs ≡ false) → (e && begins (path ++ more) xs) ≡ false
    by_first true h longer = longer h
    by_first false h longer = refl

pub begins-shorter : (path more xs : List Bool) → begins (path ++ more) xs ≡ true → begins path xs ≡ true
begins-shorter path more xs h = by_front (begins path xs) refl
  where
    by_front : (e : Bool) → begins path xs ≡ e → begins path xs ≡ true
    by_front true e = e
    by_front false e = absurd (false≢true (sym (begins-longer path more xs e) ∙ h))
