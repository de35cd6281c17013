-- What follows from a check's answers.
use Rattle.std.proofs.Common.{◌≡◌, Bool, List, Option, Some, None, sym, ap, ◌∙◌}
use Rattle.std.proofs.lemmas.Bool.{false≢true}
use Rattle.jd_trees.specs.Trees.{Tree}
use Rattle.jd_model.specs.Seen.{agree}
use Rattle.jd_books.specs.Leaves.{Leaf}
use Rattle.jd_books.specs.Trees.{places, uncovered}
use Rattle.jd_books.specs.Checks.{BadAt, first_bad, first_open}
use Rattle.jd_books.proofs.SoundTree.{sound}
use Rattle.jd_check.specs.declared.checked.Checked.TheVariants as c
use Rattle.jd_check.specs.Laws.{OneRightAnswer, Sound}

pub checked-sound : Sound
checked-sound p tree (c.Equal book) h e = sound p (agree p) tree book h
checked-sound p tree (c.Shape path) h e = absurd (false≢true e)
checked-sound p tree (c.Bad book path line cause) h e = absurd (false≢true e)
checked-sound p tree (c.More book path) h e = absurd (false≢true e)

-- none and some can't both be first
apart : {A G : Type 0} (o : Option A) (a : A) → o ≡ None → o ≡ Some a → G
apart o a none some = cc

apart-bad : {G : Type 0} (tree : Tree) (x y : List Leaf) (bad : BadAt) → x ≡ y → first_bad x (places tree) ≡ None → first_bad y (places tree) ≡ Some bad → G
apart-bad tree x y bad same none some = apart (first_bad y (places tree)) bad (ap (λ b. first_bad b (places tree)) (sym same) ∙ none) some

apart-open : {G : Type 0} (tree : Tree) (x y : List Leaf) (path : List Bool) → x ≡ y → first_open x (places tree) ≡ None → first_open y (places tree) ≡ Some path → G
apart-open tree x y path same none some = apart (first_open y (places tree)) path (ap (λ b. first_open b (places tree)) (sym same) ∙ none) some

one-some : {A : Type 0} (o : Option A) (a b : A) → o ≡ Some a → o ≡ Some b → a ≡ b
one-some o a b h k = cc

pub one-answer : OneRightAnswer
one-answer p tree (c.Equal x) (c.Equal y) h k e = ap c.Equal e
one-answer p tree (c.Equal x) (c.Shape q) h k e = apart (uncovered p tree) q h.covered.covers k
one-answer p tree (c.Equal x) (c.Bad y q line cause) h k e = apart-bad tree x y (record { path = q; line = line; cause = cause }) e h.right k.first
one-answer p tree (c.Equal x) (c.More y q) h k e = apart-open tree x y q e h.refuted k.first
one-answer p tree (c.Shape q) (c.Equal y) h k e = apart (uncovered p tree) q k.covered.covers h
one-answer p tree (c.Shape q) (c.Shape r) h k e = ap c.Shape (one-some (uncovered p tree) q r h k)
one-answer p tree (c.Shape q) (c.Bad y r line cause) h k e = apart (uncovered p tree) q k.covered.covers h
one-answer p tree (c.Shape q) (c.More y r) h k e = apart (uncovered p tree) q k.covered.covers h
one-answer p tree (c.Bad x q line cause) (c.Equal y) h k e = apart-bad tree y x (record { path = q; line = line; cause = cause }) (sym e) k.right h.first
one-answer p tree (c.Bad x q line cause) (c.Shape r) h k e = apart (uncovered p tree) r h.covered.covers k
one-answer p tree (c.Bad x q line cause) (c.Bad y r more why) h k e =
    let one : BadAt = record { path = q; line = line; cause = cause } in
    let other : BadAt = record { path = r; line = more; cause = why } in
    let same : one ≡ other = one-some (first_bad y (places tree)) one other (ap (λ b. first_bad b (places tree)) (sym e) ∙ h.first) k.first in
    let paths : q ≡ r = ap (λ (b : BadAt). b.path) same in
    let lines : line ≡ more = ap (λ (b : BadAt). b.line) same in
    let causes : cause ≡ why = ap (λ (b : BadAt). b.cause) same in
    cc
one-answer p tree (c.Bad x q line cause) (c.More y r) h k e = apart-bad tree y x (record { path = q; line = line; cause = cause }) (sym e) k.right h.first
one-answer p tree (c.More x q) (c.Equal y) h k e = apart-open tree y x q (sym e) k.refuted h.first
one-answer p tree (c.More x q) (c.Shape r) h k e = apart (uncovered p tree) r h.covered.covers k
one-answer p tree (c.More x q) (c.Bad y r line cause) h k e = apart-bad tree x y (record { path = r; line = line; cause = cause }) e h.right k.first
one-answer p tree (c.More x q) (c.More y r) h k e =
    let same : q ≡ r = one-some (first_open y (places tree)) q r (ap (λ b. first_open b (places tree)) (sym e) ∙ h.first) k.first in
    cc
