use Rattle.std.proofs.Common.{◌≡◌, ◌-◌, ◌∷◌, ◌++◌, [], length, take, slice_get, Some, ap, ◌∙◌, refl}
use Rattle.jd_circuit.specs.Meaning.{lit_value}
use Rattle.jd_circuit.proofs.SimpleGates.{value-opposite}
use Rattle.jd_vectors.specs.Number.{number}
use Rattle.jd_vectors.proofs.Kept.{front, Inside-at, Inside-push, Inside-take, IsLit-opposite}
use Rattle.jd_comparisons.proofs.RaisedWords.{raised_number}
use Rattle.jd_comparisons.proofs.compare.raised_word.Goals as goal

lits : (c : goal.After-push) → c.push.new.self ≡ take (length c.args.x.now - 1) c.args.x.now ++ c.opposite.result ∷ []
lits c = c.push.ensures ∙ rw (c.part-lits.ensures, c.len-size.ensures.len, front c.args.x.now (length c.args.x.now - 1)) refl

top : (c : goal.After-push) → slice_get c.args.x.now (length c.args.x.now - 1) ≡ Some c.at.result
top c = rw c.len-size.ensures.len at c.at.ensures

pub returns-clause-inside : goal.returns-clause-inside
returns-clause-inside c = λ n h. rw (lits c) (Inside-push n _ _ (Inside-take n _ _ h) (rw c.opposite.ensures (IsLit-opposite n c.at.result (Inside-at n _ _ _ h (top c)))))

pub returns-clause-number : goal.returns-clause-number
returns-clause-number c = λ val. ap (number val) (lits c)
    ∙ raised_number val c.args.x.now c.at.result c.opposite.result c.requires (top c) (ap (lit_value val) c.opposite.ensures ∙ value-opposite val c.at.result)
