use Rattle.std.proofs.Common.{◌≡◌, ◌++◌, arith, ◌∙◌, refl}
use Rattle.jd_vectors.proofs.Kept.{Inside-append}
use Rattle.jd_vectors.proofs.Numbers.{number-append}
use Rattle.jd_products.proofs.doubles.double_word.Goals as goal

pub whole_is : (c : goal.After-append) → c.append.new.self ≡ c.args.lower.now ++ c.args.upper.now
whole_is c = c.append.ensures ∙ rw c.copy-whole.ensures refl

pub returns-clause-inside : goal.returns-clause-inside
returns-clause-inside c = λ n h i. rw (whole_is c) (Inside-append n c.args.lower.now c.args.upper.now i h)

pub returns-clause-number : goal.returns-clause-number
returns-clause-number c = λ val. rw (whole_is c) (number-append val c.args.lower.now c.args.upper.now ∙ omega arith)
