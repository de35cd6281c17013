-- A cut stands where no allowed start comes, so what is claimed of starts plays no part in it.
use Rattle.std.proofs.Common.{◌≡◌, sym, ◌∙◌}
use Rattle.jd_model.specs.Problems.{Problem}
use Rattle.jd_trees.specs.declared.Kind.{Kind}
use Rattle.jd_trees.specs.declared.Kind.TheVariants.{Whole, Cut}
use Rattle.jd_books.specs.Leaves.{Leaf, Claim, IsFaithfulTo}

not-whole : (k : Kind) → k ≡ Cut → k ≡ Whole → ⊥
not-whole Whole cut whole = cc
not-whole Cut cut whole = cc

pub cut-faithful : (p : Problem) (claim other : Claim) (l : Leaf) → l.kind ≡ Cut → IsFaithfulTo p claim l → IsFaithfulTo p other l
cut-faithful p claim other l cut f = record {
  inputs = f.inputs;
  leaf = f.leaf;
  walked = f.walked;
  guards = f.guards;
  whole = λ whole. absurd (not-whole l.kind cut whole);
  cut = f.cut;
}
