-- The leaf of a walk's path is faithful.
use Rattle.std.proofs.Common.{◌≡◌, Bool, true, List, ◌++◌, Option, Some, None, refl, sym, ap, ◌∙◌, subst, arith}
use Rattle.std.proofs.lemmas.Bool.{false≢true}
use Rattle.jd_circuit.specs.declared.literals.Lit.{Lit}
use Rattle.jd_circuit.specs.declared.literals.Lit.TheVariants.{Const}
use Rattle.jd_circuit.specs.Net.{Net, IsLit, IsWired, variables}
use Rattle.jd_model.specs.Problems.{Problem, free_bits}
use Rattle.jd_trees.specs.declared.Kind.{Kind}
use Rattle.jd_trees.specs.declared.Kind.TheVariants.{Whole, Cut}
use Rattle.jd_books.specs.Leaves.{Leaf, IsFaithful}
use Rattle.jd_walk.specs.declared.runs.Position.{Position}
use Rattle.jd_walk.specs.declared.places.FirstEnd.{FirstEnd}
use Rattle.jd_walk.specs.declared.places.Next.{Next}
use Rattle.jd_walk.specs.declared.places.Next.TheVariants.{Ask, Done}
use Rattle.jd_walk.specs.declared.places.Saved.{Saved}
use Rattle.jd_walk.specs.Spots.{IsSpot, NextHolds, IsWalk}
use Rattle.jd_walk.specs.Walked.{is_done}
use Rattle.jd_walk.specs.Leaves.{diff_at}
use Rattle.jd_walk.proofs.Standing.{leaf-here}

true-inside : (net : Net) → IsLit (variables net) (Const true)
true-inside net = (omega arith, omega arith)

faithful-here : (p : Problem) (net : Net) (path : List Bool) (assumed guards : List Lit) (at : Position) (next : Option Next) (kind : Kind) → IsWired net.inputs net.gates → IsSpot p net path assumed guards → NextHolds p net path at next
    → (kind ≡ Whole → is_done next ≡ true) → IsFaithful p (record { path = path; inputs = net.inputs; gates = net.gates; guards = assumed ++ guards; diff = diff_at next kind; kind = kind })
faithful-here p net path assumed guards at (Some (Done l)) Whole wired h said whole = leaf-here p net path assumed guards l Whole wired h said.inside (λ e. said) (λ e. cc)
faithful-here p net path assumed guards at (Some (Ask l)) Whole wired h said whole = absurd (false≢true (whole refl))
faithful-here p net path assumed guards at None Whole wired h said whole = absurd (false≢true (whole refl))
faithful-here p net path assumed guards at (Some (Done l)) Cut wired h said whole = leaf-here p net path assumed guards (Const true) Cut wired h (true-inside net) (λ e. cc) (λ e. refl)
faithful-here p net path assumed guards at (Some (Ask l)) Cut wired h said whole = leaf-here p net path assumed guards (Const true) Cut wired h (true-inside net) (λ e. cc) (λ e. refl)
faithful-here p net path assumed guards at None Cut wired h said whole = leaf-here p net path assumed guards (Const true) Cut wired h (true-inside net) (λ e. cc) (λ e. refl)

pub leaf-faithful : (p : Problem) (net : Net) (path : List Bool) (assumed guards : List Lit) (saved : List Saved) (first : Option FirstEnd) (at : Position) (next : Option Next) (kind : Kind) (l : Leaf) → IsWired net.inputs net.gates
    → IsWalk p net path assumed guards saved first at next → (kind ≡ Whole → is_done next ≡ true)
    → l.path ≡ path → l.inputs ≡ free_bits p → l.gates ≡ net.gates → l.guards ≡ assumed ++ guards → l.diff ≡ diff_at next kind → l.kind ≡ kind → IsFaithful p l
leaf-faithful p net path assumed guards saved first at next kind l wired w whole e1 e2 e3 e4 e5 e6 =
    subst (λ x. IsFaithful p (record { path = x; inputs = l.inputs; gates = l.gates; guards = l.guards; diff = l.diff; kind = l.kind })) (sym e1)
    (subst (λ x. IsFaithful p (record { path = path; inputs = x; gates = l.gates; guards = l.guards; diff = l.diff; kind = l.kind })) (w.spot.inputs.inputs ∙ sym e2)
    (subst (λ x. IsFaithful p (record { path = path; inputs = net.inputs; gates = x; guards = l.guards; diff = l.diff; kind = l.kind })) (sym e3)
    (subst (λ x. IsFaithful p (record { path = path; inputs = net.inputs; gates = net.gates; guards = x; diff = l.diff; kind = l.kind })) (sym e4)
    (subst (λ x. IsFaithful p (record { path = path; inputs = net.inputs; gates = net.gates; guards = assumed ++ guards; diff = x; kind = l.kind })) (sym e5)
    (subst (λ x. IsFaithful p (record { path = path; inputs = net.inputs; gates = net.gates; guards = assumed ++ guards; diff = diff_at next kind; kind = x })) (sym e6)
    (faithful-here p net path assumed guards at next kind wired w.spot w.said whole))))))

-- leaves of equal parts
pub same-leaf : (l m : Leaf) → l.path ≡ m.path → l.inputs ≡ m.inputs → l.gates ≡ m.gates → l.guards ≡ m.guards → l.diff ≡ m.diff → l.kind ≡ m.kind → l ≡ m
same-leaf l m e1 e2 e3 e4 e5 e6 =
    ap {B = Leaf} (λ x. record l { path = x }) e1 ∙ ap {B = Leaf} (λ x. record l { path = m.path; inputs = x }) e2 ∙ ap {B = Leaf} (λ x. record l { path = m.path; inputs = m.inputs; gates = x }) e3
    ∙ ap {B = Leaf} (λ x. record m { guards = x; diff = l.diff; kind = l.kind }) e4 ∙ ap {B = Leaf} (λ x. record m { diff = x; kind = l.kind }) e5 ∙ ap {B = Leaf} (λ x. record m { kind = x }) e6
