use Rattle.std.proofs.Common.{◌≡◌, ◌++◌, ◌∷◌, [], length, true, inr, refl, sym, ap, ◌∙◌, subst}
use Rattle.std.specs.Prelude.{is_some}
use Rattle.jd_problem.specs.Problems.{problem_of}
use Rattle.jd_model.specs.Problems.{free_bits, start_of}
use Rattle.jd_trees.specs.declared.Kind.TheVariants.{Cut}
use Rattle.jd_trees.specs.Trees.{IsCert, IsNode, node}
use Rattle.jd_books.specs.Paths.{next_path}
use Rattle.jd_books.specs.Leaves.{clauses_of, IsFaithfulTo}
use Rattle.jd_leaves.specs.Views.{leaf_of}
use Rattle.jd_proving.specs.Proving.{IsModel, IsRefuted}
use Rattle.jd_propagate.specs.Answers.{IsAnswer}
use Rattle.jd_decided.proofs.Values.{model-count}
use Rattle.jd_judge.specs.Judging.{Comes, IsEqual, IsJudgedTo, IsPlaced}
use Rattle.jd_judge.proofs.Turns.{back-some, next-filled}
use Rattle.jd_judge.proofs.Placing.{IsRefutedHere, cut-for, model-comes, unknown-here, refuted-here, cut-next, cut-finished}
use Rattle.jd_judge.proofs.steps.enter.Goals as goal

pub start_with-requires : goal.start_with-requires
start_with-requires g c =
    let leaf = c.in_ok-leaf.leaf in
    let m : IsModel (clauses_of (leaf_of leaf)) leaf.inputs c.in-Model.bits = subst (IsAnswer (clauses_of (leaf_of leaf)) leaf.inputs c.args.problem.now.budget) c.in-Model.is c.in_ok-bits.ensures in
    ap length c.as_slice.ensures ∙ model-count (clauses_of (leaf_of leaf)) leaf.inputs c.in-Model.bits m
    ∙ c.in_ok-leaf.ensures.faithful.inputs ∙ ap free_bits c.places.invariant.1.problem

pub returns-in-Model : goal.returns-in-Model
returns-in-Model g c =
    let claim = g.C.Claim.holds c.args.claim.now in
    let p = problem_of c.args.problem.now in
    let w = c.places.judging.walk in
    let placed = c.places.invariant.1 in
    let leaf = c.in_ok-leaf.leaf in
    let m : IsModel (clauses_of (leaf_of leaf)) leaf.inputs c.in-Model.bits = subst (IsAnswer (clauses_of (leaf_of leaf)) leaf.inputs c.args.problem.now.budget) c.in-Model.is c.in_ok-bits.ensures in
    let f : IsFaithfulTo p claim (leaf_of leaf) = subst (λ q. IsFaithfulTo q claim (leaf_of leaf)) placed.problem (cut-for w claim (leaf_of leaf) c.in_ok-leaf.ensures).faithful in
    record {
      placed = placed;
      witness = subst (Comes p w.path) (sym (c.start_with.ensures ∙ ap (start_of p) c.as_slice.ensures))
          (model-comes p claim w (leaf_of leaf) c.in-Model.bits c.requires.ranges f c.in_ok-leaf.ensures.path m (model-count (clauses_of (leaf_of leaf)) leaf.inputs c.in-Model.bits m));
    }

pub returns-in-Unknown : goal.returns-in-Unknown
returns-in-Unknown g c =
    let claim = g.C.Claim.holds c.args.claim.now in
    let p = problem_of c.args.problem.now in
    let leaf = c.in_ok-leaf.leaf in
    unknown-here p claim (leaf_of leaf) c.in-Unknown.log c.args.problem.now.budget
    (subst (λ q. IsFaithfulTo q claim (leaf_of leaf)) c.places.invariant.1.problem (cut-for c.places.judging.walk claim (leaf_of leaf) c.in_ok-leaf.ensures).faithful)
    (inr (λ e. c.places.invariant.0 (sym c.in_ok-leaf.ensures.path ∙ e)))
    (subst (IsAnswer (clauses_of (leaf_of leaf)) leaf.inputs c.args.problem.now.budget) c.in-Unknown.is c.in_ok-bits.ensures) refl

-- the cut that stands here
pub into_equal-requires : goal.into_equal-requires
into_equal-requires g c =
    let claim = g.C.Claim.holds c.args.claim.now in
    let p = problem_of c.args.problem.now in
    let old = c.places.judging in
    let placed = c.places.invariant.1 in
    let leaf = c.in_ok-leaf.leaf in
    let log = c.in-Refuted.log in
    let refuted : IsRefuted (clauses_of (leaf_of leaf)) c.args.problem.now.budget log = subst (IsAnswer (clauses_of (leaf_of leaf)) leaf.inputs c.args.problem.now.budget) c.in-Refuted.is c.in_ok-bits.ensures in
    let here : IsRefutedHere p claim old.walk Cut (leaf_of leaf) log = refuted-here p claim old.walk Cut (leaf_of leaf) log c.args.problem.now.budget refl (cut-for old.walk claim (leaf_of leaf) c.in_ok-leaf.ensures) placed.problem refuted (subst IsNode c.node.ensures.node c.node.ensures.ranges) in
    let nodes = c.in_ok-push-in-Refuted.ensures.items ∙ ap (λ n. old.nodes.items ++ n ∷ []) c.node.ensures.node in
    subst IsCert (sym nodes)
    (cut-finished p claim old.walk old.nodes.items old.book old.starts (leaf_of leaf) log placed here (sym c.back.ensures.back ∙ c.if-not-back.true)).cert

pub returns-then-not-back : goal.returns-then-not-back
returns-then-not-back g c =
    let claim = g.C.Claim.holds c.args.claim.now in
    let p = problem_of c.args.problem.now in
    let old = c.places.judging in
    let placed = c.places.invariant.1 in
    let leaf = c.in_ok-leaf.leaf in
    let log = c.in-Refuted.log in
    let refuted : IsRefuted (clauses_of (leaf_of leaf)) c.args.problem.now.budget log = subst (IsAnswer (clauses_of (leaf_of leaf)) leaf.inputs c.args.problem.now.budget) c.in-Refuted.is c.in_ok-bits.ensures in
    let here : IsRefutedHere p claim old.walk Cut (leaf_of leaf) log = refuted-here p claim old.walk Cut (leaf_of leaf) log c.args.problem.now.budget refl (cut-for old.walk claim (leaf_of leaf) c.in_ok-leaf.ensures) placed.problem refuted (subst IsNode c.node.ensures.node c.node.ensures.ranges) in
    let nodes = c.in_ok-push-in-Refuted.ensures.items ∙ ap (λ n. old.nodes.items ++ n ∷ []) c.node.ensures.node in
    subst (IsJudgedTo p claim) (sym c.into_equal.ensures)
    (subst (λ ns. IsEqual p claim c.push-in-Refuted.new.self ns) (sym nodes)
    (subst (λ b. IsEqual p claim b (old.nodes.items ++ node Cut log ∷ [])) (sym c.in_ok-push-in-Refuted-2.ensures.pushed)
    (cut-finished p claim old.walk old.nodes.items old.book old.starts (leaf_of leaf) log placed here (sym c.back.ensures.back ∙ c.if-not-back.true)).equal))

pub places-preserved : goal.places-preserved
places-preserved g c =
    let claim = g.C.Claim.holds c.args.claim.now in
    let p = problem_of c.args.problem.now in
    let old = c.places.judging in
    let placed = c.places.invariant.1 in
    let leaf = c.in_ok-leaf.leaf in
    let log = c.in-Refuted.log in
    let refuted : IsRefuted (clauses_of (leaf_of leaf)) c.args.problem.now.budget log = subst (IsAnswer (clauses_of (leaf_of leaf)) leaf.inputs c.args.problem.now.budget) c.in-Refuted.is c.in_ok-bits.ensures in
    let here : IsRefutedHere p claim old.walk Cut (leaf_of leaf) log = refuted-here p claim old.walk Cut (leaf_of leaf) log c.args.problem.now.budget refl (cut-for old.walk claim (leaf_of leaf) c.in_ok-leaf.ensures) placed.problem refuted (subst IsNode c.node.ensures.node c.node.ensures.ranges) in
    let nodes = c.in_ok-push-in-Refuted.ensures.items ∙ ap (λ n. old.nodes.items ++ n ∷ []) c.node.ensures.node in
    let some : is_some (next_path old.walk.path) ≡ true = sym c.back.ensures.back ∙ c.if-not-back.false in
    let k = c.back.new.self in (
      next-filled old.walk.path k.path (back-some old.walk k c.back.ensures.walk some).path,
      subst (λ b. IsPlaced p claim k c.push.new.self.items b old.starts) (sym c.in_ok-push-in-Refuted-2.ensures.pushed)
          (subst (λ ns. IsPlaced p claim k ns (old.book ++ leaf_of leaf ∷ []) old.starts) (sym nodes)
          (cut-next p claim old.walk old.nodes.items old.book old.starts (leaf_of leaf) log k placed here c.back.ensures.walk some)),
    )
