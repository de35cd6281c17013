use Rattle.std.proofs.Common.{◌≡◌, None, ◌++◌, ◌∷◌, [], length, true, inl, refl, sym, ap, ◌∙◌, subst}
use Rattle.std.specs.Prelude.{is_some}
use Rattle.jd_problem.specs.Problems.{problem_of}
use Rattle.jd_model.specs.Problems.{free_bits, start_of}
use Rattle.jd_trees.specs.declared.Kind.TheVariants.{Whole}
use Rattle.jd_trees.specs.Trees.{IsCert, IsNode, node}
use Rattle.jd_books.specs.Paths.{next_path}
use Rattle.jd_books.specs.Trees.{leaf_fault}
use Rattle.jd_walk.specs.Walked.{Walked}
use Rattle.jd_books.specs.Leaves.{clauses_of, IsFaithfulTo}
use Rattle.jd_books.specs.Outcomes.{IsCounterexample}
use Rattle.jd_check.proofs.Taking.{over-none}
use Rattle.jd_leaves.specs.Views.{leaf_of}
use Rattle.jd_proving.specs.Proving.{IsModel, IsRefuted}
use Rattle.jd_propagate.specs.Answers.{IsAnswer}
use Rattle.jd_decided.proofs.Values.{model-count}
use Rattle.jd_judge.specs.Judging.{IsEqual, IsJudgedTo, IsOwn, IsPlaced, with_start}
use Rattle.jd_judge.proofs.Turns.{back-some, next-filled}
use Rattle.jd_judge.proofs.Placing.{IsRefutedHere, said-placed, model-differs, unknown-here, refuted-here, whole-next, whole-finished}
use Rattle.jd_judge.proofs.steps.decide.Goals as goal

pub start_with-requires : goal.start_with-requires
start_with-requires g c =
    let leaf = c.in_ok-leaf.leaf in
    let m : IsModel (clauses_of (leaf_of leaf)) leaf.inputs c.in-Model.bits = subst (IsAnswer (clauses_of (leaf_of leaf)) leaf.inputs c.args.problem.now.budget) c.in-Model.is c.in_ok-bits.ensures in
    ap length c.as_slice.ensures ∙ model-count (clauses_of (leaf_of leaf)) leaf.inputs c.in-Model.bits m
    ∙ c.in_ok-leaf.ensures.leaf.faithful.inputs ∙ ap free_bits (ap (λ (v : Walked). v.problem) c.in_ok-leaf.ensures.walk ∙ c.requires.placed.problem)

pub returns-in-Model : goal.returns-in-Model
returns-in-Model g c =
    let claim = g.C.Claim.holds c.args.claim.now in
    let p = problem_of c.args.problem.now in
    let leaf = c.in_ok-leaf.leaf in
    let m : IsModel (clauses_of (leaf_of leaf)) leaf.inputs c.in-Model.bits = subst (IsAnswer (clauses_of (leaf_of leaf)) leaf.inputs c.args.problem.now.budget) c.in-Model.is c.in_ok-bits.ensures in
    let f : IsFaithfulTo p claim (leaf_of leaf) = subst (λ q. IsFaithfulTo q claim (leaf_of leaf)) (ap (λ (v : Walked). v.problem) c.in_ok-leaf.ensures.walk ∙ c.requires.placed.problem) c.in_ok-leaf.ensures.leaf.faithful in
    subst (IsCounterexample p claim) (sym (c.start_with.ensures ∙ ap (start_of p) c.as_slice.ensures))
    (model-differs p claim (leaf_of leaf) c.in-Model.bits c.requires.ranges f c.in_ok-leaf.ensures.leaf.kind_is m (model-count (clauses_of (leaf_of leaf)) leaf.inputs c.in-Model.bits m))

pub returns-in-Unknown : goal.returns-in-Unknown
returns-in-Unknown g c =
    let claim = g.C.Claim.holds c.args.claim.now in
    let p = problem_of c.args.problem.now in
    let leaf = c.in_ok-leaf.leaf in
    unknown-here p claim (leaf_of leaf) c.in-Unknown.log c.args.problem.now.budget
    (subst (λ q. IsFaithfulTo q claim (leaf_of leaf)) (ap (λ (v : Walked). v.problem) c.in_ok-leaf.ensures.walk ∙ c.requires.placed.problem) c.in_ok-leaf.ensures.leaf.faithful) (inl c.in_ok-leaf.ensures.leaf.kind_is)
    (subst (IsAnswer (clauses_of (leaf_of leaf)) leaf.inputs c.args.problem.now.budget) c.in-Unknown.is c.in_ok-bits.ensures) refl

-- the leaf that was refuted stands here: `here`, `nodes` as in each answer below
pub into_equal-requires : goal.into_equal-requires
into_equal-requires g c =
    let claim = g.C.Claim.holds c.args.claim.now in
    let p = problem_of c.args.problem.now in
    let old = c.args.judging in
    let w = c.whole_leaf.new.walk in
    let said = c.in_ok-leaf.ensures.walk in
    let path : w.path ≡ old.walk.path = ap (λ (v : Walked). v.path) said in
    let placed = said-placed p claim old.walk w old.nodes.items old.book old.starts c.requires.placed (ap (λ (v : Walked). v.problem) said) path (ap (λ (v : Walked). v.spent) said) in
    let leaf = c.in_ok-leaf.leaf in
    let log = c.in-Refuted.log in
    let refuted : IsRefuted (clauses_of (leaf_of leaf)) c.args.problem.now.budget log = subst (IsAnswer (clauses_of (leaf_of leaf)) leaf.inputs c.args.problem.now.budget) c.in-Refuted.is c.in_ok-bits.ensures in
    let here : IsRefutedHere p claim w Whole (leaf_of leaf) log =
    refuted-here p claim w Whole (leaf_of leaf) log c.args.problem.now.budget (subst (λ q. leaf_fault p q Whole ≡ None) (sym path) (over-none p old.walk.path c.requires.over)) c.in_ok-leaf.ensures.leaf placed.problem refuted (subst IsNode c.node.ensures.node c.node.ensures.ranges) in
    let nodes = c.in_ok-push-in-Refuted.ensures.items ∙ ap (λ n. old.nodes.items ++ n ∷ []) c.node.ensures.node in
    subst IsCert (sym nodes)
    (whole-finished p claim w old.nodes.items old.book old.starts (leaf_of leaf) log placed here c.requires.room (sym c.back.ensures.back ∙ c.if-not-back.true)).cert

pub returns-then-not-back : goal.returns-then-not-back
returns-then-not-back g c =
    let claim = g.C.Claim.holds c.args.claim.now in
    let p = problem_of c.args.problem.now in
    let old = c.args.judging in
    let w = c.whole_leaf.new.walk in
    let said = c.in_ok-leaf.ensures.walk in
    let path : w.path ≡ old.walk.path = ap (λ (v : Walked). v.path) said in
    let placed = said-placed p claim old.walk w old.nodes.items old.book old.starts c.requires.placed (ap (λ (v : Walked). v.problem) said) path (ap (λ (v : Walked). v.spent) said) in
    let leaf = c.in_ok-leaf.leaf in
    let log = c.in-Refuted.log in
    let refuted : IsRefuted (clauses_of (leaf_of leaf)) c.args.problem.now.budget log = subst (IsAnswer (clauses_of (leaf_of leaf)) leaf.inputs c.args.problem.now.budget) c.in-Refuted.is c.in_ok-bits.ensures in
    let here : IsRefutedHere p claim w Whole (leaf_of leaf) log =
    refuted-here p claim w Whole (leaf_of leaf) log c.args.problem.now.budget (subst (λ q. leaf_fault p q Whole ≡ None) (sym path) (over-none p old.walk.path c.requires.over)) c.in_ok-leaf.ensures.leaf placed.problem refuted (subst IsNode c.node.ensures.node c.node.ensures.ranges) in
    let nodes = c.in_ok-push-in-Refuted.ensures.items ∙ ap (λ n. old.nodes.items ++ n ∷ []) c.node.ensures.node in
    subst (IsJudgedTo p claim) (sym c.into_equal.ensures)
    (subst (λ ns. IsEqual p claim c.push-in-Refuted.new.self ns) (sym nodes)
    (subst (λ b. IsEqual p claim b (old.nodes.items ++ node Whole log ∷ [])) (sym c.in_ok-push-in-Refuted-2.ensures.pushed)
    (whole-finished p claim w old.nodes.items old.book old.starts (leaf_of leaf) log placed here c.requires.room (sym c.back.ensures.back ∙ c.if-not-back.true)).equal))

pub enter-requires-clause-path : goal.enter-requires-clause-path
enter-requires-clause-path g c =
    let w = c.whole_leaf.new.walk in
    let k = c.back.new.self in
    let some : is_some (next_path w.path) ≡ true = sym c.back.ensures.back ∙ c.if-not-back.false in
    next-filled w.path k.path (back-some w k c.back.ensures.walk some).path

pub enter-requires-clause-placed : goal.enter-requires-clause-placed
enter-requires-clause-placed g c =
    let claim = g.C.Claim.holds c.args.claim.now in
    let p = problem_of c.args.problem.now in
    let old = c.args.judging in
    let w = c.whole_leaf.new.walk in
    let said = c.in_ok-leaf.ensures.walk in
    let path : w.path ≡ old.walk.path = ap (λ (v : Walked). v.path) said in
    let placed = said-placed p claim old.walk w old.nodes.items old.book old.starts c.requires.placed (ap (λ (v : Walked). v.problem) said) path (ap (λ (v : Walked). v.spent) said) in
    let leaf = c.in_ok-leaf.leaf in
    let log = c.in-Refuted.log in
    let refuted : IsRefuted (clauses_of (leaf_of leaf)) c.args.problem.now.budget log = subst (IsAnswer (clauses_of (leaf_of leaf)) leaf.inputs c.args.problem.now.budget) c.in-Refuted.is c.in_ok-bits.ensures in
    let here : IsRefutedHere p claim w Whole (leaf_of leaf) log =
    refuted-here p claim w Whole (leaf_of leaf) log c.args.problem.now.budget (subst (λ q. leaf_fault p q Whole ≡ None) (sym path) (over-none p old.walk.path c.requires.over)) c.in_ok-leaf.ensures.leaf placed.problem refuted (subst IsNode c.node.ensures.node c.node.ensures.ranges) in
    let nodes = c.in_ok-push-in-Refuted.ensures.items ∙ ap (λ n. old.nodes.items ++ n ∷ []) c.node.ensures.node in
    let k = c.back.new.self in
    subst (IsPlaced p claim k c.push.new.self.items c.push-in-Refuted.new.self) (sym c.in_ok-keep-in-Refuted.ensures)
    (subst (λ b. IsPlaced p claim k c.push.new.self.items b (with_start old.starts c.args.start)) (sym c.in_ok-push-in-Refuted-2.ensures.pushed)
    (subst (λ ns. IsPlaced p claim k ns (old.book ++ leaf_of leaf ∷ []) (with_start old.starts c.args.start)) (sym nodes)
    (whole-next p claim w old.nodes.items old.book old.starts (leaf_of leaf) log k c.args.start placed here (subst (λ q. IsOwn p q c.args.start) (sym path) c.requires.own) c.requires.room c.back.ensures.walk (sym c.back.ensures.back ∙ c.if-not-back.false))))
