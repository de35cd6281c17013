use Rattle.std.proofs.Common.{◌<◌, ◌≤◌, ◌++◌, ◌∷◌, [], false, length, get_or, sym, ap, ◌∙◌, arith}
use Rattle.std.proofs.lemmas.List.{length-take-le, take_all, take_more}
use Rattle.jd_problem.specs.Problems.{problem_of}
use Rattle.jd_model.specs.Problems.{start_of}
use Rattle.jd_judge.proofs.steps.start_with.Goals as goal

pub loop-i-preserved : goal.loop-i-preserved
loop-i-preserved c =
    let bits = c.args.bits.now in
    let i = c.loop-i.i in
    let inside : i < length bits = omega arith in
    c.push.ensures ∙ ap (λ xs. xs ++ get_or bits i false ∷ []) c.loop-i.invariant ∙ sym (take_more bits i false inside)

pub push-requires : goal.push-requires
push-requires c =
    let bits = c.args.bits.now in
    let i = c.loop-i.i in
    let within : i ≤ length bits = omega arith in
    omega (arith, ap length c.loop-i.invariant, length-take-le i bits within)

pub start_of-requires : goal.start_of-requires
start_of-requires c =
    let bits = c.args.bits.now in
    let i = c.loop-i.i in
    let all : length bits ≤ i = omega arith in
    ap length (c.loop-i.invariant ∙ take_all i bits all) ∙ c.requires

pub returns : goal.returns
returns c =
    let bits = c.args.bits.now in
    let i = c.loop-i.i in
    let all : length bits ≤ i = omega arith in
    c.start_of.ensures.start ∙ ap (start_of (problem_of c.args.problem.now)) (c.loop-i.invariant ∙ take_all i bits all)
