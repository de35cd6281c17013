-- an answer of the rules that are left is one of all
use Rattle.std.proofs.Common.{drop}
use Rattle.std.specs.declared.option.Option.{Option}
use Rattle.jd_circuit.specs.declared.literals.Lit.{Lit}
use Rattle.jd_rules.specs.Answers.{FirstOf}
use Rattle.jd_rules.proofs.first.first_answer.Given as goal

abbrev pub invariant-loop-rule : goal.invariant-loop-rule
invariant-loop-rule g l =
    let may = g.R.Rewrite.may_answer in
    (answer : Option Lit) → FirstOf may (drop l.rule-index l.rules) l.gate answer → FirstOf may l.rules l.gate answer
