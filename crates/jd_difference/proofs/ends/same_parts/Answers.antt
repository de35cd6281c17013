use Rattle.std.proofs.Common.{◌≡◌, ◌&&◌, ap, ◌∙◌}
use Rattle.jd_start.specs.Parts.{marks_of}
use Rattle.jd_circuit.specs.Meaning.{lit_value}
use Rattle.jd_circuit.proofs.Values.{solves_before}
use Rattle.jd_content.specs.Meaning.{data_on}
use Rattle.jd_difference.proofs.Comparing.{flags-count, parts-beside, parts-without}
use Rattle.jd_difference.proofs.ends.same_parts.Goals as goal

pub returns-then-not-contains-clause-means : goal.returns-then-not-contains-clause-means
returns-then-not-contains-clause-means g c = λ val s.
    let n = c.in_ok-numbers.ensures in
    parts-without (marks_of c.args.problem.now.observed) (data_on val c.args.first.now) (data_on val c.args.second.now) (lit_value val c.in_ok-numbers.numbers) c.contains.result
    (flags-count val c.args.first.now n.flags.0) (flags-count val c.args.second.now n.flags.1) (n.means val s) c.contains.ensures c.if-not-contains.true

pub returns-clause-means : goal.returns-clause-means
returns-clause-means g c = λ val s.
    let n = c.in_ok-numbers.ensures in
    let m = c.in_ok-memory.ensures in
    let a = c.in_ok-same.ensures in
    let s1 = solves_before _ _ val a.grows s in
    let s0 = solves_before _ _ val m.grows s1 in
    let here = data_on val c.args.first.now in
    let there = data_on val c.args.second.now in
    a.meaning val s ∙ ap (λ b. lit_value val c.in_ok-numbers.numbers && b) (m.means val s1)
    ∙ parts-beside (marks_of c.args.problem.now.observed) here there (lit_value val c.in_ok-numbers.numbers) c.contains.result
    (flags-count val c.args.first.now n.flags.0) (flags-count val c.args.second.now n.flags.1) (n.means val s0) c.contains.ensures c.if-not-contains.false
