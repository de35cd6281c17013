use Rattle.std.proofs.Common.{◌≡◌, false, sym, ap, ◌∙◌, subst}
use Rattle.hp_model.specs.State.{Control, Data}
use Rattle.jd_circuit.specs.Net.{variables}
use Rattle.jd_model.specs.Problems.{bits}
use Rattle.jd_model.specs.Seen.{Seen}
use Rattle.jd_problem.specs.Problems.{problem_of}
use Rattle.jd_content.specs.Meaning.{Fits, data_on}
use Rattle.jd_books.specs.Walks.{seen_as}
use Rattle.jd_symbolic.specs.Machine.{Stands, val_of}
use Rattle.jd_difference.specs.Ends.{HasShape}
use Rattle.jd_walk.specs.Spots.{IsFor}
use Rattle.jd_walk.specs.SymEnds.{IsEndOf, seen_on}
use Rattle.jd_walk.proofs.Turning.{for-grown, solves-start}
use Rattle.jd_walk.proofs.Ends.{begun-grown}
use Rattle.jd_walk.proofs.Differing.{end-of, seen-end, shape-of}
use Rattle.jd_walk.proofs.differences.literal_at.Goals as goal

pub literal-requires-clause-start : goal.literal-requires-clause-start
literal-requires-clause-start g c =
    let b = c.in_ok-start.ensures.begun in
    subst (λ w. Fits (variables c.begun.new.c) w c.in_ok-start.start.content) (ap (λ (k : Control). k.size) b.control ∙ sym c.requires.size) b.machine.stands.fits

pub literal-requires-clause-first : goal.literal-requires-clause-first
literal-requires-clause-first g c =
    let first = c.args.first.now in
    subst (IsEndOf c.begun.new.c) (sym c.in_ok-one.ensures)
    (end-of c.begun.new.c first.end first.content (subst (λ n. HasShape (variables n) first.content) (sym c.in_ok-start.ensures.same) c.requires.first.shape))

pub literal-requires-clause-second : goal.literal-requires-clause-second
literal-requires-clause-second g c =
    let m = c.args.at.now.machine in
    subst (IsEndOf c.begun.new.c) (sym c.in_ok-other.ensures)
    (end-of c.begun.new.c c.args.last m.content (shape-of c.begun.new.c m (subst (λ n. Stands n m) (sym c.in_ok-start.ensures.same) c.requires.stands)))

pub returns-clause-means : goal.returns-clause-means
returns-clause-means g c = λ s ranged.
    let p = problem_of c.args.problem.now in
    let mid = c.begun.new.c in
    let net = c.literal.new.c in
    let b = c.in_ok-start.ensures in
    let l = c.in_ok-l.ensures in
    let begins : IsFor p mid = subst (IsFor p) (sym b.same) c.requires.inputs in
    let inputs : IsFor p net = for-grown p mid net l.grows begins in
    let val = val_of net (bits p s) in
    let start : data_on val c.in_ok-start.start.content ≡ s = (begun-grown p false mid net c.in_ok-start.start begins l.grows b.begun).means s ranged in
    let first = c.args.first.now in
    let content = c.args.at.now.machine.content in
    let differs = g.D.Difference.differs c.args.difference.now in
    let one : seen_on val c.in_ok-one.one ≡ seen_as first.end (data_on val first.content) = ap (seen_on val) c.in_ok-one.ensures ∙ seen-end val first.end first.content in
    let other : seen_on val c.in_ok-other.other ≡ seen_as c.args.last (data_on val content) = ap (seen_on val) c.in_ok-other.ensures ∙ seen-end val c.args.last content in
    l.means val (solves-start p net s inputs.inputs c.mark.ensures.wired ranged)
    ∙ ap (λ (d : Data). differs d (seen_on val c.in_ok-one.one) (seen_on val c.in_ok-other.other)) start
    ∙ ap (λ (x : Seen). differs s x (seen_on val c.in_ok-other.other)) one ∙ ap (differs s (seen_as first.end (data_on val first.content))) other
