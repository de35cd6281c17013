use Rattle.std.proofs.Common.{◌≡◌, drop, ap, ◌∙◌}
use Rattle.jd_model.specs.Problems.{content_fields, nibble_fields, in_range, numbers_in, free_widths}
use Rattle.jd_model.proofs.FreeStarts.{bits-of-starts}
use Rattle.jd_problem.specs.Problems.{problem_of}
use Rattle.jd_problem.proofs.FieldLists.{start_of-parts}
use Rattle.jd_problem.proofs.problem.Problem.start_of.Goals as goal

start-is : goal.returns-clause-start
start-is c =
    let p = problem_of c.args.self.now in
    let taken = c.as_slice-bits in
    let fields = c.content_fields-fields in
    let content : c.as_slice.result.now ≡ numbers_in (content_fields p) c.args.bits.now =
    c.as_slice.ensures.value ∙ c.numbers_in-content.ensures ∙ ap (λ fs. numbers_in fs taken.result.now) fields.ensures ∙ ap (numbers_in (content_fields p)) taken.ensures.same in
    let at : c.free_widths.result ≡ free_widths (content_fields p) = c.free_widths.ensures.value ∙ ap free_widths fields.ensures in
    let nibbles : c.nibbles_in-nibbles.result ≡ numbers_in (nibble_fields p) (drop (free_widths (content_fields p)) c.args.bits.now) =
    c.nibbles_in-nibbles.ensures.value ∙ ap (λ n. numbers_in (nibble_fields p) (drop n taken.result.now)) at
    ∙ ap (λ bits. numbers_in (nibble_fields p) (drop (free_widths (content_fields p)) bits)) taken.ensures.same in
    c.start_with.ensures ∙ start_of-parts p c.args.bits.now c.as_slice.result.now c.nibbles_in-nibbles.result content nibbles

pub returns-clause-start : goal.returns-clause-start
returns-clause-start c = start-is c

pub returns-clause-ranged : goal.returns-clause-ranged
returns-clause-ranged c =
    let p = problem_of c.args.self.now in
    ap (in_range p) (start-is c) ∙ (bits-of-starts p c.nibbles_in-nibbles.ensures.ranges).ranged c.args.bits.now c.requires
