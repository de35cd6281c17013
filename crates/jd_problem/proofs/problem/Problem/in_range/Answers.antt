use Rattle.jd_problem.specs.Problems.{problem_of}
use Rattle.jd_start.specs.Starts.{start_data}
use Rattle.jd_problem.proofs.FieldLists.{in_range-then, in_range-else}
use Rattle.jd_problem.proofs.problem.Problem.in_range.Goals as goal

pub returns-then-are_in_fields : goal.returns-then-are_in_fields
returns-then-are_in_fields c =
    in_range-then (problem_of c.args.self.now) (start_data c.args.start.now) c.content_numbers.ensures.flags c.content_fields.result c.content_numbers.result c.are_in_fields.result
    c.are_in_fields.ensures c.content_fields.ensures c.content_numbers.ensures.value c.if-are_in_fields.true
    c.as_slice.result.now c.are_nibbles.result c.are_nibbles.ensures c.as_slice.ensures.same

pub returns-else-are_in_fields : goal.returns-else-are_in_fields
returns-else-are_in_fields c =
    in_range-else (problem_of c.args.self.now) (start_data c.args.start.now) c.content_numbers.ensures.flags c.content_fields.result c.content_numbers.result c.are_in_fields.result
    c.are_in_fields.ensures c.content_fields.ensures c.content_numbers.ensures.value c.if-are_in_fields.false
