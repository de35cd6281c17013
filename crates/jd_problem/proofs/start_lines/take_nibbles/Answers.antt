use Rattle.std.proofs.Common.{suc, arith, ap, sym, ◌∙◌, ◌++◌, map}
use Rattle.std.specs.Prelude.{Ok}
use Rattle.std.proofs.lemmas.List.{length-map}
use Rattle.jd_text.specs.Digits.{digit_value}
use Rattle.jd_problem.specs.Problems.{problem_of}
use Rattle.jd_problem.proofs.StartLines.{nibbles-refused, nibbles-judged, numbers_taken}
use Rattle.jd_problem.proofs.start_lines.take_nibbles.Goals as goal

pub returns-then-word-from : goal.returns-then-word-from
returns-then-word-from c =
    nibbles-refused (problem_of c.args.problem.now) c.args.reading.now (map digit_value c.args.word.now) c.requires.line (omega (arith, length-map c.args.word.now digit_value))

pub returns-then-not-are_nibbles_in : goal.returns-then-not-are_nibbles_in
returns-then-not-are_nibbles_in c =
    nibbles-judged (problem_of c.args.problem.now) c.args.reading.now (map digit_value c.args.word.now) c.fill_up.new.nibbles c.nibbles_of-nibbles.result c.as_slice.result.now
    c.nibble_field.result c.nibble_count-count.result c.are_nibbles_in.result c.requires.line (omega (arith, length-map c.args.word.now digit_value))
    c.nibbles_of-nibbles.ensures c.nibble_count-count.ensures.value c.fill_up.ensures c.nibble_field.ensures.value c.as_slice.ensures.same c.are_nibbles_in.ensures
    ∙ ap (λ b. numbers_taken b c.args.reading.now c.fill_up.new.nibbles) c.if-not-are_nibbles_in.true

pub returns : goal.returns
returns c =
    nibbles-judged (problem_of c.args.problem.now) c.args.reading.now (map digit_value c.args.word.now) c.fill_up.new.nibbles c.nibbles_of-nibbles.result c.as_slice.result.now
    c.nibble_field.result c.nibble_count-count.result c.are_nibbles_in.result c.requires.line (omega (arith, length-map c.args.word.now digit_value))
    c.nibbles_of-nibbles.ensures c.nibble_count-count.ensures.value c.fill_up.ensures c.nibble_field.ensures.value c.as_slice.ensures.same c.are_nibbles_in.ensures
    ∙ ap (λ b. numbers_taken b c.args.reading.now c.fill_up.new.nibbles) c.if-not-are_nibbles_in.false
    ∙ ap (λ k. Ok (record { given = suc k; numbers = c.args.reading.now.numbers ++ c.fill_up.new.nibbles })) c.requires.line
    ∙ sym (ap Ok c.take_nibbles.ensures)
