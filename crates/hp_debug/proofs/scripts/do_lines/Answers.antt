use Rattle.std.proofs.Common.{◌∙◌, arith}
use Rattle.hp_debug.specs.ParsedLines.{line_of_parsed}
use Rattle.hp_debug.proofs.ScriptOutput.{all-written, all-taken, line-written, line-cut, none_left, ends_here}
use Rattle.hp_debug.proofs.scripts.do_lines.Goals as goal

pub returns-in-None-clause-whole : goal.returns-in-None-clause-whole
returns-in-None-clause-whole g c =
    all-written _ _ _ _ _ _ _ c.lines.invariant.so_far (ends_here c.lines.first c.lines.debugger c.args.bytes.now c.in-Some.line.now c.lines.at c.in-Some.next c.in-Some.ensures c.in-None.ensures.value)

pub returns-in-None-clause-part : goal.returns-in-None-clause-part
returns-in-None-clause-part g c =
    all-taken _ _ _ _ _ _ _ c.lines.invariant.so_far (ends_here c.lines.first c.lines.debugger c.args.bytes.now c.in-Some.line.now c.lines.at c.in-Some.next c.in-Some.ensures c.in-None.ensures.value)

pub returns-in_err-write_whole-clause-part : goal.returns-in_err-write_whole-clause-part
returns-in_err-write_whole-clause-part g c =
    let piece_is = c.as_bytes.ensures.value ∙ c.as_str.ensures.value ∙ c.push.ensures.ascii (omega arith) in
    line-cut _ _ _ _ _ _ _ c.lines.invariant.so_far c.do_line-text.new.debugger c.in-Some.line.now c.do_line-text.result.bytes c.as_bytes.result.now c.in-Some.next
    (line_of_parsed c.in-Some.line.now c.in-Some-parse_line.parsed) _ c.in-Some.ensures c.in-Some-parse_line.ensures.value c.do_line-text.ensures.output piece_is c.write_whole.ensures.part

pub lines-preserved : goal.lines-preserved
lines-preserved g c =
    let piece_is = c.as_bytes.ensures.value ∙ c.as_str.ensures.value ∙ c.push.ensures.ascii (omega arith) in
    record {
      within = c.in-Some.ensures.within;
      so_far = line-written _ _ _ _ _ _ _ c.lines.invariant.so_far c.do_line-text.new.debugger c.in-Some.line.now c.do_line-text.result.bytes c.as_bytes.result.now c.in-Some.next
          (line_of_parsed c.in-Some.line.now c.in-Some-parse_line.parsed) _ c.in-Some.ensures c.in-Some-parse_line.ensures.value c.do_line-text.ensures.output piece_is c.in_ok-write_whole.ensures.whole;
      faults = omega (arith, c.lines.invariant.faults, c.write_whole.ensures.cause.later);
    }

pub returns-clause-whole : goal.returns-clause-whole
returns-clause-whole g c =
    all-written _ _ _ _ _ _ _ c.lines.invariant.so_far (none_left c.lines.first c.lines.debugger c.args.bytes.now c.lines.at c.in_default.ensures)

pub returns-clause-part : goal.returns-clause-part
returns-clause-part g c =
    all-taken _ _ _ _ _ _ _ c.lines.invariant.so_far (none_left c.lines.first c.lines.debugger c.args.bytes.now c.lines.at c.in_default.ensures)
