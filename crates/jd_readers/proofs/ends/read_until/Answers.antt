use Rattle.std.proofs.Common.{sym, ap, ◌∙◌}
use Rattle.jd_text.specs.Words.{words_of}
use Rattle.jd_readers.proofs.LinesRead.{read-to, reads-on}
use Rattle.jd_readers.proofs.ends.read_until.Goals as goal

pub returns-then-is_whole-clause-read : goal.returns-then-is_whole-clause-read
returns-then-is_whole-clause-read g c =
    let with_line = g.R.TakesLines.with_line in
    let state = g.R.TakesLines.state in
    read-to g.R.TakesLines.is_whole c.args.missing (with_line c.args.reader.now) (state c.args.reader.now) c.args.text.now
    c.in-Some.line.now c.lines.at c.in-Some.next c.lines.count (state c.lines.reader) (state c.take_line.new.self) c.lines.invariant.on c.in-Some.ensures
    (sym (ap (λ take. take (state c.lines.reader) (words_of c.in-Some.line.now)) c.lines.invariant.kept) ∙ c.in-Ok.ensures.takes)
    (sym c.is_whole.ensures ∙ c.if-is_whole.true)

pub lines-preserved : goal.lines-preserved
lines-preserved g c =
    let with_line = g.R.TakesLines.with_line in
    let state = g.R.TakesLines.state in
    record {
      kept = c.in-Ok.ensures.kept ∙ c.lines.invariant.kept;
      on = reads-on g.R.TakesLines.is_whole c.args.missing (with_line c.args.reader.now) (state c.args.reader.now) c.args.text.now
          c.in-Some.line.now c.lines.at c.in-Some.next c.lines.count (state c.lines.reader) (state c.take_line.new.self) c.lines.invariant.on c.in-Some.ensures
          (sym (ap (λ take. take (state c.lines.reader) (words_of c.in-Some.line.now)) c.lines.invariant.kept) ∙ c.in-Ok.ensures.takes)
          (sym c.is_whole.ensures ∙ c.if-is_whole.false);
    }
