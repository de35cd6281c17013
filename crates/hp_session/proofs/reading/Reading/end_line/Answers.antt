use Rattle.std.proofs.Common.{arith}
use Rattle.hp_session.proofs.Steps.{cut_text}
use Rattle.hp_session.proofs.reading.Reading.end_line.Goals as goal

pub returns-then-is_err-clause-cut : goal.returns-then-is_err-clause-cut
returns-then-is_err-clause-cut g c =
    let part = rw (c.as_bytes.ensures.value, c.as_str.ensures.value, c.push.ensures.ascii (omega arith), c.show-text.ensures.text) at c.write_whole.ensures.part in
    rw (← c.self.view_is) (cut_text _ _ _ part.0 part.2)
