use Rattle.std.proofs.Common.{◌+◌, ◌∙◌, subst, length, take}
use Rattle.std.specs.Io.KnownBytes.{Appends}
use Rattle.jd_model.specs.Seen.{seen_text}
use Rattle.jd_start.specs.Parts.{marks_of}
use Rattle.jd_replay.specs.Seen.{seen_of}
use Rattle.jd_replay.proofs.TwoParts.{second-part}
use Rattle.jd_replay.proofs.seen_line.write_seen.Goals as goal

pub returns-clause-part : goal.returns-clause-part
returns-clause-part g c =
    let written = g.K.Sink.written in
    let between = written c.write_whole.new.sink in
    let part = c.write_whole-2.ensures.part in (
      length c.args.name.now + part.0,
      second-part (written c.args.sink.now) between (written c.write_whole-2.new.sink) c.args.name.now (seen_text (marks_of c.args.problem.now.observed) (seen_of c.args.seen.now)) part.0
          (subst (Appends (written c.args.sink.now) between) c.as_bytes.ensures.value c.in_ok-write_whole.ensures.whole)
          (subst (λ text. Appends between (written c.write_whole-2.new.sink) (take part.0 text)) (c.as_bytes-2.ensures.value ∙ c.as_str.ensures.value ∙ c.seen_text.ensures) part.2),
    )
