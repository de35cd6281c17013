use Rattle.std.proofs.Common.{◌∙◌, ap, []}
use Rattle.hp_words.specs.Contents.{data_of}
use Rattle.jd_model.specs.Assumptions.{meets}
use Rattle.jd_start.proofs.Contents.{meets-same}
use Rattle.jd_start.proofs.assumptions.meets.Goals as goal

pub returns : goal.returns
returns c = λ nibbles.
    c.all_hold.ensures ∙ ap (λ assumed. meets assumed (data_of c.args.content.now [])) c.as_slice.ensures.same
    ∙ meets-same c.args.content.now nibbles c.args.assumed.now
