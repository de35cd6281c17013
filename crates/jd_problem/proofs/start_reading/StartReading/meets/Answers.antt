use Rattle.std.proofs.Common.{◌∙◌, ◌++◌, ap}
use Rattle.jd_model.specs.Assumptions.{meets}
use Rattle.jd_model.specs.Problems.{start_with}
use Rattle.jd_problem.proofs.start_reading.StartReading.meets.Goals as goal

pub returns : goal.returns
returns c =
    let nibbles = c.self.inside.nibbles in
    c.meets.ensures nibbles
    ∙ ap (meets c.args.assumed.now)
    (c.content_with.ensures nibbles ∙ ap (λ numbers. start_with (numbers ++ nibbles)) c.as_slice.ensures.value ∙ ap (λ reading. start_with reading.numbers) c.self.view_is)
