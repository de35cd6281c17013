use Rattle.std.proofs.Common.{ℕ, ◌-◌, List, length, take, drop, ap, subst, ◌∙◌}
use Rattle.std.proofs.lemmas.List.{take_rest}
use Rattle.jd_lines.specs.SourceLines.{LineState, IsAdded}
use Rattle.jd_lines.proofs.Advanced.{held-fed, held-all}
use Rattle.jd_lines.proofs.reading.SourceLines.take_held.Goals as goal

abbrev from : ℕ → List ℕ → List ℕ
from at piece = take (length piece - at) (drop at piece)

pub returns-in-Ok-Some-clause-taken : goal.returns-in-Ok-Some-clause-taken
returns-in-Ok-Some-clause-taken c =
    let rest = from c.self.inside.at c.deref.result.now in
    rw (← c.self.view_is)
    (held-fed c.self.inside.line.items c.add_up_to_feed.new.line.items c.self.inside.piece.items rest c.self.inside.at c.self.inside.within c.self.inside.ended
    (ap (λ (s : LineState). s.ended) c.self.view_is ∙ c.requires) (take_rest c.deref.result.now c.self.inside.at ∙ ap (drop c.self.inside.at) c.deref.ensures.value) c.in-Ok-Some.count
    (subst (λ fed. IsAdded c.self.inside.line.items rest c.add_up_to_feed.new.line.items fed) c.in-Ok-Some.field-0-is c.in-Ok-Some.ensures.added))

pub returns-in-Ok-None-clause-taken : goal.returns-in-Ok-None-clause-taken
returns-in-Ok-None-clause-taken c =
    let rest = from c.self.inside.at c.deref.result.now in
    rw (← c.self.view_is)
    (held-all c.self.inside.line.items c.add_up_to_feed.new.line.items c.self.inside.piece.items rest c.self.inside.at c.self.inside.within c.self.inside.ended
    (ap (λ (s : LineState). s.ended) c.self.view_is ∙ c.requires) (take_rest c.deref.result.now c.self.inside.at ∙ ap (drop c.self.inside.at) c.deref.ensures.value) _
    (subst (λ fed. IsAdded c.self.inside.line.items rest c.add_up_to_feed.new.line.items fed) c.in-Ok-None.field-0-is c.in-Ok-None.ensures.added))
