use Rattle.std.proofs.Common.{◌≡◌, ◌∙◌, ap, false, get_or, refl}
use Rattle.jd_model.specs.Problems.{content_numbers}
use Rattle.jd_start.specs.Parts.{marks_of}
use Rattle.jd_start.specs.Starts.{start_data}
use Rattle.jd_agreement.specs.Agreement.{same_numbers}
use Rattle.jd_agreement.proofs.Observed.{parts-decided}
use Rattle.jd_replay.proofs.agreement.same_parts.Goals as goal

pub returns-then-not-contains : goal.returns-then-not-contains
returns-then-not-contains c =
    let marks = marks_of c.args.observed.now in
    let here = start_data c.args.first.now in
    let there = start_data c.args.second.now in
    let numbers : c.same_numbers.result ≡ same_numbers marks (content_numbers here) (content_numbers there) =
    c.same_numbers.ensures ∙ ap (λ ns. same_numbers marks ns c.content_numbers-2.result) c.content_numbers.ensures.value ∙ ap (same_numbers marks (content_numbers here)) c.content_numbers-2.ensures.value in
    rw (c.if-not-contains.true)
    (rw (c.if-same_numbers.true, c.if-not-contains.true) at (parts-decided marks here there c.same_numbers.result c.contains.result c.content_numbers.ensures.flags c.content_numbers-2.ensures.flags numbers c.contains.ensures))

pub returns-else-not-contains : goal.returns-else-not-contains
returns-else-not-contains c =
    let marks = marks_of c.args.observed.now in
    let here = start_data c.args.first.now in
    let there = start_data c.args.second.now in
    let numbers : c.same_numbers.result ≡ same_numbers marks (content_numbers here) (content_numbers there) =
    c.same_numbers.ensures ∙ ap (λ ns. same_numbers marks ns c.content_numbers-2.result) c.content_numbers.ensures.value ∙ ap (same_numbers marks (content_numbers here)) c.content_numbers-2.ensures.value in
    c.same_nibbles.ensures
    ∙ (rw (c.if-same_numbers.true, c.if-not-contains.false) at (parts-decided marks here there c.same_numbers.result c.contains.result c.content_numbers.ensures.flags c.content_numbers-2.ensures.flags numbers c.contains.ensures))

pub returns-else-same_numbers : goal.returns-else-same_numbers
returns-else-same_numbers c =
    let marks = marks_of c.args.observed.now in
    let here = start_data c.args.first.now in
    let there = start_data c.args.second.now in
    let numbers : c.same_numbers.result ≡ same_numbers marks (content_numbers here) (content_numbers there) =
    c.same_numbers.ensures ∙ ap (λ ns. same_numbers marks ns c.content_numbers-2.result) c.content_numbers.ensures.value ∙ ap (same_numbers marks (content_numbers here)) c.content_numbers-2.ensures.value in
    c.if-same_numbers.false
    ∙ (rw (c.if-same_numbers.false) at (parts-decided marks here there c.same_numbers.result (get_or marks 12 false) c.content_numbers.ensures.flags c.content_numbers-2.ensures.flags numbers refl))
