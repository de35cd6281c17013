use Rattle.std.proofs.Common.{rules, ◌∙◌, true, ap, sym, arith, eq-eqb}
use Rattle.std.proofs.lemmas.Bool.{ne_eqb}
use Rattle.hp_session.specs.Progress.{Progress}
use Rattle.hp_session.specs.Steps.{Halts}
use Rattle.hp_session.proofs.Parts.{ended}
use Rattle.hp_session.proofs.Steps.{letter-halts, bad_at_separator, blank-goes, blank-word, blank-line, line-goes, line-halts, line-next, line-word}
use Rattle.hp_session.proofs.reading.Reading.take.Goals as goal

pub returns-then-not-is_separator-clause-halts : goal.returns-then-not-is_separator-clause-halts
returns-then-not-is_separator-clause-halts g c = letter-halts _ _ _ _ _ (sym c.is_separator.ensures ∙ c.if-not-is_separator.true) c.add_letter.ensures

pub returns-in_err-end_word-clause-halts : goal.returns-in_err-end_word-clause-halts
returns-in_err-end_word-clause-halts g c =
    let written = g.K.Sink.written c.args.sink.now in
    let bad : Halts c.args.byte c.in_err-end_word.field-0.0 c.args.self.now written written = bad_at_separator c.in_err-end_word.field-0.0 c.args.self.now c.args.byte written (sym c.is_separator.ensures ∙ c.if-not-is_separator.false) (omega (arith, c.requires.word)) c.in_err-end_word.ensures.0 c.in_err-end_word.ensures.1 in
    search (rules, bad)

pub end_line-requires : goal.end_line-requires
end_line-requires g c = omega (arith, c.requires.line, ap (λ (r : Progress). r.line) (ended c.args.self.now c.end_word.new.self c.in_ok-end_word.ensures))

pub returns-then-byte-eq10-clause-goes : goal.returns-then-byte-eq10-clause-goes
returns-then-byte-eq10-clause-goes g c =
    line-goes c.end_line.result c.args.self.now c.end_word.new.self c.end_line.new.self c.args.byte _ _ (eq-eqb _ _ c.if-byte-eq10.true) c.in_ok-end_word.ensures c.end_line.ensures.state c.end_line.ensures.text

pub returns-then-byte-eq10-clause-word : goal.returns-then-byte-eq10-clause-word
returns-then-byte-eq10-clause-word g c = line-word c.end_line.result c.args.self.now c.end_word.new.self c.end_line.new.self c.in_ok-end_word.ensures c.end_line.ensures.state

pub returns-then-byte-eq10-clause-line : goal.returns-then-byte-eq10-clause-line
returns-then-byte-eq10-clause-line g c = line-next c.end_line.result c.args.self.now c.end_word.new.self c.end_line.new.self c.in_ok-end_word.ensures c.end_line.ensures.state

pub returns-then-byte-eq10-clause-halts : goal.returns-then-byte-eq10-clause-halts
returns-then-byte-eq10-clause-halts g c =
    line-halts c.end_line.result c.args.self.now c.end_word.new.self c.args.byte _ _ (eq-eqb _ _ c.if-byte-eq10.true) c.in_ok-end_word.ensures c.end_line.ensures.cut

pub returns-clause-goes : goal.returns-clause-goes
returns-clause-goes g c =
    blank-goes c.args.self.now c.end_word.new.self _ c.args.byte _ (sym c.is_separator.ensures ∙ c.if-not-is_separator.false) (ne_eqb _ _ c.if-byte-eq10.false) c.in_ok-end_word.ensures
    (ap (λ (r : Progress). record r { begun = true }) (sym c.self.view_is))

pub returns-clause-word : goal.returns-clause-word
returns-clause-word g c = blank-word c.args.self.now c.end_word.new.self _ c.in_ok-end_word.ensures (ap (λ (r : Progress). record r { begun = true }) (sym c.self.view_is))

pub returns-clause-line : goal.returns-clause-line
returns-clause-line g c = blank-line c.args.self.now c.end_word.new.self _ c.in_ok-end_word.ensures (ap (λ (r : Progress). record r { begun = true }) (sym c.self.view_is))
