use Rattle.std.proofs.Common.{◌∙◌, ap, sym}
use Rattle.hp_ops.specs.Meaning.{operation}
use Rattle.hp_control.specs.Controls.{control_of}
use Rattle.jd_content.specs.Meaning.{data_on}
use Rattle.jd_questions.specs.Questions.{asked, asked_if}
use Rattle.jd_questions.proofs.AskedData.{is_asked}
use Rattle.jd_questions.proofs.asking.asks.Goals as goal

-- the machine's next question
pub returns-in-None-clause-asks : goal.returns-in-None-clause-asks
returns-in-None-clause-asks g c =
    let k = control_of c.args.control.now (g.P.Program.listing c.args.program.now) in
    sym (c.next_question.ensures k (sym c.bytes.ensures.value)) ∙ ap asked_if c.in-None.is

pub returns-in_ok-l-in-Some-clause-asks : goal.returns-in_ok-l-in-Some-clause-asks
returns-in_ok-l-in-Some-clause-asks g c =
    let listing = g.P.Program.listing c.args.program.now in
    let k = control_of c.args.control.now listing in
    let next = sym (c.next_question.ensures k (sym c.bytes.ensures.value)) ∙ ap asked_if c.in-Some.is in
    record {
      question = asked c.in-Some.question;
      next = next;
      inside = c.in_ok-l-in-Some.ensures.of;
      means = λ val s given. c.in_ok-l-in-Some.ensures.meaning listing (sym c.register_count-registers.ensures) val s
          (is_asked k (operation c.args.op) c.args.given.now (asked c.in-Some.question) (data_on val c.args.content.now) next given);
    }
