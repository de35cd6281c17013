-- Operations that add no gate, and answers put into the content, as changes.
use Rattle.std.proofs.Common.{◌≡◌, ℕ, Bool, List, length, ap, ◌∙◌}
use Rattle.hp_model.specs.declared.Answer.{Answer}
use Rattle.hp_model.specs.State.{Control, Data}
use Rattle.hp_model.specs.Operations.{Operation}
use Rattle.hp_model.specs.Questions.{answers}
use Rattle.hp_model.specs.DataStep.{changed}
use Rattle.jd_circuit.specs.Net.{Net, Grows, Solves, variables}
use Rattle.jd_circuit.proofs.Values.{Grows-same}
use Rattle.jd_rows.specs.declared.answer.SymAnswer.{SymAnswer}
use Rattle.jd_rows.specs.Answers.{answer_on, AnswerFits}
use Rattle.jd_content.specs.declared.content.SymContent.{SymContent}
use Rattle.jd_content.specs.Meaning.{Changes, Fits, Puts, data_on}
use Rattle.jd_content.proofs.Contents.{answer_at, fits_grow}

pub alone : (net : Net) (k : Control) (op : Operation) (given : List Bool) (w : ℕ) (old new : SymContent)
    → ((val : ℕ → Bool) → answers k op (data_on val old) ≡ given → data_on val new ≡ changed k op given (data_on val old))
    → Fits (variables net) w new → length new.nibbles ≡ length old.nibbles → Changes net net k op given w old new
alone net k op given w old new m f s = record { contents = λ val _ e. m val e; fits = f; same = s; grows = Grows-same net }

-- an answer that is a row of the operation's, put where the operation puts it
pub put_row : (a b : Net) (k : Control) (op : Operation) (given : List Bool) (put : Answer → Data → Data) (row : Data → Answer) (old new : SymContent) (answer : SymAnswer)
    → Fits (variables a) k.size old → Grows a b → AnswerFits (variables b) (length old.x) answer
    → ((val : ℕ → Bool) → Solves b val → answers k op (data_on val old) ≡ given → answer_on val answer ≡ row (data_on val old))
    → ((d : Data) → put (row d) d ≡ changed k op given d)
    → Puts put answer old new → Changes a b k op given k.size old new
put_row a b k op given put row old new answer h grows fits means is puts = record {
  contents = λ val s e. puts.meaning val ∙ ap (λ (r : Answer). put r (data_on val old)) (means val s e) ∙ is (data_on val old);
  fits = puts.fits _ _ (fits_grow _ _ _ _ grows h) (answer_at _ _ _ _ h.x.size fits);
  same = puts.same;
  grows = grows;
}
