-- Answers put into the content, where no gate is added.
use Rattle.std.proofs.Common.{◌≡◌, ℕ, Bool, List, length}
use Rattle.hp_model.specs.declared.Answer.{Answer}
use Rattle.hp_model.specs.State.{Control, Data}
use Rattle.hp_model.specs.Operations.{Operation}
use Rattle.hp_model.specs.DataStep.{changed}
use Rattle.jd_circuit.specs.Net.{Net, variables}
use Rattle.jd_circuit.proofs.Values.{Grows-same}
use Rattle.jd_rows.specs.declared.answer.SymAnswer.{SymAnswer}
use Rattle.jd_rows.specs.Answers.{answer_on, AnswerFits}
use Rattle.jd_content.specs.declared.content.SymContent.{SymContent}
use Rattle.jd_content.specs.Meaning.{Changes, Fits, Puts, data_on}
use Rattle.jd_content.proofs.Alone.{put_row}

pub put_alone : (net : Net) (k : Control) (op : Operation) (given : List Bool) (put : Answer → Data → Data) (row : Data → Answer) (old new : SymContent) (answer : SymAnswer)
    → Fits (variables net) k.size old → AnswerFits (variables net) (length old.x) answer
    → ((val : ℕ → Bool) → answer_on val answer ≡ row (data_on val old))
    → ((d : Data) → put (row d) d ≡ changed k op given d)
    → Puts put answer old new → Changes net net k op given k.size old new
put_alone net k op given put row old new answer h fits means is puts = put_row net net k op given put row old new answer h (Grows-same net) fits (λ val s e. means val) is puts
