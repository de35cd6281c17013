-- What follows of an answer to what a source gave.
use Rattle.std.proofs.Common.{◌≡◌, ◌≢◌, ℕ, ◌+◌, ◌<◌, ◌≤◌, true, false, Bool, ◌||◌, List, [], ◌++◌, length, Option, Some, None, IfSome, IfOk, refl, sym, ap, subst, ◌∙◌, arith, inl, inr, append-nil, length-append}
use Rattle.std.specs.Prelude.{Result, Ok, Err}
use Rattle.std.specs.Io.KnownBytes.{Appends}
use Rattle.hp_io.specs.declared.limited.ReadStop.{ReadStop}
use Rattle.std.proofs.lemmas.Bool.{false≢true}
use Rattle.hp16c_commands.specs.declared.outcomes.Status.{Status}
use Rattle.hp16c_commands.specs.declared.outcomes.Outcome.{Outcome}
use Rattle.hp16c_commands.specs.declared.outcomes.Status.TheVariants.{Usage, ReadFault, WriteFault, NoMemory}
use Rattle.hp16c_commands.specs.declared.whole_inputs.WholeInput.TheVariants as inputs
use Rattle.hp16c_commands.specs.declared.told.Answer.{Answer as AnswerTold}
use Rattle.hp16c_commands.specs.declared.whole_inputs.WholeInput.{WholeInput}
use Rattle.hp16c_commands.specs.Answers.{Answer, too_long}
use Rattle.hp16c_commands.specs.Answered.{answer_of}
use Rattle.hp16c_commands.specs.WholeInputs.{Answers, IsAnswer, IsAnswerTo, WasTold, IfGiven, within, past, can_end, is_answer_of, is_fault, limit_of}
use Rattle.hp16c_commands.proofs.AnswerEnds.{answer-ends}

given-ends : (command : WholeInput) (left0 left : Option (List ℕ)) (answer : Answer) → IsAnswer command left0 left answer → is_answer_of command answer.outcome.status ≡ true
given-ends command left0 left answer (inl w) = answer-ends command w.taken answer w.answers
given-ends command left0 left answer (inr long) = subst (λ (a : Answer). is_answer_of command a.outcome.status ≡ true) (sym long.answer_is) refl

-- of bytes that the source told
given-told : (command : WholeInput) (left0 left : Option (List ℕ)) (answer : Answer) → IsAnswer command left0 left answer → IfSome left0 (λ bytes. IsAnswerTo command bytes answer)
given-told command None left answer is = tt
given-told command (Some bytes) None answer (inl w) = absurd w.rest.taken
given-told command (Some bytes) None answer (inr long) = absurd long.took.1
given-told command (Some bytes) (Some rest) answer (inl w) =
    let all : w.taken ≡ bytes = sym (append-nil w.taken) ∙ ap (λ t. w.taken ++ t) (sym w.rest.ended) ∙ sym w.rest.taken in
    within (subst (λ t. length t ≤ limit_of command) all w.within) (subst (λ t. Answers command t answer) all w.answers)
given-told command (Some bytes) (Some rest) answer (inr long) =
    past (omega (arith, ap length long.took.1, length-append long.took.0 rest, long.took.2)) long.answer_is

pub ok-ends : (command : WholeInput) (left0 left : Option (List ℕ)) (r : Result AnswerTold ReadStop) → IfOk r (λ a. IsAnswer command left0 left (answer_of a))
    → IfOk r (λ a. is_answer_of command (answer_of a).outcome.status ≡ true)
ok-ends command left0 left (Ok a) is = given-ends command left0 left (answer_of a) is
ok-ends command left0 left (Err stop) is = tt

-- no answer says that the words are no command
not-usage : (command : WholeInput) (status : Status) → is_answer_of command status ≡ true → status ≢ Usage
not-usage command status is same = false≢true (sym (never command) ∙ subst (λ s. is_answer_of command s ≡ true) same is)
  where
    never : (command : WholeInput) → is_answer_of command Usage ≡ false
    never inputs.Lrat = refl
    never inputs.Assemble = refl
    never inputs.List = refl
    never inputs.Replay = refl
    never inputs.Judge = refl
    never inputs.Check = refl
    never inputs.Debug = refl
    never inputs.Spec = refl
    never inputs.Short = refl

pub ok-no-usage : (command : WholeInput) (left0 left : Option (List ℕ)) (r : Result AnswerTold ReadStop) → IfOk r (λ a. IsAnswer command left0 left (answer_of a))
    → IfOk r (λ a. (answer_of a).outcome.status ≢ Usage)
ok-no-usage command left0 left (Ok a) is = not-usage command (answer_of a).outcome.status (given-ends command left0 left (answer_of a) is)
ok-no-usage command left0 left (Err stop) is = tt

some-ok : (command : WholeInput) (left0 : Option (List ℕ)) (a : AnswerTold) → IfSome left0 (λ bytes. IsAnswerTo command bytes (answer_of a))
    → IfSome left0 (λ bytes. IfOk {E = ReadStop} (Ok a) (λ answer. IsAnswerTo command bytes (answer_of answer)))
some-ok command None a is = tt
some-ok command (Some bytes) a is = is

some-err : (command : WholeInput) (left0 : Option (List ℕ)) (stop : ReadStop)
    → IfSome left0 (λ bytes. IfOk {T = AnswerTold} (Err stop) (λ answer. IsAnswerTo command bytes (answer_of answer)))
some-err command None stop = tt
some-err command (Some bytes) stop = tt

pub ok-told : (command : WholeInput) (left0 left : Option (List ℕ)) (r : Result AnswerTold ReadStop) → IfOk r (λ a. IsAnswer command left0 left (answer_of a))
    → IfSome left0 (λ bytes. IfOk r (λ a. IsAnswerTo command bytes (answer_of a)))
ok-told command left0 left (Ok a) is = some-ok command left0 a (given-told command left0 left (answer_of a) is)
ok-told command left0 left (Err stop) is = some-err command left0 stop

-- an answer's status is one with which the command may end
pub may-end : (command : WholeInput) (status : Status) → is_answer_of command status ≡ true → can_end command status ≡ true
may-end command status is = by (is_fault status) is
  where
    by : (fault : Bool) → is_answer_of command status ≡ true → (fault || is_answer_of command status) ≡ true
    by true is = refl
    by false is = is

if-given : (status : Status) (P : Type 0) → P → IfGiven status P
if-given ReadFault P p = tt
if-given WriteFault P p = tt
if-given NoMemory P p = tt
if-given _ P p = p

-- an answer to bytes that the source told, with its text written
pub told-given : (command : WholeInput) (left0 written0 written : Option (List ℕ)) (answer : Answer) (outcome : Outcome) → outcome ≡ answer.outcome
    → IfSome left0 (λ bytes. IsAnswerTo command bytes answer) → Appends written0 written answer.text
    → IfSome left0 (λ bytes. IfGiven outcome.status (WasTold command bytes outcome written0 written))
told-given command None written0 written answer outcome same is put = tt
told-given command (Some bytes) written0 written answer outcome same is put =
    subst (λ (o : Outcome). IfGiven o.status (WasTold command bytes o written0 written)) (sym same)
    (if-given answer.outcome.status _ (record { text = answer.text; answer = is; put = put }))
