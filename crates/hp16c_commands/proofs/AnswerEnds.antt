-- The statuses that answers have.
use Rattle.std.proofs.Common.{◌≡◌, ℕ, List, [], Bool, true, false, refl, sym, ap, subst, ◌∙◌}
use Rattle.std.specs.Prelude.{Result, Ok, Err, ⊤}
use Rattle.jd_logic.specs.declared.answers.Verdict.TheVariants.{NotText, Refuted, NotRefuted, Bad}
use Rattle.jd_logic.specs.Verdict.{verdict_of}
use Rattle.jd_model.specs.declared.causes.ProblemCause.{ProblemCause}
use Rattle.jd_model.specs.Problems.{Problem}
use Rattle.jd_model.specs.ProblemWriter.{problem_text}
use Rattle.jd_model.specs.Assembly.{assembled, routine_of_codes}
use Rattle.jd_model.specs.Seen.{agree}
use Rattle.jd_model.specs.Replays.{replay_input}
use Rattle.jd_trees.specs.declared.Node.{Node}
use Rattle.jd_trees.specs.Trees.{Tree}
use Rattle.jd_checking.specs.Inputs.{check_input}
use Rattle.hp16c_commands.specs.declared.outcomes.Kept.{Kept}
use Rattle.hp16c_commands.specs.declared.outcomes.Status.{Status}
use Rattle.hp16c_commands.specs.declared.outcomes.Status.TheVariants.{Done, Different, Unknown, Usage, BadInput, Limit, ReadFault, WriteFault, NoMemory, CertRefused, TooManyPaths}
use Rattle.hp16c_commands.specs.declared.whole_inputs.WholeInput.{WholeInput}
use Rattle.hp16c_commands.specs.declared.whole_inputs.WholeInput.TheVariants as inputs
use Rattle.hp16c_commands.specs.Routines.{coded, listed}
use Rattle.hp16c_commands.specs.Lrat.{answer_of_verdict}
use Rattle.hp16c_commands.specs.Replays.{status_of_agreement, replayed}
use Rattle.jd_judge.specs.declared.outcomes.Judged.{Judged}
use Rattle.jd_judge.specs.declared.outcomes.Judged.TheVariants as judges
use Rattle.jd_short.specs.declared.rounds.Shortened.{Shortened}
use Rattle.jd_short.specs.declared.rounds.Shortened.TheVariants as shortened
use Rattle.jd_gives.specs.declared.gives.Give.{Give}
use Rattle.jd_spec_texts.specs.SpecTexts.{spec_of}
use Rattle.hp_debug.specs.Scripts.{script_text}
use Rattle.hp16c_commands.specs.Debugging.{debugged}
use Rattle.hp16c_commands.specs.Judging.{judgement, IsJudged, judge_input}
use Rattle.hp16c_commands.specs.Shortening.{shortening, IsShortenedInput}
use Rattle.hp16c_commands.specs.Specifying.{IsSpecified}
use Rattle.hp16c_commands.specs.Checking.{IsCheck, IsChecked}
use Rattle.hp16c_commands.specs.Answers.{Answer, bad_line}
use Rattle.hp16c_commands.specs.WholeInputs.{Answers, is_answer_of}

abbrev EndsAs : WholeInput → Answer → Type 0
EndsAs command answer = is_answer_of command answer.outcome.status ≡ true

-- where the input has too many bytes, or a bad line
pub limit-ends : (command : WholeInput) → is_answer_of command Limit ≡ true
limit-ends command = refl

bad-ends : (command : WholeInput) → is_answer_of command BadInput ≡ true
bad-ends command = refl

at-due : (command : WholeInput) (answer due : Answer) → answer ≡ due → EndsAs command due → EndsAs command answer
at-due command answer due is ends = subst (EndsAs command) (sym is) ends

-- that of a function of the bytes
lrat-ends : (bytes : List ℕ) → EndsAs inputs.Lrat (answer_of_verdict (verdict_of bytes))
lrat-ends bytes = elim (verdict_of bytes) as (λ verdict. EndsAs inputs.Lrat (answer_of_verdict verdict)) [
  | NotText line ↦ refl
  | Refuted ↦ refl
  | NotRefuted ↦ refl
  | Bad line cause ↦ refl
]

assemble-ends : (bytes : List ℕ) → EndsAs inputs.Assemble (coded (assembled bytes))
assemble-ends bytes = elim (assembled bytes) as (λ read. EndsAs inputs.Assemble (coded read)) [ Ok routine ↦ refl | Err fault ↦ refl ]

list-ends : (bytes : List ℕ) → EndsAs inputs.List (listed (routine_of_codes bytes))
list-ends bytes = elim (routine_of_codes bytes) as (λ read. EndsAs inputs.List (listed read)) [ Ok routine ↦ refl | Err fault ↦ refl ]

agreement-ends : (same : Bool) → is_answer_of inputs.Replay (status_of_agreement same) ≡ true
agreement-ends true = refl
agreement-ends false = refl

replay-ends : (bytes : List ℕ) → EndsAs inputs.Replay (replayed (replay_input bytes))
replay-ends bytes = elim (replay_input bytes) as (λ input. EndsAs inputs.Replay (replayed input)) [
  | Ok (p, s) ↦ agreement-ends (agree p s)
  | Err line ↦ refl
]

debug-ends : (bytes : List ℕ) → EndsAs inputs.Debug (debugged (script_text bytes))
debug-ends bytes = elim (script_text bytes) as (λ script. EndsAs inputs.Debug (debugged script)) [ Ok text ↦ refl | Err line ↦ refl ]

-- those that keep more than the bytes decide
judgement-ends : (heading : List ℕ) (judged : Judged) → EndsAs inputs.Judge (judgement heading judged)
judgement-ends heading (judges.Equal book cert) = refl
judgement-ends heading (judges.Different start) = refl
judgement-ends heading (judges.Unknown leaf log) = refl
judgement-ends heading (judges.TooManyPaths starts) = refl

spec-ends : (heading : List ℕ) (judged : Judged) → EndsAs inputs.Spec (judgement heading judged)
spec-ends heading (judges.Equal book cert) = refl
spec-ends heading (judges.Different start) = refl
spec-ends heading (judges.Unknown leaf log) = refl
spec-ends heading (judges.TooManyPaths starts) = refl

shortening-ends : (p : Problem) (short : Shortened) → EndsAs inputs.Short (shortening p short)
shortening-ends p (shortened.Done routine book cert refusals) = refl
shortening-ends p (shortened.Not (judges.Equal book cert)) = refl
shortening-ends p (shortened.Not (judges.Different start)) = refl
shortening-ends p (shortened.Not (judges.Unknown leaf log)) = refl
shortening-ends p (shortened.Not (judges.TooManyPaths starts)) = refl

check-ends : (p : Problem) (tree : Tree) (status : Status) (kept : Kept) (text : List ℕ) → IsCheck p tree status kept text → is_answer_of inputs.Check status ≡ true
check-ends p tree Done kept text is = refl
check-ends p tree CertRefused kept text is = refl
check-ends p tree BadInput kept text is = refl
check-ends p tree Limit kept text is = refl
check-ends p tree Different kept text is = absurd is
check-ends p tree Unknown kept text is = absurd is
check-ends p tree TooManyPaths kept text is = absurd is
check-ends p tree Usage kept text is = absurd is
check-ends p tree ReadFault kept text is = absurd is
check-ends p tree WriteFault kept text is = absurd is
check-ends p tree NoMemory kept text is = absurd is

judged-ends : (input : Result (Problem × ⊤) ℕ) (answer : Answer) → IsJudged input answer → EndsAs inputs.Judge answer
judged-ends (Ok (p, done)) answer is = at-due inputs.Judge answer _ is.told (judgement-ends (problem_text p) is.judged)
judged-ends (Err line) answer is = at-due inputs.Judge answer (bad_line line) is refl

specified-ends : (input : Result (Problem × List Give) (ℕ × ProblemCause)) (answer : Answer) → IsSpecified input answer → EndsAs inputs.Spec answer
specified-ends (Ok (p, gives)) answer is = at-due inputs.Spec answer _ is.told (spec-ends [] is.judged)
specified-ends (Err (line, cause)) answer is = at-due inputs.Spec answer (bad_line line) is refl

shortened-ends : (input : Result (Problem × ⊤) ℕ) (answer : Answer) → IsShortenedInput input answer → EndsAs inputs.Short answer
shortened-ends (Ok (p, done)) answer is = at-due inputs.Short answer _ is.told (shortening-ends p is.shortened)
shortened-ends (Err line) answer is = at-due inputs.Short answer (bad_line line) is refl

checked-ends : (input : Result (Problem × List Node) ℕ) (answer : Answer) → IsChecked input answer → EndsAs inputs.Check answer
checked-ends (Ok (p, nodes)) answer (tree, same, is) = check-ends p tree answer.outcome.status answer.outcome.kept answer.text is
checked-ends (Err line) answer is = at-due inputs.Check answer (bad_line line) is refl

pub answer-ends : (command : WholeInput) (bytes : List ℕ) (answer : Answer) → Answers command bytes answer → is_answer_of command answer.outcome.status ≡ true
answer-ends inputs.Lrat bytes answer is = at-due inputs.Lrat answer _ is (lrat-ends bytes)
answer-ends inputs.Assemble bytes answer is = at-due inputs.Assemble answer _ is (assemble-ends bytes)
answer-ends inputs.List bytes answer is = at-due inputs.List answer _ is (list-ends bytes)
answer-ends inputs.Replay bytes answer is = at-due inputs.Replay answer _ is (replay-ends bytes)
answer-ends inputs.Judge bytes answer is = judged-ends (judge_input bytes) answer is
answer-ends inputs.Check bytes answer is = checked-ends (check_input bytes) answer is
answer-ends inputs.Debug bytes answer is = at-due inputs.Debug answer _ is (debug-ends bytes)
answer-ends inputs.Spec bytes answer is = specified-ends (spec_of bytes) answer is
answer-ends inputs.Short bytes answer is = shortened-ends (judge_input bytes) answer is
