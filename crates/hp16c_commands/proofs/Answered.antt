-- What `keys` answers after a session, and after the line that tells of a refusal.
use Rattle.std.proofs.Common.{◌≡◌, ◌≢◌, ℕ, ◌+◌, List, [], ◌∷◌, ◌++◌, length, take, drop, sym, ap, ◌∙◌, append_assoc, length-append, subst, Option, Some, None, Ok, Err, OnOk, IfSome, is_ok, if◌then◌else◌, inr}
use Rattle.std.specs.declared.result.Result.{Result}
use Rattle.std.proofs.lemmas.List.{take-append-drop}
use Rattle.std.specs.Io.KnownBytes.{Appends, Consumes}
use Rattle.std.proofs.KnownBytes.{Appends-trans}
use Rattle.hp_model.specs.Session.{SessionEnd, Session, session}
use Rattle.hp_model.specs.Session as ends
use Rattle.hp_session.specs.Steps.{shown}
use Rattle.hp_session.specs.Ends.{session_so_far, BeforeLastRead, WasRefused, WasCutOff}
use Rattle.hp16c_commands.specs.declared.outcomes.Status.{Status}
use Rattle.hp16c_commands.specs.declared.outcomes.Status.TheVariants.{Done, Different, Unknown, Usage, BadInput, Limit, ReadFault, WriteFault, NoMemory, CertRefused, TooManyPaths}
use Rattle.hp16c_commands.specs.KeyFiles.{WasAnswered, WasCut, IfAnswer, KeysTold, TakenTo, keys_status, keys_text, last_words, status_of_end}

-- where the status is the answer, the last line was written
pub written_whole : {T E A : Type 0} (r : Result T E) (answer result : Status) → result ≡ (if is_ok r then answer else WriteFault) → answer ≢ WriteFault → result ≡ answer → OnOk r A → A
written_whole (Ok _) answer result e apart is a = a
written_whole (Err _) answer result e apart is a = absurd (apart (sym is ∙ e))

-- the text of a session that ended so, and the last line
text_is : (taken wrote : List ℕ) (end : SessionEnd) → session taken ≡ record { text = wrote; ended = end } → keys_text taken ≡ wrote ++ last_words end
text_is taken wrote end gives = ap (λ (x : Session). x.text ++ last_words x.ended) gives

-- what was said by the session's end, and the last line after it
module _ {l0 l1 w0 : Option (List ℕ)} (w1 w2 : Option (List ℕ)) (taken wrote : List ℕ) (took : Consumes l0 l1 taken) (put : Appends w0 w1 wrote)
    (end : SessionEnd) (gives : session taken ≡ record { text = wrote; ended = end }) where
  answered : TakenTo (status_of_end end) l1 taken → Appends w1 w2 (last_words end) → WasAnswered (status_of_end end) l0 l1 w0 w2
  answered to last = record {
    taken = taken;
    took = took;
    status_is = ap (λ (x : Session). status_of_end x.ended) gives;
    put = subst (Appends w0 w2) (sym (text_is taken wrote end gives)) (Appends-trans w0 w1 w2 _ _ put last);
    to = to;
  }

  cut : (before : List ℕ) → BeforeLastRead l1 taken before → session_so_far before ≡ shown wrote
      → (n : ℕ) → Appends w1 w2 (take n (last_words end)) → WasCut l0 l1 w0 w2
  cut before read whole n front = record {
    taken = taken;
    lines = wrote;
    part = take n (last_words end);
    left_out = drop n (last_words end);
    took = took;
    put = Appends-trans w0 w1 w2 _ _ put front;
    before = before;
    last = read;
    whole_before = whole;
    due = text_is taken wrote end gives ∙ ap (λ l. wrote ++ l) (sym (take-append-drop n (last_words end))) ∙ sym (append_assoc wrote (take n (last_words end)) (drop n (last_words end)));
  }

module _ {l0 l1 w0 w1 : Option (List ℕ)} (w2 : Option (List ℕ)) where
  pub bad_answered : {line : ℕ} {word : List ℕ} → WasRefused l0 l1 w0 w1 line word → Appends w1 w2 (last_words (ends.bad_word line word)) → WasAnswered BadInput l0 l1 w0 w2
  bad_answered r = answered w1 w2 r.taken r.wrote r.took r.put _ r.gives (r.before, r.last, ap (λ (x : Session). x.ended) r.good_before)

  pub limit_answered : WasCutOff l0 l1 w0 w1 → Appends w1 w2 (last_words ends.too_long) → WasAnswered Limit l0 l1 w0 w2
  limit_answered r = answered w1 w2 r.taken r.wrote r.took r.put _ r.gives (ap length r.last ∙ length-append r.before (r.past ∷ []) ∙ ap (λ n. n + 1) r.full)

  pub bad_cut : {line : ℕ} {word : List ℕ} (n : ℕ) → WasRefused l0 l1 w0 w1 line word → Appends w1 w2 (take n (last_words (ends.bad_word line word))) → WasCut l0 l1 w0 w2
  bad_cut n r = cut w1 w2 r.taken r.wrote r.took r.put _ r.gives r.before r.last r.good_before n

  pub limit_cut : (n : ℕ) → WasCutOff l0 l1 w0 w1 → Appends w1 w2 (take n (last_words ends.too_long)) → WasCut l0 l1 w0 w2
  limit_cut n r = cut w1 w2 r.taken r.wrote r.took r.put _ r.gives r.before (inr (r.past, r.last)) r.good_before n

-- the text of told bytes, and the last line
told_text : (l w0 w1 w2 : Option (List ℕ)) (end : SessionEnd) → IfSome l (λ bytes. (session bytes).ended ≡ end) → IfSome l (λ bytes. Appends w0 w1 (session bytes).text)
    → Appends w1 w2 (last_words end) → IfSome l (λ bytes. Appends w0 w2 (keys_text bytes))
told_text None w0 w1 w2 end told text put = tt
told_text (Some bytes) w0 w1 w2 end told text put = Appends-trans w0 w1 w2 _ _ text (subst (λ e. Appends w1 w2 (last_words e)) (sym told) put)

if_answer : (status : Status) (P : Type 0) → P → IfAnswer status P
if_answer ReadFault P p = tt
if_answer WriteFault P p = tt
if_answer _ P p = p

all_answers : (l : Option (List ℕ)) (status : Status) (P : List ℕ → Type 0) → IfSome l P → IfSome l (λ bytes. IfAnswer status (P bytes))
all_answers None status P p = tt
all_answers (Some bytes) status P p = if_answer status (P bytes) p

no_answer : (l : Option (List ℕ)) (status : Status) (P : List ℕ → Type 0) → status ≡ WriteFault → IfSome l (λ bytes. IfAnswer status (P bytes))
no_answer None status P is = tt
no_answer (Some bytes) status P is = subst (λ s. IfAnswer s (P bytes)) (sym is) tt

pub told_whole : {T E : Type 0} (r : Result T E) (answer result : Status) (l w0 w1 w2 : Option (List ℕ)) (end : SessionEnd) → result ≡ (if is_ok r then answer else WriteFault)
    → IfSome l (λ bytes. (session bytes).ended ≡ end) → IfSome l (λ bytes. Appends w0 w1 (session bytes).text) → OnOk r (Appends w1 w2 (last_words end))
    → IfSome l (λ bytes. IfAnswer result (Appends w0 w2 (keys_text bytes)))
told_whole (Ok _) answer result l w0 w1 w2 end is told text put = all_answers l result _ (told_text l w0 w1 w2 end told text put)
told_whole (Err _) answer result l w0 w1 w2 end is told text put = no_answer l result _ is

-- the status and the text of told bytes, as one fact
pub told_both : (l w0 w1 : Option (List ℕ)) (status : Status) → IfSome l (λ bytes. IfAnswer status (status ≡ keys_status bytes))
    → IfSome l (λ bytes. IfAnswer status (Appends w0 w1 (keys_text bytes))) → IfSome l (λ bytes. IfAnswer status (KeysTold status bytes w0 w1))
told_both None w0 w1 status is put = tt
told_both (Some bytes) w0 w1 status is put = both status is put
  where
    both : (s : Status) → IfAnswer s (status ≡ keys_status bytes) → IfAnswer s (Appends w0 w1 (keys_text bytes)) → IfAnswer s (KeysTold status bytes w0 w1)
    both ReadFault is put = tt
    both WriteFault is put = tt
    both Done is put = record { status_is = is; put = put }
    both Different is put = record { status_is = is; put = put }
    both Usage is put = record { status_is = is; put = put }
    both BadInput is put = record { status_is = is; put = put }
    both Limit is put = record { status_is = is; put = put }
    both NoMemory is put = record { status_is = is; put = put }
    both CertRefused is put = record { status_is = is; put = put }
    both Unknown is put = record { status_is = is; put = put }
    both TooManyPaths is put = record { status_is = is; put = put }
