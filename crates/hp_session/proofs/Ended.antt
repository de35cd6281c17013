-- The clauses on how a session ended, together.
use Rattle.std.proofs.Common.{◌≡◌, ℕ, List, sym, ap, subst, Option, Some, None, IfSome}
use Rattle.std.specs.Io.KnownBytes.{Appends}
use Rattle.hp_model.specs.Session.{SessionEnd, all_done, too_long, bad_word, Session, session}
use Rattle.hp_session.specs.declared.sessions.SessionEnd.{SessionEnd as End}
use Rattle.hp_session.specs.declared.sessions.SessionEnd.TheVariants.{Done, BadWord, TooLong, ReadFault, WriteFault}
use Rattle.hp_session.specs.Ends.{WasDone, WasRefused, WasCutOff, WasStopped, WasCutShort, IfBadWord, IfNoFault}
use Rattle.hp_session.proofs.SoFar.{EndsAs, Tells, ended_with}

pub record Ended (end : End) (l0 l1 w0 w1 : Option (List ℕ)) : Type 0 where
  pub done : end ≡ Done → WasDone l0 l1 w0 w1
  pub bad_word : IfBadWord end (WasRefused l0 l1 w0 w1)
  pub too_long : end ≡ TooLong → WasCutOff l0 l1 w0 w1
  pub read_fault : end ≡ ReadFault → WasStopped l0 l1 w0 w1
  pub write_fault : end ≡ WriteFault → WasCutShort l0 l1 w0 w1
  pub told_end : IfSome l0 (λ bytes. IfNoFault end (λ e. (session bytes).ended ≡ e))
  pub told_text : IfSome l0 (λ bytes. IfNoFault end (λ _. Appends w0 w1 (session bytes).text))

told_end_of : (l0 : Option (List ℕ)) (text : List ℕ) (e : SessionEnd) → Tells l0 (ended_with text e) → IfSome l0 (λ bytes. (session bytes).ended ≡ e)
told_end_of None text e told = tt
told_end_of (Some bytes) text e told = ap (λ (x : Session). x.ended) told

told_text_of : (l0 w0 w1 : Option (List ℕ)) (text : List ℕ) (e : SessionEnd) → Appends w0 w1 text → Tells l0 (ended_with text e) → IfSome l0 (λ bytes. Appends w0 w1 (session bytes).text)
told_text_of None w0 w1 text e put told = tt
told_text_of (Some bytes) w0 w1 text e put told = subst (Appends w0 w1) (ap (λ (x : Session). x.text) (sym told)) put

untold : (l0 : Option (List ℕ)) → IfSome l0 (λ _. Unit)
untold None = tt
untold (Some bytes) = tt

if_bad_word : (end : End) (l0 l1 w0 w1 : Option (List ℕ)) → EndsAs end l0 l1 w0 w1 → IfBadWord end (WasRefused l0 l1 w0 w1)
if_bad_word (BadWord line word) l0 l1 w0 w1 x = x.0
if_bad_word _ l0 l1 w0 w1 x = tt

told_end : (end : End) (l0 l1 w0 w1 : Option (List ℕ)) → EndsAs end l0 l1 w0 w1 → IfSome l0 (λ bytes. IfNoFault end (λ e. (session bytes).ended ≡ e))
told_end Done l0 l1 w0 w1 x = told_end_of l0 x.0.wrote all_done x.1
told_end (BadWord line word) l0 l1 w0 w1 x = told_end_of l0 x.0.wrote (bad_word line word.items) x.1
told_end TooLong l0 l1 w0 w1 x = told_end_of l0 x.0.wrote too_long x.1
told_end ReadFault l0 l1 w0 w1 x = untold l0
told_end WriteFault l0 l1 w0 w1 x = untold l0

told_text : (end : End) (l0 l1 w0 w1 : Option (List ℕ)) → EndsAs end l0 l1 w0 w1 → IfSome l0 (λ bytes. IfNoFault end (λ _. Appends w0 w1 (session bytes).text))
told_text Done l0 l1 w0 w1 x = told_text_of l0 w0 w1 x.0.wrote all_done x.0.put x.1
told_text (BadWord line word) l0 l1 w0 w1 x = told_text_of l0 w0 w1 x.0.wrote (bad_word line word.items) x.0.put x.1
told_text TooLong l0 l1 w0 w1 x = told_text_of l0 w0 w1 x.0.wrote too_long x.0.put x.1
told_text ReadFault l0 l1 w0 w1 x = untold l0
told_text WriteFault l0 l1 w0 w1 x = untold l0

pub ended_as : (end : End) (l0 l1 w0 w1 : Option (List ℕ)) → EndsAs end l0 l1 w0 w1 → Ended end l0 l1 w0 w1
ended_as end l0 l1 w0 w1 x = record {
  done = λ e. (subst (λ z. EndsAs z l0 l1 w0 w1) e x).0;
  bad_word = if_bad_word end l0 l1 w0 w1 x;
  too_long = λ e. (subst (λ z. EndsAs z l0 l1 w0 w1) e x).0;
  read_fault = λ e. subst (λ z. EndsAs z l0 l1 w0 w1) e x;
  write_fault = λ e. subst (λ z. EndsAs z l0 l1 w0 w1) e x;
  told_end = told_end end l0 l1 w0 w1 x;
  told_text = told_text end l0 l1 w0 w1 x;
}
