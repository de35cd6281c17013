-- What a session has taken and written so far, and what follows at each of its ends.
use Rattle.std.proofs.Common.{◌≡◌, ℕ, ◌+◌, ◌-◌, ◌<◌, ◌≤◌, nat_lt, Bool, true, false, List, [], ◌∷◌, ◌++◌, length, take, refl, sym, ap, ◌∙◌, append_assoc, append-nil, length-append, arith, Option, Some, None, ◌⊎◌, inl, inr, IfSome}
use Rattle.std.proofs.Math.Seq.{take-append-add, take-append_seam}
use Rattle.std.proofs.lemmas.Bool.Decides.{nat_tests}
use Rattle.std.specs.Io.KnownBytes.{Appends, Consumes, IsAtEnd, Keeps}
use Rattle.std.proofs.KnownBytes.{Appends-nil, Appends-trans, Appends-kept, Consumes-nil, Consumes-trans, Consumes-kept}
use Rattle.hp_model.specs.Session.{SessionEnd, all_done, too_long, bad_word, Session, ending, preceded, byte_limit, session_from, session}
use Rattle.hp_session.specs.declared.sessions.SessionEnd.{SessionEnd as End}
use Rattle.hp_session.specs.declared.sessions.SessionEnd.TheVariants.{Done, BadWord, TooLong, ReadFault, WriteFault}
use Rattle.hp_session.specs.Progress.{Progress, nothing_read, to_come}
use Rattle.hp_session.specs.Steps.{shown, Goes, Cut, Halts, Finishes}
use Rattle.hp_session.specs.Ends.{session_so_far, WasDone, WasRefused, WasCutOff, WasStopped, WasCutShort}
use Rattle.hp_session.proofs.Parts.{at_front}

pub record SoFar (left0 left written0 written : Option (List ℕ)) (count : ℕ) (p : Progress) : Type 0 where
  pub taken : List ℕ
  pub wrote : List ℕ
  pub took : Consumes left0 left taken
  pub put : Appends written0 written wrote
  pub counted : length taken ≡ count
  -- what was written, and what is to come, is what all bytes give
  pub goes : (end : SessionEnd) (whole : Bool) (rest : List ℕ) → session_from end whole (taken ++ rest) ≡ preceded wrote (to_come end whole p rest)

-- where the source told its bytes, they give this end and this text
abbrev pub Tells : Option (List ℕ) → Session → Type 0
Tells left0 x = IfSome left0 (λ bytes. session bytes ≡ x)

abbrev pub ended_with : List ℕ → SessionEnd → Session
ended_with text end = record { text = text; ended = end }

-- what each end says, and what the told bytes give
abbrev pub EndsAs : End → Option (List ℕ) → Option (List ℕ) → Option (List ℕ) → Option (List ℕ) → Type 0
EndsAs Done left0 left written0 written = (r : WasDone left0 left written0 written) × Tells left0 (shown r.wrote)
EndsAs (BadWord line word) left0 left written0 written = (r : WasRefused left0 left written0 written line word.items) × Tells left0 (ended_with r.wrote (bad_word line word.items))
EndsAs TooLong left0 left written0 written = (r : WasCutOff left0 left written0 written) × Tells left0 (ended_with r.wrote too_long)
EndsAs ReadFault left0 left written0 written = WasStopped left0 left written0 written
EndsAs WriteFault left0 left written0 written = WasCutShort left0 left written0 written

-- ---- files

front : (taken rest : List ℕ) → length taken ≤ byte_limit → take byte_limit (taken ++ rest) ≡ taken ++ take (byte_limit - length taken) rest
front taken rest within =
    let split : byte_limit ≡ length taken + (byte_limit - length taken) = omega arith in
    ap (λ n. take n (taken ++ rest)) split ∙ take-append-add taken rest (byte_limit - length taken)

-- what a file gives, by whether it is past the limit
abbrev by_size : List ℕ → Bool → Session
by_size bytes past = elim past [ true ↦ session_from too_long false (take byte_limit bytes) | false ↦ session_from all_done true bytes ]

within_limit : (bytes : List ℕ) → length bytes ≤ byte_limit → session bytes ≡ session_from all_done true bytes
within_limit bytes within = let small : nat_lt byte_limit (length bytes) ≡ false = grind (arith, nat_tests) in ap (by_size bytes) small

past_limit : (bytes : List ℕ) → byte_limit < length bytes → session bytes ≡ session_from too_long false (take byte_limit bytes)
past_limit bytes past = let large : nat_lt byte_limit (length bytes) ≡ true = grind (arith, nat_tests) in ap (by_size bytes) large

-- what is the same for all that may follow decides a file
decided : (taken rest : List ℕ) (x : Session) → length taken ≤ byte_limit → ((end : SessionEnd) (whole : Bool) (more : List ℕ) → session_from end whole (taken ++ more) ≡ x)
    → session (taken ++ rest) ≡ x
decided taken rest x within always = by_test (nat_lt byte_limit (length (taken ++ rest)))
  where
    by_test : (t : Bool) → elim t [ true ↦ session_from too_long false (take byte_limit (taken ++ rest)) | false ↦ session_from all_done true (taken ++ rest) ] ≡ x
    by_test true = ap (session_from too_long false) (front taken rest within) ∙ always too_long false (take (byte_limit - length taken) rest)
    by_test false = always all_done true rest

-- ---- what told bytes give

told_whole : (l0 l1 : Option (List ℕ)) (taken : List ℕ) (x : Session) → Consumes l0 l1 taken → IsAtEnd l1 → session taken ≡ x → Tells l0 x
told_whole None l1 taken x took none gives = tt
told_whole (Some bytes) None taken x took none gives = absurd took
told_whole (Some bytes) (Some rest) taken x took none gives = ap session (took ∙ ap (λ more. taken ++ more) none ∙ append-nil taken) ∙ gives

told_always : (l0 l1 : Option (List ℕ)) (taken : List ℕ) (x : Session) → Consumes l0 l1 taken → ((rest : List ℕ) → session (taken ++ rest) ≡ x) → Tells l0 x
told_always None l1 taken x took always = tt
told_always (Some bytes) None taken x took always = absurd took
told_always (Some bytes) (Some rest) taken x took always = ap session took ∙ always rest

-- ---- steps

pub at_start : (left written : Option (List ℕ)) → SoFar left left written written 0 nothing_read
at_start left written = record {
  taken = [];
  wrote = [];
  took = Consumes-nil left;
  put = Appends-nil written;
  counted = refl;
  goes = λ end whole rest. refl;
}

nothing_more : (text : List ℕ) (end : SessionEnd) → preceded text (ending end) ≡ ended_with text end
nothing_more text end = ap (λ all. ended_with all end) (append-nil text)

module _ {l0 l1 w0 w1 : Option (List ℕ)} {count : ℕ} {p : Progress} (far : SoFar l0 l1 w0 w1 count p) where
  one_more : (end : SessionEnd) (whole : Bool) (b : ℕ) (rest : List ℕ) → session_from end whole ((far.taken ++ b ∷ []) ++ rest) ≡ preceded far.wrote (to_come end whole p (b ∷ rest))
  one_more end whole b rest = ap (session_from end whole) (append_assoc far.taken (b ∷ []) rest) ∙ far.goes end whole (b ∷ rest)

  pub after_byte : (l2 w2 : Option (List ℕ)) (b : ℕ) (next : Progress) → Consumes l1 l2 (b ∷ []) → Goes b p next w1 w2 → SoFar l0 l2 w0 w2 (count + 1) next
  after_byte l2 w2 b next more step = record {
    taken = far.taken ++ b ∷ [];
    wrote = far.wrote ++ step.text;
    took = Consumes-trans l0 l1 l2 _ _ far.took more;
    put = Appends-trans w0 w1 w2 _ _ far.put step.put;
    counted = simp length-append (omega (arith, far.counted));
    goes = λ end whole rest. one_more end whole b rest ∙ ap (preceded far.wrote) (step.gives end whole rest)
        ∙ ap (λ (text : List ℕ). ended_with text (to_come end whole next rest).ended) (sym (append_assoc far.wrote step.text (to_come end whole next rest).text));
  }

  -- a word that is open counts for nothing yet
  by_now : length p.word < 8 → session_so_far far.taken ≡ shown far.wrote
  by_now short =
      ap (session_from all_done false) (sym (append-nil far.taken)) ∙ far.goes all_done false []
      ∙ ap (preceded far.wrote) (at_front all_done p short) ∙ nothing_more far.wrote all_done

  at_the_end : count ≤ byte_limit → session far.taken ≡ preceded far.wrote (to_come all_done true p [])
  at_the_end within =
      let inside : length far.taken ≤ byte_limit = omega (arith, far.counted) in
      within_limit far.taken inside ∙ ap (session_from all_done true) (sym (append-nil far.taken)) ∙ far.goes all_done true []

  at_the_byte : (b : ℕ) → count < byte_limit → session (far.taken ++ b ∷ []) ≡ preceded far.wrote (to_come all_done true p (b ∷ []))
  at_the_byte b within =
      let inside : length (far.taken ++ b ∷ []) ≤ byte_limit = simp length-append (omega (arith, far.counted)) in
      within_limit (far.taken ++ b ∷ []) inside ∙ ap (session_from all_done true) (sym (append-nil (far.taken ++ b ∷ []))) ∙ one_more all_done true b []

  -- ---- ends

  -- a failed read
  pub stopped : (l2 : Option (List ℕ)) → Keeps l1 l2 → length p.word < 8 → count ≤ byte_limit → EndsAs ReadFault l0 l2 w0 w1
  stopped l2 kept short within = record {
    taken = far.taken;
    wrote = far.wrote;
    took = Consumes-kept l0 l1 l2 _ far.took kept;
    put = far.put;
    within = omega (arith, far.counted);
    gives = by_now short;
  }

  -- a byte past the limit
  pub cut_off : (l2 : Option (List ℕ)) (b : ℕ) → Consumes l1 l2 (b ∷ []) → length p.word < 8 → count ≡ byte_limit → EndsAs TooLong l0 l2 w0 w1
  cut_off l2 b more short full =
      let taken = far.taken ++ b ∷ [] in
      let x : Session = ended_with far.wrote too_long in
      let until : session_from too_long false far.taken ≡ x =
      ap (session_from too_long false) (sym (append-nil far.taken)) ∙ far.goes too_long false []
      ∙ ap (preceded far.wrote) (at_front too_long p short) ∙ nothing_more far.wrote too_long in
      let past : (rest : List ℕ) → session (taken ++ rest) ≡ x = λ rest.
      let large : byte_limit < length (taken ++ rest) = simp length-append (omega (arith, far.counted)) in
      let is_front : take byte_limit (taken ++ rest) ≡ far.taken =
      ap (λ n. take n (taken ++ rest)) (sym (far.counted ∙ full)) ∙ ap (take (length far.taken)) (append_assoc far.taken (b ∷ []) rest) ∙ take-append_seam far.taken (b ∷ [] ++ rest) in
      past_limit (taken ++ rest) large ∙ ap (session_from too_long false) is_front ∙ until in
      let took = Consumes-trans l0 l1 l2 _ _ far.took more in (
        record {
          taken = taken;
          wrote = far.wrote;
          took = took;
          put = far.put;
          gives = ap session (sym (append-nil taken)) ∙ past [];
          before = far.taken;
          past = b;
          last = refl;
          full = far.counted ∙ full;
          good_before = by_now short;
        },
        told_always l0 l2 taken x took past,
      )

  -- what was written of the line that was cut short
  cut_short : (l2 w2 : Option (List ℕ)) (taken : List ℕ) (due : Session) → Consumes l0 l2 taken → (IsAtEnd l2 × (taken ≡ far.taken)) ⊎ ((b : ℕ) × (taken ≡ far.taken ++ b ∷ []))
      → length p.word < 8 → session taken ≡ preceded far.wrote due → Cut due w1 w2 → EndsAs WriteFault l0 l2 w0 w2
  cut_short l2 w2 taken due took last short gives cut = record {
    taken = taken;
    lines = far.wrote;
    part = cut.text;
    left_out = cut.left_out;
    took = took;
    put = Appends-trans w0 w1 w2 _ _ far.put cut.put;
    before = far.taken;
    last = last;
    whole_before = by_now short;
    due = gives ∙ ap (preceded far.wrote) cut.whole ∙ ap shown (sym (append_assoc far.wrote cut.text cut.left_out));
  }

  -- the session ended at a byte
  pub halted : (end : End) (l2 w2 : Option (List ℕ)) (b : ℕ) → Consumes l1 l2 (b ∷ []) → length p.word < 8 → count < byte_limit → Halts b end p w1 w2 → EndsAs end l0 l2 w0 w2
  halted (BadWord line word) l2 w2 b more short within h =
      let taken = far.taken ++ b ∷ [] in
      let x : Session = ended_with far.wrote (bad_word line word.items) in
      let always : (end : SessionEnd) (whole : Bool) (rest : List ℕ) → session_from end whole (taken ++ rest) ≡ x =
      λ end whole rest. one_more end whole b rest ∙ ap (preceded far.wrote) (h.1 end whole rest) ∙ nothing_more far.wrote (bad_word line word.items) in
      let inside : length taken ≤ byte_limit = simp length-append (omega (arith, far.counted)) in
      let took = Consumes-trans l0 l1 l2 _ _ far.took more in (
        record {
          taken = taken;
          wrote = far.wrote;
          took = took;
          put = Appends-kept w0 w1 w2 _ far.put h.0;
          gives = ap session (sym (append-nil taken)) ∙ decided taken [] x inside always;
          before = far.taken;
          last = inr (b, refl);
          good_before = by_now short;
        },
        told_always l0 l2 taken x took (λ rest. decided taken rest x inside always),
      )
  halted WriteFault l2 w2 b more short within h =
      cut_short l2 w2 (far.taken ++ b ∷ []) _ (Consumes-trans l0 l1 l2 _ _ far.took more) (inr (b, refl)) short (at_the_byte b within) h
  halted _ l2 w2 b more short within h = absurd h

  -- the session ended at the end of the file
  pub finished : (end : End) (l2 w2 : Option (List ℕ)) → Keeps l1 l2 → IsAtEnd l2 → length p.word < 8 → count ≤ byte_limit → Finishes end p w1 w2 → EndsAs end l0 l2 w0 w2
  finished Done l2 w2 kept none short within h =
      let took = Consumes-kept l0 l1 l2 _ far.took kept in
      let gives : session far.taken ≡ shown (far.wrote ++ h.0) = at_the_end within ∙ ap (preceded far.wrote) h.2 in (
        record {
          taken = far.taken;
          wrote = far.wrote ++ h.0;
          took = took;
          put = Appends-trans w0 w1 w2 _ _ far.put h.1;
          whole = none;
          gives = gives;
        },
        told_whole l0 l2 far.taken _ took none gives,
      )
  finished (BadWord line word) l2 w2 kept none short within h =
      let took = Consumes-kept l0 l1 l2 _ far.took kept in
      let gives : session far.taken ≡ ended_with far.wrote (bad_word line word.items) =
      at_the_end within ∙ ap (preceded far.wrote) h.1 ∙ nothing_more far.wrote (bad_word line word.items) in (
        record {
          taken = far.taken;
          wrote = far.wrote;
          took = took;
          put = Appends-kept w0 w1 w2 _ far.put h.0;
          gives = gives;
          before = far.taken;
          last = inl (none, refl);
          good_before = by_now short;
        },
        told_whole l0 l2 far.taken _ took none gives,
      )
  finished WriteFault l2 w2 kept none short within h =
      cut_short l2 w2 far.taken _ (Consumes-kept l0 l1 l2 _ far.took kept) (inl (none, refl)) short (at_the_end within) h
  finished _ l2 w2 kept none short within h = absurd h
