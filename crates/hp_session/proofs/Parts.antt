-- Key files by their parts: what one byte, and the end, do to what is to come.
use Rattle.std.proofs.Common.{◌≡◌, ℕ, ◌<◌, ◌≤◌, ◌==◌, ◌||◌, ◌&&◌, not, nat_lt, nat_le, Bool, true, false, List, [], ◌∷◌, ◌++◌, length, take, refl, sym, ap, ◌∙◌, append_assoc, length-append, arith, Option, Some, None, option_map, bytes_eq, codes, if◌then◌else◌}
use Rattle.std.proofs.lemmas.List.{take-append-le}
use Rattle.std.proofs.lemmas.Bool.Decides.{nat_tests}
use Rattle.std.proofs.lemmas.Slice.Eq.{bytes_eq-Decides}
use Rattle.hp_model.specs.declared.Extent.{Extent}
use Rattle.hp_model.specs.declared.Key.{Key}
use Rattle.hp_model.specs.State.{memory_bytes}
use Rattle.hp_model.specs.KeyWords.{key_of_word, extent_of_word, key_in, words}
use Rattle.hp_model.specs.Press.{Calculator, new_calculator, press}
use Rattle.hp_model.specs.Display.{display}
use Rattle.hp_model.specs.Session.{Part, line_end, is_separator, word_if_any, end_of_line, parts_after, open_line, SessionEnd, all_done, bad_word, ending, preceded, machine_named, after_word, session_of}
use Rattle.hp_session.specs.Progress.{Progress, to_come, went_on, word_ended, word_ended_as, letter_added, line_ended}

or_false : (p q : Bool) → p || q ≡ false → q ≡ false
or_false true q h = cc
or_false false q h = h

or_true : (p q : Bool) → q ≡ true → p || q ≡ true
or_true true q h = refl
or_true false q h = h

pub letter_ends_no_line : (b : ℕ) → is_separator b ≡ false → (b == 10) ≡ false
letter_ends_no_line b plain = or_false (b == 32 || b == 9 || b == 13) (b == 10) plain

pub line_end_separates : (b : ℕ) → (b == 10) ≡ true → is_separator b ≡ true
line_end_separates b e = or_true (b == 32 || b == 9 || b == 13) (b == 10) e

-- ---- a word ends

-- a good word gives the next calculator, and a bad one ends the session
went : (end : SessionEnd) (p after : Progress) (at : ℕ) (w : List ℕ) (more : List Part) (next : Option Calculator) → went_on p next ≡ Some after
    → elim next [ None ↦ ending (bad_word at (take 8 w)) | Some s ↦ session_of end false s at more ] ≡ session_of end after.first after.calculator at more
went end p after at w more None e = cc
went end p after at w more (Some s) e =
    let same : record p { calculator = s; word = []; first = false } ≡ after = cc in
    ap (λ (r : Progress). session_of end r.first r.calculator at more) same

stopped : (end : SessionEnd) (p : Progress) (at : ℕ) (w : List ℕ) (more : List Part) (next : Option Calculator) → went_on p next ≡ None
    → elim next [ None ↦ ending (bad_word at (take 8 w)) | Some s ↦ session_of end false s at more ] ≡ ending (bad_word at (take 8 w))
stopped end p at w more None e = refl
stopped end p at w more (Some s) e = cc

good_by_word : (end : SessionEnd) (p q : Progress) (at : ℕ) (w : List ℕ) (more : List Part) → word_ended_as p w ≡ Some q
    → session_of end p.first p.calculator at (word_if_any w ++ more) ≡ session_of end q.first q.calculator at more
good_by_word end p q at [] more e = let same : p ≡ q = cc in ap (λ (r : Progress). session_of end r.first r.calculator at more) same
good_by_word end p q at (b ∷ w) more e = went end p q at (b ∷ w) more (after_word p.first p.calculator (b ∷ w)) e

good_word : (end : SessionEnd) (p q : Progress) (more : List Part) → word_ended p ≡ Some q
    → session_of end p.first p.calculator p.line (word_if_any p.word ++ more) ≡ session_of end q.first q.calculator p.line more
good_word end p q more e = good_by_word end p q p.line p.word more e

wrong_by_word : (end : SessionEnd) (p : Progress) (at : ℕ) (w : List ℕ) (more : List Part) → word_ended_as p w ≡ None
    → session_of end p.first p.calculator at (word_if_any w ++ more) ≡ ending (bad_word at (take 8 w))
wrong_by_word end p at [] more e = cc
wrong_by_word end p at (b ∷ w) more e = stopped end p at (b ∷ w) more (after_word p.first p.calculator (b ∷ w)) e

wrong_word : (end : SessionEnd) (p : Progress) (more : List Part) → word_ended p ≡ None
    → session_of end p.first p.calculator p.line (word_if_any p.word ++ more) ≡ ending (bad_word p.line (take 8 p.word))
wrong_word end p more e = wrong_by_word end p p.line p.word more e

-- what stays when a word ends
ended_going : (p q : Progress) (next : Option Calculator) → went_on p next ≡ Some q → q ≡ record p { calculator = q.calculator; word = []; first = q.first }
ended_going p q None e = cc
ended_going p q (Some s) e = let same : record p { calculator = s; word = []; first = false } ≡ q = cc in rw (sym same) refl

ended_by_word : (p q : Progress) (w : List ℕ) → p.word ≡ w → word_ended_as p w ≡ Some q → q ≡ record p { calculator = q.calculator; word = []; first = q.first }
ended_by_word p q [] is e = let same : p ≡ q = cc in rw (sym same) (ap (λ (v : List ℕ). record p { word = v }) is)
ended_by_word p q (b ∷ w) is e = ended_going p q (after_word p.first p.calculator (b ∷ w)) e

pub ended : (p q : Progress) → word_ended p ≡ Some q → q ≡ record p { calculator = q.calculator; word = []; first = q.first }
ended p q e = ended_by_word p q p.word refl e

-- ---- a byte

joined : (a b c d : List Part) → ((a ++ b) ++ c) ++ d ≡ a ++ ((b ++ c) ++ d)
joined a b c d = simp append_assoc

parts_at_separator : (whole : Bool) (w : List ℕ) (b : ℕ) (bytes : List ℕ) → is_separator b ≡ true
    → parts_after whole w (b ∷ bytes) ≡ word_if_any w ++ end_of_line b ++ parts_after whole [] bytes
parts_at_separator whole w b bytes sep = rw (sep, parts_after) refl

parts_at_letter : (whole : Bool) (w : List ℕ) (b : ℕ) (bytes : List ℕ) → is_separator b ≡ false
    → parts_after whole w (b ∷ bytes) ≡ parts_after whole (w ++ b ∷ []) bytes
parts_at_letter whole w b bytes plain = rw (plain, parts_after) refl

-- what follows the word that a separator ends
abbrev after_separator : Bool → ℕ → List ℕ → List Part
after_separator whole b rest = (end_of_line b ++ parts_after whole [] rest) ++ open_line whole (not (b == 10)) rest

at_separator : (end : SessionEnd) (whole : Bool) (p : Progress) (b : ℕ) (rest : List ℕ) → is_separator b ≡ true
    → to_come end whole p (b ∷ rest) ≡ session_of end p.first p.calculator p.line (word_if_any p.word ++ after_separator whole b rest)
at_separator end whole p b rest sep =
    ap (λ (parts : List Part). session_of end p.first p.calculator p.line (parts ++ open_line whole (not (b == 10)) rest)) (parts_at_separator whole p.word b rest sep)
    ∙ ap (session_of end p.first p.calculator p.line) (joined (word_if_any p.word) (end_of_line b) (parts_after whole [] rest) (open_line whole (not (b == 10)) rest))

good_at_separator : (end : SessionEnd) (whole : Bool) (p q : Progress) (b : ℕ) (rest : List ℕ) → is_separator b ≡ true → word_ended p ≡ Some q
    → to_come end whole p (b ∷ rest) ≡ session_of end q.first q.calculator p.line (after_separator whole b rest)
good_at_separator end whole p q b rest sep good = at_separator end whole p b rest sep ∙ good_word end p q (after_separator whole b rest) good

pub wrong_at_separator : (end : SessionEnd) (whole : Bool) (p : Progress) (b : ℕ) (rest : List ℕ) → is_separator b ≡ true → word_ended p ≡ None
    → to_come end whole p (b ∷ rest) ≡ ending (bad_word p.line (take 8 p.word))
wrong_at_separator end whole p b rest sep wrong = at_separator end whole p b rest sep ∙ wrong_word end p (after_separator whole b rest) wrong

-- a separator that ends no line, and one that does
pub at_blank : (end : SessionEnd) (whole : Bool) (p q : Progress) (b : ℕ) (rest : List ℕ) → is_separator b ≡ true → (b == 10) ≡ false → word_ended p ≡ Some q
    → to_come end whole p (b ∷ rest) ≡ to_come end whole (record q { begun = true }) rest
at_blank end whole p q b rest sep blank good =
    good_at_separator end whole p q b rest sep good
    ∙ ap (λ (lf : Bool). session_of end q.first q.calculator p.line (((if lf then line_end ∷ [] else []) ++ parts_after whole [] rest) ++ open_line whole (not lf) rest)) blank
    ∙ ap (λ (r : Progress). to_come end whole (record r { begun = true }) rest) (sym (ended p q good))

pub at_line_end : (end : SessionEnd) (whole : Bool) (p q : Progress) (b : ℕ) (rest : List ℕ) → (b == 10) ≡ true → word_ended p ≡ Some q
    → to_come end whole p (b ∷ rest) ≡ preceded (display q.calculator ++ 10 ∷ []) (to_come end whole (line_ended q) rest)
at_line_end end whole p q b rest lf good =
    good_at_separator end whole p q b rest (line_end_separates b lf) good
    ∙ ap (λ (lf : Bool). session_of end q.first q.calculator p.line (((if lf then line_end ∷ [] else []) ++ parts_after whole [] rest) ++ open_line whole (not lf) rest)) lf
    ∙ ap (λ (r : Progress). preceded (display q.calculator ++ 10 ∷ []) (to_come end whole (line_ended r) rest)) (sym (ended p q good))

-- the last byte, where it ends a line
pub at_last_line_end : (p q : Progress) (b : ℕ) → (b == 10) ≡ true → word_ended p ≡ Some q
    → to_come all_done true p (b ∷ []) ≡ preceded (display q.calculator ++ 10 ∷ []) (ending all_done)
at_last_line_end p q b lf good =
    at_line_end all_done true p q b [] lf good
    ∙ ap (λ (r : Progress). preceded (display q.calculator ++ 10 ∷ []) (to_come all_done true (line_ended r) [])) (ended p q good)

pub at_letter : (end : SessionEnd) (whole : Bool) (p : Progress) (b : ℕ) (rest : List ℕ) → is_separator b ≡ false
    → to_come end whole p (b ∷ rest) ≡ to_come end whole (letter_added b p) rest
at_letter end whole p b rest plain =
    ap (λ (parts : List Part). session_of end p.first p.calculator p.line (parts ++ open_line whole (not (b == 10)) rest)) (parts_at_letter whole p.word b rest plain)
    ∙ ap (λ (lf : Bool). session_of end p.first p.calculator p.line (parts_after whole (p.word ++ b ∷ []) rest ++ open_line whole (not lf) rest)) (letter_ends_no_line b plain)

-- ---- words of eight bytes

differ : (a w : List ℕ) → length a < length w → bytes_eq a w ≡ false
differ a w shorter = by_test (bytes_eq a w) refl
  where
    by_test : (t : Bool) → bytes_eq a w ≡ t → t ≡ false
    by_test true e = absurd (omega (arith, ap length ((bytes_eq-Decides a w).0 e)))
    by_test false e = refl

abbrev are_short : List (List ℕ × Key) → Bool
are_short [] = true
are_short (entry ∷ entries) = nat_lt (length entry.0) 8 && are_short entries

and_left : (p q : Bool) → p && q ≡ true → p ≡ true
and_left true q h = refl
and_left false q h = cc

and_right : (p q : Bool) → p && q ≡ true → q ≡ true
and_right true q h = h
and_right false q h = cc

below_eight : (n : ℕ) → nat_lt n 8 ≡ true → n < 8
below_eight n h = grind (arith, nat_tests)

no_key_in : (entries : List (List ℕ × Key)) (w : List ℕ) → are_short entries ≡ true → 8 ≤ length w → key_in entries w ≡ None
no_key_in [] w short long = refl
no_key_in (entry ∷ entries) w short long =
    let small = below_eight (length entry.0) (and_left (nat_lt (length entry.0) 8) (are_short entries) short) in
    let other : bytes_eq entry.0 w ≡ false = differ entry.0 w (omega (arith, small)) in
    rw other (no_key_in entries w (and_right (nat_lt (length entry.0) 8) (are_short entries) short) long)

long_is_no_key : (w : List ℕ) → 8 ≤ length w → key_of_word w ≡ None
long_is_no_key w long = no_key_in words w refl long

long_is_no_machine : (w : List ℕ) → 8 ≤ length w → extent_of_word w ≡ None
long_is_no_machine w long = rw (differ (codes "M203") w (omega arith), differ (codes "M609") w (omega arith)) refl

no_machine_named : (first : Bool) (w : List ℕ) → 8 ≤ length w → machine_named first w ≡ None
no_machine_named true w long = long_is_no_machine w long
no_machine_named false w long = refl

nothing_after : (first : Bool) (s : Calculator) (w : List ℕ) → 8 ≤ length w → after_word first s w ≡ None
nothing_after first s w long =
    ap (λ (named : Option Extent). elim named [ Some extent ↦ Some (new_calculator (memory_bytes extent)) | None ↦ option_map (press s) (key_of_word w) ]) (no_machine_named first w long)
    ∙ ap (option_map (press s)) (long_is_no_key w long)

long_by_word : (p : Progress) (w : List ℕ) → 8 ≤ length w → word_ended_as p w ≡ None
long_by_word p [] long = absurd (omega arith)
long_by_word p (b ∷ w) long = ap (went_on p) (nothing_after p.first p.calculator (b ∷ w) long)

long_is_wrong : (p : Progress) → 8 ≤ length p.word → word_ended p ≡ None
long_is_wrong p long = long_by_word p p.word long

long_here : (w : List ℕ) (whole : Bool) → 8 ≤ length w → (if whole || nat_le 8 (length w) then word_if_any w else []) ≡ word_if_any w
long_here w true long = refl
long_here w false long = let is_long : nat_le 8 (length w) ≡ true = grind (arith, nat_tests) in rw is_long refl

-- a word that has eight bytes is wrong, whatever follows
pub at_long_word : (end : SessionEnd) (whole : Bool) (p : Progress) (rest : List ℕ) → 8 ≤ length p.word
    → to_come end whole p rest ≡ ending (bad_word p.line (take 8 p.word))
at_long_word end whole p [] long =
    ap (λ (parts : List Part). session_of end p.first p.calculator p.line (parts ++ open_line whole p.begun [])) (long_here p.word whole long)
    ∙ wrong_word end p (open_line whole p.begun []) (long_is_wrong p long)
at_long_word end whole p (b ∷ rest) long = by_test (is_separator b) refl (at_long_word end whole (letter_added b p) rest (simp length-append (omega (arith, long))))
  where
    by_test : (t : Bool) → is_separator b ≡ t → to_come end whole (letter_added b p) rest ≡ ending (bad_word p.line (take 8 (p.word ++ b ∷ [])))
        → to_come end whole p (b ∷ rest) ≡ ending (bad_word p.line (take 8 p.word))
    by_test true e longer = wrong_at_separator end whole p b rest e (long_is_wrong p long)
    by_test false e longer = at_letter end whole p b rest e ∙ longer ∙ ap (λ v. ending (bad_word p.line v)) (take-append-le 8 p.word (b ∷ []) long)

-- ---- the end of the file

pub wrong_at_end : (p : Progress) → word_ended p ≡ None → to_come all_done true p [] ≡ ending (bad_word p.line (take 8 p.word))
wrong_at_end p wrong = wrong_word all_done p (open_line true p.begun []) wrong

good_at_end : (p q : Progress) → word_ended p ≡ Some q → to_come all_done true p [] ≡ session_of all_done q.first q.calculator p.line (if q.begun then line_end ∷ [] else [])
good_at_end p q good =
    good_word all_done p q (open_line true p.begun []) good
    ∙ ap (λ (r : Progress). session_of all_done q.first q.calculator p.line (if r.begun then line_end ∷ [] else [])) (sym (ended p q good))

pub at_closed_end : (p q : Progress) → word_ended p ≡ Some q → q.begun ≡ false → to_come all_done true p [] ≡ ending all_done
at_closed_end p q good closed = good_at_end p q good ∙ ap (λ (t : Bool). session_of all_done q.first q.calculator p.line (if t then line_end ∷ [] else [])) closed

pub at_open_end : (p q : Progress) → word_ended p ≡ Some q → q.begun ≡ true → to_come all_done true p [] ≡ preceded (display q.calculator ++ 10 ∷ []) (ending all_done)
at_open_end p q good begun = good_at_end p q good ∙ ap (λ (t : Bool). session_of all_done q.first q.calculator p.line (if t then line_end ∷ [] else [])) begun

-- a word that may go on counts for nothing yet
pub at_front : (end : SessionEnd) (p : Progress) → length p.word < 8 → to_come end false p [] ≡ ending end
at_front end p short =
    let unfinished : nat_le 8 (length p.word) ≡ false = grind (arith, nat_tests) in
    ap (λ (t : Bool). session_of end p.first p.calculator p.line ((if t then word_if_any p.word else []) ++ [])) unfinished
