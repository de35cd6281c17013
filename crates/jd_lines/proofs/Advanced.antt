-- A line of a source, piece by piece.
use Rattle.std.proofs.Common.{◌≡◌, ℕ, ◌+◌, ◌==◌, Bool, true, false, not, List, [], ◌∷◌, ◌++◌, length, take, drop, refl, sym, ap, ◌∙◌, subst, arith, append_assoc, append-nil, length-append}
use Rattle.std.specs.Prelude.{Option, Result, Err}
use Rattle.std.specs.Io.KnownBytes.{Consumes}
use Rattle.std.specs.List.{All}
use Rattle.std.proofs.KnownBytes.{Consumes-trans}
use Rattle.std.proofs.lemmas.Bool.Decides.{nat_tests}
use Rattle.std.proofs.lemmas.List.Elements.{All-head, All-tail, All-append}
use Rattle.hp_io.specs.Limited.{Takes, TakesAtMost}
use Rattle.jd_text.specs.Lines.{lines_of}
use Rattle.jd_text.proofs.LineEnds.{drop-further}
use Rattle.jd_lines.specs.SourceLines.{LineState, NoLineFeed, IsFed, IsHeldTaken, IsRefilled, IsTaken, Advances}

-- ---- lines

lines-fed : (w : List ℕ) (rest : List ℕ) → All NoLineFeed w → lines_of (w ++ 10 ∷ rest) ≡ w ∷ lines_of rest
lines-fed [] rest none = refl
lines-fed (b ∷ bs) rest none = rw (lines-fed bs rest (All-tail NoLineFeed b bs none), All-head NoLineFeed b bs none)

lines-last : (b : ℕ) (bs : List ℕ) → All NoLineFeed (b ∷ bs) → lines_of (b ∷ bs) ≡ (b ∷ bs) ∷ []
lines-last b [] none = rw (All-head NoLineFeed b [] none)
lines-last b (c ∷ bs) none = rw (lines-last c bs (All-tail NoLineFeed b (c ∷ bs) none), All-head NoLineFeed b (c ∷ bs) none)

-- ---- what is held goes to the line

module _ (line new piece rest : List ℕ) (at within : ℕ) (ended : Bool) (open_still : ended ≡ false) (is : rest ≡ drop at piece) where
  abbrev before : LineState
  before = record { line = line; held = drop at piece; within = within; ended = ended }

  abbrev after : ℕ → LineState
  after next = record { line = new; held = drop next piece; within = within; ended = ended }

  pub held-fed : (count : ℕ) → IsFed line rest new count → IsHeldTaken before (after (at + (count + 1))) true
  held-fed count fed = record {
    all = ap (λ h. new ++ 10 ∷ h) (drop-further piece at (count + 1) (at + (count + 1)) refl)
        ∙ ap (λ r. new ++ 10 ∷ drop (count + 1) r) (sym is)
        ∙ ap (λ l. l ++ 10 ∷ drop (count + 1) rest) fed.line
        ∙ append_assoc line (take count rest) (10 ∷ drop (count + 1) rest)
        ∙ ap (λ t. line ++ t) (sym fed.rest ∙ is);
    clear = λ h. subst (All NoLineFeed) (sym fed.line) (All-append NoLineFeed line (take count rest) h fed.clear);
    within = refl;
    ended = open_still;
  }

  pub held-all : (next : ℕ) → (new ≡ line ++ rest) × All NoLineFeed rest → IsHeldTaken before (after next) false
  held-all next a = record {
    all = a.0 ∙ ap (λ r. line ++ r) is;
    clear = λ h. subst (All NoLineFeed) (sym a.0) (All-append NoLineFeed line rest h a.1);
    within = refl;
    ended = open_still;
  }

-- ---- a line so far

-- bytes were read, and with what was held they are the line so far and what is held now
pub record IsSoFar (old now : LineState) (before after : Option (List ℕ)) : Type 0 where
  pub bytes : List ℕ
  pub taken : Consumes before after bytes
  pub within : now.within + length bytes ≡ old.within
  pub all : old.held ++ bytes ≡ now.line ++ now.held
  pub clear : All NoLineFeed now.line

pub apart : (b : Bool) → b ≡ false → b ≡ true → ⊥
apart true e f = cc
apart false e f = cc

-- the line has ended by a line feed
pub fed-advances : (old now new : LineState) (before after : Option (List ℕ)) → old.ended ≡ false → IsSoFar old now before after → IsHeldTaken now new true → Advances old new before after true
fed-advances old now new before after began so fed = (
  so.bytes,
  record {
    taken = so.taken;
    within = omega (arith, so.within, fed.within);
    no_more_held = omega (arith, ap length (so.all ∙ sym fed.all), length-append old.held so.bytes, length-append new.line (10 ∷ new.held));
    at_end = λ _ e. absurd (apart new.ended fed.ended e);
    none_held = λ _ e. absurd (apart new.ended fed.ended e);
    over = λ e. absurd (apart old.ended began e);
  },
  λ more _.
      ap lines_of (sym (append_assoc old.held so.bytes more) ∙ ap (λ t. t ++ more) (so.all ∙ sym fed.all) ∙ append_assoc new.line (10 ∷ new.held) more)
      ∙ lines-fed new.line (new.held ++ more) (fed.clear so.clear),
)

module _ (old now mid new : LineState) (before between after : Option (List ℕ)) (so : IsSoFar old now before between) (taken : IsHeldTaken now mid false) where
  -- a piece more
  pub more-so-far : IsRefilled mid new between after true → IsSoFar old new before after
  more-so-far r = record {
    bytes = so.bytes ++ new.held;
    taken = Consumes-trans before between after so.bytes new.held so.taken r.taken;
    within = omega (arith, so.within, taken.within, r.within, length-append so.bytes new.held);
    all = sym (append_assoc old.held so.bytes new.held) ∙ ap (λ t. t ++ new.held) (so.all ∙ sym taken.all ∙ sym r.line);
    clear = subst (All NoLineFeed) (sym r.line) (taken.clear so.clear);
  }

  -- the end of the source
  pub end-advances : (empty : Bool) → empty ≡ (length new.line == 0) → old.ended ≡ false → IsRefilled mid new between after false → Advances old new before after (not empty)
  end-advances empty e began r = (
    so.bytes ++ new.held,
    record {
      taken = Consumes-trans before between after so.bytes new.held so.taken r.taken;
      within = omega (arith, so.within, taken.within, r.within, length-append so.bytes new.held);
      no_more_held = omega (arith, ap length (r.none_held refl));
      at_end = λ _ _. r.at_end refl;
      none_held = λ _ _. r.none_held refl;
      over = λ e. absurd (apart old.ended began e);
    },
    by empty e,
  )
    where
      all : old.held ++ (so.bytes ++ new.held) ≡ new.line
      all = ap (λ h. old.held ++ (so.bytes ++ h)) (r.none_held refl) ∙ ap (λ t. old.held ++ t) (append-nil so.bytes) ∙ so.all ∙ sym taken.all ∙ sym r.line

      clear : All NoLineFeed new.line
      clear = subst (All NoLineFeed) (sym r.line) (taken.clear so.clear)

      none : (line : List ℕ) → true ≡ (length line == 0) → line ≡ []
      none [] h = refl
      none (b ∷ line) h = absurd (grind (arith, nat_tests, h))

      one : (line : List ℕ) → false ≡ (length line == 0) → All NoLineFeed line → lines_of line ≡ line ∷ []
      one [] h c = cc
      one (b ∷ line) h c = lines-last b line c

      alone : (more : List ℕ) → more ≡ [] → false ≡ (length new.line == 0) → lines_of (old.held ++ ((so.bytes ++ new.held) ++ more)) ≡ new.line ∷ lines_of (new.held ++ more)
      alone more nil h =
          ap (λ m. lines_of (old.held ++ ((so.bytes ++ new.held) ++ m))) nil
          ∙ ap (λ t. lines_of (old.held ++ t)) (append-nil (so.bytes ++ new.held))
          ∙ ap lines_of all ∙ one new.line h clear
          ∙ sym (ap (λ t. new.line ∷ lines_of t) (ap (λ h. h ++ more) (r.none_held refl) ∙ nil))

      by : (empty : Bool) → empty ≡ (length new.line == 0) → IsTaken old new (so.bytes ++ new.held) (not empty)
      by true h = record { ended = r.ended; none = all ∙ none new.line h }
      by false h = λ more end. alone more (end r.ended) h

-- ---- a stop after bytes that were read

err-err : {A E : Type 0} (x y : E) → ◌≡◌ {A = Result A E} (Err x) (Err y) → x ≡ y
err-err x y e = cc

-- the same error of calls with other results
pub other-result : {A B E : Type 0} (x y : E) → ◌≡◌ {A = Result A E} (Err x) (Err y) → ◌≡◌ {A = Result B E} (Err x) (Err y)
other-result x y e = ap (λ z. Err z) (err-err x y e)

module _ (old_within within : ℕ) (before between after : Option (List ℕ)) (bytes : List ℕ) (taken : Consumes before between bytes) (rest : within + length bytes ≡ old_within) where
  pub takes-later : Takes (within + 1) between after → Takes (old_within + 1) before after
  takes-later t = (bytes ++ t.0, Consumes-trans before between after bytes t.0 taken t.1, omega (arith, rest, t.2, length-append bytes t.0))

  pub takes-at-most-later : TakesAtMost (within + 1) between after → TakesAtMost (old_within + 1) before after
  takes-at-most-later t = (bytes ++ t.0, Consumes-trans before between after bytes t.0 taken t.1, omega (arith, rest, t.2, length-append bytes t.0))

-- ---- what is left is read

pub record IsSkippedTo (old now : LineState) (before after : Option (List ℕ)) : Type 0 where
  pub bytes : List ℕ
  pub taken : Consumes before after bytes
  pub within : now.within + length bytes ≡ old.within

pub skipped-more : (old now new : LineState) (before between after : Option (List ℕ)) (some : Bool) → IsSkippedTo old now before between → IsRefilled now new between after some → IsSkippedTo old new before after
skipped-more old now new before between after some so r = record {
  bytes = so.bytes ++ new.held;
  taken = Consumes-trans before between after so.bytes new.held so.taken r.taken;
  within = omega (arith, so.within, r.within, length-append so.bytes new.held);
}
