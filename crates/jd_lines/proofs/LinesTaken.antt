-- Lines of a source, one after another.
use Rattle.std.proofs.Common.{◌≡◌, ℕ, ◌+◌, ◌≤◌, ◌==◌, Bool, true, false, List, [], ◌∷◌, ◌++◌, length, suc, refl, sym, ap, ◌∙◌, subst, arith, append_assoc, append-nil, length-append}
use Rattle.std.specs.Prelude.{Option}
use Rattle.std.specs.Io.KnownBytes.{IsAtEnd}
use Rattle.std.proofs.KnownBytes.{Consumes-nil, Consumes-trans}
use Rattle.jd_text.specs.Lines.{put, pieces, lines_of}
use Rattle.jd_lines.specs.SourceLines.{LineState, HasRead, Advances, AreTaken, AreAll}
use Rattle.jd_lines.proofs.Advanced.{apart}

-- ---- what is read

pub reads-none : (s : LineState) (left : Option (List ℕ)) → HasRead s s left left []
reads-none s left = record {
  taken = Consumes-nil left;
  within = omega arith;
  no_more_held = omega arith;
  at_end = λ f t. absurd (apart s.ended f t);
  none_held = λ f t. absurd (apart s.ended f t);
  over = λ e. record { none = refl; left = refl; ended = e; held = refl };
}

pub reads-more : (old now new : LineState) (before left after : Option (List ℕ)) (bytes more : List ℕ) → HasRead old now before left bytes → HasRead now new left after more
    → HasRead old new before after (bytes ++ more)
reads-more old now new before left after bytes more one other = record {
  taken = Consumes-trans before left after bytes more one.taken other.taken;
  within = omega (arith, one.within, other.within, length-append bytes more);
  no_more_held = omega (arith, one.no_more_held, other.no_more_held, length-append bytes more);
  at_end = λ f t. at_end now.ended refl f t;
  none_held = λ f t. none_held now.ended refl f t;
  over = λ e.
      let first = one.over e in
      let then = other.over first.ended in
      record {
        none = ap (λ b. b ++ more) first.none ∙ then.none;
        left = then.left ∙ first.left;
        ended = then.ended;
        held = then.held ∙ first.held;
      };
}
  where
    at_end : (e : Bool) → now.ended ≡ e → old.ended ≡ false → new.ended ≡ true → IsAtEnd after
    at_end true e f t = subst IsAtEnd (sym (other.over e).left) (one.at_end f e)
    at_end false e f t = other.at_end e t

    none_held : (e : Bool) → now.ended ≡ e → old.ended ≡ false → new.ended ≡ true → new.held ≡ []
    none_held true e f t = (other.over e).held ∙ one.none_held f e
    none_held false e f t = other.none_held e t

-- what follows where the end was met before some bytes is nothing, and they are none
pub ended-more : (now new : LineState) (left after : Option (List ℕ)) (bytes more : List ℕ) → HasRead now new left after bytes → (new.ended ≡ true → more ≡ []) → now.ended ≡ true → bytes ++ more ≡ []
ended-more now new left after bytes more read h e = ap (λ b. b ++ more) (read.over e).none ∙ h (read.over e).ended

-- ---- lines

pub taken-none : (s : LineState) (left : Option (List ℕ)) → AreTaken s s left left []
taken-none s left = record { bytes = []; read = reads-none s left; are = λ more h. refl }

module _ (old now new : LineState) (before left after : Option (List ℕ)) (lines : List (List ℕ)) (so : AreTaken old now before left lines) where
  -- one line more
  pub taken-more : Advances now new left after true → AreTaken old new before after (lines ++ new.line ∷ [])
  taken-more (bytes, read, first) = record {
    bytes = so.bytes ++ bytes;
    read = reads-more old now new before left after so.bytes bytes so.read read;
    are = λ more h.
        ap (λ t. lines_of (old.held ++ t)) (append_assoc so.bytes bytes more)
        ∙ so.are (bytes ++ more) (ended-more now new left after bytes more read h)
        ∙ ap (λ ls. lines ++ ls) (first more h)
        ∙ sym (append_assoc lines (new.line ∷ []) (lines_of (new.held ++ more)));
  }

  -- no line more
  pub taken-all : Advances now new left after false → AreAll old new before after lines
  taken-all (bytes, read, none) = record {
    bytes = so.bytes ++ bytes;
    read = reads-more old now new before left after so.bytes bytes so.read read;
    ended = none.ended;
    are = so.are bytes (λ e. (read.over e).none) ∙ ap (λ t. lines ++ lines_of t) none.none ∙ append-nil lines;
  }

-- ---- how many lines

pieces-few : (ends : ℕ → Bool) (bytes : List ℕ) → length (pieces ends bytes) ≤ length bytes
pieces-few ends [] = omega arith
pieces-few ends (b ∷ bytes) = by_end (ends b) (pieces ends bytes) (pieces-few ends bytes)
  where
    by_end : (e : Bool) (ps : List (List ℕ)) → length ps ≤ length bytes → length (put e b ps) ≤ suc (length bytes)
    by_end true ps h = omega (arith, h)
    by_end false [] h = omega arith
    by_end false (p ∷ ps) h = omega (arith, h)

-- a text has at most as many lines as bytes
pub lines-few : (bytes : List ℕ) → length (lines_of bytes) ≤ length bytes
lines-few bytes = pieces-few (λ b. b == 10) bytes

pub taken-few : (old new : LineState) (before after : Option (List ℕ)) (lines : List (List ℕ)) (so : AreTaken old new before after lines) → length lines ≤ length old.held + length so.bytes
taken-few old new before after lines so =
    let rest = lines_of (new.held ++ []) in
    let all : length (lines_of (old.held ++ (so.bytes ++ []))) ≡ length (lines ++ rest) = ap length (so.are [] (λ _. refl)) in
    let most : length (lines_of (old.held ++ (so.bytes ++ []))) ≤ length (old.held ++ (so.bytes ++ [])) = lines-few (old.held ++ (so.bytes ++ [])) in
    omega (arith, all, most, length-append lines rest, length-append old.held (so.bytes ++ []), length-append so.bytes [])
