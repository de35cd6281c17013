-- The kind of a line's first word among some kinds and then others.
use Rattle.std.proofs.Common.{◌≡◌, ℕ, Bool, true, false, cond, List, [], ◌∷◌, ◌++◌, Option, Some, None, refl}
use Rattle.jd_text.specs.Words.{is_text}
use Rattle.jd_model.specs.declared.line_kinds.LineKind.{LineKind}
use Rattle.jd_model.specs.ProblemLines.{named_as, kind_name}

-- what is found first, or else what is found later
abbrev pub first_or : Option LineKind → Option LineKind → Option LineKind
first_or None later = later
first_or (Some kind) later = Some kind

pub named-append : (ks more : List LineKind) (word : List ℕ) → named_as kind_name (ks ++ more) word ≡ first_or (named_as kind_name ks word) (named_as kind_name more word)
named-append [] more word = refl
named-append (k ∷ ks) more word = by (is_text (kind_name k) word) (named-append ks more word)
  where
    by : (b : Bool) → named_as kind_name (ks ++ more) word ≡ first_or (named_as kind_name ks word) (named_as kind_name more word)
        → cond b (Some k) (named_as kind_name (ks ++ more) word) ≡ first_or (cond b (Some k) (named_as kind_name ks word)) (named_as kind_name more word)
    by true rest = refl
    by false rest = rest
