-- The numbers of a line that is read are in their ranges.
use Rattle.std.proofs.Common.{◌≡◌, ℕ, zero, suc, ◌<◌, ◌^◌, ℤ, pos, negsuc, Bool, true, false, List, [], ◌∷◌, map, refl, subst, arith, Option, Some, None}
use Rattle.std.specs.Prelude.{nat_abs, nat_lt, codes, ◌&&◌}
use Rattle.std.specs.List.{All}
use Rattle.std.proofs.lemmas.Bool.Decides.{Decides-ltb}
use Rattle.std.proofs.lemmas.List.Elements.{All-nil, All-cons, All-head, All-tail}
use Rattle.jd_logic.specs.declared.Line.{Line}
use Rattle.jd_logic.specs.declared.Line.TheVariants.{Derive, Delete}
use Rattle.jd_logic.specs.Numerals.{integer_of}
use Rattle.jd_text.specs.Words.{is_text}
use Rattle.jd_logic.specs.Literals.{IsId, IsLiteral, IsHint, AreIds}
use Rattle.jd_logic.specs.LratText.{Ended, with_number, to_zero, to_last_zero, is_literal, is_hint, is_id, deletion_of, derivation_of, line_of, line_after}
use Rattle.jd_logic.specs.Ranges.{IsLine}

-- what one number makes of a list to a 0, and what a word makes of it
abbrev pub of_number : (ℤ → Bool) → ℤ → Ended → List (List ℕ) → Ended
of_number fits z rest words = elim (nat_abs z) [
  | zero ↦ Some ([], words)
  | suc k ↦ (elim (fits z) [ true ↦ with_number z rest | false ↦ None ])
]

abbrev pub of_word : (ℤ → Bool) → Option ℤ → Ended → List (List ℕ) → Ended
of_word fits o rest words = elim o [ None ↦ None | Some z ↦ of_number fits z rest words ]

pub small-id : (z : ℤ) → is_id z ≡ true → nat_abs z < 2 ^ 63
small-id (pos n) is = (Decides-ltb n (2 ^ 63)).0 (second (nat_lt 0 n) (nat_lt n (2 ^ 63)) is)
  where
    second : (a b : Bool) → (a && b) ≡ true → b ≡ true
    second true b e = e
    second false b e = cc
small-id (negsuc n) is = cc

pub record IsFit (fits : ℤ → Bool) (z : ℤ) : Type 0 where
  pub fit : fits z ≡ true
  pub not_zero : 0 < nat_abs z

some-none : {A : Type 0} (x : A) → None ≡ Some x → ⊥
some-none x e = cc

some-some : {A : Type 0} (x y : A) → Some x ≡ Some y → x ≡ y
some-some x y e = cc

pub fit-all : (fits : ℤ → Bool) (ws : List (List ℕ)) (e : List ℤ × List (List ℕ)) → to_zero fits ws ≡ Some e → All (IsFit fits) e.0
fit-all fits [] e is = absurd (some-none e is)
fit-all fits (word ∷ words) e is = by (integer_of word) (to_zero fits words) (fit-all fits words) is
  where
    number : (z : ℤ) (b : Bool) (rest : Ended) → ((f : List ℤ × List (List ℕ)) → rest ≡ Some f → All (IsFit fits) f.0) → 0 < nat_abs z → fits z ≡ b
        → ◌≡◌ {A = Ended} (elim b [ true ↦ with_number z rest | false ↦ None ]) (Some e) → All (IsFit fits) e.0
    number z true None ih some f h = absurd (some-none e h)
    number z true (Some r) ih some f h =
        let P : List ℤ × List (List ℕ) → Type 0 = λ x. All (IsFit fits) x.0 in
        subst P (some-some (z ∷ r.0, r.1) e h) (All-cons (IsFit fits) z (r.0) (record { fit = f; not_zero = some }) (ih r refl))
    number z false rest ih some f h = absurd (some-none e h)

    by : (o : Option ℤ) (rest : Ended) → ((f : List ℤ × List (List ℕ)) → rest ≡ Some f → All (IsFit fits) f.0) → of_word fits o rest words ≡ Some e → All (IsFit fits) e.0
    by None rest ih h = absurd (some-none e h)
    by (Some (pos zero)) rest ih h =
        let P : List ℤ × List (List ℕ) → Type 0 = λ x. All (IsFit fits) x.0 in
        subst P (some-some ([], words) e h) (All-nil (IsFit fits))
    by (Some (pos (suc k))) rest ih h = number (pos (suc k)) (fits (pos (suc k))) rest ih (omega arith) refl h
    by (Some (negsuc k)) rest ih h = number (negsuc k) (fits (negsuc k)) rest ih (omega arith) refl h

pub fit-list : (fits : ℤ → Bool) (ws : List (List ℕ)) (zs : List ℤ) → to_last_zero fits ws ≡ Some zs → All (IsFit fits) zs
fit-list fits ws zs is = by (to_zero fits ws) refl is
  where
    by : (e : Ended) → to_zero fits ws ≡ e → ◌≡◌ {A = Option (List ℤ)} (elim e [ None ↦ None | Some e ↦ (elim e.1 [ [] ↦ Some e.0 | _ ↦ None ]) ]) (Some zs) → All (IsFit fits) zs
    by None at h = absurd (some-none zs h)
    by (Some (xs, [])) at h =
        let P : List ℤ → Type 0 = λ ys. All (IsFit fits) ys in
        subst P (some-some xs zs h) (fit-all fits ws (xs, []) at)
    by (Some (xs, w ∷ ws')) at h = absurd (some-none zs h)

pub literal-fit : (z : ℤ) → IsFit is_literal z → IsLiteral z
literal-fit z f = record { not_zero = f.not_zero; bounded = (Decides-ltb (nat_abs z) (2 ^ 31)).0 f.fit }

pub hint-fit : (z : ℤ) → IsFit is_hint z → IsHint z
hint-fit z f = record { not_zero = f.not_zero; bounded = (Decides-ltb (nat_abs z) (2 ^ 63)).0 f.fit }

id-fit : (z : ℤ) → IsFit is_id z → IsId (nat_abs z)
id-fit z f = record { not_zero = f.not_zero; bounded = small-id z f.fit }

fits-all : (P : ℤ → Type 0) (fits : ℤ → Bool) → ((z : ℤ) → IsFit fits z → P z) → (zs : List ℤ) → All (IsFit fits) zs → All P zs
fits-all P fits h [] a = All-nil P
fits-all P fits h (z ∷ zs) a = All-cons P z zs (h z (All-head (IsFit fits) z zs a)) (fits-all P fits h zs (All-tail (IsFit fits) z zs a))

ids-all : (zs : List ℤ) → All (IsFit is_id) zs → AreIds (map nat_abs zs)
ids-all [] a = All-nil IsId
ids-all (z ∷ zs) a = All-cons IsId (nat_abs z) (map nat_abs zs) (id-fit z (All-head (IsFit is_id) z zs a)) (ids-all zs (All-tail (IsFit is_id) z zs a))

deletion-ranges : (words : List (List ℕ)) (line : Line) → deletion_of words ≡ Some line → IsLine line
deletion-ranges words line e = by (to_last_zero is_id words) refl e
  where
    by : (ids : Option (List ℤ)) → to_last_zero is_id words ≡ ids → ◌≡◌ {A = Option Line} (elim ids [ None ↦ None | Some ids ↦ Some (Delete (map nat_abs ids)) ]) (Some line) → IsLine line
    by None at e = absurd (some-none line e)
    by (Some ids) at e = subst IsLine (some-some (Delete (map nat_abs ids)) line e) (ids-all ids (fit-list is_id words ids at))

derivation-ranges : (id : ℕ) (words : List (List ℕ)) (line : Line) → IsId id → derivation_of id words ≡ Some line → IsLine line
derivation-ranges id words line is e = by (to_zero is_literal words) refl e
  where
    with_hints : (clause : List ℤ) (rest : List (List ℕ)) (hints : Option (List ℤ)) → All (IsFit is_literal) clause → to_last_zero is_hint rest ≡ hints
        → ◌≡◌ {A = Option Line} (elim hints [ None ↦ None | Some hints ↦ Some (Derive id clause hints) ]) (Some line) → IsLine line
    with_hints clause rest None literals at e = absurd (some-none line e)
    with_hints clause rest (Some hints) literals at e = subst IsLine (some-some (Derive id clause hints) line e) (record {
      id_in = is;
      clause_in = fits-all IsLiteral is_literal literal-fit clause literals;
      hints_in = fits-all IsHint is_hint hint-fit hints (fit-list is_hint rest hints at);
    })

    by : (ended : Ended) → to_zero is_literal words ≡ ended
        → ◌≡◌ {A = Option Line} (elim ended [ None ↦ None | Some e ↦ (elim (to_last_zero is_hint e.1) [ None ↦ None | Some hints ↦ Some (Derive id e.0 hints) ]) ]) (Some line) → IsLine line
    by None at e = absurd (some-none line e)
    by (Some ended) at e = with_hints ended.0 ended.1 (to_last_zero is_hint ended.1) (fit-all is_literal words ended at) refl e

pub line-ranges : (words : List (List ℕ)) (line : Line) → line_of words ≡ Some line → IsLine line
line-ranges [] line e = absurd (some-none line e)
line-ranges (word ∷ words) line e = by (integer_of word) refl e
  where
    after : (id : ℕ) (words : List (List ℕ)) → IsId id → line_after id words ≡ Some line → IsLine line
    after id [] is e = absurd (some-none line e)
    after id (word ∷ words) is e = by (is_text (codes "d") word) e
      where
        by : (b : Bool) → ◌≡◌ {A = Option Line} (elim b [ true ↦ deletion_of words | false ↦ derivation_of id (word ∷ words) ]) (Some line) → IsLine line
        by true e = deletion-ranges words line e
        by false e = derivation-ranges id (word ∷ words) line is e

    fitting : (z : ℤ) (b : Bool) → is_id z ≡ b → 0 < nat_abs z → ◌≡◌ {A = Option Line} (elim b [ true ↦ line_after (nat_abs z) words | false ↦ None ]) (Some line) → IsLine line
    fitting z true is some e = after (nat_abs z) words (id-fit z (record { fit = is; not_zero = some })) e
    fitting z false is some e = absurd (some-none line e)

    by : (z : Option ℤ) → integer_of word ≡ z → ◌≡◌ {A = Option Line} (elim z [ None ↦ None | Some id ↦ (elim (is_id id) [ true ↦ line_after (nat_abs id) words | false ↦ None ]) ]) (Some line) → IsLine line
    by None at e = absurd (some-none line e)
    by (Some (pos zero)) at e = absurd (some-none line e)
    by (Some (pos (suc k))) at e = fitting (pos (suc k)) (is_id (pos (suc k))) refl (omega arith) e
    by (Some (negsuc k)) at e = absurd (some-none line e)
