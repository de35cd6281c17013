-- A search after the last decision was taken back, its negation being true by the line of a conflict.
use Rattle.std.proofs.Common.{◌≡◌, ◌≢◌, ◌⊎◌, inl, inr, ℕ, zero, suc, ◌+◌, ◌-◌, ◌<◌, ◌≤◌, ◌^◌, ℤ, pos, true, false, List, [], ◌∷◌, ◌++◌, take, length, get_or, refl, sym, ◌∙◌, ap, subst, arith, Some}
use Rattle.std.specs.Prelude.{Vec, neg_ℤ}
use Rattle.std.specs.List.{All}
use Rattle.std.specs.declared.alloc.Global.{Global}
use Rattle.std.proofs.Math.IntN.{neg_ℤ-neg_ℤ}
use Rattle.std.proofs.Math.Seq.{take-take}
use Rattle.std.proofs.lemmas.List.{length_push, get_or_append_left, take-append-le, take_all, take_more}
use Rattle.std.proofs.lemmas.List.Elements.{All-weaker, All-push}
use Rattle.jd_logic.specs.declared.Line.{Line}
use Rattle.jd_logic.specs.declared.Line.TheVariants.{Derive}
use Rattle.jd_logic.specs.Literals.{has, IsLiteral}
use Rattle.jd_logic.specs.Derivation.{clause_of}
use Rattle.jd_logic.specs.Ranges.{IsDerivation}
use Rattle.jd_logic.specs.Checking.{numbered_from}
use Rattle.jd_proving.specs.Propagation.{has_value, is_new}
use Rattle.jd_propagate.specs.declared.reason.Reason.{Reason}
use Rattle.jd_propagate.specs.declared.reason.Reason.TheVariants as reason
use Rattle.jd_propagate.specs.Quiet.{IsIn, IsWithin, HasNoOpposites}
use Rattle.jd_propagate.specs.Levels.{negated, clauses_of, IsTrueLine, IsLineBefore}
use Rattle.jd_propagate.specs.Passing.{literal_at, AreSettled}
use Rattle.jd_propagate.specs.Reasons.{AreReasons}
use Rattle.jd_propagate.proofs.Extensions.{take-beyond, within-take}
use Rattle.jd_propagate.proofs.Keeping.{reasons-more}
use Rattle.jd_propagate.proofs.Lines.{negated-has, line_is_new, line_before, line_true, own_line_true}
use Rattle.jd_propagate.proofs.Members.{false_is_not_true, not_true, has-here, has-there, has-cases, has-append_left, has-append_right, has-push_cases, or_cases, or_left, or_right}
use Rattle.jd_propagate.proofs.TrailSteps.{value-left}
use Rattle.jd_propagate.proofs.Watching.{has-at, settled-grows}
use Rattle.jd_prover.specs.declared.solver.Solver.{Solver}
use Rattle.jd_prover.specs.Room.{room}
use Rattle.jd_prover.specs.Solving.{store_of, AreLogged, IsRight}
use Rattle.jd_prover.specs.Searching.{IsBefore, AreLevels, IsSearching}
use Rattle.jd_prover.proofs.Bound.{KeepsValues, room-refuted}
use Rattle.jd_prover.proofs.Cutting.{taken-length, taken-at, reasons-cut}
use Rattle.jd_prover.proofs.Logged.{lines-push, all-many, clauses-more, clauses_of-push}
use Rattle.jd_prover.proofs.Running.{value-grows}
use Rattle.jd_prover.proofs.Stored.{reasons-weaker, same_clauses, stored-more, stored-push}
use Rattle.jd_prover.proofs.Taking.{covered-grows}

pub negated-back : (ds : List ℤ) (l : ℤ) → IsIn (negated ds) l → IsIn ds (neg_ℤ l)
negated-back [] l is = absurd (false_is_not_true false refl is)
negated-back (e ∷ ds) l is = elim (has-cases (neg_ℤ e) (negated ds) l is) [
  | inl f ↦ (let P : ℤ → Type 0 = λ z. IsIn (e ∷ ds) z in subst P (sym (neg_ℤ-neg_ℤ e) ∙ ap neg_ℤ f) (has-here e ds))
  | inr f ↦ has-there e ds (neg_ℤ l) (negated-back ds l f)
]

-- a variable has no value where it has none among more literals
value-shrinks : (xs ys : List ℤ) (l : ℤ) → IsWithin xs ys → has_value ys l ≡ false → has_value xs l ≡ false
value-shrinks xs ys l w none = not_true (has_value xs l) (λ e. false_is_not_true (has_value ys l) none (value-grows xs ys l w e))

no_opposites-front : (trail : List ℤ) (n : ℕ) → HasNoOpposites trail → HasNoOpposites (take n trail)
no_opposites-front trail n h = λ l is. not_true (has (take n trail) (neg_ℤ l)) (λ e. false_is_not_true (has trail (neg_ℤ l)) (h l (within-take trail n l is)) (within-take trail n (neg_ℤ l) e))

-- a literal gives a value to what its negation gives one
value-turned : (xs : List ℤ) (d : ℤ) → KeepsValues (xs ++ d ∷ []) (xs ++ neg_ℤ d ∷ [])
value-turned xs d l e = elim (or_cases (has (xs ++ d ∷ []) l) (has (xs ++ d ∷ []) (neg_ℤ l)) e) [
  | inl a ↦ by l (has-push_cases xs d l a)
  | inr b ↦ back (has-push_cases xs d (neg_ℤ l) b)
]
  where
    last : IsIn (xs ++ neg_ℤ d ∷ []) (neg_ℤ d)
    last = has-append_right xs (neg_ℤ d ∷ []) (neg_ℤ d) (has-here (neg_ℤ d) [])

    by : (l : ℤ) → IsIn xs l ⊎ (d ≡ l) → has_value (xs ++ neg_ℤ d ∷ []) l ≡ true
    by l (inl a) = or_left (has (xs ++ neg_ℤ d ∷ []) l) (has (xs ++ neg_ℤ d ∷ []) (neg_ℤ l)) (has-append_left xs (neg_ℤ d ∷ []) l a)
    by l (inr same) =
        let P : ℤ → Type 0 = λ z. IsIn (xs ++ neg_ℤ d ∷ []) z in
        or_right (has (xs ++ neg_ℤ d ∷ []) l) (has (xs ++ neg_ℤ d ∷ []) (neg_ℤ l)) (subst P (ap neg_ℤ same) last)

    back : IsIn xs (neg_ℤ l) ⊎ (d ≡ neg_ℤ l) → has_value (xs ++ neg_ℤ d ∷ []) l ≡ true
    back (inl a) = or_right (has (xs ++ neg_ℤ d ∷ []) l) (has (xs ++ neg_ℤ d ∷ []) (neg_ℤ l)) (has-append_left xs (neg_ℤ d ∷ []) (neg_ℤ l) a)
    back (inr same) =
        let P : ℤ → Type 0 = λ z. IsIn (xs ++ neg_ℤ d ∷ []) z in
        or_left (has (xs ++ neg_ℤ d ∷ []) l) (has (xs ++ neg_ℤ d ∷ []) (neg_ℤ l)) (subst P (ap neg_ℤ same ∙ neg_ℤ-neg_ℤ l) last)

module _ (clauses : List (List ℤ)) (inputs last id : ℕ) (hints : List ℤ) (s : Solver) (trail : List ℤ) (reasons : Vec Reason Global) (decisions : Vec ℤ Global) (limits : Vec ℕ Global) (lines : Vec Line Global)
    (h : IsSearching clauses inputs s) (opposites : HasNoOpposites s.trail) (many : length s.decisions.items ≡ last + 1)
    (right : IsRight clauses s.lines.items (negated s.decisions.items) hints) (ranges : IsDerivation id (negated s.decisions.items) hints) (next : id ≡ length clauses + length s.lines.items + 1) (small : id < 2 ^ 62)
    (et : trail ≡ take (get_or s.limits.items last 0) s.trail ++ neg_ℤ (literal_at s.decisions.items last) ∷ [])
    (er : reasons.items ≡ take (get_or s.limits.items last 0) s.reasons.items ++ reason.Line id ∷ [])
    (ed : decisions.items ≡ take last s.decisions.items) (el : limits.items ≡ take last s.limits.items)
    (en : lines.items ≡ s.lines.items ++ Derive id (negated s.decisions.items) hints ∷ []) where
  here : last < length s.decisions.items
  here = omega (arith, many)

  before : IsBefore clauses s (take (get_or s.limits.items last 0) s.trail) (take last s.decisions.items) (literal_at s.decisions.items last)
  before = h.levels.before last here

  below : get_or s.limits.items last 0 < length s.trail
  below = h.levels.below last here

  whole : s.decisions.items ≡ take last s.decisions.items ++ literal_at s.decisions.items last ∷ []
  whole = sym (take-beyond s.decisions.items (last + 1) (omega (arith, many))) ∙ take_more s.decisions.items last (pos 0) here

  own : IsIn s.decisions.items (literal_at s.decisions.items last)
  own = has-at s.decisions.items last (pos 0) here

  grows : IsWithin (take (get_or s.limits.items last 0) s.trail) trail
  grows l is = let P : List ℤ → Type 0 = λ xs. IsIn xs l in subst P (sym et) (has-append_left (take (get_or s.limits.items last 0) s.trail) (neg_ℤ (literal_at s.decisions.items last) ∷ []) l is)

  front_long : length (take (get_or s.limits.items last 0) s.trail) ≡ get_or s.limits.items last 0
  front_long = taken-length s.trail (get_or s.limits.items last 0) (omega (arith, below))

  pub turned_long : length trail ≡ get_or s.limits.items last 0 + 1
  turned_long = ap length et ∙ length_push (take (get_or s.limits.items last 0) s.trail) (neg_ℤ (literal_at s.decisions.items last)) ∙ ap (λ (n : ℕ). n + 1) front_long

  first : (n : ℕ) → n ≤ get_or s.limits.items last 0 → take n trail ≡ take n s.trail
  first n le = ap (take n) et ∙ take-append-le n (take (get_or s.limits.items last 0) s.trail) (neg_ℤ (literal_at s.decisions.items last) ∷ []) (omega (arith, front_long)) ∙ take-take n (get_or s.limits.items last 0) s.trail le

  new : is_new (clauses ++ clauses_of s.lines.items) (negated s.decisions.items) ≡ true
  new = ap (λ xs. is_new (clauses ++ clauses_of s.lines.items) (negated xs)) whole
      ∙ line_is_new clauses (clauses_of s.lines.items) (take last s.decisions.items) (take (get_or s.limits.items last 0) s.trail) (literal_at s.decisions.items last)
      (no_opposites-front s.trail (get_or s.limits.items last 0) opposites) before.level

  logged : clauses_of lines.items ≡ clauses_of s.lines.items ++ negated s.decisions.items ∷ []
  logged = ap clauses_of en ∙ clauses_of-push s.lines.items id (negated s.decisions.items) hints

  -- an earlier decision isn't the last one
  limit : (j : ℕ) → j < last → get_or s.limits.items j 0 < get_or s.limits.items last 0
  limit j lt = h.levels.order j last lt here

  kept_decision : (l : ℤ) → IsIn (take (get_or s.limits.items last 0) s.trail) l → IsIn s.decisions.items l → IsIn (take last s.decisions.items) l
  kept_decision l in' is = by (has-push_cases (take last s.decisions.items) (literal_at s.decisions.items last) l (let P : List ℤ → Type 0 = λ xs. IsIn xs l in subst P whole is))
    where
      by : IsIn (take last s.decisions.items) l ⊎ (literal_at s.decisions.items last ≡ l) → IsIn (take last s.decisions.items) l
      by (inl e) = e
      by (inr e) =
          let xs = take (get_or s.limits.items last 0) s.trail in
          let z = literal_at s.decisions.items last in
          let P : ℤ → Type 0 = λ y. IsIn xs y in
          absurd (false_is_not_true (has xs z) (value-left xs z before.level.no_value) (subst P (sym e) in'))

  more : clauses ++ clauses_of lines.items ≡ (clauses ++ clauses_of s.lines.items) ++ negated s.decisions.items ∷ []
  more = ap (λ ls. clauses ++ clauses_of ls) en ∙ clauses-more clauses s.lines.items id (negated s.decisions.items) hints

  stored_still : (i : ℕ) (clause : List ℤ) → clause_of i (store_of clauses s.lines.items) ≡ Some clause → clause_of i (store_of clauses lines.items) ≡ Some clause
  stored_still i clause e =
      let P : List (List ℤ) → Type 0 = λ cs. clause_of i (numbered_from 1 cs) ≡ Some clause in
      subst P (sym more) (stored-more (clauses ++ clauses_of s.lines.items) (negated s.decisions.items ∷ []) 1 i clause e)

  stored_line : clause_of id (store_of clauses lines.items) ≡ Some (negated s.decisions.items)
  stored_line =
      let n = all-many clauses s.lines.items h.lines in
      let P : List (List ℤ) → Type 0 = λ cs. clause_of id (numbered_from 1 cs) ≡ Some (negated s.decisions.items) in
      subst P (sym more) (stored-push (clauses ++ clauses_of s.lines.items) (negated s.decisions.items) id (omega (arith, next)))

  others : (l : ℤ) → IsIn (negated s.decisions.items) l → (l ≡ neg_ℤ (literal_at s.decisions.items last))
      ⊎ (IsIn (take (get_or s.limits.items last 0) s.trail) (neg_ℤ l) × IsIn (take last s.decisions.items) (neg_ℤ l))
  others l is = by (has-push_cases (take last s.decisions.items) (literal_at s.decisions.items last) (neg_ℤ l) (let P : List ℤ → Type 0 = λ xs. IsIn xs (neg_ℤ l) in subst P whole (negated-back s.decisions.items l is)))
    where
      by : IsIn (take last s.decisions.items) (neg_ℤ l) ⊎ (literal_at s.decisions.items last ≡ neg_ℤ l) → (l ≡ neg_ℤ (literal_at s.decisions.items last))
          ⊎ (IsIn (take (get_or s.limits.items last 0) s.trail) (neg_ℤ l) × IsIn (take last s.decisions.items) (neg_ℤ l))
      by (inl e) = inr (before.level.earlier_true (neg_ℤ l) e, e)
      by (inr e) = inl (sym (neg_ℤ-neg_ℤ l) ∙ ap neg_ℤ (sym e))

  reasons-back : AreReasons s.long (store_of clauses lines.items) decisions.items decisions.items trail reasons.items
  reasons-back =
      let store = store_of clauses s.lines.items in
      let n = get_or s.limits.items last 0 in
      let xs = take n s.trail in
      let z = neg_ℤ (literal_at s.decisions.items last) in
      let es = take last s.decisions.items in
      let more = store_of clauses lines.items in
      let c = negated s.decisions.items in
      let r = reason.Line id in
      let cut = reasons-cut s.long store s.decisions.items es s.decisions.items es s.trail s.reasons.items n (omega (arith, below)) kept_decision kept_decision h.known.reasons in
      let T : List ℤ → Type 0 = λ ys. AreReasons s.long more decisions.items decisions.items ys reasons.items in
      let R : List Reason → Type 0 = λ rs. AreReasons s.long more decisions.items decisions.items (xs ++ z ∷ []) rs in
      let D : List ℤ → Type 0 = λ ys. AreReasons s.long more ys ys (xs ++ z ∷ []) (take n s.reasons.items ++ r ∷ []) in
      subst T (sym et) (subst R (sym er) (subst D (sym ed)
      (reasons-more s.long more es es xs (take n s.reasons.items) z r
      (reasons-weaker s.long s.long store more es es es es xs (take n s.reasons.items) (same_clauses s.long) stored_still (λ l is. is) (λ l is. is) cut) (
        c,
        record {
          not_zero = omega (arith, next);
          small = small;
          stored = stored_line;
          among = negated-has s.decisions.items (literal_at s.decisions.items last) own;
          others = others;
        },
      ))))

  levels-back : AreLevels clauses (record s { trail = trail; reasons = reasons; decisions = decisions; limits = limits; lines = lines })
  levels-back = record {
    as_many = ap length el ∙ taken-length s.limits.items last (let m' = h.levels.as_many in omega (arith, many)) ∙ sym fewer;
    below = λ j lt. (let k : j < last = omega (arith, fewer) in let e = limit_old j k in let g = limit j k in let t = turned_long in omega arith);
    order = λ i j less lt. (let k : j < last = omega (arith, fewer) in let e = limit_old j k in let f = limit_old i (omega arith) in let g = h.levels.order i j less (omega (arith, many)) in omega arith);
    place = λ j lt. (let k : j < last = omega (arith, fewer) in
        ap (literal_at trail) (limit_old j k) ∙ at_front (get_or s.limits.items j 0) (limit j k) ∙ h.levels.place j (omega (arith, many)) ∙ sym (decision_old j k));
    before = λ j lt. (let k : j < last = omega (arith, fewer) in
        along j (get_or s.limits.items j 0) (take (get_or s.limits.items j 0) s.trail) (take j s.decisions.items) (literal_at s.decisions.items j) (limit_old j k)
        (first (get_or s.limits.items j 0) (let g = limit j k in omega arith)) (earlier_decisions j (omega arith)) (decision_old j k) (old_before j k));
  }
    where
      fewer : length decisions.items ≡ last
      fewer = ap length ed ∙ taken-length s.decisions.items last (omega (arith, many))

      limit_old : (j : ℕ) → j < last → get_or limits.items j 0 ≡ get_or s.limits.items j 0
      limit_old j lt = ap (λ (xs : List ℕ). get_or xs j 0) el ∙ taken-at s.limits.items last j 0 lt

      decision_old : (j : ℕ) → j < last → literal_at decisions.items j ≡ literal_at s.decisions.items j
      decision_old j lt = ap (λ (xs : List ℤ). literal_at xs j) ed ∙ taken-at s.decisions.items last j (pos 0) lt

      earlier_decisions : (j : ℕ) → j ≤ last → take j decisions.items ≡ take j s.decisions.items
      earlier_decisions j le = ap (take j) ed ∙ take-take j last s.decisions.items le

      at_front : (k : ℕ) → k < get_or s.limits.items last 0 → literal_at trail k ≡ literal_at s.trail k
      at_front k lt =
          ap (λ (xs : List ℤ). literal_at xs k) et
          ∙ get_or_append_left (take (get_or s.limits.items last 0) s.trail) (neg_ℤ (literal_at s.decisions.items last) ∷ []) (pos 0) k (omega (arith, front_long))
          ∙ taken-at s.trail (get_or s.limits.items last 0) k (pos 0) lt

      along : (k n : ℕ) (xs ys : List ℤ) (z : ℤ) → get_or limits.items k 0 ≡ n → take n trail ≡ xs → take k decisions.items ≡ ys → literal_at decisions.items k ≡ z
          → IsBefore clauses (record s { trail = trail; reasons = reasons; decisions = decisions; limits = limits; lines = lines }) xs ys z
          → IsBefore clauses (record s { trail = trail; reasons = reasons; decisions = decisions; limits = limits; lines = lines }) (take (get_or limits.items k 0) trail) (take k decisions.items) (literal_at decisions.items k)
      along k n xs ys z e f g i b =
          let next' : Solver = record s { trail = trail; reasons = reasons; decisions = decisions; limits = limits; lines = lines } in
          let M : ℕ → Type 0 = λ q. IsBefore clauses next' (take q trail) (take k decisions.items) (literal_at decisions.items k) in
          let X : List ℤ → Type 0 = λ q. IsBefore clauses next' q (take k decisions.items) (literal_at decisions.items k) in
          let Y : List ℤ → Type 0 = λ q. IsBefore clauses next' xs q (literal_at decisions.items k) in
          let Z : ℤ → Type 0 = λ q. IsBefore clauses next' xs ys q in
          subst M (sym e) (subst X (sym f) (subst Y (sym g) (subst Z (sym i) b)))

      old_before : (j : ℕ) → j < last
          → IsBefore clauses (record s { trail = trail; reasons = reasons; decisions = decisions; limits = limits; lines = lines }) (take (get_or s.limits.items j 0) s.trail) (take j s.decisions.items) (literal_at s.decisions.items j)
      old_before j lt =
          let o = h.levels.before j (omega (arith, many)) in
          let n = get_or s.limits.items j 0 in
          let xs = take n s.trail in
          let z = literal_at s.decisions.items j in
          let end = literal_at s.decisions.items last in
          let W : List (List ℤ) → Type 0 = λ cs. All (IsLineBefore xs z) cs in
          let mine = line_before xs s.decisions.items z end (has-at s.decisions.items j (pos 0) (omega (arith, many))) own (apart j lt) o.level.no_value (open_before j lt) in
          record {
            level = record {
              quiet = o.level.quiet;
              earlier_true = o.level.earlier_true;
              no_value = o.level.no_value;
              lines_before = subst W (sym logged) (All-push (IsLineBefore xs z) (clauses_of s.lines.items) (negated s.decisions.items) o.level.lines_before mine);
            };
            settled = o.settled;
            covered = o.covered;
          }
        where
          apart : (j : ℕ) → j < last → literal_at s.decisions.items j ≢ literal_at s.decisions.items last
          apart j lt e =
              let xs = take (get_or s.limits.items last 0) s.trail in
              let z = literal_at s.decisions.items last in
              let among : IsIn (take last s.decisions.items) (get_or (take last s.decisions.items) j (pos 0)) = has-at (take last s.decisions.items) j (pos 0) (let t = taken-length s.decisions.items last (omega (arith, many)) in omega arith) in
              let I : ℤ → Type 0 = λ y. IsIn (take last s.decisions.items) y in
              false_is_not_true (has xs z) (value-left xs z before.level.no_value) (before.level.earlier_true z (subst I (taken-at s.decisions.items last j (pos 0) lt ∙ e) among))

          open_before : (j : ℕ) → j < last → has_value (take (get_or s.limits.items j 0) s.trail) (literal_at s.decisions.items last) ≡ false
          open_before j lt =
              let n = get_or s.limits.items j 0 in
              let xs = take (get_or s.limits.items last 0) s.trail in
              let g = limit j lt in
              let P : List ℤ → Type 0 = λ ys. IsWithin ys xs in
              value-shrinks (take n s.trail) xs (literal_at s.decisions.items last) (subst P (take-take n (get_or s.limits.items last 0) s.trail (omega arith)) (within-take xs n)) before.level.no_value

  pub searching-back : IsSearching clauses inputs (record s { trail = trail; reasons = reasons; decisions = decisions; limits = limits; lines = lines })
  searching-back =
      let xs = take (get_or s.limits.items last 0) s.trail in
      let z = literal_at s.decisions.items last in
      let c = negated s.decisions.items in
      let G : List Line → Type 0 = λ ls. AreLogged clauses ls in
      let L : List ℤ → Type 0 = λ ls. All IsLiteral ls in
      let W : List (List ℤ) → Type 0 = λ cs. All (IsTrueLine trail) cs in
      let T : List ℤ → Type 0 = λ ys. (line : List ℤ) → IsLineBefore xs z line → IsTrueLine ys line in
      let O : List ℤ → Type 0 = λ ys. IsTrueLine ys (negated s.decisions.items) in
      record {
        watched = h.watched;
        known = record { origins = h.known.origins; reasons = reasons-back };
        covered = λ k lt. covered-grows s.long xs trail (get_or clauses k []) grows (before.covered k lt);
        levels = levels-back;
        literals = subst L (sym ed) (front_literals s.decisions.items last h.literals);
        true_lines = subst W (sym logged) (All-push (IsTrueLine trail) (clauses_of s.lines.items) c
            (All-weaker (IsLineBefore xs z) (IsTrueLine trail) (subst T (sym et) (λ line b. line_true xs line z b)) (clauses_of s.lines.items) before.level.lines_before)
            (subst O (sym et) (own_line_true xs s.decisions.items z own)));
        lines = subst G (sym en) (lines-push clauses s.lines.items id c hints h.lines next right new ranges);
        room = (let r = room-refuted inputs (get_or s.limits.items last 0) s.trail trail (take last s.limits.items) turned same_front in
            let e = ap (room inputs trail) el in
            let f = ap (room inputs s.trail) whole_limits in
            let n : length lines.items ≡ length s.lines.items + 1 = ap length en ∙ length_push s.lines.items (Derive id c hints) in
            let g = h.room in omega arith);
      }
    where
      front_literals : (ys : List ℤ) (n : ℕ) → All IsLiteral ys → All IsLiteral (take n ys)
      front_literals ys n all = λ k e lt. (let P : ℤ → Type 0 = λ y. IsLiteral y in let g : k < n = within_front ys n k lt in subst P (sym (taken-at ys n k e g)) (all k e (let t = shorter ys n in omega arith)))
        where
          shorter : (ys : List ℤ) (n : ℕ) → length (take n ys) ≤ length ys
          shorter [] zero = omega arith
          shorter [] (suc n) = omega arith
          shorter (y ∷ ys) zero = omega arith
          shorter (y ∷ ys) (suc n) = let t = shorter ys n in omega arith

          within_front : (ys : List ℤ) (n k : ℕ) → k < length (take n ys) → k < n
          within_front [] zero k lt = absurd (omega arith)
          within_front [] (suc n) k lt = absurd (omega arith)
          within_front (y ∷ ys) zero k lt = absurd (omega arith)
          within_front (y ∷ ys) (suc n) zero lt = omega arith
          within_front (y ∷ ys) (suc n) (suc k) lt = let t = within_front ys n k (omega arith) in omega arith

      -- the trail up to the last decision, and with its negation in its place
      decided : take (get_or s.limits.items last 0 + 1) s.trail ≡ take (get_or s.limits.items last 0) s.trail ++ literal_at s.decisions.items last ∷ []
      decided = take_more s.trail (get_or s.limits.items last 0) (pos 0) below ∙ ap (λ (z : ℤ). take (get_or s.limits.items last 0) s.trail ++ z ∷ []) (h.levels.place last here)

      turned : KeepsValues (take (get_or s.limits.items last 0 + 1) s.trail) trail
      turned =
          let xs = take (get_or s.limits.items last 0) s.trail in
          let z = literal_at s.decisions.items last in
          let O : List ℤ → Type 0 = λ ys. KeepsValues ys trail in
          let N : List ℤ → Type 0 = λ ys. KeepsValues (xs ++ z ∷ []) ys in
          subst O (sym decided) (subst N (sym et) (value-turned xs z))

      limits_long : last < length s.limits.items
      limits_long = let m = h.levels.as_many in omega (arith, many)

      whole_limits : s.limits.items ≡ take last s.limits.items ++ get_or s.limits.items last 0 ∷ []
      whole_limits = sym (take_all (last + 1) s.limits.items (let m = h.levels.as_many in omega (arith, many))) ∙ take_more s.limits.items last 0 limits_long

      same_front : (j : ℕ) → j < length (take last s.limits.items) → take (get_or (take last s.limits.items) j 0 + 1) trail ≡ take (get_or (take last s.limits.items) j 0 + 1) s.trail
      same_front j lt =
          let k : j < last = (let t = taken-length s.limits.items last (let m = limits_long in omega arith) in omega arith) in
          let e = taken-at s.limits.items last j 0 k in
          let g = limit j k in
          first (get_or (take last s.limits.items) j 0 + 1) (omega arith)

  -- the negated decision is the one literal not yet seen
  pub settled-back : AreSettled s.long s.firsts.items s.seconds.items trail (take (length trail - 1) trail)
  settled-back =
      let n = get_or s.limits.items last 0 in
      let xs = take n s.trail in
      let t = turned_long in
      let e : take (length trail - 1) trail ≡ xs = ap (λ (k : ℕ). take k trail) (let q : length trail - 1 ≡ n = omega arith in q) ∙ first n (omega arith) in
      let P : List ℤ → Type 0 = λ ys. AreSettled s.long s.firsts.items s.seconds.items trail ys in
      subst P (sym e) (λ c lt. settled-grows xs xs trail (literal_at s.firsts.items c) (literal_at s.seconds.items c) grows (before.settled c lt))
