-- A search after a decision.
use Rattle.std.proofs.Common.{◌≡◌, ◌⊎◌, inl, inr, ℕ, zero, suc, ◌+◌, ◌<◌, ◌≤◌, ◌^◌, ℤ, pos, true, false, List, [], ◌∷◌, ◌++◌, take, length, get_or, refl, sym, ◌∙◌, ap, subst, arith}
use Rattle.std.specs.Prelude.{Vec, neg_ℤ}
use Rattle.std.specs.List.{All}
use Rattle.std.specs.declared.alloc.Global.{Global}
use Rattle.std.proofs.Math.IntN.{neg_ℤ-neg_ℤ}
use Rattle.std.proofs.lemmas.List.{get_or_append_left, get_or_push, length_push, take-append-le}
use Rattle.std.proofs.lemmas.List.Elements.{All-weaker, All-push}
use Rattle.jd_logic.specs.Literals.{has, IsLiteral}
use Rattle.jd_proving.specs.Propagation.{has_value}
use Rattle.jd_propagate.specs.declared.reason.Reason.{Reason}
use Rattle.jd_propagate.specs.declared.reason.Reason.TheVariants.{Decision}
use Rattle.jd_propagate.specs.Quiet.{IsIn, IsWithin, AreQuiet}
use Rattle.jd_propagate.specs.Levels.{clauses_of, IsTrueLine, IsLineBefore}
use Rattle.jd_propagate.specs.Passing.{literal_at, AreSettled}
use Rattle.jd_propagate.specs.Reasons.{AreReasons}
use Rattle.jd_propagate.proofs.Attaching.{each_more}
use Rattle.jd_propagate.proofs.Extensions.{extends-push, take-beyond}
use Rattle.jd_propagate.proofs.Keeping.{reasons-more}
use Rattle.jd_propagate.proofs.Members.{false_is_not_true, has-here, has-cases, has-append_left, has-append_right, or_false, or_right}
use Rattle.jd_propagate.proofs.TrailSteps.{value-left, value-right}
use Rattle.jd_propagate.proofs.Watching.{has-at, settled-grows}
use Rattle.jd_prover.specs.declared.solver.Solver.{Solver}
use Rattle.jd_prover.specs.Solving.{store_of}
use Rattle.jd_prover.specs.Searching.{IsBefore, AreLevels, IsSearching}
use Rattle.jd_prover.specs.Room.{room}
use Rattle.jd_prover.proofs.Bound.{room-decided}
use Rattle.jd_prover.proofs.Stored.{reasons-weaker, same_clauses}
use Rattle.jd_prover.proofs.Taking.{covered-grows}
use Rattle.jd_prover.proofs.Running.{grown, value-grows, true_line-grows, at-front}

within-each : (xs ys : List ℤ) → ((j : ℕ) → j < length xs → IsIn ys (get_or xs j (pos 0))) → IsWithin xs ys
within-each [] ys h = λ l is. absurd (false_is_not_true false refl is)
within-each (x ∷ xs) ys h = λ l is. by l (has-cases x xs l is) (within-each xs ys (λ j lt. h (suc j) (omega arith)) l)
  where
    by : (l : ℤ) → (x ≡ l) ⊎ IsIn xs l → (IsIn xs l → IsIn ys l) → IsIn ys l
    by l (inl e) rest = (let P : ℤ → Type 0 = λ z. IsIn ys z in subst P e (h 0 (omega arith)))
    by l (inr k) rest = rest k

-- a variable's negation
pub negation-literal : (v : ℕ) → 0 < v → v < 2 ^ 31 → IsLiteral (neg_ℤ (pos v))
negation-literal zero z lt = absurd (omega arith)
negation-literal (suc k) z lt = record { not_zero = omega arith; bounded = omega arith }

pub negation-open : (trail : List ℤ) (l : ℤ) → has_value trail l ≡ false → has_value trail (neg_ℤ l) ≡ false
negation-open trail l e = or_false (has trail (neg_ℤ l)) (has trail (neg_ℤ (neg_ℤ l))) (value-right trail l e) (ap (has trail) (neg_ℤ-neg_ℤ l) ∙ value-left trail l e)

pub negation-valued : (trail : List ℤ) (l : ℤ) → has_value (trail ++ neg_ℤ l ∷ []) l ≡ true
negation-valued trail l = or_right (has (trail ++ neg_ℤ l ∷ []) l) (has (trail ++ neg_ℤ l ∷ []) (neg_ℤ l)) (has-append_right trail (neg_ℤ l ∷ []) (neg_ℤ l) (has-here (neg_ℤ l) []))

-- the decisions are true
pub decisions-true : (clauses : List (List ℤ)) (s : Solver) → AreLevels clauses s → IsWithin s.decisions.items s.trail
decisions-true clauses s h = within-each s.decisions.items s.trail (λ j lt. (let P : ℤ → Type 0 = λ z. IsIn s.trail z in subst P (h.place j lt) (has-at s.trail (get_or s.limits.items j 0) (pos 0) (h.below j lt))))

module _ (clauses : List (List ℤ)) (inputs v : ℕ) (d : ℤ) (s : Solver) (trail : List ℤ) (reasons : Vec Reason Global) (decisions : Vec ℤ Global) (limits : Vec ℕ Global)
    (h : IsSearching clauses inputs s) (settled : AreSettled s.long s.firsts.items s.seconds.items s.trail s.trail) (quiet : AreQuiet s.trail clauses)
    (literal : IsLiteral d) (open' : has_value s.trail d ≡ false)
    (above : 0 < v) (inside : v ≤ inputs) (none : has_value s.trail (pos v) ≡ false) (valued : has_value (s.trail ++ d ∷ []) (pos v) ≡ true)
    (et : trail ≡ s.trail ++ d ∷ []) (er : reasons.items ≡ s.reasons.items ++ Decision ∷ []) (ed : decisions.items ≡ s.decisions.items ++ d ∷ [])
    (el : limits.items ≡ s.limits.items ++ length s.trail ∷ []) where
  abbrev new : Solver
  new = record s { trail = trail; reasons = reasons; decisions = decisions; limits = limits }

  grows : IsWithin s.trail trail
  grows = grown s.trail trail (extends-push s.trail trail d et)

  n : ℕ
  n = length s.decisions.items

  many : length decisions.items ≡ length s.decisions.items + 1
  many = ap length ed ∙ length_push s.decisions.items d

  long_trail : length trail ≡ length s.trail + 1
  long_trail = ap length et ∙ length_push s.trail d

  limit_old : (j : ℕ) → j < length s.decisions.items → get_or limits.items j 0 ≡ get_or s.limits.items j 0
  limit_old j lt = ap (λ (xs : List ℕ). get_or xs j 0) el ∙ get_or_append_left s.limits.items (length s.trail ∷ []) 0 j (let m = h.levels.as_many in omega arith)

  limit_new : get_or limits.items (length s.decisions.items) 0 ≡ length s.trail
  limit_new = ap (λ (xs : List ℕ). get_or xs (length s.decisions.items) 0) el ∙ get_or_push s.limits.items (length s.trail) 0 (length s.decisions.items) h.levels.as_many

  decision_old : (j : ℕ) → j < length s.decisions.items → literal_at decisions.items j ≡ literal_at s.decisions.items j
  decision_old j lt = ap (λ (xs : List ℤ). literal_at xs j) ed ∙ get_or_append_left s.decisions.items (d ∷ []) (pos 0) j lt

  decision_new : literal_at decisions.items (length s.decisions.items) ≡ d
  decision_new = ap (λ (xs : List ℤ). literal_at xs (length s.decisions.items)) ed ∙ get_or_push s.decisions.items d (pos 0) (length s.decisions.items) refl

  earlier : (j : ℕ) → j ≤ length s.decisions.items → take j decisions.items ≡ take j s.decisions.items
  earlier j le = ap (take j) ed ∙ take-append-le j s.decisions.items (d ∷ []) le

  front : (m : ℕ) → m ≤ length s.trail → take m trail ≡ take m s.trail
  front m le = ap (take m) et ∙ take-append-le m s.trail (d ∷ []) le

  pub levels-decided : AreLevels clauses (record s { trail = trail; reasons = reasons; decisions = decisions; limits = limits })
  levels-decided = record {
    as_many = (let m = h.levels.as_many in omega (arith, ap length el, length_push s.limits.items (length s.trail), many));
    below = λ j lt. each_more (λ k. get_or limits.items k 0 < length trail) (length s.decisions.items) j
        (λ k b. (let e = limit_old k b in let g = h.levels.below k b in let t = long_trail in omega arith)) (let e = limit_new in let t = long_trail in omega arith) (let m = many in omega arith);
    order = λ i j less lt. each_more (λ k. i < k → get_or limits.items i 0 < get_or limits.items k 0) (length s.decisions.items) j
        (λ k b under. (let e = limit_old k b in let f = limit_old i (omega arith) in let g = h.levels.order i k under b in omega arith))
        (λ under. (let e = limit_new in let f = limit_old i under in let g = h.levels.below i under in omega arith)) (let m = many in omega arith) less;
    place = λ j lt. each_more (λ k. literal_at trail (get_or limits.items k 0) ≡ literal_at decisions.items k) (length s.decisions.items) j
        (λ k b. ap (literal_at trail) (limit_old k b) ∙ at-front s.trail trail (get_or s.limits.items k 0) (extends-push s.trail trail d et) (h.levels.below k b) ∙ h.levels.place k b ∙ sym (decision_old k b))
        (ap (literal_at trail) limit_new ∙ ap (λ (xs : List ℤ). literal_at xs (length s.trail)) et ∙ get_or_push s.trail d (pos 0) (length s.trail) refl ∙ sym decision_new) (let m = many in omega arith);
    before = λ j lt. each_more (λ k. IsBefore clauses new (take (get_or limits.items k 0) trail) (take k decisions.items) (literal_at decisions.items k)) (length s.decisions.items) j
        old_before new_before (let m = many in omega arith);
  }
    where
      along : (k m : ℕ) (xs ys : List ℤ) (z : ℤ) → get_or limits.items k 0 ≡ m → take m trail ≡ xs → take k decisions.items ≡ ys → literal_at decisions.items k ≡ z → IsBefore clauses new xs ys z
          → IsBefore clauses new (take (get_or limits.items k 0) trail) (take k decisions.items) (literal_at decisions.items k)
      along k m xs ys z e f g i b =
          let M : ℕ → Type 0 = λ q. IsBefore clauses new (take q trail) (take k decisions.items) (literal_at decisions.items k) in
          let X : List ℤ → Type 0 = λ q. IsBefore clauses new q (take k decisions.items) (literal_at decisions.items k) in
          let Y : List ℤ → Type 0 = λ q. IsBefore clauses new xs q (literal_at decisions.items k) in
          let Z : ℤ → Type 0 = λ q. IsBefore clauses new xs ys q in
          subst M (sym e) (subst X (sym f) (subst Y (sym g) (subst Z (sym i) b)))

      old_before : (k : ℕ) → k < length s.decisions.items → IsBefore clauses new (take (get_or limits.items k 0) trail) (take k decisions.items) (literal_at decisions.items k)
      old_before k b =
          let o = h.levels.before k b in
          let m = get_or s.limits.items k 0 in
          let g = h.levels.below k b in
          along k m (take m s.trail) (take k s.decisions.items) (literal_at s.decisions.items k) (limit_old k b) (front m (omega arith)) (earlier k (omega arith)) (decision_old k b)
          (record { level = o.level; settled = o.settled; covered = o.covered })

      new_before : IsBefore clauses new (take (get_or limits.items (length s.decisions.items) 0) trail) (take (length s.decisions.items) decisions.items) (literal_at decisions.items (length s.decisions.items))
      new_before = along (length s.decisions.items) (length s.trail) s.trail s.decisions.items d limit_new
          (front (length s.trail) (omega arith) ∙ take-beyond s.trail (length s.trail) (omega arith)) (earlier (length s.decisions.items) (omega arith) ∙ take-beyond s.decisions.items (length s.decisions.items) (omega arith))
          decision_new (record {
            level = record {
              quiet = quiet;
              earlier_true = decisions-true clauses s h.levels;
              no_value = open';
              lines_before = All-weaker (IsTrueLine s.trail) (IsLineBefore s.trail d) (λ line t. inl t) (clauses_of s.lines.items) h.true_lines;
            };
            settled = settled;
            covered = h.covered;
          })

  pub searching-decided : IsSearching clauses inputs (record s { trail = trail; reasons = reasons; decisions = decisions; limits = limits })
  searching-decided =
      let store = store_of clauses s.lines.items in
      let ds = s.decisions.items in
      let T : List ℤ → Type 0 = λ xs. AreReasons s.long store decisions.items decisions.items xs reasons.items in
      let R : List Reason → Type 0 = λ xs. AreReasons s.long store decisions.items decisions.items (s.trail ++ d ∷ []) xs in
      let D : List ℤ → Type 0 = λ xs. AreReasons s.long store xs xs (s.trail ++ d ∷ []) (s.reasons.items ++ Decision ∷ []) in
      let V : List ℤ → Type 0 = λ xs. has_value xs (pos v) ≡ true in
      let L : List ℤ → Type 0 = λ xs. All IsLiteral xs in
      record {
        watched = h.watched;
        known = record {
          origins = h.known.origins;
          reasons = subst T (sym et) (subst R (sym er) (subst D (sym ed) (reasons-more s.long store (ds ++ d ∷ []) (ds ++ d ∷ []) s.trail s.reasons.items d Decision
              (reasons-weaker s.long s.long store store ds (ds ++ d ∷ []) ds (ds ++ d ∷ []) s.trail s.reasons.items (same_clauses s.long) (λ id c is. is) (λ l is. has-append_left ds (d ∷ []) l is) (λ l is. has-append_left ds (d ∷ []) l is) h.known.reasons)
              (has-append_right ds (d ∷ []) d (has-here d [])))));
        };
        covered = λ k lt. covered-grows s.long s.trail trail (get_or clauses k []) grows (h.covered k lt);
        levels = levels-decided;
        literals = subst L (sym ed) (All-push IsLiteral ds d h.literals literal);
        true_lines = All-weaker (IsTrueLine s.trail) (IsTrueLine trail) (λ line t. true_line-grows s.trail trail line grows t) (clauses_of s.lines.items) h.true_lines;
        lines = h.lines;
        room = (let r = room-decided inputs v s.trail trail s.limits.items (extends-push s.trail trail d et) long_trail (λ l. value-grows s.trail trail l grows)
            (λ j lt. h.levels.below j (let m = h.levels.as_many in omega arith)) above inside none (subst V (sym et) valued) in
            let e = ap (room inputs trail) el in
            let g = h.room in omega arith);
      }

  -- the decision is the one literal not yet seen
  pub settled-decided : AreSettled s.long s.firsts.items s.seconds.items trail (take (length s.trail) trail)
  settled-decided =
      let e : take (length s.trail) trail ≡ s.trail = front (length s.trail) (omega arith) ∙ take-beyond s.trail (length s.trail) (omega arith) in
      let P : List ℤ → Type 0 = λ xs. AreSettled s.long s.firsts.items s.seconds.items trail xs in
      subst P (sym e) (λ c lt. settled-grows s.trail s.trail trail (literal_at s.firsts.items c) (literal_at s.seconds.items c) grows (settled c lt))
