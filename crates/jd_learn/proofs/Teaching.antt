-- A learning search with a line more.
use Rattle.std.proofs.Common.{◌≡◌, ◌⊎◌, inl, inr, ℕ, ◌+◌, ◌-◌, ◌<◌, ◌≤◌, ◌^◌, ℤ, pos, true, false, List, [], ◌∷◌, ◌++◌, take, length, get_or, refl, sym, ◌∙◌, ap, subst, arith, append_assoc, Some}
use Rattle.std.specs.Prelude.{Vec, neg_ℤ}
use Rattle.std.specs.declared.alloc.Global.{Global}
use Rattle.std.proofs.lemmas.List.{get_or_append_left, get_or_push, length_push, take-append-le, take_more}
use Rattle.jd_logic.specs.declared.Line.{Line}
use Rattle.jd_logic.specs.declared.Line.TheVariants.{Derive}
use Rattle.jd_logic.specs.Ranges.{IsDerivation}
use Rattle.jd_logic.specs.Literals.{has}
use Rattle.jd_logic.specs.Derivation.{clause_of}
use Rattle.jd_logic.specs.Checking.{numbered_from}
use Rattle.jd_proving.specs.Propagation.{has_value, is_new}
use Rattle.jd_propagate.specs.declared.reason.Reason.{Reason}
use Rattle.jd_propagate.specs.declared.reason.Reason.TheVariants as reason
use Rattle.jd_propagate.specs.Quiet.{IsIn, IsWithin, HasNoOpposites, AreQuiet}
use Rattle.jd_propagate.specs.Hints.{IsCause}
use Rattle.jd_propagate.specs.Levels.{clauses_of, negated}
use Rattle.jd_propagate.specs.Passing.{literal_at, AreWatched, AreSettled}
use Rattle.jd_propagate.specs.Reasons.{AreReasons, IsReason}
use Rattle.jd_propagate.specs.Watched.{IsPair, IsSettled}
use Rattle.jd_propagate.proofs.Attaching.{each_more, settled-more}
use Rattle.jd_propagate.proofs.Extensions.{extends-push, take-beyond, within-take}
use Rattle.jd_propagate.proofs.Keeping.{reasons-more}
use Rattle.jd_propagate.proofs.Lines.{clause_is_new}
use Rattle.jd_propagate.proofs.Members.{false_is_not_true, has-here, has-cases, has-append_left, has-append_right}
use Rattle.jd_propagate.proofs.TrailSteps.{value-right}
use Rattle.jd_propagate.proofs.Watching.{settled-grows, settled-quiet}
use Rattle.jd_prover.specs.declared.solver.Solver.{Solver}
use Rattle.jd_prover.specs.Solving.{store_of, AreLogged, AreOrigins, IsCovered, IsRight}
use Rattle.jd_prover.specs.Searching.{AreCovered}
use Rattle.jd_prover.proofs.Logged.{all-many, clauses_of-push, lines-push}
use Rattle.jd_prover.proofs.Cutting.{covered-quiet}
use Rattle.jd_prover.proofs.Running.{grown}
use Rattle.jd_prover.proofs.Stored.{reasons-weaker, same_clauses, more_clauses, stored-more, stored-push}
use Rattle.jd_prover.proofs.Taking.{covered-grows, covered-watched, covered-last, origins-more}
use Rattle.jd_learn.specs.Learning.{known, IsRest, IsQuietSearch, IsBegun}
use Rattle.jd_learn.specs.Teaching.{IsGiving, IsNextLine}

-- clauses more, where each watched one was given
pub origins-known : (given long : List (List ℤ)) (clause : List ℤ) (origins : List ℕ) → AreOrigins given long origins → AreOrigins (given ++ clause ∷ []) long origins
origins-known given long clause origins o = record {
  as_many = o.as_many;
  within = λ c lt. (let w = o.within c lt in omega (arith, w, length_push given clause));
  same = λ c lt. o.same c lt ∙ sym (get_or_append_left given (clause ∷ []) [] (get_or origins c 0) (o.within c lt));
}

-- each of the clauses and one more is covered
covered-more : (given long : List (List ℤ)) (trues clause : List ℤ) → AreCovered given long trues → IsCovered long trues clause → AreCovered (given ++ clause ∷ []) long trues
covered-more given long trues clause all one = λ k lt.
    each_more (λ d. IsCovered long trues (get_or (given ++ clause ∷ []) d [])) (length given) k
    (λ d b. (let P : List ℤ → Type 0 = λ xs. IsCovered long trues xs in subst P (sym (get_or_append_left given (clause ∷ []) [] d b)) (all d b)))
    (let P : List ℤ → Type 0 = λ xs. IsCovered long trues xs in subst P (sym (get_or_push given clause [] (length given) refl)) one)
    (omega (arith, lt, length_push given clause))

module _ (clauses : List (List ℤ)) (s : Solver) (h : IsQuietSearch clauses s) (clause : List ℤ) (line : Line) (id : ℕ) (next : IsNextLine clauses s line clause id) (a : ℤ)
    (open' : has_value s.trail a ≡ false) (trail : List ℤ) (lines : Vec Line Global) (et : trail ≡ s.trail ++ a ∷ []) (en : lines.items ≡ s.lines.items ++ line ∷ []) where
  more : clauses ++ clauses_of lines.items ≡ known clauses s ++ clause ∷ []
  more = ap (λ ls. clauses ++ clauses_of ls) en ∙ ap (λ cs. clauses ++ cs) next.same ∙ sym (append_assoc clauses (clauses_of s.lines.items) (clause ∷ []))

  many : length (known clauses s) ≡ length clauses + length s.lines.items
  many = all-many clauses s.lines.items h.learning.lines

  still : (i : ℕ) (c : List ℤ) → clause_of i (store_of clauses s.lines.items) ≡ Some c → clause_of i (store_of clauses lines.items) ≡ Some c
  still i c e =
      let P : List (List ℤ) → Type 0 = λ cs. clause_of i (numbered_from 1 cs) ≡ Some c in
      subst P (sym more) (stored-more (known clauses s) (clause ∷ []) 1 i c e)

  stored : clause_of id (store_of clauses lines.items) ≡ Some clause
  stored =
      let P : List (List ℤ) → Type 0 = λ cs. clause_of id (numbered_from 1 cs) ≡ Some clause in
      subst P (sym more) (stored-push (known clauses s) clause id (let n = next.next in omega (arith, n, many)))

  logged : AreLogged clauses lines.items
  logged = let P : List Line → Type 0 = λ ls. AreLogged clauses ls in subst P (sym en) next.logged

  grows : IsWithin s.trail trail
  grows = grown s.trail trail (extends-push s.trail trail a et)

  made : IsIn trail a
  made = let P : List ℤ → Type 0 = λ xs. IsIn xs a in subst P (sym et) (has-append_right s.trail (a ∷ []) a (has-here a []))

  long_trail : length trail ≡ length s.trail + 1
  long_trail = ap length et ∙ length_push s.trail a

  front : (m : ℕ) → m ≤ length s.trail → take m trail ≡ take m s.trail
  front m le = ap (take m) et ∙ take-append-le m s.trail (a ∷ []) le

  before_last : take (length trail - 1) trail ≡ s.trail
  before_last = ap (λ (k : ℕ). take k trail) (let q : length trail - 1 ≡ length s.trail = omega (arith, long_trail) in q) ∙ front (length s.trail) (omega arith) ∙ take-beyond s.trail (length s.trail) (omega arith)

  -- the reasons of the earlier literals, and of the new one
  reasons-next : (long : List (List ℤ)) (reasons : List Reason) (r : Reason)
      → ((c : ℕ) → c < length s.long → (c < length long) × (get_or s.long c [] ≡ get_or long c [])) → reasons ≡ s.reasons.items ++ r ∷ []
      → IsReason long (store_of clauses lines.items) (s.trail ++ a ∷ []) [] s.trail a r
      → AreReasons long (store_of clauses lines.items) trail [] trail reasons
  reasons-next long reasons r kept er here =
      let store = store_of clauses lines.items in
      let T : List ℤ → Type 0 = λ xs. AreReasons long store xs [] xs reasons in
      let R : List Reason → Type 0 = λ rs. AreReasons long store (s.trail ++ a ∷ []) [] (s.trail ++ a ∷ []) rs in
      subst T (sym et) (subst R (sym er) (reasons-more long store (s.trail ++ a ∷ []) [] s.trail s.reasons.items a r
      (reasons-weaker s.long long (store_of clauses s.lines.items) store s.trail (s.trail ++ a ∷ []) [] [] s.trail s.reasons.items kept still (λ l is. has-append_left s.trail (a ∷ []) l is) (λ l is. is) h.learning.reasons) here))

  settled-next : AreSettled s.long s.firsts.items s.seconds.items trail s.trail
  settled-next c lt = settled-grows s.trail s.trail trail (literal_at s.firsts.items c) (literal_at s.seconds.items c) grows (h.settled c lt)

  -- a line of one literal
  pub begun-unit : (reasons : Vec Reason Global) → clause ≡ a ∷ [] → reasons.items ≡ s.reasons.items ++ reason.Line id ∷ [] → length s.limits.items ≡ 0
      → IsBegun clauses (record s { trail = trail; reasons = reasons; lines = lines }) (length trail - 1)
  begun-unit reasons alone er none = record {
    learning = record {
      watched = h.learning.watched;
      origins = (let P : List (List ℤ) → Type 0 = λ cs. AreOrigins cs s.long s.origins.items in subst P (sym more) (origins-known (known clauses s) s.long clause s.origins.items h.learning.origins));
      reasons = reasons-next s.long reasons.items (reason.Line id) (same_clauses s.long) er (
        clause,
        record {
          not_zero = (let n = next.next in omega arith);
          small = next.small;
          stored = stored;
          among = among;
          others = λ m is. inl (only m is);
        },
      );
      covered = (let P : List (List ℤ) → Type 0 = λ cs. AreCovered cs s.long trail in
          subst P (sym more) (covered-more (known clauses s) s.long trail clause (λ k lt. covered-grows s.long s.trail trail (get_or (known clauses s) k []) grows (h.learning.covered k lt))
          (inr (a, record { among = among; is_true = made }))));
      rests = λ j lt. absurd (omega arith);
      order = λ i j less lt. absurd (omega arith);
      lines = logged;
    };
    settled = (let P : List ℤ → Type 0 = λ xs. AreSettled s.long s.firsts.items s.seconds.items trail xs in subst P (sym before_last) settled-next);
    from_in = omega arith;
  }
    where
      among : IsIn clause a
      among = let P : List ℤ → Type 0 = λ xs. IsIn xs a in subst P (sym alone) (has-here a [])

      only : (m : ℤ) → IsIn clause m → m ≡ a
      only m is = by (has-cases a [] m (let P : List ℤ → Type 0 = λ xs. IsIn xs m in subst P alone is))
        where
          by : (a ≡ m) ⊎ IsIn [] m → m ≡ a
          by (inl e) = sym e
          by (inr e) = absurd (false_is_not_true false refl e)

  -- a line of more literals, two of which are watched
  module _ (b : ℤ) (long : List (List ℤ)) (origins : Vec ℕ Global) (fs ss : Vec ℤ Global) (ls : Vec (Vec ℕ Global) Global) (reasons : Vec Reason Global)
      (wide : long ≡ s.long ++ clause ∷ []) (eo : origins.items ≡ s.origins.items ++ (id - 1) ∷ []) (ef : fs.items ≡ s.firsts.items ++ a ∷ []) (es : ss.items ≡ s.seconds.items ++ b ∷ [])
      (watched : AreWatched long fs.items ss.items ls.items) (er : reasons.items ≡ s.reasons.items ++ reason.Clause (length s.long) ∷ []) (pair : IsPair clause a b)
      (others : (m : ℤ) → IsIn clause m → (m ≡ a) ⊎ IsIn s.trail (neg_ℤ m))
      (late : (j : ℕ) → j < length s.limits.items → has (take (get_or s.limits.items j 0) s.trail) (neg_ℤ b) ≡ false) where
    abbrev after : Solver
    after = record s { long = long; origins = origins; firsts = fs; seconds = ss; lists = ls; trail = trail; reasons = reasons; lines = lines }

    not_false : (xs : List ℤ) → IsWithin xs s.trail → IsIn xs (neg_ℤ a) → ⊥
    not_false xs w is = false_is_not_true (has s.trail (neg_ℤ a)) (value-right s.trail a open') (w (neg_ℤ a) is)

    settled-in : (trues seen : List ℤ) → AreSettled s.long s.firsts.items s.seconds.items trues seen → IsSettled seen trues a b → AreSettled long fs.items ss.items trues seen
    settled-in trues seen all one =
        let L : List (List ℤ) → Type 0 = λ cs. AreSettled cs fs.items ss.items trues seen in
        let F : List ℤ → Type 0 = λ xs. AreSettled (s.long ++ clause ∷ []) xs ss.items trues seen in
        let S : List ℤ → Type 0 = λ xs. AreSettled (s.long ++ clause ∷ []) (s.firsts.items ++ a ∷ []) xs trues seen in
        subst L (sym wide) (subst F (sym ef) (subst S (sym es)
        (settled-more s.long s.firsts.items s.seconds.items clause a b trues seen h.learning.watched.firsts_many h.learning.watched.seconds_many all one)))

    covered-in : (trues : List ℤ) → AreCovered (known clauses s) s.long trues → AreCovered (clauses ++ clauses_of lines.items) long trues
    covered-in trues all =
        let K : List (List ℤ) → Type 0 = λ cs. AreCovered cs long trues in
        let L : List (List ℤ) → Type 0 = λ cs. AreCovered (known clauses s ++ clause ∷ []) cs trues in
        subst K (sym more) (subst L (sym wide) (covered-more (known clauses s) (s.long ++ clause ∷ []) trues clause
        (λ k lt. covered-watched s.long trues (get_or (known clauses s) k []) clause (all k lt)) (covered-last s.long trues clause)))

    origins-next : AreOrigins (clauses ++ clauses_of lines.items) long origins.items
    origins-next =
        let given = known clauses s ++ clause ∷ [] in
        let at = length (known clauses s) in
        let e : get_or given at [] ≡ clause = get_or_push (known clauses s) clause [] at refl in
        let n : at ≡ id - 1 = (let q = next.next in omega (arith, q, many)) in
        let K : List (List ℤ) → Type 0 = λ cs. AreOrigins cs long origins.items in
        let L : List (List ℤ) → Type 0 = λ cs. AreOrigins given cs origins.items in
        let O : List ℕ → Type 0 = λ os. AreOrigins given (s.long ++ clause ∷ []) os in
        let N : ℕ → Type 0 = λ k. AreOrigins given (s.long ++ clause ∷ []) (s.origins.items ++ k ∷ []) in
        let C : List ℤ → Type 0 = λ c. AreOrigins given (s.long ++ c ∷ []) (s.origins.items ++ at ∷ []) in
        subst K (sym more) (subst L (sym wide) (subst O (sym eo) (subst N n (subst C e
        (origins-more given s.long s.origins.items at (omega (arith, length_push (known clauses s) clause)) (origins-known (known clauses s) s.long clause s.origins.items h.learning.origins))))))

    rest-next : (j : ℕ) → j < length s.limits.items → IsRest clauses after (get_or s.limits.items j 0)
    rest-next j lt =
        let n = get_or s.limits.items j 0 in
        let o = h.learning.rests j lt in
        let le = o.within in
        let xs = take n s.trail in
        let S : List ℤ → Type 0 = λ ys. AreSettled long fs.items ss.items ys ys in
        let C : List ℤ → Type 0 = λ ys. AreCovered (clauses ++ clauses_of lines.items) long ys in
        record {
          within = omega (arith, le, long_trail);
          settled = subst S (sym (front n le)) (settled-in xs xs o.settled (record {
            first = λ e. absurd (not_false xs (within-take s.trail n) e);
            second = λ e. absurd (false_is_not_true (has xs (neg_ℤ b)) (late j lt) e);
          }));
          covered = subst C (sym (front n le)) (covered-in xs o.covered);
        }

    pub begun-watched : IsBegun clauses (record s { long = long; origins = origins; firsts = fs; seconds = ss; lists = ls; trail = trail; reasons = reasons; lines = lines }) (length trail - 1)
    begun-watched = record {
      learning = record {
        watched = watched;
        origins = origins-next;
        reasons = reasons-next long reasons.items (reason.Clause (length s.long))
            (let P : List (List ℤ) → Type 0 = λ cs. (c : ℕ) → c < length s.long → (c < length cs) × (get_or s.long c [] ≡ get_or cs c []) in subst P (sym wide) (more_clauses s.long clause)) er
            (let P : List (List ℤ) → Type 0 = λ cs. (length s.long < length cs) × IsCause s.trail (get_or cs (length s.long) []) a in
            let C : List ℤ → Type 0 = λ c. IsCause s.trail c a in
            subst P (sym wide) (omega (arith, length_push s.long clause), subst C (sym (get_or_push s.long clause [] (length s.long) refl)) (record { among = pair.first; others = others })));
        covered = covered-in trail (λ k lt. covered-grows s.long s.trail trail (get_or (known clauses s) k []) grows (h.learning.covered k lt));
        rests = rest-next;
        order = h.learning.order;
        lines = logged;
      };
      settled = (let P : List ℤ → Type 0 = λ xs. AreSettled long fs.items ss.items trail xs in subst P (sym before_last) (settled-in trail s.trail settled-next (record {
        first = λ e. absurd (not_false s.trail (λ l is. is) e);
        second = λ e. made;
      })));
      from_in = omega arith;
    }

-- what a conflict taught, where it gives something, as the next line
pub next-line : (clauses : List (List ℤ)) (s : Solver) (kept hints : List ℤ) (line : Line) (id : ℕ) → IsQuietSearch clauses s → HasNoOpposites s.trail → IsGiving s.trail kept
    → line ≡ Derive id (negated kept) hints → IsRight clauses s.lines.items (negated kept) hints → IsDerivation id (negated kept) hints → id ≡ length clauses + length s.lines.items + 1 → id < 2 ^ 62
    → IsNextLine clauses s line (negated kept) id
next-line clauses s kept hints line id h opposites giving same right ranges next small =
    let n = length kept in
    let some = giving.some in
    let whole : kept ≡ take (n - 1) kept ++ literal_at kept (n - 1) ∷ [] = last_apart in
    let quiet : AreQuiet s.trail (known clauses s) = covered-quiet (known clauses s) s.long s.trail (λ c lt. settled-quiet s.trail (get_or s.long c []) (literal_at s.firsts.items c) (literal_at s.seconds.items c)
    (h.learning.watched.pairs c lt) (h.settled c lt)) h.learning.covered in
    let new : is_new (known clauses s) (negated kept) ≡ true = ap (λ xs. is_new (known clauses s) (negated xs)) whole
    ∙ clause_is_new (known clauses s) (take (n - 1) kept) s.trail (literal_at kept (n - 1)) opposites quiet giving.earlier giving.open' in
    let P : Line → Type 0 = λ l. AreLogged clauses (s.lines.items ++ l ∷ []) in
    record {
      same = ap (λ l. clauses_of (s.lines.items ++ l ∷ [])) same ∙ clauses_of-push s.lines.items id (negated kept) hints;
      logged = subst P (sym same) (lines-push clauses s.lines.items id (negated kept) hints h.learning.lines next right new ranges);
      next = next;
      small = small;
    }
  where
    last_apart : kept ≡ take (length kept - 1) kept ++ literal_at kept (length kept - 1) ∷ []
    last_apart =
        let some = giving.some in
        sym (take-beyond kept (length kept - 1 + 1) (omega arith)) ∙ take_more kept (length kept - 1) (pos 0) (omega arith)
