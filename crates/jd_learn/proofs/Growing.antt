-- A learning search once all clauses were taken, after propagation, after a decision, and after decisions are taken back.
use Rattle.std.proofs.Common.{◌≡◌, ℕ, ◌+◌, ◌<◌, ◌≤◌, ℤ, false, List, [], ◌∷◌, ◌++◌, take, length, get_or, refl, sym, ◌∙◌, ap, subst, arith}
use Rattle.std.specs.Prelude.{Vec, neg_ℤ}
use Rattle.std.specs.declared.alloc.Global.{Global}
use Rattle.std.proofs.Math.Seq.{take-take}
use Rattle.std.proofs.lemmas.List.{get_or_append_left, get_or_push, length_push, take-append-le}
use Rattle.jd_logic.specs.declared.Line.{Line}
use Rattle.jd_propagate.specs.declared.reason.Reason.{Reason}
use Rattle.jd_propagate.specs.declared.reason.Reason.TheVariants.{Decision}
use Rattle.jd_propagate.specs.Quiet.{IsIn, IsWithin}
use Rattle.jd_propagate.specs.Levels.{clauses_of}
use Rattle.jd_propagate.specs.Passing.{literal_at, AreWatched, AreSettled, Extends, KeepsSettled}
use Rattle.jd_propagate.specs.Reasons.{AreReasons, KeepsReasons}
use Rattle.jd_propagate.proofs.Attaching.{each_more}
use Rattle.jd_propagate.proofs.Extensions.{extends-push, front-stays, take-beyond}
use Rattle.jd_propagate.proofs.Keeping.{reasons-more}
use Rattle.jd_propagate.proofs.Members.{false_is_not_true, has-here, has-append_left, has-append_right}
use Rattle.jd_propagate.proofs.Watching.{settled-grows}
use Rattle.jd_prover.specs.declared.solver.Solver.{Solver}
use Rattle.jd_prover.specs.Solving.{store_of, AreLogged, AreOrigins, IsTaken}
use Rattle.jd_prover.specs.Searching.{AreCovered}
use Rattle.jd_prover.proofs.Cutting.{taken-length, taken-at, reasons-cut}
use Rattle.jd_prover.proofs.Logged.{lines-begun}
use Rattle.jd_prover.proofs.Running.{grown}
use Rattle.jd_prover.proofs.Stored.{reasons-weaker, same_clauses}
use Rattle.jd_prover.proofs.Taking.{covered-grows}
use Rattle.jd_learn.specs.Learning.{known, IsRest, IsLearning, IsQuietSearch, IsBegun}

none-in : (l : ℤ) → IsIn [] l → ⊥
none-in l is = false_is_not_true false refl is

no_front : (xs : List ℤ) (l : ℤ) → IsIn (take 0 xs) l → ⊥
no_front [] l e = none-in l e
no_front (x ∷ xs) l e = none-in l e

-- all clauses were taken
pub learning-begun : (clauses : List (List ℤ)) (s : Solver) → IsTaken clauses (length clauses) s → IsBegun clauses s 0
learning-begun clauses s t = record {
  learning = record {
    watched = t.watched;
    origins = (let P : List (List ℤ) → Type 0 = λ cs. AreOrigins cs s.long s.origins.items in subst P (sym same) t.known.origins);
    reasons = reasons-weaker s.long s.long (store_of clauses s.lines.items) (store_of clauses s.lines.items) s.decisions.items s.trail s.decisions.items [] s.trail s.reasons.items
        (same_clauses s.long) (λ id c is. is) (nothing_in s.trail) (nothing_in []) t.known.reasons;
    covered = (let P : List (List ℤ) → Type 0 = λ cs. AreCovered cs s.long s.trail in subst P (sym same) t.covered);
    rests = λ j lt. absurd (omega (arith, no_limits));
    order = λ i j less lt. absurd (omega (arith, no_limits));
    lines = (let P : List Line → Type 0 = λ ls. AreLogged clauses ls in subst P (sym t.no_lines) (lines-begun clauses));
  };
  settled = λ c lt. record { first = λ e. absurd (no_front s.trail (neg_ℤ (literal_at s.firsts.items c)) e); second = λ e. absurd (no_front s.trail (neg_ℤ (literal_at s.seconds.items c)) e) };
  from_in = omega arith;
}
  where
    nothing : (xs : List (List ℤ)) → xs ++ [] ≡ xs
    nothing [] = refl
    nothing (x ∷ xs) = ap (λ ys. x ∷ ys) (nothing xs)

    same : known clauses s ≡ clauses
    same = ap (λ ls. clauses ++ clauses_of ls) t.no_lines ∙ nothing clauses

    no_limits : length s.limits.items ≡ 0
    no_limits = ap length t.no_limits

    nothing_in : (xs : List ℤ) → IsWithin s.decisions.items xs
    nothing_in xs l is = (let P : List ℤ → Type 0 = λ ds. IsIn ds l in absurd (none-in l (subst P t.no_decisions is)))

-- propagation
pub learning-grows : (clauses : List (List ℤ)) (s : Solver) (fs ss : Vec ℤ Global) (ls : Vec (Vec ℕ Global) Global) (trail : List ℤ) (reasons : Vec Reason Global)
    → IsLearning clauses s → AreWatched s.long fs.items ss.items ls.items → Extends s.trail trail
    → KeepsSettled s.long s.firsts.items s.seconds.items s.trail fs.items ss.items trail → KeepsReasons s.long s.trail s.reasons.items trail reasons.items
    → IsLearning clauses (record s { firsts = fs; seconds = ss; lists = ls; trail = trail; reasons = reasons })
learning-grows clauses s fs ss ls trail reasons h watched grows saved kept =
    let w = grown s.trail trail grows in
    let store = store_of clauses s.lines.items in
    record {
      watched = watched;
      origins = h.origins;
      reasons = reasons-weaker s.long s.long store store s.trail trail [] [] trail reasons.items (same_clauses s.long) (λ id c is. is) w (λ l is. is) (kept store s.trail [] h.reasons);
      covered = λ k lt. covered-grows s.long s.trail trail (get_or (known clauses s) k []) w (h.covered k lt);
      rests = λ j lt. rest j lt;
      order = h.order;
      lines = h.lines;
    }
  where
    rest : (j : ℕ) → j < length s.limits.items → IsRest clauses (record s { firsts = fs; seconds = ss; lists = ls; trail = trail; reasons = reasons }) (get_or s.limits.items j 0)
    rest j lt =
        let n = get_or s.limits.items j 0 in
        let o = h.rests j lt in
        let le = o.within in
        let longer = grows.longer in
        let C : List ℤ → Type 0 = λ xs. AreCovered (known clauses s) s.long xs in
        record { within = omega arith; settled = saved n le o.settled; covered = subst C (sym (front-stays s.trail trail n le grows)) o.covered }

-- a level is opened
module _ (clauses : List (List ℤ)) (s : Solver) (limits : Vec ℕ Global) (h : IsQuietSearch clauses s) (el : limits.items ≡ s.limits.items ++ length s.trail ∷ []) where
  many : length limits.items ≡ length s.limits.items + 1
  many = ap length el ∙ length_push s.limits.items (length s.trail)

  limit_old : (j : ℕ) → j < length s.limits.items → get_or limits.items j 0 ≡ get_or s.limits.items j 0
  limit_old j lt = ap (λ (xs : List ℕ). get_or xs j 0) el ∙ get_or_append_left s.limits.items (length s.trail ∷ []) 0 j lt

  limit_new : get_or limits.items (length s.limits.items) 0 ≡ length s.trail
  limit_new = ap (λ (xs : List ℕ). get_or xs (length s.limits.items) 0) el ∙ get_or_push s.limits.items (length s.trail) 0 (length s.limits.items) refl

  abbrev opened : Solver
  opened = record s { limits = limits }

  rest_of : (n : ℕ) → IsRest clauses s n → IsRest clauses opened n
  rest_of n o = record { within = o.within; settled = o.settled; covered = o.covered }

  old_rest : (j : ℕ) → j < length s.limits.items → IsRest clauses opened (get_or limits.items j 0)
  old_rest j lt = (let P : ℕ → Type 0 = λ n. IsRest clauses opened n in subst P (sym (limit_old j lt)) (rest_of (get_or s.limits.items j 0) (h.learning.rests j lt)))

  new_rest : IsRest clauses opened (get_or limits.items (length s.limits.items) 0)
  new_rest =
      let n = length s.trail in
      let P : ℕ → Type 0 = λ k. IsRest clauses opened k in
      let S : List ℤ → Type 0 = λ xs. AreSettled s.long s.firsts.items s.seconds.items xs xs in
      let C : List ℤ → Type 0 = λ xs. AreCovered (known clauses s) s.long xs in
      let e : take n s.trail ≡ s.trail = take-beyond s.trail n (omega arith) in
      subst P (sym limit_new) (record { within = omega arith; settled = subst S (sym e) h.settled; covered = subst C (sym e) h.learning.covered })

  pub begun-opened : IsBegun clauses (record s { limits = limits }) (length s.trail)
  begun-opened = record {
    learning = record {
      watched = h.learning.watched;
      origins = h.learning.origins;
      reasons = h.learning.reasons;
      covered = h.learning.covered;
      rests = λ j lt. each_more (λ k. IsRest clauses opened (get_or limits.items k 0)) (length s.limits.items) j old_rest new_rest (omega (arith, many));
      order = λ i j less lt. each_more (λ k. i < k → get_or limits.items i 0 ≤ get_or limits.items k 0) (length s.limits.items) j
          (λ k b under. (let e = limit_old k b in let f = limit_old i (omega arith) in let g = h.learning.order i k under b in omega arith))
          (λ under. (let e = limit_new in let f = limit_old i under in let g = (h.learning.rests i under).within in omega arith)) (omega (arith, many)) less;
      lines = h.learning.lines;
    };
    settled = (let P : List ℤ → Type 0 = λ xs. AreSettled s.long s.firsts.items s.seconds.items s.trail xs in
        subst P (sym (take-beyond s.trail (length s.trail) (omega arith))) h.settled);
    from_in = omega arith;
  }

-- a literal is decided on the level that is open
module _ (clauses : List (List ℤ)) (from : ℕ) (d : ℤ) (s : Solver) (trail : List ℤ) (reasons : Vec Reason Global) (h : IsBegun clauses s from)
    (et : trail ≡ s.trail ++ d ∷ []) (er : reasons.items ≡ s.reasons.items ++ Decision ∷ []) where
  grows : IsWithin s.trail trail
  grows = grown s.trail trail (extends-push s.trail trail d et)

  long_trail : length trail ≡ length s.trail + 1
  long_trail = ap length et ∙ length_push s.trail d

  front : (m : ℕ) → m ≤ length s.trail → take m trail ≡ take m s.trail
  front m le = ap (take m) et ∙ take-append-le m s.trail (d ∷ []) le

  abbrev next : Solver
  next = record s { trail = trail; reasons = reasons }

  rest_stays : (n : ℕ) → IsRest clauses s n → IsRest clauses next n
  rest_stays n o = record {
    within = (let le = o.within in omega (arith, long_trail));
    settled = (let P : List ℤ → Type 0 = λ xs. AreSettled s.long s.firsts.items s.seconds.items xs xs in subst P (sym (front n o.within)) o.settled);
    covered = (let P : List ℤ → Type 0 = λ xs. AreCovered (known clauses s) s.long xs in subst P (sym (front n o.within)) o.covered);
  }

  learning-decided : IsLearning clauses next
  learning-decided =
      let store = store_of clauses s.lines.items in
      let T : List ℤ → Type 0 = λ xs. AreReasons s.long store xs [] xs reasons.items in
      let R : List Reason → Type 0 = λ rs. AreReasons s.long store (s.trail ++ d ∷ []) [] (s.trail ++ d ∷ []) rs in
      record {
        watched = h.learning.watched;
        origins = h.learning.origins;
        reasons = subst T (sym et) (subst R (sym er) (reasons-more s.long store (s.trail ++ d ∷ []) [] s.trail s.reasons.items d Decision
            (reasons-weaker s.long s.long store store s.trail (s.trail ++ d ∷ []) [] [] s.trail s.reasons.items (same_clauses s.long) (λ id c is. is) (λ l is. has-append_left s.trail (d ∷ []) l is) (λ l is. is) h.learning.reasons)
            (has-append_right s.trail (d ∷ []) d (has-here d []))));
        covered = λ k lt. covered-grows s.long s.trail trail (get_or (known clauses s) k []) grows (h.learning.covered k lt);
        rests = λ j lt. rest_stays (get_or s.limits.items j 0) (h.learning.rests j lt);
        order = h.learning.order;
        lines = h.learning.lines;
      }

  pub begun-decided : IsBegun clauses (record s { trail = trail; reasons = reasons }) from
  begun-decided = record {
    learning = learning-decided;
    settled = (let P : List ℤ → Type 0 = λ xs. AreSettled s.long s.firsts.items s.seconds.items trail xs in
        subst P (sym (front from h.from_in)) (λ c lt. settled-grows (take from s.trail) s.trail trail (literal_at s.firsts.items c) (literal_at s.seconds.items c) grows (h.settled c lt)));
    from_in = (let le = h.from_in in omega (arith, long_trail));
  }

-- decisions are taken back
pub quiet-cut : (clauses : List (List ℤ)) (level n : ℕ) (s : Solver) (trail : List ℤ) (reasons : Vec Reason Global) (limits : Vec ℕ Global) → IsLearning clauses s → level < length s.limits.items
    → n ≡ get_or s.limits.items level 0 → trail ≡ take n s.trail → reasons.items ≡ take n s.reasons.items → limits.items ≡ take level s.limits.items
    → IsQuietSearch clauses (record s { trail = trail; reasons = reasons; limits = limits })
quiet-cut clauses level n s trail reasons limits h lt en et er el = record {
  learning = record {
    watched = h.watched;
    origins = h.origins;
    reasons = (let store = store_of clauses s.lines.items in
        let T : List ℤ → Type 0 = λ xs. AreReasons s.long store xs [] xs reasons.items in
        let R : List Reason → Type 0 = λ rs. AreReasons s.long store (take n s.trail) [] (take n s.trail) rs in
        subst T (sym et) (subst R (sym er) (reasons-cut s.long store s.trail (take n s.trail) [] [] s.trail s.reasons.items n rest.within (λ l in' d. in') (λ l in' d. d) h.reasons)));
    covered = (let C : List ℤ → Type 0 = λ xs. AreCovered (known clauses s) s.long xs in subst C (sym et) rest.covered);
    rests = λ j below. earlier j (omega (arith, fewer));
    order = λ i j less below. (let b : j < level = omega (arith, fewer) in let g = h.order i j less (omega arith) in let e = limit i (omega arith) in let f = limit j b in omega arith);
    lines = h.lines;
  };
  settled = (let S : List ℤ → Type 0 = λ xs. AreSettled s.long s.firsts.items s.seconds.items xs xs in subst S (sym et) rest.settled);
}
  where
    rest : IsRest clauses s n
    rest = let P : ℕ → Type 0 = λ k. IsRest clauses s k in subst P (sym en) (h.rests level lt)

    fewer : length limits.items ≡ level
    fewer = ap length el ∙ taken-length s.limits.items level (omega arith)

    limit : (j : ℕ) → j < level → get_or limits.items j 0 ≡ get_or s.limits.items j 0
    limit j b = ap (λ (xs : List ℕ). get_or xs j 0) el ∙ taken-at s.limits.items level j 0 b

    earlier : (j : ℕ) → j < level → IsRest clauses (record s { trail = trail; reasons = reasons; limits = limits }) (get_or limits.items j 0)
    earlier j b =
        let m = get_or s.limits.items j 0 in
        let o = h.rests j (omega arith) in
        let le : m ≤ n = (let g = h.order j level b lt in omega (arith, en)) in
        let w = rest.within in
        let e : take m trail ≡ take m s.trail = ap (take m) et ∙ take-take m n s.trail le in
        let P : ℕ → Type 0 = λ k. IsRest clauses (record s { trail = trail; reasons = reasons; limits = limits }) k in
        let S : List ℤ → Type 0 = λ xs. AreSettled s.long s.firsts.items s.seconds.items xs xs in
        let C : List ℤ → Type 0 = λ xs. AreCovered (known clauses s) s.long xs in
        subst P (sym (limit j b)) (record {
          within = (let t : length trail ≡ n = ap length et ∙ taken-length s.trail n w in omega arith);
          settled = subst S (sym e) o.settled;
          covered = subst C (sym e) o.covered;
        })
