-- A search after propagation.
use Rattle.std.proofs.Common.{◌≡◌, inl, inr, ℕ, ◌<◌, ◌≤◌, ℤ, pos, true, List, [], take, length, get_or, sym, ◌∙◌, ap, subst, arith}
use Rattle.std.specs.Prelude.{Vec, neg_ℤ}
use Rattle.std.specs.declared.alloc.Global.{Global}
use Rattle.std.proofs.lemmas.List.Elements.{All-weaker}
use Rattle.jd_logic.specs.Literals.{has}
use Rattle.jd_proving.specs.Propagation.{has_value}
use Rattle.jd_propagate.specs.declared.reason.Reason.{Reason}
use Rattle.jd_propagate.specs.Quiet.{IsIn, IsWithin}
use Rattle.jd_propagate.specs.Levels.{clauses_of, IsLevel, IsTrueLine}
use Rattle.jd_propagate.specs.Passing.{literal_at, AreWatched, Extends, KeepsSettled}
use Rattle.jd_propagate.specs.Reasons.{KeepsReasons}
use Rattle.jd_propagate.proofs.Members.{or_cases, or_left, or_right}
use Rattle.jd_propagate.proofs.Extensions.{front-stays, within-take}
use Rattle.jd_prover.specs.declared.solver.Solver.{Solver}
use Rattle.jd_prover.specs.Solving.{store_of}
use Rattle.jd_prover.specs.Searching.{AreCovered, IsBefore, IsSearching}
use Rattle.jd_prover.proofs.Bound.{room-grown}
use Rattle.jd_prover.proofs.Taking.{covered-grows}
use Rattle.jd_prover.proofs.Cutting.{taken-at}

pub grown : (old new : List ℤ) → Extends old new → IsWithin old new
grown old new e = λ l is. (let P : List ℤ → Type 0 = λ xs. IsIn xs l in within-take new (length old) l (subst P (sym e.front) is))

pub value-grows : (old new : List ℤ) (l : ℤ) → IsWithin old new → has_value old l ≡ true → has_value new l ≡ true
value-grows old new l w h = elim (or_cases (has old l) (has old (neg_ℤ l)) h) [
  | inl a ↦ or_left (has new l) (has new (neg_ℤ l)) (w l a)
  | inr b ↦ or_right (has new l) (has new (neg_ℤ l)) (w (neg_ℤ l) b)
]

pub true_line-grows : (old new line : List ℤ) → IsWithin old new → IsTrueLine old line → IsTrueLine new line
true_line-grows old new line w (l, t) = (l, record { among = t.among; is_true = w l t.is_true })

pub at-front : (old new : List ℤ) (i : ℕ) → Extends old new → i < length old → literal_at new i ≡ literal_at old i
at-front old new i e lt = sym (taken-at new (length old) i (pos 0) lt) ∙ ap (λ xs. literal_at xs i) e.front

pub searching-grows : (clauses : List (List ℤ)) (inputs : ℕ) (s : Solver) (fs ss : Vec ℤ Global) (ls : Vec (Vec ℕ Global) Global) (trail : List ℤ) (reasons : Vec Reason Global)
    → IsSearching clauses inputs s → AreWatched s.long fs.items ss.items ls.items → Extends s.trail trail
    → KeepsSettled s.long s.firsts.items s.seconds.items s.trail fs.items ss.items trail → KeepsReasons s.long s.trail s.reasons.items trail reasons.items
    → IsSearching clauses inputs (record s { firsts = fs; seconds = ss; lists = ls; trail = trail; reasons = reasons })
searching-grows clauses inputs s fs ss ls trail reasons h watched grows saved kept =
    let w = grown s.trail trail grows in
    let longer = grows.longer in
    record {
      watched = watched;
      known = record { origins = h.known.origins; reasons = kept (store_of clauses s.lines.items) s.decisions.items s.decisions.items h.known.reasons };
      covered = λ k lt. covered-grows s.long s.trail trail (get_or clauses k []) w (h.covered k lt);
      levels = record {
        as_many = h.levels.as_many;
        below = λ j lt. (let b = h.levels.below j lt in omega arith);
        order = h.levels.order;
        place = λ j lt. at-front s.trail trail (get_or s.limits.items j 0) grows (h.levels.below j lt) ∙ h.levels.place j lt;
        before = λ j lt. before j lt;
      };
      literals = h.literals;
      true_lines = All-weaker (IsTrueLine s.trail) (IsTrueLine trail) (λ line t. true_line-grows s.trail trail line w t) (clauses_of s.lines.items) h.true_lines;
      lines = h.lines;
      room = (let r = room-grown inputs s.trail trail s.limits.items grows (λ l. value-grows s.trail trail l w) (λ j lt. h.levels.below j (let m = h.levels.as_many in omega arith)) in
          let g = h.room in omega arith);
    }
  where
    before : (j : ℕ) → j < length s.decisions.items
        → IsBefore clauses (record s { firsts = fs; seconds = ss; lists = ls; trail = trail; reasons = reasons }) (take (get_or s.limits.items j 0) trail) (take j s.decisions.items) (literal_at s.decisions.items j)
    before j lt =
        let n = get_or s.limits.items j 0 in
        let b = h.levels.below j lt in
        let le : n ≤ length s.trail = omega arith in
        let e = front-stays s.trail trail n le grows in
        let o = h.levels.before j lt in
        let L : List ℤ → Type 0 = λ xs. IsLevel clauses (clauses_of s.lines.items) (take j s.decisions.items) xs (literal_at s.decisions.items j) in
        let C : List ℤ → Type 0 = λ xs. AreCovered clauses s.long xs in
        record { level = subst L (sym e) o.level; settled = saved n le o.settled; covered = subst C (sym e) o.covered }
