-- What a turn of a learning search rests on.
use Rattle.std.proofs.Common.{◌≡◌, ℕ, ◌+◌, ◌<◌, ◌≤◌, ◌^◌, ℤ, false, List, [], ◌∷◌, ◌++◌, length, refl, sym, subst, arith, Option, Some, None}
use Rattle.std.specs.List.{list_any}
use Rattle.std.proofs.lemmas.List.{get_or_append_left}
use Rattle.std.proofs.lemmas.List.Elements.{All-push}
use Rattle.jd_logic.specs.declared.Line.{Line}
use Rattle.jd_logic.specs.declared.Line.TheVariants.{Derive}
use Rattle.jd_logic.specs.Literals.{AreHints}
use Rattle.jd_logic.specs.Checking.{is_empty}
use Rattle.jd_logic.specs.Ranges.{IsLine, AreLines}
use Rattle.jd_proving.specs.Proving.{IsRefuted, IsUnknown}
use Rattle.jd_propagate.specs.Quiet.{AreQuiet}
use Rattle.jd_propagate.specs.Levels.{clauses_of, negated}
use Rattle.jd_propagate.specs.Lists.{Lists}
use Rattle.jd_propagate.specs.Passing.{literal_at, clause_of, AreWatched, IsPropagated}
use Rattle.jd_propagate.proofs.Watching.{settled-quiet}
use Rattle.jd_prover.specs.declared.solver.Solver.{Solver}
use Rattle.jd_prover.specs.Solving.{AreLogged, IsCovered, IsRight}
use Rattle.jd_prover.proofs.Cutting.{covered-quiet}
use Rattle.jd_prover.proofs.Logged.{lines-refuted, lines-spent}
use Rattle.jd_learn.specs.declared.analysis.Taught.{Taught}
use Rattle.jd_learn.specs.Learning.{IsLearning, IsQuietSearch, IsEnded}
use Rattle.jd_learn.specs.Taught.{IsTaught}

-- propagation ended
pub watched-of : (clauses : List (List ℤ)) (fs ss : List ℤ) (ls : Lists) (trail : List ℤ) (found : Option ℕ) → IsPropagated clauses fs ss ls trail found → AreWatched clauses fs ss ls
watched-of clauses fs ss ls trail None p = p.0
watched-of clauses fs ss ls trail (Some c) p = p.0

pub ended : (clauses : List (List ℤ)) (s : Solver) (found : Option ℕ) → IsLearning clauses s → IsPropagated s.long s.firsts.items s.seconds.items s.lists.items s.trail found → IsEnded clauses s found
ended clauses s None h p = record { learning = h; settled = p.1 }
ended clauses s (Some c) h p = (h, p.1, p.2)

-- the clauses given are quiet
pub given-quiet : (clauses : List (List ℤ)) (s : Solver) → IsQuietSearch clauses s → AreQuiet s.trail clauses
given-quiet clauses s h = covered-quiet clauses s.long s.trail
    (λ c lt. settled-quiet s.trail (clause_of s.long c) (literal_at s.firsts.items c) (literal_at s.seconds.items c) (h.learning.watched.pairs c lt) (h.settled c lt))
    (λ k lt. (let P : List ℤ → Type 0 = λ c. IsCovered s.long s.trail c in subst P (get_or_append_left clauses (clauses_of s.lines.items) [] k lt) (h.learning.covered k (omega (arith, lt, longer clauses (clauses_of s.lines.items))))))
  where
    longer : (xs ys : List (List ℤ)) → length xs ≤ length (xs ++ ys)
    longer [] ys = omega arith
    longer (x ∷ xs) ys = let e = longer xs ys in omega arith

-- the empty clause
pub refuted-at : (clauses : List (List ℤ)) (budget : ℕ) (lines next : List Line) (id : ℕ) (clause hints : List ℤ) → AreLogged clauses lines → clause ≡ [] → id ≡ length clauses + length lines + 1 → id < 2 ^ 63
    → IsRight clauses lines [] hints → AreHints hints → list_any is_empty clauses ≡ false → length lines < budget → next ≡ lines ++ Derive id clause hints ∷ []
    → IsRefuted clauses budget next × AreLines next
refuted-at clauses budget lines next id clause hints are none ei small right hints_in given few en =
    let P : List Line → Type 0 = λ ls. IsRefuted clauses budget ls × AreLines ls in
    let Q : List ℤ → Type 0 = λ c. IsRefuted clauses budget (lines ++ Derive id c hints ∷ []) × AreLines (lines ++ Derive id c hints ∷ []) in
    subst P (sym en) (subst Q (sym none) (
      lines-refuted clauses budget lines id hints are ei right given few,
      All-push IsLine lines (Derive id [] hints) are.ranges (record { id_in = record { not_zero = omega arith; bounded = small }; clause_in = λ k d lt. absurd (omega arith); hints_in = hints_in }),
    ))

-- what was taught stays so where the lines stay
pub taught-after : (clauses : List (List ℤ)) (s next : Solver) (t : Taught) → next.lines.items ≡ s.lines.items → IsTaught clauses s t → IsTaught clauses next t
taught-after clauses s next t e h = record {
  right = (let P : List Line → Type 0 = λ ls. IsRight clauses ls (negated t.kept.items) t.hints.items in subst P (sym e) h.right);
  hints_in = h.hints_in;
  literals = h.literals;
}

-- a budget that was spent, where a clause is false
pub spent-at : (clauses : List (List ℤ)) (inputs budget : ℕ) (s : Solver) (found : Option ℕ) (c : ℕ) → IsEnded clauses s found → found ≡ Some c → length s.lines.items ≡ budget
    → (budget < 2 ^ (inputs + 1) → IsUnknown clauses inputs budget s.lines.items) × AreLines s.lines.items
spent-at clauses inputs budget s found c h e many =
    let P : Option ℕ → Type 0 = λ o. IsEnded clauses s o in
    let g = (subst P e h).0 in
    ((λ small. lines-spent clauses inputs budget s.lines.items g.lines many small), g.lines.ranges)

pub no-literals : (xs : List ℤ) → length xs ≡ 0 → xs ≡ []
no-literals [] e = refl
no-literals (x ∷ xs) e = absurd (omega arith)
