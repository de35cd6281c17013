-- A search once all clauses were taken.
use Rattle.std.proofs.Common.{◌≡◌, ℕ, ℤ, List, [], ◌∷◌, take, length, refl, sym, ◌∙◌, ap, subst, arith}
use Rattle.std.specs.Prelude.{neg_ℤ}
use Rattle.jd_propagate.specs.Passing.{literal_at}
use Rattle.std.specs.List.{All}
use Rattle.jd_logic.specs.declared.Line.{Line}
use Rattle.jd_logic.specs.Literals.{AreLiterals}
use Rattle.jd_prover.proofs.Logged.{lines-begun}
use Rattle.jd_propagate.specs.Quiet.{IsIn}
use Rattle.jd_propagate.specs.Levels.{clauses_of, IsTrueLine}
use Rattle.jd_propagate.proofs.Members.{false_is_not_true}
use Rattle.jd_prover.specs.declared.solver.Solver.{Solver}
use Rattle.jd_prover.specs.Room.{room}
use Rattle.jd_prover.specs.Solving.{IsTaken, AreLogged}
use Rattle.jd_prover.specs.Searching.{IsStart}
use Rattle.jd_prover.proofs.Bound.{room-begun}

none-seen : (xs : List ℤ) (l : ℤ) → IsIn (take 0 xs) l → ⊥
none-seen [] l e = false_is_not_true _ refl e
none-seen (x ∷ xs) l e = false_is_not_true _ refl e

pub start-begun : (clauses : List (List ℤ)) (inputs : ℕ) (s : Solver) → IsTaken clauses (length clauses) s → IsStart clauses inputs s 0
start-begun clauses inputs s t =
    let none : length s.decisions.items ≡ 0 = ap length t.no_decisions in
    let Q : List Line → Type 0 = λ log. AreLogged clauses log in
    let R : List Line → Type 0 = λ log. All (IsTrueLine s.trail) (clauses_of log) in
    let L : List ℤ → Type 0 = λ ds. AreLiterals ds in
    let nothing : All (IsTrueLine s.trail) [] = λ k d lt. absurd (omega arith) in
    let no_literal : AreLiterals [] = λ k d lt. absurd (omega arith) in
    record {
      searching = record {
        watched = t.watched;
        known = t.known;
        covered = t.covered;
        levels = record {
          as_many = ap length t.no_limits ∙ sym none;
          below = λ j lt. absurd (omega arith);
          order = λ i j less lt. absurd (omega arith);
          place = λ j lt. absurd (omega arith);
          before = λ j lt. absurd (omega arith);
        };
        literals = subst L (sym t.no_decisions) no_literal;
        true_lines = subst R (sym t.no_lines) nothing;
        lines = subst Q (sym t.no_lines) (lines-begun clauses);
        room = (let e = ap (room inputs s.trail) t.no_limits in let m = ap length t.no_lines in let b = room-begun inputs s.trail in omega arith);
      };
      settled = λ c lt. record { first = λ e. absurd (none-seen s.trail (neg_ℤ (literal_at s.firsts.items c)) e); second = λ e. absurd (none-seen s.trail (neg_ℤ (literal_at s.seconds.items c)) e) };
      from_in = omega arith;
    }
