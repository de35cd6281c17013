use Rattle.std.proofs.Common.{◌≡◌, ◌∙◌, ap, sym, subst, w32, rules, ℕ, ℤ, List, [], ◌∷◌, ◌++◌}
use Rattle.std.proofs.lemmas.Int.{to_z-of_z}
use mir.Val.{SFits}
use Rattle.jd_logic.specs.Literals.{IsLiteral}
use Rattle.jd_propagate.specs.Passing.{clause_of}
use Rattle.jd_propagate.specs.Reasons.{AreReasons}
use Rattle.jd_propagate.proofs.Steps.{literal_in}
use Rattle.jd_prover.specs.Solving.{IsCovered, AreOrigins, store_of}
use Rattle.jd_prover.proofs.Stored.{reasons-weaker, more_clauses}
use Rattle.jd_prover.proofs.Taking.{next_too, covered-watched, covered-last, origins-more, unit-next}
use Rattle.jd_prover.proofs.setup.take_clause.Goals as goal

pub take_unit-requires-clause-literal : goal.take_unit-requires-clause-literal
take_unit-requires-clause-literal c =
    let r = c.first_of-first.result in
    let f : SFits w32 r = search rules in
    let L : ℤ → Type 0 = λ z. IsLiteral z in
    subst L (sym (to_z-of_z w32 r f)) (literal_in c.clause-clause.result.now r c.clause-clause.ensures.range c.first_of-first.ensures)

pub returns-in_ok-push-in-Some : goal.returns-in_ok-push-in-Some
returns-in_ok-push-in-Some c =
    let t = c.requires.taken in
    let cs = c.args.clauses.now in
    let s = c.args.solver.now in
    let at = c.args.at in
    let m = c.in_ok-watch-in-Some.ensures in
    let new = c.watch.new.clauses in
    let e : new ≡ s.long ++ clause_of cs at ∷ [] = m.clauses ∙ ap (λ (x : List ℤ). s.long ++ x ∷ []) c.clause-clause.ensures.clause in
    let O : List (List ℤ) → Type 0 = λ xs. AreOrigins cs xs c.push.new.self.items in
    let N : List ℕ → Type 0 = λ ys. AreOrigins cs (s.long ++ clause_of cs at ∷ []) ys in
    let R : List (List ℤ) → Type 0 = λ xs. AreReasons xs (store_of cs s.lines.items) s.decisions.items s.decisions.items s.trail s.reasons.items in
    record {
      watched = m.watched;
      known = record {
        origins = subst O (sym e) (subst N (sym c.in_ok-push-in-Some.ensures.items) (origins-more cs s.long s.origins.items at c.requires.in_clauses t.known.origins));
        reasons = subst R (sym e) (reasons-weaker s.long (s.long ++ clause_of cs at ∷ []) (store_of cs s.lines.items) (store_of cs s.lines.items) s.decisions.items s.decisions.items s.decisions.items s.decisions.items s.trail s.reasons.items
            (more_clauses s.long (clause_of cs at)) (λ id clause is. is) (λ l is. is) (λ l is. is) t.known.reasons);
      };
      covered = next_too (λ k. IsCovered new s.trail (clause_of cs k)) at
          (λ k lt. (let C : List (List ℤ) → Type 0 = λ xs. IsCovered xs s.trail (clause_of cs k) in subst C (sym e) (covered-watched s.long s.trail (clause_of cs k) (clause_of cs at) (t.covered k lt))))
          (let C : List (List ℤ) → Type 0 = λ xs. IsCovered xs s.trail (clause_of cs at) in subst C (sym e) (covered-last s.long s.trail (clause_of cs at)));
      no_decisions = t.no_decisions;
      no_limits = t.no_limits;
      no_lines = t.no_lines;
    }

pub returns-in_ok-kept-in-None : goal.returns-in_ok-kept-in-None
returns-in_ok-kept-in-None c =
    let at = c.args.at in
    unit-next c.args.clauses.now at c.take_unit.new.solver c.in_ok-kept-in-None.kept (c.in_ok-kept-in-None.ensures at c.requires.taken)
