use Rattle.std.proofs.Common.{inl, inr, ◌∙◌, sym, subst, arith, w32, ◌+◌, ℤ, List, [], ◌∷◌, ◌++◌, of_z, to_z}
use Rattle.std.proofs.lemmas.Int.{to_z-of_z}
use Rattle.jd_propagate.specs.declared.reason.Reason.TheVariants.{Line}
use Rattle.jd_propagate.specs.declared.reason.Reason.{Reason}
use Rattle.jd_propagate.specs.Quiet.{IsIn, IsWithin}
use Rattle.jd_propagate.specs.Passing.{clause_of}
use Rattle.jd_propagate.specs.Reasons.{AreReasons}
use Rattle.jd_propagate.specs.Levels.{clauses_of}
use Rattle.jd_propagate.proofs.Keeping.{reasons-more}
use Rattle.jd_propagate.proofs.Members.{has-append_left, has-append_right, has-here}
use Rattle.jd_prover.specs.Solving.{store_of}
use Rattle.jd_prover.proofs.Stored.{stored-at, stored-more}
use Rattle.jd_prover.proofs.Taking.{covered-grows}
use Rattle.jd_prover.proofs.setup.take_unit.Goals as goal

pub returns-then-has : goal.returns-then-has
returns-then-has c = λ n t.
    let e = to_z-of_z w32 c.args.l c.ranges.l in
    let P : ℤ → Type 0 = λ z. IsIn c.args.solver.now.trail z in
    (t, inr (c.args.l, record { among = c.requires.among; is_true = subst P e (sym c.if-has.ensures) }))

pub returns : goal.returns
returns c = λ n t.
    let cs = c.args.clauses.now in
    let e = to_z-of_z w32 c.args.l c.ranges.l in
    let s = c.args.solver.now in
    let z = to_z w32 (of_z w32 c.args.l) in
    let m = c.in_ok-make_true.ensures in
    let T : List ℤ → Type 0 = λ xs. AreReasons s.long (store_of cs s.lines.items) s.decisions.items s.decisions.items xs c.make_true.new.reasons.items in
    let R : List Reason → Type 0 = λ ys. AreReasons s.long (store_of cs s.lines.items) s.decisions.items s.decisions.items (s.trail ++ z ∷ []) ys in
    let W : IsWithin s.trail c.make_true.new.trail = λ l is. (let G : List ℤ → Type 0 = λ xs. IsIn xs l in subst G (sym m.trail) (has-append_left s.trail (z ∷ []) l is)) in
    let H : List ℤ → Type 0 = λ xs. IsIn xs z in
    let Z : ℤ → Type 0 = λ l. IsIn c.make_true.new.trail l in (
      record {
        watched = t.watched;
        known = record {
          origins = t.known.origins;
          reasons = subst T (sym m.trail) (subst R (sym m.reasons) (reasons-more s.long (store_of cs s.lines.items) s.decisions.items s.decisions.items s.trail s.reasons.items z (Line (c.args.at + 1)) t.known.reasons (
            clause_of cs c.args.at,
            record {
              not_zero = omega arith;
              small = omega (arith, c.requires.in_clauses, c.requires.small);
              stored = stored-more cs (clauses_of s.lines.items) 1 (c.args.at + 1) (clause_of cs c.args.at) (stored-at cs 1 c.args.at (c.args.at + 1) (omega arith) c.requires.in_clauses);
              among = (let A : ℤ → Type 0 = λ l. IsIn (clause_of cs c.args.at) l in subst A (sym e) c.requires.among);
              others = λ n is. inl (c.requires.alone n is ∙ sym e);
            },
          )));
        };
        covered = λ k lt. covered-grows s.long s.trail c.make_true.new.trail (clause_of cs k) W (t.covered k lt);
        no_decisions = t.no_decisions;
        no_limits = t.no_limits;
        no_lines = t.no_lines;
      },
      inr (c.args.l, record { among = c.requires.among; is_true = subst Z e (subst H (sym m.trail) (has-append_right s.trail (z ∷ []) z (has-here z []))) }),
    )
