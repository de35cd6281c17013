-- Whole runs of generated routines.
use Rattle.std.proofs.Common.{◌≡◌, ℕ, zero, suc, ◌+◌, ◌-◌, ◌<◌, ◌≤◌, min, true, false, if◌then◌else◌, ◌==◌, List, [], ◌∷◌, length, map, slice_index, Option, Some, arith, refl, sym, ap, subst, ◌∙◌, nat_lt}
use Rattle.std.proofs.lemmas.List.{length-map}
use Rattle.std.proofs.lemmas.Bool.Decides.{nat_tests}
use Rattle.hp_model.specs.declared.End.{End}
use Rattle.hp_model.specs.declared.End.TheVariants.{Return}
use Rattle.hp_model.specs.declared.Stop.TheVariants.{Go, Ended}
use Rattle.hp_model.specs.Operations.{Operation}
use Rattle.hp_model.specs.Operations as ops
use Rattle.hp_model.specs.Codes.{code_of}
use Rattle.hp_model.specs.State.{Machine}
use Rattle.hp_model.specs.Run.{run, line_done}
use Rattle.hp_model.proofs.Runs.{run-goes, run-ends}
use Rattle.jd_generated.specs.Generated.{Draw, appended, routine}
use Rattle.jd_generated.proofs.Lines.{done_all, done_here, GoOn, Stand, all-stand, rest-stand, run-all, line-done, done-both, go-both, line-after}
use Rattle.jd_generated.proofs.Draws.{Rest, rest_of, ready, Serves, x_after}

-- X after all draws
abbrev pub value : (Draw → List Operation) → List Draw → ℕ → ℕ
value words [] x = x
value words (draw ∷ draws) x = value words draws (x_after (words draw) x)

-- a machine between draws
pub record IsReady (program : List ℕ) (blocks x : ℕ) (m : Machine) : Type 0 where
  pub i : ℕ
  pub r : Rest
  pub is : m ≡ ready program blocks i x r

pub draws-go : (words : Draw → List Operation) → Serves words → (draws : List Draw) (program : List ℕ) (blocks i x : ℕ) (r : Rest)
    → GoOn (appended words draws) (ready program blocks i x r)
draws-go words serves [] program blocks i x r = tt
draws-go words serves (draw ∷ draws) program blocks i x r =
    go-both (words draw) (appended words draws) (ready program blocks i x r) (serves.goes draw program blocks i x r)
    (rw (serves.shape draw program blocks i x r) (draws-go words serves draws program blocks _ (x_after (words draw) x) _))

pub draws-done : (words : Draw → List Operation) → Serves words → (draws : List Draw) (program : List ℕ) (blocks i x : ℕ) (r : Rest)
    → IsReady program blocks (value words draws x) (done_all (appended words draws) (ready program blocks i x r))
draws-done words serves [] program blocks i x r = record { i = i; r = r; is = refl }
draws-done words serves (draw ∷ draws) program blocks i x r =
    rw (done-both (words draw) (appended words draws) (ready program blocks i x r))
    (rw (serves.shape draw program blocks i x r) (draws-done words serves draws program blocks _ (x_after (words draw) x) _))

-- a run that returned with X in the stack and zeros above it
pub record IsOver (x : ℕ) (over : Option End × Machine) : Type 0 where
  pub end : over.0 ≡ Some Return
  pub shows : over.1.contents.x ≡ x
  pub y : over.1.contents.y ≡ 0
  pub z : over.1.contents.z ≡ 0

-- past the last line the run returns
pub returns-past : (n : ℕ) (program : List ℕ) (blocks i x : ℕ) (r : Rest) → length program ≤ i
    → IsOver x (run (suc n) (ready program blocks i x r))
returns-past n program blocks i x r past =
    let beyond : nat_lt (length program) (suc i) ≡ true = grind (arith, nat_tests) in
    let ends : (line_done (ready program blocks i x r)).stop ≡ Ended Return = rw (beyond, line_done) refl in
    let there : (line_done (ready program blocks i x r)).machine.contents ≡ (ready program blocks i x r).contents = rw (beyond, line_done) refl in
    rw (run-ends n (ready program blocks i x r) Return ends) (record { end = refl; shows = ap (λ d. d.x) there; y = ap (λ d. d.y) there; z = ap (λ d. d.z) there })

-- X after the test and NOT, which is done where X is zero
abbrev pub headed : ℕ → ℕ
headed x = if x == 0 then 255 else x

-- a routine's run from X, with zeros above it
pub whole-run : (words : Draw → List Operation) → Serves words → (draws : List Draw) (blocks x n : ℕ) (r : Rest)
    → length (appended words draws) + 3 ≤ n → IsOver (value words draws (headed x)) (run n (ready (routine words draws) blocks 0 x r))
whole-run words serves draws blocks x n r enough =
    by_x x refl
  where
    -- the draws and the return past them, from line 3 on
    after_head : (words : Draw → List Operation) → Serves words → (draws : List Draw) (blocks x n : ℕ) (r : Rest) → length (appended words draws) < n
        → IsOver (value words draws x) (run n (ready (routine words draws) blocks 2 x r))
    after_head words serves draws blocks x n r enough =
        let body = appended words draws in
        let m = ready (routine words draws) blocks 2 x r in
        let goes = draws-go words serves draws (routine words draws) blocks 2 x r in
        let stands : Stand (routine words draws) 2 (map code_of body) =
        rest-stand (routine words draws) (map code_of body) 1 (code_of ops.bits_not)
        (rest-stand (routine words draws) (map code_of (ops.bits_not ∷ body)) 0 (code_of (ops.test ops.is_zero)) (all-stand (routine words draws))) in
        let count : n ≡ length body + suc (n - suc (length body)) = omega arith in
        let done = draws-done words serves draws (routine words draws) blocks 2 x r in
        let line : suc done.i ≡ length body + 3 = sym (ap (λ m. m.control.line) done.is) ∙ line-after body m goes in
        let ran : run n m ≡ run (suc (n - suc (length body))) (ready (routine words draws) blocks done.i (value words draws x) done.r) =
        ap (λ k. run k m) count ∙ (run-all body m 2 (suc (n - suc (length body))) refl stands goes ∙ ap (run (suc (n - suc (length body)))) done.is) in
        subst (IsOver (value words draws x)) (sym ran)
        (returns-past (n - suc (length body)) (routine words draws) blocks done.i (value words draws x) done.r (long body line))
      where
        long : (body : List Operation) → {i : ℕ} → suc i ≡ length body + 3 → suc (suc (length (map code_of body))) ≤ i
        long body line = let e : length (map code_of body) ≡ length body = length-map body code_of in omega arith

    -- X is zero: the test goes on to NOT
    from_zero : (words : Draw → List Operation) → Serves words → (draws : List Draw) (blocks n : ℕ) (r : Rest) → length (appended words draws) + 3 ≤ n
        → IsOver (value words draws 255) (run n (ready (routine words draws) blocks 0 0 r))
    from_zero words serves draws blocks n r enough =
        let program = routine words draws in
        let head = ops.test ops.is_zero ∷ ops.bits_not ∷ [] in
        let m = ready program blocks 0 0 r in
        let stands : Stand program 0 (map code_of head) = record { inside = omega arith; same = both (map code_of (appended words draws)) } in
        let count : n ≡ 2 + (n - 2) = omega arith in
        let ran : run n m ≡ run (n - 2) (done_all head m) = ap (λ k. run k m) count
        ∙ run-all head m 0 (n - 2) refl stands (refl, refl, refl, refl, (refl, refl, refl, refl, tt)) in
        subst (IsOver (value words draws 255)) (sym ran) (after_head words serves draws blocks 255 (n - 2) (rest_of (done_all head m).contents) (omega arith))
      where
        both : (rest : List ℕ) → (k : ℕ) → k < 2 → slice_index (code_of (ops.test ops.is_zero) ∷ code_of ops.bits_not ∷ rest) (0 + k)
            ≡ slice_index (map code_of (ops.test ops.is_zero ∷ ops.bits_not ∷ [])) k
        both rest zero below = refl
        both rest (suc zero) below = refl
        both rest (suc (suc k)) below = absurd (omega arith)

    -- X isn't zero: NOT is skipped
    from_more : (words : Draw → List Operation) → Serves words → (draws : List Draw) (blocks k n : ℕ) (r : Rest) → length (appended words draws) + 3 ≤ n
        → IsOver (value words draws (suc k)) (run n (ready (routine words draws) blocks 0 (suc k) r))
    from_more words serves draws blocks k n r enough =
        let program = routine words draws in
        let m = ready program blocks 0 (suc k) r in
        let skips : min (2 + 1) (length program + 1) ≡ 3 = omega arith in
        let done : line_done m ≡ done_here (ops.test ops.is_zero) m = line-done m 0 (ops.test ops.is_zero) refl (omega arith) refl refl in
        let there : (done_here (ops.test ops.is_zero) m).machine ≡ ready program blocks 2 (suc k) r = (let some : (suc k == 0) ≡ false = grind (arith, nat_tests) in rw skips (rw some refl)) in
        let goes_on : (line_done m).stop ≡ Go = ap (λ step. step.stop) done in
        let count : n ≡ suc (n - 1) = omega arith in
        let ran : run n m ≡ run (n - 1) (ready program blocks 2 (suc k) r) = ap (λ k. run k m) count
        ∙ (run-goes (n - 1) m goes_on ∙ (ap (λ step. run (n - 1) step.machine) done ∙ ap (run (n - 1)) there)) in
        subst (IsOver (value words draws (suc k))) (sym ran) (after_head words serves draws blocks (suc k) (n - 1) r (omega arith))

    by_x : (k : ℕ) → x ≡ k → IsOver (value words draws (headed x)) (run n (ready (routine words draws) blocks 0 x r))
    by_x zero e = rw e (from_zero words serves draws blocks n r enough)
    by_x (suc k) e = let some : (suc k == 0) ≡ false = grind (arith, nat_tests) in rw e (rw some (from_more words serves draws blocks k n r enough))
