-- What generated routines ask: each asks once, whether X is zero.
use Rattle.std.proofs.Common.{◌≡◌, ℕ, zero, suc, ◌+◌, ◌-◌, ◌<◌, ◌≤◌, min, true, false, Bool, ◌==◌, List, [], ◌∷◌, ◌++◌, length, map, slice_index, nat_lt, arith, refl, sym, ap, subst, ◌∙◌}
use Rattle.std.proofs.lemmas.List.{length-map}
use Rattle.std.proofs.lemmas.Bool.Decides.{nat_tests}
use Rattle.hp_model.specs.declared.End.{End}
use Rattle.hp_model.specs.declared.End.TheVariants.{Return}
use Rattle.hp_model.specs.declared.Stop.TheVariants.{Go, Ended}
use Rattle.hp_model.specs.Operations.{Operation}
use Rattle.hp_model.specs.Operations as ops
use Rattle.hp_model.specs.Codes.{operation_of, code_of}
use Rattle.hp_model.specs.State.{Control, Data, Machine}
use Rattle.hp_model.specs.Questions.{answers, answers_to, questions}
use Rattle.hp_model.specs.Run.{line_answers, line_done, run_answers}
use Rattle.jd_generated.specs.Generated.{Draw, double, complement, negation, turn, five_more, in_first, in_second, appended, routine}
use Rattle.jd_generated.proofs.Lines.{done_all, done_here, next_line, GoOn, Stand, all-stand, rest-stand, zero-after, line-done, line-after}
use Rattle.jd_generated.proofs.Draws.{Rest, rest_of, ready, Serves}
use Rattle.jd_generated.proofs.Runs.{value, draws-go, draws-done}

-- operations that ask nothing
abbrev pub AskNothing : List Operation → Type 0
AskNothing [] = Unit {0}
AskNothing (op ∷ more) = ((c : Control) → questions c op ≡ []) × AskNothing more

nothing-both : (one more : List Operation) → AskNothing one → AskNothing more → AskNothing (one ++ more)
nothing-both [] more none others = others
nothing-both (op ∷ one) more (none, rest) others = (none, nothing-both one more rest others)

pub first-asks-nothing : (draw : Draw) → AskNothing (in_first draw)
first-asks-nothing double = (λ c. refl, tt)
first-asks-nothing complement = (λ c. refl, tt)
first-asks-nothing negation = (λ c. refl, tt)
first-asks-nothing turn = (λ c. refl, tt)
first-asks-nothing five_more = (λ c. refl, (λ c. refl, tt))

pub second-asks-nothing : (draw : Draw) → AskNothing (in_second draw)
second-asks-nothing double = (λ c. refl, (λ c. refl, tt))
second-asks-nothing complement = (λ c. refl, (λ c. refl, (λ c. refl, tt)))
second-asks-nothing negation = (λ c. refl, (λ c. refl, (λ c. refl, tt)))
second-asks-nothing turn = (λ c. refl, (λ c. refl, (λ c. refl, (λ c. refl, (λ c. refl, (λ c. refl, (λ c. refl, tt)))))))
second-asks-nothing five_more = (λ c. refl, (λ c. refl, (λ c. refl, (λ c. refl, tt))))

draws-ask-nothing : (words : Draw → List Operation) → ((draw : Draw) → AskNothing (words draw)) → (draws : List Draw) → AskNothing (appended words draws)
draws-ask-nothing words none [] = tt
draws-ask-nothing words none (draw ∷ draws) = nothing-both (words draw) (appended words draws) (none draw) (draws-ask-nothing words none draws)

-- ---- the answers of runs

answers-go : (n : ℕ) (m : Machine) → (line_done m).stop ≡ Go → run_answers (suc n) m ≡ line_answers m ++ run_answers n (line_done m).machine
answers-go n m goes = rw (goes, run_answers) refl

answers-end : (n : ℕ) (m : Machine) (end : End) → (line_done m).stop ≡ Ended end → run_answers (suc n) m ≡ line_answers m ++ []
answers-end n m end ends = rw (ends, run_answers) refl

-- the answers of the next line
line-asked : (m : Machine) (i : ℕ) (op : Operation) → m.control.line ≡ suc i → i < length m.control.program
    → slice_index m.control.program i ≡ code_of op → operation_of (code_of op) ≡ op → line_answers m ≡ answers (next_line m.control) op m.contents
line-asked m i op line inside code back =
    let not_past : nat_lt (length m.control.program) m.control.line ≡ false = grind (arith, nat_tests) in
    let next : min (m.control.line + 1) (length m.control.program + 1) ≡ suc m.control.line = omega arith in
    let here : m.control.line - 1 ≡ i = omega arith in
    rw (not_past, line_answers) (rw next (rw here (rw code (rw back refl))))

-- operations that ask nothing leave the answers to what follows
answers-all : (ops : List Operation) (m : Machine) (i n : ℕ) → m.control.line ≡ suc i → Stand m.control.program i (map code_of ops) → GoOn ops m → AskNothing ops
    → run_answers (length ops + n) m ≡ run_answers n (done_all ops m)
answers-all [] m i n line s goes none = (let e : 0 + n ≡ n = omega arith in rw e refl)
answers-all (op ∷ ops) m i n line s (back, stop, program, next, goes) (none, rest) =
    let here : slice_index m.control.program i ≡ code_of op = subst (λ k. slice_index m.control.program k ≡ code_of op) (zero-after i) (s.same 0 (omega arith)) in
    let inside : i < length m.control.program = (let e = s.inside in omega arith) in
    let done : line_done m ≡ done_here op m = line-done m i op line inside here back in
    let asked : line_answers m ≡ [] = line-asked m i op line inside here back ∙ ap (λ qs. answers_to qs (next_line m.control) m.contents) (none (next_line m.control)) in
    let goes_on : (line_done m).stop ≡ Go = ap (λ step. step.stop) done ∙ stop in
    let count : length (op ∷ ops) + n ≡ suc (length ops + n) = omega arith in
    let stands : Stand (done_here op m).machine.control.program (suc i) (map code_of ops) =
    subst (λ p. Stand p (suc i) (map code_of ops)) (sym program) (rest-stand m.control.program (map code_of ops) i (code_of op) s) in
    ap (λ k. run_answers k m) count ∙ (answers-go (length ops + n) m goes_on
    ∙ (ap (λ given. given ++ run_answers (length ops + n) (line_done m).machine) asked
    ∙ (ap (λ step. run_answers (length ops + n) step.machine) done
    ∙ answers-all ops (done_here op m).machine (suc i) n (next ∙ ap suc line) stands goes rest)))

-- the return past the last line asks nothing
asked-past : (n : ℕ) (program : List ℕ) (blocks i x : ℕ) (r : Rest) → length program ≤ i → run_answers (suc n) (ready program blocks i x r) ≡ []
asked-past n program blocks i x r past =
    let m = ready program blocks i x r in
    let beyond : nat_lt (length program) (suc i) ≡ true = grind (arith, nat_tests) in
    let ends : (line_done m).stop ≡ Ended Return = rw (beyond, line_done) refl in
    let none : line_answers m ≡ [] = rw (beyond, line_answers) refl in
    answers-end n m Return ends ∙ ap (λ given. given ++ []) none

-- a routine's answers from X, with zeros above it
module _ (words : Draw → List Operation) (serves : Serves words) (silent : (draw : Draw) → AskNothing (words draw)) (draws : List Draw) (blocks : ℕ) where
  abbrev pub program : List ℕ
  program = routine words draws

  body-stands : Stand program 2 (map code_of (appended words draws))
  body-stands =
      rest-stand program (map code_of (appended words draws)) 1 (code_of ops.bits_not)
      (rest-stand program (map code_of (ops.bits_not ∷ appended words draws)) 0 (code_of (ops.test ops.is_zero)) (all-stand program))

  -- the draws and the return past them, from line 3 on
  after-head : (x n : ℕ) (r : Rest) → length (appended words draws) < n → run_answers n (ready program blocks 2 x r) ≡ []
  after-head x n r enough =
      let body = appended words draws in
      let m = ready program blocks 2 x r in
      let goes = draws-go words serves draws program blocks 2 x r in
      let count : n ≡ length body + suc (n - suc (length body)) = omega arith in
      let done = draws-done words serves draws program blocks 2 x r in
      let line : suc done.i ≡ length body + 3 = sym (ap (λ m. m.control.line) done.is) ∙ line-after body m goes in
      ap (λ k. run_answers k m) count
      ∙ (answers-all body m 2 (suc (n - suc (length body))) refl body-stands goes (draws-ask-nothing words silent draws)
      ∙ (ap (run_answers (suc (n - suc (length body)))) done.is
      ∙ asked-past (n - suc (length body)) program blocks done.i (value words draws x) done.r (long body line)))
    where
      long : (body : List Operation) → {i : ℕ} → suc i ≡ length body + 3 → suc (suc (length (map code_of body))) ≤ i
      long body line = let e : length (map code_of body) ≡ length body = length-map body code_of in omega arith

  -- X is zero: the test goes on to NOT
  from-zero : (n : ℕ) (r : Rest) → length (appended words draws) + 3 ≤ n → run_answers n (ready program blocks 0 0 r) ≡ true ∷ []
  from-zero n r enough =
      let m = ready program blocks 0 0 r in
      let test = ops.test ops.is_zero in
      let next = (done_here test m).machine in
      let done : line_done m ≡ done_here test m = line-done m 0 test refl (omega arith) refl refl in
      let asked : line_answers m ≡ true ∷ [] = line-asked m 0 test refl (omega arith) refl refl in
      let goes_on : (line_done m).stop ≡ Go = ap (λ step. step.stop) done in
      let count : n ≡ suc (1 + (n - 2)) = omega arith in
      let stands : Stand program 1 (code_of ops.bits_not ∷ []) = record { inside = omega arith; same = not (map code_of (appended words draws)) } in
      ap (λ k. run_answers k m) count ∙ (answers-go (1 + (n - 2)) m goes_on
      ∙ (ap (λ given. given ++ run_answers (1 + (n - 2)) (line_done m).machine) asked
      ∙ ap (λ given. true ∷ given) (ap (λ step. run_answers (1 + (n - 2)) step.machine) done
      ∙ (answers-all (ops.bits_not ∷ []) next 1 (n - 2) refl stands (refl, refl, refl, refl, tt) (λ c. refl, tt)
      ∙ after-head 255 (n - 2) (rest_of (done_all (ops.bits_not ∷ []) next).contents) (omega arith)))))
    where
      not : (rest : List ℕ) → (k : ℕ) → k < 1 → slice_index (code_of (ops.test ops.is_zero) ∷ code_of ops.bits_not ∷ rest) (1 + k) ≡ slice_index (code_of ops.bits_not ∷ []) k
      not rest zero below = refl
      not rest (suc k) below = absurd (omega arith)

  -- X isn't zero: NOT is skipped
  from-more : (k n : ℕ) (r : Rest) → length (appended words draws) + 3 ≤ n → run_answers n (ready program blocks 0 (suc k) r) ≡ false ∷ []
  from-more k n r enough =
      let m = ready program blocks 0 (suc k) r in
      let test = ops.test ops.is_zero in
      let skips : min (2 + 1) (length program + 1) ≡ 3 = omega arith in
      let some : (suc k == 0) ≡ false = grind (arith, nat_tests) in
      let done : line_done m ≡ done_here test m = line-done m 0 test refl (omega arith) refl refl in
      let asked : line_answers m ≡ false ∷ [] = line-asked m 0 test refl (omega arith) refl refl ∙ ap (λ yes. yes ∷ []) some in
      let there : (done_here test m).machine ≡ ready program blocks 2 (suc k) r = rw skips (rw some refl) in
      let goes_on : (line_done m).stop ≡ Go = ap (λ step. step.stop) done in
      let count : n ≡ suc (n - 1) = omega arith in
      ap (λ k. run_answers k m) count ∙ (answers-go (n - 1) m goes_on
      ∙ (ap (λ given. given ++ run_answers (n - 1) (line_done m).machine) asked
      ∙ ap (λ given. false ∷ given) (ap (λ step. run_answers (n - 1) step.machine) done
      ∙ (ap (run_answers (n - 1)) there ∙ after-head (suc k) (n - 1) r (omega arith)))))

  pub asked-once : (x n : ℕ) (r : Rest) → length (appended words draws) + 3 ≤ n → run_answers n (ready program blocks 0 x r) ≡ (x == 0) ∷ []
  asked-once zero n r enough = from-zero n r enough
  asked-once (suc k) n r enough = let some : (suc k == 0) ≡ false = grind (arith, nat_tests) in rw some (from-more k n r enough)
