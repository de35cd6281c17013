-- A walk along a path: what holds of control and of each start that comes to it, from ask to ask and from line to line.
use Rattle.std.proofs.Common.{◌≡◌, ℕ, suc, ◌<◌, ◌&&◌, Bool, true, false, List, [], ◌∷◌, ◌++◌, length, take, Option, Some, None, refl, sym, ap, ◌∙◌, arith, append_assoc, append-nil, length-append, nat_lt}
use Rattle.std.specs.Bool.{beq}
use Rattle.std.proofs.lemmas.List.{take-append-le}
use Rattle.std.proofs.Math.Seq.{take-append_seam}
use Rattle.std.proofs.lemmas.Bool.{ltb-true}
use Rattle.std.proofs.lemmas.Bool.Decides.{nat_tests}
use Rattle.hp_model.specs.declared.End.{End}
use Rattle.hp_model.specs.declared.Stop.{Stop}
use Rattle.hp_model.specs.declared.Stop.TheVariants.{Go, Ended}
use Rattle.hp_model.specs.State.{Control, Data, Machine}
use Rattle.hp_model.specs.Questions.{Question, holds}
use Rattle.hp_model.specs.Run.{advanced, control_done, line_answers, line_done, run, run_answers}
use Rattle.hp_model.proofs.Runs.{run-goes, run-ends}
use Rattle.jd_model.specs.Problems.{Problem}
use Rattle.jd_model.specs.Problems.{in_range}
use Rattle.jd_model.specs.Seen.{ended, seen_of_run, first_control, machine_at, seen, agree, agree_on}
use Rattle.jd_books.specs.Paths.{line_questions, Reached, asking, reached, taken, along, after_path, AsksAfter, OverAfter, IsWalked, answers_of_start, begins}
use Rattle.jd_books.specs.Walks.{OpenQuestion, IsTaken, data_done, seen_as, machine_of, after_run, answers_after, Comes, IsOnWay, IsOver}
use Rattle.jd_books.proofs.Fronts.{begins-split, begins-append, begins-shorter}
use Rattle.jd_books.proofs.AlongRun.{taken-answers, after_taken, along-line}
use Rattle.jd_books.proofs.Asking.{taken-open, begins-more}

-- the first run begins
pub first-begun : (p : Problem) (D : Data → Data) → ((s : Data) → in_range p s ≡ true → D s ≡ s) → IsOnWay p false [] [] [] p.steps (first_control p p.first) D
first-begun p D same = record {
  path_is = refl;
  control = λ rest. refl;
  answers = λ s h. ap (λ d. run_answers p.steps (machine_at p p.first d) ++ run_answers p.steps (machine_at p p.second s)) (sym (same s h.0));
  result = λ s h. ap (λ d. run p.steps (machine_at p p.first d)) (sym (same s h.0));
}

-- the same with data that is the same
pub way-same : (p : Problem) (second : Bool) (path consumed given : List Bool) (left : ℕ) (c : Control) (D E : Data → Data)
    → ((s : Data) → Comes p path s → E s ≡ D s) → IsOnWay p second path consumed given left c D → IsOnWay p second path consumed given left c E
way-same p second path consumed given left c D E same way = record {
  path_is = way.path_is;
  control = way.control;
  answers = λ s h. way.answers s h ∙ ap (λ d. consumed ++ (run_answers left (machine_of c d) ++ answers_after p second s)) (sym (same s h));
  result = λ s h. way.result s h ∙ ap (λ d. run left (machine_of c d)) (sym (same s h));
}

-- ---- asks

asks-along : (c : Control) (given : List Bool) (n : ℕ) (q : Question) → OpenQuestion c given q → along (suc n) c given ≡ asking
asks-along c given n q o = ap (after_taken n c) (taken-open (line_questions c) given q o)

after-asking : (p : Problem) (second : Bool) → after_run p second asking ≡ asking
after-asking p false = refl
after-asking p true = refl

abbrev front_of : List Bool → Reached (List Bool) → List Bool
front_of d asking = d
front_of d (reached given rest) = given

-- what the next line and those after it answer
abbrev pub later : ℕ → Machine → List Bool
later n m = elim (line_done m).stop [ Go ↦ run_answers n (line_done m).machine | Ended end ↦ [] ]

-- the next line of a machine that gives these answers
next-is : (c : Control) (d : Data) (given : List Bool) (next : Control) (stop : Stop) → line_answers (machine_of c d) ≡ given → control_done c given ≡ (next, stop)
    → ((line_done (machine_of c d)).machine ≡ machine_of next (data_done c given d)) × ((line_done (machine_of c d)).stop ≡ stop)
next-is c d given next stop own e = (
  ap (λ g. machine_of (control_done c g).0 (data_done c g d)) own ∙ ap (λ r. machine_of r.0 (data_done c given d)) e,
  ap (λ g. (control_done c g).1) own ∙ ap (λ r. r.1) e,
)

module _ {p : Problem} {second : Bool} {path consumed given : List Bool} {c : Control} {D : Data → Data} where
  -- control asks where a question is open
  pub asks-here : (n : ℕ) (q : Question) → IsOnWay p second path consumed given (suc n) c D → OpenQuestion c given q → AsksAfter p path
  asks-here n q way o =
      ap (after_path p) (sym (append-nil path)) ∙ way.control [] ∙ ap (λ g. after_run p second (along (suc n) c g)) (append-nil given)
      ∙ ap (after_run p second) (asks-along c given n q o) ∙ after-asking p second

  -- what a start answers from the next operation on
  shift : (n : ℕ) (s : Data) (g : List Bool) → IsOnWay p second path consumed given (suc n) c D → Comes p path s
      → begins (consumed ++ g) (answers_of_start p s) ≡ begins g (line_answers (machine_of c (D s)) ++ (later n (machine_of c (D s)) ++ answers_after p second s))
  shift n s g way h =
      let m = machine_of c (D s) in
      ap (begins (consumed ++ g)) (way.answers s h ∙ ap (λ r. consumed ++ r) (append_assoc (line_answers m) (later n m) (answers_after p second s)))
      ∙ begins-append consumed g (line_answers m ++ (later n m ++ answers_after p second s))

  given-begins : (n : ℕ) (s : Data) → IsOnWay p second path consumed given (suc n) c D → Comes p path s
      → begins given (line_answers (machine_of c (D s)) ++ (later n (machine_of c (D s)) ++ answers_after p second s)) ≡ true
  given-begins n s way h = sym (shift n s given way h) ∙ ap (λ r. begins r (answers_of_start p s)) (sym way.path_is) ∙ h.1

  -- where all answers are given, they are the start's own
  pub own-is : (n : ℕ) (s : Data) → IsOnWay p second path consumed given (suc n) c D → IsTaken c given → Comes p path s
      → line_answers (machine_of c (D s)) ≡ given
  own-is n s way whole h =
      let m = machine_of c (D s) in
      let split = begins-split given (line_answers m ++ (later n m ++ answers_after p second s)) (given-begins n s way h) in
      ap (front_of []) (sym (taken-answers (line_questions c) (advanced c) (D s) (later n m ++ answers_after p second s)) ∙ ap (taken (line_questions c)) split.1 ∙ whole split.0)

  -- a start goes on with an answer exactly where it is the question's truth
  pub answer-means : (n : ℕ) (q : Question) (a : Bool) (s : Data) → IsOnWay p second path consumed given (suc n) c D → OpenQuestion c given q → Comes p path s
      → begins (path ++ a ∷ []) (answers_of_start p s) ≡ beq a (holds q (advanced c) (D s))
  answer-means n q a s way o h =
      let m = machine_of c (D s) in
      ap (λ r. begins r (answers_of_start p s)) (ap (λ r. r ++ a ∷ []) way.path_is ∙ append_assoc consumed given (a ∷ []))
      ∙ shift n s (given ++ a ∷ []) way h
      ∙ begins-more (line_questions c) given a q (advanced c) (D s) (later n m ++ answers_after p second s) o
      ∙ ap (λ b. b && beq a (holds q (advanced c) (D s))) (given-begins n s way h)

  -- what the start has answered so far are its own answers to the next line
  pub front-own : (n : ℕ) (s : Data) → IsOnWay p second path consumed given (suc n) c D → Comes p path s
      → begins given (line_answers (machine_of c (D s)) ++ (later n (machine_of c (D s)) ++ answers_after p second s)) ≡ true
  front-own n s way h = given-begins n s way h

  -- the answer given
  pub answered : (left : ℕ) (a : Bool) → IsOnWay p second path consumed given left c D → IsOnWay p second (path ++ a ∷ []) consumed (given ++ a ∷ []) left c D
  answered left a way = record {
    path_is = ap (λ r. r ++ a ∷ []) way.path_is ∙ append_assoc consumed given (a ∷ []);
    control = λ rest. ap (after_path p) (append_assoc path (a ∷ []) rest) ∙ way.control (a ∷ rest) ∙ ap (λ r. after_run p second (along left c r)) (sym (append_assoc given (a ∷ []) rest));
    answers = λ s h. way.answers s (h.0, begins-shorter path (a ∷ []) (answers_of_start p s) h.1);
    result = λ s h. way.result s (h.0, begins-shorter path (a ∷ []) (answers_of_start p s) h.1);
  }

  -- a line done, after which the run goes on
  pub line-goes : (n : ℕ) (next : Control) (E : Data → Data) → IsOnWay p second path consumed given (suc n) c D → IsTaken c given → control_done c given ≡ (next, Go)
      → ((s : Data) → Comes p path s → E s ≡ data_done c given (D s))
      → IsOnWay p second path path [] n next E
  line-goes n next E way whole e same = record {
    path_is = sym (append-nil path);
    control = λ rest. way.control rest ∙ ap (after_run p second) (along-line n c next Go (given ++ rest) given rest (whole rest) e);
    answers = λ s h.
        let m = machine_of c (D s) in
        let following = next-is c (D s) given next Go (own-is n s way whole h) e in
        let answered_then : later n m ≡ run_answers n (machine_of next (E s)) =
        ap (λ stop. elim stop [ Go ↦ run_answers n (line_done m).machine | Ended end ↦ [] ]) following.1 ∙ ap (run_answers n) following.0
        ∙ ap (λ d. run_answers n (machine_of next d)) (sym (same s h)) in
        way.answers s h
        ∙ ap (λ r. consumed ++ r) (append_assoc (line_answers m) (later n m) (answers_after p second s))
        ∙ ap (λ r. consumed ++ (r ++ (later n m ++ answers_after p second s))) (own-is n s way whole h)
        ∙ ap (λ r. consumed ++ (given ++ (r ++ answers_after p second s))) answered_then
        ∙ sym (append_assoc consumed given _)
        ∙ ap (λ r. r ++ (run_answers n (machine_of next (E s)) ++ answers_after p second s)) (sym way.path_is);
    result = λ s h.
        let m = machine_of c (D s) in
        let following = next-is c (D s) given next Go (own-is n s way whole h) e in
        way.result s h ∙ run-goes n m following.1 ∙ ap (run n) following.0 ∙ ap (λ d. run n (machine_of next d)) (sym (same s h));
  }

  -- a line done, after which the run is over
  pub line-ends : (n : ℕ) (next : Control) (end : End) (E : Data → Data) → IsOnWay p second path consumed given (suc n) c D → IsTaken c given → control_done c given ≡ (next, Ended end)
      → ((s : Data) → Comes p path s → E s ≡ data_done c given (D s))
      → IsOver p second path (Some end) E
  line-ends n next end E way whole e same = record {
    control = λ rest. way.control rest ∙ ap (after_run p second) (along-line n c next (Ended end) (given ++ rest) given rest (whole rest) e);
    answers = λ s h.
        let m = machine_of c (D s) in
        let following = next-is c (D s) given next (Ended end) (own-is n s way whole h) e in
        let no_more : later n m ≡ [] = ap (λ stop. elim stop [ Go ↦ run_answers n (line_done m).machine | Ended end ↦ [] ]) following.1 in
        way.answers s h
        ∙ ap (λ r. consumed ++ r) (append_assoc (line_answers m) (later n m) (answers_after p second s))
        ∙ ap (λ r. consumed ++ (r ++ (later n m ++ answers_after p second s))) (own-is n s way whole h)
        ∙ ap (λ r. consumed ++ (given ++ (r ++ answers_after p second s))) no_more
        ∙ sym (append_assoc consumed given (answers_after p second s))
        ∙ ap (λ r. r ++ answers_after p second s) (sym way.path_is);
    result = λ s h.
        let m = machine_of c (D s) in
        let following = next-is c (D s) given next (Ended end) (own-is n s way whole h) e in
        ap seen_of_run (way.result s h ∙ run-ends n m end following.1) ∙ ap (λ r. ended end r.contents) following.0 ∙ ap (ended end) (sym (same s h));
  }

-- no line left
pub late-here : (p : Problem) (second : Bool) (path consumed given : List Bool) (c : Control) (D E : Data → Data)
    → IsOnWay p second path consumed given 0 c D → given ≡ [] → IsOver p second path None E
late-here p second path consumed given c D E way none = record {
  control = λ rest. way.control rest ∙ ap (λ g. after_run p second (reached None (g ++ rest))) none;
  answers = λ s h. way.answers s h ∙ ap (λ r. r ++ answers_after p second s) (sym (append-nil consumed) ∙ ap (λ g. consumed ++ g) (sym none) ∙ sym way.path_is);
  result = λ s h. ap seen_of_run (way.result s h);
}

-- the second run begins where the first is over
pub second-begun : (p : Problem) (path : List Bool) (end : Option End) (C D : Data → Data) → IsOver p false path end C
    → ((s : Data) → in_range p s ≡ true → D s ≡ s) → IsOnWay p true path path [] p.steps (first_control p p.second) D
second-begun p path end C D over same = record {
  path_is = sym (append-nil path);
  control = λ rest. over.control rest;
  answers = λ s h. over.answers s h ∙ ap (λ r. path ++ r) (sym (append-nil (run_answers p.steps (machine_at p p.second s))))
      ∙ ap (λ d. path ++ (run_answers p.steps (machine_at p p.second d) ++ [])) (sym (same s h.0));
  result = λ s h. ap (λ d. run p.steps (machine_at p p.second d)) (sym (same s h.0));
}

-- and where both are over, control is over and a start that comes here agrees as its two ends do
pub both-over : (p : Problem) (path : List Bool) (one two : Option End) (C D : Data → Data)
    → ((s : Data) → Comes p path s → seen p p.first s ≡ seen_as one (C s))
    → IsOver p true path two D
    → OverAfter p path × ((s : Data) → Comes p path s → agree p s ≡ agree_on p.observed (seen_as one (C s)) (seen_as two (D s)))
both-over p path one two C D first over = (
  (two, ap (after_path p) (sym (append-nil path)) ∙ over.control []),
  λ s h. ap (λ r. agree_on p.observed r (seen p p.second s)) (first s h) ∙ ap (agree_on p.observed (seen_as one (C s))) (over.result s h),
)

-- a path walked is walked further by an ask
by_order : {G : Type 0} (k n : ℕ) → k < suc n → (k < n → G) → (k ≡ n → G) → G
by_order {G} k n inside less same = by_test (nat_lt k n) refl
  where
    by_test : (b : Bool) → nat_lt k n ≡ b → G
    by_test true e = less (ltb-true k n e)
    by_test false e = same (grind (arith, nat_tests))

pub walked-further : (p : Problem) (path : List Bool) (a : Bool) → IsWalked p path → AsksAfter p path → IsWalked p (path ++ a ∷ [])
walked-further p path a walked asked k inside =
    by_order k (length path) (omega (arith, length-append path (a ∷ [])))
    (λ less. ap (after_path p) (take-append-le k path (a ∷ []) (omega arith)) ∙ walked k less)
    (λ same. ap (after_path p) (ap (λ j. take j (path ++ a ∷ [])) same ∙ take-append_seam path (a ∷ [])) ∙ asked)
