-- Control along a path goes on along a longer one; so a start that comes to a path at which both runs are over gives just that path.
use Rattle.std.proofs.Common.{◌≡◌, ℕ, zero, suc, ◌&&◌, Bool, true, false, cond, List, [], ◌∷◌, ◌++◌, Option, refl, sym, ap, ◌∙◌, append-nil}
use Rattle.hp_model.specs.declared.End.{End}
use Rattle.hp_model.specs.declared.Stop.{Stop}
use Rattle.hp_model.specs.declared.Stop.TheVariants.{Go, Ended}
use Rattle.hp_model.specs.State.{Control, Data}
use Rattle.hp_model.specs.Questions.{Question, means_error}
use Rattle.hp_model.specs.Run.{control_done, run}
use Rattle.jd_model.specs.Problems.{Problem}
use Rattle.jd_model.specs.Seen.{first_control, machine_at}
use Rattle.jd_books.specs.Paths.{line_questions, Reached, asking, reached, after_answer, taken, along, second_along, after_path, OverAfter, answers_of_start, begins}
use Rattle.jd_books.proofs.Fronts.{begins-split}
use Rattle.jd_books.proofs.AlongRun.{after-own, follows, after_taken, along-line}

taken-longer : (qs : List Question) (path given left rest : List Bool) → taken qs path ≡ reached given left → taken qs (path ++ rest) ≡ reached given (left ++ rest)
taken-longer [] path given left rest h = cc
taken-longer (q ∷ qs) [] given left rest h = cc
taken-longer (q ∷ qs) (answer ∷ path) given left rest h = by_error (means_error q && answer) h (λ g l e. taken-longer qs path g l rest e)
  where
    by_taken : (r longer : Reached (List Bool)) → ((g l : List Bool) → r ≡ reached g l → longer ≡ reached g (l ++ rest))
        → after_answer answer r ≡ reached given left → after_answer answer longer ≡ reached given (left ++ rest)
    by_taken asking longer more h = cc
    by_taken (reached g l) longer more h =
        let e : longer ≡ reached g (l ++ rest) = more g l refl in
        let one : answer ∷ g ≡ given = cc in
        let two : l ≡ left = cc in
        ap (after_answer answer) e ∙ ap (λ r. reached r (l ++ rest)) one ∙ ap (λ r. reached given (r ++ rest)) two

    by_error : (e : Bool) → cond e (reached (answer ∷ []) path) (after_answer answer (taken qs path)) ≡ reached given left
        → ((g l : List Bool) → taken qs path ≡ reached g l → taken qs (path ++ rest) ≡ reached g (l ++ rest))
        → cond e (reached (answer ∷ []) (path ++ rest)) (after_answer answer (taken qs (path ++ rest))) ≡ reached given (left ++ rest)
    by_error true h more = cc
    by_error false h more = by_taken (taken qs path) (taken qs (path ++ rest)) more h

along-longer : (n : ℕ) (c : Control) (path : List Bool) (end : Option End) (left rest : List Bool) → along n c path ≡ reached end left → along n c (path ++ rest) ≡ reached end (left ++ rest)
along-longer zero c path end left rest h = cc
along-longer (suc n) c path end left rest h = by_taken (taken (line_questions c) path) refl (λ next q e. along-longer n next q end left rest e)
  where
    by_stop : (next : Control) (stop : Stop) (q : List Bool) → (along n next q ≡ reached end left → along n next (q ++ rest) ≡ reached end (left ++ rest))
        → follows n next stop q ≡ reached end left → follows n next stop (q ++ rest) ≡ reached end (left ++ rest)
    by_stop next Go q more h = more h
    by_stop next (Ended e) q more h = cc

    by_taken : (r : Reached (List Bool)) → taken (line_questions c) path ≡ r
        → ((next : Control) (q : List Bool) → along n next q ≡ reached end left → along n next (q ++ rest) ≡ reached end (left ++ rest))
        → along (suc n) c (path ++ rest) ≡ reached end (left ++ rest)
    by_taken asking t more = let e : along (suc n) c path ≡ asking = ap (after_taken n c) t in cc
    by_taken (reached given q) t more =
        let next = (control_done c given).0 in
        let stop = (control_done c given).1 in
        along-line n c next stop (path ++ rest) given (q ++ rest) (taken-longer (line_questions c) path given q rest t) refl
        ∙ by_stop next stop q (more next q) (sym (along-line n c next stop path given q t refl) ∙ h)

pub over-longer : (p : Problem) (path rest : List Bool) (end : Option End) → after_path p path ≡ reached end [] → after_path p (path ++ rest) ≡ reached end rest
over-longer p path rest end h = by_first (along p.steps (first_control p p.first) path) refl h
  where
    by_first : (r : Reached (Option End)) → along p.steps (first_control p p.first) path ≡ r → second_along p r ≡ reached end []
        → second_along p (along p.steps (first_control p p.first) (path ++ rest)) ≡ reached end rest
    by_first asking t h = cc
    by_first (reached one left) t h =
        ap (second_along p) (along-longer p.steps (first_control p p.first) path one left rest t) ∙ along-longer p.steps (first_control p p.second) left end [] rest h

-- a start that comes to a path at which both runs are over gives just these answers
pub over-own : (p : Problem) (path : List Bool) (s : Data) → OverAfter p path → begins path (answers_of_start p s) ≡ true → answers_of_start p s ≡ path
over-own p path s over b =
    let split = begins-split path (answers_of_start p s) b in
    let last = (run p.steps (machine_at p p.second s)).0 in
    let one : reached last [] ≡ reached over.0 split.0 = sym (after-own p s) ∙ ap (after_path p) split.1 ∙ over-longer p path split.0 over.0 over.1 in
    let none : split.0 ≡ [] = cc in
    split.1 ∙ ap (λ r. path ++ r) none ∙ append-nil path
