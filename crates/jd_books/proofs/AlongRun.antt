-- Control along a start's own answers goes where its runs go.
use Rattle.std.proofs.Common.{◌≡◌, ℕ, zero, suc, ◌&&◌, Bool, true, false, cond, List, [], ◌∷◌, ◌++◌, Option, Some, refl, sym, ap, ◌∙◌, append_assoc, append-nil}
use Rattle.hp_model.specs.declared.End.{End}
use Rattle.hp_model.specs.declared.Stop.{Stop}
use Rattle.hp_model.specs.declared.Stop.TheVariants.{Go, Ended}
use Rattle.hp_model.specs.State.{Control, Data, Machine}
use Rattle.hp_model.specs.Questions.{Question, means_error, holds, answers_to}
use Rattle.hp_model.specs.Run.{advanced, control_done, line_answers, line_done, run, run_answers}
use Rattle.jd_model.specs.Problems.{Problem}
use Rattle.jd_model.specs.Seen.{machine_at}
use Rattle.jd_books.specs.Paths.{line_questions, Reached, asking, reached, after_answer, taken, along, second_along, after_path, answers_of_start}

-- ---- the answers to an operation's questions

pub taken-answers : (qs : List Question) (c : Control) (d : Data) (rest : List Bool) → taken qs (answers_to qs c d ++ rest) ≡ reached (answers_to qs c d) rest
taken-answers [] c d rest = refl
taken-answers (q ∷ qs) c d rest = by_error (means_error q && holds q c d) (taken-answers qs c d rest)
  where
    by_error : (e : Bool) → taken qs (answers_to qs c d ++ rest) ≡ reached (answers_to qs c d) rest
        → cond e (reached (holds q c d ∷ []) ((cond e [] (answers_to qs c d)) ++ rest)) (after_answer (holds q c d) (taken qs ((cond e [] (answers_to qs c d)) ++ rest)))
        ≡ reached (holds q c d ∷ cond e [] (answers_to qs c d)) rest
    by_error true more = refl
    by_error false more = ap (after_answer (holds q c d)) more

-- ---- a run

-- what follows a line with this stop
abbrev pub follows : ℕ → Control → Stop → List Bool → Reached (Option End)
follows n c stop rest = elim stop [ Go ↦ along n c rest | Ended end ↦ reached (Some end) rest ]

abbrev pub after_taken : ℕ → Control → Reached (List Bool) → Reached (Option End)
after_taken n c r = elim r [ asking ↦ asking | reached given rest ↦ follows n (control_done c given).0 (control_done c given).1 rest ]

pub along-line : (n : ℕ) (c next : Control) (stop : Stop) (path given rest : List Bool)
    → taken (line_questions c) path ≡ reached given rest → control_done c given ≡ (next, stop)
    → along (suc n) c path ≡ follows n next stop rest
along-line n c next stop path given rest e f =
    ap (after_taken n c) e ∙ ap {B = Reached (Option End)} (λ r. follows n r.0 r.1 rest) f

pub along-run : (n : ℕ) (m : Machine) (rest : List Bool) → along n m.control (run_answers n m ++ rest) ≡ reached (run n m).0 rest
along-run zero m rest = refl
along-run (suc n) m rest =
    let next = (line_done m).machine in
    let more : List Bool = elim (line_done m).stop [ Go ↦ run_answers n next | Ended end ↦ [] ] in
    ap (along (suc n) m.control) (append_assoc (line_answers m) more rest)
    ∙ along-line n m.control next.control (line_done m).stop (line_answers m ++ (more ++ rest)) (line_answers m) (more ++ rest)
    (taken-answers (line_questions m.control) (advanced m.control) m.contents (more ++ rest)) refl
    ∙ by_stop (line_done m).stop next (along-run n next rest)
  where
    by_stop : (stop : Stop) (next : Machine) → along n next.control (run_answers n next ++ rest) ≡ reached (run n next).0 rest
        → follows n next.control stop ((elim stop [ Go ↦ run_answers n next | Ended end ↦ [] ]) ++ rest)
        ≡ reached ((elim stop as (λ _. Option End × Machine) [ Go ↦ run n next | Ended end ↦ (Some end, next) ]).0) rest
    by_stop Go next more = more
    by_stop (Ended end) next more = refl

-- ---- both runs

pub after-own : (p : Problem) (s : Data) → after_path p (answers_of_start p s) ≡ reached (run p.steps (machine_at p p.second s)).0 []
after-own p s =
    let one = machine_at p p.first s in
    let two = machine_at p p.second s in
    ap (second_along p) (along-run p.steps one (run_answers p.steps two))
    ∙ ap (along p.steps two.control) (sym (append-nil (run_answers p.steps two)))
    ∙ along-run p.steps two []
