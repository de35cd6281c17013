-- How many gates a walk may have, as its runs go on, with an answer and as it goes back.
use Rattle.std.proofs.Common.{◌≡◌, inl, inr, ℕ, zero, suc, ◌+◌, ◌-◌, ◌*◌, ◌^◌, ◌<◌, ◌≤◌, ◌&&◌, Bool, true, false, cond, List, [], ◌∷◌, ◌++◌, length, take, drop, get_or, Option, Some, None, refl, sym, ap, ◌∙◌, subst, arith, length-drop}
use Rattle.std.specs.Prelude.{All, is_some}
use Rattle.std.proofs.lemmas.List.{length-take-le}
use Rattle.std.proofs.lemmas.List.Elements.{All-push}
use Rattle.hp_model.specs.Questions.{Question, means_error, next_question}
use Rattle.hp_model.specs.Run.{advanced, next_operation}
use Rattle.jd_circuit.specs.declared.literals.Lit.{Lit}
use Rattle.jd_circuit.specs.Net.{Net}
use Rattle.jd_model.specs.Problems.{Problem}
use Rattle.jd_books.specs.Paths.{line_questions}
use Rattle.jd_questions.specs.Questions.{asked_gates, question_gates}
use Rattle.jd_symbolic.specs.declared.machine.SymMachine.{SymMachine}
use Rattle.jd_symbolic.specs.Laws.{questions_gates}
use Rattle.jd_symbolic.specs.Machine.{state_of}
use Rattle.jd_symbolic.proofs.OperationGates.{operation-gates}
use Rattle.jd_walk.specs.declared.runs.Position.{Position}
use Rattle.jd_walk.specs.declared.places.Next.{Next}
use Rattle.jd_walk.specs.declared.places.Next.TheVariants.{Ask as AskNext, Done as DoneNext}
use Rattle.jd_walk.specs.declared.places.FirstEnd.{FirstEnd}
use Rattle.jd_walk.specs.declared.places.Saved.{Saved}
use Rattle.jd_walk.specs.NextLine.{LineAsks}
use Rattle.jd_walk.specs.Rooms.{AreRoomy, HadRoom, HasRoom, HasRoomAt, all_lines, gates_of_first, gates_to_end}
use Rattle.jd_walk.specs.Spots.{FirstGoes, IsWalk, IsWithin, back_to, end_of}
use Rattle.jd_walk.specs.Walked.{most_gates}
use Rattle.jd_walk.proofs.Keeping.{later-end}
use Rattle.jd_walk.proofs.Going.{All-front, All-last, before-back, end-back, length-push, within-end}
use Rattle.jd_walk.proofs.Turning.{rest-is}

none-is-some : {A : Type 0} {a : A} → None ≡ Some a → ⊥
none-is-some h = cc

-- ---- a line

-- the gates of the questions so far and of the next one
asked-more : (qs : List Question) (given : List Bool) (q : Question) → next_question qs given ≡ Some q
    → gates_of_first qs (length given) + question_gates q ≡ gates_of_first qs (suc (length given))
asked-more [] given q h = absurd (none-is-some h)
asked-more (r ∷ qs) [] q h = let same : r ≡ q = cc in let gates : question_gates r ≡ question_gates q = ap question_gates same in omega (arith, gates)
asked-more (r ∷ qs) (b ∷ given) q h = by_stop (means_error r && b) h (asked-more qs given q)
  where
    by_stop : (t : Bool) → cond t None (next_question qs given) ≡ Some q
        → (next_question qs given ≡ Some q → gates_of_first qs (length given) + question_gates q ≡ gates_of_first qs (suc (length given)))
        → gates_of_first (r ∷ qs) (length (b ∷ given)) + question_gates q ≡ gates_of_first (r ∷ qs) (suc (length (b ∷ given)))
    by_stop true e more = absurd (none-is-some e)
    by_stop false e more = let rest = more e in omega (arith, rest)

first-most : (n : ℕ) (qs : List Question) → gates_of_first qs n ≤ questions_gates qs
first-most zero qs = omega arith
first-most (suc n) [] = omega arith
first-most (suc n) (q ∷ qs) = let rest = first-most n qs in omega (arith, rest)

line-most : (m : SymMachine) (n : ℕ) → gates_of_first (line_questions (state_of m)) n + 2 ^ 17 ≤ 2 ^ 18
line-most m n =
    let most = first-most n (line_questions (state_of m)) in
    let all = operation-gates (advanced (state_of m)) (next_operation (state_of m)) in
    omega (arith, most, all)

pub room-fits : (most gates answers : ℕ) (at : Position) → most ≤ all_lines → HasRoom most gates answers at → gates < 2 ^ 29
room-fits most gates answers at few h = let line = line-most at.machine (answers - at.from) in omega (arith, few, h.going, line)

pub room-more : (least most gates answers : ℕ) (at : Position) → least ≤ most → HasRoom least gates answers at → HasRoom most gates answers at
room-more least most gates answers at more h = record { going = omega (arith, more, h.going); over = λ none. (let le = h.over none in omega (arith, more, le)) }

given-length : (from : ℕ) (path : List Bool) → length (take (length path - from) (drop from path)) ≡ length path - from
given-length from path = ap length (rest-is from path) ∙ length-drop from path

module _ (most old new : ℕ) (path : List Bool) (at : Position) (net : Net) (asked : Option Lit) where
  abbrev Given : List Bool
  Given = take (length path - at.from) (drop at.from path)

  -- a question more
  pub room-asked : (l : Lit) → at.from ≤ length path → 0 < at.left → LineAsks net at.machine Given asked → asked ≡ Some l
      → new ≤ old + asked_gates (next_question (line_questions (state_of at.machine)) Given) → HasRoom most old (length path) at → HasRoom most new (length path + 1) at
  room-asked l from left asks is more h =
      let qs = line_questions (state_of at.machine) in
      let ask = asks.some l is in
      let here : asked_gates (next_question qs Given) ≡ question_gates ask.question = ap asked_gates ask.is_open in
      let sum = asked-more qs Given ask.question ask.is_open in
      let now : gates_of_first qs (length Given) ≡ gates_of_first qs (length path - at.from) = ap (gates_of_first qs) (given-length at.from path) in
      let count : suc (length Given) ≡ length path + 1 - at.from = omega (arith, from, given-length at.from path) in
      let then : gates_of_first qs (suc (length Given)) ≡ gates_of_first qs (length path + 1 - at.from) = ap (gates_of_first qs) count in
      record { going = omega (arith, more, here, sum, now, then, h.going); over = λ none. absurd (omega (arith, none, left)) }

  -- a line that asks nothing more adds none
  pub none-asked : LineAsks net at.machine Given asked → asked ≡ None → new ≤ old + asked_gates (next_question (line_questions (state_of at.machine)) Given) → new ≤ old
  none-asked asks is more =
      let here : asked_gates (next_question (line_questions (state_of at.machine)) Given) ≡ 0 = ap asked_gates (asks.none is) in omega (arith, more, here)

-- a line done
pub room-line : (most old new answers : ℕ) (at : Position) (m : SymMachine) → 0 < at.left → new ≤ old + 2 ^ 17 → HasRoom most old answers at
    → HasRoom most new answers (record { machine = m; left = at.left - 1; from = answers })
room-line most old new answers at m left more h =
    let line = line-most at.machine (answers - at.from) in
    record { going = omega (arith, left, more, h.going, line); over = λ none. omega (arith, left, more, h.going, line) }

-- the run's end
pub room-end : (most old new answers : ℕ) (at : Position) → 0 < at.left → new ≤ old + 2 ^ 17 → HasRoom most old answers at → new ≤ most
room-end most old new answers at left more h = let line = line-most at.machine (answers - at.from) in omega (arith, left, more, h.going, line)

-- ---- both runs

pub to-end-few : (p : Problem) (second : Bool) → p.steps ≤ 1000 → gates_to_end p second ≤ all_lines
to-end-few p false few = omega (arith, few)
to-end-few p true few = omega (arith, few)

-- a run begins where the answers so far end
pub room-begun : (most gates answers : ℕ) (at : Position) → gates + at.left * 2 ^ 18 ≤ most → at.from ≡ answers → HasRoom most gates answers at
room-begun most gates answers at most_is from = record { going = omega (arith, most_is); over = λ none. omega (arith, most_is) }

-- fewer gates than a leaf can number
pub roomy-few : (p : Problem) (gates answers : ℕ) (saved : List Saved) (first : Option FirstEnd) (at : Position) (next : Option Next) → p.steps ≤ 1000
    → AreRoomy p gates answers saved first at next → gates < 2 ^ 30
roomy-few p gates answers saved first at None few h =
    let fits = room-fits (gates_to_end p (is_some (end_of first))) gates answers at (to-end-few p (is_some (end_of first)) few) h.here in omega (arith, fits)
roomy-few p gates answers saved first at (Some (AskNext l)) few h =
    let fits = room-fits (gates_to_end p (is_some (end_of first))) gates (answers + 1) at (to-end-few p (is_some (end_of first)) few) h.here in omega (arith, fits)
roomy-few p gates answers saved first at (Some (DoneNext l)) few h = omega (arith, h.here)

-- ---- an answer

longer : (path : List Bool) (a : Bool) → length path + 1 ≡ length (path ++ a ∷ [])
longer path a = let more = length-push path a in omega (arith, more)

room-longer : (most gates : ℕ) (path : List Bool) (a : Bool) (at : Position) → HasRoom most gates (length path + 1) at → HasRoom most gates (length (path ++ a ∷ [])) at
room-longer most gates path a at h = subst (λ n. HasRoom most gates n at) (longer path a) h

pub roomy-yes : (p : Problem) (gates : ℕ) (path : List Bool) (saved : List Saved) (first : Option FirstEnd) (at : Position) (l : Lit) (answer : Bool)
    → AreRoomy p gates (length path) saved first at (Some (AskNext l)) → AreRoomy p gates (length (path ++ answer ∷ [])) saved first at None
roomy-yes p gates path saved first at l answer h =
    record { here = room-longer (gates_to_end p (is_some (end_of first))) gates path answer at h.here; kept = h.kept }

pub roomy-no : (p : Problem) (gates : ℕ) (path : List Bool) (saved : List Saved) (first : Option FirstEnd) (at : Position) (l : Lit) → IsWithin (length path) first
    → AreRoomy p gates (length path) saved first at (Some (AskNext l))
    → AreRoomy p gates (length (path ++ false ∷ [])) (saved ++ record { at = length path; ask = l; mark = record { gates = gates }; position = at } ∷ []) first at None
roomy-no p gates path saved first at l within h = record {
  here = room-longer (gates_to_end p (is_some (end_of first))) gates path false at h.here;
  kept = All-push (HadRoom p first) saved (record { at = length path; ask = l; mark = record { gates = gates }; position = at }) h.kept
      (subst (λ o. HasRoom (gates_to_end p (is_some o)) gates (length path + 1) at) (sym (within-end (length path) first within)) h.here);
}

-- ---- the first run's end

had-room : (p : Problem) (k : ℕ) (old new : Option FirstEnd) (s : Saved) → s.at < k → FirstGoes k old new → HadRoom p old s → HadRoom p new s
had-room p k old new s inside (inl same) h = subst (λ f. HadRoom p f s) (sym same) h
had-room p k old None s inside (inr now) h = absurd now.1
had-room p k old (Some f) s inside (inr now) h =
    subst (λ o. HasRoom (gates_to_end p (is_some o)) s.mark.gates (s.at + 1) s.position) (sym (later-end s.at f (omega (arith, inside, now.1)))) (subst (λ o. HadRoom p o s) now.0 h)

pub kept-goes : (p : Problem) (k : ℕ) (old new : Option FirstEnd) (saved : List Saved) → All (λ s. s.at < k) saved → FirstGoes k old new → All (HadRoom p old) saved → All (HadRoom p new) saved
kept-goes p k old new saved inside goes h = λ i d below. had-room p k old new (get_or saved i d) (inside i d below) goes (h i d below)

-- ---- back

pub roomy-back : (p : Problem) (gates : ℕ) (path : List Bool) (saved : List Saved) (s : Saved) (first : Option FirstEnd) (answers : ℕ) (at : Position) (next : Option Next)
    → s.at < length path → All (λ x. x.at < s.at) saved → AreRoomy p gates answers (saved ++ s ∷ []) first at next
    → AreRoomy p s.mark.gates (length (take s.at path ++ true ∷ [])) saved (back_to s.at first) s.position None
roomy-back p gates path saved s first answers at next inside before h =
    let last : HadRoom p first s = All-last (HadRoom p first) saved s h.kept in
    let count : length (take s.at path) ≡ s.at = length-take-le s.at path (omega (arith, inside)) in
    let kept : All (HadRoom p first) saved = All-front (HadRoom p first) saved (s ∷ []) h.kept in
    record {
      here = room-longer (gates_to_end p (is_some (end_of (back_to s.at first)))) s.mark.gates (take s.at path) true s.position
          (subst (λ n. HasRoom (gates_to_end p (is_some (end_of (back_to s.at first)))) s.mark.gates (n + 1) s.position) (sym count)
          (subst (λ o. HasRoom (gates_to_end p (is_some o)) s.mark.gates (s.at + 1) s.position) (end-back s.at first) last));
      kept = λ i d below. back-room (get_or saved i d) (before i d below) (kept i d below);
    }
  where
    back-room : (x : Saved) → x.at < s.at → HadRoom p first x → HadRoom p (back_to s.at first) x
    back-room x earlier had = subst (λ o. HasRoom (gates_to_end p (is_some o)) x.mark.gates (x.at + 1) x.position) (before-back x.at s.at first earlier) had

-- ---- what comes next

-- the gates where `next` has said what comes
pub next-few : (p : Problem) (second : Bool) (gates answers : ℕ) (at : Position) (n : Next) → HasRoomAt p second (most_gates p) gates answers at (Some n) → gates ≤ most_gates p
next-few p second gates answers at (AskNext l) h = asked-few second h
  where
    asked-few : (second : Bool) → HasRoom (gates_to_end p second) gates (answers + 1) at → gates ≤ most_gates p
    asked-few false h = let line = line-most at.machine (answers + 1 - at.from) in few-first at.left h.over (omega (arith, h.going, line))
      where
        few-first : (left : ℕ) → (left ≡ 0 → gates ≤ (p.steps + 1) * 2 ^ 18) → gates + left * 2 ^ 18 ≤ (p.steps + 1) * 2 ^ 18 + 2 ^ 17 → gates ≤ most_gates p
        few-first zero over going = omega (arith, over refl)
        few-first (suc left) over going = omega (arith, going)
    asked-few true h = let line = line-most at.machine (answers + 1 - at.from) in few-second at.left h.over (omega (arith, h.going, line))
      where
        few-second : (left : ℕ) → (left ≡ 0 → gates ≤ (2 * p.steps + 1) * 2 ^ 18) → gates + left * 2 ^ 18 ≤ (2 * p.steps + 1) * 2 ^ 18 + 2 ^ 17 → gates ≤ most_gates p
        few-second zero over going = omega (arith, over refl)
        few-second (suc left) over going = omega (arith, going)
next-few p second gates answers at (DoneNext l) h = h

pub roomy-next : (p : Problem) (gates : ℕ) (path : List Bool) (old : Net) (assumed guards : List Lit) (saved : List Saved) (first now : Option FirstEnd) (before at : Position) (n : Next) → p.steps ≤ 1000
    → IsWalk p old path assumed guards saved first before None → FirstGoes (length path) first now
    → HasRoomAt p (is_some (end_of now)) (most_gates p) gates (length path) at (Some n) → AreRoomy p (length old.gates) (length path) saved first before None
    → AreRoomy p gates (length path) saved now at (Some n)
roomy-next p gates path old assumed guards saved first now before at n few walk goes room h = record {
  here = more n room;
  kept = kept-goes p (length path) first now saved (λ i d below. (walk.kept i d below).inside) goes h.kept;
}
  where
    more : (n : Next) → HasRoomAt p (is_some (end_of now)) (most_gates p) gates (length path) at (Some n) → HasRoomAt p (is_some (end_of now)) (2 ^ 29 + 2 ^ 27) gates (length path) at (Some n)
    more (AskNext l) r = r
    more (DoneNext l) r = omega (arith, few, r)
