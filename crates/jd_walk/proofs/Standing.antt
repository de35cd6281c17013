-- Where a walk stands: more gates, an answer more, the second run, and the leaf there.
use Rattle.std.proofs.Common.{◌≡◌, ℕ, ◌+◌, ◌<◌, ◌≤◌, ◌&&◌, Bool, true, false, List, [], ◌∷◌, ◌++◌, length, take, drop, Option, Some, None, refl, sym, ap, ◌∙◌, subst, arith, length-append, append_assoc}
use Rattle.std.specs.Prelude.{All, is_some}
use Rattle.std.proofs.lemmas.List.{take-append-le}
use Rattle.std.proofs.lemmas.List.Elements.{All-head, All-tail, All-push}
use Rattle.std.proofs.lemmas.List.Folds.{list_all-append}
use Rattle.hp_model.specs.State.{Data}
use Rattle.hp_model.specs.Questions.{Question, next_question}
use Rattle.jd_circuit.specs.declared.literals.Lit.{Lit}
use Rattle.jd_circuit.specs.declared.literals.Lit.TheVariants.{Const, Var, Not}
use Rattle.jd_circuit.specs.Net.{Net, IsLit, IsWired, Grows, variables, eval}
use Rattle.jd_circuit.proofs.Values.{grows_keeps}
use Rattle.jd_circuit.proofs.SimpleGates.{value-opposite}
use Rattle.jd_model.specs.Problems.{Problem, bits}
use Rattle.jd_text.proofs.Tests.{right-part}
use Rattle.jd_model.specs.Problems.{in_range, allows}
use Rattle.jd_trees.specs.declared.Kind.{Kind}
use Rattle.jd_trees.specs.declared.Kind.TheVariants.{Whole, Cut}
use Rattle.jd_books.specs.Paths.{line_questions, taken, reached, begins, answers_of_start}
use Rattle.jd_books.specs.Walks.{Comes, IsOnWay}
use Rattle.jd_books.specs.Leaves.{all_hold, IsFaithful}
use Rattle.jd_books.proofs.Fronts.{begins-longer, begins-shorter}
use Rattle.jd_books.proofs.Walking.{walked-further, answered}
use Rattle.jd_books.proofs.Asking.{taken-whole}
use Rattle.jd_books.proofs.SoundTree.{length-bits}
use Rattle.jd_symbolic.specs.Machine.{val_of, state_of}
use Rattle.jd_walk.specs.declared.places.RunEnd.{RunEnd}
use Rattle.jd_walk.specs.declared.runs.Position.{Position}
use Rattle.jd_walk.specs.Spots.{IsFor, data_at, IsReady, IsAt, IsAsk, FirstHolds, IsSpot, IsRun, IsAskHere, IsDoneHere}
use Rattle.jd_walk.specs.Walked.{guard_of}
use Rattle.jd_walk.proofs.Answering.{drop-push, placed-answered}
use Rattle.jd_walk.proofs.Turning.{for-grown}

-- ---- a guard more

guard-inside : (n : ℕ) (l : Lit) (a : Bool) → IsLit n l → IsLit n (guard_of l a)
guard-inside n l true h = h
guard-inside n (Const b) false h = h
guard-inside n (Var v) false h = h
guard-inside n (Not v) false h = h

-- a start that comes here goes on with an answer exactly where its guard is true
guard-means : (p : Problem) (net : Net) (path : List Bool) (l : Lit) (a : Bool) (s : Data) → IsAsk p net path l → Comes p path s
    → eval net (bits p s) (guard_of l a) ≡ begins (path ++ a ∷ []) (answers_of_start p s)
guard-means p net path l true s ask h = sym (ask.means s h)
guard-means p net path l false s ask h = value-opposite (val_of net (bits p s)) l ∙ sym (ask.means_not s h)

guards-more : (p : Problem) (net : Net) (path : List Bool) (assumed guards : List Lit) (l : Lit) (a : Bool) (s : Data) → IsAsk p net path l → in_range p s ≡ true
    → all_hold net (assumed ++ guards) (bits p s) ≡ (allows p s && begins path (answers_of_start p s))
    → all_hold net (assumed ++ (guards ++ guard_of l a ∷ [])) (bits p s) ≡ (allows p s && begins (path ++ a ∷ []) (answers_of_start p s))
guards-more p net path assumed guards l a s ask ranged h =
    ap (λ ls. all_hold net ls (bits p s)) (sym (append_assoc assumed guards (guard_of l a ∷ [])))
    ∙ list_all-append (eval net (bits p s)) (assumed ++ guards) (guard_of l a ∷ []) ∙ ap (λ b. b && (eval net (bits p s) (guard_of l a) && true)) h
    ∙ by_begun (allows p s) (begins path (answers_of_start p s)) refl
  where
    and-true : (b : Bool) → (b && true) ≡ b
    and-true true = refl
    and-true false = refl

    by_begun : (c b : Bool) → begins path (answers_of_start p s) ≡ b → ((c && b) && (eval net (bits p s) (guard_of l a) && true)) ≡ (c && begins (path ++ a ∷ []) (answers_of_start p s))
    by_begun false b e = refl
    by_begun true false e = sym (begins-longer path (a ∷ []) (answers_of_start p s) e)
    by_begun true true e = and-true (eval net (bits p s) (guard_of l a)) ∙ guard-means p net path l a s ask (ranged, e)

-- ---- an answer

at-answered : (p : Problem) (second : Bool) (net : Net) (path : List Bool) (at : Position) (q : Question) (a : Bool) → at.from ≤ length path → 0 < at.left
    → next_question (line_questions (state_of at.machine)) (drop at.from path) ≡ Some q → IsAt p second net path at → IsAt p second net (path ++ a ∷ []) at
at-answered p second net path at q a from left is_open h =
    let front : take at.from (path ++ a ∷ []) ≡ take at.from path = take-append-le at.from path (a ∷ []) from in
    let rest : drop at.from (path ++ a ∷ []) ≡ drop at.from path ++ a ∷ [] = drop-push at.from path a from in
    record {
      way = subst (λ g. IsOnWay p second (path ++ a ∷ []) g (drop at.from (path ++ a ∷ [])) at.left (state_of at.machine) (data_at p net at.machine.content)) (sym front)
          (subst (λ g. IsOnWay p second (path ++ a ∷ []) (take at.from path) g at.left (state_of at.machine) (data_at p net at.machine.content)) (sym rest) (answered at.left a h.way));
      ready = subst (λ g. IsReady (state_of at.machine) g) (sym rest) (λ none more. ready-more none more);
      none_left = λ e. absurd (omega (arith, e, left));
    }
  where
    ready-more : next_question (line_questions (state_of at.machine)) (drop at.from path ++ a ∷ []) ≡ None → (more : List Bool)
        → taken (line_questions (state_of at.machine)) ((drop at.from path ++ a ∷ []) ++ more) ≡ reached (drop at.from path ++ a ∷ []) more
    ready-more none more =
        ap (taken (line_questions (state_of at.machine))) (append_assoc (drop at.from path) (a ∷ []) more)
        ∙ taken-whole (line_questions (state_of at.machine)) (drop at.from path) a more q is_open none

first-longer : (p : Problem) (net : Net) (path : List Bool) (a : Bool) (first : Option RunEnd) → FirstHolds p net path first → FirstHolds p net (path ++ a ∷ []) first
first-longer p net path a None h = tt
first-longer p net path a (Some first) h = record { inside = h.inside; ends = λ s c. h.ends s (c.0, begins-shorter path (a ∷ []) (answers_of_start p s) c.1) }

pub spot-answered : (p : Problem) (net : Net) (path : List Bool) (assumed guards : List Lit) (at : Position) (l : Lit) (a : Bool)
    → IsSpot p net path assumed guards → IsAskHere p net path at l → IsSpot p net (path ++ a ∷ []) assumed (guards ++ guard_of l a ∷ [])
spot-answered p net path assumed guards at l a h asked = record {
  inputs = h.inputs;
  walked = walked-further p path a h.walked asked.ask.asks;
  inside = subst (All (IsLit (variables net))) (append_assoc assumed guards (guard_of l a ∷ []))
      (All-push (IsLit (variables net)) (assumed ++ guards) (guard_of l a) h.inside (guard-inside (variables net) l a asked.ask.inside));
  count = length-append guards (guard_of l a ∷ []) ∙ ap (λ n. n + 1) h.count ∙ sym (length-append path (a ∷ []));
  guarded = λ s ranged. guards-more p net path assumed guards l a s asked.ask ranged (h.guarded s ranged);
}

pub run-answered : (p : Problem) (net : Net) (path : List Bool) (first : Option RunEnd) (at : Position) (l : Lit) (a : Bool)
    → IsRun p net path first at → IsAskHere p net path at l → IsRun p net (path ++ a ∷ []) first at
run-answered p net path first at l a h asked = record {
  placed = placed-answered net path at asked.question a asked.is_open h.placed;
  memory = h.memory;
  run = at-answered p (is_some first) net path at asked.question a h.placed.from asked.some_left asked.is_open h.run;
  first_end = first-longer p net path a first h.first_end;
}

-- ---- the leaf of a path

pub leaf-here : (p : Problem) (net : Net) (path : List Bool) (assumed guards : List Lit) (diff : Lit) (kind : Kind) → IsWired net.inputs net.gates
    → IsSpot p net path assumed guards → IsLit (variables net) diff → (kind ≡ Whole → IsDoneHere p net path diff) → (kind ≡ Cut → diff ≡ Const true)
    → IsFaithful p (record { path = path; inputs = net.inputs; gates = net.gates; guards = assumed ++ guards; diff = diff; kind = kind })
leaf-here p net path assumed guards diff kind wired h inside whole cut = record {
  inputs = h.inputs.inputs;
  leaf = record { gates = wired; literals = All-push (IsLit (variables net)) (assumed ++ guards) diff h.inside inside };
  walked = h.walked;
  guards = h.guarded;
  whole = λ k s ranged g.
      (let comes : begins path (answers_of_start p s) ≡ true = right-part (allows p s) (begins path (answers_of_start p s)) (sym (h.guarded s ranged) ∙ g) in
      record { over = (whole k).over; differs = (whole k).differs s (ranged, comes) });
  cut = cut;
}

-- ---- more gates

All-grown : (old new : Net) (ls : List Lit) → Grows old new → All (IsLit (variables old)) ls → All (IsLit (variables new)) ls
All-grown old new ls grows all = λ k d inside. let h = all k d inside in (h.0, omega (arith, h.1, grows.inputs, grows.more))

holds-grown : (p : Problem) (old new : Net) (ls : List Lit) (s : Data) → IsFor p old → Grows old new → All (IsLit (variables old)) ls → in_range p s ≡ true
    → all_hold new ls (bits p s) ≡ all_hold old ls (bits p s)
holds-grown p old new [] s n grows all allowed = refl
holds-grown p old new (l ∷ ls) s n grows all allowed =
    ap (λ b. b && all_hold new ls (bits p s)) (grows_keeps old new (bits p s) l grows (length-bits p s allowed ∙ sym n.inputs) (All-head (IsLit (variables old)) l ls all))
    ∙ ap (λ b. eval old (bits p s) l && b) (holds-grown p old new ls s n grows (All-tail (IsLit (variables old)) l ls all) allowed)

pub spot-grown : (p : Problem) (old new : Net) (path : List Bool) (assumed guards : List Lit)
    → Grows old new → IsSpot p old path assumed guards → IsSpot p new path assumed guards
spot-grown p old new path assumed guards grows h = record {
  inputs = for-grown p old new grows h.inputs;
  walked = h.walked;
  inside = All-grown old new (assumed ++ guards) grows h.inside;
  count = h.count;
  guarded = λ s ranged. holds-grown p old new (assumed ++ guards) s h.inputs grows h.inside ranged ∙ h.guarded s ranged;
}
