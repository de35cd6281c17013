-- What comes next on a path.
use Rattle.std.proofs.Common.{◌≡◌, inl, inr, ℕ, zero, suc, Bool, true, false, List, [], ◌∷◌, ◌++◌, length, map, Option, Some, None, refl, sym, ap, ◌∙◌, subst, arith}
use Rattle.std.specs.Prelude.{All, ◌&&◌}
use Rattle.std.specs.List.{list_all}
use Rattle.std.proofs.lemmas.Bool.{false≢true}
use Rattle.std.proofs.lemmas.List.Elements.{All-nil}
use Rattle.std.proofs.Common.{append-nil}
use Rattle.hp_model.specs.State.{Data}
use Rattle.jd_circuit.specs.declared.literals.Lit.{Lit}
use Rattle.jd_circuit.specs.Meaning.{lit_value}
use Rattle.jd_circuit.specs.Net.{Net, Grows, IsLit, IsWired, Solves, variables}
use Rattle.jd_model.specs.Problems.{in_range, allows}
use Rattle.jd_model.specs.Assumptions.{holds, meets}
use Rattle.jd_books.specs.Leaves.{all_hold}
use Rattle.jd_books.specs.Paths.{begins, answers_of_start}
use Rattle.jd_model.specs.Problems.{Problem, bits}
use Rattle.jd_books.specs.Walks.{Comes}
use Rattle.jd_text.proofs.Tests.{right-part}
use Rattle.jd_vectors.specs.Number.{Inside}
use Rattle.jd_content.specs.Meaning.{data_on}
use Rattle.jd_symbolic.specs.declared.machine.SymMachine.{SymMachine}
use Rattle.jd_symbolic.specs.Machine.{val_of}
use Rattle.jd_walk.specs.declared.runs.Position.{Position}
use Rattle.jd_walk.specs.declared.places.FirstEnd.{FirstEnd}
use Rattle.jd_walk.specs.declared.places.Next.{Next}
use Rattle.jd_walk.specs.declared.places.Next.TheVariants.{Ask, Done}
use Rattle.jd_walk.specs.declared.places.Saved.{Saved}
use Rattle.jd_walk.specs.Spots.{IsFor, IsBegun, data_at, IsSpot, IsRun, IsWithin, NextHolds, FirstGoes, IsSaved, IsWalk, end_of}
use Rattle.jd_walk.specs.Walked.{AnsweredNo, AreAssumptions, NextIs, is_done}
use Rattle.jd_walk.proofs.Standing.{spot-grown}
use Rattle.jd_walk.proofs.Turning.{for-grown, solves-start}
use Rattle.jd_walk.proofs.Keeping.{saved-grown, saved-over}
use Rattle.jd_walk.proofs.Ends.{begun-grown, first-run}

-- what a walk keeps
kept-first : (p : Problem) (net : Net) (path : List Bool) (assumed guards : List Lit) (old new : Option FirstEnd) (s : Saved) → FirstGoes (length path) old new
    → IsSaved p net path assumed guards old s → IsSaved p net path assumed guards new s
kept-first p net path assumed guards old new s (inl same) h = subst (λ f. IsSaved p net path assumed guards f s) (sym same) h
kept-first p net path assumed guards old None s (inr now) h = absurd now.1
kept-first p net path assumed guards old (Some f) s (inr now) h = saved-over p net path assumed guards f s now.1 (subst (λ o. IsSaved p net path assumed guards o s) now.0 h)

within-first : (k : ℕ) (old new : Option FirstEnd) → FirstGoes k old new → IsWithin k old → IsWithin k new
within-first k old new (inl same) h = subst (IsWithin k) (sym same) h
within-first k old None (inr now) h = absurd now.1
within-first k old (Some f) (inr now) h = omega (arith, now.1)

pub walk-next : (p : Problem) (old new : Net) (path : List Bool) (assumed guards : List Lit) (saved : List Saved) (first now : Option FirstEnd) (before at : Position) (n : Next)
    → IsWalk p old path assumed guards saved first before None → Grows old new → FirstGoes (length path) first now
    → (is_done (Some n) ≡ false → IsRun p new path (end_of now) at) → NextHolds p new path at (Some n) → IsWalk p new path assumed guards saved now at (Some n)
walk-next p old new path assumed guards saved first now before at n h grows goes run said = record {
  spot = spot-grown p old new path assumed guards grows h.spot;
  run = run;
  said = said;
  within = within-first (length path) first now goes h.within;
  kept = λ k d inside. kept-first p new path assumed guards first now _ goes (saved-grown p old new path assumed guards first _ grows (h.kept k d inside));
  at_noes = h.at_noes;
  marks = h.marks;
}

-- a start on whose bits the guards are true comes here
pub comes-here : (p : Problem) (net : Net) (path : List Bool) (assumed guards : List Lit) (s : Data) → IsSpot p net path assumed guards → in_range p s ≡ true
    → all_hold net (assumed ++ guards) (bits p s) ≡ true → Comes p path s
comes-here p net path assumed guards s h ranged held =
    (ranged, right-part (allows p s) (begins path (answers_of_start p s)) (sym (h.guarded s ranged) ∙ held))

pub next-is : (p : Problem) (net : Net) (path : List Bool) (assumed guards : List Lit) (at : Position) (next : Option Next) (noes : List AnsweredNo) (spent : Bool) (n : Next) → IsSpot p net path assumed guards → NextHolds p net path at (Some n)
    → NextIs (record { problem = p; net = net; path = path; guards = assumed ++ guards; next = next; noes = noes; spent = spent }) n
next-is p net path assumed guards at next noes spent (Ask l) spot h = record {
  asks = h.ask.asks;
  means = λ s ranged held. sym (h.ask.means s (comes-here p net path assumed guards s spot ranged held));
}
next-is p net path assumed guards at next noes spent (Done l) spot h = record {
  over = h.over;
  means = λ s ranged held. h.differs s (comes-here p net path assumed guards s spot ranged held);
}

-- ---- where a walk begins

-- literals of a circuit, one by one
All-inside : (n : ℕ) (ls : List Lit) → Inside n ls → All (IsLit n) ls
All-inside n [] h = All-nil (IsLit n)
All-inside n (l ∷ ls) h = cons (All-inside n ls (record { from_one = omega (arith, h.from_one); to_last = omega (arith, h.to_last) }))
  where
    cons : All (IsLit n) ls → All (IsLit n) (l ∷ ls)
    cons rest zero d inside = (omega (arith, h.from_one), omega (arith, h.to_last))
    cons rest (suc k) d inside = rest k d (omega (arith, inside))

-- all literals are true where all of what they mean holds
all-same : {A B : Type 0} (f : A → Bool) (g : B → Bool) (xs : List A) (ys : List B) → map f xs ≡ map g ys → list_all f xs ≡ list_all g ys
all-same f g [] [] e = refl
all-same f g [] (y ∷ ys) e = cc
all-same f g (x ∷ xs) [] e = cc
all-same f g (x ∷ xs) (y ∷ ys) e =
    let first : f x ≡ g y = cc in
    let rest : map f xs ≡ map g ys = cc in
    ap (λ b. b && list_all f xs) first ∙ ap (λ b. g y && b) (all-same f g xs ys rest)

-- literals mean what a problem assumes of the start of a machine
abbrev pub Means : Problem → Net → SymMachine → List Lit → Type 0
Means p net m assumed = (val : ℕ → Bool) → Solves net val → map (lit_value val) assumed ≡ map (λ a. holds a (data_on val m.content)) p.assumed

begun-guarded : (p : Problem) (net : Net) (assumed : List Lit) (m : SymMachine) → IsFor p net → IsWired net.inputs net.gates → ((s : Data) → in_range p s ≡ true → data_at p net m.content s ≡ s)
    → Means p net m assumed
    → (s : Data) → in_range p s ≡ true → all_hold net (assumed ++ []) (bits p s) ≡ (allows p s && begins [] (answers_of_start p s))
begun-guarded p net assumed m n wired same means s ranged =
    let val = val_of net (bits p s) in
    ap (λ ls. all_hold net ls (bits p s)) (append-nil assumed)
    ∙ all-same (lit_value val) (λ a. holds a (data_on val m.content)) assumed p.assumed (means val (solves-start p net s n.inputs wired ranged)) ∙ ap (meets p.assumed) (same s ranged)
    ∙ and-both (in_range p s) (meets p.assumed s) ranged
  where
    and-both : (a b : Bool) → a ≡ true → b ≡ ((a && b) && true)
    and-both true true e = refl
    and-both true false e = refl
    and-both false b e = absurd (false≢true e)

-- the guards of a new walk are the assumptions, one by one
pub begun-assumed : (p : Problem) (net : Net) (path : List Bool) (assumed guards : List Lit) (next : Option Next) (noes : List AnsweredNo) (spent : Bool) (m : SymMachine) → IsFor p net → IsWired net.inputs net.gates
    → IsBegun p false net m → Means p net m assumed → guards ≡ []
    → AreAssumptions (record { problem = p; net = net; path = path; guards = assumed ++ guards; next = next; noes = noes; spent = spent })
begun-assumed p net path assumed guards next noes spent m n wired begun means none s ranged =
    let val = val_of net (bits p s) in
    ap (λ gs. map (lit_value val) (assumed ++ gs)) none ∙ ap (map (lit_value val)) (append-nil assumed)
    ∙ means val (solves-start p net s n.inputs wired ranged) ∙ ap (λ d. map (λ a. holds a d) p.assumed) (begun.means s ranged)

pub walk-begun : (p : Problem) (old net : Net) (m : SymMachine) (path : List Bool) (assumed guards : List Lit) (saved : List Saved) (at : Position) → IsFor p old → Grows old net → IsWired net.inputs net.gates
    → IsBegun p false old m → Inside (variables net) assumed
    → Means p net m assumed
    → path ≡ [] → guards ≡ [] → saved ≡ [] → at ≡ record { machine = m; left = p.steps; from = 0 }
    → IsWalk p net path assumed guards saved None at None
walk-begun p old net m path assumed guards saved at n grows wired begun inside means e1 e2 e3 e4 =
    let here = for-grown p old net grows n in
    let same : IsBegun p false net m = begun-grown p false old net m n grows begun in
    subst (λ x. IsWalk p net x assumed guards saved None at None) (sym e1)
    (subst (λ x. IsWalk p net [] assumed x saved None at None) (sym e2)
    (subst (λ x. IsWalk p net [] assumed [] x None at None) (sym e3)
    (subst (λ x. IsWalk p net [] assumed [] [] None x None) (sym e4) (record {
      spot = record {
        inputs = here;
        walked = λ k below. absurd (omega (arith, below));
        inside = subst (All (IsLit (variables net))) (sym (append-nil assumed)) (All-inside (variables net) assumed inside);
        count = refl;
        guarded = begun-guarded p net assumed m here wired same.means means;
      };
      run = λ going. first-run p net m same;
      said = tt;
      within = tt;
      kept = All-nil (IsSaved p net [] assumed [] None);
      at_noes = refl;
      marks = λ i j d below within. absurd (omega (arith, within));
    }))))
