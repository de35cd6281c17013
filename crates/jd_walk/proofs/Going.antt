-- What a walk keeps, by an answer and by going back.
use Rattle.std.proofs.Common.{◌≡◌, ℕ, zero, suc, ◌+◌, ◌-◌, ◌<◌, ◌≤◌, Bool, true, false, append-nil, List, [], ◌∷◌, ◌++◌, length, map, take, get_or, Option, Some, None, refl, sym, ap, ◌∙◌, subst, arith, length-append, append_assoc, nat_le, cond}
use Rattle.std.specs.Prelude.{All, AllPairs}
use Rattle.std.proofs.lemmas.Bool.Decides.{nat_tests}
use Rattle.std.proofs.lemmas.List.{take-append-le, take-take, get_or_append_left, length-take-le, map-append}
use Rattle.std.proofs.lemmas.List.Elements.{All-push, All-head, All-tail}
use Rattle.std.proofs.Math.Seq.{take-length, take-append_seam, get_or-append_seam}
use Rattle.jd_circuit.specs.declared.literals.Lit.{Lit}
use Rattle.jd_circuit.specs.Net.{Net}
use Rattle.jd_model.specs.Problems.{Problem}
use Rattle.jd_books.specs.Paths.{next_path}
use Rattle.jd_walk.specs.declared.runs.Position.{Position}
use Rattle.jd_walk.specs.declared.places.Next.{Next}
use Rattle.jd_walk.specs.declared.places.Next.TheVariants.{Ask as AskNext}
use Rattle.jd_walk.specs.declared.places.FirstEnd.{FirstEnd}
use Rattle.jd_walk.specs.declared.places.Saved.{Saved}
use Rattle.jd_walk.specs.Spots.{IsSpot, IsRun, IsAskHere, first_at, end_of, back_to, IsWithin, net_at, IsSaved, IsWalk, no_of, noes, noes_from}
use Rattle.jd_walk.specs.Walked.{AnsweredNo, Walked, back_at, back_from, first_gates, last_no}
use Rattle.jd_walk.proofs.Noes.{noes-none, noes-yes, noes-no, last-no, IsLastNo}
use Rattle.std.proofs.lemmas.List.Quantifiers.{all_pairs_push}
use Rattle.jd_circuit.specs.Meaning.{opposite}
use Rattle.jd_walk.proofs.Standing.{spot-answered, run-answered}
use Rattle.jd_walk.proofs.Keeping.{same-spot, saved-pushed}

-- ---- the first run's end

pub within-end : (k : ℕ) (first : Option FirstEnd) → IsWithin k first → first_at k first ≡ end_of first
within-end k None h = refl
within-end k (Some f) h = by_test (nat_le f.path k) refl
  where
    by_test : (b : Bool) → nat_le f.path k ≡ b → cond b (Some f.run) None ≡ Some f.run
    by_test true e = refl
    by_test false e = absurd (let gt : k < f.path = grind (arith, nat_tests) in omega (arith, gt, h))

pub end-back : (k : ℕ) (first : Option FirstEnd) → first_at k first ≡ end_of (back_to k first)
end-back k None = refl
end-back k (Some f) = by_test (nat_le f.path k)
  where
    by_test : (b : Bool) → cond b (Some f.run) None ≡ end_of (cond b (Some f) None)
    by_test true = refl
    by_test false = refl

within-back : (k : ℕ) (first : Option FirstEnd) → IsWithin (suc k) (back_to k first)
within-back k None = tt
within-back k (Some f) = by_test (nat_le f.path k) refl
  where
    by_test : (b : Bool) → nat_le f.path k ≡ b → IsWithin (suc k) (cond b (Some f) None)
    by_test true e = let le : f.path ≤ k = grind (arith, nat_tests) in omega (arith, le)
    by_test false e = tt

-- a place before one to which the walk goes back
pub before-back : (j k : ℕ) (first : Option FirstEnd) → j < k → first_at j first ≡ first_at j (back_to k first)
before-back j k None h = refl
before-back j k (Some f) h = by_test (nat_le f.path k) refl
  where
    none : nat_le f.path k ≡ false → first_at j (Some f) ≡ None
    none e = by_place (nat_le f.path j) refl
      where
        by_place : (b : Bool) → nat_le f.path j ≡ b → cond b (Some f.run) None ≡ None
        by_place false g = refl
        by_place true g = absurd (let le : f.path ≤ j = grind (arith, nat_tests) in let gt : k < f.path = grind (arith, nat_tests) in omega (arith, le, gt, h))

    by_test : (b : Bool) → nat_le f.path k ≡ b → first_at j (Some f) ≡ first_at j (cond b (Some f) None)
    by_test true e = refl
    by_test false e = none e

-- ---- an answer

within-more : (k : ℕ) (first : Option FirstEnd) → IsWithin k first → IsWithin (suc k) first
within-more k None h = tt
within-more k (Some f) h = omega (arith, h)

pub All-mapped : {X : Type 0} (P Q : X → Type 0) (xs : List X) → ((x : X) → P x → Q x) → All P xs → All Q xs
All-mapped P Q xs f all k d inside = f _ (all k d inside)

pub length-push : (xs : List Bool) (b : Bool) → length (xs ++ b ∷ []) ≡ suc (length xs)
length-push xs b = length-append xs (b ∷ []) ∙ omega arith

pub walk-yes : (p : Problem) (net : Net) (path : List Bool) (assumed guards : List Lit) (saved : List Saved) (first : Option FirstEnd) (at : Position) (l : Lit)
    → IsWalk p net path assumed guards saved first at (Some (AskNext l)) → IsWalk p net (path ++ true ∷ []) assumed (guards ++ l ∷ []) saved first at None
walk-yes p net path assumed guards saved first at l h = record {
  spot = spot-answered p net path assumed guards at l true h.spot h.said;
  run = λ going. run-answered p net path (end_of first) at l true (h.run refl) h.said;
  said = tt;
  within = subst (λ k. IsWithin k first) (sym (length-push path true)) (within-more (length path) first h.within);
  kept = All-mapped (IsSaved p net path assumed guards first) (IsSaved p net (path ++ true ∷ []) assumed (guards ++ l ∷ []) first) saved (λ s is. saved-pushed p net path assumed guards first true l s h.spot.count is) h.kept;
  at_noes = h.at_noes ∙ sym (noes-yes 0 path);
  marks = h.marks;
}

-- ---- back

-- the places of noes are on the path
noes-below : (n : ℕ) (path : List Bool) → All (λ k. k < n + length path) (noes_from n path)
noes-below n [] = λ k d inside. absurd (omega (arith, inside))
noes-below n (true ∷ path) = λ k d inside. (let h = noes-below (suc n) path k d inside in omega (arith, h))
noes-below n (false ∷ path) = cons (noes-below (suc n) path)
  where
    cons : All (λ k. k < suc n + length path) (noes_from (suc n) path) → All (λ k. k < n + suc (length path)) (n ∷ noes_from (suc n) path)
    cons all zero d inside = omega arith
    cons all (suc k) d inside = (let h = all k d (omega (arith, inside)) in omega (arith, h))

-- pairs of a list with one more
pairs-front : {X : Type 0} (R : X → X → Type 0) (xs ys : List X) → AllPairs R (xs ++ ys) → AllPairs R xs
pairs-front R xs ys all i j d less inside =
    subst (λ y. R (get_or xs i d) y) (get_or_append_left xs ys d j inside)
    (subst (λ x. R x (get_or (xs ++ ys) j d)) (get_or_append_left xs ys d i (omega (arith, less, inside))) (all i j d less (omega (arith, inside, length-append xs ys))))

pairs-last : {X : Type 0} (R : X → X → Type 0) (xs : List X) (x : X) → AllPairs R (xs ++ x ∷ []) → All (λ y. R y x) xs
pairs-last R xs x all k d inside =
    subst (λ z. R (get_or xs k d) z) (get_or-append_seam xs x [] d)
    (subst (λ y. R y (get_or (xs ++ x ∷ []) (length xs) d)) (get_or_append_left xs (x ∷ []) d k inside) (all k (length xs) d inside (omega (arith, length-append xs (x ∷ [])))))

pub All-front : {X : Type 0} (P : X → Type 0) (xs ys : List X) → All P (xs ++ ys) → All P xs
All-front P xs ys all k d inside = subst P (get_or_append_left xs ys d k inside) (all k d (omega (arith, inside, length-append xs ys)))

pub All-last : {X : Type 0} (P : X → Type 0) (xs : List X) (x : X) → All P (xs ++ x ∷ []) → P x
All-last P xs x all = subst P (get_or-append_seam xs x [] x) (all (length xs) x (omega (arith, length-append xs (x ∷ []))))

All-map-back : {X Y : Type 0} (P : Y → Type 0) (f : X → Y) (xs : List X) → All P (map f xs) → All (λ x. P (f x)) xs
All-map-back P f [] all k d inside = absurd (omega (arith, inside))
All-map-back P f (x ∷ xs) all zero d inside = All-head P (f x) (map f xs) all
All-map-back P f (x ∷ xs) all (suc k) d inside = All-map-back P f xs (All-tail P (f x) (map f xs) all) k d (omega (arith, inside))

take-front : {X : Type 0} (j k : ℕ) (xs : List X) (x : X) → j ≤ k → k ≤ length xs → take j (take k xs ++ x ∷ []) ≡ take j xs
take-front j k xs x less inside = take-append-le j (take k xs) (x ∷ []) (omega (arith, less, length-take-le k xs inside)) ∙ take-take j k xs less

-- a saved question after the walk went back to a later one
saved-back : (p : Problem) (net : Net) (path : List Bool) (assumed guards : List Lit) (first : Option FirstEnd) (k mark : ℕ) (g : Lit) (s : Saved)
    → length guards ≡ length path → k < length path → mark ≤ length net.gates → s.at < k → s.mark.gates ≤ mark
    → IsSaved p net path assumed guards first s → IsSaved p (net_at net mark) (take k path ++ true ∷ []) assumed (take k guards ++ g ∷ []) (back_to k first) s
saved-back p net path assumed guards first k mark g s count inside below before marks h =
    let nets : net_at net s.mark.gates ≡ net_at (net_at net mark) s.mark.gates = ap (λ gs. record { inputs = net.inputs; gates = gs }) (sym (take-take s.mark.gates mark net.gates marks)) in
    let both = same-spot p (net_at net s.mark.gates) (net_at (net_at net mark) s.mark.gates) (take s.at path) (take s.at (take k path ++ true ∷ [])) assumed (take s.at guards) (take s.at (take k guards ++ g ∷ []))
    (first_at s.at first) (first_at s.at (back_to k first)) s nets
    (sym (take-front s.at k path true (omega (arith, before)) (omega (arith, inside)))) (sym (take-front s.at k guards g (omega (arith, before)) (omega (arith, inside, count))))
    (before-back s.at k first before) (h.spot, h.run, h.asked) in
    record {
      inside = omega (arith, before, length-append (take k path) (true ∷ []), length-take-le k path (omega (arith, inside)));
      mark = omega (arith, marks, length-take-le mark net.gates below);
      spot = both.0;
      run = both.1;
      asked = both.2;
    }

-- the places before the last no
front-noes : (path : List Bool) (saved : List Saved) (s : Saved) → map (λ s. s.at) (saved ++ s ∷ []) ≡ noes path → noes (take s.at path) ≡ map (λ s. s.at) saved
front-noes path saved s at_noes =
    let no : IsLastNo 0 path (map (λ s. s.at) saved) s.at = last-no 0 path (map (λ s. s.at) saved) s.at (sym at_noes ∙ map-append (λ s. s.at) saved (s ∷ [])) in
    let front : s.at - 0 ≡ s.at = omega arith in
    ap (λ k. noes (take k path)) (sym front) ∙ no.noes

earlier : (path : List Bool) (saved : List Saved) (s : Saved) → s.at < length path → noes (take s.at path) ≡ map (λ s. s.at) saved → All (λ x. x.at < s.at) saved
earlier path saved s inside noes_is =
    All-map-back (λ k. k < s.at) (λ x. x.at) saved (subst (All (λ k. k < s.at)) noes_is
    (All-mapped (λ k. k < 0 + length (take s.at path)) (λ k. k < s.at) (noes (take s.at path)) (λ k less. omega (arith, less, length-take-le s.at path (omega (arith, inside)))) (noes-below 0 (take s.at path))))

pub saved-before : (p : Problem) (net : Net) (path : List Bool) (assumed guards : List Lit) (saved : List Saved) (s : Saved) (first : Option FirstEnd) (at : Position) (next : Option Next)
    → IsWalk p net path assumed guards (saved ++ s ∷ []) first at next → All (λ x. x.at < s.at) saved
saved-before p net path assumed guards saved s first at next h =
    let last : IsSaved p net path assumed guards first s = All-last (IsSaved p net path assumed guards first) saved s h.kept in
    earlier path saved s last.inside (front-noes path saved s h.at_noes)

pub walk-back : (p : Problem) (net : Net) (path : List Bool) (assumed guards : List Lit) (saved : List Saved) (s : Saved) (first : Option FirstEnd) (at : Position) (next : Option Next)
    → IsWalk p net path assumed guards (saved ++ s ∷ []) first at next
    → IsWalk p (net_at net s.mark.gates) (take s.at path ++ true ∷ []) assumed (take s.at guards ++ s.ask ∷ []) saved (back_to s.at first) s.position None
walk-back p net path assumed guards saved s first at next h =
    let last : IsSaved p net path assumed guards first s = All-last (IsSaved p net path assumed guards first) saved s h.kept in
    let noes_is = front-noes path saved s h.at_noes in
    let before = earlier path saved s last.inside noes_is in
    let kept : All (IsSaved p net path assumed guards first) saved = All-front (IsSaved p net path assumed guards first) saved (s ∷ []) h.kept in
    let marks : All (λ x. x.mark.gates ≤ s.mark.gates) saved = pairs-last (λ a b. a.mark.gates ≤ b.mark.gates) saved s h.marks in
    record {
      spot = spot-answered p (net_at net s.mark.gates) (take s.at path) assumed (take s.at guards) s.position s.ask true last.spot last.asked;
      run = λ going. subst (λ f. IsRun p (net_at net s.mark.gates) (take s.at path ++ true ∷ []) f s.position) (end-back s.at first)
          (run-answered p (net_at net s.mark.gates) (take s.at path) (first_at s.at first) s.position s.ask true last.run last.asked);
      said = tt;
      within = subst (λ k. IsWithin k (back_to s.at first)) (sym (length-push (take s.at path) true ∙ ap suc (length-take-le s.at path (omega (arith, last.inside))))) (within-back s.at first);
      kept = λ k d inside. saved-back p net path assumed guards first s.at s.mark.gates s.ask _ h.spot.count last.inside last.mark (before k d inside) (marks k d inside) (kept k d inside);
      at_noes = sym noes_is ∙ sym (noes-yes 0 (take s.at path));
      marks = pairs-front (λ a b. a.mark.gates ≤ b.mark.gates) saved (s ∷ []) h.marks;
    }

-- ---- what code says of going back

pub last-next : (p : Problem) (net : Net) (path : List Bool) (assumed guards : List Lit) (saved : List Saved) (s : Saved) (first : Option FirstEnd) (at : Position) (next : Option Next)
    → IsWalk p net path assumed guards (saved ++ s ∷ []) first at next → next_path path ≡ Some (take s.at path ++ true ∷ [])
last-next p net path assumed guards saved s first at next h =
    let no : IsLastNo 0 path (map (λ s. s.at) saved) s.at = last-no 0 path (map (λ s. s.at) saved) s.at (sym h.at_noes ∙ map-append (λ s. s.at) saved (s ∷ [])) in
    let front : s.at - 0 ≡ s.at = omega arith in
    no.next ∙ ap (λ k. Some (take k path ++ true ∷ [])) front

pub last-inside : (p : Problem) (net : Net) (path : List Bool) (assumed guards : List Lit) (saved : List Saved) (s : Saved) (first : Option FirstEnd) (at : Position) (next : Option Next)
    → IsWalk p net path assumed guards (saved ++ s ∷ []) first at next → (s.at < length path) × (s.at < length guards) × (s.mark.gates ≤ length net.gates)
last-inside p net path assumed guards saved s first at next h =
    let last : IsSaved p net path assumed guards first s = All-last (IsSaved p net path assumed guards first) saved s h.kept in
    (last.inside, omega (arith, last.inside, h.spot.count), last.mark)

pub none-next : (p : Problem) (net : Net) (path : List Bool) (assumed guards : List Lit) (saved : List Saved) (first : Option FirstEnd) (at : Position) (next : Option Next)
    → IsWalk p net path assumed guards saved first at next → length saved ≡ 0 → next_path path ≡ None
none-next p net path assumed guards [] first at next h n = noes-none 0 path (sym h.at_noes)
none-next p net path assumed guards (s ∷ saved) first at next h n = absurd (omega (arith, n))

pub walk-back-is : (p : Problem) (net new : Net) (path : List Bool) (assumed guards : List Lit) (all saved : List Saved) (s : Saved) (first : Option FirstEnd) (at : Position) (next : Option Next)
    (path_then : List Bool) (guards_then : List Lit) (first_then : Option FirstEnd)
    → IsWalk p net path assumed guards all first at next → all ≡ saved ++ s ∷ [] → new.inputs ≡ net.inputs → new.gates ≡ take s.mark.gates net.gates
    → path_then ≡ take s.at path ++ true ∷ [] → guards_then ≡ take s.at guards ++ s.ask ∷ [] → first_then ≡ back_to s.at first
    → IsWalk p new path_then assumed guards_then saved first_then s.position None
walk-back-is p net new path assumed guards all saved s first at next path_then guards_then first_then h items inputs gates e1 e2 e3 =
    let nets : net_at net s.mark.gates ≡ new = ap (λ n. record { inputs = n; gates = take s.mark.gates net.gates }) (sym inputs) ∙ ap (λ gs. record { inputs = new.inputs; gates = gs }) (sym gates) in
    subst (λ x. IsWalk p new path_then assumed guards_then saved x s.position None) (sym e3)
    (subst (λ x. IsWalk p new path_then assumed x saved (back_to s.at first) s.position None) (sym e2)
    (subst (λ x. IsWalk p new x assumed (take s.at guards ++ s.ask ∷ []) saved (back_to s.at first) s.position None) (sym e1)
    (subst (λ x. IsWalk p x (take s.at path ++ true ∷ []) assumed (take s.at guards ++ s.ask ∷ []) saved (back_to s.at first) s.position None) nets
    (walk-back p net path assumed guards saved s first at next (subst (λ x. IsWalk p net path assumed guards x first at next) items h)))))

pub back-none : (w : Walked) → next_path w.path ≡ None → back_from w ≡ w
back-none w e = ap (λ o. elim o as (λ _. Walked) [ Some path ↦ back_at w path | None ↦ w ]) e

pub back-some : (w : Walked) (path : List Bool) → next_path w.path ≡ Some path → back_from w ≡ back_at w path
back-some w path e = ap (λ o. elim o as (λ _. Walked) [ Some path ↦ back_at w path | None ↦ w ]) e

last-pushed : (before : List AnsweredNo) (n : AnsweredNo) → last_no (before ++ n ∷ []) ≡ n
last-pushed [] n = refl
last-pushed (x ∷ []) n = refl
last-pushed (x ∷ y ∷ rest) n = last-pushed (y ∷ rest) n

front-pushed : (before : List AnsweredNo) (n : AnsweredNo) → take (length (before ++ n ∷ []) - 1) (before ++ n ∷ []) ≡ before
front-pushed before n =
    let count : length (before ++ n ∷ []) - 1 ≡ length before = omega (arith, length-append before (n ∷ [])) in
    ap (λ k. take k (before ++ n ∷ [])) count ∙ take-append_seam before (n ∷ [])

take-beside : {X : Type 0} (xs ys : List X) (k : ℕ) → take (length xs + k) (xs ++ ys) ≡ xs ++ take k ys
take-beside [] ys k = let same : 0 + k ≡ k = omega arith in ap (λ n. take n ys) same
take-beside (x ∷ xs) ys k =
    let count : length (x ∷ xs) + k ≡ suc (length xs + k) = omega arith in
    ap (λ n. take n (x ∷ (xs ++ ys))) count ∙ ap (λ r. x ∷ r) (take-beside xs ys k)

-- a walk that went back, by its last question answered with no, its other guards and the questions before
abbrev BackWith : Problem → Net → List Bool → Bool → AnsweredNo → List Lit → List AnsweredNo → Walked
BackWith p net path spent last guards before =
    record { problem = p; net = first_gates net last.gates; path = path; guards = guards ++ last.ask ∷ []; next = None; noes = before; spent = spent }

-- the walk at its last question answered with no
pub back-at : (p : Problem) (net : Net) (path : List Bool) (assumed guards : List Lit) (next : Option Next) (saved : List Saved) (s : Saved) (spent : Bool) → length guards ≡ length path → s.at < length path
    → back_at (record { problem = p; net = net; path = path; guards = assumed ++ guards; next = next; noes = map no_of (saved ++ s ∷ []); spent = spent }) (take s.at path ++ true ∷ [])
    ≡ record { problem = p; net = net_at net s.mark.gates; path = take s.at path ++ true ∷ []; guards = assumed ++ (take s.at guards ++ s.ask ∷ []); next = None; noes = map no_of saved; spent = spent }
back-at p net path assumed guards next saved s spent count inside =
    let noes_are : map no_of (saved ++ s ∷ []) ≡ map no_of saved ++ no_of s ∷ [] = map-append no_of saved (s ∷ []) in
    let place : length (assumed ++ guards) - length path + (length (take s.at path ++ true ∷ []) - 1) ≡ length assumed + s.at =
    omega (arith, length-append assumed guards, count, length-push (take s.at path) true, length-take-le s.at path (omega (arith, inside))) in
    by_parts (take s.at path ++ true ∷ []) (last_no (map no_of (saved ++ s ∷ []))) (take (length (assumed ++ guards) - length path + (length (take s.at path ++ true ∷ []) - 1)) (assumed ++ guards))
    (take (length (map no_of (saved ++ s ∷ [])) - 1) (map no_of (saved ++ s ∷ [])))
    (ap last_no noes_are ∙ last-pushed (map no_of saved) (no_of s))
    (ap (λ k. take k (assumed ++ guards)) place ∙ take-beside assumed guards s.at)
    (ap (λ (ns : List AnsweredNo). take (length ns - 1) ns) noes_are ∙ front-pushed (map no_of saved) (no_of s))
  where
    by_parts : (then : List Bool) (last : AnsweredNo) (ls : List Lit) (before : List AnsweredNo) → last ≡ no_of s → ls ≡ assumed ++ take s.at guards → before ≡ map no_of saved
        → BackWith p net then spent last ls before ≡ record { problem = p; net = net_at net s.mark.gates; path = then; guards = assumed ++ (take s.at guards ++ s.ask ∷ []); next = None; noes = map no_of saved; spent = spent }
    by_parts then last ls before e1 e2 e3 =
        ap (λ n. BackWith p net then spent n ls before) e1 ∙ ap (λ gs. BackWith p net then spent (no_of s) gs before) e2 ∙ ap (BackWith p net then spent (no_of s) (assumed ++ take s.at guards)) e3
        ∙ ap (λ gs. record { problem = p; net = net_at net s.mark.gates; path = then; guards = gs; next = None; noes = map no_of saved; spent = spent }) (append_assoc assumed (take s.at guards) (s.ask ∷ []))

-- ---- an answer of no

pub saved-now : (p : Problem) (net : Net) (path : List Bool) (assumed guards : List Lit) (first : Option FirstEnd) (at : Position) (l g : Lit) → length guards ≡ length path → IsWithin (length path) first
    → IsSpot p net path assumed guards → IsRun p net path (end_of first) at → IsAskHere p net path at l
    → IsSaved p net (path ++ false ∷ []) assumed (guards ++ g ∷ []) first (record { at = length path; ask = l; mark = record { gates = length net.gates }; position = at })
saved-now p net path assumed guards first at l g count within spot run asked =
    let s : Saved = record { at = length path; ask = l; mark = record { gates = length net.gates }; position = at } in
    let nets : net ≡ net_at net (length net.gates) = ap (λ gs. record { inputs = net.inputs; gates = gs }) (sym (take-length net.gates)) in
    let guards_are : guards ≡ take (length path) (guards ++ g ∷ []) = sym (take-append_seam guards (g ∷ [])) ∙ ap (λ k. take k (guards ++ g ∷ [])) count in
    let both = same-spot p net (net_at net (length net.gates)) path (take (length path) (path ++ false ∷ [])) assumed guards (take (length path) (guards ++ g ∷ [])) (end_of first) (first_at (length path) first) s
    nets (sym (take-append_seam path (false ∷ []))) guards_are (sym (within-end (length path) first within)) (spot, run, asked) in
    record { inside = omega (arith, length-append path (false ∷ [])); mark = omega arith; spot = both.0; run = both.1; asked = both.2 }

pub walk-no : (p : Problem) (net : Net) (path : List Bool) (assumed guards : List Lit) (saved : List Saved) (first : Option FirstEnd) (at : Position) (l : Lit)
    → IsWalk p net path assumed guards saved first at (Some (AskNext l))
    → IsWalk p net (path ++ false ∷ []) assumed (guards ++ opposite l ∷ []) (saved ++ record { at = length path; ask = l; mark = record { gates = length net.gates }; position = at } ∷ []) first at None
walk-no p net path assumed guards saved first at l h =
    let new : Saved = record { at = length path; ask = l; mark = record { gates = length net.gates }; position = at } in
    record {
      spot = spot-answered p net path assumed guards at l false h.spot h.said;
      run = λ going. run-answered p net path (end_of first) at l false (h.run refl) h.said;
      said = tt;
      within = subst (λ k. IsWithin k first) (sym (length-push path false)) (within-more (length path) first h.within);
      kept = All-push (IsSaved p net (path ++ false ∷ []) assumed (guards ++ opposite l ∷ []) first) saved new
          (All-mapped (IsSaved p net path assumed guards first) (IsSaved p net (path ++ false ∷ []) assumed (guards ++ opposite l ∷ []) first) saved (λ s is. saved-pushed p net path assumed guards first false (opposite l) s h.spot.count is) h.kept)
          (saved-now p net path assumed guards first at l (opposite l) h.spot.count h.within h.spot (h.run refl) h.said);
      at_noes = map-append (λ s. s.at) saved (new ∷ []) ∙ ap (λ r. r ++ length path ∷ []) h.at_noes ∙ (let e : length path ≡ 0 + length path = omega arith in ap (λ k. noes path ++ k ∷ []) e) ∙ sym (noes-no 0 path);
      marks = all_pairs_push (λ (a : Saved) (b : Saved). a.mark.gates ≤ b.mark.gates) saved new h.marks (λ k d inside. (h.kept k d inside).mark);
    }

-- nothing is left where nothing is taken off
pub none-left : (old new : List Saved) (n : ℕ) → n ≡ 0 → old ≡ new ++ [] → new ≡ take (n - 1) old → length old ≡ 0
none-left old new n zero_is items rest = ap length (items ∙ append-nil new ∙ rest ∙ ap (λ k. take (k - 1) old) zero_is)
