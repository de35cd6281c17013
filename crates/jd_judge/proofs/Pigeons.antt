-- Each allowed start's answers are the path of a whole leaf, so there are no more of them than leaves.
use Rattle.std.proofs.Common.{◌≡◌, ◌≢◌, ◌⊎◌, inl, inr, ℕ, zero, suc, ◌<◌, ◌≤◌, Bool, true, List, [], ◌∷◌, ◌++◌, length, map, get_or, refl, sym, ap, ◌∙◌, subst, arith, length-append}
use Rattle.std.specs.Prelude.{All}
use Rattle.std.proofs.lemmas.Bool.{false≢true}
use Rattle.std.proofs.lemmas.List.{length-map}
use Rattle.std.proofs.lemmas.List.Elements.{All-map}
use Rattle.hp_model.specs.State.{Data}
use Rattle.jd_model.specs.Problems.{Problem, allows}
use Rattle.jd_start.specs.Starts.{start_data}
use Rattle.jd_trees.specs.declared.Kind.{Kind}
use Rattle.jd_trees.specs.declared.Kind.TheVariants.{Whole, Cut}
use Rattle.jd_books.specs.Clauses.{IsUnsatisfiable}
use Rattle.jd_books.specs.Paths.{answers_of_start, begins}
use Rattle.jd_trees.specs.Trees.{Tree}
use Rattle.jd_books.specs.Trees.{places}
use Rattle.jd_books.specs.Leaves.{Leaf as LeafOf, Claim, clauses_of, IsFaithfulTo}
use Rattle.jd_books.specs.Checks.{IsProvedTo}
use Rattle.jd_books.specs.Outcomes.{HaveOwnAnswers}
use Rattle.jd_books.proofs.Covering.{covers-from}
use Rattle.jd_books.proofs.Longer.{over-own}
use Rattle.jd_books.proofs.SoundTree.{GoesOn, arrives, each-refuted, All-unmap, cut-refuted, guards-true, ranged, sound}
use Rattle.jd_judge.specs.Judging.{path_if_whole, whole_paths}
use Rattle.jd_judge.specs.declared.outcomes.Judged.TheVariants as j
use Rattle.jd_judge.specs.Laws.{Sound, FewPaths, Completeness}

-- ---- lists of paths

abbrev IsIn : List Bool → List (List Bool) → Type 0
IsIn x [] = ⊥
IsIn x (y ∷ ys) = (y ≡ x) ⊎ IsIn x ys

in-left : (x : List Bool) (ys zs : List (List Bool)) → IsIn x ys → IsIn x (ys ++ zs)
in-left x [] zs h = absurd h
in-left x (y ∷ ys) zs (inl e) = inl e
in-left x (y ∷ ys) zs (inr h) = inr (in-left x ys zs h)

in-right : (x : List Bool) (ys zs : List (List Bool)) → IsIn x zs → IsIn x (ys ++ zs)
in-right x [] zs h = h
in-right x (y ∷ ys) zs h = inr (in-right x ys zs h)

-- the parts around one of the paths
in-parts : (x : List Bool) (ys : List (List Bool)) → IsIn x ys → (front : List (List Bool)) × (rest : List (List Bool)) × (ys ≡ front ++ x ∷ rest)
in-parts x [] h = absurd h
in-parts x (y ∷ ys) (inl e) = ([], ys, ap (λ r. r ∷ ys) e)
in-parts x (y ∷ ys) (inr h) = let more = in-parts x ys h in (y ∷ more.0, more.1, ap {B = List (List Bool)} (λ r. y ∷ r) more.2)

in-others : (x y : List Bool) (front rest : List (List Bool)) → IsIn x (front ++ y ∷ rest) → y ≢ x → IsIn x (front ++ rest)
in-others x y [] rest (inl e) apart = absurd (apart e)
in-others x y [] rest (inr h) apart = h
in-others x y (z ∷ front) rest (inl e) apart = inl e
in-others x y (z ∷ front) rest (inr h) apart = inr (in-others x y front rest h apart)

own-tail : (p : Problem) (s : Data) (ss : List Data) → HaveOwnAnswers p (s ∷ ss) → HaveOwnAnswers p ss
own-tail p s ss own i k d below inside e = own (suc i) (suc k) d (omega (arith, below)) (omega (arith, inside)) e

-- starts with their own answers, each of which is among some paths
pigeons : (p : Problem) (ss : List Data) (ys : List (List Bool)) → HaveOwnAnswers p ss → All (λ s. IsIn (answers_of_start p s) ys) ss → length ss ≤ length ys
pigeons p [] ys own all = omega arith
pigeons p (s ∷ ss) ys own all =
    let x = answers_of_start p s in
    let parts = in-parts x ys (all 0 s (omega arith)) in
    let more : length ss ≤ length (parts.0 ++ parts.1) =
    pigeons p ss (parts.0 ++ parts.1) (own-tail p s ss own)
    (λ k d inside. in-others (answers_of_start p (get_or ss k d)) x parts.0 parts.1
    (subst (IsIn (answers_of_start p (get_or ss k d))) parts.2 (all (suc k) d (omega (arith, inside))))
    (λ e. own 0 (suc k) d (omega arith) (omega (arith, inside)) e)) in
    omega (arith, more, ap length parts.2, length-append parts.0 (x ∷ parts.1), length-append parts.0 parts.1)

-- ---- the answers of a start

in-whole : (book : List LeafOf) (k : ℕ) (d : LeafOf) → k < length book → (get_or book k d).kind ≡ Whole → IsIn (get_or book k d).path (whole_paths book)
in-whole [] k d inside is = absurd (omega (arith, inside))
in-whole (l ∷ book) zero d inside is =
    in-left l.path (path_if_whole l.kind l.path) (whole_paths book) (subst (λ k. IsIn l.path (path_if_whole k l.path)) (sym is) (inl refl))
in-whole (l ∷ book) (suc k) d inside is =
    in-right (get_or book k d).path (path_if_whole l.kind l.path) (whole_paths book) (in-whole book k d (omega (arith, inside)) is)

answers-in : (p : Problem) (claim : Claim) (tree : Tree) (book : List LeafOf) (s : Data) → IsProvedTo p claim tree book → allows p s ≡ true → IsIn (answers_of_start p s) (whole_paths book)
answers-in p claim tree book s proved allowed =
    let G = IsIn (answers_of_start p s) (whole_paths book) in
    let same : map (λ l. l.path) book ≡ map (λ place. place.path) (places tree) = proved.covered.leaves.paths in
    let refuted : All (λ l. IsUnsatisfiable (clauses_of l)) book =
    each-refuted book (places tree) (sym (length-map book (λ l. l.path)) ∙ ap length same ∙ length-map (places tree) (λ place. place.path)) proved.right proved.refuted in
    let at_leaves : All (GoesOn G p s) (map (λ l. l.path) book) = All-map (GoesOn G p s) (λ l. l.path) book (λ k d inside. leaf-goes k d inside refuted) in
    arrives G p s tree [] (answers_of_start p s) (covers-from p tree [] proved.covered.covers) refl
    (All-unmap (GoesOn G p s) (λ place. place.path) (places tree) (subst (All (GoesOn G p s)) same at_leaves))
  where
    leaf-goes : (k : ℕ) (d : LeafOf) → k < length book → All (λ l. IsUnsatisfiable (clauses_of l)) book → begins (get_or book k d).path (answers_of_start p s) ≡ true
        → IsIn (answers_of_start p s) (whole_paths book)
    leaf-goes k d inside refuted b = by_kind (get_or book k d).kind refl
      where
        l : LeafOf
        l = get_or book k d

        f : IsFaithfulTo p claim l
        f = proved.covered.leaves.faithful k d inside

        by_kind : (kind : Kind) → l.kind ≡ kind → IsIn (answers_of_start p s) (whole_paths book)
        by_kind Whole is =
            let over = (f.whole is s (ranged p s allowed) (guards-true p claim l s f allowed b)).over in
            subst (λ x. IsIn x (whole_paths book)) (sym (over-own p l.path s over b)) (in-whole book k d inside is)
        by_kind Cut is = absurd (cut-refuted p claim l s f (refuted k d inside) allowed b is)

-- ---- what is answered

pub few-paths : FewPaths
few-paths p claim (j.Equal book cert) h e = λ starts many.
    let ys = whole_paths book in
    let count : length starts ≤ length ys =
    pigeons p starts ys many.different (λ k d inside. answers-in p claim h.tree book (get_or starts k d) h.proved (many.allowed k d inside)) in
    omega (arith, count, many.count, h.few)
few-paths p claim (j.Different start) h e = absurd (false≢true e)
few-paths p claim (j.Unknown leaf log) h e = absurd (false≢true e)
few-paths p claim (j.TooManyPaths starts) h e = absurd (false≢true e)

pub equal-sound : Sound
equal-sound p claim (j.Equal book cert) h e = sound p claim h.tree book h.proved
equal-sound p claim (j.Different start) h e = absurd (false≢true e)
equal-sound p claim (j.Unknown leaf log) h e = absurd (false≢true e)
equal-sound p claim (j.TooManyPaths starts) h e = absurd (false≢true e)

pub complete : Completeness
complete p claim (j.Equal book cert) h enough few = record {
  equal = λ agreed. refl;
  different = λ s d. absurd (false≢true (sym d.differs ∙ equal-sound p claim (j.Equal book cert) h refl s d.allowed));
}
complete p claim (j.Different start) h enough few = record {
  equal = λ agreed. absurd (false≢true (sym h.differs ∙ agreed (start_data start) h.allowed));
  different = λ s d. refl;
}
complete p claim (j.Unknown leaf log) h enough few = absurd (omega (arith, enough, h.1.small))
complete p claim (j.TooManyPaths starts) h enough few = absurd (few starts h)
