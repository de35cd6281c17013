-- Clauses that are there, taken away, or there again.
use Rattle.std.proofs.Common.{◌≡◌, ℕ, zero, suc, ◌+◌, ◌<◌, ℤ, Bool, true, false, cond, List, [], ◌∷◌, ◌++◌, length, get_or, set, take, drop, refl, ap, sym, ◌∙◌, arith, is_some, Option, Some, None, Err}
use Rattle.std.specs.Prelude.{◌==◌, pos, if◌then◌else◌, MatchBool}
use Rattle.std.proofs.lemmas.Bool.Decides.{Decides-eqb}
use Rattle.std.proofs.lemmas.List.{drop_more, set-get_or, take_more, get_or_read}
use Rattle.jd_logic.specs.declared.answers.BadLine.TheVariants.{NoClause}
use Rattle.jd_logic.specs.Derivation.{clause_of, deleted, without}
use Rattle.jd_lrat.specs.IdPlaces.{IsAscending, IsAbsent, IsPlace}
use Rattle.jd_lrat.specs.Kept.{clauses_in, with_alive, restored, IsOrderly, DeletesOne, Lacks}
use Rattle.jd_lrat.proofs.Searches.{other_id}

tail_ascends : (id : ℕ) (ids : List ℕ) → IsAscending (id ∷ ids) → IsAscending ids
tail_ascends id ids up i j i< j< = up (suc i) (suc j) (omega arith) (omega arith)

tail_none : (i : ℕ) (ids : List ℕ) (id : ℕ) → IsAbsent (i ∷ ids) id → IsAbsent ids id
tail_none i ids id none k k< is = none (suc k) (omega arith) is

-- the first of ids in order is none of the others
first_only : (i : ℕ) (ids : List ℕ) (id : ℕ) → IsAscending (i ∷ ids) → i ≡ id → IsAbsent ids id
first_only i ids id up is k k< same = absurd (omega (arith, up 0 (suc k) (omega arith) (omega arith), same, is))

-- an id of the others is none of the first
not_first : (i : ℕ) (ids : List ℕ) (id k : ℕ) → IsAscending (i ∷ ids) → k < length ids → get_or ids k 0 ≡ id → i ≡ id → ⊥
not_first i ids id k up k< is same = absurd (omega (arith, up 0 (suc k) (omega arith) (omega arith), same, is))

-- one clause more before those that are looked at
skipped : (t : Bool) (i id : ℕ) (c : List ℤ) (rest : List (ℕ × List ℤ)) → (i ≡ id → ⊥) → clause_of id (cond t ((i, c) ∷ rest) rest) ≡ clause_of id rest
skipped true i id c rest n = rw (other_id i id n)
skipped false i id c rest n = refl

pub clause_of-absent : (ids : List ℕ) (cs : List (List ℤ)) (ts : List Bool) (id : ℕ) → IsAbsent ids id → clause_of id (clauses_in ids cs ts) ≡ None
clause_of-absent [] cs ts id none = refl
clause_of-absent (i ∷ ids) [] ts id none = refl
clause_of-absent (i ∷ ids) (c ∷ cs) [] id none = refl
clause_of-absent (i ∷ ids) (c ∷ cs) (t ∷ ts) id none =
    skipped t i id c (clauses_in ids cs ts) (λ is. none 0 (omega arith) is)
    ∙ clause_of-absent ids cs ts id (tail_none i ids id none)

-- what is found at a place
abbrev pub if_alive : Bool → List ℤ → Option (List ℤ)
if_alive alive c = if alive then Some c else None

taken : (t : Bool) (i id : ℕ) (c : List ℤ) (rest : List (ℕ × List ℤ)) → i ≡ id → clause_of id rest ≡ None → clause_of id (cond t ((i, c) ∷ rest) rest) ≡ if_alive t c
taken true i id c rest is none = rw ((Decides-eqb i id).1 is)
taken false i id c rest is none = none

pub clause_of-place : (ids : List ℕ) (cs : List (List ℤ)) (ts : List Bool) (id i : ℕ) → IsAscending ids → length cs ≡ length ids → length ts ≡ length ids → IsPlace ids id i
    → clause_of id (clauses_in ids cs ts) ≡ if_alive (get_or ts i false) (get_or cs i [])
clause_of-place [] cs ts id i up m n p = absurd (omega (arith, p.0))
clause_of-place (j ∷ ids) [] ts id i up m n p = absurd (omega arith)
clause_of-place (j ∷ ids) (c ∷ cs) [] id i up m n p = absurd (omega arith)
clause_of-place (j ∷ ids) (c ∷ cs) (t ∷ ts) id zero up m n p = taken t j id c (clauses_in ids cs ts) (p.1) (clause_of-absent ids cs ts id (first_only j ids id up (p.1)))
clause_of-place (j ∷ ids) (c ∷ cs) (t ∷ ts) id (suc i) up m n p =
    skipped t j id c (clauses_in ids cs ts) (not_first j ids id i up (omega (arith, p.0)) (p.1))
    ∙ clause_of-place ids cs ts id i (tail_ascends j ids up) (omega arith) (omega arith) (omega (arith, p.0), p.1)

-- what is found for an id
module _ (ids : List ℕ) (cs : List (List ℤ)) (ts : List Bool) (greatest id i : ℕ) (t : Bool) where
  pub found_alive : (c : List ℤ) → IsOrderly ids cs ts greatest → IsPlace ids id i → t ≡ get_or ts i t → t ≡ true → c ≡ get_or cs i [] → Some c ≡ clause_of id (clauses_in ids cs ts)
  found_alive c o p read alive is =
      let e : get_or ts i false ≡ true = sym (get_or_read ts i t (omega (arith, o.flags, p.0)) read false) ∙ alive in
      sym (clause_of-place ids cs ts id i o.ascending o.clauses o.flags p ∙ ap (λ b. if_alive b (get_or cs i [])) e ∙ ap (λ x. Some x) (sym is))

  pub found_gone : IsOrderly ids cs ts greatest → IsPlace ids id i → t ≡ get_or ts i t → t ≡ false → None ≡ clause_of id (clauses_in ids cs ts)
  found_gone o p read gone =
      let e : get_or ts i false ≡ false = sym (get_or_read ts i t (omega (arith, o.flags, p.0)) read false) ∙ gone in
      sym (clause_of-place ids cs ts id i o.ascending o.clauses o.flags p ∙ ap (λ b. if_alive b (get_or cs i [])) e)

-- what is there without an id
pub clauses_in-deleted : (ids : List ℕ) (cs : List (List ℤ)) (ts : List Bool) (id : ℕ) → clauses_in ids cs (with_alive id false ids ts) ≡ without id (clauses_in ids cs ts)
clauses_in-deleted [] cs ts id = refl
clauses_in-deleted (i ∷ ids) [] ts id = refl
clauses_in-deleted (i ∷ ids) (c ∷ cs) [] id = refl
clauses_in-deleted (i ∷ ids) (c ∷ cs) (t ∷ ts) id = by (i == id) refl t (clauses_in-deleted ids cs ts id)
  where
    by : (b : Bool) → (i == id) ≡ b → (t : Bool) → clauses_in ids cs (with_alive id false ids ts) ≡ without id (clauses_in ids cs ts)
        → clauses_in (i ∷ ids) (c ∷ cs) (with_alive id false (i ∷ ids) (t ∷ ts)) ≡ without id (clauses_in (i ∷ ids) (c ∷ cs) (t ∷ ts))
    by true is true h = simp is h
    by true is false h = simp is h
    by false is true h = simp is (ap (λ xs. (i, c) ∷ xs) h)
    by false is false h = simp is h

pub with_alive-absent : (ids : List ℕ) (ts : List Bool) (id : ℕ) (t : Bool) → IsAbsent ids id → with_alive id t ids ts ≡ ts
with_alive-absent [] ts id t none = refl
with_alive-absent (i ∷ ids) [] id t none = refl
with_alive-absent (i ∷ ids) (b ∷ ts) id t none =
    rw (other_id i id (λ is. none 0 (omega arith) is)) (ap (λ xs. b ∷ xs) (with_alive-absent ids ts id t (tail_none i ids id none)))

-- a write at an id's place
pub set-with_alive : (ids : List ℕ) (ts : List Bool) (id i : ℕ) (t : Bool) → IsAscending ids → IsPlace ids id i → set ts i t ≡ with_alive id t ids ts
set-with_alive [] ts id i t up p = absurd (omega (arith, p.0))
set-with_alive (j ∷ ids) [] id i t up p = refl
set-with_alive (j ∷ ids) (b ∷ ts) id zero t up p =
    rw ((Decides-eqb j id).1 p.1) (ap (λ xs. t ∷ xs) (sym (with_alive-absent ids ts id t (first_only j ids id up (p.1)))))
set-with_alive (j ∷ ids) (b ∷ ts) id (suc i) t up p =
    rw (other_id j id (not_first j ids id i up (omega (arith, p.0)) (p.1)))
    (ap (λ xs. b ∷ xs) (set-with_alive ids ts id i t (tail_ascends j ids up) (omega (arith, p.0), p.1)))

with_alive-twice : (id : ℕ) (s t : Bool) (ids : List ℕ) (ts : List Bool) → with_alive id t ids (with_alive id s ids ts) ≡ with_alive id t ids ts
with_alive-twice id s t [] ts = refl
with_alive-twice id s t (i ∷ ids) [] = refl
with_alive-twice id s t (i ∷ ids) (b ∷ ts) = by (i == id) refl (with_alive-twice id s t ids ts)
  where
    by : (e : Bool) → (i == id) ≡ e → with_alive id t ids (with_alive id s ids ts) ≡ with_alive id t ids ts
        → with_alive id t (i ∷ ids) (with_alive id s (i ∷ ids) (b ∷ ts)) ≡ with_alive id t (i ∷ ids) (b ∷ ts)
    by true is h = simp is (ap (λ xs. t ∷ xs) h)
    by false is h = simp is (ap (λ xs. b ∷ xs) h)

with_alive-swap : (j k : ℕ) (ids : List ℕ) (ts : List Bool) → with_alive j true ids (with_alive k true ids ts) ≡ with_alive k true ids (with_alive j true ids ts)
with_alive-swap j k [] ts = refl
with_alive-swap j k (i ∷ ids) [] = refl
with_alive-swap j k (i ∷ ids) (b ∷ ts) = by (i == j) refl (i == k) refl (with_alive-swap j k ids ts)
  where
    by : (e : Bool) → (i == j) ≡ e → (f : Bool) → (i == k) ≡ f → with_alive j true ids (with_alive k true ids ts) ≡ with_alive k true ids (with_alive j true ids ts)
        → with_alive j true (i ∷ ids) (with_alive k true (i ∷ ids) (b ∷ ts)) ≡ with_alive k true (i ∷ ids) (with_alive j true (i ∷ ids) (b ∷ ts))
    by true is true is' h = simp (is, is') (ap (λ xs. true ∷ xs) h)
    by true is false is' h = simp (is, is') (ap (λ xs. true ∷ xs) h)
    by false is true is' h = simp (is, is') (ap (λ xs. true ∷ xs) h)
    by false is false is' h = simp (is, is') (ap (λ xs. b ∷ xs) h)

pub length-with_alive : (id : ℕ) (t : Bool) (ids : List ℕ) (ts : List Bool) → length (with_alive id t ids ts) ≡ length ts
length-with_alive id t [] ts = refl
length-with_alive id t (i ∷ ids) [] = refl
length-with_alive id t (i ∷ ids) (b ∷ ts) = ap suc (length-with_alive id t ids ts)

pub length-restored : (ids : List ℕ) (ts : List Bool) (gone : List ℕ) → length (restored ids ts gone) ≡ length ts
length-restored ids ts [] = refl
length-restored ids ts (id ∷ gone) = length-restored ids (with_alive id true ids ts) gone ∙ length-with_alive id true ids ts

-- an id whose clause is there, hidden and shown again
gone-back : (ids : List ℕ) (ts : List Bool) (id i : ℕ) → IsAscending ids → IsPlace ids id i → get_or ts i false ≡ true → with_alive id true ids (with_alive id false ids ts) ≡ ts
gone-back ids ts id i up p alive =
    with_alive-twice id false true ids ts ∙ sym (set-with_alive ids ts id i true up p)
    ∙ ap (λ t. set ts i t) (sym alive) ∙ set-get_or ts i false

restored-push : (ids : List ℕ) (ts : List Bool) (gone : List ℕ) (id : ℕ) → restored ids ts (gone ++ id ∷ []) ≡ restored ids (with_alive id true ids ts) gone
restored-push ids ts [] id = refl
restored-push ids ts (j ∷ gone) id = restored-push ids (with_alive j true ids ts) gone id ∙ ap (λ xs. restored ids xs gone) (with_alive-swap id j ids ts)

-- one id hidden, or not there
pub deletes_or_lacks : (ids : List ℕ) (ts : List Bool) (id i : ℕ) (t : Bool) → IsAscending ids → length ts ≡ length ids → IsPlace ids id i → t ≡ get_or ts i false
    → MatchBool t (DeletesOne ids ts id (set ts i false)) (Lacks ids ts id (set ts i false))
deletes_or_lacks ids ts id i true up n p at =
    let h = set-with_alive ids ts id i false up p in
    record {
      gone = h;
      back = ap (λ xs. with_alive id true ids xs) h ∙ gone-back ids ts id i up p (sym at);
      was_alive = λ cs m.
          ap (λ (o : Option (List ℤ)). is_some o) (clause_of-place ids cs ts id i up m n p ∙ ap (λ b. if_alive b (get_or cs i [])) (sym at));
    }
deletes_or_lacks ids ts id i false up n p at = record {
  same = ap (λ t. set ts i t) at ∙ set-get_or ts i false;
  absent = λ cs m. clause_of-place ids cs ts id i up m n p ∙ ap (λ b. if_alive b (get_or cs i [])) (sym at);
}

pub lacks-absent : (ids : List ℕ) (ts : List Bool) (id : ℕ) → IsAbsent ids id → Lacks ids ts id ts
lacks-absent ids ts id none = record { same = refl; absent = λ cs m. clause_of-absent ids cs ts id none }

-- a turn of the deletion
deleted-some : (clauses : List (ℕ × List ℤ)) (id : ℕ) (ids : List ℕ) → is_some (clause_of id clauses) ≡ true → deleted clauses (id ∷ ids) ≡ deleted (without id clauses) ids
deleted-some clauses id ids is = by (clause_of id clauses) refl is
  where
    by : (o : Option (List ℤ)) → clause_of id clauses ≡ o → is_some o ≡ true → deleted clauses (id ∷ ids) ≡ deleted (without id clauses) ids
    by None e t = cc
    by (Some c) e t = rw (e, deleted)

deleted-none : (clauses : List (ℕ × List ℤ)) (id : ℕ) (ids : List ℕ) → clause_of id clauses ≡ None → deleted clauses (id ∷ ids) ≡ Err (NoClause (pos id))
deleted-none clauses id ids e = rw (e, deleted)

-- a turn of the deletion of several
abbrev pub AsFirst : List ℕ → List Bool → List ℕ → List Bool → ℕ → Type 0
AsFirst ids first gone ts i =
    (cs : List (List ℤ)) → length cs ≡ length ids → deleted (clauses_in ids cs ts) (drop i gone) ≡ deleted (clauses_in ids cs first) gone

module _ (ids : List ℕ) (first ts us : List Bool) (gone : List ℕ) (i id : ℕ) where
  abbrev rest : List ℕ
  rest = drop (i + 1) gone

  from : i < length gone → id ≡ get_or gone i 0 → drop i gone ≡ id ∷ rest
  from in' at = drop_more gone i 0 in' ∙ ap (λ x. x ∷ rest) (sym at)

  pub delete-turn : i < length gone → id ≡ get_or gone i 0 → DeletesOne ids ts id us → AsFirst ids first gone ts i → AsFirst ids first gone us (i + 1)
  delete-turn in' at h before cs m =
      ap (λ xs. deleted (clauses_in ids cs xs) rest) h.gone
      ∙ ap (λ xs. deleted xs rest) (clauses_in-deleted ids cs ts id)
      ∙ sym (deleted-some (clauses_in ids cs ts) id rest (h.was_alive cs m))
      ∙ ap (λ xs. deleted (clauses_in ids cs ts) xs) (sym (from in' at))
      ∙ before cs m

  pub delete-back : i < length gone → id ≡ get_or gone i 0 → DeletesOne ids ts id us → restored ids ts (take i gone) ≡ first → restored ids us (take (i + 1) gone) ≡ first
  delete-back in' at h before =
      ap (λ xs. restored ids us xs) (take_more gone i 0 in' ∙ ap (λ x. take i gone ++ x ∷ []) (sym at))
      ∙ restored-push ids us (take i gone) id
      ∙ ap (λ xs. restored ids xs (take i gone)) h.back
      ∙ before

  pub delete-fails : i < length gone → id ≡ get_or gone i 0 → Lacks ids ts id us → AsFirst ids first gone ts i
      → (cs : List (List ℤ)) → length cs ≡ length ids → deleted (clauses_in ids cs first) gone ≡ Err (NoClause (pos id))
  delete-fails in' at h before cs m =
      sym (before cs m)
      ∙ ap (λ xs. deleted (clauses_in ids cs ts) xs) (from in' at)
      ∙ deleted-none (clauses_in ids cs ts) id rest (h.absent cs m)
