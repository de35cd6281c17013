-- Where all inputs have values and no clause gives more, these values make every clause true by propagation.
use Rattle.std.proofs.Common.{◌≡◌, inl, inr, ℕ, ℤ, Bool, true, false, ◌&&◌, ◌||◌, List, [], ◌∷◌, refl, length}
use Rattle.std.specs.Prelude.{neg_ℤ, ◌==◌}
use Rattle.std.specs.List.{list_any, list_all}
use Rattle.std.proofs.Common.{eq-eqb}
use Rattle.std.proofs.lemmas.List.Elements.{All-head, All-tail}
use Rattle.jd_logic.specs.Literals.{has}
use Rattle.jd_proving.specs.Propagation.{is_consistent, has_false, has_value}
use Rattle.jd_proving.specs.Proving.{literals_of, made_true, is_decided, is_model}
use Rattle.jd_propagate.specs.Quiet.{IsWithin, HasNoOpposites, IsQuiet, AreQuiet}
use Rattle.jd_propagate.proofs.Members.{false_is_not_true, and_true, and_left, and_right, list_any-some, list_all-at}
use Rattle.jd_propagate.proofs.Closure.{still_open, propagated-within, consistent-within, none_false}

value_true : (a b : Bool) → (a || b) ≡ true → b ≡ false → a ≡ true
value_true true b e f = refl
value_true false b e f = absurd (false_is_not_true b f e)

clause_true : (xs ys clause : List ℤ) → IsWithin xs ys → HasNoOpposites ys → IsQuiet ys clause → list_all (has_value xs) clause ≡ true → list_any (has xs) clause ≡ true
clause_true xs ys clause w h (inl (l, t)) all =
    list_any-some (has xs) clause l t.among (value_true (has xs l) (has xs (neg_ℤ l)) (list_all-at (has_value xs) clause l all t.among) (still_open xs ys l w (h l t.is_true)))
clause_true xs ys clause w h (inr (p, o)) all =
    list_any-some (has xs) clause (p.0) o.first.among
    (value_true (has xs (p.0)) (has xs (neg_ℤ (p.0))) (list_all-at (has_value xs) clause (p.0) all o.first.among) (still_open xs ys (p.0) w o.first.not_false))

clauses_true : (xs ys : List ℤ) (clauses : List (List ℤ)) → IsWithin xs ys → HasNoOpposites ys → AreQuiet ys clauses
    → list_all (λ c. list_all (has_value xs) c) clauses ≡ true → list_all (λ c. list_any (has xs) c) clauses ≡ true
clauses_true xs ys [] w h q all = refl
clauses_true xs ys (c ∷ cs) w h q all =
    let P : List ℤ → Type 0 = λ c. IsQuiet ys c in
    let f : List ℤ → Bool = λ c. list_all (has_value xs) c in
    and_true (list_any (has xs) c) (list_all (λ c. list_any (has xs) c) cs)
    (clause_true xs ys c w h (All-head P c cs q) (and_left (f c) (list_all f cs) all))
    (clauses_true xs ys cs w h (All-tail P c cs q) (and_right (f c) (list_all f cs) all))

pub model_found : (clauses : List (List ℤ)) (inputs : ℕ) (bits : List Bool) (ys : List ℤ) → length bits ≡ inputs → is_decided clauses bits ≡ true
    → IsWithin (literals_of bits) ys → HasNoOpposites ys → AreQuiet ys clauses → is_model clauses inputs bits ≡ true
model_found clauses inputs bits ys n d w h q =
    let xs = made_true clauses bits in
    let v = propagated-within (literals_of bits) ys clauses w h q in
    and_true (length bits == inputs && is_consistent xs clauses) (list_all (λ c. list_any (has xs) c) clauses)
    (and_true (length bits == inputs) (is_consistent xs clauses) (eq-eqb (length bits) inputs n) (consistent-within xs ys clauses v h q))
    (clauses_true xs ys clauses v h q (values (has_false xs clauses) (list_all (λ c. list_all (has_value xs) c) clauses) d (none_false xs ys clauses v h q)))
  where
    values : (a b : Bool) → (a || b) ≡ true → a ≡ false → b ≡ true
    values true b e f = cc
    values false b e f = e
