-- Moves of the stack and answers, on the data and its shape.
use Rattle.std.proofs.Common.{◌≡◌, ℕ, zero, suc, ◌≤◌, Bool, false, List, [], ◌∷◌, map, set, get_or, slice_get, Some, None, refl, sym, ap, ◌∙◌, arith}
use Rattle.std.proofs.lemmas.List.{map-set}
use Rattle.std.specs.declared.option.Option.{Option}
use Rattle.hp_model.specs.State.{Data}
use Rattle.hp_model.specs.DataStep.{answered}
use Rattle.jd_circuit.specs.declared.literals.Lit.{Lit}
use Rattle.jd_circuit.specs.Meaning.{lit_value}
use Rattle.jd_circuit.specs.Net.{Net, Grows, variables, IsLit}
use Rattle.jd_vectors.specs.Number.{Inside}
use Rattle.jd_content.specs.declared.content.SymContent.{SymContent}
use Rattle.jd_rows.specs.Answers.{IsWord, AnswerFits}
use Rattle.jd_content.specs.Meaning.{flag_after, Fits}
use Rattle.jd_rows.specs.declared.answer.SymAnswer.{SymAnswer}

pub flag_set : (val : ℕ → Bool) (flags : List Lit) (n : ℕ) (l : Lit) → map (lit_value val) (set flags n l) ≡ set (map (lit_value val) flags) n (lit_value val l)
flag_set val flags n l = map-set (lit_value val) flags n l

pub inside_set : (n : ℕ) (ls : List Lit) (i : ℕ) (l : Lit) → Inside n ls → IsLit n l → Inside n (set ls i l)
inside_set n [] i l h k = h
inside_set n (x ∷ ls) zero l h k = record { from_one = omega arith; to_last = omega arith }
inside_set n (x ∷ ls) (suc i) l h k =
    let rest = inside_set n ls i l (record { from_one = omega arith; to_last = omega arith }) k in
    record { from_one = omega arith; to_last = omega arith }

-- an answer sets the pattern and the flags
pub answered_is : (p : ℕ) (carry range : Option Bool) (d : Data) → record d { x = p; flags = flag_after 5 range (flag_after 4 carry d.flags) } ≡ answered (record { pattern = p; carry = carry; range = range }) d
answered_is p None None d = refl
answered_is p None (Some b) d = refl
answered_is p (Some a) None d = refl
answered_is p (Some a) (Some b) d = refl

-- ---- shapes, as a circuit grows

pub word_more : (m n w : ℕ) (ls : List Lit) → m ≤ n → IsWord m w ls → IsWord n w ls
word_more m n w ls h i = record { size = i.size; inside = record { from_one = i.inside.from_one; to_last = omega arith } }

pub inside_more : (m n : ℕ) (ls : List Lit) → m ≤ n → Inside m ls → Inside n ls
inside_more m n ls h i = record { from_one = i.from_one; to_last = omega arith }

pub fits_grow : (a b : Net) (w : ℕ) (c : SymContent) → Grows a b → Fits (variables a) w c → Fits (variables b) w c
fits_grow a b w c p h =
    let more : variables a ≤ variables b = omega arith in
    record {
      x = word_more _ _ w c.x more h.x;
      y = word_more _ _ w c.y more h.y;
      z = word_more _ _ w c.z more h.z;
      t = word_more _ _ w c.t more h.t;
      l = word_more _ _ w c.l more h.l;
      i = word_more _ _ 64 c.i more h.i;
      flags = inside_more _ _ c.flags more h.flags;
      nibbles = inside_more _ _ c.nibbles more h.nibbles;
    }

-- an answer at another name of its size
pub answer_at : (n v w : ℕ) (a : SymAnswer) → v ≡ w → AnswerFits n v a → AnswerFits n w a
answer_at n v w a e h = record { pattern = record { size = h.pattern.size ∙ e; inside = h.pattern.inside }; carry = h.carry; range = h.range }

-- a flag of literals
pub flag_at : (f : Lit → Bool) (flags : List Lit) (n : ℕ) (l : Lit) → slice_get flags n ≡ Some l → f l ≡ get_or (map f flags) n false
flag_at f [] n l e = cc
flag_at f (x ∷ flags) zero l e = first e
  where
    first : Some x ≡ Some l → f l ≡ f x
    first h = ap (λ (o : Option Lit). elim o [ None ↦ false | Some y ↦ f y ]) (sym h)
flag_at f (x ∷ flags) (suc n) l e = flag_at f flags n l e
