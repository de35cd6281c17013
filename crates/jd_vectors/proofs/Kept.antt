-- Lists of literals while a circuit grows.
use Rattle.std.proofs.Common.{Bool, true, false, ◌≡◌, ℕ, zero, suc, ◌≤◌, Some, List, [], ◌∷◌, ◌++◌, length, length-drop, take, drop, slice_get, slice_range, ◌-◌, refl, sym, ap, ◌∙◌, arith}
use Rattle.std.proofs.Math.Seq.{take-length}
use Rattle.jd_circuit.specs.declared.literals.Lit.{Lit}
use Rattle.jd_circuit.specs.declared.literals.Lit.TheVariants.{Const, Var, Not}
use Rattle.jd_circuit.specs.Meaning.{variable, opposite}
use Rattle.jd_circuit.specs.Net.{Net, low, IsLit, IsOf, Grows, variables}
pub use Rattle.jd_circuit.proofs.Values.{grows_trans}
use Rattle.jd_vectors.specs.Number.{Inside, AreOf, plain, turned}

pub Inside-push : (n : ℕ) (ls : List Lit) (l : Lit) → Inside n ls → IsLit n l → Inside n (ls ++ l ∷ [])
Inside-push n [] l h i = record { from_one = omega arith; to_last = omega arith }
Inside-push n (x ∷ ls) l h i =
    let rest = Inside-push n ls l (record { from_one = omega arith; to_last = omega arith }) i in
    record { from_one = omega arith; to_last = omega arith }

pub Inside-at : (n : ℕ) (ls : List Lit) (i : ℕ) (l : Lit) → Inside n ls → slice_get ls i ≡ Some l → IsLit n l
Inside-at n [] i l h e = cc
Inside-at n (x ∷ ls) zero l h e =
    let one : x ≡ l = cc in
    let lows : low x ≡ low l = ap low one in
    let highs : variable x ≡ variable l = ap variable one in
    (omega arith, omega arith)
Inside-at n (x ∷ ls) (suc i) l h e = Inside-at n ls i l (record { from_one = omega arith; to_last = omega arith }) e

pub Inside-more : (m n : ℕ) (ls : List Lit) → m ≤ n → Inside m ls → Inside n ls
Inside-more m n ls h i = record { from_one = omega arith; to_last = omega arith }

pub opposite_low : (l : Lit) → low (opposite l) ≡ low l
opposite_low (Const b) = refl
opposite_low (Var v) = refl
opposite_low (Not v) = refl

pub opposite_variable : (l : Lit) → variable (opposite l) ≡ variable l
opposite_variable (Const b) = refl
opposite_variable (Var v) = refl
opposite_variable (Not v) = refl

pub IsLit-opposite : (n : ℕ) (l : Lit) → IsLit n l → IsLit n (opposite l)
IsLit-opposite n l h = (omega (arith, opposite_low l), omega (arith, opposite_variable l))

-- a literal of a list, in a later circuit
pub listed : (old new : Net) (ls : List Lit) (i : ℕ) (l : Lit) → Grows old new → AreOf old ls → slice_get ls i ≡ Some l → IsOf new l
listed old new ls i l p h e = Inside-at (variables new) ls i l (record { from_one = h.from_one; to_last = omega arith }) e

-- one more literal, in a later circuit
pub pushed : (old new : Net) (ls : List Lit) (l : Lit) → Grows old new → AreOf old ls → IsOf new l → AreOf new (ls ++ l ∷ [])
pushed old new ls l p h i = Inside-push (variables new) ls l (record { from_one = h.from_one; to_last = omega arith }) i

-- a literal of a circuit is one of a later circuit
pub one_of : (old new : Net) (l : Lit) → Grows old new → IsOf old l → IsOf new l
one_of old new l p h = (h.0, omega arith)

-- and so are all of a list
pub all_of : (old new : Net) (ls : List Lit) → Grows old new → AreOf old ls → AreOf new ls
all_of old new ls p h = record { from_one = h.from_one; to_last = omega arith }

pub Inside-cons : (n : ℕ) (l : Lit) (ls : List Lit) → IsLit n l → Inside n ls → Inside n (l ∷ ls)
Inside-cons n l ls i h = record { from_one = omega arith; to_last = omega arith }

pub Inside-append : (n : ℕ) (ks ls : List Lit) → Inside n ks → Inside n ls → Inside n (ks ++ ls)
Inside-append n [] ls h i = i
Inside-append n (k ∷ ks) ls h i =
    let rest = Inside-append n ks ls (record { from_one = omega arith; to_last = omega arith }) i in
    record { from_one = omega arith; to_last = omega arith }

pub Inside-take : (n k : ℕ) (ls : List Lit) → Inside n ls → Inside n (take k ls)
Inside-take n zero ls h = record { from_one = omega arith; to_last = omega arith }
Inside-take n (suc k) [] h = h
Inside-take n (suc k) (l ∷ ls) h =
    let rest = Inside-take n k ls (record { from_one = omega arith; to_last = omega arith }) in
    record { from_one = omega arith; to_last = omega arith }

pub Inside-drop : (n k : ℕ) (ls : List Lit) → Inside n ls → Inside n (drop k ls)
Inside-drop n zero ls h = h
Inside-drop n (suc k) [] h = h
Inside-drop n (suc k) (l ∷ ls) h = Inside-drop n k ls (record { from_one = omega arith; to_last = omega arith })

-- a part from the start
pub front : (ls : List Lit) (k : ℕ) → slice_range ls 0 k ≡ take k ls
front ls k = let e : k - 0 ≡ k = omega arith in ap (λ j. take j ls) e

-- a part up to the end
pub back : (ls : List Lit) (k n : ℕ) → n ≡ length ls → slice_range ls k n ≡ drop k ls
back ls k n e =
    let m : n - k ≡ length (drop k ls) = ap (λ j. j - k) e ∙ sym (length-drop k ls) in
    ap (λ j. take j (drop k ls)) m ∙ take-length (drop k ls)

pub IsLit-plain : (n : ℕ) (l : Lit) → IsLit n l → IsLit n (plain l)
IsLit-plain n (Const b) h = h
IsLit-plain n (Var v) h = h
IsLit-plain n (Not v) h = h

pub IsLit-turned : (n : ℕ) (t : Bool) (l : Lit) → IsLit n l → IsLit n (turned t l)
IsLit-turned n true l h = IsLit-opposite n l h
IsLit-turned n false l h = h
