-- What a start has that a problem allows.
use Rattle.std.proofs.Common.{◌≡◌, ℕ, suc, ◌<◌, ◌≤◌, ◌^◌, true, List, [], ◌∷◌, length, map, refl, ap, arith, length-append}
use Rattle.std.proofs.lemmas.List.{length-replicate, length-map}
use Rattle.std.proofs.lemmas.Bool.{false≢true}
use Rattle.hp_model.specs.WordOperations.{bit_number}
use Rattle.hp_model.specs.State.{Data}
use Rattle.jd_model.specs.Assumptions.{meets}
use Rattle.jd_model.specs.Problems.{Problem, Field, field, fields, nibble_count, numbers, in_range, allows, are_in_fields, is_in_field}
use Rattle.jd_text.proofs.Tests.{left-part, right-part}
use Rattle.jd_model.proofs.FreeStarts.{six-flags, numbers-in-fields, at-field, in-width}

pub record HasParts (p : Problem) (s : Data) : Type 0 where
  pub x : s.x < 2 ^ p.size
  pub y : s.y < 2 ^ p.size
  pub z : s.z < 2 ^ p.size
  pub t : s.t < 2 ^ p.size
  pub last : s.last < 2 ^ p.size
  pub nibbles : length s.nibbles ≡ nibble_count p

-- there are as many numbers as fields
same-length : (fs : List Field) (ns : List ℕ) → are_in_fields fs ns ≡ true → length ns ≡ length fs
same-length [] [] h = refl
same-length [] (n ∷ ns) h = absurd (false≢true h)
same-length (f ∷ fs) [] h = absurd (false≢true h)
same-length (f ∷ fs) (n ∷ ns) h = ap suc (same-length fs ns (right-part (is_in_field f n) (are_in_fields fs ns) h))

pub has-parts : (p : Problem) (s : Data) → allows p s ≡ true → HasParts p s
has-parts p s h =
    let ranged : in_range p s ≡ true = left-part (in_range p s) (meets p.assumed s) h in
    let inside : are_in_fields (fields p) (numbers s) ≡ true = numbers-in-fields p s ranged in
    let enough : 12 ≤ length (fields p) = omega arith in
    let count : length (numbers s) ≡ length (fields p) = same-length (fields p) (numbers s) inside in
    record {
      x = in-width (field p p.size 0) s.x (at-field (fields p) (numbers s) 0 (field p p.size 0) 0 inside (omega (arith, enough)));
      y = in-width (field p p.size 1) s.y (at-field (fields p) (numbers s) 1 (field p p.size 0) 0 inside (omega (arith, enough)));
      z = in-width (field p p.size 2) s.z (at-field (fields p) (numbers s) 2 (field p p.size 0) 0 inside (omega (arith, enough)));
      t = in-width (field p p.size 3) s.t (at-field (fields p) (numbers s) 3 (field p p.size 0) 0 inside (omega (arith, enough)));
      last = in-width (field p p.size 4) s.last (at-field (fields p) (numbers s) 4 (field p p.size 0) 0 inside (omega (arith, enough)));
      nibbles = omega (arith, count, length-append (map bit_number s.flags) s.nibbles, length-map s.flags bit_number, six-flags p s ranged, length-replicate (nibble_count p) (field p 4 12));
    }
