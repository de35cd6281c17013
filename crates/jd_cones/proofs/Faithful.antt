-- The cone of a faithful leaf is faithful.
use Rattle.std.proofs.Common.{◌≡◌, ◌&&◌, Bool, true, List, length, sym, ap, ◌∙◌, subst}
use Rattle.std.specs.List.{list_all}
use Rattle.std.proofs.lemmas.List.Folds.{list_all-map}
use Rattle.hp_model.specs.State.{Data}
use Rattle.jd_circuit.specs.Net.{eval}
use Rattle.jd_model.specs.Problems.{Problem, bits, fields, numbers, in_range, allows}
use Rattle.jd_model.proofs.FreeBits.{length-bits_in}
use Rattle.jd_model.proofs.FreeStarts.{numbers-in-fields}
use Rattle.jd_books.specs.Paths.{answers_of_start, begins, IsWalked, OverAfter}
use Rattle.jd_books.specs.Leaves.{Leaf, net_of, guards_hold, IsLeaf, Claim, IsFaithfulTo}
use Rattle.jd_cones.specs.Cones.{IsConeOf, guard_values}

-- guards hold where all their values are true
hold-by-values : (l : Leaf) (bs : List Bool) → guards_hold l bs ≡ list_all (λ b. b) (guard_values l bs)
hold-by-values l bs = sym (list_all-map (λ (b : Bool). b) (eval (net_of l) bs) l.guards)

pub faithful-cone : (p : Problem) (claim : Claim) (whole cone : Leaf) → IsFaithfulTo p claim whole → IsConeOf whole cone → IsLeaf cone → IsFaithfulTo p claim cone
faithful-cone p claim whole cone f k leaf = record {
  inputs = k.inputs ∙ f.inputs;
  leaf = leaf;
  walked = subst (IsWalked p) (sym k.path) f.walked;
  guards = λ s r. same s r ∙ f.guards s r ∙ ap (λ path. allows p s && begins path (answers_of_start p s)) (sym k.path);
  whole = λ e s r g.
      let w = f.whole (sym k.kind ∙ e) s r (sym (same s r) ∙ g) in
      record { over = subst (OverAfter p) (sym k.path) w.over; differs = k.diff (bits p s) (many s r) ∙ w.differs };
  cut = λ e. k.true_stays (f.cut (sym k.kind ∙ e));
}
  where
    many : (s : Data) → in_range p s ≡ true → length (bits p s) ≡ whole.inputs
    many s r = length-bits_in (fields p) (numbers s) (numbers-in-fields p s r) ∙ sym f.inputs

    same : (s : Data) → in_range p s ≡ true → guards_hold cone (bits p s) ≡ guards_hold whole (bits p s)
    same s r = hold-by-values cone (bits p s) ∙ ap (list_all (λ b. b)) (k.guards (bits p s) (many s r)) ∙ sym (hold-by-values whole (bits p s))
