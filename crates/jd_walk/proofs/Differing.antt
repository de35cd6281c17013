-- A literal of a difference where both runs are over, and the whole leaf with it.
use Rattle.std.proofs.Common.{◌≡◌, ℕ, ◌+◌, ◌^◌, ◌≤◌, Bool, true, not, List, [], ◌++◌, length, Option, Some, None, refl, sym, ap, ◌∙◌, subst, arith}
use Rattle.std.proofs.lemmas.Bool.{false≢true}
use Rattle.std.proofs.lemmas.List.Elements.{All-push}
use Rattle.hp_model.specs.State.{Data}
use Rattle.hp_model.specs.declared.End.{End}
use Rattle.jd_circuit.specs.declared.literals.Lit.{Lit}
use Rattle.jd_circuit.specs.Net.{Net, Grows, IsLit, IsWired, variables, eval}
use Rattle.jd_circuit.proofs.Values.{grows_keeps}
use Rattle.jd_model.specs.Problems.{Problem, bits, in_range}
use Rattle.jd_model.specs.Seen.{Seen, seen}
use Rattle.jd_trees.specs.declared.Kind.TheVariants.{Whole}
use Rattle.jd_books.specs.Walks.{Comes, seen_as}
use Rattle.jd_books.specs.Leaves.{Claim, IsFaithfulTo, IsLeaf}
use Rattle.jd_books.proofs.SoundTree.{length-bits}
use Rattle.jd_content.specs.declared.content.SymContent.{SymContent}
use Rattle.jd_content.specs.Meaning.{data_on}
use Rattle.jd_difference.specs.Ends.{HasShape}
use Rattle.jd_symbolic.specs.declared.machine.SymMachine.{SymMachine}
use Rattle.jd_symbolic.specs.Machine.{Stands}
use Rattle.jd_walk.specs.declared.runs.Position.{Position}
use Rattle.jd_walk.specs.declared.places.RunEnd.{RunEnd}
use Rattle.jd_walk.specs.declared.places.FirstEnd.{FirstEnd}
use Rattle.jd_walk.specs.declared.places.Next.{Next}
use Rattle.jd_walk.specs.declared.places.Next.TheVariants.{Ask, Done}
use Rattle.jd_walk.specs.declared.places.Saved.{Saved}
use Rattle.jd_walk.specs.Spots.{AreOver, IsFor, IsSpot, NextHolds, data_at, end_of}
use Rattle.jd_walk.specs.Rooms.{AreRoomy}
use Rattle.jd_walk.specs.Standing.{IsStanding}
use Rattle.jd_walk.specs.SymEnds.{IsEndOf, seen_on, sym_end_of}
use Rattle.jd_walk.specs.Walked.{WhereGuarded, is_done}
use Rattle.jd_walk.proofs.Ends.{ends-grown, first-grown, over-grown}
use Rattle.jd_walk.proofs.Keeping.{saved-grown}
use Rattle.jd_walk.proofs.Standing.{spot-grown}

-- ---- ends as literals

pub seen-end : (val : ℕ → Bool) (end : Option End) (content : SymContent) → seen_on val (sym_end_of end content) ≡ seen_as end (data_on val content)
seen-end val None content = refl
seen-end val (Some end) content = refl

pub end-of : (net : Net) (end : Option End) (content : SymContent) → HasShape (variables net) content → IsEndOf net (sym_end_of end content)
end-of net None content h = tt
end-of net (Some end) content h = h

pub shape-of : (net : Net) (m : SymMachine) → Stands net m → HasShape (variables net) m.content
shape-of net m h = record { size = m.control.size.bits; size_least = m.control.size.at_least_one; size_most = m.control.size.at_most_64; fits = h.fits }

-- ---- more gates

said-grown : (p : Problem) (old new : Net) (path : List Bool) (at : Position) (next : Option Next) → IsFor p old → Grows old new → is_done next ≡ true
    → NextHolds p old path at next → NextHolds p new path at next
said-grown p old new path at None n grows done h = absurd (false≢true done)
said-grown p old new path at (Some (Ask l)) n grows done h = absurd (false≢true done)
said-grown p old new path at (Some (Done l)) n grows done h = record {
  over = h.over;
  inside = (h.inside.0, omega (arith, h.inside.1, grows.inputs, grows.more));
  differs = λ s comes. grows_keeps old new (bits p s) l grows (length-bits p s comes.0 ∙ sym n.inputs) h.inside ∙ h.differs s comes;
}

roomy-grown : (p : Problem) (old new answers : ℕ) (saved : List Saved) (first : Option FirstEnd) (at : Position) (next : Option Next) → new ≤ 2 ^ 29 + 2 ^ 27 → is_done next ≡ true
    → AreRoomy p old answers saved first at next → AreRoomy p new answers saved first at next
roomy-grown p old new answers saved first at None few done h = absurd (false≢true done)
roomy-grown p old new answers saved first at (Some (Ask l)) few done h = absurd (false≢true done)
roomy-grown p old new answers saved first at (Some (Done l)) few done h = record { here = few; kept = h.kept }

pub standing-grown : (p : Problem) (old new : Net) (path : List Bool) (assumed guards : List Lit) (saved : List Saved) (first : Option FirstEnd) (at : Position) (next : Option Next) (last : Option End)
    → Grows old new → length new.gates ≤ 2 ^ 29 + 2 ^ 27 → is_done next ≡ true → IsStanding p old path assumed guards saved first at next last → IsStanding p new path assumed guards saved first at next last
standing-grown p old new path assumed guards saved first at next last grows few done h = record {
  walk = record {
    spot = spot-grown p old new path assumed guards grows h.walk.spot;
    run = λ going. absurd (false≢true (sym going ∙ done));
    said = said-grown p old new path at next h.walk.spot.inputs grows done h.walk.said;
    within = h.walk.within;
    kept = λ k d inside. saved-grown p old new path assumed guards first _ grows (h.walk.kept k d inside);
    at_noes = h.walk.at_noes;
    marks = h.walk.marks;
  };
  ends = ends-grown p old new path (end_of first) at last next h.walk.spot.inputs grows h.ends;
  room = roomy-grown p (length old.gates) (length new.gates) (length path) saved first at next few done h.room;
}

-- both runs are over where `next` said so
pub ended-here : (p : Problem) (net : Net) (path : List Bool) (assumed guards : List Lit) (saved : List Saved) (first : Option FirstEnd) (at : Position) (next : Option Next) (last : Option End) (f : FirstEnd)
    → is_done next ≡ true → first ≡ Some f → IsStanding p net path assumed guards saved first at next last → AreOver p net path f.run at last
ended-here p net path assumed guards saved first at None last f done is h = absurd (false≢true done)
ended-here p net path assumed guards saved first at (Some (Ask l)) last f done is h = absurd (false≢true done)
ended-here p net path assumed guards saved None at (Some (Done l)) last f done is h = absurd h.ends
ended-here p net path assumed guards saved (Some g) at (Some (Done l)) last f done is h = subst (λ (o : FirstEnd). AreOver p net path o.run at last) (let e : g ≡ f = cc in e) h.ends

pub never-none : (p : Problem) (net : Net) (path : List Bool) (assumed guards : List Lit) (saved : List Saved) (first : Option FirstEnd) (at : Position) (next : Option Next) (last : Option End)
    → is_done next ≡ true → first ≡ None → IsStanding p net path assumed guards saved first at next last → ⊥
never-none p net path assumed guards saved first at None last done is h = absurd (false≢true done)
never-none p net path assumed guards saved first at (Some (Ask l)) last done is h = absurd (false≢true done)
never-none p net path assumed guards saved None at (Some (Done l)) last done is h = absurd h.ends
never-none p net path assumed guards saved (Some g) at (Some (Done l)) last done is h = cc

-- what a literal means that speaks of the two ends here
pub differs-here : (p : Problem) (old new : Net) (path : List Bool) (first : RunEnd) (at : Position) (last : Option End) (l : Lit) (differs : Data → Seen → Seen → Bool) → IsFor p old → Grows old new
    → AreOver p old path first at last
    → ((s : Data) → in_range p s ≡ true → eval new (bits p s) l ≡ differs s (seen_as first.end (data_at p new first.content s)) (seen_as last (data_at p new at.machine.content s)))
    → (s : Data) → Comes p path s → eval new (bits p s) l ≡ differs s (seen p p.first s) (seen p p.second s)
differs-here p old new path first at last l differs n grows over means s comes =
    let one = (first-grown p old new path first n grows over.first_end).ends s comes in
    let other = (over-grown p true old new path last at.machine n grows over.stands over.second_end).result s comes in
    means s comes.0 ∙ ap (λ x. differs s x (seen_as last (data_at p new at.machine.content s))) (sym one) ∙ ap (differs s (seen p p.first s)) (sym other)

-- ---- the leaf

pub leaf-with : (p : Problem) (net : Net) (path : List Bool) (assumed guards : List Lit) (diff : Lit) → IsWired net.inputs net.gates → IsSpot p net path assumed guards → IsLit (variables net) diff
    → IsLeaf (record { path = path; inputs = net.inputs; gates = net.gates; guards = assumed ++ guards; diff = diff; kind = Whole })
leaf-with p net path assumed guards diff wired h inside = record { gates = wired; literals = All-push (IsLit (variables net)) (assumed ++ guards) diff h.inside inside }

-- where both runs are over, the leaf with a difference is faithful to each claim that is false where the difference is true
pub faithful-with : (p : Problem) (net : Net) (path : List Bool) (assumed guards : List Lit) (at : Position) (next : Option Next) (diff : Lit) (spent : Bool) (claim : Claim) → IsWired net.inputs net.gates
    → IsSpot p net path assumed guards → NextHolds p net path at next → is_done next ≡ true → IsLit (variables net) diff
    → WhereGuarded (record { problem = p; net = net; path = path; guards = assumed ++ guards; next = next; noes = []; spent = spent }) (λ s. eval net (bits p s) diff ≡ not (claim s))
    → IsFaithfulTo p claim (record { path = path; inputs = net.inputs; gates = net.gates; guards = assumed ++ guards; diff = diff; kind = Whole })
faithful-with p net path assumed guards at None diff spent claim wired h said done inside means = absurd (false≢true done)
faithful-with p net path assumed guards at (Some (Ask l)) diff spent claim wired h said done inside means = absurd (false≢true done)
faithful-with p net path assumed guards at (Some (Done l)) diff spent claim wired h said done inside means = record {
  inputs = h.inputs.inputs;
  leaf = leaf-with p net path assumed guards diff wired h inside;
  walked = h.walked;
  guards = h.guarded;
  whole = λ k s ranged g. record { over = said.over; differs = means s ranged g };
  cut = λ e. cc;
}
