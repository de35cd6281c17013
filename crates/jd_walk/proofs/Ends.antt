-- Where runs begin and end.
use Rattle.std.proofs.Common.{◌≡◌, ℕ, ◌*◌, Bool, true, false, not, List, [], length, Option, Some, None, sym, ap, ◌∙◌, subst}
use Rattle.hp_model.specs.declared.End.{End}
use Rattle.jd_circuit.specs.declared.literals.Lit.{Lit}
use Rattle.jd_circuit.specs.Meaning.{lit_value}
use Rattle.jd_circuit.specs.Net.{Net, IsLit, IsWired, Grows, Solves, variables}
use Rattle.jd_model.specs.Problems.{Problem, bits, nibble_count}
use Rattle.jd_model.specs.Seen.{first_control, agree_on}
use Rattle.jd_books.specs.Walks.{IsOnWay, IsOver, routine_of, seen_as}
use Rattle.jd_books.proofs.Walking.{first-begun, second-begun, both-over}
use Rattle.jd_content.specs.declared.content.SymContent.{SymContent}
use Rattle.jd_content.specs.Meaning.{data_on}
use Rattle.jd_content.proofs.Contents.{fits_grow}
use Rattle.jd_symbolic.specs.declared.machine.SymMachine.{SymMachine}
use Rattle.jd_symbolic.specs.Machine.{val_of, Stands}
use Rattle.jd_symbolic.proofs.Standing.{stands_grown}
use Rattle.jd_difference.specs.Ends.{IsOfRun}
use Rattle.jd_walk.specs.declared.runs.Position.{Position}
use Rattle.jd_walk.specs.declared.places.RunEnd.{RunEnd}
use Rattle.jd_walk.specs.declared.places.Next.{Next}
use Rattle.jd_walk.specs.declared.places.Next.TheVariants.{Ask, Done}
use Rattle.jd_walk.specs.NextLine.{nibbles_of}
use Rattle.jd_walk.specs.Spots.{EndsHold, IsFor, IsAt, IsBegun, IsDoneHere, IsFirst, IsPlaced, IsRun, data_at}
use Rattle.jd_walk.proofs.Answering.{placed-at_line}
use Rattle.jd_walk.proofs.Turning.{at-line, data-grown, solves-start}

-- ---- where runs begin

-- a run that begins stands at its first line
begun-at : (p : Problem) (second : Bool) (net : Net) (path : List Bool) (m : SymMachine) → IsBegun p second net m
    → IsOnWay p second path path [] p.steps (first_control p (routine_of p second)) (data_at p net m.content)
    → IsAt p second net path (record { machine = m; left = p.steps; from = length path })
begun-at p second net path m begun way =
    at-line p second net path m p.steps (subst (λ c. IsOnWay p second path path [] p.steps c (data_at p net m.content)) (sym begun.control) way)

pub first-run : (p : Problem) (net : Net) (m : SymMachine) → IsBegun p false net m
    → IsRun p net [] None (record { machine = m; left = p.steps; from = 0 })
first-run p net m begun = record {
  placed = placed-at_line net [] m p.steps begun.machine;
  memory = begun.memory;
  run = begun-at p false net [] m begun (first-begun p (data_at p net m.content) begun.means);
  first_end = tt;
}

pub begun-grown : (p : Problem) (second : Bool) (old new : Net) (m : SymMachine) → IsFor p old → Grows old new → IsBegun p second old m → IsBegun p second new m
begun-grown p second old new m n grows h = record {
  control = h.control;
  machine = record { stands = stands_grown old new m grows h.machine.stands; line = h.machine.line };
  memory = h.memory;
  means = λ s ranged. data-grown p old new m.control.size.bits m.content s n.inputs grows h.machine.stands.fits ranged ∙ h.means s ranged;
}

-- the second run begins where the first is over
pub second-run : (p : Problem) (net : Net) (path : List Bool) (end : Option End) (content : SymContent) (at : Position) → IsOver p false path end (data_at p net content) → IsOfRun p net content
    → IsBegun p true net at.machine → at.left ≡ p.steps → at.from ≡ length path → IsRun p net path (Some (record { end = end; content = content })) at
second-run p net path end content at over inside begun left from =
    let first : RunEnd = record { end = end; content = content } in
    subst (λ n. IsRun p net path (Some first) (record { machine = at.machine; left = n; from = at.from })) (sym left)
    (subst (λ n. IsRun p net path (Some first) (record { machine = at.machine; left = p.steps; from = n })) (sym from) (record {
      placed = placed-at_line net path at.machine p.steps begun.machine;
      memory = begun.memory;
      run = begun-at p true net path at.machine begun (second-begun p path end (data_at p net content) (data_at p net at.machine.content) over begun.means);
      first_end = record { inside = inside; ends = λ s comes. over.result s comes };
    }))

-- ---- where both are over

-- the content of a machine of a run
pub of-run : (p : Problem) (net : Net) (m : SymMachine) → nibbles_of m ≡ nibble_count p → Stands net m → IsOfRun p net m.content
of-run p net m memory stands = record {
  shape = record { size = m.control.size.bits; size_least = m.control.size.at_least_one; size_most = m.control.size.at_most_64; fits = stands.fits };
  nibbles = stands.nibbles ∙ ap (λ n. 4 * n) memory;
}

-- a literal means that the two ends aren't seen the same
pub done-here : (p : Problem) (net : Net) (path : List Bool) (first : RunEnd) (end : Option End) (content : SymContent) (l : Lit) → IsFor p net → IsWired net.inputs net.gates
    → IsFirst p net path first → IsOver p true path end (data_at p net content) → IsLit (variables net) l
    → ((val : ℕ → Bool) → Solves net val → lit_value val l ≡ not (agree_on p.observed (seen_as first.end (data_on val first.content)) (seen_as end (data_on val content))))
    → IsDoneHere p net path l
done-here p net path first end content l n wired ended over inside means =
    let both = both-over p path first.end end (data_at p net first.content) (data_at p net content) ended.ends over in
    record {
      over = both.0;
      inside = inside;
      differs = λ s comes. means (val_of net (bits p s)) (solves-start p net s n.inputs wired comes.0) ∙ ap not (sym (both.1 s comes));
    }

-- ---- more gates

pub placed-grown : (old new : Net) (path : List Bool) (at : Position) → Grows old new → IsPlaced old path at → IsPlaced new path at
placed-grown old new path at grows h = record {
  machine = record { stands = stands_grown old new at.machine grows h.machine.stands; line = h.machine.line };
  from = h.from;
  so_far = h.so_far;
}

pub of-run-grown : (p : Problem) (old new : Net) (content : SymContent) → Grows old new → IsOfRun p old content → IsOfRun p new content
of-run-grown p old new content grows h = record {
  shape = record { size = h.shape.size; size_least = h.shape.size_least; size_most = h.shape.size_most; fits = fits_grow old new h.shape.size content grows h.shape.fits };
  nibbles = h.nibbles;
}

pub first-grown : (p : Problem) (old new : Net) (path : List Bool) (first : RunEnd) → IsFor p old → Grows old new → IsFirst p old path first → IsFirst p new path first
first-grown p old new path first n grows h = record {
  inside = of-run-grown p old new first.content grows h.inside;
  ends = λ s comes. h.ends s comes ∙ ap (seen_as first.end) (sym (data-grown p old new h.inside.shape.size first.content s n.inputs grows h.inside.shape.fits comes.0));
}

pub over-grown : (p : Problem) (second : Bool) (old new : Net) (path : List Bool) (end : Option End) (m : SymMachine) → IsFor p old → Grows old new → Stands old m
    → IsOver p second path end (data_at p old m.content) → IsOver p second path end (data_at p new m.content)
over-grown p second old new path end m n grows stands h = record {
  control = h.control;
  answers = h.answers;
  result = λ s comes. h.result s comes ∙ ap (seen_as end) (sym (data-grown p old new m.control.size.bits m.content s n.inputs grows stands.fits comes.0));
}

pub ends-grown : (p : Problem) (old new : Net) (path : List Bool) (first : Option RunEnd) (at : Position) (last : Option End) (next : Option Next) → IsFor p old → Grows old new
    → EndsHold p old path first at last next → EndsHold p new path first at last next
ends-grown p old new path first at last None n grows h = tt
ends-grown p old new path first at last (Some (Ask l)) n grows h = tt
ends-grown p old new path None at last (Some (Done l)) n grows h = absurd h
ends-grown p old new path (Some first) at last (Some (Done l)) n grows h = record {
  first_end = first-grown p old new path first n grows h.first_end;
  second_end = over-grown p true old new path last at.machine n grows h.stands h.second_end;
  stands = stands_grown old new at.machine grows h.stands;
}
