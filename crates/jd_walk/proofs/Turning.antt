-- A turn of a run: a question, a line done, or the end.
use Rattle.std.proofs.Common.{◌≡◌, ℕ, suc, ◌-◌, ◌<◌, Bool, true, false, not, List, [], ◌++◌, length, take, drop, Option, Some, None, refl, sym, ap, ◌∙◌, subst, arith, length-drop}
use Rattle.std.specs.Bool.{beq}
use Rattle.std.proofs.Math.Seq.{take-length}
use Rattle.hp_model.specs.declared.End.{End}
use Rattle.hp_model.specs.declared.Stop.{Stop}
use Rattle.hp_model.specs.declared.Stop.TheVariants.{Go, Ended}
use Rattle.hp_model.specs.State.{Data}
use Rattle.hp_model.specs.Questions.{Question, holds}
use Rattle.hp_model.specs.Run.{advanced, line_answers}
use Rattle.jd_circuit.specs.declared.literals.Lit.{Lit}
use Rattle.jd_circuit.specs.Meaning.{lit_value}
use Rattle.jd_circuit.specs.Net.{Net, IsLit, IsWired, Grows, Solves, variables, eval}
use Rattle.jd_circuit.proofs.Values.{bits_solve, grows_trans}
use Rattle.jd_model.specs.Problems.{Problem, free_bits, bits}
use Rattle.jd_model.specs.Problems.{in_range}
use Rattle.jd_books.specs.Paths.{line_questions, begins}
use Rattle.jd_books.specs.Walks.{machine_of, answers_after, OpenQuestion, IsTaken, Comes, IsOnWay, IsOver, data_done}
use Rattle.jd_books.proofs.Asking.{taken-nothing}
use Rattle.jd_books.proofs.Walking.{way-same, asks-here, later, front-own, own-is, answer-means, line-goes, line-ends, late-here}
use Rattle.jd_books.proofs.SoundTree.{length-bits}
use Rattle.jd_content.specs.declared.content.SymContent.{SymContent}
use Rattle.jd_content.specs.Meaning.{data_on, Fits}
use Rattle.jd_symbolic.specs.declared.machine.SymMachine.{SymMachine}
use Rattle.jd_symbolic.specs.Machine.{val_of, Stands, state_of}
use Rattle.jd_symbolic.proofs.OnBits.{data_kept}
use Rattle.jd_walk.specs.NextLine.{IsLineAsk, LineAsks, LineSteps}
use Rattle.jd_walk.proofs.Answering.{drop-length}
use Rattle.jd_walk.specs.declared.runs.Position.{Position}
use Rattle.jd_walk.specs.declared.runs.Reach.TheVariants.{Ask}
use Rattle.jd_walk.specs.Spots.{IsFor, data_at, IsReady, IsAt, IsAsk, IsReached}

-- ---- more gates

pub data-grown : (p : Problem) (old new : Net) (w : ℕ) (content : SymContent) (s : Data) → old.inputs ≡ free_bits p → Grows old new → Fits (variables old) w content → in_range p s ≡ true
    → data_at p new content s ≡ data_at p old content s
data-grown p old new w content s n grows fits ranged = data_kept old new (bits p s) grows (length-bits p s ranged ∙ sym n) w content fits

pub at-grown : (p : Problem) (second : Bool) (old new : Net) (path : List Bool) (at : Position) → old.inputs ≡ free_bits p → Grows old new → Stands old at.machine
    → IsAt p second old path at → IsAt p second new path at
at-grown p second old new path at n grows stands h = record {
  way = way-same p second path (take at.from path) (drop at.from path) at.left (state_of at.machine) (data_at p old at.machine.content) (data_at p new at.machine.content)
      (λ s comes. data-grown p old new at.machine.control.size.bits at.machine.content s n grows stands.fits comes.0) h.way;
  ready = h.ready;
  none_left = h.none_left;
}

-- the values on a start's bits agree with the gates
pub solves-start : (p : Problem) (net : Net) (s : Data) → net.inputs ≡ free_bits p → IsWired net.inputs net.gates → in_range p s ≡ true → Solves net (val_of net (bits p s))
solves-start p net s n wired allowed = bits_solve net (bits p s) (length-bits p s allowed ∙ sym n) wired

pub for-grown : (p : Problem) (old new : Net) → Grows old new → IsFor p old → IsFor p new
for-grown p old new grows n = record { inputs = grows.inputs ∙ n.inputs }

-- the rest of a path from a place on, as code takes it
pub rest-is : (k : ℕ) (xs : List Bool) → take (length xs - k) (drop k xs) ≡ drop k xs
rest-is k xs = ap (λ n. take n (drop k xs)) (sym (length-drop k xs)) ∙ take-length (drop k xs)

-- ---- what code says of a machine that is the same

pub with-machine : (P : Position → Type 0) (at : Position) (m : SymMachine) → m ≡ at.machine → P at → P (record at { machine = m })
with-machine P at m e h = subst (λ k. P (record at { machine = k })) (sym e) h

pub asked-is : (net : Net) (m : SymMachine) (from : ℕ) (path : List Bool) (asked : Option Lit) → LineAsks net m (take (length path - from) (drop from path)) asked → LineAsks net m (drop from path) asked
asked-is net m from path asked h = subst (λ given. LineAsks net m given asked) (rest-is from path) h

pub stepped-is : (net : Net) (m same new : SymMachine) (from : ℕ) (path : List Bool) (stop : Stop) → same ≡ m → LineSteps net same new (take (length path - from) (drop from path)) stop
    → LineSteps net m new (drop from path) stop
stepped-is net m same new from path stop e h =
    subst (λ k. LineSteps net k new (drop from path) stop) e (subst (λ given. LineSteps net same new given stop) (rest-is from path) h)

-- ---- a question

beq-true : (b : Bool) → beq true b ≡ b
beq-true true = refl
beq-true false = refl

beq-false : (b : Bool) → beq false b ≡ not b
beq-false true = refl
beq-false false = refl

module _ (p : Problem) (second : Bool) (net : Net) (path consumed given : List Bool) (m : SymMachine) where
  asks-of : (n : ℕ) (l : Lit) (q : Question) → net.inputs ≡ free_bits p → IsWired net.inputs net.gates
      → IsOnWay p second path consumed given (suc n) (state_of m) (data_at p net m.content) → OpenQuestion (state_of m) given q → IsLit (variables net) l
      → ((val : ℕ → Bool) (rest : List Bool) → Solves net val → begins given (line_answers (machine_of (state_of m) (data_on val m.content)) ++ rest) ≡ true → lit_value val l ≡ holds q (advanced (state_of m)) (data_on val m.content))
      → IsAsk p net path l
  asks-of n l q inputs wired way o inside means =
      let same : (s : Data) → Comes p path s → eval net (bits p s) l ≡ holds q (advanced (state_of m)) (data_at p net m.content s) =
      λ s h. means (val_of net (bits p s)) (later n (machine_of (state_of m) (data_at p net m.content s)) ++ answers_after p second s) (solves-start p net s inputs wired h.0) (front-own n s way h) in
      record {
        asks = asks-here n q way o;
        inside = inside;
        means = λ s h. answer-means n q true s way o h ∙ beq-true (holds q (advanced (state_of m)) (data_at p net m.content s)) ∙ sym (same s h);
        means_not = λ s h. answer-means n q false s way o h ∙ beq-false (holds q (advanced (state_of m)) (data_at p net m.content s)) ∙ ap not (sym (same s h));
      }

pub reached-ask : (p : Problem) (second : Bool) (old new : Net) (path : List Bool) (at : Position) (asked : Option Lit) (l : Lit) → IsFor p old → Grows old new → IsWired new.inputs new.gates
    → Stands old at.machine → 0 < at.left → LineAsks new at.machine (drop at.from path) asked → asked ≡ Some l → IsAt p second old path at → IsReached p second new path at (Ask l)
reached-ask p second old new path at asked l n grows wired stands some asks e h =
    let here = at-grown p second old new path at n.inputs grows stands h in
    let lines : at.left ≡ suc (at.left - 1) = omega arith in
    let ask : IsLineAsk new at.machine (drop at.from path) l = asks.some l e in (
      here,
      some,
      (ask.question, ask.is_open),
      asks-of p second new path (take at.from path) (drop at.from path) at.machine (at.left - 1) l ask.question (grows.inputs ∙ n.inputs) wired
          (subst (λ k. IsOnWay p second path (take at.from path) (drop at.from path) k (state_of at.machine) (data_at p new at.machine.content)) lines here.way) ask.is_open ask.inside ask.means,
    )

-- ---- a line done

module _ (p : Problem) (second : Bool) (net : Net) (path consumed given : List Bool) (old new : SymMachine) (n : ℕ) where
  same-data : (stop : Stop) → net.inputs ≡ free_bits p → IsWired net.inputs net.gates → IsOnWay p second path consumed given (suc n) (state_of old) (data_at p net old.content)
      → IsTaken (state_of old) given → LineSteps net old new given stop → (s : Data) → Comes p path s
      → data_at p net new.content s ≡ data_done (state_of old) given (data_at p net old.content s)
  same-data stop inputs wired way whole steps s h =
      steps.contents (val_of net (bits p s)) (solves-start p net s inputs wired h.0) (own-is n s way whole h)

  goes-of : net.inputs ≡ free_bits p → IsWired net.inputs net.gates → IsOnWay p second path consumed given (suc n) (state_of old) (data_at p net old.content)
      → IsTaken (state_of old) given → LineSteps net old new given Go → IsOnWay p second path path [] n (state_of new) (data_at p net new.content)
  goes-of inputs wired way whole steps = line-goes n (state_of new) (data_at p net new.content) way whole steps.control (same-data Go inputs wired way whole steps)

  ends-of : (end : End) → net.inputs ≡ free_bits p → IsWired net.inputs net.gates → IsOnWay p second path consumed given (suc n) (state_of old) (data_at p net old.content)
      → IsTaken (state_of old) given → LineSteps net old new given (Ended end) → IsOver p second path (Some end) (data_at p net new.content)
  ends-of end inputs wired way whole steps = line-ends n (state_of new) end (data_at p net new.content) way whole steps.control (same-data (Ended end) inputs wired way whole steps)

-- a run stands where all answers so far belong to lines done
pub at-line : (p : Problem) (second : Bool) (net : Net) (path : List Bool) (m : SymMachine) (left : ℕ) → IsOnWay p second path path [] left (state_of m) (data_at p net m.content)
    → IsAt p second net path (record { machine = m; left = left; from = length path })
at-line p second net path m left way = record {
  way = subst (λ g. IsOnWay p second path (take (length path) path) g left (state_of m) (data_at p net m.content)) (sym (drop-length path))
      (subst (λ g. IsOnWay p second path g [] left (state_of m) (data_at p net m.content)) (sym (take-length path)) way);
  ready = subst (λ g. IsReady (state_of m) g) (sym (drop-length path)) (λ none rest. taken-nothing (line_questions (state_of m)) rest none);
  none_left = λ e. drop-length path;
}

pub turned-go : (p : Problem) (second : Bool) (old mid net : Net) (path : List Bool) (at : Position) (new : SymMachine) (asked : Option Lit) (stop : Stop) → IsFor p old → Grows old mid → Grows mid net → IsWired net.inputs net.gates
    → Stands old at.machine → 0 < at.left → LineAsks mid at.machine (drop at.from path) asked → asked ≡ None
    → LineSteps net at.machine new (drop at.from path) stop → stop ≡ Go → IsAt p second old path at
    → IsAt p second net path (record { machine = new; left = at.left - 1; from = length path })
turned-go p second old mid net path at new asked stop n first more wired stands some asks none steps e h =
    let grows : Grows old net = grows_trans old mid net first more in
    let here = at-grown p second old net path at n.inputs grows stands h in
    let lines : at.left ≡ suc (at.left - 1) = omega arith in
    at-line p second net path new (at.left - 1)
    (goes-of p second net path (take at.from path) (drop at.from path) at.machine new (at.left - 1) (grows.inputs ∙ n.inputs) wired
    (subst (λ k. IsOnWay p second path (take at.from path) (drop at.from path) k (state_of at.machine) (data_at p net at.machine.content)) lines here.way)
    (here.ready (asks.none none)) (subst (LineSteps net at.machine new (drop at.from path)) e steps))

pub reached-end : (p : Problem) (second : Bool) (old mid net : Net) (path : List Bool) (at : Position) (new : SymMachine) (asked : Option Lit) (stop : Stop) (end : End) → IsFor p old → Grows old mid → Grows mid net → IsWired net.inputs net.gates
    → Stands old at.machine → 0 < at.left → LineAsks mid at.machine (drop at.from path) asked → asked ≡ None
    → LineSteps net at.machine new (drop at.from path) stop → stop ≡ Ended end → IsAt p second old path at
    → IsOver p second path (Some end) (data_at p net new.content)
reached-end p second old mid net path at new asked stop end n first more wired stands some asks none steps e h =
    let grows : Grows old net = grows_trans old mid net first more in
    let here = at-grown p second old net path at n.inputs grows stands h in
    let lines : at.left ≡ suc (at.left - 1) = omega arith in
    ends-of p second net path (take at.from path) (drop at.from path) at.machine new (at.left - 1) end (grows.inputs ∙ n.inputs) wired
    (subst (λ k. IsOnWay p second path (take at.from path) (drop at.from path) k (state_of at.machine) (data_at p net at.machine.content)) lines here.way)
    (here.ready (asks.none none)) (subst (LineSteps net at.machine new (drop at.from path)) e steps)

pub reached-late : (p : Problem) (second : Bool) (net : Net) (path : List Bool) (at : Position) → at.left ≡ 0 → IsAt p second net path at
    → IsOver p second path None (data_at p net at.machine.content)
reached-late p second net path at none h =
    late-here p second path (take at.from path) (drop at.from path) (state_of at.machine) (data_at p net at.machine.content) (data_at p net at.machine.content)
    (subst (λ k. IsOnWay p second path (take at.from path) (drop at.from path) k (state_of at.machine) (data_at p net at.machine.content)) none h.way) (h.none_left none)
