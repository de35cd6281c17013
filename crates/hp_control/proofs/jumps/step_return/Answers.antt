use Rattle.std.proofs.Common.{◌≡◌, ℕ, ◌+◌, ◌≤◌, List, ◌∷◌, length, arith, ap, sym, ◌∙◌, refl, subst, lit≤}
use Rattle.std.specs.Prelude.{All}
use Rattle.std.proofs.Math.Nat.{one-le-pow}
use Rattle.std.proofs.lemmas.List.Elements.{All-head, All-tail}
use Rattle.hp_control.proofs.jumps.step_return.Goals as goal

pub returns-in-Some : goal.returns-in-Some
returns-in-Some c = λ listing given bounds.
    let Within : ℕ → Type 0 = λ line. (1 ≤ line) × (line ≤ length listing.codes + 1) in
    let AllWithin : List ℕ → Type 0 = λ calls. All Within calls in
    let calls : c.args.control.now.calls ≡ c.in-Some.line ∷ c.pop.new.self = sym (ap (λ k. k.calls) c.finish_as_it_was.ensures.control) ∙ c.in-Some.ensures.value in
    let within : All Within (c.in-Some.line ∷ c.pop.new.self) = subst AllWithin calls bounds.calls in
    record {
      step = rw (calls, c.finish_as_it_was.ensures.control) refl;
      bounds = record {
        window = rw c.finish_as_it_was.ensures.control (omega arith);
        line = (All-head Within c.in-Some.line c.pop.new.self within).1;
        calls = All-tail Within c.in-Some.line c.pop.new.self within;
        entry = rw c.finish_as_it_was.ensures.control (one-le-pow c.args.control.now.size.bits 2 (lit≤ tt));
      };
    }
