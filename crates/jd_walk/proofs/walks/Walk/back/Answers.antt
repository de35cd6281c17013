use Rattle.std.proofs.Common.{◌≡◌, Bool, List, true, ◌∷◌, ◌++◌, [], length, map, take, Some, None, append-nil, ap, sym, ◌∙◌, subst}
use Rattle.std.specs.Prelude.{is_some}
use Rattle.std.proofs.lemmas.List.{length-take-le}
use Rattle.jd_circuit.specs.declared.literals.Lit.{Lit}
use Rattle.jd_circuit.specs.Net.{Net}
use Rattle.jd_books.specs.Paths.{next_path}
use Rattle.jd_problem.specs.Problems.{problem_of}
use Rattle.jd_walk.specs.declared.places.Saved.{Saved}
use Rattle.jd_walk.specs.Walked.{Walked, back_at}
use Rattle.jd_walk.specs.Rooms.{AreRoomy}
use Rattle.jd_walk.specs.Spots.{IsWalk, back_to, net_at, no_of}
use Rattle.jd_walk.proofs.Going.{back-at, back-none, back-some, last-next, last-inside, none-left, none-next, saved-before, walk-back-is}
use Rattle.jd_walk.proofs.Rooms.{roomy-back}
use Rattle.jd_walk.proofs.walks.Walk.back.Goals as goal

pub returns-in_default-clause-walk : goal.returns-in_default-clause-walk
returns-in_default-clause-walk g c =
    let i = c.self.inside in
    let w = (c.self.invariant (ap (λ (v : Walked). v.spent) c.self.view_is ∙ c.requires.unspent)).walk in
    let none : next_path i.path.items ≡ None = none-next (problem_of i.problem) i.circuit i.path.items i.assumed.items i.guards.items i.saved.items i.first i.at i.next w (none-left i.saved.items c.pop.new.self.items _ c.in_default.ensures.cases.0 c.in_default.ensures.items c.in_default.ensures.rest) in
    let same : c.pop.new.self.items ≡ i.saved.items = sym (c.in_default.ensures.items ∙ append-nil c.pop.new.self.items) in
    ap (λ (saved : List Saved). record { problem = problem_of i.problem; net = i.circuit; path = i.path.items; guards = i.assumed.items ++ i.guards.items; next = i.next; noes = map no_of saved; spent = i.spent }) same
    ∙ c.self.view_is ∙ sym (back-none c.args.self.now (ap (λ (v : Walked). next_path v.path) (sym c.self.view_is) ∙ none))

pub returns-in_default-clause-back : goal.returns-in_default-clause-back
returns-in_default-clause-back g c =
    let i = c.self.inside in
    let w = (c.self.invariant (ap (λ (v : Walked). v.spent) c.self.view_is ∙ c.requires.unspent)).walk in
    let none : next_path i.path.items ≡ None = none-next (problem_of i.problem) i.circuit i.path.items i.assumed.items i.guards.items i.saved.items i.first i.at i.next w (none-left i.saved.items c.pop.new.self.items _ c.in_default.ensures.cases.0 c.in_default.ensures.items c.in_default.ensures.rest) in
    ap is_some (sym (ap (λ (v : Walked). next_path v.path) (sym c.self.view_is) ∙ none))

pub back_to-requires : goal.back_to-requires
back_to-requires g c =
    let i = c.self.inside in
    let w = (c.self.invariant (ap (λ (v : Walked). v.spent) c.self.view_is ∙ c.requires.unspent)).walk in
    (last-inside (problem_of i.problem) i.circuit i.path.items i.assumed.items i.guards.items c.pop.new.self.items c.in-Some.saved i.first i.at i.next
    (subst (λ x. IsWalk (problem_of i.problem) i.circuit i.path.items i.assumed.items i.guards.items x i.first i.at i.next) c.in-Some.ensures.items w)).2

pub end_path-requires : goal.end_path-requires
end_path-requires g c =
    let i = c.self.inside in
    let w = (c.self.invariant (ap (λ (v : Walked). v.spent) c.self.view_is ∙ c.requires.unspent)).walk in
    (last-inside (problem_of i.problem) i.circuit i.path.items i.assumed.items i.guards.items c.pop.new.self.items c.in-Some.saved i.first i.at i.next
    (subst (λ x. IsWalk (problem_of i.problem) i.circuit i.path.items i.assumed.items i.guards.items x i.first i.at i.next) c.in-Some.ensures.items w)).0

pub end_guards-requires : goal.end_guards-requires
end_guards-requires g c =
    let i = c.self.inside in
    let w = (c.self.invariant (ap (λ (v : Walked). v.spent) c.self.view_is ∙ c.requires.unspent)).walk in
    (last-inside (problem_of i.problem) i.circuit i.path.items i.assumed.items i.guards.items c.pop.new.self.items c.in-Some.saved i.first i.at i.next
    (subst (λ x. IsWalk (problem_of i.problem) i.circuit i.path.items i.assumed.items i.guards.items x i.first i.at i.next) c.in-Some.ensures.items w)).1

pub invariant_of-self-2 : goal.invariant_of-self-2
invariant_of-self-2 g c = λ unspent.
    let i = c.self.inside in
    let p = problem_of i.problem in
    let s = c.in-Some.saved in
    let standing = c.self.invariant (ap (λ (v : Walked). v.spent) c.self.view_is ∙ c.requires.unspent) in
    let w = standing.walk in
    let items = c.in-Some.ensures.items in
    let ends = subst (λ x. IsWalk p i.circuit i.path.items i.assumed.items i.guards.items x i.first i.at i.next) items w in
    let inside = last-inside p i.circuit i.path.items i.assumed.items i.guards.items c.pop.new.self.items s i.first i.at i.next ends in
    let first = c.over_at.ensures ∙ ap (λ f. back_to s.at f) c.take-first.ensures.value in
    let gates : length c.back_to.new.self.gates ≡ s.mark.gates = ap (λ (n : Net). length n.gates) c.back_to.ensures ∙ length-take-le s.mark.gates i.circuit.gates inside.2 in
    record {
      walk = walk-back-is p i.circuit c.back_to.new.self i.path.items i.assumed.items i.guards.items i.saved.items c.pop.new.self.items s i.first i.at i.next
          c.end_path.new.path.items c.end_guards.new.guards.items c.over_at.result w items (ap (λ (n : Net). n.inputs) c.back_to.ensures) (ap (λ (n : Net). n.gates) c.back_to.ensures) c.end_path.ensures c.end_guards.ensures first;
      ends = tt;
      room = subst (λ f. AreRoomy p (length c.back_to.new.self.gates) (length c.end_path.new.path.items) c.pop.new.self.items f s.position None) (sym first)
          (subst (λ x. AreRoomy p (length c.back_to.new.self.gates) (length x) c.pop.new.self.items (back_to s.at i.first) s.position None) (sym c.end_path.ensures)
          (subst (λ n. AreRoomy p n (length (take s.at i.path.items ++ true ∷ [])) c.pop.new.self.items (back_to s.at i.first) s.position None) (sym gates)
          (roomy-back p (length i.circuit.gates) i.path.items c.pop.new.self.items s i.first (length i.path.items) i.at i.next inside.0
          (saved-before p i.circuit i.path.items i.assumed.items i.guards.items c.pop.new.self.items s i.first i.at i.next ends)
          (subst (λ x. AreRoomy p (length i.circuit.gates) (length i.path.items) x i.first i.at i.next) items standing.room))));
    }

pub returns-clause-walk : goal.returns-clause-walk
returns-clause-walk g c =
    let i = c.self.inside in
    let p = problem_of i.problem in
    let s = c.in-Some.saved in
    let w = (c.self.invariant (ap (λ (v : Walked). v.spent) c.self.view_is ∙ c.requires.unspent)).walk in
    let items = c.in-Some.ensures.items in
    let ends = subst (λ x. IsWalk p i.circuit i.path.items i.assumed.items i.guards.items x i.first i.at i.next) items w in
    let inside = last-inside p i.circuit i.path.items i.assumed.items i.guards.items c.pop.new.self.items s i.first i.at i.next ends in
    let path = take s.at i.path.items ++ true ∷ [] in
    let next : next_path i.path.items ≡ Some path = last-next p i.circuit i.path.items i.assumed.items i.guards.items c.pop.new.self.items s i.first i.at i.next ends in
    let now : List Bool → Net → List Lit → Walked = λ path net guards.
    record { problem = p; net = net; path = path; guards = i.assumed.items ++ guards; next = None; noes = map no_of c.pop.new.self.items; spent = i.spent } in
    ap (λ x. now x c.back_to.new.self c.end_guards.new.guards.items) c.end_path.ensures ∙ ap (λ n. now path n c.end_guards.new.guards.items) c.back_to.ensures
    ∙ ap (now path (net_at i.circuit s.mark.gates)) c.end_guards.ensures
    ∙ sym (back-at p i.circuit i.path.items i.assumed.items i.guards.items i.next c.pop.new.self.items s i.spent w.spot.count inside.0)
    ∙ ap (λ (all : List Saved). back_at (record { problem = p; net = i.circuit; path = i.path.items; guards = i.assumed.items ++ i.guards.items; next = i.next; noes = map no_of all; spent = i.spent }) path) (sym items)
    ∙ ap (λ v. back_at v path) c.self.view_is
    ∙ sym (back-some c.args.self.now path (ap (λ (v : Walked). next_path v.path) (sym c.self.view_is) ∙ next))

pub returns-clause-back : goal.returns-clause-back
returns-clause-back g c =
    let i = c.self.inside in
    let w = (c.self.invariant (ap (λ (v : Walked). v.spent) c.self.view_is ∙ c.requires.unspent)).walk in
    let next : next_path i.path.items ≡ Some (take c.in-Some.saved.at i.path.items ++ true ∷ []) =
    last-next (problem_of i.problem) i.circuit i.path.items i.assumed.items i.guards.items c.pop.new.self.items c.in-Some.saved i.first i.at i.next
    (subst (λ x. IsWalk (problem_of i.problem) i.circuit i.path.items i.assumed.items i.guards.items x i.first i.at i.next) c.in-Some.ensures.items w) in
    ap is_some (sym (ap (λ (v : Walked). next_path v.path) (sym c.self.view_is) ∙ next))
