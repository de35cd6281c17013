use Rattle.std.proofs.Common.{ℕ, ℤ, ◌++◌, ◌∷◌, [], List, length, sym, subst, arith, w32, to_z, of_z}
use Rattle.std.proofs.lemmas.Int.{to_z-of_z}
use Rattle.jd_logic.specs.Literals.{IsLiteral}
use Rattle.jd_propagate.specs.Trails.{key_of}
use Rattle.jd_propagate.specs.Watched.{IsPair}
use Rattle.jd_propagate.specs.Passing.{AreWatched}
use Rattle.jd_propagate.proofs.Steps.{literal_in}
use Rattle.jd_propagate.proofs.Attaching.{IsAttached, attached, watched-more}
use Rattle.jd_propagate.proofs.attach.watch.Goals as goal

pub key-requires : goal.key-requires
key-requires c =
    let L : ℤ → Type 0 = λ z. IsLiteral z in
    subst L (sym (to_z-of_z w32 c.args.a c.ranges.a)) (literal_in c.args.clause.now c.args.a c.requires.literals c.requires.pair.first)

pub key-requires-2 : goal.key-requires-2
key-requires-2 c =
    let L : ℤ → Type 0 = λ z. IsLiteral z in
    subst L (sym (to_z-of_z w32 c.args.b c.ranges.b)) (literal_in c.args.clause.now c.args.b c.requires.literals c.requires.pair.second)

pub returns-clause-watched : goal.returns-clause-watched
returns-clause-watched c =
    let cs = c.args.clauses.now in
    let fs = c.args.firsts.now.items in
    let ss = c.args.seconds.now.items in
    let ls = c.args.lists.now.items in
    let ea = to_z-of_z w32 c.args.a c.ranges.a in
    let eb = to_z-of_z w32 c.args.b c.ranges.b in
    let a = to_z w32 (of_z w32 c.args.a) in
    let b = to_z w32 (of_z w32 c.args.b) in
    let r = c.make_rooms.new.lists.items in
    let m = c.add.new.lists.items in
    let n = c.add-2.new.lists.items in
    let x = c.len-at.result in
    let u = c.in_ok-add.ensures in
    let v = c.in_ok-add-2.ensures in
    let w = c.make_rooms.ensures in
    let A : ℕ → Type 0 = λ k. IsAttached ls n k c.key-2.result x in
    let B : ℕ → Type 0 = λ k. IsAttached ls n (key_of a) k x in
    let X : ℕ → Type 0 = λ k. IsAttached ls n (key_of a) (key_of b) k in
    let P : ℤ → Type 0 = λ z. IsPair c.args.clause.now z c.args.b in
    let Q : ℤ → Type 0 = λ z. IsPair c.args.clause.now a z in
    let at : IsAttached ls n c.key.result c.key-2.result x =
    attached ls r m n c.key.result c.key-2.result x w.same w.longer u.here u.others u.as_many v.here v.others v.as_many in
    let one : IsAttached ls n (key_of a) (key_of b) (length cs) = subst X c.len-at.ensures (subst B c.key-2.ensures (subst A c.key.ensures at)) in
    let F : List (List ℤ) → Type 0 = λ xs. AreWatched xs c.push-2.new.self.items c.push-3.new.self.items n in
    let G : List ℤ → Type 0 = λ xs. AreWatched (cs ++ c.args.clause.now ∷ []) xs c.push-3.new.self.items n in
    let H : List ℤ → Type 0 = λ xs. AreWatched (cs ++ c.args.clause.now ∷ []) (fs ++ a ∷ []) xs n in
    subst F (sym c.in_ok-push.ensures.pushed) (subst G (sym c.in_ok-push-2.ensures.items) (subst H (sym c.in_ok-push-3.ensures.items)
    (watched-more cs fs ss ls n c.args.clause.now a b c.requires.watched (subst Q (sym eb) (subst P (sym ea) c.requires.pair)) one
    (λ l is. (let h = c.in_ok-make_rooms.ensures.room l is in omega (arith, h, u.as_many, v.as_many))))))
