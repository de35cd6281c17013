use Rattle.std.proofs.Common.{◌∷◌, ◌++◌, [], take, sym, ap, ◌∙◌, arith}
use Rattle.std.proofs.lemmas.List.{take_more}
use Rattle.std.proofs.lemmas.Option.{get_or_from_slice_get}
use Rattle.jd_walk.proofs.walks.listed.Goals as goal

pub loop-i-preserved : goal.loop-i-preserved
loop-i-preserved c =
    let lits = c.args.lits.now in
    let i = c.loop-i.i in
    let l = c.at.result in
    c.in_ok-push.ensures.items ∙ ap (λ xs. xs ++ l ∷ []) c.loop-i.invariant ∙ sym (take_more lits i l (omega arith) ∙ ap (λ x. take i lits ++ x ∷ []) (get_or_from_slice_get lits i l l c.at.ensures))
