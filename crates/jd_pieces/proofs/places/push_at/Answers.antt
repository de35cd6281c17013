use Rattle.std.proofs.Common.{◌≡◌, ◌∷◌, ◌++◌, ◌+◌, ◌-◌, [], drop, sym, ap, subst, ◌∙◌, ◌≤◌, true, false, arith}
use Rattle.std.proofs.lemmas.List.{append-nil}
use Rattle.jd_pieces.specs.Candidates.{stands, found_at}
use Rattle.jd_pieces.specs.Rows.{row_numbered, rows}
use Rattle.jd_pieces.proofs.Finding.{push-turn, found_by}
use Rattle.jd_pieces.proofs.places.push_at.Goals.{then-stands+in_ok-push, else-stands}
use Rattle.jd_pieces.proofs.places.push_at.Goals as goal

pub loop-number-preserved : goal.loop-number-preserved
loop-number-preserved c =
    let place = c.args.place in
    let n = c.loop-number.number in
    let codes = c.args.codes.now in
    let found = c.loop-number.found.items in
    let whole = c.args.found.now.items ++ found_at place 1 rows codes in
    let least : 1 ≤ n = c.loop-number.auto.number in
    let most : n ≤ 9 = omega (arith, c.loop-number-test.true) in
    let tested : c.stands.result ≡ stands (row_numbered n) codes = c.stands.ensures ∙ ap (λ r. stands r codes) c.row_numbered.ensures in
    let rest = found_at place (n + 1) (drop (n + 1 - 1) rows) codes in
    elim c.if-stands.branch [
      | then-stands+in_ok-push w ↦
          let items : c.if-stands.found.items ≡ found ++ found_by true place n = ap (λ v. v.items) w.found-is ∙ w.in_ok-push.ensures.items in
          let adds = ap (λ b. found_by b place n) (sym w.if-stands.true ∙ tested) in
          ap (λ xs. xs ++ rest) items ∙ push-turn found (found_by true place n) whole place n codes least most adds c.loop-number.invariant
      | else-stands w ↦
          let items : c.if-stands.found.items ≡ found ++ [] = ap (λ v. v.items) w.found-is ∙ sym (append-nil found) in
          let adds = ap (λ b. found_by b place n) (sym w.if-stands.false ∙ tested) in
          ap (λ xs. xs ++ rest) items ∙ push-turn found [] whole place n codes least most adds c.loop-number.invariant
    ]
