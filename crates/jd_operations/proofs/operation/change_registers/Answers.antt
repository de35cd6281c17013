use Rattle.hp_control.specs.Controls.{control_of}
use Rattle.jd_content.proofs.Alone.{alone}
use Rattle.jd_operations.proofs.operation.change_registers.Goals as goal

pub change_by_store-requires-clause-inside : goal.change_by_store-requires-clause-inside
change_by_store-requires-clause-inside c = rw c.in-Store.is at c.requires.possible

pub change_by_recall-requires-clause-inside : goal.change_by_recall-requires-clause-inside
change_by_recall-requires-clause-inside c = rw c.in-Recall.is at c.requires.possible

pub change_by_exchange_through-requires-clause-inside : goal.change_by_exchange_through-requires-clause-inside
change_by_exchange_through-requires-clause-inside c = rw c.in-ExchangeThrough.is at c.requires.possible

pub returns-in-Store : goal.returns-in-Store
returns-in-Store c = λ net h. rw c.in-Store.is (λ listing bounded none.
    let e = c.change_by_store.ensures in
    alone net (control_of c.args.control.now listing) _ _ _ _ _ (λ val a. e.meaning listing val bounded a) (e.fits _ h) e.same)

pub returns-in-Recall : goal.returns-in-Recall
returns-in-Recall c = λ net h. rw c.in-Recall.is (λ listing bounded none.
    let e = c.change_by_recall.ensures in
    alone net (control_of c.args.control.now listing) _ _ _ _ _ (λ val a. e.meaning listing val bounded a) (e.fits _ h) e.same)

pub returns-in-ExchangeIndex : goal.returns-in-ExchangeIndex
returns-in-ExchangeIndex c = λ net h. rw c.in-ExchangeIndex.is (λ listing bounded none.
    let e = c.change_by_exchange_index.ensures in
    alone net (control_of c.args.control.now listing) _ _ _ _ _ (λ val a. e.meaning listing c.args.given.now val) (e.fits _ h) e.same)

pub returns-in-ExchangeThrough : goal.returns-in-ExchangeThrough
returns-in-ExchangeThrough c = λ net h. rw c.in-ExchangeThrough.is (λ listing bounded none.
    let e = c.change_by_exchange_through.ensures in
    alone net (control_of c.args.control.now listing) _ _ _ _ _ (λ val a. e.meaning listing val bounded a) (e.fits _ h) e.same)

pub returns-in-Clear : goal.returns-in-Clear
returns-in-Clear c = λ net h. rw c.in-Clear.is (λ listing bounded none.
    let e = c.change_by_clear.ensures in
    alone net (control_of c.args.control.now listing) _ _ _ _ _ (λ val a. e.meaning (control_of c.args.control.now listing) c.args.given.now val) (e.fits _ _ h) e.same)
