use Rattle.dom_base.proofs.Std.{ℕ, get_or, cond, sym, ap, ◌∙◌, arith, fold, take_all, fold_more}
use Rattle.dom_model.proofs.Model.{without_old}
use Rattle.dom_observers.specs.Definitions.{TablesOf, given, record_of, change_of, table_of}
use Rattle.dom_observers.proofs.table.Table.give_copies.Goals as goal

pub loop-observer-preserved : goal.loop-observer-preserved
loop-observer-preserved c =
    let ch = change_of c.args.change.now in
    let k = get_or c.args.observers.now c.loop-observer.observer-index 0 in
    let f = λ (t : TablesOf ℕ) (j : ℕ). given (record_of c.args.interested.now ch j) t j in
    let before = table_of c.loop-observer.self in
    c.in_ok-give.ensures
    ∙ (ap (λ r. given r before k) (c.in_ok-copy.ensures ∙ ap (λ b. cond b ch (without_old ch)) c.get_old.ensures)
    ∙ (ap (λ t. f t k) c.loop-observer.invariant
    ∙ sym (fold_more f (table_of c.args.self.now) c.args.observers.now c.loop-observer.observer-index 0 (omega arith))))

pub returns : goal.returns
returns c =
    let f = λ (t : TablesOf ℕ) (j : ℕ). given (record_of c.args.interested.now (change_of c.args.change.now) j) t j in
    c.loop-observer.invariant ∙ ap (fold f (table_of c.args.self.now)) (take_all c.loop-observer.observer-index c.args.observers.now (omega arith))
