use Rattle.dom_dispatch.proofs.Cited.{◌≡◌, ◌&&◌, ℕ, List, Some, ap, sym, subst, ◌∙◌, arith, nat_eq, on_ok_weaker, on_err_weaker, slice_get, slice_get-get_or}
use Rattle.dom_dispatch.proofs.Cited.{set}
use Rattle.dom_dispatch.proofs.Cited.{text_eq, MayPut}
use Rattle.dom_dispatch.proofs.Listing.{at_row, rows-like, rows-put}
use Rattle.dom_dispatch.proofs.places.Places.push_there.Goals as goal

pub returns-clause-ok : goal.returns-clause-ok
returns-clause-ok c =
    let rows = c.args.self.now.rows.items in
    let i = c.index.result in
    let old = c.index_mut.result.now in
    let there : slice_get rows i ≡ Some old = slice_get-get_or rows i old (omega (arith, c.requires, c.index.ensures)) ∙
    ap Some (sym c.index_mut.ensures.value) in
    on_ok_weaker c.push.result (λ put.
    subst (λ n. (k : ℕ) (t : List ℕ) → MayPut (nat_eq n k && text_eq c.args.event.now t) c.args.place (at_row rows k t)
    (at_row (set rows i c.push.new.self) k t)) c.index.ensures
    (rows-put rows i old c.push.new.self there c.args.event.now c.args.place put)) c.push.ensures.ok

pub returns-clause-err : goal.returns-clause-err
returns-clause-err c =
    let rows = c.args.self.now.rows.items in
    let i = c.index.result in
    let old = c.index_mut.result.now in
    let there : slice_get rows i ≡ Some old = slice_get-get_or rows i old (omega (arith, c.requires, c.index.ensures)) ∙
    ap Some (sym c.index_mut.ensures.value) in
    on_err_weaker c.push.result (rows-like rows i old c.push.new.self there (λ js. js)) c.push.ensures.err
