-- The row is that of what is shown of the node.
use Rattle.dom_query_commands.proofs.Cited.{◌≡◌, ◌-◌, ◌∙◌, arith, sym, ap, length, slice_get, name_at, node_in}
use Rattle.dom_query_commands.proofs.Rows.{begun, row_begun}
use Rattle.dom_query_commands.specs.Looks.{opened}
use Rattle.dom_worlds.proofs.CommandLemmas.{name-node_in}
use Rattle.dom_query_commands.proofs.structure.begin.Goals as goal

pub returns : goal.returns
returns c =
    let x = name_at c.args.forest.now.names c.args.key in
    let node = node_in c.args.forest.now.trees x in
    let name : c.name.result ≡ node.name = sym c.name.ensures.at ∙ sym (name-node_in c.args.forest.now.trees x) in
    let top : c.copied.result ≡ slice_get c.args.places.now.items (length c.args.places.now.items - 1) =
    c.copied.ensures ∙ (c.last.ensures.value ∙ ap (λ ks. slice_get ks (length ks - 1)) c.deref.ensures.value) in
    let at : c.len.result ≡ length c.args.rows.now.items = omega (arith, c.args.rows.now.ok.0) in
    begun (opened c.args.rows.now.items c.args.places.now.items) node c.in_ok-push-2.ensures.items c.in_ok-push.ensures.items
    (row_begun node name c.kind.ensures top) at
