use Rattle.dom_mutation.proofs.Cited.{ap, ◌∙◌, on_ok_weaker, replacing_data}
use Rattle.dom_mutation.specs.Definitions.{name_in, owner_in, planned}
use Rattle.dom_mutation.proofs.doc.Doc.set_data.Goals as goal

pub returns-clause-world : goal.returns-clause-world
returns-clause-world c =
    let d = c.args.self.now in
    on_ok_weaker c.replace_units.result
    (λ done. ap (λ e. e.world) (done ∙
    ap (λ n. planned (owner_in d c.args.node) (replacing_data (name_in d c.args.node) 0 n c.args.data.items) d) c.length-count.ensures))
    c.replace_units.ensures
