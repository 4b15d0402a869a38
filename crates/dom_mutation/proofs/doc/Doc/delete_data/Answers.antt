use Rattle.dom_mutation.proofs.Cited.{ap, ◌∙◌, on_ok_weaker, DomString, replacing_data}
use Rattle.dom_mutation.specs.Definitions.{name_in, owner_in, planned}
use Rattle.dom_mutation.proofs.doc.Doc.delete_data.Goals as goal

pub returns : goal.returns
returns c =
    let d = c.args.self.now in
    let x = c.args.node in
    record {
      state = on_ok_weaker c.replace_units.result
          (λ done. done
          ∙ ap (λ (us : DomString). planned (owner_in d x) (replacing_data (name_in d x) c.args.offset c.args.count us) d) c.new-none.ensures.items)
          c.replace_units.ensures;
    }
