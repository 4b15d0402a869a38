use Rattle.dom_base.proofs.Std.{Some, cond, ap, ◌∙◌, bytes_eq, string_bytes}
use Rattle.std.specs.BTreeMap.{get_by_text}
use Rattle.std.proofs.lemmas.Map.Text.{btree_map_updates_text}
use Rattle.dom_attributes.proofs.name_index.note.Goals as goal

pub returns-clause-ok : goal.returns-clause-ok
returns-clause-ok c = λ t.
    btree_map_updates_text (string_bytes c.in_ok-from_str.field-0) c.args.index.now c.insert.new.self (Some c.args.place) c.in_ok-insert.ensures.updates t
    ∙ ap (λ s. cond (bytes_eq s t) (Some c.args.place) (get_by_text c.args.index.now t)) c.in_ok-from_str.ensures.ok
