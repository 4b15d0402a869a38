use Rattle.std.proofs.Common.{Some, ap, ◌∙◌}
use Rattle.dom_model.specs.TreeChanges.{placed, taken_out}
use Rattle.dom_tree.specs.Definitions.{name_at}
use Rattle.dom_callers.specs.declared.notes.Note.{Note}
use Rattle.dom_callers.proofs.Rearranged.{children-turned}
use Rattle.dom_callers.proofs.rearranging.rearrange.Goals as goal

pub returns-clause-children : goal.returns-clause-children
returns-clause-children c =
    let f = c.write_note.new.forest in
    children-turned f c.move_before.new.forest c.in_ok-note.ensures.written
    (c.move_before.ensures.trees ∙
    ap (λ (n : Note). placed (name_at f.names n.paragraph) (name_at f.names n.article) (Some (name_at f.names n.heading))
    (taken_out (name_at f.names n.paragraph) f.trees)) c.in_ok-note.ensures.keys)
