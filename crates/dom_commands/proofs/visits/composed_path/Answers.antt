use Rattle.dom_base.proofs.Std.{ℕ, ◌<◌, ◌++◌, All, List, Some, length, map, slice_get, subst, sym, ap, ◌∙◌}
use Rattle.dom_model.proofs.Model.{NodeName}
use Rattle.dom_tree.specs.Definitions.{name_at}
use Rattle.dom_commands.proofs.Visiting.{path-named, path-nodes}
use Rattle.dom_commands.proofs.visits.composed_path.Goals as goal

pub put_names-requires : goal.put_names-requires
put_names-requires c =
    subst (λ (ks : List ℕ). All (λ k. k < length c.args.forest.now.names) ks) (sym c.as_slice.ensures)
    (path-nodes c.args.forest.now.names c.args.path.now.views c.args.at c.in_ok-keys.keys.items c.requires.paths c.in_ok-keys.ensures)

pub returns : goal.returns
returns c =
    let names = c.args.forest.now.names in
    path-named names (slice_get c.args.path.now.views c.args.at) c.in_ok-keys.keys.items c.in_ok-keys.ensures
    ∙ ap (λ (xs : List NodeName). Some xs) (sym (c.in_ok-put_names.ensures.ok ∙ ap (λ (xs : List NodeName). xs ++ map (name_at names) c.as_slice.result.now)
    c.new-names.ensures.items ∙ ap (map (name_at names)) c.as_slice.ensures))
