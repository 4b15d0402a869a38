use Rattle.dom_mutation.proofs.Cited.{ℕ, ◌<◌, length, sym, subst, ap, ◌∙◌, NamedTrees, all_tables, state_from, IsDoc}
use Rattle.dom_mutation.proofs.CursorCommands.{walk_there, walks_of, the_walker}
use Rattle.dom_mutation.proofs.doc.cursors.remember_root.Goals as goal

pub walker_ends-root-requires : goal.walker_ends-root-requires
walker_ends-root-requires c = walk_there c.parts.inside.trees.forest c.parts.invariant c.parts.view_is c.args.owner c.args.number c.requires

pub remember_ancestor-requires : goal.remember_ancestor-requires
remember_ancestor-requires c =
    let f = c.parts.inside.trees.forest in
    let item = the_walker f c.parts.invariant c.parts.view_is c.args.owner c.args.number c.requires in
    subst (λ (p : ℕ × ℕ). p.1 < length f.names) (sym (c.walker_ends-root.ensures item.0 item.1))
    (walks_of f c.parts.invariant c.parts.view_is c.args.owner c.args.number item.0 item.1).current

pub invariant_of-parts : goal.invariant_of-parts
invariant_of-parts c =
    subst (λ (f : NamedTrees). IsDoc f.names f.trees (all_tables c.parts.inside)) (sym c.remember_ancestor.ensures) c.parts.invariant

pub returns : goal.returns
returns c = ap (λ (f : NamedTrees). state_from f.names f.trees (all_tables c.parts.inside)) c.remember_ancestor.ensures ∙ c.parts.view_is
