use Rattle.dom_base.proofs.Std.{sym, subst, ap, ◌∙◌}
use Rattle.dom_model.proofs.Model.{index_of}
use Rattle.dom_tree.specs.Definitions.{NamedTrees, name_at}
use Rattle.dom_mutation.specs.Definitions.{all_tables, state_from, IsDoc}
use Rattle.dom_mutation.proofs.Shown.{shown}
use Rattle.dom_mutation.proofs.parts.Parts.index_remembered.Goals as goal

pub returns-in-Some-clause-value : goal.returns-in-Some-clause-value
returns-in-Some-clause-value c =
    shown c.self.inside.trees.forest c.self.invariant c.self.view_is index_of (λ ns. c.in-Some.index) c.args.child
    (c.index_below.ensures.below c.in-Some.index c.in-Some.is).0 (λ r. r.index)

pub invariant_of-self : goal.invariant_of-self
invariant_of-self c =
    subst (λ (f : NamedTrees). IsDoc f.names f.trees (all_tables c.self.inside)) (sym c.remember_siblings.ensures) c.self.invariant

pub returns : goal.returns
returns c = record {
  value = shown c.self.inside.trees.forest c.self.invariant c.self.view_is index_of (λ ns. c.index.result) c.args.child
      (c.index.ensures ∙ ap (λ (f : NamedTrees). index_of f.trees (name_at f.names c.args.child)) c.remember_siblings.ensures) (λ r. r.index);
  state = ap (λ (f : NamedTrees). state_from f.names f.trees (all_tables c.self.inside)) c.remember_siblings.ensures ∙ c.self.view_is;
}
