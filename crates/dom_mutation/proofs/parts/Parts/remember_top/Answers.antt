use Rattle.dom_mutation.proofs.Cited.{sym, subst, ap, ◌∙◌, NamedTrees, all_tables, state_from, IsDoc}
use Rattle.dom_mutation.proofs.parts.Parts.remember_top.Goals as goal

pub invariant_of-self : goal.invariant_of-self
invariant_of-self c =
    subst (λ (f : NamedTrees). IsDoc f.names f.trees (all_tables c.self.inside)) (sym c.remember_ancestor.ensures) c.self.invariant

pub returns : goal.returns
returns c = ap (λ (f : NamedTrees). state_from f.names f.trees (all_tables c.self.inside)) c.remember_ancestor.ensures ∙ c.self.view_is
