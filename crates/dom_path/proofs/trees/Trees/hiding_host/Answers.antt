use Rattle.dom_path.proofs.Cited.{◌≡◌, true, false, sym, subst, ◌∙◌, nat_eq, is_in, AreNested, roots_around}
use Rattle.dom_path.proofs.Nesting.{hiding-is}
use Rattle.dom_path.proofs.trees.Trees.hiding_host.Goals as goal

pub encloses-requires-clause-nested : goal.encloses-requires-clause-nested
encloses-requires-clause-nested c = subst AreNested (sym c.as_slice.ensures) c.self.invariant

pub returns-then-encloses : goal.returns-then-encloses
returns-then-encloses c =
    sym (hiding-is c.args.self.now c.args.viewer c.args.place c.at-tree.ensures
    (subst (λ ts. is_in nat_eq c.at-tree.result.root (roots_around ts c.args.viewer) ≡ true) (c.as_slice.ensures ∙ c.self.view_is)
    (sym c.if-encloses.ensures)))

pub returns-else-encloses : goal.returns-else-encloses
returns-else-encloses c =
    sym (hiding-is c.args.self.now c.args.viewer c.args.place c.at-tree.ensures
    (subst (λ ts. is_in nat_eq c.at-tree.result.root (roots_around ts c.args.viewer) ≡ false) (c.as_slice.ensures ∙ c.self.view_is)
    (sym c.if-encloses.ensures)))
