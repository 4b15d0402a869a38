use Rattle.dom_mutation.proofs.Cited.{◌≡◌, false, not, List, [], ◌∷◌, refl, sym, ap, ◌∙◌, is_empty, name_at, tables_of}
use Rattle.dom_mutation.proofs.Shown.{untold}
use Rattle.dom_mutation.proofs.parts.Parts.watch.Goals as goal

none_there : {X : Type 0} (xs : List X) → not (is_empty xs) ≡ false → xs ≡ []
none_there [] e = refl
none_there (x ∷ xs) e = cc

pub returns : goal.returns
returns c off change =
    let f = c.self.inside.trees.forest in
    untold f c.self.invariant c.self.view_is c.args.node c.requires
    (none_there (tables_of c.self.inside.observers (name_at f.names c.args.node).owner).registrations
    (ap (λ o. not (is_empty (tables_of c.self.inside.observers o).registrations)) (sym c.lent_name.ensures.owner) ∙ sym c.watch.ensures ∙ off)) change
