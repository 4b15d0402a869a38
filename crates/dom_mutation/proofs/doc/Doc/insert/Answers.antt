use Rattle.dom_mutation.proofs.Cited.{◌≡◌, false, sym, ap, subst, ◌∙◌, option_map, Owner, kind_of, is_shadow, part_of, err_of, insertion-tested}
use Rattle.dom_mutation.specs.Definitions.{name_in, trees_in}
use Rattle.dom_mutation.proofs.doc.Doc.insert.Goals as goal

pub insert_unchecked-requires-clause-open : goal.insert_unchecked-requires-clause-open
insert_unchecked-requires-clause-open c =
    let d = c.args.self.now in
    (insertion-tested (trees_in d c.args.parent) (name_in d c.args.parent) (name_in d c.args.node) (option_map (name_in d) c.args.child)
    (sym c.check_insert.ensures ∙ ap err_of c.in_default.is)).opened

pub insert_unchecked-requires-clause-no_shadow : goal.insert_unchecked-requires-clause-no_shadow
insert_unchecked-requires-clause-no_shadow c =
    let d = c.args.self.now in
    let x = name_in d c.args.node in
    subst (λ (o : Owner). is_shadow (kind_of (part_of d.world o).trees x) ≡ false) (sym c.requires.node_owner)
    (insertion-tested (trees_in d c.args.parent) (name_in d c.args.parent) x (option_map (name_in d) c.args.child)
    (sym c.check_insert.ensures ∙ ap err_of c.in_default.is)).plain
