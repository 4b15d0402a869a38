use Rattle.dom_mutation.proofs.Cited.{ap, ◌∙◌, subst, option_map, ◌≡◌, ForSome, pre_insert_refusal, name_at, err_of, insertion_own, name_in, owner_in, trees_in}
use Rattle.dom_mutation.proofs.Shown.{known, own_in_part, of_owner}
use Rattle.dom_mutation.proofs.doc.Doc.check_insert.Goals as goal

pub returns : goal.returns
returns c =
    let f = c.parts.inside.trees.forest in
    let p = name_at f.names c.args.parent in
    let x = name_at f.names c.args.node in
    let ch = option_map (name_at f.names) c.args.child in
    subst (λ e. err_of c.check_insert.result ≡ pre_insert_refusal (trees_in e c.args.parent) (name_in e c.args.parent) (name_in e c.args.node)
    (option_map (name_in e) c.args.child)) (c.parts.view_is ∙ c.self.view_is)
    (c.check_insert.ensures
    ∙ insertion_own f.trees c.parts.invariant.owned p.owner p x ch Rattle.std.proofs.Common.refl
    (known f c.parts.invariant (c.parts.view_is ∙ c.self.view_is) (λ e. owner_in e c.args.node ≡ owner_in e c.args.parent) c.requires.node_owner)
    (of_owner f.names p.owner c.args.child
    (known f c.parts.invariant (c.parts.view_is ∙ c.self.view_is) (λ e. ForSome c.args.child (λ k. owner_in e k ≡ owner_in e c.args.parent))
    c.requires.child_owner))
    ∙ ap (λ ts. pre_insert_refusal ts p x ch) (own_in_part f.names f.trees c.parts.invariant p.owner))
