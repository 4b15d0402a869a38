use Rattle.dom_mutation.proofs.Cited.{ap, ◌∙◌, subst, ◌≡◌, refl, replace_refusal, name_at, err_of, replacement_own, name_in, owner_in, trees_in}
use Rattle.dom_mutation.proofs.Shown.{known, own_in_part}
use Rattle.dom_mutation.proofs.parts.Parts.check_replace.Goals as goal

pub returns : goal.returns
returns c =
    let f = c.self.inside.trees.forest in
    let p = name_at f.names c.args.parent in
    let x = name_at f.names c.args.node in
    let y = name_at f.names c.args.child in
    subst (λ e. err_of c.check_replace.result ≡ replace_refusal (trees_in e c.args.parent) (name_in e c.args.parent) (name_in e c.args.node)
    (name_in e c.args.child)) c.self.view_is
    (c.check_replace.ensures
    ∙ replacement_own f.trees c.self.invariant.owned p.owner p x y refl
    (known f c.self.invariant c.self.view_is (λ e. owner_in e c.args.node ≡ owner_in e c.args.parent) c.requires.node_owner)
    (known f c.self.invariant c.self.view_is (λ e. owner_in e c.args.child ≡ owner_in e c.args.parent) c.requires.child_owner)
    ∙ ap (λ ts. replace_refusal ts p x y) (own_in_part f.names f.trees c.self.invariant p.owner))
