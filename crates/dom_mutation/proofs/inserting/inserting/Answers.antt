use Rattle.dom_mutation.proofs.Cited.{[], ◌∷◌, option_map, sym, ap, ◌∙◌, on_ok_weaker, kind_of, is_fragment, part_of, name_in, owner_in, placed_all}
use Rattle.dom_mutation.proofs.Cited.{observing_of}
use Rattle.dom_mutation.proofs.Inserted.{inserted_one}
use Rattle.dom_mutation.proofs.inserting.inserting.Goals as goal

-- of one node
pub returns : goal.returns
returns c =
    let d = c.args.parts.now in
    let o = owner_in d c.args.parent in
    let x = name_in d c.args.node in
    let p = name_in d c.args.parent in
    let how = observing_of c.args.how in
    let ref = option_map (name_in d) c.args.before in
    let may = c.requires.may_move in
    on_ok_weaker c.place_all.result
    (λ placed. placed ∙ ap (λ q. placed_all how (x ∷ []) p ref q o d) c.sibling_before-prev.ensures.value
    ∙ inserted_one o how x p ref d (c.laws.ensures.alone c.args.parent c.requires.parent_is_node) may.owner
    (ap (λ w. is_fragment (kind_of (part_of d.world w).trees x)) (sym may.owner) ∙ sym c.is_fragment.ensures ∙ c.if-is_fragment.false))
    c.place_all.ensures
