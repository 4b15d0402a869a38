use Rattle.dom_mutation.proofs.Cited.{◌≡◌, List, map, length, option_map, sym, ap, ◌∙◌, arith, length-map, on_ok_weaker, NodeName, emptying, sibling_before}
use Rattle.dom_mutation.proofs.Cited.{is_empty, children_of, kind_of, is_fragment, part_of, DocState, name_in, owner_in, placed_all, planned, trees_in}
use Rattle.dom_mutation.proofs.Cited.{observing_of}
use Rattle.dom_mutation.proofs.BoundedDocs.{bounds_emptied, bounds_at, children_limited}
use Rattle.dom_mutation.proofs.Inserted.{are_inside, all_may, stays_emptied, inserted_children, some_left, some_named}
use Rattle.dom_mutation.proofs.Turns.{Stays, all_may_now, child_now}
use Rattle.dom_mutation.proofs.inserting.insert_children.Goals.{In_ok-empty}
use Rattle.dom_mutation.proofs.inserting.insert_children.Goals as goal

-- what is around the place stays, and the children may come there
stays : (c : In_ok-empty) → Stays c.args.parent c.args.before c.args.parts.now c.empty.new.parts
stays c =
    let d = c.args.parts.now in
    let may = c.requires.may_move in
    let child = c.requires.before_is_child in
    let ks = c.args.children.now in
    stays_emptied d c.laws.ensures.once c.args.parent c.args.fragment c.args.before may child ks
    (are_inside d c.laws.ensures.once c.args.parent c.args.fragment c.args.before may child ks c.requires.are_children)
    c.empty.new.parts (map (name_in d) ks) c.in_ok-empty.ensures.state c.in_ok-empty.ensures.paths

pub place_all-requires-clause-may_move : goal.place_all-requires-clause-may_move
place_all-requires-clause-may_move c =
    let d = c.args.parts.now in
    all_may_now c.args.parent c.args.before d c.empty.new.parts (stays (goal.at.place_all-requires-clause-may_move c).In_ok-empty) c.args.children.now
    (all_may d c.laws.ensures.once c.args.parent c.args.fragment c.args.before c.requires.may_move c.requires.before_is_child c.args.children.now
    (are_inside d c.laws.ensures.once c.args.parent c.args.fragment c.args.before c.requires.may_move c.requires.before_is_child
    c.args.children.now c.requires.are_children) c.requires.are_nodes)

pub place_all-requires-clause-before_is_child : goal.place_all-requires-clause-before_is_child
place_all-requires-clause-before_is_child c =
    child_now c.args.parent c.args.before c.args.parts.now c.empty.new.parts
    (stays (goal.at.place_all-requires-clause-before_is_child c).In_ok-empty) c.requires.before_is_child

-- of a fragment
pub returns : goal.returns
returns c =
    let d = c.args.parts.now in
    let o = owner_in d c.args.parent in
    let x = name_in d c.args.fragment in
    let p = name_in d c.args.parent in
    let ts = trees_in d c.args.parent in
    let ref = option_map (name_in d) c.args.before in
    let how = observing_of c.args.how in
    let ks = c.args.children.now in
    let may = c.requires.may_move in
    let own : trees_in d c.args.fragment ≡ ts = ap (λ w. (part_of d.world w).trees) may.owner in
    let children : map (name_in d) ks ≡ children_of ts x = c.requires.are_children ∙ ap (λ t. children_of t x) own in
    let emptied : List NodeName → DocState = λ xs. planned o (emptying x xs) d in
    on_ok_weaker c.place_all.result
    (λ placed. placed ∙ ap (λ (s : DocState). placed_all how (map (name_in s) ks) (name_in s c.args.parent) (option_map (name_in s) c.args.before)
    (option_map (name_in s) c.args.prev) (owner_in s c.args.parent) s)
    (c.in_ok-empty.ensures.state ∙ ap (λ w. planned w (emptying x (map (name_in d) ks)) d) may.owner)
    ∙ ap (λ q. placed_all how (map (name_in d) ks) p ref q o (emptied (map (name_in d) ks))) c.requires.prev_is_before
    ∙ ap (λ xs. placed_all how xs p ref (sibling_before ts p ref) o (emptied xs)) children
    ∙ inserted_children o how x p ref d (c.laws.ensures.alone c.args.parent c.requires.parent_is_node) may.owner
    (ap (λ t. is_fragment (kind_of t x)) (sym own) ∙ c.requires.is_fragment)
    (ap is_empty (sym children) ∙ some_named d ks (some_left ks c.if-is_empty.ensures)))
    c.place_all.ensures

pub place_all-requires-clause-bounds : goal.place_all-requires-clause-bounds
place_all-requires-clause-bounds c =
    let d = c.args.parts.now in
    let e = c.empty.new.parts in
    let is = c.in_ok-empty.ensures.state in
    bounds_at d e c.args.parent (ap (λ (s : DocState). s.names) is)
    (bounds_emptied (owner_in d c.args.parent) d (c.laws.ensures.alone c.args.parent c.requires.parent_is_node) (c.laws.ensures.parts _)
    c.requires.bounds (name_in d c.args.fragment) (map (name_in d) c.args.children.now) e
    (is ∙ ap (λ o. planned o (emptying (name_in d c.args.fragment) (map (name_in d) c.args.children.now)) d) c.requires.may_move.owner))

pub place_all-requires-clause-few : goal.place_all-requires-clause-few
place_all-requires-clause-few c =
    let d = c.args.parts.now in
    let o = owner_in d c.args.fragment in
    let few = children_limited (part_of d.world o) (c.laws.ensures.parts o) (c.laws.ensures.limited o) (name_in d c.args.fragment) in
    let same = ap (length {A = NodeName}) c.requires.are_children in
    let mapped = length-map c.args.children.now (name_in d) in
    omega (arith, few, same, mapped)
