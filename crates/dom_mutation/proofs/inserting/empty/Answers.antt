use Rattle.dom_mutation.proofs.Cited.{[], ◌∷◌, None, map, sym, ap, ◌∙◌, subst, on_ok_weaker, inclusive_ancestors, Part, child_list, queue_record, in_turn}
use Rattle.dom_mutation.proofs.Cited.{suppressed, remove_plan, DocState, name_in, owner_in, trees_in, IsAlone, keeps-each, keeps-removing}
use Rattle.dom_mutation.proofs.inserting.empty.Goals as goal
use Rattle.dom_mutation.proofs.Made.{alone_made}
use Rattle.dom_mutation.proofs.OwnPlans.{own_moves}

pub returns-clause-paths : goal.returns-clause-paths
returns-clause-paths c =
    let d = c.args.parts.now in
    let e = c.take_each.new.parts in
    let o = owner_in d c.args.fragment in
    let ys = map (name_in d) c.args.children.now in
    let alone = subst (λ (s : DocState). IsAlone s.world (owner_in s c.args.fragment)) (sym c.in_ok-take_each.ensures.state)
    (alone_made o (in_turn (remove_plan suppressed) ys) d.world (c.laws.ensures.alone c.args.fragment c.requires.fragment_is_node)
    (keeps-each (own_moves o) (remove_plan suppressed) (keeps-removing (own_moves o) suppressed) ys)) in
    on_ok_weaker c.queue_tree_record.result (λ told y off. ap (λ (s : DocState). inclusive_ancestors (trees_in s c.args.fragment) y) told
    ∙ ap (λ (p : Part). inclusive_ancestors p.trees y)
    (alone.steps (queue_record (child_list (name_in e c.args.fragment) [] (map (name_in e) c.args.children.now) None None) ∷ []) (tt, tt))
    ∙ c.in_ok-take_each.ensures.paths y off)
    c.queue_tree_record.ensures
