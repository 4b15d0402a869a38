use Rattle.dom_base.proofs.Std.{◌≡◌, ◌∷◌, [], ℕ, List, None, suc, is_none, true≢false, length, ap, sym, ◌∙◌, arith, refl, length-map, map}
use Rattle.node_arena.specs.Nodes.{children_of, last_of}
use Rattle.node_arena.proofs.Indexes.{place_of-child}
use Rattle.node_arena.proofs.Lists.{last_from-Some}
use Rattle.dom_tree.specs.Definitions.{name_at}
use Rattle.dom_tree.proofs.Walks.{few_children, place_in-last, shows_children, shows_index}
use Rattle.dom_tree.proofs.Kept.{within, within_names}
use Rattle.dom_tree.proofs.forest.Forest.child_count.Goals as goal

-- all children stand before the last of them, or are the last
counted : (c : goal.After-index) → suc c.index.result ≡ length (children_of c.self.inside.arena.children c.args.key)
counted c =
    let lists = c.self.inside.arena.children in
    let last = c.in-Some.last in
    let node = within_names c.self.view_is c.self.invariant.kept last (c.in-Some.ensures.node last refl) in
    ap suc (c.index.ensures ∙ sym (shows_index c.self.view_is c.self.invariant.kept last node)
    ∙ place_of-child lists last c.args.key (c.in-Some.ensures.child last refl))
    ∙ place_in-last (children_of lists c.args.key) last (c.self.invariant.kept.forest.once c.args.key) c.in-Some.ensures.value

pub overflow_add-result : goal.overflow_add-result
overflow_add-result c =
    let kept = c.self.invariant.kept in
    let inside = within c.self.view_is kept c.args.key c.requires in
    omega (arith, kept.few, kept.paired, few_children c.self.inside.arena.children kept.forest c.args.key (omega (arith, kept.paired)), counted c)

pub returns-in-Some : goal.returns-in-Some
returns-in-Some c =
    let all = ap length (shows_children c.self.view_is c.self.invariant.kept c.args.key c.requires) in
    omega (arith, counted c, all, length-map (children_of c.self.inside.arena.children c.args.key) (name_at c.args.self.now.names))

-- a list without a last item
none : (xs : List ℕ) → None ≡ last_of xs → xs ≡ []
none [] e = refl
none (x ∷ xs) e = absurd (true≢false (ap is_none e ∙ last_from-Some x xs))

pub returns-in-None : goal.returns-in-None
returns-in-None c =
    sym (ap length (shows_children c.self.view_is c.self.invariant.kept c.args.key c.requires
    ∙ ap (map (name_at c.args.self.now.names)) (none (children_of c.self.inside.arena.children c.args.key) c.in-None.ensures.value)))
