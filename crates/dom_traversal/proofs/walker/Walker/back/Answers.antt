use Rattle.dom_traversal.proofs.Cited.{Some, sym, ap, subst, ◌∙◌, refl, option_map, eqb-true, name_at, none_left, other_key, ComesBack, filter_of, IsWalkerOf}
use Rattle.dom_traversal.proofs.Cited.{KeyedWalker}
use Rattle.dom_traversal.proofs.Climbing.{IsInner}
use Rattle.dom_traversal.proofs.Backward.{IsLowest, StepsBack, steps_root, steps_parent, steps_sibling, sibling-stands}
use Rattle.dom_traversal.proofs.walker.Walker.back.Goals as goal

pub returns-then-eq-clause-value : goal.returns-then-eq-clause-value
returns-then-eq-clause-value c =
    let f = c.args.forest.now in
    let root = ap (λ (v : KeyedWalker). v.root) c.self.view_is in
    (steps_root f c.law_nodes_stand_once.ensures.once c.law_nodes_stand_once.ensures.only c.args.self.now c.args.key c.requires.comes
    (ap (name_at f.names) (eqb-true c.args.key c.self.inside.root (sym c.if-eq.ensures) ∙ root))).value

pub returns-in_default : goal.returns-in_default
returns-in_default c =
    let f = c.args.forest.now in
    let placed = subst (IsWalkerOf f) (sym c.self.view_is) c.requires.walker in
    let comes = subst (λ (v : KeyedWalker). ComesBack f v c.args.key) (sym c.self.view_is) c.requires.comes in
    let other = other_key f c.law_nodes_stand_once.ensures.distinct c.args.key c.self.inside.root comes.stands.node placed.root (sym c.if-eq.ensures) in
    let previous = sym c.prev.ensures.value ∙ ap (option_map (name_at f.names)) (none_left c.prev.result c.in_default.not-Some) in
    let step = subst (λ (v : KeyedWalker). StepsBack f v c.args.key c.parent.result) c.self.view_is
    (steps_parent f c.law_nodes_stand_once.ensures.once c.law_nodes_stand_once.ensures.only
    record { root = c.self.inside.root; current = c.self.inside.current; filter = filter_of c.self.inside.filter } c.args.key comes other c.parent.result
    c.parent.ensures.value c.parent.ensures.node previous) in
    record { value = step.value; comes = step.comes; shorter = step.shorter }

pub returns : goal.returns
returns c =
    let f = c.args.forest.now in
    let w : KeyedWalker = record { root = c.self.inside.root; current = c.self.inside.current; filter = filter_of c.self.inside.filter } in
    let placed = subst (IsWalkerOf f) (sym c.self.view_is) c.requires.walker in
    let comes = subst (λ (v : KeyedWalker). ComesBack f v c.args.key) (sym c.self.view_is) c.requires.comes in
    let other = other_key f c.law_nodes_stand_once.ensures.distinct c.args.key c.self.inside.root comes.stands.node placed.root (sym c.if-eq.ensures) in
    let inner : IsInner f c.self.inside.root c.args.key =
    record { once = c.law_nodes_stand_once.ensures.once; only = c.law_nodes_stand_once.ensures.only; stands = comes.stands; other = other } in
    let sibling = sibling-stands c.in-Some.sibling inner (c.in-Some.ensures.node c.in-Some.sibling refl) c.in-Some.ensures.value in
    let low : IsLowest f w c.in-Some.sibling c.lowest.result = record {
      stands = record { node = c.lowest.ensures.node; within = c.lowest.ensures.within (name_at f.names c.self.inside.root) sibling.within };
      tree = c.lowest.ensures.tree (name_at f.names c.self.inside.root) sibling.within;
      ends = c.lowest.ensures.ends;
      path = c.lowest.ensures.path;
    } in
    let step = subst (λ (v : KeyedWalker). StepsBack f v c.args.key (Some c.lowest.result)) c.self.view_is
    (steps_sibling f c.law_nodes_stand_once.ensures.once c.law_nodes_stand_once.ensures.only w c.args.key comes other c.in-Some.ensures.value
    placed.current low) in
    record { value = step.value; comes = step.comes; shorter = step.shorter }
