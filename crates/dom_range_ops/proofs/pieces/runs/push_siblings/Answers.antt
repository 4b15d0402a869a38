use Rattle.dom_range_ops.proofs.Cited.{true≢false, sym, ap, ◌∙◌, option_map, name_eq, items_after, siblings, name_at, from_sibling, up_to}
use Rattle.dom_range_ops.proofs.PieceRuns.{passes-first, passes-more, passes-fewer, passes-all, up-to-here, up-to-none}
use Rattle.dom_range_ops.proofs.pieces.runs.push_siblings.Goals as goal

pub loop-at-init : goal.loop-at-init
loop-at-init c =
    let f = c.args.forest.now in
    let e = c.law_nodes_stand_once.ensures in
    passes-first f e.once e.only e.distinct c.args.from c.args.until c.args.pieces.now.items c.requires.from_is_node

pub loop-at-smaller : goal.loop-at-smaller
loop-at-smaller c =
    let e = c.law_nodes_stand_once.ensures in
    passes-fewer c.args.forest.now e.once e.only e.distinct _ _ _ _ _ _ _ c.loop-at.invariant c.in-Some.is c.next-at.ensures.value

pub loop-at-preserved : goal.loop-at-preserved
loop-at-preserved c =
    let e = c.law_nodes_stand_once.ensures in
    passes-more c.args.forest.now e.once e.only e.distinct _ _ _ _ _ _ _ c.loop-at.invariant c.in-Some.is c.next-at.ensures.value
    (λ found. true≢false (sym (c.is_node.ensures.1 found) ∙ c.if-is_node.false)) c.requires.until_is_node c.next-at.ensures.node _ c.in_ok-push.ensures.items

pub returns-then-is_node : goal.returns-then-is_node
returns-then-is_node c =
    let f = c.args.forest.now in
    let e = c.law_nodes_stand_once.ensures in
    let x = name_at f.names c.in-Some.key in
    let u = option_map (name_at f.names) c.args.until in
    passes-all f e.once e.only e.distinct c.args.from c.args.until c.args.pieces.now.items c.loop-at.at c.loop-at.pieces.items c.loop-at.invariant
    (ap (λ o. up_to u (from_sibling f.trees (option_map (name_at f.names) o))) c.in-Some.is ∙
    up-to-here x (items_after name_eq x (siblings f.trees x)) u (ap (option_map (name_at f.names)) (c.is_node.ensures.0 c.if-is_node.true)))

pub returns-in_default : goal.returns-in_default
returns-in_default c =
    let f = c.args.forest.now in
    let e = c.law_nodes_stand_once.ensures in
    let u = option_map (name_at f.names) c.args.until in
    passes-all f e.once e.only e.distinct c.args.from c.args.until c.args.pieces.now.items c.loop-at.at c.loop-at.pieces.items c.loop-at.invariant
    (ap (λ o. up_to u (from_sibling f.trees (option_map (name_at f.names) o))) c.in_default.is ∙ up-to-none u)
