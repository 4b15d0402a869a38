use Rattle.dom_range_ops.proofs.Cited.{map, take, drop, sym, ap, subst, ◌∙◌, if◌then◌else◌, option_map, on_ok_weaker, children_of, name_at, Once-forest}
use Rattle.dom_range_ops.proofs.Cited.{Has-forest, Adds, whole_item}
use Rattle.dom_range_ops.proofs.PieceRuns.{run-before, run-behind}
use Rattle.dom_range_ops.proofs.pieces.runs.push_children.Goals as goal

pub returns-then-behind : goal.returns-then-behind
returns-then-behind c =
    let f = c.args.forest.now in
    let e = c.law_nodes_stand_once.ensures in
    let p = name_at f.names c.args.point.0 in
    let n = c.args.point.1 in
    let kids = children_of f.trees p in
    let run = ap (map whole_item) (run-behind f.trees (Once-forest f e.once e.only) p (Has-forest f e.once c.args.point.0 c.requires) n
    (option_map (name_at f.names) c.child_at-first_behind.result) c.child_at-first_behind.ensures.value)
    ∙ ap (λ b. map whole_item (if b then drop n kids else take n kids)) (sym c.if-behind.true) in
    on_ok_weaker c.push_siblings.result (subst (Adds f.names c.args.pieces.now.items c.push_siblings.new.pieces.items) run) c.push_siblings.ensures

pub returns : goal.returns
returns c =
    let f = c.args.forest.now in
    let e = c.law_nodes_stand_once.ensures in
    let p = name_at f.names c.args.point.0 in
    let n = c.args.point.1 in
    let kids = children_of f.trees p in
    let run = ap (map whole_item)
    (run-before f.trees (Once-forest f e.once e.only) p (Has-forest f e.once c.args.point.0 c.requires) n
    (option_map (name_at f.names) c.first.result) (option_map (name_at f.names) c.child_at-first_behind.result) c.first.ensures.value
    c.child_at-first_behind.ensures.value)
    ∙ ap (λ b. map whole_item (if b then drop n kids else take n kids)) (sym c.if-behind.false) in
    on_ok_weaker c.push_siblings-2.result (subst (Adds f.names c.args.pieces.now.items c.push_siblings-2.new.pieces.items) run) c.push_siblings-2.ensures
