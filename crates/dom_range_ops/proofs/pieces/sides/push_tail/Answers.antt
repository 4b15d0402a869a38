use Rattle.dom_range_ops.proofs.Cited.{[], ◌∷◌, sym, ap, subst, ◌∙◌, map, option_map, name_eq, items_after, siblings, name_at, Once-forest, Has-forest, Adds}
use Rattle.dom_range_ops.proofs.Cited.{whole_item, end_item, wholes_if, End}
use Rattle.dom_range_ops.proofs.PieceRuns.{adds-none, adds-on, adds-one, adds-same, sibling-next}
use Rattle.dom_range_ops.proofs.pieces.sides.push_tail.Goals.{then-behind+in_ok-push_siblings, else-behind}
use Rattle.dom_range_ops.proofs.pieces.sides.push_tail.Goals as goal

pub returns : goal.returns
returns c =
    let f = c.args.forest.now in
    let e = c.law_nodes_stand_once.ensures in
    let x = name_at f.names c.args.child in
    let later = items_after name_eq x (siblings f.trees x) in
    let old = c.args.pieces.now.items in
    let taken : Adds f.names old c.if-behind.pieces.items (wholes_if c.args.behind later) = elim c.if-behind.branch [
      | then-behind+in_ok-push_siblings w ↦
          let run = ap (map whole_item) (sym
          (sibling-next f.trees (Once-forest f e.once e.only) x (Has-forest f e.once c.args.child c.requires)
          (option_map (name_at f.names) w.next.result) w.next.ensures.value)) ∙ ap (λ b. wholes_if b later) (sym w.if-behind.true) in
          adds-same f.names old w.push_siblings.new.pieces.items c.if-behind.pieces.items (wholes_if c.args.behind later)
          (ap (λ v. v.items) w.pieces-is) (subst (Adds f.names old w.push_siblings.new.pieces.items) run w.in_ok-push_siblings.ensures)
      | else-behind w ↦
          adds-same f.names old old c.if-behind.pieces.items (wholes_if c.args.behind later) (ap (λ v. v.items) w.pieces-is)
          (subst (Adds f.names old old) (ap (λ b. wholes_if b later) (sym w.if-behind.false)) (adds-none f.names old))
    ] in
    adds-on f.names (wholes_if c.args.behind later) (end_item ∷ []) taken
    (adds-one f.names c.if-behind.pieces.items c.push.new.self.items End c.in_ok-push.ensures.items tt)
