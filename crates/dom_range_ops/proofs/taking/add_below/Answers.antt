use Rattle.dom_range_ops.proofs.Cited.{◌∷◌, ◌++◌, [], ◌≡◌, false, None, refl, ap, ◌∙◌, sym, subst, Owner, doing, observed, insert_plan, next_name, make}
use Rattle.dom_range_ops.proofs.Cited.{kind_of, is_shadow, part_of, MayMove, made, planned, name_in, owner_in, trees_in, node_from}
use Rattle.dom_range_ops.proofs.TakingDocs.{NewNode, new-moves, new-open, new-plain, below-made}
use Rattle.dom_range_ops.proofs.taking.add_below.Goals.{In_ok-new}
use Rattle.dom_range_ops.proofs.taking.add_below.Goals as goal

-- the node that was made
abbrev new_node : In_ok-new → NewNode
new_node c =
    let d = c.args.doc.now in
    let top = c.args.top in
    record {
      before = d;
      after = c.add_clone.new.self;
      top = top;
      node = node_from d.names (next_name (part_of d.world (owner_in d top))) c.args.node;
      here = record {
        here = c.requires.top.node;
        alone = c.laws.ensures.alone top c.requires.top.node;
        part = c.laws.ensures.parts _;
        bounds = c.requires.top.bounds;
      };
      stands = c.laws.ensures.stand top c.requires.top.node;
      named = refl;
      names = c.in_ok-new.ensures.names ∙ ap (λ (o : Owner). d.names ++ next_name (part_of d.world o) ∷ []) c.requires.owner;
      world = c.in_ok-new.ensures.world ∙
          ap (λ (o : Owner). made o (doing (make (node_from d.names (next_name (part_of d.world o)) c.args.node))) d.world) c.requires.owner;
    }

pub insert_unchecked-requires-clause-may_move : goal.insert_unchecked-requires-clause-may_move
insert_unchecked-requires-clause-may_move c =
    subst (MayMove c.add_clone.new.self c.args.top None) (sym c.in_ok-new.ensures.key)
    (new-moves (new_node (goal.at.insert_unchecked-requires-clause-may_move c).In_ok-new))

pub insert_unchecked-requires-clause-open : goal.insert_unchecked-requires-clause-open
insert_unchecked-requires-clause-open c = new-open (new_node (goal.at.insert_unchecked-requires-clause-open c).In_ok-new) c.requires.top.no_data

pub insert_unchecked-requires-clause-no_shadow : goal.insert_unchecked-requires-clause-no_shadow
insert_unchecked-requires-clause-no_shadow c =
    let e = c.add_clone.new.self in
    subst (λ k. is_shadow (kind_of (trees_in e k) (name_in e k)) ≡ false) (sym c.in_ok-new.ensures.key)
    (new-plain (new_node (goal.at.insert_unchecked-requires-clause-no_shadow c).In_ok-new) c.requires.copy.no_shadow)

pub returns-clause-world : goal.returns-clause-world
returns-clause-world c =
    let e = c.add_clone.new.self in
    below-made (new_node (goal.at.returns-clause-world c).In_ok-new) c.insert_unchecked.new.self (c.in_ok-insert_unchecked.ensures.state ∙
    ap (λ k. planned (owner_in e c.args.top) (insert_plan observed (name_in e k) (name_in e c.args.top) None) e) c.in_ok-new.ensures.key)
