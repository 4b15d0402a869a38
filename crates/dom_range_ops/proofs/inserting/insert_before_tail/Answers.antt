use Rattle.dom_range_ops.proofs.Cited.{◌≡◌, ◌++◌, ◌∷◌, [], refl, sym, ap, subst, ◌∙◌, next_name, splitting, has_data, has_node, is_shadow, is_text, kind_of}
use Rattle.dom_range_ops.proofs.Cited.{part_of, IsChild, made, name_in, IsAlone, AreReady, range_at_points}
use Rattle.dom_range_ops.proofs.InsertedTails.{TailSplit, split-kind, split-apart, split-child, split-there, split-whole}
use Rattle.dom_range_ops.proofs.inserting.insert_before_tail.Goals.{In_ok-tail}
use Rattle.dom_range_ops.proofs.inserting.insert_before_tail.Goals as goal

-- the Text at the start was split
abbrev split : In_ok-tail → TailSplit
split c =
    let d = c.args.doc.now in
    let point = c.args.points.now.start in
    let own = c.requires.start_is_child.owner ∙ c.requires.parent_own in
    record {
      before = d;
      after = c.split.new.self;
      owner = c.args.owner;
      start = point.0;
      offset = point.1;
      parent = c.args.parent;
      node = c.args.node;
      tail = c.in_ok-tail.tail;
      alone = subst (IsAlone d.world) c.requires.parent_own (c.laws.ensures.alone c.args.parent c.requires.parent_is_node);
      part = c.laws.ensures.parts c.args.owner;
      names = c.in_ok-tail.ensures.names ∙ ap (λ w. d.names ++ next_name (part_of d.world w) ∷ []) own;
      world = c.in_ok-tail.ensures.world ∙ ap (λ w. made w (splitting (name_in d point.0) point.1) d.world) own;
      key = c.in_ok-tail.ensures.key;
      child = c.requires.start_is_child;
      parent_is = c.requires.parent_is_node;
      parent_own = c.requires.parent_own;
      node_is = c.requires.node_is_node;
    }

pub split-requires-clause-text : goal.split-requires-clause-text
split-requires-clause-text c =
    ap (λ w. is_text (kind_of (part_of c.args.doc.now.world w).trees (name_in c.args.doc.now c.args.points.now.start.0)))
    (c.requires.start_is_child.owner ∙ c.requires.parent_own) ∙ c.requires.text

pub insert_at-requires-clause-there : goal.insert_at-requires-clause-there
insert_at-requires-clause-there c = split-there (split (goal.at.insert_at-requires-clause-there c).In_ok-tail) c.args.number c.requires.there

pub insert_at-requires-clause-not_above : goal.insert_at-requires-clause-not_above
insert_at-requires-clause-not_above c =
    split-apart (split (goal.at.insert_at-requires-clause-not_above c).In_ok-tail)
    (ap (λ w. has_node (part_of c.args.doc.now.world w).trees (name_in c.args.doc.now c.args.node)) (sym c.requires.node_own) ∙
    c.laws.ensures.stand c.args.node c.requires.node_is_node) c.requires.not_above

pub insert_at-requires-clause-open : goal.insert_at-requires-clause-open
insert_at-requires-clause-open c =
    split-kind (split (goal.at.insert_at-requires-clause-open c).In_ok-tail) has_data c.args.parent c.requires.parent_is_node c.requires.parent_own
    (ap (λ w. has_node (part_of c.args.doc.now.world w).trees (name_in c.args.doc.now c.args.parent)) (sym c.requires.parent_own) ∙
    c.laws.ensures.stand c.args.parent c.requires.parent_is_node) c.requires.open

pub insert_at-requires-clause-no_shadow : goal.insert_at-requires-clause-no_shadow
insert_at-requires-clause-no_shadow c =
    split-kind (split (goal.at.insert_at-requires-clause-no_shadow c).In_ok-tail) is_shadow c.args.node c.requires.node_is_node c.requires.node_own
    (ap (λ w. has_node (part_of c.args.doc.now.world w).trees (name_in c.args.doc.now c.args.node)) (sym c.requires.node_own) ∙
    c.laws.ensures.stand c.args.node c.requires.node_is_node) c.requires.no_shadow

pub insert_at-requires-clause-child_is_child : goal.insert_at-requires-clause-child_is_child
insert_at-requires-clause-child_is_child c b is =
    let same : c.in_ok-tail.tail ≡ b = cc in
    subst (IsChild c.split.new.self c.args.parent) same (split-child (split (goal.at.insert_at-requires-clause-child_is_child c).In_ok-tail))

pub insert_at-requires-clause-ready : goal.insert_at-requires-clause-ready
insert_at-requires-clause-ready c =
    subst AreReady (sym (split-whole (split (goal.at.insert_at-requires-clause-ready c).In_ok-tail) c.args.number
    (range_at_points c.args.doc.now.names c.args.points.now) refl refl refl)) c.requires.ready

pub returns-clause-world : goal.returns-clause-world
returns-clause-world c =
    split-whole (split (goal.at.returns-clause-world c).In_ok-tail) c.args.number (range_at_points c.args.doc.now.names c.args.points.now) refl refl
    c.in_ok-insert_at.ensures
