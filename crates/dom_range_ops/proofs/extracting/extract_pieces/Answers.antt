use Rattle.dom_range_ops.proofs.Cited.{◌≡◌, true, arith, refl, sym, ap, ◌∙◌, subst, NodeName, Owner, doing, both_at, own_document, new_fragment_node, next_name}
use Rattle.dom_range_ops.proofs.Cited.{at, make, set_range, part_of, is_there, DocState, made, name_in, AreReady, IsAlone, stands-then}
use Rattle.dom_mutation.specs.Definitions.{stepped}
use Rattle.dom_range_ops.proofs.TakingExtracts.{Fragment, into-node, pieces-kept, may-after, names-then, name-then, node-then, range-then, extracted}
use Rattle.dom_range_ops.proofs.extracting.extract_pieces.Goals.{In_ok-into}
use Rattle.dom_range_ops.proofs.extracting.extract_pieces.Goals as goal

-- the fragment that was made
abbrev fragment : In_ok-into → Fragment
fragment c =
    let d = c.args.doc.now in
    let p = part_of d.world c.args.owner in
    record {
      before = d;
      after = c.add_fragment.new.doc;
      owner = c.args.owner;
      key = c.in_ok-into.into;
      node = new_fragment_node (next_name p) (own_document p.trees (name_in d c.args.start));
      pieces = c.args.pieces.now;
      alone = subst (IsAlone d.world) c.requires.start_owner (c.laws.ensures.alone c.args.start c.requires.start_is_node);
      names = c.in_ok-into.ensures.names;
      world = c.in_ok-into.ensures.world
          ∙ ap (λ document. made c.args.owner (doing (make (new_fragment_node (next_name p) document))) d.world)
          (c.own_document-document.ensures.value ∙ ap (λ r. own_document (part_of d.world r).trees (name_in d c.args.start)) c.requires.start_owner);
      key_is = c.in_ok-into.ensures.key;
      pieces_are_nodes = c.requires.pieces_are_nodes;
      may_take = c.requires.may_take;
    }

pub add_fragment-requires-clause-owner_is_there : goal.add_fragment-requires-clause-owner_is_there
add_fragment-requires-clause-owner_is_there c =
    subst (λ (o : Owner). is_there c.args.doc.now.world o ≡ true) c.requires.start_owner (c.laws.ensures.present c.args.start c.requires.start_is_node)

pub add_fragment-requires-clause-limited : goal.add_fragment-requires-clause-limited
add_fragment-requires-clause-limited c = let few = c.requires.may_take.limited in omega arith

pub take_pieces-requires-clause-into_is_node : goal.take_pieces-requires-clause-into_is_node
take_pieces-requires-clause-into_is_node c = into-node (fragment (goal.at.take_pieces-requires-clause-into_is_node c).In_ok-into)

pub take_pieces-requires-clause-pieces_are_nodes : goal.take_pieces-requires-clause-pieces_are_nodes
take_pieces-requires-clause-pieces_are_nodes c = pieces-kept (fragment (goal.at.take_pieces-requires-clause-pieces_are_nodes c).In_ok-into)

pub take_pieces-requires-clause-may_take : goal.take_pieces-requires-clause-may_take
take_pieces-requires-clause-may_take c = may-after (fragment (goal.at.take_pieces-requires-clause-may_take c).In_ok-into)

pub range_put-requires-clause-there : goal.range_put-requires-clause-there
range_put-requires-clause-there c =
    let m = fragment (goal.at.range_put-requires-clause-there c).In_ok-into in
    let e = c.in_ok-take_pieces.ensures in
    range-then m (c.laws-2.ensures.parts m.owner) (c.laws-2.ensures.alone m.key (into-node m)) c.take_pieces.new.doc e.world e.names
    c.args.number c.requires.there

pub range_put-requires-clause-start_is_node : goal.range_put-requires-clause-start_is_node
range_put-requires-clause-start_is_node c =
    let m = fragment (goal.at.range_put-requires-clause-start_is_node c).In_ok-into in
    let e = c.in_ok-take_pieces.ensures in
    node-then m (c.laws-2.ensures.parts m.owner) (c.laws-2.ensures.alone m.key (into-node m)) c.take_pieces.new.doc e.world e.names
    c.args.place.0 c.requires.place_is_node

pub range_put-requires-clause-own_start : goal.range_put-requires-clause-own_start
range_put-requires-clause-own_start c =
    let m = fragment (goal.at.range_put-requires-clause-own_start c).In_ok-into in
    let e = c.in_ok-take_pieces.ensures in
    ap (λ (y : NodeName). y.owner) (name-then m (c.laws-2.ensures.parts m.owner) (c.laws-2.ensures.alone m.key (into-node m))
    c.take_pieces.new.doc e.world e.names c.args.place.0 c.requires.place_is_node) ∙ c.requires.place_owner

pub range_put-requires-clause-end_is_node : goal.range_put-requires-clause-end_is_node
range_put-requires-clause-end_is_node c = range_put-requires-clause-start_is_node c

pub range_put-requires-clause-own_end : goal.range_put-requires-clause-own_end
range_put-requires-clause-own_end c = range_put-requires-clause-own_start c

pub range_put-requires-clause-may_stand : goal.range_put-requires-clause-may_stand
range_put-requires-clause-may_stand c =
    let m = fragment (goal.at.range_put-requires-clause-may_stand c).In_ok-into in
    let e = c.in_ok-take_pieces.ensures in
    let f = c.take_pieces.new.doc in
    let place = c.args.place in
    let r = both_at (at (name_in f place.0) place.1) in
    let k = c.args.number in
    stands-then f c.args.owner k r (range_put-requires-clause-there c)
    (subst AreReady (sym (extracted m (c.laws-2.ensures.parts m.owner) (c.laws-2.ensures.alone m.key (into-node m)) f e.world e.names
    (stepped c.args.owner (set_range k r) f) k place c.requires.place_is_node refl)) c.requires.ready)

pub returns-clause-names : goal.returns-clause-names
returns-clause-names c =
    let m = fragment (goal.at.returns-clause-names c).In_ok-into in
    let e = c.in_ok-take_pieces.ensures in
    ap (λ (s : DocState). s.names) c.range_put.ensures.state ∙
    names-then m (c.laws-2.ensures.parts m.owner) (c.laws-2.ensures.alone m.key (into-node m)) c.take_pieces.new.doc e.world e.names

pub returns-clause-world : goal.returns-clause-world
returns-clause-world c =
    let m = fragment (goal.at.returns-clause-world c).In_ok-into in
    let e = c.in_ok-take_pieces.ensures in
    extracted m (c.laws-2.ensures.parts m.owner) (c.laws-2.ensures.alone m.key (into-node m)) c.take_pieces.new.doc e.world e.names
    c.range_put.new.self c.args.number c.args.place c.requires.place_is_node c.range_put.ensures.state
