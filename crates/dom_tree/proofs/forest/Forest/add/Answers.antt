use Rattle.dom_base.proofs.Std.{rules, ℕ, ◌^◌, ◌<◌, ap, sym, ◌∙◌, arith, subst, length, length-map, length_push}
use Rattle.dom_model.proofs.Model.{with_node, node_of}
use Rattle.node_arena.specs.Nodes.{Nodes}
use Rattle.dom_tree.specs.Definitions.{Stored, stored_from, keys_of, NamedTrees, next_name, node_from, contents_of}
use Rattle.dom_tree.specs.Ids.{bearers_of, AreNoted, Widens, MayHave}
use Rattle.dom_tree.proofs.Kept.{kept_with}
use Rattle.dom_tree.proofs.Noted.{noted-same, noted-push}
use Rattle.dom_tree.proofs.Adding.{Adds, adds_from, IsKept-keys, IsKept-add, trees_of-add}
use Rattle.dom_tree.proofs.Stays.{IsAdded, added_root, added_childless, added_above_none, added_named, added_above}
use Rattle.dom_tree.proofs.ChildLists.{children_added}
use Rattle.dom_tree.proofs.Holds.{holds_new, held_beside}
use Rattle.dom_tree.proofs.forest.Forest.add.Goals as goal

pub invariant_of-self-in_err-make_room : goal.invariant_of-self-in_err-make_room
invariant_of-self-in_err-make_room c = record {
  kept = IsKept-keys c.self.inside.arena.payloads c.self.inside.arena.children (keys_of c.self.inside.keys) (keys_of c.reserve.new.self)
      c.self.invariant.kept c.reserve.ensures.keys;
  ids = noted-same c.self.invariant.ids c.make_room.ensures.same;
}

pub invariant_of-self-in_err-key : goal.invariant_of-self-in_err-key
invariant_of-self-in_err-key c = record {
  kept = IsKept-keys c.add.new.self.payloads c.add.new.self.children (keys_of c.self.inside.keys) (keys_of c.reserve.new.self)
      (kept_with c.self.inside.arena c.add.new.self _ c.self.invariant.kept (ap (λ a. a.payloads) c.in_err-key.ensures.err) c.add.ensures.sound)
      c.reserve.ensures.keys;
  ids = noted-same (subst (λ (a : Nodes Stored). AreNoted (bearers_of c.self.inside.ids) a.payloads) (sym c.in_err-key.ensures.err)
      c.self.invariant.ids) c.make_room.ensures.same;
}

pub overflow_cast-name : goal.overflow_cast-name
overflow_cast-name c =
    let counted = c.count-number.ensures ∙ c.self.invariant.kept.counted c.args.owner in
    omega (arith, counted, c.self.invariant.kept.limited c.args.owner)

-- the node that is added
adds : (c : goal.After-put) → Adds c.self.inside.arena.payloads c.self.inside.arena.children (keys_of c.self.inside.keys)
    (keys_of c.push.new.self) c.args.owner
    (stored_from (node_of c.args.owner (c.count-number.result)) (contents_of c.args.node))
adds c = adds_from (record {
  kept = c.self.invariant.kept;
  next_number = c.count-number.ensures;
  free = c.if-number.false;
  document = λ k e. subst (λ (n : ℕ). k < n) (ap (λ (f : NamedTrees). length f.names) (sym c.self.view_is) ∙
      length-map c.self.inside.arena.payloads (λ s. s.name)) (c.requires.document_is_node k e);
  key = c.in_ok-key.key;
  next_key = c.in_ok-key.ensures.key;
  fits = let bound : c.in_ok-key.key < 2 ^ 64 = search rules in bound;
  roomy = keys_of c.reserve.new.self;
  held = c.reserve.ensures.keys;
  pushed = c.push.ensures;
})

-- what the arena then has
added : (c : goal.After-put) → IsAdded c.self.inside.arena c.add.new.self
    (stored_from (node_of c.args.owner (c.count-number.result)) (contents_of c.args.node))
added c = subst (λ (s : Stored). IsAdded c.self.inside.arena c.add.new.self s) c.in_ok-stored.ensures c.in_ok-key.ensures.ok

pub invariant_of-self-2 : goal.invariant_of-self-2
invariant_of-self-2 c = record {
  kept = IsKept-add _ _ _ _ _ _ (adds c) c.add.new.self c.add.ensures.sound (ap (λ a. a.payloads) (added c));
  ids = subst (AreNoted _) (sym (ap (λ (a : Nodes Stored). a.payloads) c.in_ok-key.ensures.ok)) (noted-push
      (noted-same c.self.invariant.ids c.make_room.ensures.same) _ (subst (Widens _ _) c.in_ok-key.ensures.key c.put.ensures.widens)
      (λ h has. subst (MayHave _) c.in_ok-key.ensures.key (c.put.ensures.noted h (c.id_number-number.ensures ∙ has))));
}

key_within : (c : goal.After-put) → c.in_ok-key.key < length c.add.new.self.payloads
key_within c =
    let long = ap (λ (a : Nodes Stored). length a.payloads) c.in_ok-key.ensures.ok ∙ length_push c.self.inside.arena.payloads _ in
    omega (arith, long, c.in_ok-key.ensures.key)

pub returns-clause-trees : goal.returns-clause-trees
returns-clause-trees c =
    trees_of-add _ _ _ _ _ _ (adds c) c.add.new.self c.add.ensures.sound (added c)
    ∙ ap (λ f. with_node (node_from f.names (next_name c.args.owner f.names) c.args.node) f.trees) c.self.view_is

pub returns-clause-unlinked : goal.returns-clause-unlinked
returns-clause-unlinked c = added_root (invariant_of-self-2 c).kept c.in_ok-key.key (key_within c) c.in_ok-key.ensures.unlinked

pub returns-clause-childless : goal.returns-clause-childless
returns-clause-childless c = added_childless (invariant_of-self-2 c).kept c.in_ok-key.key (key_within c) c.in_ok-key.ensures.childless

pub returns-clause-above_none : goal.returns-clause-above_none
returns-clause-above_none c =
    added_above_none _ c.self.view_is c.self.invariant.kept (invariant_of-self-2 c).kept c.in_ok-key.ensures.ok c.in_ok-key.key c.in_ok-key.ensures.key

pub returns-clause-named : goal.returns-clause-named
returns-clause-named c = added_named _ c.self.view_is c.self.invariant.kept c.in_ok-key.ensures.ok

pub returns-clause-above : goal.returns-clause-above
returns-clause-above c = added_above _ c.self.view_is c.self.invariant.kept (invariant_of-self-2 c).kept c.in_ok-key.ensures.ok

pub returns-clause-children : goal.returns-clause-children
returns-clause-children c = children_added c.self.view_is c.self.invariant.kept (invariant_of-self-2 c).kept _ c.in_ok-key.ensures.ok

pub returns-clause-holds : goal.returns-clause-holds
returns-clause-holds c =
    holds_new c.self.view_is (adds c) (invariant_of-self-2 c).kept (added c) c.in_ok-key.key c.in_ok-key.ensures.key

pub returns-clause-held : goal.returns-clause-held
returns-clause-held c = held_beside c.self.view_is (adds c) (invariant_of-self-2 c).kept (added c)
