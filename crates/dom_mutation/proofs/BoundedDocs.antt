-- After a plan, or a part of one, live ranges' offsets are within lengths in the state that it leaves, if they were: so the next
-- step that asks for that may be made.
use Rattle.dom_mutation.proofs.Cited.{◌≡◌, ℕ, ◌+◌, ◌<◌, ◌≤◌, true, false, None, Some, List, [], Option, length, refl, subst, sym, ap, arith, ltb-false}
use Rattle.dom_mutation.proofs.Cited.{NodeName, Owner, Plan, Observing, suppressed, in_turn, doing, remove_plan, emptying, past_limit, DomString, Change}
use Rattle.dom_mutation.proofs.Cited.{child_list, make, queue_record, after, replacing_data, new_text_node, Part, next_name, Node, has_data, kind_of}
use Rattle.dom_mutation.proofs.Cited.{children_of, parent_of, index_of, World, part_of, HasBounds, IsPart, name_at, DocState, owner_in, planned, PlansOwn}
use Rattle.dom_mutation.proofs.Cited.{IsAlone, keeps-and_then, keeps-each, keeps-removing, keeps-replacing_data}
use Rattle.dom_worlds.proofs.RangeLemmas.{make-keeps, queue_record-keeps, removal-keeps, data-keeps}
use Rattle.dom_mutation.proofs.OwnParts.{children_few}
use Rattle.dom_mutation.proofs.Grown.{IsMade, same_name}
use Rattle.dom_mutation.proofs.BoundedPlans.{removals-keep, emptying-keeps, index_few}
use Rattle.dom_mutation.proofs.Made.{plan_alone}
use Rattle.dom_mutation.proofs.OwnPlans.{own_moves, own_rules}

module _ (o : Owner) (d : DocState) (alone : IsAlone d.world o) (part : IsPart (part_of d.world o)) (bounds : HasBounds (part_of d.world o)) where
  -- after a plan that keeps the bounds in the owner's part
  pub bounds_after : (f : Plan) → PlansOwn o f → HasBounds (after (part_of d.world o) (f (part_of d.world o))) → (e : DocState) →
      e ≡ planned o f d → HasBounds (part_of e.world o)
  bounds_after f own h e is = subst (λ (s : DocState). HasBounds (part_of s.world o)) (sym is) (subst HasBounds (sym (plan_alone o f d.world alone own)) h)

  -- before the node that takes the place of a child is inserted
  pub bounds_removed : (how : Observing) (x : NodeName) (e : DocState) → e ≡ planned o (remove_plan how x) d → HasBounds (part_of e.world o)
  bounds_removed how x = bounds_after (remove_plan how x) (keeps-removing (own_moves o) how x) (removal-keeps how x (part_of d.world o) part bounds)

  -- before the Text that takes the place of children is inserted
  pub bounds_cleared : (how : Observing) (xs : List NodeName) (e : DocState) → e ≡ planned o (in_turn (remove_plan how) xs) d → HasBounds (part_of e.world o)
  bounds_cleared how xs = bounds_after (in_turn (remove_plan how) xs) (keeps-each (own_moves o) (remove_plan how) (keeps-removing (own_moves o) how) xs)
      (removals-keep how xs (part_of d.world o) part bounds)

  -- before room is made for a fragment's children
  pub bounds_emptied : (node : NodeName) (moved : List NodeName) (e : DocState) → e ≡ planned o (emptying node moved) d → HasBounds (part_of e.world o)
  bounds_emptied node moved =
      bounds_after (emptying node moved)
      (keeps-and_then (own_moves o) (in_turn (remove_plan suppressed) moved) (doing (queue_record (child_list node [] moved None None)))
      (keeps-each (own_moves o) (remove_plan suppressed) (keeps-removing (own_moves o) suppressed) moved) (λ p own. (tt, tt)))
      (emptying-keeps node moved (part_of d.world o) part bounds)

  -- before a new node is inserted
  pub bounds_made : (n : Node) (e : DocState) → e ≡ planned o (doing (make n)) d → HasBounds (part_of e.world o)
  bounds_made n = bounds_after (doing (make n)) (λ p own. (tt, tt)) (make-keeps (part_of d.world o) n part bounds)

  -- before data change, after observers are told
  pub bounds_told : (c : Change NodeName) (e : DocState) → e ≡ planned o (doing (queue_record c)) d → HasBounds (part_of e.world o)
  bounds_told c = bounds_after (doing (queue_record c)) (λ p own. (tt, tt)) (queue_record-keeps (part_of d.world o) c part bounds)

  -- before Texts are joined
  pub bounds_grown : (x : NodeName) (offset count : ℕ) (new : DomString) → has_data (kind_of (part_of d.world o).trees x) ≡ true →
      {e : DocState} → e ≡ planned o (replacing_data x offset count new) d → HasBounds (part_of e.world o)
  bounds_grown x offset count new has {e} = bounds_after (replacing_data x offset count new) (keeps-replacing_data (own_rules o) x offset count new)
      (data-keeps x offset count new (part_of d.world o) part has bounds) e

-- ---- for a node's owner

-- a node that is there, whose owner stands alone and has a part with bounds
pub record HasBoundedPart (d : DocState) (k : ℕ) : Type 0 where
  pub here : k < length d.names
  pub alone : IsAlone d.world (owner_in d k)
  pub part : IsPart (part_of d.world (owner_in d k))
  pub bounds : HasBounds (part_of d.world (owner_in d k))

module _ (d e : DocState) (k : ℕ) where
  -- where the names stay
  pub bounds_at : e.names ≡ d.names → HasBounds (part_of e.world (owner_in d k)) → HasBounds (part_of e.world (owner_in e k))
  bounds_at names h = subst (λ (ns : List NodeName). HasBounds (part_of e.world (name_at ns k).owner)) (sym names) h

  -- where a Text was made
  pub bounds_added : {new : ℕ} {doc : Option NodeName} {text : DomString} → IsMade d e k new doc text → IsPart (part_of d.world (owner_in d k)) →
      HasBounds (part_of d.world (owner_in d k)) → HasBounds (part_of e.world (owner_in e k))
  bounds_added {new} {doc} {text} made part bounds =
      let o = owner_in d k in
      let n = new_text_node (next_name (part_of d.world o)) doc text in
      subst (λ (p : Owner). HasBounds (part_of e.world p)) (sym (ap (λ (z : NodeName). z.owner) (same_name made)))
      (subst (λ (w : World). HasBounds (part_of w o)) (sym made.world)
      (bounds_made o d made.alone part bounds n (planned o (doing (make n)) d) refl))

-- ---- how many nodes there are

-- no node has more than a million children
pub children_limited : (p : Part) → IsPart p → past_limit p.node_count 0 ≡ false → (x : NodeName) → length (children_of p.trees x) ≤ 1000000
children_limited p part limited x = let few = children_few p part x in let most = ltb-false 1000000 (p.node_count + 0) limited in omega arith

-- so a child's index is below that
pub index_limited : (p : Part) → IsPart p → past_limit p.node_count 0 ≡ false → (x parent : NodeName) → parent_of p.trees x ≡ Some parent →
    index_of p.trees x < 1000000
index_limited p part limited x parent up = let few = index_few p part x parent up in let most = ltb-false 1000000 (p.node_count + 0) limited in omega arith
