-- The steps of an extraction, one after another.
use Rattle.dom_range_ops.proofs.Cited.{suc, ◌≡◌, ◌<◌, ◌+◌, ℕ, false, List, [], ◌∷◌, ◌++◌, length, map, is_some, true, Result, Ok, Err, Some, None, refl, sym}
use Rattle.dom_range_ops.proofs.Cited.{ap, ◌∙◌, subst, arith, append_assoc, ◌↔◌, IfErr, AllByRecursion, false_from_ne_true, ltb-true, NodeName, Fault, Refused}
use Rattle.dom_range_ops.proofs.Cited.{Memory, Refusal, Limit, Owner, owner-part_of, past_limit, limit_on, first_refusal, Plan, ◌and_then◌, doing, both_at}
use Rattle.dom_range_ops.proofs.Cited.{node_of, Part, next_name, range_at, at, make, set_range, part_step, Node, World, part_of, IsPart, all-then, DocState}
use Rattle.dom_range_ops.proofs.Cited.{made, stepped, name_in, owner_in, IsAlone, PlansOwn, plan_alone, made_then, Item, item_in, made_by, top_of, taking_item}
use Rattle.dom_range_ops.proofs.Cited.{taking_items, clones_after, new_names, MayBeTaken, MayTake, IsPieceOf, Piece, keeps-and_then, own_moves}
use Rattle.dom_range_ops.proofs.InsertedRanges.{range-kept}
use Rattle.dom_range_ops.proofs.TakingDocs.{name-kept, node-kept, new-name, new-node}
use Rattle.dom_range_ops.proofs.TakingLoops.{plans-item, item-same, piece-kept}

-- the steps for items that may be taken are in their owner's part
pub plans-items : {o : Owner} (into : NodeName) {p : Part} → IsPart p → p.owner ≡ o → (items : List Item) →
    AllByRecursion (MayBeTaken into p.trees) items → (clones : List NodeName) → PlansOwn o (taking_items into clones items)
plans-items into i is [] h clones = λ q own. tt
plans-items {o} into i is (item ∷ items) h clones = λ q own.
    keeps-and_then (own_moves o) (taking_item (top_of into clones) item) (taking_items into (clones_after (next_name q) item clones) items)
    (plans-item into (top_of into clones) item i is h.0)
    (plans-items into i is items h.1 (clones_after (next_name q) item clones)) q own

-- a fragment was made for an owner, and pieces may be taken into it
pub record Fragment : Type 0 where
  pub before : DocState
  pub after : DocState
  pub owner : Owner
  pub key : ℕ
  pub node : Node
  pub pieces : List Piece
  pub alone : IsAlone before.world owner
  pub names : after.names ≡ before.names ++ next_name (part_of before.world owner) ∷ []
  pub world : after.world ≡ made owner (doing (make node)) before.world
  pub key_is : key ≡ length before.names
  pub pieces_are_nodes : AllByRecursion (IsPieceOf before.names) pieces
  pub may_take : MayTake (part_step (part_of before.world owner) (make node)) (next_name (part_of before.world owner)) [] (map (item_in before.names) pieces)

module _ (m : Fragment) where
  open m use {before as d, after as e, owner as o, key as into, node as n, pieces, alone, names, world, pieces_are_nodes as nodes}

  abbrev p : Part
  p = part_of m.before.world m.owner

  abbrev items : List Item
  items = map (item_in m.before.names) m.pieces

  into-name : name_in e into ≡ next_name p
  into-name = new-name d e (next_name p) into names m.key_is

  into-owner : owner_in e into ≡ o
  into-owner = ap (λ (x : NodeName). x.owner) into-name ∙ owner-part_of d.world o

  fragment-part : part_of e.world o ≡ part_step p (make n)
  fragment-part = ap (λ (w : World). part_of w o) world ∙ plan_alone o (doing (make n)) d.world alone (λ q own. (tt, tt))

  items-same : (ps : List Piece) → AllByRecursion (IsPieceOf d.names) ps → map (item_in e.names) ps ≡ map (item_in d.names) ps
  items-same [] h = refl
  items-same (piece ∷ ps) h = ap (λ i. i ∷ map (item_in e.names) ps) (item-same d e (next_name p ∷ []) names piece h.0) ∙
      ap (λ is. item_in d.names piece ∷ is) (items-same ps h.1)

  -- its key is a node, as those of the pieces are still
  pub into-node : m.key < length m.after.names
  into-node = new-node d e (next_name p) into names m.key_is

  pub pieces-kept : AllByRecursion (IsPieceOf m.after.names) m.pieces
  pieces-kept = all-then (IsPieceOf d.names) (IsPieceOf e.names) (piece-kept d e (next_name p ∷ []) names) pieces nodes

  -- pieces may be taken into it
  pub may-after : MayTake (part_of m.after.world (owner_in m.after m.key)) (name_in m.after m.key) [] (map (item_in m.after.names) m.pieces)
  may-after =
      subst (λ (r : Owner). MayTake (part_of e.world r) (name_in e into) [] (map (item_in e.names) pieces)) (sym into-owner)
      (subst (λ (q : Part). MayTake q (name_in e into) [] (map (item_in e.names) pieces)) (sym fragment-part)
      (subst (λ (x : NodeName). MayTake (part_step p (make n)) x [] (map (item_in e.names) pieces)) (sym into-name)
      (subst (λ (is : List Item). MayTake (part_step p (make n)) (next_name p) [] is) (sym (items-same pieces nodes)) m.may_take)))

  module _ (part : IsPart (part_of m.after.world m.owner)) (laws_alone : IsAlone m.after.world (owner_in m.after m.key)) (f : DocState)
      (taken : f.world ≡ made (owner_in m.after m.key) (taking_items (name_in m.after m.key) [] (map (item_in m.after.names) m.pieces)) m.after.world)
      (more : f.names ≡ m.after.names ++ new_names (owner_in m.after m.key) (part_of m.after.world (owner_in m.after m.key)).node_count
      (made_by (map (item_in m.after.names) m.pieces))) where
    abbrev fill : Plan
    fill = taking_items (next_name (part_of m.before.world m.owner)) [] (map (item_in m.before.names) m.pieces)

    own-items : PlansOwn o fill
    own-items = plans-items (next_name p) part (owner-part_of e.world o) items
        (subst (λ (q : Part). AllByRecursion (MayBeTaken (next_name p) q.trees) items) (sym fragment-part) m.may_take.taken) []

    taken-world : f.world ≡ made o fill e.world
    taken-world =
        taken
        ∙ ap (λ r. made r (taking_items (name_in e into) [] (map (item_in e.names) pieces)) e.world) into-owner
        ∙ ap (λ x. made o (taking_items x [] (map (item_in e.names) pieces)) e.world) into-name
        ∙ ap (λ is. made o (taking_items (next_name p) [] is) e.world) (items-same pieces nodes)

    -- the names then
    pub names-then : f.names ≡ m.before.names ++ new_names m.owner (part_of m.before.world m.owner).node_count
        (suc (made_by (map (item_in m.before.names) m.pieces)))
    names-then =
        more
        ∙ ap (λ r. e.names ++ new_names r (part_of e.world r).node_count (made_by (map (item_in e.names) pieces))) into-owner
        ∙ ap (λ is. e.names ++ new_names o (part_of e.world o).node_count (made_by is)) (items-same pieces nodes)
        ∙ ap (λ (q : Part). e.names ++ new_names o q.node_count (made_by items)) fragment-part
        ∙ ap (λ ns. ns ++ new_names o (suc p.node_count) (made_by items)) names
        ∙ append_assoc d.names (next_name p ∷ []) (new_names o (suc p.node_count) (made_by items))
        ∙ ap (λ r. d.names ++ node_of r p.node_count ∷ new_names o (suc p.node_count) (made_by items)) (owner-part_of d.world o)

    -- a node of before is the same
    pub name-then : (k : ℕ) → k < length m.before.names → name_in f k ≡ name_in m.before k
    name-then k here = name-kept d f _ k names-then here

    pub node-then : (k : ℕ) → k < length m.before.names → k < length f.names
    node-then k here = node-kept d f _ k names-then here

    -- a range that was there is there
    pub range-then : (k : ℕ) → is_some (range_at (part_of m.before.world m.owner) k) ≡ true → is_some (range_at (part_of f.world m.owner) k) ≡ true
    range-then k h =
        range-kept fill (subst (IsAlone e.world) into-owner laws_alone) own-items taken-world k
        (range-kept (doing (make n)) alone (λ q own. (tt, tt)) world k h)

    -- and the range is put at its new place
    pub extracted : (g : DocState) (k : ℕ) (place : ℕ × ℕ) → place.0 < length m.before.names →
        g ≡ stepped m.owner (set_range k (both_at (at (name_in f place.0) place.1))) f →
        g.world ≡ made m.owner (doing (make m.node) and_then taking_items (next_name (part_of m.before.world m.owner)) []
        (map (item_in m.before.names) m.pieces) and_then doing (set_range k (both_at (at (name_in m.before place.0) place.1)))) m.before.world
    extracted g k place here put =
        let r = both_at (at (name_in d place.0) place.1) in
        let first : f.world ≡ made o (doing (make n) and_then fill) d.world =
        taken-world ∙ ap (made o fill) world ∙ sym (made_then o (doing (make n)) fill d.world alone (λ q own. (tt, tt))) in
        ap (λ (s : DocState). s.world) (put ∙ ap (λ y. stepped o (set_range k (both_at (at y place.1))) f) (name-then place.0 here))
        ∙ ap (made o (doing (set_range k r))) first
        ∙ sym (made_then o (doing (make n) and_then fill) (doing (set_range k r)) d.world alone
        (keeps-and_then (own_moves o) (doing (make n)) fill (λ q own. (tt, tt)) own-items))

-- a fragment has no name to be tested, so where there is room for it, memory alone stops it
pub room-faults : {X : Type 0} (m : Result X Fault) (have : ℕ) → have < 1000000 → ((r : Refusal) → (m ≡ Err (Refused r)) ↔ (limit_on have 1 ≡ Some r)) →
    IfErr m (λ fault. fault ≡ Memory)
room-faults (Ok x) have few h = tt
room-faults (Err Memory) have few h = refl
room-faults (Err (Refused r)) have few h =
    let kept : past_limit have 1 ≡ false = false_from_ne_true (past_limit have 1) (λ e. omega (arith, few, ltb-true 1000000 (have + 1) e)) in
    let no : None ≡ Some r = sym (ap (λ b. first_refusal ((b, Limit) ∷ [])) kept) ∙ (h r).0 refl in
    absurd cc
