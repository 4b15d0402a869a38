-- Pieces that are taken one after another.
use Rattle.dom_range_ops.proofs.Cited.{zero, suc, ◌≡◌, ◌<◌, ◌≤◌, ℕ, ◌+◌, ◌-◌, List, [], ◌∷◌, ◌++◌, length, map, drop, None, refl, sym, ap, ◌∙◌, subst, arith}
use Rattle.dom_range_ops.proofs.Cited.{append_assoc, get_or, drop-cons, add-one, AllByRecursion, NodeName, Owner, owner-part_of, observed, clone_part}
use Rattle.dom_range_ops.proofs.Cited.{making_below, node_of, Part, next_name, after, replacing_data, node_in, with_name, World, part_of, IsPart}
use Rattle.dom_range_ops.proofs.Cited.{has_node-times, DocState, made, name_in, owner_in, IsOwnNode, IsAlone, PlansOwn, plan_alone, made_then}
use Rattle.dom_range_ops.proofs.Cited.{Item, whole_item, cut_item, clone_item, end_item, item_in, made_by, top_of, taking_item, keeps-making_below}
use Rattle.dom_range_ops.proofs.Cited.{taking_items, clones_after, new_names, names_in, MayBeTaken, MayTake, IsPieceOf, Piece, Whole, Cut, Clone, End}
use Rattle.dom_range_ops.proofs.Cited.{keeps-and_then, keeps-inserting, keeps-replacing_data, own_moves, own_rules}
use Rattle.dom_range_ops.proofs.TakingDocs.{name-kept, node-kept}
use Rattle.dom_range_ops.proofs.TakingParts.{takes-on, count-item, made-more}

-- the steps for an item that may be taken are in its owner's part
pub plans-item : {o : Owner} (into top : NodeName) {p : Part} (item : Item) → IsPart p → p.owner ≡ o → MayBeTaken into p.trees item →
    PlansOwn o (taking_item top item)
plans-item {o} into top {p} (whole_item x) i is h = keeps-inserting (own_moves o) observed x top None (i.owned x (has_node-times p.trees x h.0.there) ∙ is)
plans-item {o} into top (cut_item x from to) i is h = λ q own.
    let n = clone_part (next_name q) from to (node_in q.trees x) in
    keeps-and_then (own_moves o) (making_below top n) (replacing_data x from (to - from) []) (keeps-making_below (own_rules o) top n tt own.owner)
    (keeps-replacing_data (own_rules o) x from (to - from) []) q own
plans-item {o} into top (clone_item x) i is h = λ q own.
    keeps-making_below (own_rules o) top (with_name (next_name q) (node_in q.trees x)) tt own.owner q own
plans-item into top end_item i is h = λ q own. tt

-- new names, and more of them
names-more : (o : Owner) (number count more : ℕ) → new_names o number count ++ new_names o (number + count) more ≡ new_names o number (count + more)
names-more o number zero more = ap (λ k. new_names o k more) (omega arith) ∙ ap (new_names o number) (omega arith)
names-more o number (suc count) more =
    ap (λ k. node_of o number ∷ new_names o (suc number) count ++ new_names o k more) (omega arith)
    ∙ ap (λ names. node_of o number ∷ names) (names-more o (suc number) count more)
    ∙ ap (new_names o number) (suc-more count more)
  where
    suc-more : (a b : ℕ) → suc (a + b) ≡ suc a + b
    suc-more a b = omega arith

-- How far the taking of pieces has come: of all pieces, these are left.
pub record Progress (d : DocState) (into : ℕ) (pieces left : List Piece) (e : DocState) (ks : List ℕ) : Type 0 where
  pub more : List NodeName
  pub longer : e.names ≡ d.names ++ more
  pub own : AllByRecursion (IsOwnNode e into) ks
  pub nodes : AllByRecursion (IsPieceOf d.names) left
  pub may : MayTake (part_of e.world (owner_in d into)) (name_in d into) (names_in e ks) (map (item_in d.names) left)
  pub names : e.names ++ new_names (owner_in d into) (part_of e.world (owner_in d into)).node_count (made_by (map (item_in d.names) left))
      ≡ d.names ++ new_names (owner_in d into) (part_of d.world (owner_in d into)).node_count (made_by (map (item_in d.names) pieces))
  pub world : made (owner_in d into) (taking_items (name_in d into) (names_in e ks) (map (item_in d.names) left)) e.world
      ≡ made (owner_in d into) (taking_items (name_in d into) [] (map (item_in d.names) pieces)) d.world

-- a piece of nodes that stay is the same item
pub item-same : (d e : DocState) (more : List NodeName) → e.names ≡ d.names ++ more → (piece : Piece) → IsPieceOf d.names piece →
    item_in e.names piece ≡ item_in d.names piece
item-same d e more names (Whole x) h = ap (λ y. whole_item y) (name-kept d e more x names h)
item-same d e more names (Cut x from to) h = ap (λ y. cut_item y from to) (name-kept d e more x names h)
item-same d e more names (Clone x) h = ap (λ y. clone_item y) (name-kept d e more x names h)
item-same d e more names End h = refl

-- so its node is one
pub piece-kept : (d e : DocState) (more : List NodeName) → e.names ≡ d.names ++ more → (piece : Piece) → IsPieceOf d.names piece → IsPieceOf e.names piece
piece-kept d e more names (Whole x) h = node-kept d e more x names h
piece-kept d e more names (Cut x from to) h = node-kept d e more x names h
piece-kept d e more names (Clone x) h = node-kept d e more x names h
piece-kept d e more names End h = tt

-- The next piece.
module _ (d : DocState) (into : ℕ) (here : into < length d.names) (pieces : List Piece) (piece : Piece) (left : List Piece) (e : DocState)
    (ks : List ℕ) (g : Progress d into pieces (piece ∷ left) e ks) where
  abbrev o : Owner
  o = owner_in d into

  abbrev x : NodeName
  x = name_in d into

  abbrev item : Item
  item = item_in d.names piece

  abbrev rest : List Item
  rest = map (item_in d.names) left

  abbrev p : Part
  p = part_of e.world (owner_in d into)

  same-item : item_in e.names piece ≡ item
  same-item = item-same d e g.more g.longer piece g.nodes.0

  pub same-into : name_in e into ≡ x
  same-into = name-kept d e g.more into g.longer here

  pub into-kept : into < length e.names
  into-kept = node-kept d e g.more into g.longer here

  -- it may be taken
  pub next-may : MayTake (part_of e.world (owner_in e into)) (name_in e into) (names_in e ks) (item_in e.names piece ∷ [])
  next-may =
      let may : MayTake p x (names_in e ks) (item ∷ []) =
      record {
        bounds = g.may.bounds;
        takers = g.may.takers;
        taken = (g.may.taken.0, tt);
        limited = let a = g.may.limited in let b = made-more item rest in omega arith;
      } in
      subst (λ (i : Item). MayTake (part_of e.world (owner_in e into)) (name_in e into) (names_in e ks) (i ∷ [])) (sym same-item)
      (subst (λ (y : NodeName). MayTake (part_of e.world y.owner) y (names_in e ks) (item ∷ [])) (sym same-into) may)

  -- its node is one
  pub next-node : IsPieceOf e.names piece
  next-node = piece-kept d e g.more g.longer piece g.nodes.0

  module _ (alone : IsAlone e.world o) (part : IsPart (part_of e.world (owner_in d into))) (f : DocState) (js : List ℕ)
      (names : f.names ≡ e.names ++ new_names (owner_in e into) (part_of e.world (owner_in e into)).node_count (made_by (item_in e.names piece ∷ [])))
      (world : f.world ≡ made (owner_in e into) (taking_item (top_of (name_in e into) (names_in e ks)) (item_in e.names piece)) e.world)
      (clones : names_in f js ≡ clones_after (next_name (part_of e.world (owner_in e into))) (item_in e.names piece) (names_in e ks))
      (own : AllByRecursion (IsOwnNode f into) js) where
    abbrev top : NodeName
    top = top_of (name_in d into) (names_in e ks)

    -- in the words of the beginning
    item-names : f.names ≡ e.names ++ new_names o p.node_count (made_by (item ∷ []))
    item-names =
        names
        ∙ ap (λ (y : NodeName). e.names ++ new_names y.owner (part_of e.world y.owner).node_count (made_by (item_in e.names piece ∷ []))) same-into
        ∙ ap (λ (i : Item). e.names ++ new_names o p.node_count (made_by (i ∷ []))) same-item

    item-world : f.world ≡ made o (taking_item top item) e.world
    item-world =
        world
        ∙ ap (λ (y : NodeName). made y.owner (taking_item (top_of y (names_in e ks)) (item_in e.names piece)) e.world) same-into
        ∙ ap (λ (i : Item). made o (taking_item top i) e.world) same-item

    item-clones : names_in f js ≡ clones_after (next_name p) item (names_in e ks)
    item-clones =
        clones
        ∙ ap (λ (y : NodeName). clones_after (next_name (part_of e.world y.owner)) (item_in e.names piece) (names_in e ks)) same-into
        ∙ ap (λ (i : Item). clones_after (next_name p) i (names_in e ks)) same-item

    own-plan : PlansOwn o (taking_item top item)
    own-plan = plans-item x top item part (owner-part_of e.world o) g.may.taken.0

    part-then : part_of f.world o ≡ after p (taking_item top item p)
    part-then = ap (λ (w : World). part_of w o) item-world ∙ plan_alone o (taking_item top item) e.world alone own-plan

    -- and the others are left
    pub progress-next : Progress d into pieces left f js
    progress-next =
        let new = new_names o p.node_count (made_by (item ∷ [])) in
        let few : x.number ≤ p.node_count = let n = part.numbered x (has_node-times p.trees x g.may.takers.0.there) in omega arith in
        let on = takes-on part few g.may in
        let count : (part_of f.world o).node_count ≡ p.node_count + made_by (item ∷ []) = ap (λ (q : Part). q.node_count) part-then ∙ count-item top p item in
        record {
          more = g.more ++ new;
          longer = item-names ∙ ap (λ ns. ns ++ new) g.longer ∙ append_assoc d.names g.more new;
          own = own;
          nodes = g.nodes.1;
          may = subst (λ (q : Part). MayTake q x (names_in f js) rest) (sym part-then)
              (subst (λ (cs : List NodeName). MayTake (after p (taking_item top item p)) x cs rest) (sym item-clones) on);
          names = ap (λ ns. ns ++ new_names o (part_of f.world o).node_count (made_by rest)) item-names
              ∙ ap (λ k. (e.names ++ new) ++ new_names o k (made_by rest)) count
              ∙ append_assoc e.names new (new_names o (p.node_count + made_by (item ∷ [])) (made_by rest))
              ∙ ap (λ ns. e.names ++ ns) (names-more o p.node_count (made_by (item ∷ [])) (made_by rest))
              ∙ ap (λ k. e.names ++ new_names o p.node_count k) (sym (made-more item rest))
              ∙ g.names;
          world = ap (λ (cs : List NodeName). made o (taking_items x cs rest) f.world) item-clones
              ∙ ap (made o (taking_items x (clones_after (next_name p) item (names_in e ks)) rest)) item-world
              ∙ sym (made_then o (taking_item top item) (taking_items x (clones_after (next_name p) item (names_in e ks)) rest) e.world alone own-plan)
              ∙ g.world;
        }

-- what is left where a piece is taken
pub left-now : (pieces : List Piece) (i : ℕ) (piece : Piece) → i < length pieces → piece ≡ get_or pieces i piece → drop i pieces ≡ piece ∷ drop (i + 1) pieces
left-now pieces i piece less is =
    drop-cons pieces i piece less ∙ ap (λ j. get_or pieces i piece ∷ drop j pieces) (sym (add-one i)) ∙ ap (λ q. q ∷ drop (i + 1) pieces) (sym is)
