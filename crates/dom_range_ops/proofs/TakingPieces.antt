-- A piece that may be taken, by its key.
use Rattle.dom_range_ops.proofs.Cited.{◌≡◌, ℕ, ◌-◌, List, [], ◌∷◌, ◌++◌, length, map, reverse, refl, sym, ap, ◌∙◌, inl, inr, ◌⊎◌, arith, length-append}
use Rattle.dom_range_ops.proofs.Cited.{slice_get, unwrap_or, reverse-append, map-append, NodeName, top_of, slice_get-pushed, zero, suc, ◌<◌, false, None, subst}
use Rattle.dom_range_ops.proofs.Cited.{AllByRecursion, Owner, owner-part_of, node_of, Part, next_name, kind_of, has_data, is_shadow, is_inclusive_ancestor}
use Rattle.dom_range_ops.proofs.Cited.{part_of, HasBounds, IsPart, has_node-times, all-append, all-then, DocState, made, name_in, owner_in, trees_in, IsOwnNode}
use Rattle.dom_range_ops.proofs.Cited.{MayMove, Item, whole_item, item_in, made_by, taking_item, new_names, names_in, IsTaker, IsTaken, MayBeTaken, MayTake}
use Rattle.dom_range_ops.proofs.Cited.{TakesNew, Piece}
use Rattle.dom_range_ops.proofs.TakingDocs.{name-kept, node-kept, new-name, new-node}
use Rattle.dom_range_ops.proofs.TakingParts.{top-takes}

-- a list is empty or has a last item
last-or : (ks : List ℕ) → (ks ≡ []) ⊎ ((front : List ℕ) × (k : ℕ) × (ks ≡ front ++ k ∷ []))
last-or [] = inl refl
last-or (k ∷ ks) = inr (from k (last-or ks))
  where
    from : (k : ℕ) → (ks ≡ []) ⊎ ((front : List ℕ) × (j : ℕ) × (ks ≡ front ++ j ∷ [])) → (front : List ℕ) × (j : ℕ) × (k ∷ ks ≡ front ++ j ∷ [])
    from k (inl none) = ([], k, ap (λ js. k ∷ js) none)
    from k (inr some) = (k ∷ some.0, some.1, ap (λ js. k ∷ js) some.2)

module _ (f : ℕ → NodeName) where
  -- one more
  pub stack-push : (ks : List ℕ) (k : ℕ) → reverse (map f (ks ++ k ∷ [])) ≡ f k ∷ reverse (map f ks)
  stack-push ks k = ap reverse (map-append f ks (k ∷ [])) ∙ reverse-append (map f ks) (f k ∷ [])

  -- the last one
  pub stack-top : (ks : List ℕ) (into : ℕ) → f (unwrap_or (slice_get ks (length ks - 1)) into) ≡ top_of (f into) (reverse (map f ks))
  stack-top ks into = by (last-or ks)
    where
      by : (ks ≡ []) ⊎ ((front : List ℕ) × (k : ℕ) × (ks ≡ front ++ k ∷ [])) →
          f (unwrap_or (slice_get ks (length ks - 1)) into) ≡ top_of (f into) (reverse (map f ks))
      by (inl none) = ap (λ (js : List ℕ). f (unwrap_or (slice_get js (length js - 1)) into)) none ∙
          ap (λ (js : List ℕ). top_of (f into) (reverse (map f js))) (sym none)
      by (inr some) =
          let front = some.0 in
          let k = some.1 in
          let size : length (front ++ k ∷ []) - 1 ≡ length front = let l = length-append front (k ∷ []) in omega arith in
          ap (λ (js : List ℕ). f (unwrap_or (slice_get js (length js - 1)) into)) some.2
          ∙ ap (λ i. f (unwrap_or (slice_get (front ++ k ∷ []) i) into)) size
          ∙ ap (λ o. f (unwrap_or o into)) (slice_get-pushed front k)
          ∙ ap (top_of (f into)) (sym (stack-push front k))
          ∙ ap (λ (js : List ℕ). top_of (f into) (reverse (map f js))) (sym some.2)

-- one of some, or another one
or-one : (P : ℕ → Type 0) (ks : List ℕ) (i k : ℕ) → AllByRecursion P ks → P k → P (unwrap_or (slice_get ks i) k)
or-one P [] i k h g = g
or-one P (j ∷ ks) zero k h g = h.0
or-one P (j ∷ ks) (suc i) k h g = or-one P ks i k h.1 g

-- More nodes were made.
module _ (d e : DocState) (more : List NodeName) (into : ℕ) (names : e.names ≡ d.names ++ more) where
  -- nodes of an owner stay such where others come
  pub own-kept : into < length d.names → (ks : List ℕ) → AllByRecursion (IsOwnNode d into) ks → AllByRecursion (IsOwnNode e into) ks
  own-kept here ks h =
      all-then (IsOwnNode d into) (IsOwnNode e into)
      (λ k own. (
        node-kept d e more k names own.0,
        ap (λ (y : NodeName). y.owner) (name-kept d e more k names own.0) ∙ own.1 ∙
            sym (ap (λ (y : NodeName). y.owner) (name-kept d e more into names here)),
      )) ks h

  -- so do their names
  pub names-same : (ks : List ℕ) → AllByRecursion (IsOwnNode d into) ks → names_in e ks ≡ names_in d ks
  names-same ks h = ap reverse (each ks h)
    where
      each : (ks : List ℕ) → AllByRecursion (IsOwnNode d into) ks → map (name_in e) ks ≡ map (name_in d) ks
      each [] g = refl
      each (k ∷ ks) g = ap (λ x. x ∷ map (name_in e) ks) (name-kept d e more k names g.0.0) ∙ ap (λ xs. name_in d k ∷ xs) (each ks g.1)

-- One more node was made.
module _ (d e : DocState) (y : NodeName) (into new : ℕ) (names : e.names ≡ d.names ++ y ∷ []) (key : new ≡ length d.names) where
  -- with a new one
  pub names-pushed : (ks : List ℕ) → AllByRecursion (IsOwnNode d into) ks → names_in e (ks ++ new ∷ []) ≡ y ∷ names_in d ks
  names-pushed ks h =
      stack-push (name_in e) ks new ∙ ap (λ x. x ∷ names_in e ks) (new-name d e y new names key) ∙ ap (λ xs. y ∷ xs) (names-same d e (y ∷ []) into names ks h)

  -- which is the owner's
  pub own-pushed : y.owner ≡ owner_in d into → into < length d.names → (ks : List ℕ) → AllByRecursion (IsOwnNode d into) ks →
      AllByRecursion (IsOwnNode e into) (ks ++ new ∷ [])
  own-pushed owner here ks h =
      all-append (IsOwnNode e into) ks (new ∷ []) (own-kept d e (y ∷ []) into names here ks h) (
        (
          new-node d e y new names key,
          ap (λ (x : NodeName). x.owner) (new-name d e y new names key)
              ∙ owner ∙ sym (ap (λ (x : NodeName). x.owner) (name-kept d e (y ∷ []) into names here)),
        ),
        tt,
      )

-- a piece that may be taken into a fragment, and the node into which it goes
pub record Taking : Type 0 where
  pub doc : DocState
  pub into : ℕ
  pub clones : List ℕ
  pub piece : Piece
  pub top : ℕ
  pub here : into < length doc.names
  pub own : AllByRecursion (IsOwnNode doc into) clones
  pub may : MayTake (part_of doc.world (owner_in doc into)) (name_in doc into) (names_in doc clones) (item_in doc.names piece ∷ [])
  pub part : IsPart (part_of doc.world (owner_in doc into))
  pub is_top : top ≡ unwrap_or (slice_get clones (length clones - 1)) into

module _ (m : Taking) where
  open m use {doc as d, into, clones as ks, piece, top, here, own, may, part, is_top as is-top}

  abbrev o : Owner
  o = owner_in d into

  abbrev p : Part
  p = part_of d.world (owner_in d into)

  -- the node into which it goes
  pub top-own : IsOwnNode d into top
  top-own = subst (IsOwnNode d into) (sym is-top) (or-one (IsOwnNode d into) ks (length ks - 1) into own (here, refl))

  pub top-name : name_in d top ≡ top_of (name_in d into) (names_in d ks)
  top-name = ap (name_in d) is-top ∙ stack-top (name_in d) ks into

  pub top-taker : IsTaker (name_in d into) p.trees (name_in d top)
  top-taker = subst (IsTaker (name_in d into) p.trees) (sym top-name) (top-takes (name_in d into) p.trees (names_in d ks) may.takers)

  -- what is asked of it there
  pub top-bounds : HasBounds (part_of d.world (owner_in d top))
  top-bounds = subst (λ w. HasBounds (part_of d.world w)) (sym top-own.1) may.bounds

  pub top-open : has_data (kind_of (trees_in d top) (name_in d top)) ≡ false
  top-open = ap (λ w. has_data (kind_of (part_of d.world w).trees (name_in d top))) top-own.1 ∙ top-taker.no_data

  pub top-new : (count : ℕ) → made_by (item_in d.names piece ∷ []) ≡ suc count → TakesNew d top
  top-new count some =
      let same = ap (λ w. (part_of d.world w).node_count) top-own.1 in
      let few = may.limited in
      record {
        node = top-own.0;
        bounds = top-bounds;
        no_data = top-open;
        limited = omega arith;
      }

  -- the piece may be taken as what it is
  pub taken-as : (q : Piece) → piece ≡ q → MayBeTaken (name_in d into) p.trees (item_in d.names q)
  taken-as q is = subst (λ r. MayBeTaken (name_in d into) p.trees (item_in d.names r)) is may.taken.0

  -- a node that is taken is the owner's
  pub taken-owner : (k : ℕ) → IsTaken (name_in d into) p.trees (name_in d k) → owner_in d k ≡ owner_in d top
  taken-owner k t = part.owned (name_in d k) (has_node-times p.trees (name_in d k) t.there) ∙ owner-part_of d.world o ∙ sym top-own.1

  -- no shadow root stays none
  pub taken-plain : (k : ℕ) → MayBeTaken (name_in d into) p.trees (whole_item (name_in d k)) → is_shadow (kind_of (trees_in d k) (name_in d k)) ≡ false
  taken-plain k t = ap (λ w. is_shadow (kind_of (part_of d.world w).trees (name_in d k))) (taken-owner k t.0 ∙ top-own.1) ∙ t.1

  -- and may go there
  pub taken-moves : (k : ℕ) → k < length d.names → IsTaken (name_in d into) p.trees (name_in d k) → MayMove d top None k
  taken-moves k node t =
      record {
        node = node;
        owner = taken-owner k t;
        not_above = ap (λ w. is_inclusive_ancestor (part_of d.world w).trees (name_in d k) (name_in d top)) top-own.1 ∙ t.apart (name_in d top) top-taker.new;
        apart = λ b is. absurd (cc);
      }

  -- steps at the owner of that node
  pub at-top : (e : DocState) (item : Item) → e.world ≡ made (owner_in d top) (taking_item (name_in d top) item) d.world →
      item ≡ item_in d.names piece → e.world ≡ made o (taking_item (top_of (name_in d into) (names_in d ks)) (item_in d.names piece)) d.world
  at-top e item world is =
      world
      ∙ ap (λ w. made w (taking_item (name_in d top) item) d.world) top-own.1
      ∙ ap (λ x. made o (taking_item x item) d.world) top-name
      ∙ ap (λ i. made o (taking_item (top_of (name_in d into) (names_in d ks)) i) d.world) is

  -- the names with a new one
  pub one-name : (e : DocState) → e.names ≡ d.names ++ next_name (part_of d.world (owner_in d top)) ∷ [] →
      made_by (item_in d.names piece ∷ []) ≡ 1 → e.names ≡ d.names ++ new_names o p.node_count (made_by (item_in d.names piece ∷ []))
  one-name e names one =
      names
      ∙ ap (λ w. d.names ++ next_name (part_of d.world w) ∷ []) top-own.1
      ∙ ap (λ w. d.names ++ node_of w p.node_count ∷ []) (owner-part_of d.world o)
      ∙ ap (λ k. d.names ++ new_names o p.node_count k) (sym one)

  -- the owner of the next one
  pub next-owner : (next_name (part_of d.world (owner_in d top))).owner ≡ o
  next-owner = owner-part_of d.world (owner_in d top) ∙ top-own.1
