-- Pieces that are added one by one, and runs of siblings.
use Rattle.dom_range_ops.proofs.Cited.{◌≡◌, inl, ℕ, ◌<◌, suc, List, [], ◌∷◌, ◌++◌, length, map, take, drop, Option, Some, None, refl, sym, ap, subst, ◌∙◌}
use Rattle.dom_range_ops.proofs.Cited.{append_assoc, arith, option_map, option_map_or, ForSome, append-nil, map_push, take-append-drop, NodeName, name_eq}
use Rattle.dom_range_ops.proofs.Cited.{first_of, items_after, Trees, parent_of, children_of, siblings, next_sibling, name_eq-other, Item, whole_item, item_in}
use Rattle.dom_range_ops.proofs.Cited.{IsPieceIn, AreItems, Adds, from_sibling, up_to, Piece, Whole, from_item, from-next, parent-of_child, child-of_parent}
use Rattle.dom_range_ops.proofs.Cited.{children-single, In, In-right, Single, Single-apart, first_split, after-in, after-split, before-split, name_eq-from, Has}
use Rattle.dom_range_ops.proofs.Cited.{Once, StandOnce, StandAlone, Once-forest, Has-forest, NamedTrees, name_at, TellApart, same_Some, all-append}

-- ---- adding

module _ (names : List NodeName) where
  -- nothing is added
  pub adds-none : (a : List Piece) → Adds names a a []
  adds-none a xs w = subst (AreItems names a) (sym (append-nil xs)) w

  -- some are, and then others
  pub adds-on : {a b c : List Piece} (us vs : List Item) → Adds names a b us → Adds names b c vs → Adds names a c (us ++ vs)
  adds-on {c} us vs f g xs w = subst (AreItems names c) (append_assoc xs us vs) (g (xs ++ us) (f xs w))

  -- one is
  pub adds-one : (a b : List Piece) (p : Piece) → b ≡ a ++ p ∷ [] → IsPieceIn (length names) p → Adds names a b (item_in names p ∷ [])
  adds-one a b p e node xs w = subst (λ ps. AreItems names ps (xs ++ item_in names p ∷ [])) (sym e) record {
    value = map_push (item_in names) a p ∙ ap (λ ys. ys ++ item_in names p ∷ []) w.value;
    nodes = all-append (IsPieceIn (length names)) a (p ∷ []) w.nodes (node, tt);
  }

  -- to the same pieces
  pub adds-same : (a b c : List Piece) (us : List Item) → c ≡ b → Adds names a b us → Adds names a c us
  adds-same a b c us e f = subst (λ ps. Adds names a ps us) (sym e) f

-- ---- siblings

module _ (ts : Trees) (once : Once ts) where
  -- behind a node come the next sibling and all behind that one
  pub sibling-next : (x : NodeName) → Has ts x → (o : Option NodeName) → o ≡ next_sibling ts x → items_after name_eq x (siblings ts x) ≡ from_sibling ts o
  sibling-next x h o e = by (parent_of ts x) refl
    where
      by : (p : Option NodeName) → parent_of ts x ≡ p → items_after name_eq x (siblings ts x) ≡ from_sibling ts o
      by None up =
          let alone : siblings ts x ≡ x ∷ [] = ap (λ q. option_map_or (children_of ts) q (x ∷ [])) up in
          let none : items_after name_eq x (siblings ts x) ≡ [] = ap (items_after name_eq x) alone ∙ after-split x [] [] (λ i. i) in
          none ∙ sym (ap (from_sibling ts) (e ∙ ap first_of none))
      by (Some p) up =
          let c = child-of_parent ts x p once h up in
          let all : siblings ts x ≡ children_of ts p = ap (λ q. option_map_or (children_of ts) q (x ∷ [])) up in
          let is : o ≡ first_of (items_after name_eq x (children_of ts p)) = e ∙ ap (λ xs. first_of (items_after name_eq x xs)) all in
          ap (items_after name_eq x) all
          ∙ (from-next x (children_of ts p) (children-single ts p once c.0) c.1 o is ∙
          same p c.0 o (λ y there. let s = first_split (items_after name_eq x (children_of ts p)) y (sym is ∙ there) in after-in x y
          (children_of ts p) (subst (In y) (sym s.1) (inl refl))))
        where
          same : (q : NodeName) → Has ts q → (v : Option NodeName) → ((y : NodeName) → v ≡ Some y → In y (children_of ts q)) →
              from_item (children_of ts q) v ≡ from_sibling ts v
          same q at_q None among = refl
          same q at_q (Some y) among = ap (λ w. y ∷ items_after name_eq y (option_map_or (children_of ts) w (y ∷ [])))
              (sym (parent-of_child ts q y once at_q (among y refl)).0)

  -- children from the first of them on
  pub from-kids : (p : NodeName) → Has ts p → (front xs : List NodeName) → children_of ts p ≡ front ++ xs → {o : Option NodeName} →
      o ≡ first_of xs → from_sibling ts o ≡ xs
  from-kids p h front [] e is = ap (from_sibling ts) is
  from-kids p h front (x ∷ xs) e is =
      let among = subst (In x) (sym e) (In-right x front (x ∷ xs) (inl refl)) in
      let up = (parent-of_child ts p x once h among).0 in
      let apart : In x front → ⊥ = λ i. Single-apart x front (x ∷ xs) (subst Single e (children-single ts p once h)) i (inl refl) in
      ap (from_sibling ts) is
      ∙ (ap (λ w. x ∷ items_after name_eq x (option_map_or (children_of ts) w (x ∷ []))) up ∙
      (ap (λ ys. x ∷ items_after name_eq x ys) e ∙ ap (λ ys. x ∷ ys) (after-split x front xs apart)))

-- those in front of others
pub up-to-first : (xs ys : List NodeName) → Single (xs ++ ys) → (o : Option NodeName) → o ≡ first_of ys → up_to o (xs ++ ys) ≡ xs
up-to-first xs [] single o is = ap (λ v. up_to v (xs ++ [])) is ∙ append-nil xs
up-to-first xs (y ∷ ys) single o is = ap (λ v. up_to v (xs ++ y ∷ ys)) is ∙ before-split y xs ys (λ i. Single-apart y xs (y ∷ ys) single i (inl refl))

-- a node is in front of another one, of which it is none
pub up-to-more : (o : Option NodeName) (x : NodeName) (xs : List NodeName) → ((y : NodeName) → o ≡ Some y → x ≡ y → ⊥) → up_to o (x ∷ xs) ≡ x ∷ up_to o xs
up-to-more None x xs off = refl
up-to-more (Some y) x xs off = rw (name_eq-other y x (λ e. off y refl (sym e))) refl

-- up to the first are none
pub up-to-here : (x : NodeName) (xs : List NodeName) (o : Option NodeName) → o ≡ Some x → up_to o (x ∷ xs) ≡ []
up-to-here x xs o e = ap (λ v. up_to v (x ∷ xs)) e ∙ (rw (name_eq-from x x refl) refl)

-- a key is found by its name
key-found : (f : NamedTrees) → TellApart f.names → (o : Option ℕ) {k : ℕ} → ForSome o (λ j. j < length f.names) → k < length f.names →
    option_map (name_at f.names) o ≡ Some (name_at f.names k) → o ≡ Some k
key-found f distinct None node at e = cc
key-found f distinct (Some j) {k} node at e = ap Some (distinct j k (node j refl) at (same_Some (name_at f.names j) (name_at f.names k) e))

-- in front of a node there is none among none
pub up-to-none : (o : Option NodeName) → up_to o [] ≡ []
up-to-none None = refl
up-to-none (Some y) = refl

-- a walk along siblings: those that were passed, and what they are
pub record Passes (ts : Trees) (names : List NodeName) (from until at : Option ℕ) (old new : List Piece) : Type 0 where
  pub done : List NodeName
  pub whole : up_to (option_map (name_at names) until) (from_sibling ts (option_map (name_at names) from)) ≡ done ++
      up_to (option_map (name_at names) until) (from_sibling ts (option_map (name_at names) at))
  pub node : ForSome at (λ k. k < length names)
  pub added : Adds names old new (map whole_item done)

module _ (f : NamedTrees) (once : StandOnce f) (only : StandAlone f) (distinct : TellApart f.names) (from until : Option ℕ) (old : List Piece) where
  -- at the beginning
  pub passes-first : ForSome from (λ k. k < length f.names) → Passes f.trees f.names from until from old old
  passes-first node = record { done = []; whole = refl; node = node; added = adds-none f.names old }

  module _ (at next : Option ℕ) (key : ℕ) (new : List Piece) (p : Passes f.trees f.names from until at old new) (is : at ≡ Some key)
      (value : option_map (name_at f.names) next ≡ next_sibling f.trees (name_at f.names key)) where
    -- behind the node come the others
    abbrev x : NodeName
    x = name_at f.names key

    others : items_after name_eq x (siblings f.trees x) ≡ from_sibling f.trees (option_map (name_at f.names) next)
    others = sibling-next f.trees (Once-forest f once only) x (Has-forest f once key (p.node key is)) (option_map (name_at f.names) next) value

    -- one more is passed
    pub passes-more : (until ≡ Some key → ⊥) → ForSome until (λ k. k < length f.names) → ForSome next (λ k. k < length f.names) →
        (then : List Piece) → then ≡ new ++ Whole key ∷ [] → Passes f.trees f.names from until next old then
    passes-more off stop node then grown =
        let u = option_map (name_at f.names) until in
        let rest = from_sibling f.trees (option_map (name_at f.names) next) in
        let apart = λ (y : NodeName) (there : u ≡ Some y) (same : x ≡ y). off
        (key-found f distinct until stop (p.node key is) (there ∙ ap Some (sym same))) in
        let step : up_to u (from_sibling f.trees (option_map (name_at f.names) at)) ≡ x ∷ up_to u rest =
        ap (λ o. up_to u (from_sibling f.trees (option_map (name_at f.names) o))) is ∙
        (up-to-more u x (items_after name_eq x (siblings f.trees x)) apart ∙ ap (λ ys. x ∷ up_to u ys) others) in
        record {
          done = p.done ++ x ∷ [];
          whole = p.whole ∙ (ap (λ ys. p.done ++ ys) step ∙ sym (append_assoc p.done (x ∷ []) (up_to u rest)));
          node = node;
          added = subst (Adds f.names old then) (sym (map_push whole_item p.done x))
              (adds-on f.names (map whole_item p.done) (whole_item x ∷ []) p.added
              (adds-one f.names new then (Whole key) grown (p.node key is)));
        }

    -- fewer are left
    pub passes-fewer : length (from_sibling f.trees (option_map (name_at f.names) next)) < length (from_sibling f.trees (option_map (name_at f.names) at))
    passes-fewer =
        let longer : length (from_sibling f.trees (option_map (name_at f.names) at)) ≡ suc (length (items_after name_eq x (siblings f.trees x))) =
        ap (λ o. length (from_sibling f.trees (option_map (name_at f.names) o))) is in
        omega (arith, longer, ap (length {A = NodeName}) others)

  -- at the end
  pub passes-all : (at : Option ℕ) (new : List Piece) → Passes f.trees f.names from until at old new →
      up_to (option_map (name_at f.names) until) (from_sibling f.trees (option_map (name_at f.names) at)) ≡ []
      → Adds f.names old new (map whole_item (up_to (option_map (name_at f.names) until) (from_sibling f.trees (option_map (name_at f.names) from))))
  passes-all at new p none =
      subst (λ xs. Adds f.names old new (map whole_item xs)) (sym (p.whole ∙ (ap (λ ys. p.done ++ ys) none ∙ append-nil p.done))) p.added

-- ---- the children of a node

module _ (ts : Trees) (once : Once ts) (p : NodeName) (h : Has ts p) (offset : ℕ) where
  -- those in front of an offset
  pub run-before : (from until : Option NodeName) → from ≡ first_of (children_of ts p) → until ≡ first_of (drop offset (children_of ts p)) →
      up_to until (from_sibling ts from) ≡ take offset (children_of ts p)
  run-before from until first stop =
      let kids = children_of ts p in
      let parts = take-append-drop offset kids in
      ap (up_to until) (from-kids ts once p h [] kids refl first ∙ sym parts) ∙ up-to-first (take offset kids) (drop offset kids)
      (subst Single (sym parts) (children-single ts p once h)) until stop

  -- and those from it on
  pub run-behind : (from : Option NodeName) → from ≡ first_of (drop offset (children_of ts p)) → from_sibling ts from ≡ drop offset (children_of ts p)
  run-behind from first = from-kids ts once p h (take offset (children_of ts p)) (drop offset (children_of ts p))
      (sym (take-append-drop offset (children_of ts p))) first

-- ---- items that are added one after the other

-- of these items those are left, and the others were added
pub record Partway (names : List NodeName) (old new : List Piece) (all left : List Item) : Type 0 where
  pub done : List Item
  pub whole : all ≡ done ++ left
  pub added : Adds names old new done

-- all are left
pub partway-first : (names : List NodeName) (old : List Piece) (all : List Item) → Partway names old old all all
partway-first names old all = record { done = []; whole = refl; added = adds-none names old }

-- some more are added
pub partway-more : {names : List NodeName} {old new then : List Piece} {all left : List Item} (some less : List Item) → Partway names old new all left →
    Adds names new then some → left ≡ some ++ less → Partway names old then all less
partway-more {names} some less p more e =
    record {
      done = p.done ++ some;
      whole = p.whole ∙ (ap (λ xs. p.done ++ xs) e ∙ sym (append_assoc p.done some less));
      added = adds-on names p.done some p.added more;
    }

-- none are left
pub partway-all : {names : List NodeName} {old new : List Piece} {all left : List Item} → Partway names old new all left → left ≡ [] → Adds names old new all
partway-all {names} {old} {new} p e = subst (Adds names old new) (sym (p.whole ∙ (ap (λ xs. p.done ++ xs) e ∙ append-nil p.done))) p.added
