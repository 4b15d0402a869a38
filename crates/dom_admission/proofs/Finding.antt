-- What a look-up of a name in a forest says of an owner's own trees.
use Rattle.dom_admission.proofs.Cited.{◌≡◌, ℕ, ◌<◌, Bool, true, false, ◌||◌, List, [], ◌∷◌, length, Option, Some, None, refl, sym, ap, ◌∙◌, is_some, slice_get}
use Rattle.dom_admission.proofs.Cited.{find, ForSome, slice_get_within, get_or_from_slice_get, number_in, name_at, trees_of_owner, AreOwned, IsReadOwn}
use Rattle.dom_admission.proofs.Cited.{read_own, DocState, name_in, owner_in, trees_in, turned}
use Rattle.dom_model.proofs.Model.{Owner, Page, NodeName, name_eq, is_in, node_of, NodeWord, own, foreign, named, Part, World, part_of, owner-part_of, Trees}
use Rattle.dom_model.proofs.Model.{Node, nodes, names_of, has_node, node_in, no_node, name_eq-turned}

pub named-number_in : (p : Part) (s : NodeWord) → named p s ≡ node_of p.owner (number_in s)
named-number_in p (own k) = refl
named-number_in p foreign = refl

-- a node that an owner's line names is the owner's
pub owner-named : (w : World) (o : Owner) (s : NodeWord) → (named (part_of w o) s).owner ≡ o
owner-named w o s = ap (λ (y : NodeName). y.owner) (named-number_in (part_of w o) s) ∙ owner-part_of w o

-- what is read of a node in the trees of all owners, where it is read so in its owner's trees
pub read_at : {A : Type 0} {x y : NodeName} {own shown : Trees} (f : Trees → NodeName → A) (ts : Trees) → x ≡ y → own ≡ shown → f ts y ≡ f own y →
    f ts x ≡ f shown y
read_at {y = y} f ts here own_trees same = ap (f ts) here ∙ same ∙ ap (λ us. f us y) own_trees

-- what is read at a key in the trees of all owners is read of this node in its owner's
pub record IsReadBy (names : List NodeName) (ts shown : Trees) (o : Owner) (key : ℕ) (x : NodeName) : Type 0 where
  pub here : name_at names key ≡ x
  pub trees : trees_of_owner o ts ≡ shown
  pub mine : x.owner ≡ o
  pub reads : IsReadOwn o ts x

-- the node of a name, where the look-up found one
pub found_node : (names : List NodeName) (x : NodeName) (r : Option ℕ) → ForSome r (λ k. slice_get names k ≡ Some x) →
    ForSome r (λ k. (k < length names) × (name_at names k ≡ x))
found_node names x r found k e = let is = found k e in (slice_get_within names k x is, get_or_from_slice_get names k x (node_of Page 0) is)

-- Trees of all owners, and a world that shows them.
module _ (ts : Trees) (w : World) (owned : AreOwned ts) (own_trees : (o : Owner) → trees_of_owner o ts ≡ (part_of w o).trees) where
  -- a node is found in an owner's own trees, as a line of the owner spells it
  pub find_own : (names : List NodeName) {n : ℕ} {r : Option ℕ} (o : Owner) (s : NodeWord) → n ≡ number_in s →
      ForSome r (λ k. slice_get names k ≡ Some (node_of o n)) → is_some r ≡ has_node ts (node_of o n) →
      ForSome r (λ k. (k < length names) × (name_at names k ≡ named (part_of w o) s))
      × (is_some r ≡ has_node (part_of w o).trees (named (part_of w o) s))
  find_own names {n = n} {r = r} o s e found there =
      let x = node_of o n in
      let spelled : named (part_of w o) s ≡ x =
      named-number_in (part_of w o) s ∙ ap (λ (p : Owner). node_of p (number_in s)) (owner-part_of w o) ∙ ap (node_of o) (sym e) in
      let here : has_node ts x ≡ has_node (part_of w o).trees x = (read_own ts owned o x refl).presence ∙ ap (λ (us : Trees). has_node us x) (own_trees o) in
      rw spelled (found_node names x r found, there ∙ here)

-- a name that no node has is not found
absent : (ns : List Node) (x : NodeName) → is_in name_eq x (names_of ns) ≡ false → find (λ n. name_eq n.name x) ns ≡ None
absent [] x h = refl
absent (n ∷ ns) x h = cases (name_eq n.name x) refl (rw (name_eq-turned x n.name) at h) (λ more. absent ns x more)
  where
    cases : (t : Bool) → name_eq n.name x ≡ t → (name_eq n.name x || is_in name_eq x (names_of ns)) ≡ false →
        (is_in name_eq x (names_of ns) ≡ false → find (λ n. name_eq n.name x) ns ≡ None)
        → find (λ n. name_eq n.name x) (n ∷ ns) ≡ None
    cases true e h more = let no : true ≡ false = rw e at h in absurd cc
    cases false e h more = rw e (more (rw e at h))

-- it reads as a fragment without a node document
pub no_node-absent : (ts : Trees) (x : NodeName) → has_node ts x ≡ false → no_node x ≡ node_in ts x
no_node-absent ts x h = rw (absent (nodes ts) x h) refl

-- a node that is named, by the number of its name
numbered : (p : Part) (s : NodeWord) (x : NodeName) → x ≡ named p s → named p (own x.number) ≡ named p s
numbered p s x is = ap (λ (y : NodeName). node_of p.owner y.number) (is ∙ named-number_in p s) ∙ sym (named-number_in p s)

-- a key of the node that a line of an owner names, in these documents
pub record KeyOf (d : DocState) (o : Owner) (s : NodeWord) (key : ℕ) : Type 0 where
  pub name : name_at d.names key ≡ named (part_of d.world o) s
  pub mine : (name_at d.names key).owner ≡ o
  pub number : named (part_of d.world o) (own (name_at d.names key).number) ≡ named (part_of d.world o) s

-- what is said of a node by its key and its owner's part is said of its name
pub told_one : {A : Type 0} {d : DocState} {o : Owner} {w : NodeWord} {key : ℕ} (f : Part → NodeName → A) → KeyOf d o w key →
    f (part_of d.world (owner_in d key)) (name_in d key) ≡ f (part_of d.world o) (named (part_of d.world o) w)
told_one {d = d} f x = λ j. f (part_of d.world (x.mine j)) (x.name j)

-- what is read of the node of a key in the trees of all owners is read so in its owner's
module _ (s : DocState) (key : ℕ) where
  pub read_of : {A : Type 0} {names : List NodeName} {ts : Trees} (f : Trees → NodeName → A) → names ≡ s.names → AreOwned ts →
      ((o : Owner) → trees_of_owner o ts ≡ (part_of s.world o).trees) →
      ((o : Owner) (x : NodeName) → IsReadOwn o ts x → f ts x ≡ f (trees_of_owner o ts) x) → f ts (name_at names key) ≡ f (trees_in s key) (name_in s key)
  read_of {ts = ts} f all owned each same =
      let x = name_in s key in
      ap (λ (ns : List NodeName). f ts (name_at ns key)) all ∙ same x.owner x (read_own ts owned x.owner x refl) ∙ ap (λ us. f us x) (each x.owner)

-- In a state with these documents, a key by which a node was looked up.
module _ (t : Option Owner) (d now : DocState) (seen : turned t d ≡ now) (o : Owner) (s : NodeWord) (key : ℕ)
    (is : name_at now.names key ≡ named (part_of now.world o) s) where
  pub key_of : KeyOf d o s key
  key_of =
      let here : name_at d.names key ≡ named (part_of d.world o) s = rw (← seen) at is in
      record { name = here; mine = ap (λ (y : NodeName). y.owner) here ∙ owner-named d.world o s; number = numbered (part_of d.world o) s _ here }

  -- it is read in the trees of all owners as in its owner's
  pub read_by_key : {names : List NodeName} (ts : Trees) → names ≡ d.names → AreOwned ts →
      ((p : Owner) → trees_of_owner p ts ≡ (part_of d.world p).trees) → IsReadBy names ts (part_of d.world o).trees o key (named (part_of d.world o) s)
  read_by_key ts all owned each = record {
    here = ap (λ (names : List NodeName). name_at names key) all ∙ key_of.name;
    trees = each o;
    mine = owner-named d.world o s;
    reads = read_own ts owned o (named (part_of d.world o) s) (owner-named d.world o s);
  }

-- The same of a state itself: a key of the node that a line of an owner names.
module _ (s : DocState) (o : Owner) (w : NodeWord) (key : ℕ) (is : name_at s.names key ≡ named (part_of s.world o) w) where
  pub told_here : {A : Type 0} (f : Part → NodeName → A) →
      f (part_of s.world (owner_in s key)) (name_in s key) ≡ f (part_of s.world o) (named (part_of s.world o) w)
  told_here f = told_one f (key_of s.world.turn s s refl o w key is)
