-- A document with one Text more: what is read of the other nodes stays, and the new one stands alone.
use Rattle.dom_mutation.proofs.Cited.{◌≡◌, ℕ, ◌+◌, ◌<◌, ◌-◌, inl, inr, false, List, [], ◌∷◌, ◌++◌, drop, length, Option, None, refl, sym, ap, subst, ◌∙◌, arith}
use Rattle.dom_mutation.proofs.Cited.{cases_Bool, cond-false, false_from_ne_true, length_push, get_or-append, get_or-append_seam, NodeName, Owner, Page}
use Rattle.dom_mutation.proofs.Cited.{DomString, name_eq, name_before, node_of, first_of, is_in, Trees, none, tree, Node, subtree, or_else, names_of, roots}
use Rattle.dom_mutation.proofs.Cited.{trees_below, node_in, parent_of, children_of, times_in, inclusive_ancestors, is_inclusive_ancestor, with_node, put_root}
use Rattle.dom_mutation.proofs.Cited.{Part, next_name, make, World, part_of, ◌and_then◌, doing, new_text_node, placing_tail, replacing_data, splitting}
use Rattle.dom_mutation.proofs.Cited.{name_eq-same, name_eq-true, owner-part_of, name_at, times_in-none, times_in-tree, one-true, Once, lacks_to, path_after}
use Rattle.dom_mutation.proofs.Cited.{path_lacks, path_put_root, path_root, DocState, made, planned, name_in, owner_in, trees_in, cutting_tail, IsAlone}
use Rattle.dom_mutation.proofs.Cited.{keeps-and_then, keeps-placing_tail}
use Rattle.dom_mutation.proofs.Placed.{Counted, once_in}
use Rattle.dom_mutation.proofs.Made.{made_then, alone_after}
use Rattle.dom_mutation.proofs.OwnPlans.{own_moves, own_rules}

-- ---- a tree of one node among others

-- a root more stands once more
root_counted : (n : Node) (y : NodeName) (ts : Trees) → times_in (put_root y (tree n none none) ts) n.name ≡ 1 + times_in ts n.name
root_counted n y none =
    let a = times_in-tree n none none n.name in let z = times_in-none n.name in let b = one-true (name_eq n.name n.name) (name_eq-same n.name) in omega arith
root_counted n y (tree m d r) = elim (cases_Bool (name_before y m.name)) [
  | inl h ↦ rw h (let a = times_in-tree n none (tree m d r) n.name in let z = times_in-none n.name in let b = one-true (name_eq n.name n.name)
      (name_eq-same n.name) in omega arith)
  | inr h ↦ rw h (let a = times_in-tree m d (put_root y (tree n none none) r) n.name in let b = times_in-tree m d r n.name in let e = root_counted
      n y r in omega arith)
]

-- the trees of other nodes stay
subtree_beside : (n : Node) (y x : NodeName) (ts : Trees) → name_eq n.name x ≡ false → subtree (put_root y (tree n none none) ts) x ≡ subtree ts x
subtree_beside n y x none h = cond-false (name_eq n.name x) (tree n none none) none h
subtree_beside n y x (tree m d r) h = elim (cases_Bool (name_before y m.name)) [
  | inl g ↦ rw g (cond-false (name_eq n.name x) (tree n none none) (subtree (tree m d r) x) h)
  | inr g ↦ rw g (ap (λ t. Rattle.std.specs.Prelude.cond (name_eq m.name x) (tree m d none) (or_else (subtree d x) t)) (subtree_beside n y x r h))
]

-- what is read of a tree with one root more
module _ (n : Node) (ts : Trees) where
  path_beside_new : (y : NodeName) → name_eq n.name y ≡ false → inclusive_ancestors (with_node n ts) y ≡ inclusive_ancestors ts y
  path_beside_new y h = path_put_root n.name (tree n none none) ts y (path_after n none none y h refl)

  new_gone : Once (with_node n ts) → times_in ts n.name ≡ 0
  new_gone once = let a = root_counted n n.name ts in let b = once n.name in omega arith

  -- it is a root
  pub new_root : Once (with_node n ts) → parent_of (with_node n ts) n.name ≡ None
  new_root once = ap (λ path. first_of (drop 1 path))
      (path_root n.name n.name (record { node = n; below = none; named = name_eq-same n.name }) ts (new_gone once))

  new_below_none : Once (with_node n ts) → (y : NodeName) → name_eq n.name y ≡ false → is_inclusive_ancestor (with_node n ts) n.name y ≡ false
  new_below_none once y h = ap (is_in name_eq n.name) (path_beside_new y h) ∙ lacks_to n.name (inclusive_ancestors ts y)
      (path_lacks ts y n.name (new_gone once))

-- ---- in the state e, where a Text of d's owner was made

pub record IsMade (d e : DocState) (node new : ℕ) (doc : Option NodeName) (text : DomString) : Type 0 where
  pub names : e.names ≡ d.names ++ next_name (part_of d.world (owner_in d node)) ∷ []
  pub world : e.world ≡ made (owner_in d node) (doing (make (new_text_node (next_name (part_of d.world (owner_in d node))) doc text))) d.world
  pub key : new ≡ length d.names
  pub here : node < length d.names
  pub alone : IsAlone d.world (owner_in d node)

-- by what a call says that made it
pub made_so : {d e : DocState} {node new : ℕ} {doc : Option NodeName} {text : DomString} →
    e.names ≡ d.names ++ next_name (part_of d.world (owner_in d node)) ∷ [] →
    e.world ≡ made (owner_in d node) (doing (make (new_text_node (next_name (part_of d.world (owner_in d node))) doc text))) d.world →
    new ≡ length d.names → node < length d.names → IsAlone d.world (owner_in d node) → IsMade d e node new doc text
made_so names world key here alone = record { names = names; world = world; key = key; here = here; alone = alone }

module _ {d e : DocState} {node new : ℕ} {doc : Option NodeName} {text : DomString} (is_made : IsMade d e node new doc text) where
  abbrev o : Owner
  o = owner_in d node

  abbrev x : NodeName
  x = name_in d node

  abbrev ts : Trees
  ts = (part_of d.world o).trees

  abbrev y : NodeName
  y = next_name (part_of d.world o)

  abbrev n : Node
  n = new_text_node y doc text

  -- the names of the two, by their keys
  pub same_name : name_in e node ≡ x
  same_name = ap (λ (ns : List NodeName). name_at ns node) is_made.names ∙ get_or-append d.names (y ∷ []) (node_of Page 0) node is_made.here

  pub new_name : name_in e new ≡ y
  new_name = ap (λ (ns : List NodeName). name_at ns new) is_made.names ∙ ap (name_at (d.names ++ y ∷ [])) is_made.key ∙
      get_or-append_seam d.names y [] (node_of Page 0)

  -- the trees, and how many nodes there are
  pub grown_trees : (part_of e.world o).trees ≡ with_node n ts
  grown_trees = ap (λ (w : World). (part_of w o).trees) is_made.world ∙ ap (λ (p : Part). p.trees) (is_made.alone.steps (make n ∷ []) (tt, tt))

  -- its steps do there still what they do in a part alone
  pub alone_new : IsAlone e.world o
  alone_new = subst (λ w. IsAlone w o) (sym is_made.world) (alone_after o (make n ∷ []) d.world is_made.alone (tt, tt))

  own_trees : trees_in e node ≡ with_node n ts
  own_trees = ap (λ (z : NodeName). (part_of e.world z.owner).trees) same_name ∙ grown_trees

  pub new_owner : owner_in e new ≡ owner_in e node
  new_owner = ap (λ (z : NodeName). z.owner) new_name ∙ owner-part_of d.world o ∙ sym (ap (λ (z : NodeName). z.owner) same_name)

  pub longer : length e.names ≡ length d.names + 1
  longer = ap (λ (ns : List NodeName). length ns) is_made.names ∙ length_push d.names y

  module _ (distinct : (j k : ℕ) → j < length e.names → k < length e.names → name_in e j ≡ name_in e k → j ≡ k) (counted : Counted e) where
    apart : name_eq y x ≡ false
    apart = false_from_ne_true _ (λ h.
        let more = longer in
        let key = is_made.key in
        let node_is = is_made.here in
        let same = distinct new node (omega (arith, key, more)) (omega (arith, node_is, more)) (new_name ∙ name_eq-true y x h ∙ sym same_name) in
        omega (arith, same, key, node_is))

    once : Once (with_node n ts)
    once = subst Once grown_trees (once_in e counted o)

    -- the new node stands alone
    pub new_unlinked : parent_of (trees_in e node) (name_in e new) ≡ None
    new_unlinked = ap (λ t. parent_of t (name_in e new)) own_trees ∙ ap (parent_of (with_node n ts)) new_name ∙ new_root n ts once

    pub new_not_above : is_inclusive_ancestor (trees_in e node) (name_in e new) (name_in e node) ≡ false
    new_not_above =
        ap (λ t. is_inclusive_ancestor t (name_in e new) (name_in e node)) own_trees ∙
        ap (λ z. is_inclusive_ancestor (with_node n ts) z (name_in e node)) new_name
        ∙ ap (is_inclusive_ancestor (with_node n ts) y) same_name ∙ new_below_none n ts once x apart

    -- the other one's parent and children are the same
    same_parent : parent_of (part_of e.world o).trees x ≡ parent_of ts x
    same_parent = ap (λ t. parent_of t x) grown_trees ∙ ap (λ path. first_of (drop 1 path)) (path_beside_new n ts x apart)

    pub same_children : children_of (part_of e.world o).trees x ≡ children_of ts x
    same_children = ap (λ t. children_of t x) grown_trees ∙ ap (λ t. names_of (roots (trees_below t))) (subtree_beside n y x ts apart)

    -- what a split makes
    pub split_whole : {f : DocState} (offset : ℕ) {count : ℕ} → count ≡ length (node_in ts x).text - offset → doc ≡ (node_in ts x).document →
        text ≡ drop offset (node_in ts x).text
        → f ≡ planned (owner_in e node) (cutting_tail (name_in e node) offset count (name_in e new)) e
        → f.world ≡ made o (splitting x offset) d.world
    split_whole offset {count} counts documented tailed is =
        let tail_own = λ (up : Option NodeName). keeps-placing_tail (own_rules o) x offset y up (owner-part_of d.world o) in
        let old = node_in ts x in
        let behind = λ (up : Option NodeName). made o (placing_tail x offset y up) in
        let rest = λ (k : ℕ). made o (replacing_data x offset k []) in
        let whole = λ (up doc : Option NodeName) (units : DomString) (k : ℕ). made o
        (doing (make (new_text_node y doc units)) and_then placing_tail x offset y up and_then replacing_data x offset k []) d.world in
        ap (λ (s : DocState). s.world) is
        ∙ ap (λ (z : NodeName). made z.owner (cutting_tail z offset count (name_in e new)) e.world) same_name
        ∙ ap (λ (z : NodeName). made o (cutting_tail x offset count z) e.world) new_name
        ∙ made_then o (placing_tail x offset y (parent_of (part_of e.world o).trees x)) (replacing_data x offset count []) e.world alone_new
        (tail_own (parent_of (part_of e.world o).trees x))
        ∙ ap (λ up. rest count (behind up e.world)) same_parent
        ∙ ap (λ (w : World). rest count (behind (parent_of ts x) w)) is_made.world
        ∙ ap (rest count) (sym (made_then o (doing (make n)) (placing_tail x offset y (parent_of ts x)) d.world is_made.alone (λ p own. (tt, tt))))
        ∙ sym (made_then o (doing (make n) and_then placing_tail x offset y (parent_of ts x)) (replacing_data x offset count []) d.world is_made.alone
        (keeps-and_then (own_moves o) (doing (make n)) (placing_tail x offset y (parent_of ts x)) (λ p own. (tt, tt)) (tail_own (parent_of ts x))))
        ∙ ap (λ k. whole (parent_of ts x) doc text k) counts ∙ ap (λ a. whole (parent_of ts x) a text (length old.text - offset)) documented
        ∙ ap (λ units. whole (parent_of ts x) old.document units (length old.text - offset)) tailed
