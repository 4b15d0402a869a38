-- The trees after adoptions and placings, and what they keep.
use Rattle.dom_mutation.proofs.Cited.{◌≡◌, ℕ, ◌<◌, ◌≤◌, ◌⊎◌, inl, inr, Bool, true, false, not, List, [], ◌∷◌, drop, length, Option, Some, None, option_map}
use Rattle.dom_mutation.proofs.Cited.{refl, sym, ap, subst, ◌∙◌, if◌then◌else◌, count_by, option_map_or, ForSome, NodeName, Owner, name_eq, first_of, is_in}
use Rattle.dom_mutation.proofs.Cited.{Trees, nodes, next_sibling, parent_of, inclusive_ancestors, is_inclusive_ancestor, taken_out, placed, change_subtree}
use Rattle.dom_mutation.proofs.Cited.{with_document, Part, place, take_out, set_document, after, part_step, leave, part_of, Observing, observed, suppressed}
use Rattle.dom_mutation.proofs.Cited.{remove_plan, removing_from, changing_document, adopt_plan, has_document, only_if, name_at, DocState, planned, stepped}
use Rattle.dom_mutation.proofs.Cited.{name_in, owner_in, trees_in, MayMove, IsChild, KeepsPaths, IsAlone, Lacks, lacks_from, Once, once_counted, path_taken}
use Rattle.dom_mutation.proofs.Cited.{path_placed, parent_taken, path_mapped, parent_path, next_child, after-append, keeps-adopting, keeps-removing}
use Rattle.dom_mutation.proofs.Made.{trees_after, alone_made}
use Rattle.dom_mutation.proofs.OwnPlans.{own_moves}

-- a removal
abbrev Removed : NodeName → Trees → Trees → Type 0
Removed x ts us = ((parent_of ts x ≡ None) × (us ≡ ts)) ⊎ (us ≡ taken_out x ts)

removed_trees : (how : Observing) (x : NodeName) (p : Part) → Removed x p.trees (after p (remove_plan how x p)).trees
removed_trees how x p = by_parent how (parent_of p.trees x) refl
  where
    at : (how : Observing) (a : Option NodeName) → Trees
    at how a = (after p (option_map_or (removing_from how x p.trees) a [])).trees

    left_parent : (q : NodeName) → parent_of p.trees x ≡ Some q → (part_step p (take_out x)).trees ≡ taken_out x p.trees
    left_parent q e = ap (λ a. (option_map_or (leave p x) a p).trees) e

    told : (how : Observing) (q : NodeName) → at how (Some q) ≡ (part_step p (take_out x)).trees
    told observed q = refl
    told suppressed q = refl

    by_parent : (how : Observing) (a : Option NodeName) → parent_of p.trees x ≡ a → Removed x p.trees (at how (parent_of p.trees x))
    by_parent how None e = inl (e, ap (at how) e)
    by_parent how (Some q) e = inr (ap (at how) e ∙ told how q ∙ left_parent q e)

removed_parent : (x : NodeName) (ts us : Trees) → Removed x ts us → parent_of us x ≡ None
removed_parent x ts us (inl h) = ap (λ t. parent_of t x) h.1 ∙ h.0
removed_parent x ts us (inr h) = ap (λ t. parent_of t x) h ∙ parent_taken ts x

removed_path : (x : NodeName) {ts us : Trees} → Once ts → Removed x ts us → (y : NodeName) → Lacks x (inclusive_ancestors ts y) →
    inclusive_ancestors us y ≡ inclusive_ancestors ts y
removed_path x once (inl h) y lacks = ap (λ t. inclusive_ancestors t y) h.1
removed_path x {ts} once (inr h) y lacks = ap (λ t. inclusive_ancestors t y) h ∙ path_taken ts once x y lacks

-- another node document
path_documented : (d x : NodeName) (ts : Trees) (y : NodeName) → inclusive_ancestors (change_subtree (with_document d) x ts) y ≡ inclusive_ancestors ts y
path_documented d x ts y = path_mapped (λ n. if is_in name_eq n.name (Rattle.dom_model.specs.Tree.inclusive_descendants ts x) then with_document d
    n else n) (λ n. keeps n (is_in name_eq n.name (Rattle.dom_model.specs.Tree.inclusive_descendants ts x))) ts y
  where
    keeps : (n : Rattle.dom_model.specs.Tree.Node) (b : Bool) → (if b then with_document d n else n).name ≡ n.name
    keeps n true = refl
    keeps n false = refl

documented_path : (d x : NodeName) (p : Part) (y : NodeName) → inclusive_ancestors (after p (changing_document d x p)).trees y ≡ inclusive_ancestors p.trees y
documented_path d x p y = by (not (has_document p.trees d x))
  where
    by : (b : Bool) → inclusive_ancestors (after p (only_if b (set_document x d))).trees y ≡ inclusive_ancestors p.trees y
    by true = path_documented d x p.trees y
    by false = refl

-- an adoption
module _ (d x : NodeName) (p : Part) where
  abbrev moved : Part
  moved = after p (remove_plan observed x p)

  adopted_is : (after p (adopt_plan d x p)).trees ≡ (after moved (changing_document d x moved)).trees
  adopted_is = ap (λ (q : Part). q.trees) (after-append p (remove_plan observed x p) (changing_document d x moved))

  adopted_path : Once p.trees → (y : NodeName) → Lacks x (inclusive_ancestors p.trees y) →
      inclusive_ancestors (after p (adopt_plan d x p)).trees y ≡ inclusive_ancestors p.trees y
  adopted_path once y lacks = ap (λ t. inclusive_ancestors t y) adopted_is ∙ documented_path d x moved y ∙
      removed_path x once (removed_trees observed x p) y lacks

  adopted_parent : parent_of (after p (adopt_plan d x p)).trees x ≡ None
  adopted_parent =
      ap (λ t. parent_of t x) adopted_is ∙ ap (λ path. first_of (drop 1 path)) (documented_path d x moved x) ∙
      removed_parent x p.trees moved.trees (removed_trees observed x p)

-- ---- the same of states
module _ (o : Owner) (d : DocState) (alone : IsAlone d.world o) where
  pub parent_adopted : (doc x : NodeName) → x.owner ≡ o → parent_of (part_of (planned o (adopt_plan doc x) d).world o).trees x ≡ None
  parent_adopted doc x own = ap (λ t. parent_of t x) (trees_after o (adopt_plan doc x) d alone (keeps-adopting (own_moves o) doc x own)) ∙
      adopted_parent doc x (part_of d.world o)

  pub path_adopted : Once (part_of d.world o).trees → (doc x y : NodeName) → x.owner ≡ o → Lacks x (inclusive_ancestors (part_of d.world o).trees y)
      → inclusive_ancestors (part_of (planned o (adopt_plan doc x) d).world o).trees y ≡ inclusive_ancestors (part_of d.world o).trees y
  path_adopted once doc x y own lacks = ap (λ t. inclusive_ancestors t y) (trees_after o (adopt_plan doc x) d alone (keeps-adopting (own_moves o) doc x own)) ∙
      adopted_path doc x (part_of d.world o) once y lacks

  pub path_removed : Once (part_of d.world o).trees → (how : Observing) (x y : NodeName) → Lacks x (inclusive_ancestors (part_of d.world o).trees y)
      → inclusive_ancestors (part_of (planned o (remove_plan how x) d).world o).trees y ≡ inclusive_ancestors (part_of d.world o).trees y
  path_removed once how x y lacks =
      ap (λ t. inclusive_ancestors t y) (trees_after o (remove_plan how x) d alone (keeps-removing (own_moves o) how x))
      ∙ removed_path x once
      (removed_trees how x (part_of d.world o)) y lacks

  pub path_stepped : Once (part_of d.world o).trees → (x parent : NodeName) (before : Option NodeName) (y : NodeName) →
      Lacks x (inclusive_ancestors (part_of d.world o).trees y)
      → inclusive_ancestors (part_of (stepped o (place x parent before) d).world o).trees y ≡ inclusive_ancestors (part_of d.world o).trees y
  path_stepped once x parent before y lacks =
      ap (λ (p : Part). inclusive_ancestors p.trees y) (alone.steps (place x parent before ∷ []) (tt, tt)) ∙
      path_placed (part_of d.world o).trees once x parent before y lacks

-- ---- what is asked of a placing

-- what holds of every document
abbrev pub Counted : DocState → Type 0
Counted d = (o : Owner) (x : NodeName) → count_by (λ n. name_eq n.name x) (nodes (part_of d.world o).trees) ≤ 1

pub once_in : (d : DocState) → Counted d → (o : Owner) → Once (part_of d.world o).trees
once_in d counted o = once_counted (part_of d.world o).trees (counted o)

-- a node that may move is not above what it is put before
pub before_lacks : {d : DocState} → Counted d → {parent node : ℕ} {before : Option ℕ} → MayMove d parent before node →
    ForSome before (IsChild d parent) → {b : ℕ} → before ≡ Some b
    → Lacks (name_in d node) (inclusive_ancestors (trees_in d parent) (name_in d b))
before_lacks {d} counted {parent} {node} may child {b} is =
    subst (Lacks (name_in d node)) (sym (parent_path (trees_in d parent) (once_in d counted (owner_in d parent)) (name_in d b) (name_in d parent)
    (child b is).child))
    (may.apart b is, lacks_from (name_in d node) (inclusive_ancestors (trees_in d parent) (name_in d parent)) may.not_above)

-- in the state e after the adoption
module _ (d e : DocState) (counted : Counted d) (parent node : ℕ) (before : Option ℕ) (may : MayMove d parent before node)
    (child : ForSome before (IsChild d parent))
    (alone : (k : ℕ) → k < length d.names → IsAlone d.world (owner_in d k)) (parent_is : parent < length d.names) (doc : NodeName)
    (is : e ≡ planned (owner_in d node) (adopt_plan doc (name_in d node)) d) where
  is_own : e ≡ planned (owner_in d parent) (adopt_plan doc (name_in d node)) d
  is_own = is ∙ ap (λ o. planned o (adopt_plan doc (name_in d node)) d) may.owner

  pub asked_unlinked : parent_of (trees_in e node) (name_in e node) ≡ None
  asked_unlinked = subst (λ (s : DocState). parent_of (trees_in s node) (name_in s node) ≡ None) (sym is)
      (parent_adopted (owner_in d node) d (alone node may.node) doc (name_in d node) refl)

  kept : (y : NodeName) → Lacks (name_in d node) (inclusive_ancestors (trees_in d parent) y) →
      inclusive_ancestors (trees_in e parent) y ≡ inclusive_ancestors (trees_in d parent) y
  kept y lacks =
      subst (λ (s : DocState). inclusive_ancestors (trees_in s parent) y ≡ inclusive_ancestors (trees_in d parent) y) (sym is_own)
      (path_adopted (owner_in d parent) d (alone parent parent_is) (once_in d counted (owner_in d parent)) doc (name_in d node) y may.owner lacks)

  same_names : e.names ≡ d.names
  same_names = ap (λ (s : DocState). s.names) is

  pub asked_not_above : is_inclusive_ancestor (trees_in e parent) (name_in e node) (name_in e parent) ≡ false
  asked_not_above =
      subst (λ (ns : List NodeName). is_in name_eq (name_at ns node) (inclusive_ancestors (trees_in e parent) (name_at ns parent)) ≡ false) (sym same_names)
      (ap (is_in name_eq (name_in d node))
      (kept (name_in d parent) (lacks_from (name_in d node) (inclusive_ancestors (trees_in d parent) (name_in d parent)) may.not_above)) ∙
      may.not_above)

  pub asked_before_node : ForSome before (λ b. b < length e.names)
  asked_before_node b at = subst (λ (ns : List NodeName). b < length ns) (sym same_names) (child b at).node

  pub asked_child : ForSome before (λ b. parent_of (trees_in e b) (name_in e b) ≡ Some (name_in e parent))
  asked_child b at =
      let owner : owner_in e b ≡ owner_in e parent =
      subst (λ (ns : List NodeName). (name_at ns b).owner ≡ (name_at ns parent).owner) (sym same_names) (child b at).owner in
      ap (λ o. parent_of (part_of e.world o).trees (name_in e b)) owner
      ∙ subst (λ (ns : List NodeName). parent_of (trees_in e parent) (name_at ns b) ≡ Some (name_at ns parent)) (sym same_names)
      (ap (λ path. first_of (drop 1 path)) (kept (name_in d b) (before_lacks counted may child at)) ∙ (child b at).child)

  alone_now : IsAlone e.world (owner_in e parent)
  alone_now =
      subst (λ (s : DocState). IsAlone s.world (owner_in s parent)) (sym is_own)
      (alone_made (owner_in d parent) (adopt_plan doc (name_in d node)) d.world (alone parent parent_is)
      (keeps-adopting (own_moves (owner_in d parent)) doc (name_in d node) may.owner))

  -- and after the placing
  pub kept_placed : Counted e → (f : DocState) →
      f ≡ stepped (owner_in e parent) (place (name_in e node) (name_in e parent) (option_map (name_in e) before)) e →
      KeepsPaths parent (name_in d node) d f
  kept_placed counted_e f placed y off =
      let lacks = lacks_from (name_in d node) (inclusive_ancestors (trees_in d parent) y) off in
      let moved : Lacks (name_in e node) (inclusive_ancestors (trees_in e parent) y) =
      subst (λ (ns : List NodeName). Lacks (name_at ns node) (inclusive_ancestors (trees_in e parent) y)) (sym same_names)
      (subst (Lacks (name_in d node)) (sym (kept y lacks)) lacks) in
      subst (λ (s : DocState). inclusive_ancestors (trees_in s parent) y ≡ inclusive_ancestors (trees_in d parent) y) (sym placed)
      (path_stepped (owner_in e parent) e alone_now (once_in e counted_e (owner_in e parent))
      (name_in e node) (name_in e parent) (option_map (name_in e) before) y moved ∙ kept y lacks)

-- ---- a removal keeps the paths of others
pub removal_keeps : (d : DocState) {f : DocState} → Counted d → (k : ℕ) → IsAlone d.world (owner_in d k) → (how : Observing) →
    f ≡ planned (owner_in d k) (remove_plan how (name_in d k)) d → KeepsPaths k (name_in d k) d f
removal_keeps d {f} counted k alone how is y off =
    subst (λ (s : DocState). inclusive_ancestors (trees_in s k) y ≡ inclusive_ancestors (trees_in d k) y) (sym is)
    (path_removed (owner_in d k) d alone (once_in d counted (owner_in d k)) how (name_in d k) y
    (lacks_from (name_in d k) (inclusive_ancestors (trees_in d k) y) off))

-- A child of a parent, and its next sibling.
module _ (d : DocState) (counted : Counted d) (parent child node : ℕ) (next : Option ℕ) (child_is : IsChild d parent child) where
  -- the next sibling of a child is another child
  pub next_is_child : child ≡ node → option_map (name_in d) next ≡ next_sibling (trees_in d node) (name_in d node) → ForSome next (λ k. k < length d.names) →
      ForSome next (λ k. owner_in d k ≡ owner_in d node) → (b : ℕ) → next ≡ Some b → IsChild d parent b × (name_eq (name_in d node) (name_in d b) ≡ false)
  next_is_child same found near own b is =
      let at = subst (IsChild d parent) same child_is in
      let e : next_sibling (trees_in d parent) (name_in d node) ≡ Some (name_in d b) =
      ap (λ o. next_sibling (part_of d.world o).trees (name_in d node)) (sym at.owner) ∙ sym found ∙ ap (option_map (name_in d)) is in
      let both = next_child (trees_in d parent) (once_in d counted (owner_in d parent)) (name_in d node) (name_in d parent) (name_in d b) at.child e in
      (record { node = near b is; owner = own b is ∙ at.owner; child = both.0 }, both.1)
