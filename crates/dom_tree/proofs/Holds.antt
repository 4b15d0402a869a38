-- What each node holds after a step, from what is stored.
use Rattle.dom_base.proofs.Std.{◌≡◌, ◌≢◌, inl, inr, ℕ, ◌+◌, ◌<◌, List, [], ◌∷◌, ◌++◌, length, set, Some, refl, sym, ap, subst, ◌∙◌, arith, slice_get}
use Rattle.dom_base.proofs.Std.{length-map, length_push, get_or_append_left, get_or_push, slice_get_cases}
use Rattle.dom_model.proofs.Model.{Owner, NodeName, Node, node_in, inclusive_ancestors, children_of, change_node}
use Rattle.dom_laws.proofs.Laws.{path_changed, children_changed}
use Rattle.node_arena.specs.Nodes.{Nodes, IsSound}
use Rattle.dom_tree.specs.Definitions.{Stored, node_at, trees_of, NamedTrees, IsKept, stored_names, nodes_of, name_at, node_with, next_name}
use Rattle.dom_tree.proofs.Adding.{Adds, nodes_of-push}
use Rattle.dom_tree.proofs.Kept.{seen, within, shows_node, kept_with, IsWhole-kept, name_at-same}
use Rattle.dom_tree.proofs.Reading.{node_in-at}
use Rattle.dom_tree.proofs.Setting.{IsStoredAnew, set_names, set_done, slice_get-set_same, slice_get-set_other}
use Rattle.dom_tree.proofs.Stays.{IsAdded, added_named}

-- a forest f in which one node is another one, and nothing else
pub record IsChangedAt (f g : NamedTrees) (x : ℕ) (h : Node → Node) : Type 0 where
  pub names : g.names ≡ f.names
  pub trees : g.trees ≡ change_node h (name_at f.names x) f.trees
  pub above : (y : NodeName) → inclusive_ancestors g.trees y ≡ inclusive_ancestors f.trees y
  pub children : (y : NodeName) → children_of g.trees y ≡ children_of f.trees y
  pub holds : node_in g.trees (name_at f.names x) ≡ h (node_in f.trees (name_at f.names x))
  pub held : (k : ℕ) → k < length f.names → k ≢ x → node_in g.trees (name_at f.names k) ≡ node_in f.trees (name_at f.names k)

module _ {f : NamedTrees} {ps : List Stored} {lists : List (List ℕ)} {keys : Owner → List ℕ} (is : seen ps lists ≡ f) (kept : IsKept ps lists keys) where
  -- something is stored of each node
  stored : (k : ℕ) → k < length f.names → (s : Stored) × (slice_get ps k ≡ Some s)
  stored k node = elim (slice_get_cases ps k).1 [
    | inl w ↦ (w.0, w.2)
    | inr past ↦ absurd (omega (arith, past.0, within is kept k node))
  ]

  -- a step that leaves the names
  module _ {qs : List Stored} {others : List (List ℕ)} {more : Owner → List ℕ} (after : IsKept qs others more) (names : stored_names qs ≡ f.names) where
    holds : (k : ℕ) → k < length f.names → (t : Stored) → slice_get qs k ≡ Some t →
        node_in (trees_of (nodes_of qs) others) (name_at f.names k) ≡ node_with f.names t.name t.node
    holds k node t at =
        subst (λ (ns : List NodeName). node_in (trees_of (nodes_of qs) others) (name_at ns k) ≡ node_with ns t.name t.node) names
        (shows_node {f = seen qs others} refl after k t inside at)
      where
        inside : k < length (stored_names qs)
        inside = let long = ap (length {A = NodeName}) names in omega arith

    -- a node of which the same is stored
    held : (k : ℕ) → k < length f.names → slice_get qs k ≡ slice_get ps k →
        node_in (trees_of (nodes_of qs) others) (name_at f.names k) ≡ node_in f.trees (name_at f.names k)
    held k node same = let s = stored k node in holds k node s.0 (same ∙ s.1) ∙ sym (shows_node is kept k s.0 node s.1)

  -- what is stored of one node is another one
  module _ {x : ℕ} {s t : Stored} (after : IsKept (set ps x t) lists keys) (anew : IsStoredAnew ps x s t) where
    holds_anew : x < length f.names → (h : Node → Node) → node_with f.names t.name t.node ≡ h (node_with f.names s.name s.node) →
        node_in (trees_of (nodes_of (set ps x t)) lists) (name_at f.names x) ≡ h (node_in f.trees (name_at f.names x))
    holds_anew node h changed =
        holds after (set_names is kept x t anew.at anew.name_kept) x node t (slice_get-set_same ps x s t anew.at)
        ∙ changed ∙ ap h (sym (shows_node is kept x s node anew.at))

    held_elsewhere : (k : ℕ) → k < length f.names → k ≢ x →
        node_in (trees_of (nodes_of (set ps x t)) lists) (name_at f.names k) ≡ node_in f.trees (name_at f.names k)
    held_elsewhere k node other = held after (set_names is kept x t anew.at anew.name_kept) k node (slice_get-set_other ps x k t other)

    pub IsChangedAt-stored : x < length f.names → (h : Node → Node) → ((y : Node) → (h y).name ≡ y.name) →
        node_with f.names t.name t.node ≡ h (node_with f.names s.name s.node) → IsChangedAt f (seen (set ps x t) lists) x h
    IsChangedAt-stored node h keeps changed =
        let trees = ap (λ (g : NamedTrees). g.trees) (set_done is kept anew h keeps changed) in
        record {
          names = set_names is kept x t anew.at anew.name_kept;
          trees = trees;
          above = λ y. ap (λ ts. inclusive_ancestors ts y) trees ∙ path_changed h keeps (name_at f.names x) f.trees y;
          children = λ y. ap (λ ts. children_of ts y) trees ∙ children_changed h keeps (name_at f.names x) f.trees y;
          holds = holds_anew node h changed;
          held = held_elsewhere;
        }

-- where the lists alone have changed
pub held_along : {f : NamedTrees} {a b : Nodes Stored} {keys : Owner → List ℕ} → seen a.payloads a.children ≡ f → IsKept a.payloads a.children keys →
    b.payloads ≡ a.payloads → IsSound b → (k : ℕ) → k < length f.names →
    node_in (trees_of (nodes_of b.payloads) b.children) (name_at f.names k) ≡ node_in f.trees (name_at f.names k)
held_along {a = a} {b = b} {keys = keys} is kept same sound k node =
    held is kept (kept_with a b keys kept same sound) (ap stored_names same ∙ ap (λ (g : NamedTrees). g.names) is) k node
    (ap (λ (ps : List Stored). slice_get ps k) same)

-- ---- a node more

node_shown : {ps : List Stored} {lists : List (List ℕ)} {keys : Owner → List ℕ} → IsKept ps lists keys → (k : ℕ) → k < length ps →
    node_in (trees_of (nodes_of ps) lists) (name_at (stored_names ps) k) ≡ node_at (nodes_of ps) k
node_shown {ps = ps} {lists = lists} kept k node =
    ap (node_in (trees_of (nodes_of ps) lists)) (name_at-same (stored_names ps) ps k)
    ∙ node_in-at (nodes_of ps) lists (IsWhole-kept kept) k (omega (arith, kept.paired))

module _ {f : NamedTrees} {a b : Nodes Stored} {keys more : Owner → List ℕ} {o : Owner} {s : Stored} (is : seen a.payloads a.children ≡ f)
    (adds : Adds a.payloads a.children keys more o s) (after : IsKept b.payloads b.children more) (e : IsAdded a b s) where
  abbrev new_node : Node
  new_node = node_with (stored_names a.payloads) (next_name o (stored_names a.payloads)) s.node

  shown_now : (k : ℕ) → k < length b.payloads →
      node_in (trees_of (nodes_of b.payloads) b.children) (name_at (stored_names b.payloads) k) ≡ node_at (nodes_of a.payloads ++ new_node ∷ []) k
  shown_now k node =
      node_shown after k node ∙ ap (λ (d : Nodes Stored). node_at (nodes_of d.payloads) k) e
      ∙ ap (λ (ns : List Node). node_at ns k) (nodes_of-push a.payloads a.children keys more o s adds)

  long : length b.payloads ≡ length a.payloads + 1
  long = ap (λ (d : Nodes Stored). length d.payloads) e ∙ (length_push a.payloads s ∙ omega arith)

  pub holds_new : (c : ℕ) → c ≡ length a.payloads →
      node_in (trees_of (nodes_of b.payloads) b.children) (name_at (stored_names b.payloads) c) ≡ node_with f.names (next_name o f.names) s.node
  holds_new c at_c =
      shown_now c (omega (arith, long, at_c))
      ∙ get_or_push (nodes_of a.payloads) new_node _ c (length-map a.payloads _ ∙ sym at_c)
      ∙ ap (λ (g : NamedTrees). node_with g.names (next_name o g.names) s.node) is

  pub held_beside : (k : ℕ) → k < length f.names →
      node_in (trees_of (nodes_of b.payloads) b.children) (name_at f.names k) ≡ node_in f.trees (name_at f.names k)
  held_beside k node =
      let inside = within is adds.kept k node in
      let nodes = length-map a.payloads (λ (t : Stored). node_with (stored_names a.payloads) t.name t.node) in
      ap (node_in (trees_of (nodes_of b.payloads) b.children)) (sym (added_named s is adds.kept e k node))
      ∙ shown_now k (omega (arith, long))
      ∙ get_or_append_left (nodes_of a.payloads) (new_node ∷ []) _ k (omega arith)
      ∙ sym (node_shown adds.kept k inside)
      ∙ ap (λ (g : NamedTrees). node_in g.trees (name_at g.names k)) is
