-- Steps of a part: names, counts, its shadow root, and the kinds of its nodes.
use Rattle.dom_base.proofs.Std.{◌≡◌, ◌≤◌, ◌<◌, Bool, true, false, List, Option, Some, None, refl, sym, ap, ◌∙◌, arith, true≢false, subst, ◌≢◌, [], ◌∷◌, find, ℕ}
use Rattle.dom_base.proofs.Std.{unwrap_or, if◌then◌else◌, ⊤, AllByRecursion, option_map_or, cond-true, cond-false}
use Rattle.dom_model.proofs.Model.{NodeName, Word, DomString, name_eq, is_in, Trees, none, tree, Node, parent_of, inclusive_descendants, times_in, nodes}
use Rattle.dom_model.proofs.Model.{node_in, no_node, is_fragment, map_nodes, with_name, with_document, with_data_replaced, with_attribute, Change, Part}
use Rattle.dom_model.proofs.Model.{next_name, Step, make, place, take_out, set_document, set_attribute, replace_data, queue_record, part_step, leave}
use Rattle.dom_model.proofs.Model.{owner-part_step, name_eq-true, Owner, Fragment, Shadow}
use Rattle.dom_worlds.specs.Definitions.{AllNodes, IsShadowAt, IsRoot, IsPart, IsElementAt, IsHost, MayBeShadow, IsShadowOf, times_among, HasKinds}
use Rattle.dom_worlds.proofs.Lists.{by_cases, all-then, by_some}
use Rattle.dom_laws.proofs.Laws.{by_times, times-here, times-elsewhere}
use Rattle.dom_worlds.proofs.Trees.{root-there}
use Rattle.dom_worlds.proofs.TreeChangeLaws.{times-with_node, times-taken_out, times-placed, times-map_nodes, nodes-with_node, nodes-taken_out, nodes-placed}
use Rattle.dom_worlds.proofs.TreeChangeLaws.{nodes-map_nodes, HasRoot, root-with_node, root-taken_out, root-placed, root-map_nodes, nodes-listed}
use Rattle.dom_worlds.proofs.Turns.{IsAlike}

-- A function on nodes that keeps names and kinds.
abbrev pub KeepsNames : (Node → Node) → Type 0
KeepsNames f = (n : Node) → ((f n).name ≡ n.name) × ((f n).kind ≡ n.kind)

-- a change of some nodes
pub some-keeps : (test : Node → Bool) (f : Node → Node) → KeepsNames f → KeepsNames (λ n. if test n then f n else n)
some-keeps test f h n = from (test n)
  where
    from : (b : Bool) → ((if b then f n else n).name ≡ n.name) × ((if b then f n else n).kind ≡ n.kind)
    from true = h n
    from false = (refl, refl)

-- a change of an attribute
pub attribute-keeps : (a : Word) (v : Option DomString) → KeepsNames (with_attribute a v)
attribute-keeps a None n = (refl, refl)
attribute-keeps a (Some v) n = (refl, refl)

-- The nodes of x's tree with another node document, and a node x with another attribute or other data: what steps make of nodes.
abbrev pub document_put : Trees → NodeName → NodeName → Node → Node
document_put ts x d = λ n. if is_in name_eq n.name (inclusive_descendants ts x) then with_document d n else n

-- an attribute
abbrev pub attribute_put : NodeName → Word → Option DomString → Node → Node
attribute_put x a v = λ n. if name_eq n.name x then with_attribute a v n else n

-- data
abbrev pub data_put : NodeName → ℕ → ℕ → DomString → Node → Node
data_put x offset count new = λ n. if name_eq n.name x then with_data_replaced offset count new n else n

-- they keep names and kinds
pub document_put-keeps : (ts : Trees) (x d : NodeName) → KeepsNames (document_put ts x d)
document_put-keeps ts x d = some-keeps (λ n. is_in name_eq n.name (inclusive_descendants ts x)) (with_document d) (λ n. (refl, refl))

-- of an attribute
pub attribute_put-keeps : (x : NodeName) (a : Word) (v : Option DomString) → KeepsNames (attribute_put x a v)
attribute_put-keeps x a v = some-keeps (λ n. name_eq n.name x) (with_attribute a v) (attribute-keeps a v)

-- of data
pub data_put-keeps : (x : NodeName) (offset count : ℕ) (new : DomString) → KeepsNames (data_put x offset count new)
data_put-keeps x offset count new = some-keeps (λ n. name_eq n.name x) (with_data_replaced offset count new) (λ n. (refl, refl))

-- What a step may do to the trees: names and their numbers of times, kinds, and one root.
record IsKept (ts us : Trees) (r : NodeName) (root_stays : Type 0) : Type 0 where
  times : (x : NodeName) → times_in us x ≤ times_in ts x
  shadow : AllNodes (IsShadowAt r) ts → AllNodes (IsShadowAt r) us
  alone : root_stays → HasRoot ts r → HasRoot us r

-- the same trees
kept-same : (ts : Trees) (r : NodeName) (s : Type 0) → IsKept ts ts r s
kept-same ts r s = record { times = λ x. omega arith; shadow = λ h. h; alone = λ s h. h }

-- nodes with other contents
kept-mapped : (f : Node → Node) → KeepsNames f → (ts : Trees) (r : NodeName) (s : Type 0) → IsKept ts (map_nodes f ts) r s
kept-mapped f h ts r s =
    record {
      times = λ x. let same = times-map_nodes f (λ n. (h n).0) ts x in omega arith;
      shadow = nodes-map_nodes (IsShadowAt r) f (λ n g e. (h n).1 ∙ g (sym (ap (λ y. name_eq y r) (h n).0) ∙ e)) ts;
      alone = λ s. root-map_nodes f (λ n. (h n).0) ts r;
    }

-- What is asked of a step: one thing of a node that it makes, and one each of a node that it places, of an attribute that it sets, and of what
-- it records. Nothing is asked of others.
abbrev pub Asked : (Node → Type 0) → (NodeName → Type 0) → (Word → Type 0) → (Change NodeName → Type 0) → Step → Type 0
Asked Makes Places Sets Tells (make n) = Makes n
Asked Makes Places Sets Tells (place x parent before) = Places x
Asked Makes Places Sets Tells (set_attribute x a v) = Sets a
Asked Makes Places Sets Tells (queue_record c) = Tells c
Asked Makes Places Sets Tells s = ⊤

-- the steps that may be made with a shadow root r
abbrev pub Allowed : NodeName → Step → Type 0
Allowed r = Asked (λ n. ⊤) (λ x. name_eq x r ≡ false) (λ a. ⊤) (λ c. ⊤)

-- the step makes a node
abbrev IsMake : Step → Type 0
IsMake (make n) = ⊤
IsMake s = ⊥

-- all steps but `make`
kept-step : (p : Part) → IsPart p → (r : NodeName) (s : Step) → (IsMake s → ⊥) → IsKept p.trees (part_step p s).trees r (Allowed r s)
kept-step p i r (make n) h = absurd (h tt)
kept-step p i r (place x parent before) h =
    record {
      times = λ y. times-placed x parent before p.trees y (i.unique parent);
      shadow = nodes-placed (IsShadowAt r) x parent before p.trees;
      alone = λ d. root-placed parent before x p.trees r d;
    }
kept-step p i r (take_out x) h =
    by_some (λ (o : Option NodeName). IsKept p.trees (option_map_or (leave p x) o p).trees r ⊤) (parent_of p.trees x) (kept-same p.trees r ⊤)
    (λ parent. record {
      times = times-taken_out x p.trees;
      shadow = nodes-taken_out (IsShadowAt r) x p.trees;
      alone = λ s. root-taken_out x p.trees r;
    })
kept-step p i r (set_document x d) h = kept-mapped (document_put p.trees x d) (document_put-keeps p.trees x d) p.trees r ⊤
kept-step p i r (set_attribute x a v) h = kept-mapped (attribute_put x a v) (attribute_put-keeps x a v) p.trees r ⊤
kept-step p i r (replace_data x offset count new) h = kept-mapped (data_put x offset count new) (data_put-keeps x offset count new) p.trees r ⊤
kept-step p i r s h = kept-same p.trees r ⊤

-- the count of the others stays
pub count-step : (p : Part) (s : Step) → (IsMake s → ⊥) → (part_step p s).node_count ≡ p.node_count
count-step p (make n) h = absurd (h tt)
count-step p (take_out x) h =
    by_some (λ (o : Option NodeName). (option_map_or (leave p x) o p).node_count ≡ p.node_count) (parent_of p.trees x) refl (λ parent. refl)
count-step p s h = refl

-- all steps but that keep a part as it should be
part-kept : (p : Part) (s : Step) → IsPart p → (IsMake s → ⊥) → IsPart (part_step p s)
part-kept p s i h =
    let k = kept-step p i (next_name p) s h in
    record {
      unique = λ x. let a = k.times x in let b = i.unique x in omega arith;
      owned = λ x g. i.owned x (let a = k.times x in omega arith) ∙ sym (owner-part_step p s);
      numbered = λ x g. subst (λ n. x.number < n) (sym (count-step p s h)) (i.numbered x (let a = k.times x in omega arith));
    }

-- a new node
times-new : (n : Node) (x : NodeName) → times_in (tree n none none) x ≤ 1
times-new n x = by_cases (name_eq n.name x) (λ e. let g = times-here n none none x e in omega arith)
    (λ e. let g = times-elsewhere n none none x e in omega arith)

-- the one name of a new node
new-named : (n : Node) (x : NodeName) → 1 ≤ times_in (tree n none none) x → x ≡ n.name
new-named n x h = by_cases (name_eq n.name x) (λ e. sym (name_eq-true n.name x e)) (λ e. absurd (let g = times-elsewhere n none none x e in omega arith))

-- the next name is not there yet
pub next-absent : (p : Part) → IsPart p → times_in p.trees (next_name p) ≡ 0
next-absent p i = by_times (times_in p.trees (next_name p)) (λ z. z) (λ z. absurd (let g = i.numbered (next_name p) z in omega arith))

-- a new node keeps the part as it should be
part-made : (p : Part) (n : Node) → IsPart p → IsPart (part_step p (make n))
part-made p n i =
    let new = with_name (next_name p) n in
    let ts = p.trees in
    record {
      unique = λ x. let a = times-with_node new ts x in
          by_times (times_in (tree new none none) x) (λ z. let b = i.unique x in omega arith)
          (λ z. let same : times_in ts x ≡ 0 = ap (times_in ts) (new-named new x z) ∙ next-absent p i in let b = times-new new x in omega arith);
      owned = λ x g. let a = times-with_node new ts x in
          by_times (times_in (tree new none none) x) (λ z. i.owned x (omega arith)) (λ z. ap (λ (y : NodeName). y.owner) (new-named new x z));
      numbered = λ x g. let a = times-with_node new ts x in
          by_times (times_in (tree new none none) x) (λ z. let b = i.numbered x (omega arith) in omega arith)
          (λ z. let same : x.number ≡ p.node_count = ap (λ (y : NodeName). y.number) (new-named new x z) in omega arith);
    }

-- every step does
pub part-step : (p : Part) (s : Step) → IsPart p → IsPart (part_step p s)
part-step p (make n) i = part-made p n i
part-step p s i = part-kept p s i (λ h. h)

-- A part with its shadow root.
pub record IsOwn (r : NodeName) (p : Part) : Type 0 where
  pub part : IsPart p
  pub root : IsRoot p.trees r

-- the next name is not the shadow root's
pub next-other : (r : NodeName) (p : Part) → IsOwn r p → name_eq (next_name p) r ≡ false
next-other r p o =
    by_cases (name_eq (next_name p) r)
    (λ e. absurd (let same = ap (times_in p.trees) (name_eq-true (next_name p) r e) in let a = next-absent p o.part in let b = root-there p.trees
    r o.root.alone in omega arith)) (λ e. e)

-- all steps but `make` keep the shadow root
own-kept : (r : NodeName) (p : Part) (s : Step) → IsOwn r p → Allowed r s → (IsMake s → ⊥) → IsOwn r (part_step p s)
own-kept r p s o a h =
    let k = kept-step p o.part r s h in
    record { part = part-step p s o.part; root = record { alone = k.alone a o.root.alone; shadow = k.shadow o.root.shadow } }

-- every allowed step does
pub own-step : (r : NodeName) (p : Part) (s : Step) → IsOwn r p → Allowed r s → IsOwn r (part_step p s)
own-step r p (make n) o a =
    let new = with_name (next_name p) n in
    record {
      part = part-made p n o.part;
      root = record {
        alone = root-with_node new p.trees r o.root.alone;
        shadow = nodes-with_node (IsShadowAt r) new p.trees (λ e. absurd (true≢false (sym e ∙ next-other r p o))) o.root.shadow;
      };
    }
own-step r p s o a = own-kept r p s o a (λ h. h)

-- a list of such steps
abbrev pub Safe : NodeName → List Step → Type 0
Safe r steps = AllByRecursion (Allowed r) steps

-- Hosts and listeners stay.
abbrev SameRest : Part → Part → Type 0
SameRest q p = (q.attached ≡ p.attached) × (q.listeners ≡ p.listeners)

-- under every step
pub rest-step : (p : Part) (s : Step) → ((part_step p s).attached ≡ p.attached) × ((part_step p s).listeners ≡ p.listeners)
rest-step p (take_out x) =
    by_some (λ (o : Option NodeName). SameRest (option_map_or (leave p x) o p) p) (parent_of p.trees x) ((refl, refl)) (λ parent. (refl, refl))
rest-step p s = (refl, refl)

-- A property of nodes that speaks of their names and kinds alone.
abbrev OfKinds : (Node → Type 0) → Type 0
OfKinds P = (n m : Node) → m.name ≡ n.name → m.kind ≡ n.kind → P n → P m

-- a new node has it
abbrev pub NewHas : (Node → Type 0) → Part → Step → Type 0
NewHas P p (make n) = P (with_name (next_name p) n)
NewHas P p s = ⊤

module _ (P : Node → Type 0) (k : OfKinds P) where
  -- nodes with other contents
  nodes-mapped : (f : Node → Node) → KeepsNames f → (ts : Trees) → AllNodes P ts → AllNodes P (map_nodes f ts)
  nodes-mapped f h ts i = nodes-map_nodes P f (λ n g. k n (f n) (h n).0 (h n).1 g) ts i

  -- every step keeps it
  pub nodes-step : (p : Part) (s : Step) → AllNodes P p.trees → NewHas P p s → AllNodes P (part_step p s).trees
  nodes-step p (make n) i h = nodes-with_node P (with_name (next_name p) n) p.trees h i
  nodes-step p (place x parent before) i h = nodes-placed P x parent before p.trees i
  nodes-step p (take_out x) i h =
      by_some (λ (o : Option NodeName). AllNodes P (option_map_or (leave p x) o p).trees) (parent_of p.trees x) i (λ parent. nodes-taken_out P x p.trees i)
  nodes-step p (set_document x d) i h = nodes-mapped (document_put p.trees x d) (document_put-keeps p.trees x d) p.trees i
  nodes-step p (set_attribute x a v) i h = nodes-mapped (attribute_put x a v) (attribute_put-keeps x a v) p.trees i
  nodes-step p (replace_data x offset count new) i h = nodes-mapped (data_put x offset count new) (data_put-keeps x offset count new) p.trees i
  nodes-step p s i h = i

-- a step that makes no shadow root
abbrev pub MakesNoShadow : Step → Type 0
MakesNoShadow = Asked (λ n. n.kind ≢ Shadow) (λ x. ⊤) (λ a. ⊤) (λ c. ⊤)

-- numbers are given once
pub count-grows : (p : Part) (s : Step) → p.node_count ≤ (part_step p s).node_count
count-grows p (make n) = omega arith
count-grows p s = let e = count-step p s (λ h. h) in omega arith

-- being an element is such
element-of_kinds : (x : NodeName) → OfKinds (IsElementAt x)
element-of_kinds x n m e k h t = k ∙ h (sym (ap (λ y. name_eq y x) e) ∙ t)

-- and so is being a shadow root
shadow-of_kinds : (o : Owner) → OfKinds (IsShadowOf o)
shadow-of_kinds o n m e k h t = subst (MayBeShadow o) (sym e) (h (sym k ∙ t))

-- a new node is no host
new-no_host : (p : Part) (s : Step) (x : NodeName) → x.number < p.node_count → NewHas (IsElementAt x) p s
new-no_host p (make n) x h = λ t. absurd (let same = ap (λ (y : NodeName). y.number) (name_eq-true (next_name p) x t) in omega arith)
new-no_host p s x h = tt

-- nor a shadow root
new-no_shadow : (p : Part) (s : Step) (o : Owner) → MakesNoShadow s → NewHas (IsShadowOf o) p s
new-no_shadow p (make n) o h = λ t. absurd (h t)
new-no_shadow p s o h = tt

-- a step keeps the kinds
pub kinds-step : (p : Part) (s : Step) → HasKinds p → MakesNoShadow s → HasKinds (part_step p s)
kinds-step p s k h =
    let q = part_step p s in
    let same = (rest-step p s).0 in
    record {
      shadows = subst (λ o. AllNodes (IsShadowOf o) q.trees) (sym (owner-part_step p s))
          (nodes-step (IsShadowOf p.owner) (shadow-of_kinds p.owner) p s k.shadows (new-no_shadow p s p.owner h));
      hosts = subst (AllByRecursion (IsHost q)) (sym same)
          (all-then (IsHost p) (IsHost q)
          (λ x i. record {
            made = (let more = count-grows p s in let made = i.made in omega arith);
            element = nodes-step (IsElementAt x) (element-of_kinds x) p s i.element (new-no_host p s x i.made);
          }) p.attached k.hosts);
      once = λ x. subst (λ xs. times_among xs x ≤ 1) (sym same) (k.once x);
    }

-- parts with the same trees, count and hosts
pub kinds-alike : (q p : Part) → q.owner ≡ p.owner → IsAlike q p → HasKinds p → HasKinds q
kinds-alike q p e a k =
    record {
      shadows = subst (λ ts. AllNodes (IsShadowOf q.owner) ts) (sym a.trees) (subst (λ o. AllNodes (IsShadowOf o) p.trees) (sym e) k.shadows);
      hosts = subst (AllByRecursion (IsHost q)) (sym a.attached)
          (all-then (IsHost p) (IsHost q)
          (λ x i. record {
            made = subst (λ n. x.number < n) (sym a.count) i.made;
            element = subst (AllNodes (IsElementAt x)) (sym a.trees) i.element;
          }) p.attached k.hosts);
      once = λ x. subst (λ xs. times_among xs x ≤ 1) (sym a.attached) (k.once x);
    }

-- A node that is read, of all nodes with a property, has it; a name without a node reads as a fragment.
read-all : (P : Node → Type 0) (x : NodeName) → P (no_node x) → (ns : List Node) → AllByRecursion P ns →
    P (unwrap_or (find (λ n. name_eq n.name x) ns) (no_node x))
read-all P x h [] g = h
read-all P x h (n ∷ ns) g =
    by_cases (name_eq n.name x) (λ e. subst (λ o. P (unwrap_or o (no_node x)))
    (sym (cond-true (name_eq n.name x) (Some n) (find (λ m. name_eq m.name x) ns) e)) g.0)
    (λ e. subst (λ o. P (unwrap_or o (no_node x))) (sym (cond-false (name_eq n.name x) (Some n) (find (λ m. name_eq m.name x) ns) e)) (read-all P x h ns g.1))

-- what holds of all nodes holds of the one that is read in a list of trees
pub node-read : (P : Node → Type 0) (x : NodeName) → P (no_node x) → (ts : Trees) → AllNodes P ts → P (node_in ts x)
node-read P x h ts g = read-all P x h (nodes ts) (nodes-listed P ts g)

-- it has the name by which it is read
read-named : (x : NodeName) (ns : List Node) → (unwrap_or (find (λ n. name_eq n.name x) ns) (no_node x)).name ≡ x
read-named x [] = refl
read-named x (n ∷ ns) =
    by_cases (name_eq n.name x) (λ e. ap (λ (o : Option Node). (unwrap_or o (no_node x)).name)
    (cond-true (name_eq n.name x) (Some n) (find (λ m. name_eq m.name x) ns) e) ∙ name_eq-true n.name x e)
    (λ e. ap (λ (o : Option Node). (unwrap_or o (no_node x)).name) (cond-false (name_eq n.name x) (Some n) (find (λ m. name_eq m.name x) ns) e) ∙
    read-named x ns)

-- in a list of trees
pub name-node_in : (ts : Trees) (x : NodeName) → (node_in ts x).name ≡ x
name-node_in ts x = read-named x (nodes ts)

-- a fragment is no shadow root
pub fragment-no_shadow : Fragment ≢ Shadow
fragment-no_shadow e = true≢false (ap is_fragment e)

-- so what is read under a name that is no shadow root's is none
pub read-no_shadow : (p : Part) (x : NodeName) → HasKinds p → (MayBeShadow p.owner x → ⊥) → (node_in p.trees x).kind ≢ Shadow
read-no_shadow p x k h e =
    h (subst (MayBeShadow p.owner) (name-node_in p.trees x) (node-read (IsShadowOf p.owner) x (λ t. absurd (fragment-no_shadow t)) p.trees k.shadows e))
