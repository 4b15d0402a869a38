-- Words without line feeds in parts and worlds, and what steps and plans do to them.
use Rattle.dom_base.proofs.Std.{ℕ, zero, suc, Bool, List, [], ◌∷◌, ◌++◌, fold, Option, Some, None, if◌then◌else◌, ⊤, ◌==◌, ◌&&◌, slice_set}
use Rattle.dom_base.proofs.Std.{AllByRecursion, list_any, option_map_or}
use Rattle.dom_model.proofs.Model.{NodeName, Word, DomString, name_eq, is_in, text_eq, Node, Attribute, node_in, children_of, parent_of}
use Rattle.dom_model.proofs.Model.{inclusive_ancestors, inclusive_descendants, with_name, with_document, with_data_replaced, with_attribute}
use Rattle.dom_model.proofs.Model.{attributes_with, attributes_without, pieces_of, Listener, Registration, target_of, without_old, fitting}
use Rattle.dom_model.proofs.Model.{asks_for_old, Change, child_list, attributes, character_data, Part, next_name, queue_of, Step, make, place, take_out}
use Rattle.dom_model.proofs.Model.{set_document, set_attribute, replace_data, queue_record, part_step, leave, record_in, interested_in}
use Rattle.dom_worlds.specs.Definitions.{AllNodes}
use Rattle.dom_isolation.specs.Definitions.{HasNoFeed}
use Rattle.dom_worlds.proofs.ListLemmas.{all-append, all-from, all-set, either_way}
use Rattle.dom_worlds.proofs.TreeLemmas.{nodes-with_node, nodes-taken_out, nodes-placed, nodes-map_nodes}
use Rattle.dom_worlds.proofs.PlanLemmas.{Asked, IsKept, any-whole, rules-kept}
use Rattle.dom_worlds.proofs.CommandLemmas.{node-read}

-- A node, a listener and a change with such words.
abbrev pub IsPlainAttribute : Attribute → Type 0
IsPlainAttribute a = HasNoFeed a.name

-- a node: its local name and the names of its attributes
abbrev pub IsPlainNode : Node → Type 0
IsPlainNode n = HasNoFeed n.element × AllByRecursion IsPlainAttribute n.attributes

-- a listener: its type and its label
abbrev pub IsPlainListener : Listener NodeName → Type 0
IsPlainListener l = HasNoFeed l.words.event × HasNoFeed l.words.label

-- a change: the name of an attribute
abbrev pub IsPlainChange : Change NodeName → Type 0
IsPlainChange (child_list x added removed previous next) = ⊤
IsPlainChange (attributes x a old) = HasNoFeed a
IsPlainChange (character_data x old) = ⊤

-- a record queue
abbrev pub IsPlainQueue : List (Change NodeName) → Type 0
IsPlainQueue changes = AllByRecursion IsPlainChange changes

-- a part with such nodes, listeners and records
abbrev pub IsPlainPart : Part → Type 0
IsPlainPart p = AllNodes IsPlainNode p.trees × AllByRecursion IsPlainListener p.listeners × AllByRecursion IsPlainQueue p.record_queues

-- a step that brings such words
abbrev pub IsPlainStep : Step → Type 0
IsPlainStep = Asked IsPlainNode (λ x. ⊤) HasNoFeed IsPlainChange

-- a queue that is read
pub plain-queue : (queues : List (List (Change NodeName))) (k : ℕ) → AllByRecursion IsPlainQueue queues → IsPlainQueue (queue_of queues k)
plain-queue [] k h = tt
plain-queue (q ∷ qs) zero h = h.0
plain-queue (q ∷ qs) (suc k) h = plain-queue qs k h.1

-- Attributes.
plain-attributes_with : (a : Word) (v : DomString) (attributes : List Attribute) → HasNoFeed a → AllByRecursion IsPlainAttribute attributes →
    AllByRecursion IsPlainAttribute (attributes_with a v attributes)
plain-attributes_with a v [] h g = (h, tt)
plain-attributes_with a v (b ∷ bs) h g =
    either_way (AllByRecursion IsPlainAttribute) (text_eq a b.name) (record b { value = v } ∷ bs) (b ∷ attributes_with a v bs) g
    (g.0, plain-attributes_with a v bs h g.1)

-- without an attribute
plain-attributes_without : (a : Word) (attributes : List Attribute) → AllByRecursion IsPlainAttribute attributes →
    AllByRecursion IsPlainAttribute (attributes_without a attributes)
plain-attributes_without a [] g = tt
plain-attributes_without a (b ∷ bs) g =
    either_way (AllByRecursion IsPlainAttribute) (text_eq a b.name) bs (b ∷ attributes_without a bs) g.1 (g.0, plain-attributes_without a bs g.1)

-- a node with an attribute set, or removed
plain-with_attribute : (a : Word) (v : Option DomString) (n : Node) → HasNoFeed a → IsPlainNode n → IsPlainNode (with_attribute a v n)
plain-with_attribute a None n h g = (g.0, plain-attributes_without a n.attributes g.1)
plain-with_attribute a (Some v) n h g = (g.0, plain-attributes_with a v n.attributes h g.1)

-- f of some nodes
plain-some : (test : Node → Bool) (f : Node → Node) → ((n : Node) → IsPlainNode n → IsPlainNode (f n)) → (n : Node) → IsPlainNode n →
    IsPlainNode (if test n then f n else n)
plain-some test f h n g = either_way IsPlainNode (test n) (f n) n (h n g) g

-- Records.
plain-without_old : (c : Change NodeName) → IsPlainChange c → IsPlainChange (without_old c)
plain-without_old (child_list x added removed previous next) h = tt
plain-without_old (attributes x a old) h = h
plain-without_old (character_data x old) h = tt

-- the record that an observer gets
plain-record : (p : Part) (c : Change NodeName) (k : ℕ) → IsPlainChange c → IsPlainChange (record_in p c k)
plain-record p c k h =
    either_way IsPlainChange (list_any (λ (r : Registration NodeName). (r.observer == k) && asks_for_old r.options c)
    (fitting name_eq (inclusive_ancestors p.trees (target_of c)) p.registrations c)) c (without_old c) h (plain-without_old c h)

-- the queues of those that are told
plain-told : (p : Part) (c : Change NodeName) → IsPlainChange c → (ks : List ℕ) (queues : List (List (Change NodeName))) → AllByRecursion IsPlainQueue queues →
    AllByRecursion IsPlainQueue (fold (λ queues k. slice_set queues k (queue_of queues k ++ record_in p c k ∷ [])) queues ks)
plain-told p c h [] queues g = g
plain-told p c h (k ∷ ks) queues g =
    plain-told p c h ks (slice_set queues k (queue_of queues k ++ record_in p c k ∷ []))
    (all-set IsPlainQueue queues k (queue_of queues k ++ record_in p c k ∷ []) g
    (all-append IsPlainChange (queue_of queues k) (record_in p c k ∷ []) (plain-queue queues k g) (plain-record p c k h, tt)))

-- Steps.
pub plain-part_step : (p : Part) (s : Step) → IsPlainPart p → IsPlainStep s → IsPlainPart (part_step p s)
plain-part_step p (make n) i h = (nodes-with_node IsPlainNode (with_name (next_name p) n) p.trees h i.0, i.1, i.2)
plain-part_step p (place x parent before) i h = (nodes-placed IsPlainNode x parent before p.trees i.0, i.1, i.2)
plain-part_step p (take_out x) i h = from (parent_of p.trees x)
  where
    from : (o : Option NodeName) → IsPlainPart (option_map_or (leave p x) o p)
    from None = i
    from (Some parent) = (nodes-taken_out IsPlainNode x p.trees i.0, i.1, i.2)
plain-part_step p (set_document x d) i h = (
  nodes-map_nodes IsPlainNode (λ n. if is_in name_eq n.name (inclusive_descendants p.trees x) then with_document d n else n)
      (plain-some (λ (n : Node). is_in name_eq n.name (inclusive_descendants p.trees x)) (with_document d) (λ n g. g)) p.trees i.0,
  i.1,
  i.2,
)
plain-part_step p (set_attribute x a v) i h = (
  nodes-map_nodes IsPlainNode (λ n. if name_eq n.name x then with_attribute a v n else n)
      (plain-some (λ (n : Node). name_eq n.name x) (with_attribute a v) (λ n g. plain-with_attribute a v n h g)) p.trees i.0,
  i.1,
  i.2,
)
plain-part_step p (replace_data x offset count new) i h = (
  nodes-map_nodes IsPlainNode (λ n. if name_eq n.name x then with_data_replaced offset count new n else n)
      (plain-some (λ (n : Node). name_eq n.name x) (with_data_replaced offset count new) (λ n g. g)) p.trees i.0,
  i.1,
  i.2,
)
plain-part_step p (queue_record c) i h = (i.0, i.1, plain-told p c h (interested_in p c) p.record_queues i.2)
plain-part_step p s i h = i

-- a node of a part that is read
pub plain-node_in : (p : Part) (x : NodeName) → IsPlainPart p → IsPlainNode (node_in p.trees x)
plain-node_in p x i = node-read IsPlainNode x (tt, tt) p.trees i.0

-- the rules hold
pub plain-rules : IsKept IsPlainPart IsPlainStep (λ x. ⊤) (λ x. ⊤)
plain-rules =
    rules-kept (record {
      step = plain-part_step;
      children_told = λ x added removed previous next. tt;
      data_told = λ x old. tt;
      new_text = λ x d text. (tt, tt);
      new_fragment = λ x d. (tt, tt);
      clone = λ p x y i m. plain-node_in p x i;
      clone_part = λ p x y from to i m. plain-node_in p x i;
      new_node = λ p i. tt;
      children = λ p i x. all-from (λ y. ⊤) (λ y. tt) (children_of p.trees x);
      wholes = λ p i range. any-whole (pieces_of p.trees range);
    })
