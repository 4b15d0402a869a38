-- Steps in the world of what is held with hosts: where one owner's part changes as the step says, and the slots are
-- signalled that the hosts tell, the world is the one after the step.
use Rattle.dom_mutation.proofs.Cited.{◌≡◌, ℕ, ◌<◌, ◌≤◌, Bool, true, false, List, [], ◌∷◌, ◌++◌, Option, Some, None, filter, fold, length, refl, sym, ap}
use Rattle.dom_mutation.proofs.Cited.{subst, ◌∙◌, inl, inr, arith, option_map, if◌then◌else◌, option_map_or, cases_Bool, length_push, get_or-append}
use Rattle.dom_mutation.proofs.Cited.{NodeName, Owner, Page, MAX_COMPONENTS, Word, DomString, name_eq, owner_eq, append_once, node_of, Trees, parent_of}
use Rattle.dom_mutation.proofs.Cited.{Change, Part, with_signal, Step, place, take_out, set_document, set_attribute, queue_record, part_step, leave}
use Rattle.dom_mutation.proofs.Cited.{is_taken, MayAttach, is_there, component_made, queued_notify, world_step, with_signals, with_removal_signals}
use Rattle.dom_mutation.proofs.Cited.{with_notify_if, owner_eq-true, owner_eq-false, ShadowHost, HostsAreNodes, signals_at, step_signals, Place, Removal}
use Rattle.dom_mutation.proofs.Cited.{Attribute, signals-shown, name_at, AreOwned, read_own, Contents, Tables, part_in, world_of, maker_of, hosts_of}
use Rattle.dom_mutation.proofs.Cited.{AreMadeBehind, host_names, attached_of, AreHostsOf, shadows_in, signal_in, signals_in}
use Rattle.dom_model.proofs.Model.{stepped}
use Rattle.dom_mutation.proofs.Worlds.{IsChangeOf, part_at, changed, there_same}
use Rattle.dom_mutation.proofs.HostedWorlds.{single_hosted, trees_hosted, world_shown}

-- ---- signals

-- what is held after signals
pub signalled_fields : (c : Contents) (ss : List NodeName) →
    signals_in c ss ≡ record c { signalled = fold (append_once name_eq) c.signalled ss; tasks = fold (λ ts s. queued_notify s.owner ts) c.tasks ss }
signalled_fields c [] = refl
signalled_fields c (s ∷ ss) = signalled_fields (signal_in c s) ss

-- its world is the one after them
pub signalled_world : (c : Contents) (ss : List NodeName) → world_of (signals_in c ss) ≡ fold with_signal (world_of c) ss
signalled_world c [] = refl
signalled_world c (s ∷ ss) = signalled_world (signal_in c s) ss

-- ---- the hosts stay where one owner's part changes

-- names of keys stay where names are added
pub record KeepsNames (ns ms : List NodeName) : Type 0 where
  pub longer : length ns ≤ length ms
  pub same : (k : ℕ) → k < length ns → name_at ms k ≡ name_at ns k

-- the same names
pub names_same : (ns : List NodeName) → KeepsNames ns ns
names_same ns = record { longer = omega arith; same = λ k h. refl }

-- one more
pub names_pushed : (ns : List NodeName) (x : NodeName) → KeepsNames ns (ns ++ x ∷ [])
names_pushed ns x = record { longer = omega (arith, length_push ns x); same = λ k h. get_or-append ns (x ∷ []) (node_of Page 0) k h }

-- hosts are nodes, with one more, and some of them
pub nodes_pushed : (names : List NodeName) (hosts : List ShadowHost) (h : ShadowHost) → HostsAreNodes names hosts → h.host < length names →
    h.root < length names → HostsAreNodes names (hosts ++ h ∷ [])
nodes_pushed names [] h nodes host root = (host, root, tt)
nodes_pushed names (g ∷ hosts) h nodes host root = (nodes.0, nodes.1, nodes_pushed names hosts h nodes.2 host root)

nodes_kept : (names : List NodeName) (p : ShadowHost → Bool) (hosts : List ShadowHost) → HostsAreNodes names hosts → HostsAreNodes names (filter p hosts)
nodes_kept names p [] nodes = tt
nodes_kept names p (h ∷ hosts) nodes = by (p h) (nodes_kept names p hosts nodes.2)
  where
    by : (b : Bool) → HostsAreNodes names (filter p hosts) → HostsAreNodes names (if b then h ∷ filter p hosts else filter p hosts)
    by true rest = (nodes.0, nodes.1, rest)
    by false rest = rest

module _ (ns ms : List NodeName) (keeps : KeepsNames ns ms) where
  pub nodes_renamed : (hosts : List ShadowHost) → HostsAreNodes ns hosts → HostsAreNodes ms hosts
  nodes_renamed [] nodes = tt
  nodes_renamed (h ∷ hosts) nodes = let longer = keeps.longer in let host = nodes.0 in let root =
      nodes.1 in (omega arith, omega arith, nodes_renamed hosts nodes.2)

  pub hosts_renamed : (hosts : List ShadowHost) (o : Owner) → HostsAreNodes ns hosts → hosts_of ms hosts o ≡ hosts_of ns hosts o
  hosts_renamed [] o nodes = refl
  hosts_renamed (h ∷ hosts) o nodes =
      ap (λ (x : NodeName). if owner_eq x.owner o then h ∷ hosts_of ms hosts o else hosts_of ms hosts o) (keeps.same h.host nodes.0)
      ∙ ap (λ (hs : List ShadowHost). if owner_eq (maker_of ns h) o then h ∷ hs else hs) (hosts_renamed hosts o nodes.2)

  pub made_renamed : (earlier hosts : List ShadowHost) → HostsAreNodes ns earlier → HostsAreNodes ns hosts → AreMadeBehind ns earlier hosts →
      AreMadeBehind ms earlier hosts
  made_renamed earlier [] before nodes made = tt
  made_renamed earlier (h ∷ hosts) before nodes made = (
    record {
      maker = subst (λ (x : NodeName). MayAttach x.owner) same made.0.maker;
      few = subst (λ (hs : List ShadowHost). length hs < MAX_COMPONENTS) (sym (hosts_renamed earlier (maker_of ms h) before))
          (subst (λ (x : NodeName). length (hosts_of ns earlier x.owner) < MAX_COMPONENTS) same made.0.few);
      owner = made.0.owner ∙ (ap (λ (x : NodeName). component_made x.owner (length (hosts_of ns earlier x.owner))) same ∙
          ap (λ (hs : List ShadowHost). component_made (maker_of ms h) (length hs)) (sym (hosts_renamed earlier (maker_of ms h) before)));
      root = keeps.same h.root nodes.1 ∙ made.0.root;
    },
    made_renamed (earlier ++ h ∷ []) hosts (nodes_pushed ns earlier h before nodes.0 nodes.1) nodes.2 made.1,
  )
    where
      same : name_at ns h.host ≡ name_at ms h.host
      same = sym (keeps.same h.host nodes.0)

  pub names_renamed : (hosts : List ShadowHost) → HostsAreNodes ns hosts → host_names ns hosts ≡ host_names ms hosts
  names_renamed [] nodes = refl
  names_renamed (h ∷ hosts) nodes = let here = sym (keeps.same h.host nodes.0) in let rest = names_renamed hosts nodes.2 in λ j. here j ∷ rest j

  pub attached_renamed : (hosts : List ShadowHost) (o : Owner) → HostsAreNodes ns hosts → attached_of ns hosts o ≡ attached_of ms hosts o
  attached_renamed hosts o nodes =
      names_renamed (hosts_of ns hosts o) (nodes_kept ns (λ h. owner_eq (maker_of ns h) o) hosts nodes) ∙
      ap (host_names ms) (sym (hosts_renamed hosts o nodes))

-- a step keeps the hosts of its owner's part
pub attached_step : (p : Part) (s : Step) → (part_step p s).attached ≡ p.attached
attached_step p (take_out x) = by (parent_of p.trees x)
  where
    by : (o : Option NodeName) → (option_map_or (leave p x) o p).attached ≡ p.attached
    by None = refl
    by (Some parent) = refl
attached_step p s = refl

-- so what is held has the same hosts after it
pub hosts_stepped : {a b : Contents} {hosts : List ShadowHost} {o : Owner} (s : Step) → AreHostsOf a hosts → is_there (world_of a) o ≡ true
    → KeepsNames a.names b.names → AreOwned b.trees → IsChangeOf a b o (part_step (part_in a o) s) → AreHostsOf b hosts
hosts_stepped {a} {b} {hosts} {o} s held there keeps owned change = record {
  owners = change.owners ∙ held.owners;
  made = made_renamed a.names b.names keeps [] hosts tt held.nodes held.made;
  nodes = nodes_renamed a.names b.names keeps hosts held.nodes;
  attached = λ q. attached_in q ∙ (held.attached q ∙ attached_renamed a.names b.names keeps hosts q held.nodes);
  unhosted = λ q off. attached_in q ∙ held.unhosted q (sym (there_same b a change.owners q) ∙ off);
  owned = owned;
  absent = λ q off. let gone = sym (there_same b a change.owners q) ∙ off in
      ap (λ (p : Part). p.trees) (change.others q
      (λ same. let on : is_there (world_of a) q ≡ true = subst (λ r. is_there (world_of a) r ≡ true) (sym same) there in cc)) ∙
      held.absent q gone;
}
  where
    attached_in : (q : Owner) → (b.tables q).attached ≡ (a.tables q).attached
    attached_in q = elim (cases_Bool (owner_eq q o)) [
      | inl e ↦
          let is = owner_eq-true q o e in
          ap (λ r. (b.tables r).attached) is ∙
          (ap (λ (p : Part). p.attached) change.own ∙ (attached_step (part_in a o) s ∙ ap (λ r. (a.tables r).attached) (sym is)))
      | inr e ↦ ap (λ (p : Part). p.attached) (change.others q (owner_eq-false q o e))
    ]

-- ---- the steps

-- a step after which nothing follows elsewhere, with hosts or without
abbrev pub IsPlain : Step → Type 0
IsPlain (place x parent before) = ⊥
IsPlain (take_out x) = ⊥
IsPlain (set_document x d) = ⊥
IsPlain (set_attribute x n v) = ⊥
IsPlain (queue_record c) = ⊥
IsPlain s = Unit {0}

module _ (a : Contents) (hosts : List ShadowHost) (held : AreHostsOf a hosts) (o : Owner) (there : is_there (world_of a) o ≡ true) where
  -- the step in its owner's part, before what follows elsewhere
  pub stepped_hosted : (b : Contents) (s : Step) → IsChangeOf a b o (part_step (part_in a o) s) → world_of b ≡ stepped o (world_of a) s
  stepped_hosted b s change =
      changed a b o (single_hosted a hosts held) there change ∙
      ap (λ (p : Part). Rattle.dom_model.specs.World.with_part (world_of a) (part_step p s)) (sym (part_at a o there))

  pub plain_step : (b : Contents) (s : Step) → IsPlain s → IsChangeOf a b o (part_step (part_in a o) s) → world_of b ≡ world_step o (world_of a) s
  plain_step b s plain change = by s plain (stepped_hosted b s change)
    where
      by : (s : Step) → IsPlain s → world_of b ≡ stepped o (world_of a) s → world_of b ≡ world_step o (world_of a) s
      by (place x parent before) p e = absurd p
      by (take_out x) p e = absurd p
      by (set_document x d) p e = absurd p
      by (set_attribute x n v) p e = absurd p
      by (queue_record c) p e = absurd p
      by s p e = e

  -- a record: where an observer takes it the owner's notification is queued
  pub record_hosted : (b : Contents) (c : Change NodeName) → IsChangeOf a b o (part_step (part_in a o) (queue_record c))
      → world_of (record b { tasks = if is_taken (part_in a o) c then queued_notify o b.tasks else b.tasks }) ≡ world_step o (world_of a) (queue_record c)
  record_hosted b c change =
      by (is_taken (part_in a o) c) ∙ ((λ j. with_notify_if (is_taken (part_in a o) c) o (stepped_hosted b (queue_record c) change j))
      ∙ ap (λ (p : Part). with_notify_if (is_taken p c) o (stepped o (world_of a) (queue_record c))) (sym (part_at a o there)))
    where
      by : (t : Bool) → world_of (record b { tasks = if t then queued_notify o b.tasks else b.tasks }) ≡ with_notify_if t o (world_of b)
      by true = refl
      by false = refl

  -- A step that signals slots: other trees and tables, under the same names.
  module _ (ts : Trees) (tables : Owner → Tables) (owned : AreOwned ts) where
    -- what is held after the step, before the signals
    abbrev pub moved : Contents
    moved = record a { trees = ts; tables = tables }

    -- the hosts stay
    pub hosts_moved : (s : Step) → IsChangeOf a moved o (part_step (part_in a o) s) → AreHostsOf moved hosts
    hosts_moved s change = hosts_stepped s held there (names_same a.names) owned change

    -- the slots that the hosts tell are those of the world
    told : (s : Step) → IsChangeOf a moved o (part_step (part_in a o) s) → (x around : NodeName) (is_move : Bool)
        → world_of (signals_in moved (signals_at (shadows_in a hosts) (shadows_in moved hosts) x around is_move)) ≡ with_signals (world_of a)
        (stepped o (world_of a) s) x around is_move
    told s change x around is_move =
        signalled_world moved (signals_at (shadows_in a hosts) (shadows_in moved hosts) x around is_move)
        ∙ (ap (fold with_signal (world_of moved))
        (sym (signals-shown (world_shown a hosts held)
        (world_shown moved hosts (hosts_moved s change)) x around is_move))
        ∙ (λ j. with_signals (world_of a) (stepped_hosted moved s change j) x around is_move))

    -- a node is placed
    pub place_hosted : (x parent : ℕ) (before left : Option ℕ)
        → IsChangeOf a moved o (part_step (part_in a o) (place (name_at a.names x) (name_at a.names parent) (option_map (name_at a.names) before)))
        → world_of (signals_in moved (step_signals a.names (shadows_in a hosts) (shadows_in moved hosts) (Place x parent before) left))
        ≡ world_step o (world_of a) (place (name_at a.names x) (name_at a.names parent) (option_map (name_at a.names) before))
    place_hosted x parent before left change =
        told (place (name_at a.names x) (name_at a.names parent) (option_map (name_at a.names) before)) change (name_at a.names x) (name_at a.names parent) true

    -- an attribute is set or removed
    pub attribute_hosted : (x : ℕ) (left : Option ℕ) (n : Word) (v : Option DomString) →
        IsChangeOf a moved o (part_step (part_in a o) (set_attribute (name_at a.names x) n v))
        → world_of (signals_in moved (step_signals a.names (shadows_in a hosts) (shadows_in moved hosts) (Attribute x) left)) ≡ world_step o
        (world_of a) (set_attribute (name_at a.names x) n v)
    attribute_hosted x left n v change = told (set_attribute (name_at a.names x) n v) change (name_at a.names x) (name_at a.names x) false

    -- a node leaves its parent, if it has one
    pub removal_hosted : (x : ℕ) (left : Option ℕ) → (name_at a.names x).owner ≡ o → option_map (name_at a.names) left ≡ parent_of a.trees (name_at a.names x)
        → IsChangeOf a moved o (part_step (part_in a o) (take_out (name_at a.names x)))
        → world_of (signals_in moved (step_signals a.names (shadows_in a hosts) (shadows_in moved hosts) (Removal x) left)) ≡ world_step o
        (world_of a) (take_out (name_at a.names x))
    removal_hosted x left own is change =
        by left
        ∙ ap (λ p. with_removal_signals (world_of a) (stepped o (world_of a) (take_out y)) y p)
        (is ∙ ((read_own a.trees held.owned o y own).parent ∙ ap (λ us. parent_of us y) (sym (trees_hosted a hosts held o))))
      where
        y : NodeName
        y = name_at a.names x

        by : (l : Option ℕ) → world_of (signals_in moved (step_signals a.names (shadows_in a hosts) (shadows_in moved hosts) (Removal x) l))
            ≡ with_removal_signals (world_of a) (stepped o (world_of a) (take_out y)) y (option_map (name_at a.names) l)
        by None = stepped_hosted moved (take_out y) change
        by (Some p) = told (take_out y) change y (name_at a.names p) true
