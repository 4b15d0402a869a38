-- Words without line feeds in worlds and in what is said: steps, visits, notifications and commands keep them and say no others, and so does every script.
use Rattle.dom_base.proofs.Std.{ℕ, List, [], ◌∷◌, ◌++◌, not, Option, Some, None, Bool, filter, map, fold, ⊤, slice_set, AllByRecursion, list_any, option_map_or}
use Rattle.dom_model.proofs.Model.{Owner, Page, Component, NodeName, name_eq, Command, Line, no_owner, no_command, command, ListenerWords, EventWords, effect}
use Rattle.dom_model.proofs.Model.{named, first_world, Effect, tables}
use Rattle.dom_model.proofs.Model.{changes, sets_walker, node_or_null, string_or_null, Listener, is_listener, with_listener_added, Visit, Dispatching}
use Rattle.dom_model.proofs.Model.{after_invoke, after_inner_invoke, hears, with_listener_removed, kept_after, after_action, may_cancel, line_of, Value, a_tree}
use Rattle.dom_model.proofs.Model.{says, recorded, Output, bad_owner, Said, replied, refused, event_seen, micro_ran, Change, EventLine, Part, queue_of, Walker}
use Rattle.dom_model.proofs.Model.{part_of, Task, micro_task, notify_task, Action, Log, records_of, notified, notified_lines}
use Rattle.dom_isolation.specs.Definitions.{HasNoFeed, HasPlainWords, IsPlainLine}
use Rattle.dom_worlds.proofs.ListLemmas.{all-append, all-filter, all-map, all-flat_map, all-from, either_way, all-set}
use Rattle.dom_worlds.proofs.TreeLemmas.{nodes-subtree}
use Rattle.dom_worlds.proofs.CommandLemmas.{Makes, MayDo, made-effect}
use Rattle.dom_worlds.proofs.WorldLemmas.{IsKeptIn}
use Rattle.dom_isolation.proofs.PlainWords.{IsPlainNode, IsPlainListener, IsPlainQueue, IsPlainPart, IsPlainStep, plain-queue, plain-rules}
use Rattle.dom_isolation.proofs.PlainWords.{IsPlainChange, plain-part_step}
use Rattle.dom_isolation.proofs.SaidRuns.{KeepsSaying, SaysEffect, HasNoTree, IsGood}
use Rattle.dom_worlds.specs.Definitions.{AllNodes}

-- A task, a world and what is said, with such words.
abbrev pub IsPlainTask : Task → Type 0
IsPlainTask (micro_task o label) = HasNoFeed label
IsPlainTask (notify_task o) = ⊤

-- steps keep that
pub plain-steps : IsKeptIn IsPlainPart IsPlainStep IsPlainTask
plain-steps = record { step = plain-part_step; document = λ x d. tt; notify = λ o. tt }

-- a line of a listener
abbrev pub IsPlainEvent : EventLine NodeName → Type 0
IsPlainEvent l = HasNoFeed l.event × HasNoFeed l.label

-- what stands in a reply
abbrev pub IsPlainValue : Value → Type 0
IsPlainValue (a_tree ts) = AllNodes IsPlainNode ts
IsPlainValue v = ⊤

-- what a line says
abbrev pub IsPlainSaid : Said → Type 0
IsPlainSaid (replied v) = IsPlainValue v
IsPlainSaid (refused r) = ⊤
IsPlainSaid (event_seen l) = IsPlainEvent l
IsPlainSaid (recorded k c) = IsPlainChange c
IsPlainSaid (micro_ran label) = HasNoFeed label

-- a line of output
abbrev pub IsPlainOutput : Output → Type 0
IsPlainOutput bad_owner = ⊤
IsPlainOutput (says o s) = IsPlainSaid s

-- A dispatch.
abbrev IsPlainGoing : Dispatching NodeName → Type 0
IsPlainGoing d = AllByRecursion IsPlainListener d.listeners × AllByRecursion IsPlainEvent d.lines

-- a listener's action
plain-after_action : (a : Action) (c : Bool) (d : Dispatching NodeName) → IsPlainGoing d → IsPlainGoing (after_action a c d)
plain-after_action Log c d h = h
plain-after_action a c d h = h

-- a call
plain-called : (e : EventWords) (v : Visit NodeName) (d : Dispatching NodeName) (l : Listener NodeName) → IsPlainGoing d → IsPlainListener l →
    IsPlainGoing (after_inner_invoke name_eq e v d l)
plain-called e v d l h g =
    let without = with_listener_removed name_eq l.node l.words.event l.words.label l.words.capture d.listeners in
    let next : Dispatching NodeName = record d { listeners = kept_after name_eq l d.listeners; lines = d.lines ++ line_of v l.words ∷ [] } in
    either_way IsPlainGoing d.stopped_now d (after_action l.words.action (may_cancel e l.words) next) h
    (plain-after_action l.words.action (may_cancel e l.words) next (
      either_way (AllByRecursion IsPlainListener) l.words.once without d.listeners
          (all-filter IsPlainListener (λ k. not (is_listener name_eq l.node l.words.event l.words.label l.words.capture k)) d.listeners h.0) h.0,
      all-append IsPlainEvent d.lines (line_of v l.words ∷ []) h.1 (g, tt),
    ))

-- calls of all that hear
plain-calls : (e : EventWords) (v : Visit NodeName) (ls : List (Listener NodeName)) (d : Dispatching NodeName) → IsPlainGoing d →
    AllByRecursion IsPlainListener ls → IsPlainGoing (fold (after_inner_invoke name_eq e v) d ls)
plain-calls e v [] d h g = h
plain-calls e v (l ∷ ls) d h g = plain-calls e v ls (after_inner_invoke name_eq e v d l) (plain-called e v d l h g.0) g.1

-- a visit
pub plain-visited : (e : EventWords) (v : Visit NodeName) (d : Dispatching NodeName) → IsPlainGoing d → IsPlainGoing (after_invoke name_eq e d v)
plain-visited e v d h =
    let hearing = filter (hears name_eq e v) d.listeners in
    either_way IsPlainGoing d.stopped d (fold (after_inner_invoke name_eq e v) d hearing) h
    (plain-calls e v hearing d h (all-filter IsPlainListener (hears name_eq e v) d.listeners h.0))

-- Notifications.
plain-records : (o : Owner) (k : ℕ) (changes : List (Change NodeName)) → IsPlainQueue changes →
    AllByRecursion IsPlainOutput (map (λ c. says o (recorded k c)) changes)
plain-records o k [] h = tt
plain-records o k (c ∷ cs) h = (h.0, plain-records o k cs h.1)

-- queues that are emptied
plain-emptied : (ks : List ℕ) (queues : List (List (Change NodeName))) → AllByRecursion IsPlainQueue queues →
    AllByRecursion IsPlainQueue (fold (λ queues k. slice_set queues k []) queues ks)
plain-emptied [] queues h = h
plain-emptied (k ∷ ks) queues h = plain-emptied ks (slice_set queues k []) (all-set IsPlainQueue queues k [] h tt)

-- a notification
pub plain-notified : (p : Part) → IsPlainPart p → IsPlainPart (notified p) × AllByRecursion IsPlainOutput (notified_lines p)
plain-notified p i = (
  (i.0, i.1, plain-emptied p.pending p.record_queues i.2),
  all-flat_map IsPlainOutput (records_of p) p.pending
      (all-from (λ k. AllByRecursion IsPlainOutput (records_of p k))
      (λ k. plain-records p.owner k (queue_of p.record_queues k) (plain-queue p.record_queues k i.2)) p.pending),
)

-- What an effect leaves in tables and says.
abbrev IsPlainEffect : Effect → Type 0
IsPlainEffect (tables p lines v) = IsPlainPart p × AllByRecursion IsPlainSaid lines × IsPlainValue v
IsPlainEffect (changes steps v) = IsPlainValue v

-- a node or `null`
plain-node_or_null : (o : Option NodeName) → IsPlainValue (node_or_null o)
plain-node_or_null None = tt
plain-node_or_null (Some x) = tt

-- a string or `null`
plain-string_or_null : (o : Option (List ℕ)) → IsPlainValue (string_or_null o)
plain-string_or_null None = tt
plain-string_or_null (Some s) = tt

-- a value without words
plain-nothing : ⊤
plain-nothing = tt

-- of a thing that may not be there
plain-some : {X : Type 0} (o : Option X) (f : X → Effect) (d : Effect) → ((x : X) → IsPlainEffect (f x)) → IsPlainEffect d → IsPlainEffect (option_map_or f o d)
plain-some None f d h g = g
plain-some (Some x) f d h g = h x

-- one more listener
plain-listened : (x : NodeName) (w : ListenerWords) (ls : List (Listener NodeName)) → AllByRecursion IsPlainListener ls → HasNoFeed w.event ×
    HasNoFeed w.label → AllByRecursion IsPlainListener (with_listener_added name_eq x w ls)
plain-listened x w ls h g =
    let more : List (Listener NodeName) = ls ++ record { node = x; words = w } ∷ [] in
    either_way (AllByRecursion IsPlainListener) (list_any (is_listener name_eq x w.event w.label w.capture) ls) ls more h
    (all-append IsPlainListener ls (record { node = x; words = w } ∷ []) h (g, tt))

-- Of a plain part.
module _ (p : Part) (i : IsPlainPart p) where
  -- a walker that is set
  plain-walker : (k : ℕ) (w : Walker) (o : Option NodeName) (v : Value) → IsPlainValue v → IsPlainEffect (sets_walker p k w o v)
  plain-walker k w None v h = (i, tt, h)
  plain-walker k w (Some x) v h = (i, tt, h)

  -- every effect
  plain-effect : (c : Command) → HasPlainWords c → IsPlainEffect (effect p c)
  plain-effect (Command.tree a) h = (i, tt, nodes-subtree IsPlainNode p.trees (named p a) i.0)
  plain-effect (Command.listen a b) h = ((i.0, plain-listened (named p a) b p.listeners i.1 h, i.2), tt, tt)
  plain-effect (Command.unlisten a b c d) h =
      ((i.0, all-filter IsPlainListener (λ l. not (is_listener name_eq (named p a) b c d l)) p.listeners i.1, i.2), tt, tt)
  plain-effect Command.observer h = ((i.0, i.1, all-append IsPlainQueue p.record_queues ([] ∷ []) i.2 (tt, tt)), tt, tt)
  plain-effect (Command.disconnect a) h = ((i.0, i.1, all-set IsPlainQueue p.record_queues a [] i.2 tt), tt, tt)
  plain-effect (Command.take a) h = (
    (i.0, i.1, all-set IsPlainQueue p.record_queues a [] i.2 tt),
    all-map IsPlainSaid (recorded a)
        (queue_of p.record_queues a) (plain-queue p.record_queues a i.2),
    tt,
  )
  plain-effect c h = search (plain-some, plain-walker, plain-node_or_null, plain-string_or_null, plain-nothing)

-- what it makes, and the attributes that it names
plain-may_do : (p : Part) (c : Command) → HasPlainWords c → MayDo IsPlainStep (λ x. ⊤) p c
plain-may_do p (Command.new_element a) h = (h, tt)
plain-may_do p (Command.new_text a) h = (tt, tt)
plain-may_do p (Command.new_comment a) h = (tt, tt)
plain-may_do p Command.new_fragment h = (tt, tt)
plain-may_do p Command.new_document h = (tt, tt)
plain-may_do p (Command.set_attribute a b c) h = ((λ old. h), h)
plain-may_do p (Command.unset_attribute a b) h = ((λ old. h), h)
plain-may_do p (Command.insert_node a b) h = λ range e. tt
plain-may_do p c h = tt

-- an effect of a command
plain-effect_of : (o : Owner) (c : Command) (p : Part) → IsPlainPart p → HasPlainWords c → SaysEffect IsPlainPart IsPlainStep IsPlainOutput o (effect p c)
plain-effect_of o c p i h = from (effect p c) (plain-effect p i c h) (made-effect plain-rules p i c (plain-may_do p c h))
  where
    from : (e : Effect) → IsPlainEffect e → Makes IsPlainStep e → SaysEffect IsPlainPart IsPlainStep IsPlainOutput o e
    from (tables q lines v) k m = (k.0, all-map IsPlainOutput (says o) lines k.1, k.2)
    from (changes steps v) k m = (m, k)

-- a reply other than a tree
plain-replied : (v : Value) → HasNoTree v → IsPlainValue v
plain-replied (a_tree ts) h = absurd h
plain-replied v h = tt

-- what is asked of runs
pub plain-saying : KeepsSaying IsPlainPart IsPlainStep IsPlainTask IsPlainOutput IsPlainLine (λ o c. HasPlainWords c)
plain-saying = record {
  steps = plain-steps;
  visit = λ e v p d o i g. let k = plain-visited e v (record d { listeners = p.listeners }) (i.1, g) in ((i.0, k.0, i.2), k.1);
  notified = plain-notified;
  ran = λ o label h. h;
  nobody = tt;
  wordless = λ o h. tt;
  refused = λ o c r h. tt;
  replied = λ o c v h g. plain-replied v h;
  micro = λ o label h. h;
  attached = λ p x i. i;
  root = λ o d. (((tt, tt), tt, tt), tt, tt);
  effect = λ o c p e i h. plain-effect_of o c p i h;
  first = first;
}
  where
    first : (o : Owner) → IsPlainPart (part_of first_world o)
    first Page = (((tt, tt), tt, tt), tt, tt)
    first (Component k) = (tt, tt, tt)

-- a line with such words
pub plain-good : (l : Line) → IsPlainLine l → IsGood IsPlainLine (λ o c. HasPlainWords c) l
plain-good no_owner h w = tt
plain-good (no_command o) h w = tt
plain-good (command o c) h w = (h, λ e. h)
