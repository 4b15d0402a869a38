-- Listeners of a node that is given by its name: what is found by keys is what the world has.
use Rattle.dom_commands.proofs.Cited.{◌≡◌, ℕ, ◌<◌, Bool, true, false, not, ◌&&◌, ◌||◌, List, [], ◌∷◌, filter, length, map, refl, sym, ap, ◌∙◌}
use Rattle.dom_commands.proofs.Cited.{subst, true≢false, by_cases}
use Rattle.dom_commands.proofs.Cited.{AllByRecursion, list_any, nat_eq, beq, cond-true, cond-false, and_parts, any-filter_same, filter-wider, key-test}
use Rattle.dom_commands.proofs.Cited.{all-filter, name_at, TellApart, DocState, IsListenerAt, is_of_owner, listener_named, IsAtRest, MachineNow}
use Rattle.dom_commands.proofs.Cited.{machine_now, own_listeners, with_part-same}
use Rattle.dom_base.proofs.Std.{◌≢◌}
use Rattle.dom_model.proofs.Model.{NodeName, Owner, EventWords, Listener, ListenerWords, Visit, Word, Trees, Part, World, has_node, hears}
use Rattle.dom_model.proofs.Model.{is_listener, is_there, name_eq}
use Rattle.dom_model.proofs.Model.{name_eq-true, node_of, owner_eq, owner_eq-same, owner-part_of, part_of, text_eq, with_listener_removed, with_part}
use Rattle.dom_worlds.specs.Definitions.{IsListenerIn}
use Rattle.dom_dispatch.specs.Definitions.{hears_at}
use Rattle.dom_commands.specs.Written.{written}
use Rattle.dom_commands.proofs.Dispatching.{written-heard}
use Rattle.dom_commands.proofs.ListenerWorlds.{FitsIn, part-heard, there-heard}
use Rattle.dom_commands.proofs.Listening.{OwnersAreThere, fits-own, own-unlistened, others-unlistened, at-unlistened}
use Rattle.dom_commands.proofs.Machines.{seen_at}
use Rattle.dom_commands.proofs.Rewritten.{FitTables, with_tables, written-stands, written-bounded, rest-stands, at_rest}

-- ---- a node that is not there has no listener

module _ (ts : Trees) (x : NodeName) (absent : has_node ts x ≡ false) (p : Listener NodeName → Bool)
    (at_x : (l : Listener NodeName) → p l ≡ true → l.node ≡ x) where
  fails : (l : Listener NodeName) → IsListenerIn ts l → p l ≡ false
  fails l h = by_cases (p l) (λ e. absurd (true≢false (sym h ∙ ap (has_node ts) (at_x l e) ∙ absent))) (λ e. e)

  pub none-any : (ls : List (Listener NodeName)) → AllByRecursion (IsListenerIn ts) ls → list_any p ls ≡ false
  none-any [] all = refl
  none-any (l ∷ ls) all = λ j. fails l all.0 j || none-any ls all.1 j

  pub none-kept : (ls : List (Listener NodeName)) → AllByRecursion (IsListenerIn ts) ls → filter p ls ≡ []
  none-kept [] all = refl
  none-kept (l ∷ ls) all = cond-false (p l) (l ∷ filter p ls) (filter p ls) (fails l all.0) ∙ none-kept ls all.1

  pub all-kept : (ls : List (Listener NodeName)) → AllByRecursion (IsListenerIn ts) ls → filter (λ l. not (p l)) ls ≡ ls
  all-kept [] all = refl
  all-kept (l ∷ ls) all =
      let q : Listener NodeName → Bool = λ l. not (p l) in
      cond-true (q l) (l ∷ filter q ls) (filter q ls) (ap not (fails l all.0)) ∙ ap (λ xs. l ∷ xs) (all-kept ls all.1)

-- the listener of a node with these words is at the node
pub listener-at : (x : NodeName) (event label : Word) (capture : Bool) (l : Listener NodeName) → is_listener name_eq x event label capture l ≡ true → l.node ≡ x
listener-at x event label capture l h =
    name_eq-true l.node x
    (and_parts (name_eq l.node x) (text_eq l.words.event event && (text_eq l.words.label label && beq l.words.capture capture)) h).0

-- and so is one that hears a visit
pub hearer-at : (e : EventWords) (v : Visit NodeName) (l : Listener NodeName) → hears name_eq e v l ≡ true → l.node ≡ v.current
hearer-at e v l h = name_eq-true l.node v.current (and_parts (name_eq l.node v.current) (text_eq l.words.event e.event && beq l.words.capture v.capturing) h).0

-- ---- a node that is there, by its key

-- a listener of a node with these words
abbrev pub at_node : {N : Type 0} → NodeName → Listener N → Listener NodeName
at_node x l = record { node = x; words = l.words }

-- listeners with the same words, at a node
pub at_node-same : {H : Type 0} (hs : List H) (words : H → ListenerWords) (x : NodeName) (ls : List (Listener ℕ)) →
    map words hs ≡ map (λ (l : Listener ℕ). l.words) ls →
    map (λ h. record { node = x; words = words h }) hs ≡ map (at_node x) ls
at_node-same hs words x ls is = by_words words hs ∙ ap (map at) is ∙ sym (by_words (λ (l : Listener ℕ). l.words) ls)
  where
    at : ListenerWords → Listener NodeName
    at ws = record { node = x; words = ws }

    by_words : {H : Type 0} (f : H → ListenerWords) (hs : List H) → map (λ h. at (f h)) hs ≡ map at (map f hs)
    by_words f [] = refl
    by_words f (h ∷ hs) = ap (λ ys. at (f h) ∷ ys) (by_words f hs)

-- and none
pub none-at_node : {H : Type 0} (hs : List H) (words : H → ListenerWords) (x : NodeName) → hs ≡ [] →
    map {B = Listener NodeName} (λ h. record { node = x; words = words h }) hs ≡ []
none-at_node hs words x is = at_node-same hs words x [] (ap (map words) is)

module _ (names : List NodeName) (apart : TellApart names) (x : NodeName) (k : ℕ) (within : k < length names) (is : name_at names k ≡ x) where
  same_node : (l : Listener ℕ) → l.node < length names → nat_eq l.node k ≡ name_eq (name_at names l.node) x
  same_node l h = key-test names apart l.node k h within ∙ ap (name_eq (name_at names l.node)) is

  -- whether it has a listener
  any-named : (event label : Word) (capture : Bool) (ls : List (Listener ℕ)) → AllByRecursion (IsListenerAt names) ls →
      list_any (is_listener nat_eq k event label capture) ls ≡ list_any (is_listener name_eq x event label capture) (map (listener_named names) ls)
  any-named event label capture [] at = refl
  any-named event label capture (l ∷ ls) at =
      λ j. (same_node l at.0 j && (text_eq l.words.event event && (text_eq l.words.label label && beq l.words.capture capture)))
      || any-named event label capture ls at.1 j

  -- of its owner's listeners
  pub any-own : (event label : Word) (capture : Bool) (ls : List (Listener ℕ)) → AllByRecursion (IsListenerAt names) ls →
      list_any (is_listener nat_eq k event label capture) ls ≡ list_any (is_listener name_eq x event label capture) (own_listeners names ls x.owner)
  any-own event label capture ls at =
      any-named event label capture ls at
      ∙ sym (any-filter_same (is_listener name_eq x event label capture) (is_of_owner x.owner) true
      (λ l h. ap (λ (y : NodeName). owner_eq y.owner x.owner) (listener-at x event label capture l h) ∙ owner_eq-same x.owner) (map (listener_named names) ls))

  -- those that hear a visit
  module _ (e : EventWords) (v : Visit NodeName) (current : v.current ≡ x) where
    one-hears : (l : Listener ℕ) → l.node < length names → hears_at k e.event v.capturing l ≡ hears name_eq e v (listener_named names l)
    one-hears l h = ap (λ b. b && (text_eq l.words.event e.event && beq l.words.capture v.capturing))
        (same_node l h ∙ ap (name_eq (name_at names l.node)) (sym current))

    heard-named : (ls : List (Listener ℕ)) → AllByRecursion (IsListenerAt names) ls →
        map (at_node x) (filter (hears_at k e.event v.capturing) ls) ≡ filter (hears name_eq e v) (map (listener_named names) ls)
    heard-named [] at = refl
    heard-named (l ∷ ls) at =
        let p = hears_at k e.event v.capturing in
        let q = hears name_eq e v in
        let named = listener_named names l in
        let rest = heard-named ls at.1 in
        by_cases (p l)
        (λ h.
        let passes : q named ≡ true = sym (one-hears l at.0) ∙ h in
        let here : at_node x l ≡ named = ap (λ y. at_node y l) (sym (hearer-at e v named passes ∙ current)) in
        ap (map (at_node x)) (cond-true (p l) (l ∷ filter p ls) (filter p ls) h)
        ∙ (λ j. here j ∷ rest j)
        ∙ sym (cond-true (q named) (named ∷ filter q (map (listener_named names) ls)) (filter q (map (listener_named names) ls)) passes))
        (λ h.
        ap (map (at_node x)) (cond-false (p l) (l ∷ filter p ls) (filter p ls) h) ∙ rest
        ∙ sym (cond-false (q named) (named ∷ filter q (map (listener_named names) ls)) (filter q (map (listener_named names) ls))
        (sym (one-hears l at.0) ∙ h)))

    -- of its owner's listeners
    pub heard-own : (ls : List (Listener ℕ)) → AllByRecursion (IsListenerAt names) ls →
        map (at_node x) (filter (hears_at k e.event v.capturing) ls) ≡ filter (hears name_eq e v) (own_listeners names ls x.owner)
    heard-own ls at =
        heard-named ls at
        ∙ sym (filter-wider (hears name_eq e v) (is_of_owner x.owner)
        (λ l h. ap (λ (y : NodeName). owner_eq y.owner x.owner) (hearer-at e v l h ∙ current) ∙ owner_eq-same x.owner) (map (listener_named names) ls))

-- the name by which its owner finds it
pub name_at_owner : (w : World) (x : NodeName) → node_of (part_of w x.owner).owner x.number ≡ x
name_at_owner w x = ap (λ o. node_of o x.number) (owner-part_of w x.owner)

-- ---- a machine at rest that is seen as this state with these listeners

module _ (s : DocState) (ls : List (Listener ℕ)) (m : MachineNow) (seen : machine_now s ls ≡ m) (sound : IsAtRest m)
    (apart : TellApart s.names) (there : OwnersAreThere s.names s.world) (x : NodeName) where
  abbrev of : Owner → List (Listener NodeName)
  of = own_listeners s.names ls

  fits : FitsIn of s.world
  fits = fits-own s.names s.world there ls (seen_at s ls m seen sound)

  -- what its owner has
  listeners_in : (part_of m.world x.owner).listeners ≡ of x.owner
  listeners_in =
      ap (λ (n : MachineNow). (part_of n.world x.owner).listeners) (sym seen) ∙ ap (λ (p : Part). p.listeners) (part-heard of s.world fits x.owner) ∙
      ap of (owner-part_of s.world x.owner)

  pub trees_in : (part_of m.world x.owner).trees ≡ (part_of s.world x.owner).trees
  trees_in = ap (λ (n : MachineNow). (part_of n.world x.owner).trees) (sym seen) ∙ ap (λ (p : Part). p.trees) (part-heard of s.world fits x.owner)

  -- the name by which it is found
  its_name : node_of (part_of s.world x.owner).owner x.number ≡ x
  its_name = name_at_owner s.world x

  -- where it is there
  module _ (k : ℕ) (within : k < length s.names) (name : name_at s.names k ≡ node_of (part_of s.world x.owner).owner x.number) where
    is : name_at s.names k ≡ x
    is = name ∙ its_name

    pub listens_there : (event label : Word) (capture : Bool) →
        list_any (is_listener nat_eq k event label capture) ls ≡ list_any (is_listener name_eq x event label capture) (part_of m.world x.owner).listeners
    listens_there event label capture =
        any-own s.names apart x k within is event label capture ls (seen_at s ls m seen sound) ∙
        ap (list_any (is_listener name_eq x event label capture)) (sym listeners_in)

    pub heard_there : (e : EventWords) (v : Visit NodeName) → v.current ≡ x →
        map (at_node x) (filter (hears_at k e.event v.capturing) ls) ≡ filter (hears name_eq e v) (part_of m.world x.owner).listeners
    heard_there e v current =
        heard-own s.names apart x k within is e v current ls (seen_at s ls m seen sound) ∙ ap (filter (hears name_eq e v)) (sym listeners_in)

    module _ (event label : Word) (capture : Bool) where
      -- those that are left by keys, and what its owner has then
      abbrev less : List (Listener ℕ)
      less = with_listener_removed nat_eq k event label capture ls

      abbrev left : List (Listener NodeName)
      left = with_listener_removed name_eq x event label capture (part_of m.world x.owner).listeners

      here : is_there s.world x.owner ≡ true
      here = ap (λ (y : NodeName). is_there s.world y.owner) (sym is) ∙ there k within

      here_now : is_there m.world x.owner ≡ true
      here_now = ap (λ (n : MachineNow). is_there n.world x.owner) (sym seen) ∙ there-heard of s.world x.owner ∙ here

      left_world : (machine_now s less).world ≡ with_part m.world (record (part_of m.world x.owner) { listeners = left })
      left_world =
          let at = seen_at s ls m seen sound in
          let remove = λ (y : NodeName) (ms : List (Listener NodeName)). with_listener_removed name_eq y event label capture ms in
          let gone = own-unlistened s.names apart ls at k within event label capture in
          let mine : own_listeners s.names less x.owner ≡ remove x (of x.owner) =
          subst (λ (y : NodeName). own_listeners s.names less y.owner ≡ remove y (of y.owner)) is gone in
          let others : (q : Owner) → x.owner ≢ q → own_listeners s.names less q ≡ of q =
          λ q other. others-unlistened s.names apart ls at k within event label capture q (λ e. other (ap (λ (y : NodeName). y.owner) (sym is) ∙ e)) in
          sym (written-heard of (own_listeners s.names less) s.world fits
          (fits-own s.names s.world there less (at-unlistened s.names apart ls at k within event label capture))
          (subst IsAtRest (sym seen) sound).reached x.owner here (remove x (part_of (machine_now s ls).world x.owner).listeners)
          (mine ∙ ap (remove x) (sym listeners_in ∙ ap (λ (n : MachineNow). (part_of n.world x.owner).listeners) (sym seen))) others)
          ∙ ap (λ (n : MachineNow). with_part n.world (record (part_of n.world x.owner) { listeners = remove x (part_of n.world x.owner).listeners })) seen

      -- the world is so
      pub removed_there : (machine_now s less).world ≡ written m.world (record (part_of m.world x.owner) { listeners = left })
      removed_there =
          let q : Part = record (part_of m.world x.owner) { listeners = left } in
          left_world ∙ sym (cond-true (is_there m.world q.owner) (with_part m.world q) m.world
          (ap (is_there m.world) (owner-part_of m.world x.owner) ∙ here_now))

      -- and the machine is at rest
      pub removed_sound : IsAtRest (machine_now s less)
      removed_sound =
          let p = part_of m.world x.owner in
          let i = rest-stands m sound in
          let t = sound.whole.tables x.owner in
          let f : FitTables p (with_tables p left p.record_queues p.registrations p.pending) = record {
            listeners = all-filter (IsListenerIn p.trees) (λ l. not (is_listener name_eq x event label capture l)) p.listeners t.listeners;
            registrations = t.registrations;
            pending = t.pending;
            records = sound.whole.records x.owner;
          } in
          at_rest (machine_now s less) left_world (at-unlistened s.names apart ls (seen_at s ls m seen sound) k within event label capture)
          (written-stands m.world x.owner here_now i left p.record_queues p.registrations p.pending f)
          (written-bounded m.world x.owner here_now i left p.record_queues p.registrations p.pending f sound.bounds)

  -- where it is not there
  module _ (none : has_node (part_of s.world x.owner).trees (node_of (part_of s.world x.owner).owner x.number) ≡ false) where
    absent : has_node (part_of m.world x.owner).trees x ≡ false
    absent = ap (λ ts. has_node ts x) trees_in ∙ ap (has_node (part_of s.world x.owner).trees) (sym its_name) ∙ none

    pub listens_not : (event label : Word) (capture : Bool) → list_any (is_listener name_eq x event label capture) (part_of m.world x.owner).listeners ≡ false
    listens_not event label capture =
        none-any (part_of m.world x.owner).trees x absent (is_listener name_eq x event label capture) (listener-at x event label capture)
        (part_of m.world x.owner).listeners (sound.whole.tables x.owner).listeners

    pub heard_not : (e : EventWords) (v : Visit NodeName) → v.current ≡ x → filter (hears name_eq e v) (part_of m.world x.owner).listeners ≡ []
    heard_not e v current =
        none-kept (part_of m.world x.owner).trees x absent (hears name_eq e v) (λ l h. hearer-at e v l h ∙ current) (part_of m.world x.owner).listeners
        (sound.whole.tables x.owner).listeners

    pub removed_not : (event label : Word) (capture : Bool) → m.world ≡ written m.world (record (part_of m.world x.owner)
        { listeners = with_listener_removed name_eq x event label capture (part_of m.world x.owner).listeners })
    removed_not event label capture =
        let p = part_of m.world x.owner in
        let same = all-kept p.trees x absent (is_listener name_eq x event label capture) (listener-at x event label capture) p.listeners
        (sound.whole.tables x.owner).listeners in
        by_cases (is_there m.world p.owner)
        (λ h. sym (cond-true (is_there m.world p.owner) (with_part m.world p) m.world h
        ∙ with_part-same m.world x.owner (ap (is_there m.world) (sym (owner-part_of m.world x.owner)) ∙ h)))
        (λ h. sym (cond-false (is_there m.world p.owner) (with_part m.world p) m.world h))
        ∙ ap (λ (ls : List (Listener NodeName)). written m.world (record p { listeners = ls })) (sym same)
