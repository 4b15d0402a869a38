-- Each owner's listeners in one list of all: what is done to the list, by keys, is done to its owner's.
use Rattle.dom_commands.proofs.Cited.{◌≡◌, ◌≢◌, ℕ, ◌<◌, ◌≤◌, Bool, true, false, not, ◌&&◌, List, [], ◌∷◌, ◌++◌, filter, fold, length, map, append-nil, arith}
use Rattle.dom_commands.proofs.Cited.{refl, sym, ap, ◌∙◌, true≢false, nat_eq, if◌then◌else◌, beq, AllByRecursion, list_any, cond-true, cond-false, and_parts}
use Rattle.dom_commands.proofs.Cited.{get_or-take, length-take, filter-append, min, any-filter_same, all-filter, all-append, filter-filter, by_cases}
use Rattle.dom_commands.proofs.Cited.{either_way, name_at, TellApart, is_of_owner, HasListeners, listener_named, IsListenerAt, listened-named, unlistened-named}
use Rattle.dom_commands.proofs.Cited.{filter-wider, BeginsWith, heard, own_listeners}
use Rattle.dom_model.proofs.Model.{NodeName, Owner, Page, EventWords, ListenerWords, Listener, Visit, Dispatching, is_listener, with_listener_removed}
use Rattle.dom_model.proofs.Model.{with_listener_added, after_invoke, Word, owner_eq, name_eq, text_eq, node_of, World, is_there, owner_eq-true}
use Rattle.dom_model.proofs.Model.{owner_eq-same, ne-owner_eq, name_eq-true, owner-part_of}
use Rattle.dom_commands.proofs.ListenerWorlds.{FitsIn, part-heard}
use Rattle.dom_worlds.proofs.TurnLemmas.{after-visit}

-- the owners of nodes are there
abbrev pub OwnersAreThere : List NodeName → World → Type 0
OwnersAreThere names w = (k : ℕ) → k < length names → is_there w (name_at names k).owner ≡ true

-- ---- owners

module _ (names : List NodeName) where
  -- whoever is not there has no listeners
  pub fits-own : (w : World) → OwnersAreThere names w → (ls : List (Listener ℕ)) → AllByRecursion (IsListenerAt names) ls → FitsIn (own_listeners names ls) w
  fits-own w there [] at o off = refl
  fits-own w there (l ∷ ls) at o off =
      let rest = fits-own w there ls at.1 o off in
      cond-false (owner_eq (name_at names l.node).owner o) (listener_named names l ∷ own_listeners names ls o) (own_listeners names ls o)
      (ne-owner_eq (name_at names l.node).owner o (λ is. true≢false (sym (sym (ap (is_there w) is) ∙ there l.node at.0) ∙ off)))
      ∙ rest

  -- each owner has its own
  pub has-own : (w : World) (ls : List (Listener ℕ)) → FitsIn (own_listeners names ls) w →
      HasListeners (heard (own_listeners names ls) w) (map (listener_named names) ls)
  has-own w ls fits o = ap (λ p. p.listeners) (part-heard (own_listeners names ls) w fits o) ∙ ap (own_listeners names ls) (owner-part_of w o)

-- ---- names that are kept

name-kept : (names more : List NodeName) → BeginsWith names more → (k : ℕ) → k < length names → name_at more k ≡ name_at names k
name-kept names more kept k within =
    sym (get_or-take (length names) more k (node_of Page 0) within) ∙ ap (λ (xs : List NodeName). name_at xs k) kept

length-kept : (names more : List NodeName) → BeginsWith names more → length names ≤ length more
length-kept names more kept = let same : length names ≡ min (length names) (length more) = sym (ap length kept) ∙ length-take (length names) more in omega arith

-- listeners stay at their nodes
pub at-kept : (names more : List NodeName) → BeginsWith names more → (ls : List (Listener ℕ)) → AllByRecursion (IsListenerAt names) ls →
    AllByRecursion (IsListenerAt more) ls
at-kept names more kept [] at = tt
at-kept names more kept (l ∷ ls) at = ((let room = length-kept names more kept in let here = at.0 in omega arith), at-kept names more kept ls at.1)

named-kept : (names more : List NodeName) → BeginsWith names more → (ls : List (Listener ℕ)) → AllByRecursion (IsListenerAt names) ls →
    map (listener_named more) ls ≡ map (listener_named names) ls
named-kept names more kept [] at = refl
named-kept names more kept (l ∷ ls) at = λ j. record { node = name-kept names more kept l.node at.0 j; words = l.words } ∷ named-kept names more kept ls at.1 j

-- and are their owners'
pub own-kept : (names more : List NodeName) → BeginsWith names more → (ls : List (Listener ℕ)) → AllByRecursion (IsListenerAt names) ls →
    own_listeners more ls ≡ own_listeners names ls
own-kept names more kept ls at = λ j o. filter (is_of_owner o) (named-kept names more kept ls at j)

-- ---- one more, and one less

module _ (x : NodeName) where
  -- a listener of x is of its owner
  listener-owned : (event label : Word) (capture : Bool) (l : Listener NodeName) → is_listener name_eq x event label capture l ≡ true → l.node.owner ≡ x.owner
  listener-owned event label capture l h =
      ap (λ (y : NodeName). y.owner) (name_eq-true l.node x
      (and_parts (name_eq l.node x) (text_eq l.words.event event && (text_eq l.words.label label && beq l.words.capture capture)) h).0)

  -- of its owner
  listened-own : (words : ListenerWords) (ms : List (Listener NodeName)) →
      filter (is_of_owner x.owner) (with_listener_added name_eq x words ms) ≡ with_listener_added name_eq x words (filter (is_of_owner x.owner) ms)
  listened-own words ms =
      let test = is_listener name_eq x words.event words.label words.capture in
      let own = is_of_owner x.owner in
      let l : Listener NodeName = record { node = x; words = words } in
      let same : list_any test (filter own ms) ≡ list_any test ms =
      any-filter_same test own true
      (λ m h. ap (λ o. owner_eq o x.owner) (listener-owned words.event words.label words.capture m h) ∙ owner_eq-same x.owner) ms in
      by_if (list_any test ms) (λ (ls : List (Listener NodeName)). filter own ls) ms (ms ++ l ∷ [])
      ∙ ap (λ (ls : List (Listener NodeName)). if list_any test ms then filter own ms else ls)
      (filter-append own ms (l ∷ []) ∙ ap (λ (ls : List (Listener NodeName)). filter own ms ++ ls)
      (cond-true (owner_eq x.owner x.owner) (l ∷ []) [] (owner_eq-same x.owner)))
      ∙ ap (λ (b : Bool). if b then filter own ms else filter own ms ++ l ∷ []) (sym same)
    where
      by_if : {A B : Type 0} (b : Bool) (f : A → B) (u v : A) → f (if b then u else v) ≡ (if b then f u else f v)
      by_if true f u v = refl
      by_if false f u v = refl

  -- of others
  listened-other : (words : ListenerWords) (o : Owner) → x.owner ≢ o → (ms : List (Listener NodeName)) →
      filter (is_of_owner o) (with_listener_added name_eq x words ms) ≡ filter (is_of_owner o) ms
  listened-other words o other ms = by (list_any (is_listener name_eq x words.event words.label words.capture) ms)
    where
      by : (b : Bool) → filter (is_of_owner o) (if b then ms else ms ++ record { node = x; words = words } ∷ []) ≡ filter (is_of_owner o) ms
      by true = refl
      by false =
          filter-append (is_of_owner o) ms (record { node = x; words = words } ∷ [])
          ∙ ap (λ (ls : List (Listener NodeName)). filter (is_of_owner o) ms ++ ls)
          (cond-false (owner_eq x.owner o) (record { node = x; words = words } ∷ []) [] (ne-owner_eq x.owner o other))
          ∙ append-nil (filter (is_of_owner o) ms)

  unlistened-own : (event label : Word) (capture : Bool) (ms : List (Listener NodeName)) →
      filter (is_of_owner x.owner) (with_listener_removed name_eq x event label capture ms) ≡ with_listener_removed name_eq x event label capture
      (filter (is_of_owner x.owner) ms)
  unlistened-own event label capture ms = filter-filter (is_of_owner x.owner) (λ m. not (is_listener name_eq x event label capture m)) ms

  unlistened-other : (event label : Word) (capture : Bool) (o : Owner) → x.owner ≢ o → (ms : List (Listener NodeName)) →
      filter (is_of_owner o) (with_listener_removed name_eq x event label capture ms) ≡ filter (is_of_owner o) ms
  unlistened-other event label capture o other ms =
      filter-wider (is_of_owner o) (λ m. not (is_listener name_eq x event label capture m))
      (λ m h. by_cases (is_listener name_eq x event label capture m)
      (λ is. absurd (other (sym (listener-owned event label capture m is) ∙ owner_eq-true m.node.owner o h))) (λ e. ap not e)) ms

-- by keys
module _ (names : List NodeName) (apart : TellApart names) (ls : List (Listener ℕ)) (at : AllByRecursion (IsListenerAt names) ls) (k : ℕ)
    (within : k < length names) where
  pub own-listened : (words : ListenerWords) →
      own_listeners names (with_listener_added nat_eq k words ls) (name_at names k).owner ≡ with_listener_added name_eq (name_at names k) words
      (own_listeners names ls (name_at names k).owner)
  own-listened words =
      ap (filter (is_of_owner (name_at names k).owner)) (listened-named names apart ls at k within words) ∙
      listened-own (name_at names k) words (map (listener_named names) ls)

  pub others-listened : (words : ListenerWords) (o : Owner) → (name_at names k).owner ≢ o →
      own_listeners names (with_listener_added nat_eq k words ls) o ≡ own_listeners names ls o
  others-listened words o other = ap (filter (is_of_owner o)) (listened-named names apart ls at k within words) ∙
      listened-other (name_at names k) words o other (map (listener_named names) ls)

  pub own-unlistened : (event label : Word) (capture : Bool) →
      own_listeners names (with_listener_removed nat_eq k event label capture ls) (name_at names k).owner ≡ with_listener_removed name_eq
      (name_at names k) event label
      capture (own_listeners names ls (name_at names k).owner)
  own-unlistened event label capture =
      ap (filter (is_of_owner (name_at names k).owner)) (unlistened-named names apart ls at k within event label capture) ∙
      unlistened-own (name_at names k) event label capture (map (listener_named names) ls)

  pub others-unlistened : (event label : Word) (capture : Bool) (o : Owner) → (name_at names k).owner ≢ o →
      own_listeners names (with_listener_removed nat_eq k event label capture ls) o ≡ own_listeners names ls o
  others-unlistened event label capture o other =
      ap (filter (is_of_owner o)) (unlistened-named names apart ls at k within event label capture) ∙ unlistened-other (name_at names k) event
      label capture o other (map (listener_named names) ls)

  -- they stay at nodes
  pub at-listened : (words : ListenerWords) → AllByRecursion (IsListenerAt names) (with_listener_added nat_eq k words ls)
  at-listened words =
      either_way (AllByRecursion (IsListenerAt names)) (list_any (is_listener nat_eq k words.event words.label words.capture) ls) ls
      (ls ++ record { node = k; words = words } ∷ []) at
      (all-append (IsListenerAt names) ls (record { node = k; words = words } ∷ []) at (within, tt))

  pub at-unlistened : (event label : Word) (capture : Bool) → AllByRecursion (IsListenerAt names) (with_listener_removed nat_eq k event label capture ls)
  at-unlistened event label capture = all-filter (IsListenerAt names) (λ l. not (is_listener nat_eq k event label capture l)) ls at

-- ---- a dispatch leaves some of the listeners

module _ {N : Type 0} (same : N → N → Bool) (P : Listener N → Type 0) (e : EventWords) where
  pub after-visits : (vs : List (Visit N)) (d : Dispatching N) → AllByRecursion P d.listeners → AllByRecursion P (fold (after_invoke same e) d vs).listeners
  after-visits [] d h = h
  after-visits (v ∷ vs) d h = after-visits vs (after_invoke same e d v) (after-visit same P e v d h)
