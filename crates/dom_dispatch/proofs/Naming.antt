-- What is done to listeners by keys is what is done by names.
use Rattle.dom_dispatch.proofs.Cited.{◌≡◌, ℕ, ◌<◌, Bool, true, false, not, ◌&&◌, ◌||◌, List, [], ◌∷◌, ◌++◌, length, map, filter, fold, reverse}
use Rattle.dom_dispatch.proofs.Cited.{option_map, refl, sym, ap, ◌∙◌, nat_eq, if◌then◌else◌, AllByRecursion, list_any, beq, cond-true, cond-false}
use Rattle.dom_dispatch.proofs.Cited.{map-append, reverse-append, Action, Log, NodeName, Word, text_eq, name_eq, EventWords, ListenerWords, Listener}
use Rattle.dom_dispatch.proofs.Cited.{Visit, Dispatching, after_action, may_cancel, line_of, is_listener, with_listener_removed, with_listener_added}
use Rattle.dom_dispatch.proofs.Cited.{kept_after, after_inner_invoke, hears, after_invoke, begun, View, is_at_target, visit_of, visits_of, by_cases}
use Rattle.dom_dispatch.proofs.Cited.{all-append, all-filter, all-reverse, key-test, name_at, TellApart, view_named, listener_named, visit_named}
use Rattle.dom_dispatch.proofs.Cited.{line_named, dispatching_named, IsListenerAt, IsViewOf}
use Rattle.dom_dispatch.proofs.Staying.{heard_by, called-at, visited-at}

-- a list mapped from its end
reverse-mapped : {X Y : Type 0} (f : X → Y) (xs : List X) → map f (reverse xs) ≡ reverse (map f xs)
reverse-mapped f [] = refl
reverse-mapped f (x ∷ xs) =
    ap (map f) (reverse-append (x ∷ []) xs) ∙ map-append f (reverse xs) (x ∷ []) ∙ ap (λ ys. ys ++ f x ∷ []) (reverse-mapped f xs) ∙
    sym (reverse-append (f x ∷ []) (map f xs))

-- what is kept of a list, and then mapped, by a test that agrees
filter-mapped : {X Y : Type 0} (f : X → Y) (P : X → Type 0) {p : X → Bool} (q : Y → Bool) → ((x : X) → P x → p x ≡ q (f x)) → (xs : List X) →
    AllByRecursion P xs → map f (filter p xs) ≡ filter q (map f xs)
filter-mapped f P q same [] h = refl
filter-mapped f P {p} q same (x ∷ xs) h =
    let rest = filter-mapped f P q same xs h.1 in
    by_cases (p x)
    (λ e. ap (map f) (cond-true (p x) (x ∷ filter p xs) (filter p xs) e) ∙ ap (λ ys. f x ∷ ys) rest ∙
    sym (cond-true (q (f x)) (f x ∷ filter q (map f xs)) (filter q (map f xs)) (sym (same x h.0) ∙ e)))
    (λ e. ap (map f) (cond-false (p x) (x ∷ filter p xs) (filter p xs) e) ∙ rest ∙
    sym (cond-false (q (f x)) (f x ∷ filter q (map f xs)) (filter q (map f xs)) (sym (same x h.0) ∙ e)))

module _ (names : List NodeName) (apart : TellApart names) where
  abbrev name : ℕ → NodeName
  name k = name_at names k

  module _ (x : ℕ) (at : x < length names) (event label : Word) (capture : Bool) where
    -- a listener that is known by its key is known by its name
    known : (l : Listener ℕ) → IsListenerAt names l →
        is_listener nat_eq x event label capture l ≡ is_listener name_eq (name x) event label capture (listener_named names l)
    known l h = ap
        (λ b. b && (text_eq l.words.event event && (text_eq l.words.label label && beq l.words.capture capture))) (key-test names apart l.node x h at)

    -- whether it is there
    there-named : (ls : List (Listener ℕ)) → AllByRecursion (IsListenerAt names) ls →
        list_any (is_listener nat_eq x event label capture) ls ≡ list_any (is_listener name_eq (name x) event label capture) (map (listener_named names) ls)
    there-named [] h = refl
    there-named (l ∷ ls) h = λ j. known l h.0 j || there-named ls h.1 j

  module _ (ls : List (Listener ℕ)) (h : AllByRecursion (IsListenerAt names) ls) where
    -- one less
    pub unlistened-named : (x : ℕ) → x < length names → (event label : Word) (capture : Bool) →
        map (listener_named names) (with_listener_removed nat_eq x event label capture ls) ≡ with_listener_removed name_eq (name x) event label capture
        (map (listener_named names) ls)
    unlistened-named x at event label capture =
        filter-mapped (listener_named names) (IsListenerAt names)
        (λ l. not (is_listener name_eq (name x) event label capture l))
        (λ l k. ap not (known x at event label capture l k)) ls h

    -- one more
    pub listened-named : (x : ℕ) → x < length names → (words : ListenerWords) →
        map (listener_named names) (with_listener_added nat_eq x words ls) ≡ with_listener_added name_eq (name x) words (map (listener_named names) ls)
    listened-named x at words =
        by (list_any (is_listener nat_eq x words.event words.label words.capture) ls)
        ∙ ap (λ (b : Bool). if b then map (listener_named names) ls else map (listener_named names) ls ++
        record { node = name x; words = words } ∷ []) (there-named x at words.event words.label words.capture ls h)
      where
        by : (b : Bool) → map (listener_named names)
            (if b then ls else ls ++ record { node = x; words = words } ∷ []) ≡
            (if b then map (listener_named names) ls else map (listener_named names) ls ++ record { node = name x; words = words } ∷ [])
        by true = refl
        by false = map-append (listener_named names) ls (record { node = x; words = words } ∷ [])

  -- ---- a visit

  -- the listeners once one was called
  kept-named : (l : Listener ℕ) → IsListenerAt names l → (ls : List (Listener ℕ)) → AllByRecursion (IsListenerAt names) ls
      → map (listener_named names) (kept_after nat_eq l ls) ≡ kept_after name_eq (listener_named names l) (map (listener_named names) ls)
  kept-named l k ls h = by l.words.once
    where
      by : (b : Bool) → map (listener_named names) (if b then with_listener_removed nat_eq l.node l.words.event l.words.label l.words.capture ls else ls)
          ≡ (if b then with_listener_removed name_eq (name l.node) l.words.event l.words.label l.words.capture (map (listener_named names) ls) else map
          (listener_named names) ls)
      by true = unlistened-named ls h l.node k l.words.event l.words.label l.words.capture
      by false = refl

  -- what an action does
  acted-named : (a : Action) (cancels : Bool) (s : Dispatching ℕ) →
      dispatching_named names (after_action a cancels s) ≡ after_action a cancels (dispatching_named names s)
  acted-named Log cancels s = refl
  acted-named a cancels s = refl

  module _ (e : EventWords) where
    -- one call
    called-named : (v : Visit ℕ) (s : Dispatching ℕ) (l : Listener ℕ) → IsListenerAt names l → AllByRecursion (IsListenerAt names) s.listeners
        → dispatching_named names (after_inner_invoke nat_eq e v s l) ≡ after_inner_invoke name_eq e (visit_named names v) (dispatching_named names s)
        (listener_named names l)
    called-named v s l k h = by s.stopped_now
      where
        acts : Dispatching NodeName
        acts = after_action l.words.action (may_cancel e l.words)
            (record (dispatching_named names s) {
              listeners = kept_after name_eq (listener_named names l) (map (listener_named names) s.listeners);
              lines = map (line_named names) s.lines ++ line_of (visit_named names v) l.words ∷ [];
            })

        by : (b : Bool) → dispatching_named names (if b then s else after_action l.words.action (may_cancel e l.words) (heard_by v s l)) ≡
            (if b then dispatching_named names s else acts)
        by true = refl
        by false =
            acted-named l.words.action (may_cancel e l.words) (heard_by v s l)
            ∙ (λ j. after_action l.words.action (may_cancel e l.words) (record {
              listeners = kept-named l k s.listeners h j;
              stopped = s.stopped;
              stopped_now = s.stopped_now;
              cancelled = s.cancelled;
              lines = map-append (line_named names) s.lines (line_of v l.words ∷ []) j;
            }))

    -- the calls of some listeners
    calls-named : (v : Visit ℕ) (heard : List (Listener ℕ)) (s : Dispatching ℕ) → AllByRecursion (IsListenerAt names) heard →
        AllByRecursion (IsListenerAt names) s.listeners
        → dispatching_named names (fold (after_inner_invoke nat_eq e v) s heard) ≡ fold (after_inner_invoke name_eq e (visit_named names v))
        (dispatching_named names s)
        (map (listener_named names) heard)
    calls-named v [] s g h = refl
    calls-named v (l ∷ heard) s g h =
        calls-named v heard (after_inner_invoke nat_eq e v s l) g.1 (called-at names e v s l h)
        ∙ ap (λ d. fold (after_inner_invoke name_eq e (visit_named names v)) d (map (listener_named names) heard)) (called-named v s l g.0 h)

    -- one visit
    visited-named : (v : Visit ℕ) → v.current < length names → (s : Dispatching ℕ) → AllByRecursion (IsListenerAt names) s.listeners
        → dispatching_named names (after_invoke nat_eq e s v) ≡ after_invoke name_eq e (dispatching_named names s) (visit_named names v)
    visited-named v at s h = by s.stopped
      where
        hear : map (listener_named names) (filter (hears nat_eq e v) s.listeners) ≡ filter (hears name_eq e (visit_named names v))
            (map (listener_named names) s.listeners)
        hear = filter-mapped (listener_named names) (IsListenerAt names) (hears name_eq e (visit_named names v))
            (λ l k. ap (λ b. b && (text_eq l.words.event e.event && beq l.words.capture v.capturing))
            (key-test names apart l.node v.current k at)) s.listeners h

        by : (b : Bool) → dispatching_named names (if b then s else fold (after_inner_invoke nat_eq e v) s (filter (hears nat_eq e v) s.listeners))
            ≡ (if b then dispatching_named names s else fold (after_inner_invoke name_eq e (visit_named names v)) (dispatching_named names s)
            (filter (hears name_eq e (visit_named names v)) (map (listener_named names) s.listeners)))
        by true = refl
        by false =
            calls-named v (filter (hears nat_eq e v) s.listeners) s (all-filter (IsListenerAt names) (hears nat_eq e v) s.listeners h) h
            ∙ ap (fold (after_inner_invoke name_eq e (visit_named names v)) (dispatching_named names s)) hear

    -- all visits
    visits-named : (vs : List (Visit ℕ)) → AllByRecursion (λ v. v.current < length names) vs → (s : Dispatching ℕ) →
        AllByRecursion (IsListenerAt names) s.listeners
        → dispatching_named names (fold (after_invoke nat_eq e) s vs) ≡ fold (after_invoke name_eq e) (dispatching_named names s) (map (visit_named names) vs)
    visits-named [] g s h = refl
    visits-named (v ∷ vs) g s h =
        visits-named vs g.1 (after_invoke nat_eq e s v) (visited-at names e v s h)
        ∙ ap (λ d. fold (after_invoke name_eq e) d (map (visit_named names) vs)) (visited-named v g.0 s h)

    -- ---- the visits of a path

    -- whether a view is at the target
    target-named : (v : View ℕ) → IsViewOf names v → is_at_target nat_eq v ≡ is_at_target name_eq (view_named names v)
    target-named v h = key-test names apart v.node v.target h.node h.target

    -- the visit of a view
    visit-named : (capturing : Bool) (v : View ℕ) → IsViewOf names v →
        visit_named names (visit_of nat_eq capturing v) ≡ visit_of name_eq capturing (view_named names v)
    visit-named capturing v h = λ j. record {
      current = name v.node;
      phase = if target-named v h j then 2 else (if capturing then 1 else 3);
      capturing = capturing;
      target = name v.target;
      related = option_map (name_at names) v.related;
      path = map (name_at names) v.path;
    }

    -- of some views
    along-named : (capturing : Bool) (vs : List (View ℕ)) → AllByRecursion (IsViewOf names) vs →
        map (visit_named names) (map (visit_of nat_eq capturing) vs) ≡ map (visit_of name_eq capturing) (map (view_named names) vs)
    along-named capturing [] h = refl
    along-named capturing (v ∷ vs) h = λ j. visit-named capturing v h.0 j ∷ along-named capturing vs h.1 j

    -- they are at these nodes
    along-at : (capturing : Bool) (vs : List (View ℕ)) → AllByRecursion (IsViewOf names) vs →
        AllByRecursion (λ v. v.current < length names) (map (visit_of nat_eq capturing) vs)
    along-at capturing [] h = tt
    along-at capturing (v ∷ vs) h = (h.0.node, along-at capturing vs h.1)

    -- the dispatch
    pub dispatched-named : (ls : List (Listener ℕ)) → AllByRecursion (IsListenerAt names) ls → (vs : List (View ℕ)) → AllByRecursion (IsViewOf names) vs
        → dispatching_named names (fold (after_invoke nat_eq e) (begun ls) (visits_of nat_eq e.bubbles vs))
        ≡ fold (after_invoke name_eq e) (begun (map (listener_named names) ls)) (visits_of name_eq e.bubbles (map (view_named names) vs))
    dispatched-named ls h vs g =
        let down = reverse vs in
        let up = filter (λ v. e.bubbles || is_at_target nat_eq v) vs in
        let down_views = all-reverse (IsViewOf names) vs g in
        let up_views = all-filter (IsViewOf names) (λ v. e.bubbles || is_at_target nat_eq v) vs g in
        let up_named = filter-mapped (view_named names) (IsViewOf names)
        (λ v. e.bubbles || is_at_target name_eq v) (λ v k. ap (λ b. e.bubbles || b) (target-named v k)) vs g in
        visits-named (visits_of nat_eq e.bubbles vs)
        (all-append (λ v. v.current < length names) (map (visit_of nat_eq true) down) (map (visit_of nat_eq false) up) (along-at true down down_views)
        (along-at false up up_views)) (begun ls) h
        ∙ ap (fold (after_invoke name_eq e) (begun (map (listener_named names) ls)))
        (map-append (visit_named names) (map (visit_of nat_eq true) down) (map (visit_of nat_eq false) up)
        ∙ (λ j. (along-named true down down_views ∙ ap (map (visit_of name_eq true)) (reverse-mapped (view_named names) vs)) j ++
        (along-named false up up_views ∙ ap (map (visit_of name_eq false)) up_named) j))
