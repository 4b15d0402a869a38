-- The steps of loops over listeners and over the visits of a path, and the dispatch in a world.
use Rattle.dom_dispatch.proofs.Cited.{◌≡◌, ℕ, ◌+◌, ◌<◌, Bool, true, false, cond, List, [], ◌∷◌, ◌++◌, length, get_or, take, drop, filter, fold, map, reverse}
use Rattle.dom_dispatch.proofs.Cited.{Option, Some, option_map, not, zero, suc, refl, sym, ap, subst, ◌∙◌, arith, drop-cons, ◌&&◌, ◌||◌, nat_eq, slice_get}
use Rattle.dom_dispatch.proofs.Cited.{if◌then◌else◌, AllByRecursion, cond-false, map-append, reverse-append, filter_more, fold-append, slice_get-map}
use Rattle.dom_dispatch.proofs.Cited.{slice_get-get_or, slice_get_within, get_or_from_slice_get, NodeName, name_eq, Word, EventWords, event_output, visit_of}
use Rattle.dom_dispatch.proofs.Cited.{visits_of, is_at_target, begun, Dispatching, Listener, hears, after_inner_invoke, after_invoke, EventLine, View, views}
use Rattle.dom_dispatch.proofs.Cited.{part_of, NamedTrees, name_at, TellApart, ShadowHost, Item, Tree, ShowsNodes, view_in, all-then, LogLine, Outcome}
use Rattle.dom_dispatch.proofs.Cited.{IsDispatched, IsDispatchedIn, NoneHears, is_of_owner, listener_named, line_named, IsListenerAt, IsViewOf, line_in}
use Rattle.dom_dispatch.proofs.Among.{dispatched-among, dispatched-along}

-- one or none, mapped
map-cond : {X Y : Type 0} (f : X → Y) (b : Bool) (x : X) → map f (cond b (x ∷ []) []) ≡ cond b (f x ∷ []) []
map-cond f true x = refl
map-cond f false x = refl

-- one more is kept, or not
pub kept-more : {X Y : Type 0} (f : X → Y) (p : X → Bool) (xs : List X) (i : ℕ) {x : X} → i < length xs → x ≡ get_or xs i x
    → map f (filter p (take i xs)) ++ cond (p x) (f x ∷ []) [] ≡ map f (filter p (take (i + 1) xs))
kept-more f p xs i {x} h g =
    let here = filter p (take i xs) in
    sym (ap (map f) (filter_more p xs i x h ∙ ap (λ y. here ++ cond (p y) (y ∷ []) []) (sym g)) ∙ map-append f here (cond (p x) (x ∷ []) []) ∙
    ap (λ ys. map f here ++ ys) (map-cond f (p x) x))

module _ {D V W : Type 0} (step : D → W → D) (g : V → W) where
  -- one step, or none
  fold-cond : (b : Bool) (d : D) (x : W) → fold step d (cond b (x ∷ []) []) ≡ cond b (step d x) d
  fold-cond true d x = refl
  fold-cond false d x = refl

  module _ (vs : List V) where
    -- the next visit from the front, or none
    pub bubbled-more : (p : V → Bool) (i : ℕ) {v : V} → slice_get vs i ≡ Some v → (from : D) {before after : D} →
        before ≡ fold step from (map g (filter p (take i vs))) → after ≡ cond (p v) (step before (g v)) before →
        after ≡ fold step from (map g (filter p (take (i + 1) vs)))
    bubbled-more p i {v = v} at from {before = before} b a =
        let done = map g (filter p (take i vs)) in
        a ∙ sym (fold-cond (p v) before (g v)) ∙ ap (λ d. fold step d (cond (p v) (g v ∷ []) [])) b
        ∙ sym (fold-append step from done (cond (p v) (g v ∷ []) []))
        ∙ ap (fold step from) (kept-more g p vs i (slice_get_within vs i v at) (sym (get_or_from_slice_get vs i v v at)))

    -- the next visit from the end
    pub captured-more : {k n : ℕ} {v : V} → n ≡ suc k → slice_get vs k ≡ Some v → (from : D) {before after : D} →
        before ≡ fold step from (map g (reverse (drop n vs))) → after ≡ step before (g v) → after ≡ fold step from (map g (reverse (drop k vs)))
    captured-more {k} {v} next at from b a =
        let rest = reverse (drop (suc k) vs) in
        let all : drop k vs ≡ v ∷ drop (suc k) vs =
        drop-cons vs k v (slice_get_within vs k v at) ∙ ap (λ x. x ∷ drop (suc k) vs) (get_or_from_slice_get vs k v v at) in
        a ∙ ap (λ d. step d (g v)) (b ∙ ap (λ m. fold step from (map g (reverse (drop m vs)))) next)
        ∙ sym (fold-append step from (map g rest) (g v ∷ []))
        ∙ ap (fold step from) (sym (ap (map g) (ap reverse all ∙ reverse-append (v ∷ []) (drop (suc k) vs)) ∙ map-append g rest (v ∷ [])))

-- a visit that is not stopped calls those that hear it
module _ (e : EventWords) (capturing : Bool) where
  pub visited-calls : (d : Dispatching ℕ) (heard : List (Listener ℕ)) {v view : View ℕ} → d.stopped ≡ false →
      heard ≡ filter (hears nat_eq e (visit_of nat_eq capturing v)) d.listeners → Some v ≡ Some view →
      fold (after_inner_invoke nat_eq e (visit_of nat_eq capturing v)) d heard ≡ after_invoke nat_eq e d (visit_of nat_eq capturing view)
  visited-calls d heard {v} {view} running is same =
      let call = fold (after_inner_invoke nat_eq e (visit_of nat_eq capturing v)) d in
      let one : v ≡ view = cc in
      ap call is ∙ sym (cond-false d.stopped d (call (filter (hears nat_eq e (visit_of nat_eq capturing v)) d.listeners)) running) ∙
      ap (λ u. after_invoke nat_eq e d (visit_of nat_eq capturing u)) one

  -- where nobody listens visits change nothing
  module _ {N : Type 0} (same : N → N → Bool) where
    unheard : (ls : List (Listener N)) → NoneHears e.event capturing ls → (v : View N) → filter (hears same e (visit_of same capturing v)) ls ≡ []
    unheard [] all v = refl
    unheard (l ∷ ls) all v =
        ap (λ b. if b then l ∷ filter (hears same e (visit_of same capturing v)) ls else filter (hears same e (visit_of same capturing v)) ls)
        (deaf (same l.node v.node) _ all.0) ∙ unheard ls all.1 v
      where
        deaf : (a b : Bool) → b ≡ false → (a && b) ≡ false
        deaf true b none = none
        deaf false b none = refl

    pub silent : (d : Dispatching N) → NoneHears e.event capturing d.listeners → (vs : List (View N)) →
        fold (after_invoke same e) d (map (visit_of same capturing) vs) ≡ d
    silent d all [] = refl
    silent d all (v ∷ vs) =
        ap (λ d. fold (after_invoke same e) d (map (visit_of same capturing) vs))
        (ap (λ ls. if d.stopped then d else fold (after_inner_invoke same e (visit_of same capturing v)) d ls) (unheard d.listeners all v) ∙ either d.stopped)
        ∙ silent d all vs
      where
        either : (b : Bool) → (if b then d else d) ≡ d
        either true = refl
        either false = refl

-- so a dispatch has no lines, and is not cancelled
quiet : {N : Type 0} (same : N → N → Bool) (e : EventWords) (ls : List (Listener N)) → ((capturing : Bool) → NoneHears e.event capturing ls) →
    (vs : List (View N)) → fold (after_invoke same e) (begun ls) (visits_of same e.bubbles vs) ≡ begun ls
quiet same e ls none vs =
    let step = after_invoke same e in
    let up = filter (λ v. e.bubbles || is_at_target same v) vs in
    fold-append step (begun ls) (map (visit_of same true) (reverse vs)) (map (visit_of same false) up)
    ∙ ap (λ d. fold step d (map (visit_of same false) up)) (silent e true same (begun ls) (none true) (reverse vs))
    ∙ silent e false same (begun ls) (none false) up

-- nobody listens by names either
none-named : (names : List NodeName) (event : Word) (capturing : Bool) (ls : List (Listener ℕ)) → NoneHears event capturing ls →
    NoneHears event capturing (map (listener_named names) ls)
none-named names event capturing [] none = tt
none-named names event capturing (l ∷ ls) none = (none.0, none-named names event capturing ls none.1)

-- an item that is there
there : {X : Type 0} (xs : List X) (i : ℕ) → i < length xs → (x : X) × (slice_get xs i ≡ Some x)
there [] i h = absurd (omega arith)
there (x ∷ xs) zero h = (x, refl)
there (x ∷ xs) (suc i) h = there xs i (omega arith)

module _ (trees : List Tree) (items : List Item) (vs : List (View ℕ)) (shown : vs ≡ map (view_in trees items) items) where
  -- what is shown at an item
  pub view-is : {xs : List Item} (i : ℕ) {x : Item} → i < length items → xs ≡ items → x ≡ get_or xs i x → slice_get vs i ≡ Some (view_in trees items x)
  view-is i {x} h same is =
      let g : x ≡ get_or items i x = subst (λ ys. x ≡ get_or ys i x) same is in
      ap (λ xs. slice_get xs i) shown ∙ slice_get-map (view_in trees items) items i ∙
      ap (option_map (view_in trees items)) (slice_get-get_or items i x h ∙ ap Some (sym g))

  -- something is
  pub view-there : (i : ℕ) → i < length items → (v : View ℕ) × (slice_get vs i ≡ Some v)
  view-there i h =
      let x = there items i h in
      (view_in trees items x.0, ap (λ xs. slice_get xs i) shown ∙ slice_get-map (view_in trees items) items i ∙ ap (option_map (view_in trees items)) x.1)

-- a dispatch by keys is the dispatch in each world
pub dispatched-in : {f : NamedTrees} {hosts : List ShadowHost} → TellApart f.names →
    {before after : List (Listener ℕ)} {target : ℕ} {related : Option ℕ} {e : EventWords} {outcome : Outcome}
    → IsDispatched f hosts before after target related e outcome → AllByRecursion (IsListenerAt f.names) before →
    IsDispatchedIn f hosts before after target related e outcome
dispatched-in {f} apart {before} {target} {related} {e} d at w is has =
    let far = dispatched-along f.names apart before at d.shown (all-then (ShowsNodes f.names) (IsViewOf f.names)
    (λ v h. record { node = h.node; target = h.target }) d.shown d.nodes) w has (name_at f.names target)
    (option_map (name_at f.names) related) e (d.path w is) in (
      λ o. far.0 o ∙ ap (λ (ls : List (Listener ℕ)). record (part_of w o)
          { listeners = filter (is_of_owner o) (map (listener_named f.names) ls) }) (sym d.listeners),
      far.1 ∙ ap (λ (ls : List (EventLine ℕ)). map event_output (map (line_named f.names) ls)) (sym d.lines),
      far.2 ∙ sym d.answer,
    )

-- and so is, in each world, one that nobody hears
module _ (f : NamedTrees) (hosts : List ShadowHost) (target : ℕ) (related : Option ℕ) where
  pub unheard-in : (ls : List (Listener ℕ)) (e : EventWords) (outcome : Outcome) → ((capturing : Bool) → NoneHears e.event capturing ls) →
      outcome.lines.items ≡ [] → outcome.answer ≡ true → IsDispatchedIn f hosts ls ls target related e outcome
  unheard-in ls e outcome none empty answered w is has =
      let named = map (listener_named f.names) ls in
      let at = name_at f.names target in
      let with_related = option_map (name_at f.names) related in
      let far = dispatched-among w named has at with_related e in
      let same = quiet name_eq e named (λ c. none-named f.names e.event c ls (none c)) (views w at with_related e.composed) in (
        λ o. far.0 o ∙ ap (λ (d : Dispatching NodeName). record (part_of w o) { listeners = filter (is_of_owner o) d.listeners }) same,
        far.1 ∙ ap (λ (d : Dispatching NodeName). map event_output d.lines) same
            ∙ ap (λ (lines : List LogLine). map event_output (map (line_named f.names) (map line_in lines))) (sym empty),
        far.2 ∙ ap (λ (d : Dispatching NodeName). not d.cancelled) same ∙ sym answered,
      )
