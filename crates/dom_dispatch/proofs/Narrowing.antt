-- A visit among some of the listeners only, where all that hear it are among these.
use Rattle.dom_dispatch.proofs.Cited.{◌≡◌, Bool, true, false, not, List, [], ◌∷◌, ◌++◌, filter, fold, refl, sym, ap, ◌∙◌, if◌then◌else◌, AllByRecursion}
use Rattle.dom_dispatch.proofs.Cited.{cond-true, cond-false, Action, Log, EventWords, Listener, Visit, Dispatching, after_action, may_cancel, line_of}
use Rattle.dom_dispatch.proofs.Cited.{is_listener, with_listener_removed, kept_after, after_inner_invoke, hears, after_invoke, all-passed, by_cases}
use Rattle.dom_dispatch.proofs.Cited.{filter-filter}

module _ {X : Type 0} where
  -- a test that all pass which pass another one
  pub filter-wider : (p q : X → Bool) → ((x : X) → p x ≡ true → q x ≡ true) → (xs : List X) → filter p (filter q xs) ≡ filter p xs
  filter-wider p q wider [] = refl
  filter-wider p q wider (x ∷ xs) =
      let rest = filter-wider p q wider xs in
      by_cases (p x)
      (λ e. ap (filter p) (cond-true (q x) (x ∷ filter q xs) (filter q xs) (wider x e)) ∙ cond-true (p x) (x ∷ filter p (filter q xs))
      (filter p (filter q xs)) e ∙ ap (λ ys. x ∷ ys) rest
      ∙ sym (cond-true (p x) (x ∷ filter p xs) (filter p xs) e))
      (λ e. by_cases (q x)
      (λ g. ap (filter p) (cond-true (q x) (x ∷ filter q xs) (filter q xs) g) ∙ cond-false (p x) (x ∷ filter p (filter q xs))
      (filter p (filter q xs)) e ∙ rest ∙ sym (cond-false (p x) (x ∷ filter p xs) (filter p xs) e))
      (λ g. ap (filter p) (cond-false (q x) (x ∷ filter q xs) (filter q xs) g) ∙ rest ∙ sym (cond-false (p x) (x ∷ filter p xs) (filter p xs) e)))

-- an action leaves listeners
pub acted-listeners : {N : Type 0} (a : Action) (cancels : Bool) (s : Dispatching N) → (after_action a cancels s).listeners ≡ s.listeners
acted-listeners Log cancels s = refl
acted-listeners a cancels s = refl

module _ {N : Type 0} (same : N → N → Bool) (e : EventWords) where
  -- a dispatch on its way, with some of its listeners
  abbrev pub narrowed : (Listener N → Bool) → Dispatching N → Dispatching N
  narrowed c s = record s { listeners = filter c s.listeners }

  module _ (c : Listener N → Bool) where
    -- an action does not look at listeners
    acted-narrow : (a : Action) (cancels : Bool) (s : Dispatching N) → narrowed c (after_action a cancels s) ≡ after_action a cancels (narrowed c s)
    acted-narrow Log cancels s = refl
    acted-narrow a cancels s = refl

    -- one that is for once goes from all and from some
    kept-narrow : (l : Listener N) (ls : List (Listener N)) → filter c (kept_after same l ls) ≡ kept_after same l (filter c ls)
    kept-narrow l ls = by l.words.once
      where
        by : (b : Bool) → filter c (if b then with_listener_removed same l.node l.words.event l.words.label l.words.capture ls else ls)
            ≡ (if b then with_listener_removed same l.node l.words.event l.words.label l.words.capture (filter c ls) else filter c ls)
        by true = filter-filter c (λ m. not (is_listener same l.node l.words.event l.words.label l.words.capture m)) ls
        by false = refl

    -- one call
    called-narrow : (v : Visit N) (s : Dispatching N) (l : Listener N) → narrowed c (after_inner_invoke same e v s l) ≡ after_inner_invoke same e v
        (narrowed c s) l
    called-narrow v s l = by s.stopped_now
      where
        by : (b : Bool) → narrowed c (if b then s else after_action l.words.action (may_cancel e l.words)
            (record s { listeners = kept_after same l s.listeners; lines = s.lines ++ line_of v l.words ∷ [] }))
            ≡ (if b then narrowed c s else after_action l.words.action (may_cancel e l.words)
            (record s { listeners = kept_after same l (filter c s.listeners); lines = s.lines ++ line_of v l.words ∷ [] }))
        by true = refl
        by false =
            acted-narrow l.words.action (may_cancel e l.words)
            (record s { listeners = kept_after same l s.listeners; lines = s.lines ++ line_of v l.words ∷ [] })
            ∙ ap (λ ls. after_action l.words.action (may_cancel e l.words)
            (record s { listeners = ls; lines = s.lines ++ line_of v l.words ∷ [] })) (kept-narrow l s.listeners)

    -- the calls of some listeners
    calls-narrow : (v : Visit N) (heard : List (Listener N)) (s : Dispatching N) →
        narrowed c (fold (after_inner_invoke same e v) s heard) ≡ fold (after_inner_invoke same e v) (narrowed c s) heard
    calls-narrow v [] s = refl
    calls-narrow v (l ∷ heard) s = calls-narrow v heard (after_inner_invoke same e v s l) ∙ ap (λ d. fold (after_inner_invoke same e v) d heard)
        (called-narrow v s l)

    -- a visit that only such listeners hear
    pub visited-narrow : (v : Visit N) → ((l : Listener N) → hears same e v l ≡ true → c l ≡ true) → (s : Dispatching N) →
        narrowed c (after_invoke same e s v) ≡ after_invoke same e (narrowed c s) v
    visited-narrow v wider s = by s.stopped
      where
        by : (b : Bool) → narrowed c (if b then s else fold (after_inner_invoke same e v) s (filter (hears same e v) s.listeners))
            ≡ (if b then narrowed c s else fold (after_inner_invoke same e v) (narrowed c s) (filter (hears same e v) (filter c s.listeners)))
        by true = refl
        by false =
            calls-narrow v (filter (hears same e v) s.listeners) s
            ∙ ap (fold (after_inner_invoke same e v) (narrowed c s)) (sym (filter-wider (hears same e v) c wider s.listeners))

  -- ---- the other listeners

  -- a visit that hears only listeners which are apart from those that pass c
  module _ (c : Listener N → Bool) (v : Visit N)
      (apart : (l m : Listener N) → hears same e v l ≡ true → c m ≡ true → is_listener same l.node l.words.event l.words.label l.words.capture m ≡ false) where
    -- one that is for once is none of them
    kept-apart : (l : Listener N) → hears same e v l ≡ true → (ls : List (Listener N)) → filter c (kept_after same l ls) ≡ filter c ls
    kept-apart l h ls = by l.words.once
      where
        by : (b : Bool) → filter c (if b then with_listener_removed same l.node l.words.event l.words.label l.words.capture ls else ls) ≡ filter c ls
        by true = filter-wider c (λ m. not (is_listener same l.node l.words.event l.words.label l.words.capture m)) (λ m k. ap not (apart l m h k)) ls
        by false = refl

    -- one call
    called-apart : (s : Dispatching N) (l : Listener N) → hears same e v l ≡ true → filter c (after_inner_invoke same e v s l).listeners ≡ filter c s.listeners
    called-apart s l h = by s.stopped_now
      where
        by : (b : Bool) → filter c (if b then s else after_action l.words.action (may_cancel e l.words)
            (record s { listeners = kept_after same l s.listeners; lines = s.lines ++ line_of v l.words ∷ [] })).listeners ≡ filter c s.listeners
        by true = refl
        by false = ap (filter c) (acted-listeners l.words.action (may_cancel e l.words)
            (record s { listeners = kept_after same l s.listeners; lines = s.lines ++ line_of v l.words ∷ [] })) ∙ kept-apart l h s.listeners

    -- the calls of listeners that hear
    calls-apart : (heard : List (Listener N)) → AllByRecursion (λ l. hears same e v l ≡ true) heard → (s : Dispatching N) →
        filter c (fold (after_inner_invoke same e v) s heard).listeners ≡ filter c s.listeners
    calls-apart [] h s = refl
    calls-apart (l ∷ heard) h s = calls-apart heard h.1 (after_inner_invoke same e v s l) ∙ called-apart s l h.0

    -- the visit
    pub visited-apart : (s : Dispatching N) → filter c (after_invoke same e s v).listeners ≡ filter c s.listeners
    visited-apart s = by s.stopped
      where
        by : (b : Bool) → filter c (if b then s else fold (after_inner_invoke same e v) s (filter (hears same e v) s.listeners)).listeners
            ≡ filter c s.listeners
        by true = refl
        by false = calls-apart (filter (hears same e v) s.listeners) (all-passed (λ l. hears same e v l ≡ true) (hears same e v) (λ l h. h) s.listeners) s
