-- The nodes that an owner's registrations and records name: they stay of P after each call, and where two namings agree on
-- P the tables are the same in names.
use Rattle.dom_base.proofs.Std.{◌≡◌, ℕ, zero, suc, Bool, true, false, not, cond, ◌&&◌, ◌==◌, List, [], ◌∷◌, ◌++◌, map, Option, Some, None, refl, ap, subst, ◌∙◌}
use Rattle.dom_base.proofs.Std.{nat_eq, slice_get, slice_set, option_map, unwrap_or, if◌then◌else◌, fold, filter, list_any, ForSome}
use Rattle.dom_model.proofs.Model.{is_in, ObserveWords, Change, child_list, attributes, character_data, Registration, Source, asked_for, copied_from}
use Rattle.dom_model.proofs.Model.{copied_from_transient, is_transient, without_old, registrations_on, record_for, interested, transients_for, copied_source}
use Rattle.dom_model.proofs.Model.{options_of, is_asked_for, stems_from, with_options, with_registration, without_transients, fitting, asks_for_old}
use Rattle.dom_observers.specs.Definitions.{TablesOf, no_tables, queue_at, with_observer, emptied, disconnected, observing, told, left, notified}
use Rattle.dom_observers.specs.Definitions.{none_pending, after_telling, named_change, named_source, named_registration, named_tables}
use Rattle.dom_observers.specs.Definitions.{IsSourceOf, AreRegistered, AreAll, IsChangeAt, SpeaksOf}

-- ---- lists

module _ {X : Type 0} (P : X → Type 0) where
  all_pushed : (xs : List X) (x : X) → AreAll P xs → P x → AreAll P (xs ++ x ∷ [])
  all_pushed [] x all one = (one, tt)
  all_pushed (y ∷ ys) x all one = (all.0, all_pushed ys x all.1 one)

  all_set : (xs : List X) (k : ℕ) (x : X) → AreAll P xs → P x → AreAll P (slice_set xs k x)
  all_set [] k x all one = tt
  all_set (y ∷ ys) zero x all one = (one, all.1)
  all_set (y ∷ ys) (suc k) x all one = (all.0, all_set ys k x all.1 one)

  -- what holds of all that is there holds of the one that is got
  pub all_got : (xs : List X) (k : ℕ) (x : X) → AreAll P xs → slice_get xs k ≡ Some x → P x
  all_got [] k x all e = cc
  all_got (y ∷ ys) zero x all e = let same : y ≡ x = cc in subst P same all.0
  all_got (y ∷ ys) (suc k) x all e = all_got ys k x all.1 e

-- one of many queues
pub all_queued : {X : Type 0} (P : X → Type 0) (queues : List (List X)) (k : ℕ) → AreAll (AreAll P) queues → AreAll P (unwrap_or (slice_get queues k) [])
all_queued P [] k all = tt
all_queued P (q ∷ queues) zero all = all.0
all_queued P (q ∷ queues) (suc k) all = all_queued P queues k all.1

module _ {M : Type 0} (P : M → Type 0) where
  -- ---- registrations

  registered_append : (rs more : List (Registration M)) → AreRegistered P rs → AreRegistered P more → AreRegistered P (rs ++ more)
  registered_append [] more all rest = rest
  registered_append (r ∷ rs) more all rest = (all.0, all.1, registered_append rs more all.2 rest)

  registered_filter : (p : Registration M → Bool) (rs : List (Registration M)) → AreRegistered P rs → AreRegistered P (filter p rs)
  registered_filter p [] all = tt
  registered_filter p (r ∷ rs) all = by (p r) (registered_filter p rs all.2)
    where
      by : (b : Bool) → AreRegistered P (filter p rs) → AreRegistered P (cond b (r ∷ filter p rs) (filter p rs))
      by true rest = (all.0, all.1, rest)
      by false rest = rest

  registered_on : (same : M → M → Bool) (path : List M) (rs : List (Registration M)) → AreRegistered P rs → AreRegistered P (registrations_on same path rs)
  registered_on same [] rs all = tt
  registered_on same (x ∷ path) rs all =
      registered_append (filter (λ (r : Registration M). same r.node x) rs) (registrations_on same path rs)
      (registered_filter (λ (r : Registration M). same r.node x) rs all) (registered_on same path rs all)

  -- What an observer asks for on a node.
  module _ (same : M → M → Bool) (k : ℕ) (x : M) (o : ObserveWords) where
    -- one with other options
    renewed : (rs : List (Registration M)) → AreRegistered P rs → AreRegistered P (map (with_options same k x o) rs)
    renewed [] all = tt
    renewed (r ∷ rs) all = by (is_asked_for same k x r) (renewed rs all.2)
      where
        by : (b : Bool) → AreRegistered P (map (with_options same k x o) rs) →
            AreRegistered P ((if b then record r { options = o } else r) ∷ map (with_options same k x o) rs)
        by true rest = (all.0, all.1, rest)
        by false rest = (all.0, all.1, rest)

    -- its registration, new or with other options
    registered_new : (rs : List (Registration M)) → AreRegistered P rs → P x → AreRegistered P (with_registration same k x o rs)
    registered_new rs all one = by (list_any (is_asked_for same k x) rs)
      where
        stays : Registration M → Bool
        stays r = not ((r.observer == k) && stems_from same x r.source)

        by : (b : Bool) → AreRegistered P (if b then map (with_options same k x o) (filter stays rs) else rs ++
            record { node = x; observer = k; options = o; source = asked_for } ∷ [])
        by true = renewed (filter stays rs) (registered_filter stays rs all)
        by false = registered_append rs (record { node = x; observer = k; options = o; source = asked_for } ∷ []) all (one, tt, tt)

  -- transient ones
  copies : (same : M → M → Bool) (x : M) (rs : List (Registration M)) → AreRegistered P rs → P x
      → AreRegistered P (map (λ (r : Registration M). record { node = x; observer = r.observer; options = r.options; source = copied_source same r }) rs)
  copies same x [] all one = tt
  copies same x (r ∷ rs) all one = (one, by (is_transient r.source), copies same x rs all.2 one)
    where
      by : (b : Bool) → IsSourceOf P (if b then copied_from_transient else copied_from r.node)
      by true = tt
      by false = all.0

  -- ---- queues

  -- a record has the nodes of its change
  record_speaks : (c : Change M) → IsChangeAt P c → (b : Bool) → IsChangeAt P (if b then c else without_old c)
  record_speaks c h true = h
  record_speaks (child_list x added removed before after) h false = h
  record_speaks c h false = h

  given_all : (add : ℕ → Change M) → ((k : ℕ) → IsChangeAt P (add k)) → (ks : List ℕ) (queues : List (List (Change M))) → AreAll (AreAll (IsChangeAt P)) queues
      → AreAll (AreAll (IsChangeAt P)) (fold (λ qs k. slice_set qs k (queue_at qs k ++ add k ∷ [])) queues ks)
  given_all add each [] queues all = all
  given_all add each (k ∷ ks) queues all =
      given_all add each ks (slice_set queues k (queue_at queues k ++ add k ∷ []))
      (all_set (AreAll (IsChangeAt P)) queues k (queue_at queues k ++ add k ∷ []) all
      (all_pushed (IsChangeAt P) (queue_at queues k) (add k) (all_queued (IsChangeAt P) queues k all) (each k)))

  emptied_all : (ks : List ℕ) (queues : List (List (Change M))) → AreAll (AreAll (IsChangeAt P)) queues →
      AreAll (AreAll (IsChangeAt P)) (fold (λ qs k. slice_set qs k []) queues ks)
  emptied_all [] queues all = all
  emptied_all (k ∷ ks) queues all = emptied_all ks (slice_set queues k []) (all_set (AreAll (IsChangeAt P)) queues k [] all tt)

  -- ---- the calls

  pub speaks_none : SpeaksOf P no_tables
  speaks_none = record { registrations = tt; records = tt }

  pub speaks_made : (t : TablesOf M) → SpeaksOf P t → SpeaksOf P (with_observer t)
  speaks_made t h = record { registrations = h.registrations; records = all_pushed (AreAll (IsChangeAt P)) t.record_queues [] h.records tt }

  pub speaks_emptied : (k : ℕ) (t : TablesOf M) → SpeaksOf P t → SpeaksOf P (emptied k t)
  speaks_emptied k t h = record { registrations = h.registrations; records = all_set (AreAll (IsChangeAt P)) t.record_queues k [] h.records tt }

  pub speaks_disconnected : (k : ℕ) (t : TablesOf M) → SpeaksOf P t → SpeaksOf P (disconnected k t)
  speaks_disconnected k t h = record {
    registrations = registered_filter (λ (r : Registration M). not (r.observer == k)) t.registrations h.registrations;
    records = all_set (AreAll (IsChangeAt P)) t.record_queues k [] h.records tt;
  }

  speaks_without : (ks : List ℕ) (rs : List (Registration M)) → AreRegistered P rs → AreRegistered P (without_transients ks rs)
  speaks_without ks rs = registered_filter (λ (r : Registration M). not (is_transient r.source && is_in nat_eq r.observer ks)) rs

  pub speaks_none_pending : (t : TablesOf M) → SpeaksOf P t → SpeaksOf P (none_pending t)
  speaks_none_pending t h = record { registrations = h.registrations; records = h.records }

  pub speaks_telling : (k : ℕ) (t : TablesOf M) → SpeaksOf P t → SpeaksOf P (after_telling k t)
  speaks_telling k t h = record {
    registrations = speaks_without (k ∷ []) t.registrations h.registrations;
    records = all_set (AreAll (IsChangeAt P)) t.record_queues k [] h.records tt;
  }

  pub speaks_notified : (t : TablesOf M) → SpeaksOf P t → SpeaksOf P (notified t)
  speaks_notified t h = record {
    registrations = speaks_without t.pending t.registrations h.registrations;
    records = emptied_all t.pending t.record_queues h.records;
  }

  -- those that compare nodes
  module _ (same : M → M → Bool) where
    pub speaks_observing : (k : ℕ) (x : M) (w : ObserveWords) (t : TablesOf M) → SpeaksOf P t → P x → SpeaksOf P (observing same k x w t)
    speaks_observing k x w t h one = record {
      registrations = registered_new same k x (options_of w) t.registrations h.registrations one;
      records = h.records;
    }

    pub speaks_left : (x : M) (path : List M) (t : TablesOf M) → SpeaksOf P t → P x → SpeaksOf P (left same x path t)
    speaks_left x path t h one =
        let below : Registration M → Bool = λ r. r.options.subtree in
        let on = registrations_on same path t.registrations in
        record {
          registrations = registered_append t.registrations (transients_for same x path t.registrations) h.registrations
              (copies same x (filter below on) (registered_filter below on (registered_on same path t.registrations h.registrations)) one);
          records = h.records;
        }

    pub speaks_told : (path : List M) (c : Change M) (t : TablesOf M) → SpeaksOf P t → IsChangeAt P c → SpeaksOf P (told same path c t)
    speaks_told path c t h one = record {
      registrations = h.registrations;
      records = given_all (record_for same path t.registrations c)
          (λ k. record_speaks c one (list_any (λ (r : Registration M). (r.observer == k) && asks_for_old r.options c) (fitting same path t.registrations c)))
          (interested same path t.registrations c) t.record_queues h.records;
    }

-- ---- names

module _ {M N : Type 0} (P : M → Type 0) (f g : M → N) (same : (x : M) → P x → f x ≡ g x) where
  same_all : (xs : List M) → AreAll P xs → map f xs ≡ map g xs
  same_all [] all = refl
  same_all (x ∷ xs) all = ap (λ y. y ∷ map f xs) (same x all.0) ∙ ap (λ ys. g x ∷ ys) (same_all xs all.1)

  same_if : (o : Option M) → ForSome o P → option_map f o ≡ option_map g o
  same_if None h = refl
  same_if (Some x) h = ap Some (same x (h x refl))

  same_change : (c : Change M) → IsChangeAt P c → named_change f c ≡ named_change g c
  same_change (child_list x added removed before after) h =
      let target = same x h.0 in
      let plus = same_all added h.1 in
      let minus = same_all removed h.2 in
      let first = same_if before h.3 in
      let last = same_if after h.4 in
      λ j. child_list (target j) (plus j) (minus j) (first j) (last j)
  same_change (attributes x a old) h = ap (λ y. attributes y a old) (same x h)
  same_change (character_data x old) h = ap (λ y. character_data y old) (same x h)

  same_queue : (cs : List (Change M)) → AreAll (IsChangeAt P) cs → map (named_change f) cs ≡ map (named_change g) cs
  same_queue [] all = refl
  same_queue (c ∷ cs) all = ap (λ d. d ∷ map (named_change f) cs) (same_change c all.0) ∙ ap (λ ds. named_change g c ∷ ds) (same_queue cs all.1)

  same_queues : (queues : List (List (Change M))) → AreAll (AreAll (IsChangeAt P)) queues →
      map (map (named_change f)) queues ≡ map (map (named_change g)) queues
  same_queues [] all = refl
  same_queues (q ∷ queues) all = ap (λ r. r ∷ map (map (named_change f)) queues) (same_queue q all.0) ∙
      ap (λ rs. map (named_change g) q ∷ rs) (same_queues queues all.1)

  same_source : (s : Source M) → IsSourceOf P s → named_source f s ≡ named_source g s
  same_source asked_for h = refl
  same_source (copied_from x) h = ap copied_from (same x h)
  same_source copied_from_transient h = refl

  same_registrations : (rs : List (Registration M)) → AreRegistered P rs → map (named_registration f) rs ≡ map (named_registration g) rs
  same_registrations [] all = refl
  same_registrations (r ∷ rs) all =
      let node = same r.node all.0 in
      let source = same_source r.source all.1 in
      let rest = same_registrations rs all.2 in
      λ j. record { node = node j; observer = r.observer; options = r.options; source = source j } ∷ rest j

  -- tables that name nodes of P alone
  pub same_tables : (t : TablesOf M) → SpeaksOf P t → named_tables f t ≡ named_tables g t
  same_tables t h =
      let registrations = same_registrations t.registrations h.registrations in
      let records = same_queues t.record_queues h.records in
      λ j. record { registrations = registrations j; record_queues = records j; pending = t.pending }

-- nodes of more
module _ {M : Type 0} (P Q : M → Type 0) (more : (x : M) → P x → Q x) where
  more_all : (xs : List M) → AreAll P xs → AreAll Q xs
  more_all [] all = tt
  more_all (x ∷ xs) all = (more x all.0, more_all xs all.1)

  more_change : (c : Change M) → IsChangeAt P c → IsChangeAt Q c
  more_change (child_list x added removed before after) h =
      (more x h.0, more_all added h.1, more_all removed h.2, λ y e. more y (h.3 y e), λ y e. more y (h.4 y e))
  more_change (attributes x a old) h = more x h
  more_change (character_data x old) h = more x h

  more_queue : (cs : List (Change M)) → AreAll (IsChangeAt P) cs → AreAll (IsChangeAt Q) cs
  more_queue [] all = tt
  more_queue (c ∷ cs) all = (more_change c all.0, more_queue cs all.1)

  more_queues : (queues : List (List (Change M))) → AreAll (AreAll (IsChangeAt P)) queues → AreAll (AreAll (IsChangeAt Q)) queues
  more_queues [] all = tt
  more_queues (q ∷ queues) all = (more_queue q all.0, more_queues queues all.1)

  more_source : (s : Source M) → IsSourceOf P s → IsSourceOf Q s
  more_source asked_for h = tt
  more_source (copied_from x) h = more x h
  more_source copied_from_transient h = tt

  more_registrations : (rs : List (Registration M)) → AreRegistered P rs → AreRegistered Q rs
  more_registrations [] all = tt
  more_registrations (r ∷ rs) all = (more r.node all.0, more_source r.source all.1, more_registrations rs all.2)

  pub speaks_more : (t : TablesOf M) → SpeaksOf P t → SpeaksOf Q t
  speaks_more t h = record { registrations = more_registrations t.registrations h.registrations; records = more_queues t.record_queues h.records }
