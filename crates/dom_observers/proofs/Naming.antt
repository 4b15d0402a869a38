-- The rules over keys, with every key replaced by its name, are the rules over names.
use Rattle.dom_base.proofs.Std.{◌≡◌, ℕ, Bool, true, false, not, ◌&&◌, ◌||◌, cond, eqb, List, [], ◌∷◌, ◌++◌, map, set, Option, Some, None, inl, inr, refl, sym}
use Rattle.dom_base.proofs.Std.{ap, ◌∙◌, subst, slice_get, unwrap_or, option_map, fold, filter, list_any, cond-true, cond-false, cases_eq, eq-eqb, ne_eqb}
use Rattle.dom_base.proofs.Std.{map-append, map-set, slice_get-map, filter_agree}
use Rattle.dom_model.proofs.Model.{NodeName, ObserveWords, name_eq, is_in, append_once, distinct, is_empty, Change, child_list, attributes, character_data}
use Rattle.dom_model.proofs.Model.{Registration, Source, asked_for, copied_from, copied_from_transient, is_transient, target_of, without_old, registrations_on}
use Rattle.dom_model.proofs.Model.{fits, fitting, interested, asks_for, asks_for_old, record_for, transients_for, copied_source, options_of, is_asked_for}
use Rattle.dom_model.proofs.Model.{stems_from, with_options, without_observer, without_transients, name_eq-same, name_eq-other}
use Rattle.dom_tree.specs.Definitions.{name_at, TellApart}
use Rattle.dom_observers.specs.Definitions.{TablesOf, queue_at, named_change, named_source, named_registration, named_tables, IsSourceOf, AreRegistered, AreAll}
use Rattle.dom_observers.specs.Definitions.{IsKey, ObservingLaw, TakenLaw, ToldLaw, LeftLaw, MakingLaw, EmptiedLaw, DisconnectedLaw, NonePendingLaw}
use Rattle.dom_observers.specs.Definitions.{TellingLaw, NotifiedLaw, NoticesLaw}
use Rattle.dom_observers.proofs.Folds.{list_any_of_map}
use Rattle.dom_observers.proofs.Tables.{filter_of_map}

-- names are one where their keys are
same_key : (names : List NodeName) → TellApart names → (j k : ℕ) → IsKey names j → IsKey names k → name_eq (name_at names j) (name_at names k) ≡ eqb j k
same_key names apart j k at_j at_k = elim (cases_eq j k) [
  | inl e ↦ subst (λ (i : ℕ). name_eq (name_at names j) (name_at names i) ≡ eqb j i) e (name_eq-same (name_at names j) ∙ sym (eq-eqb j j refl))
  | inr other ↦ name_eq-other (name_at names j) (name_at names k) (λ e. other (apart j k at_j at_k e)) ∙ sym (ne_eqb j k other)
]

-- what a test keeps, under names
filter-named : (names : List NodeName) (p : Registration ℕ → Bool) (q : Registration NodeName → Bool) (rs : List (Registration ℕ)) →
    AreRegistered (IsKey names) rs
    → ((r : Registration ℕ) → IsKey names r.node → IsSourceOf (IsKey names) r.source → q (named_registration (name_at names) r) ≡ p r)
    → map (named_registration (name_at names)) (filter p rs) ≡ filter q (map (named_registration (name_at names)) rs)
filter-named names p q [] all same = refl
filter-named names p q (r ∷ rs) all same = by (p r) refl (filter-named names p q rs all.2 same) (same r all.0 all.1)
  where
    by : (b : Bool) → p r ≡ b → map (named_registration (name_at names)) (filter p rs) ≡ filter q (map (named_registration (name_at names)) rs) →
        q (named_registration (name_at names) r) ≡ p r
        → map (named_registration (name_at names)) (filter p (r ∷ rs)) ≡ filter q (map (named_registration (name_at names)) (r ∷ rs))
    by true e rest here =
        let f = named_registration (name_at names) in
        ap (map f) (cond-true (p r) (r ∷ filter p rs) (filter p rs) e)
        ∙ (ap (λ list. f r ∷ list) rest ∙ sym (cond-true (q (f r)) (f r ∷ filter q (map f rs)) (filter q (map f rs)) (here ∙ e)))
    by false e rest here =
        let f = named_registration (name_at names) in
        ap (map f) (cond-false (p r) (r ∷ filter p rs) (filter p rs) e)
        ∙ (rest ∙ sym (cond-false (q (f r)) (f r ∷ filter q (map f rs)) (filter q (map f rs)) (here ∙ e)))

-- its registrations are of nodes too
AreRegistered-filter : (names : List NodeName) (p : Registration ℕ → Bool) (rs : List (Registration ℕ)) → AreRegistered (IsKey names) rs →
    AreRegistered (IsKey names) (filter p rs)
AreRegistered-filter names p [] all = tt
AreRegistered-filter names p (r ∷ rs) all = by (p r) refl (AreRegistered-filter names p rs all.2)
  where
    by : (b : Bool) → p r ≡ b → AreRegistered (IsKey names) (filter p rs) → AreRegistered (IsKey names) (filter p (r ∷ rs))
    by true e rest = subst (AreRegistered (IsKey names)) (sym (cond-true (p r) (r ∷ filter p rs) (filter p rs) e)) (all.0, all.1, rest)
    by false e rest = subst (AreRegistered (IsKey names)) (sym (cond-false (p r) (r ∷ filter p rs) (filter p rs) e)) rest

AreRegistered-append : (names : List NodeName) (rs more : List (Registration ℕ)) → AreRegistered (IsKey names) rs →
    AreRegistered (IsKey names) more → AreRegistered (IsKey names) (rs ++ more)
AreRegistered-append names [] more all rest = rest
AreRegistered-append names (r ∷ rs) more all rest = (all.0, all.1, AreRegistered-append names rs more all.2 rest)

AreRegistered-on : (names : List NodeName) (path : List ℕ) (rs : List (Registration ℕ)) → AreRegistered (IsKey names) rs →
    AreRegistered (IsKey names) (registrations_on eqb path rs)
AreRegistered-on names [] rs all = tt
AreRegistered-on names (x ∷ path) rs all =
    AreRegistered-append names (filter (λ r. eqb r.node x) rs) (registrations_on eqb path rs)
    (AreRegistered-filter names (λ r. eqb r.node x) rs all) (AreRegistered-on names path rs all)

-- the registrations on a path
on-named : (names : List NodeName) → TellApart names → (path : List ℕ) (rs : List (Registration ℕ)) → AreRegistered (IsKey names) rs → AreAll (IsKey names) path
    → map (named_registration (name_at names)) (registrations_on eqb path rs) ≡ registrations_on name_eq (map (name_at names) path)
    (map (named_registration (name_at names)) rs)
on-named names apart [] rs all nodes = refl
on-named names apart (x ∷ path) rs all nodes =
    let f = named_registration (name_at names) in
    let rest = registrations_on name_eq (map (name_at names) path) (map f rs) in
    map-append f (filter (λ r. eqb r.node x) rs) (registrations_on eqb path rs)
    ∙ (ap (λ list. list ++ map f (registrations_on eqb path rs))
    (filter-named names (λ r. eqb r.node x) (λ r. name_eq r.node (name_at names x)) rs all (λ r at from. same_key names apart r.node x at nodes.0))
    ∙ ap (λ list. filter (λ r. name_eq r.node (name_at names x)) (map f rs) ++ list) (on-named names apart path rs all nodes.1))

-- whether a registration fits
fits-named : (names : List NodeName) → TellApart names → (c : Change ℕ) (r : Registration ℕ) → IsKey names (target_of c) → IsKey names r.node
    → fits name_eq (named_change (name_at names) c) (named_registration (name_at names) r) ≡ fits eqb c r
fits-named names apart (child_list x added removed before after) r target at =
    ap (λ b. asks_for r.options (child_list x added removed before after) && (b || r.options.subtree)) (same_key names apart r.node x at target)
fits-named names apart (attributes x a old) r target at =
    ap (λ b. asks_for r.options (attributes x a old) && (b || r.options.subtree)) (same_key names apart r.node x at target)
fits-named names apart (character_data x old) r target at =
    ap (λ b. asks_for r.options (character_data x old) && (b || r.options.subtree)) (same_key names apart r.node x at target)

-- their observers are the same
observers-named : (names : List NodeName) (rs : List (Registration ℕ)) →
    map (λ r. r.observer) (map (named_registration (name_at names)) rs) ≡ map (λ r. r.observer) rs
observers-named names [] = refl
observers-named names (r ∷ rs) = ap (λ ks. r.observer ∷ ks) (observers-named names rs)

-- so are those who asked for the old value
old-named : (names : List NodeName) (c : Change ℕ) (k : ℕ) (rs : List (Registration ℕ))
    → list_any (λ r. eqb r.observer k && asks_for_old r.options (named_change (name_at names) c))
    (map (named_registration (name_at names)) rs) ≡ list_any (λ r. eqb r.observer k && asks_for_old r.options c) rs
old-named names (child_list x added removed before after) k rs =
    list_any_of_map (λ r. eqb r.observer k &&
    asks_for_old r.options (child_list (name_at names x) (map (name_at names) added) (map (name_at names) removed)
    (option_map (name_at names) before) (option_map (name_at names) after))) (named_registration (name_at names)) rs
old-named names (attributes x a old) k rs =
    list_any_of_map (λ r. eqb r.observer k && asks_for_old r.options (attributes (name_at names x) a old)) (named_registration (name_at names)) rs
old-named names (character_data x old) k rs =
    list_any_of_map (λ r. eqb r.observer k && asks_for_old r.options (character_data (name_at names x) old)) (named_registration (name_at names)) rs

-- a record with or without its old value
chosen-named : (names : List NodeName) (c : Change ℕ) (b : Bool)
    → named_change (name_at names) (cond b c (without_old c)) ≡ cond b (named_change (name_at names) c) (without_old (named_change (name_at names) c))
chosen-named names c true = refl
chosen-named names (child_list x added removed before after) false = refl
chosen-named names c false = refl

-- What a change says to registrations on a path.
module _ (names : List NodeName) (apart : TellApart names) (path : List ℕ) (rs : List (Registration ℕ)) (c : Change ℕ)
    (all : AreRegistered (IsKey names) rs) (nodes : AreAll (IsKey names) path) (target : IsKey names (target_of c)) where
  -- those that fit
  fitting-named : map (named_registration (name_at names)) (fitting eqb path rs c) ≡ fitting name_eq (map (name_at names) path)
      (map (named_registration (name_at names)) rs) (named_change (name_at names) c)
  fitting-named =
      filter-named names (fits eqb c) (fits name_eq (named_change (name_at names) c)) (registrations_on eqb path rs)
      (AreRegistered-on names path rs all) (λ r at from. fits-named names apart c r target at)
      ∙ ap (filter (fits name_eq (named_change (name_at names) c))) (on-named names apart path rs all nodes)

  -- their observers
  interested-named : interested name_eq (map (name_at names) path) (map (named_registration (name_at names)) rs) (named_change (name_at names) c)
      ≡ interested eqb path rs c
  interested-named =
      ap (λ list. distinct eqb (map (λ r. r.observer) list)) (sym fitting-named)
      ∙ ap (distinct eqb) (observers-named names (fitting eqb path rs c))

  -- the record for each
  record-named : (k : ℕ) → named_change (name_at names) (record_for eqb path rs c k) ≡ record_for name_eq (map (name_at names) path)
      (map (named_registration (name_at names)) rs) (named_change (name_at names) c) k
  record-named k =
      chosen-named names c (list_any (λ r. eqb r.observer k && asks_for_old r.options c) (fitting eqb path rs c))
      ∙ ap (λ b. cond b (named_change (name_at names) c) (without_old (named_change (name_at names) c)))
      (sym (old-named names c k (fitting eqb path rs c))
      ∙ ap (list_any (λ r. eqb r.observer k && asks_for_old r.options (named_change (name_at names) c))) fitting-named)

-- ---- queues

pub queue-named : (names : List NodeName) (queues : List (List (Change ℕ))) (k : ℕ) →
    queue_at (map (map (named_change (name_at names))) queues) k ≡ map (named_change (name_at names)) (queue_at queues k)
queue-named names queues k = ap (λ o. unwrap_or o []) (slice_get-map (map (named_change (name_at names))) queues k) ∙ by (slice_get queues k)
  where
    by : (o : Option (List (Change ℕ))) → unwrap_or (option_map (map (named_change (name_at names))) o) [] ≡ map (named_change (name_at names)) (unwrap_or o [])
    by None = refl
    by (Some q) = refl

-- records behind those of queues
queues-named : (names : List NodeName) (rec : ℕ → Change ℕ) (named : ℕ → Change NodeName) →
    ((k : ℕ) → named_change (name_at names) (rec k) ≡ named k) → (queues : List (List (Change ℕ))) (ks : List ℕ)
    → map (map (named_change (name_at names))) (fold (λ list k. set list k (queue_at list k ++ rec k ∷ [])) queues ks) ≡ fold
    (λ list k. set list k (queue_at list k ++ named k ∷ [])) (map (map (named_change (name_at names))) queues) ks
queues-named names rec named same queues [] = refl
queues-named names rec named same queues (k ∷ ks) =
    let f = named_change (name_at names) in
    queues-named names rec named same (set queues k (queue_at queues k ++ rec k ∷ [])) ks
    ∙ ap (λ list. fold (λ l j. set l j (queue_at l j ++ named j ∷ [])) list ks)
    (map-set (map f) queues k (queue_at queues k ++ rec k ∷ [])
    ∙ ap (set (map (map f) queues) k)
    (map-append f (queue_at queues k) (rec k ∷ [])
    ∙ (ap (λ list. list ++ f (rec k) ∷ []) (sym (queue-named names queues k)) ∙ ap (λ c. queue_at (map (map f) queues) k ++ c ∷ []) (same k))))

-- ---- the laws

pub taken_law : TakenLaw
taken_law names apart t path c all nodes target = ap (λ ks. not (is_empty ks)) (sym (interested-named names apart path t.registrations c all nodes target))

pub told_law : ToldLaw
told_law names apart t path c all nodes target =
    let rs = map (named_registration (name_at names)) t.registrations in
    let who = sym (interested-named names apart path t.registrations c all nodes target) in
    let named = record_for name_eq (map (name_at names) path) rs (named_change (name_at names) c) in
    let queues = queues-named names (record_for eqb path t.registrations c) named
    (record-named names apart path t.registrations c all nodes target) t.record_queues (interested eqb path t.registrations c) in
    let s : TablesOf NodeName = named_tables (name_at names) t in
    ap (λ (list : List (List (Change NodeName))). let built : TablesOf NodeName = record s
    { record_queues = list; pending = fold (append_once eqb) t.pending (interested eqb path t.registrations c) } in built) queues
    ∙ ap (λ (ks : List ℕ). let built : TablesOf NodeName = record s {
      record_queues = fold (λ l j. set l j (queue_at l j ++ named j ∷ [])) s.record_queues ks;
      pending = fold (append_once eqb) t.pending ks;
    } in built) who

-- a transient copy
abbrev transient_copy_of : {N : Type 0} → (N → N → Bool) → N → Registration N → Registration N
transient_copy_of same x r = record { node = x; observer = r.observer; options = r.options; source = copied_source same r }

source-named : (names : List NodeName) (s : Source ℕ) (x : ℕ)
    → named_source (name_at names) (cond (is_transient s) copied_from_transient (copied_from x)) ≡ cond
    (is_transient (named_source (name_at names) s)) copied_from_transient (copied_from (name_at names x))
source-named names (copied_from y) x = refl
source-named names s x = refl

copies-named : (names : List NodeName) (x : ℕ) (rs : List (Registration ℕ))
    → map (named_registration (name_at names)) (map (transient_copy_of eqb x) rs) ≡ map (transient_copy_of name_eq (name_at names x))
    (map (named_registration (name_at names)) rs)
copies-named names x [] = refl
copies-named names x (r ∷ rs) =
    let rest = map (named_registration (name_at names)) (map (transient_copy_of eqb x) rs) in
    ap (λ (s : Source NodeName). let copy : Registration
    NodeName = record { node = name_at names x; observer = r.observer; options = r.options; source = s } in copy ∷ rest)
    (source-named names r.source r.node)
    ∙ ap (λ list. transient_copy_of name_eq (name_at names x) (named_registration (name_at names) r) ∷ list) (copies-named names x rs)

pub left_law : LeftLaw
left_law names apart t x path all nodes node =
    let f = named_registration (name_at names) in
    let s : TablesOf NodeName = named_tables (name_at names) t in
    let on = registrations_on eqb path t.registrations in
    ap (λ (list : List (Registration NodeName)). record s { registrations = list })
    (map-append f t.registrations (transients_for eqb x path t.registrations)
    ∙ ap (λ list. map f t.registrations ++ list)
    (copies-named names x (filter (λ r. r.options.subtree) on)
    ∙ ap (map (transient_copy_of name_eq (name_at names x)))
    (filter-named names (λ r. r.options.subtree) (λ r. r.options.subtree) on (AreRegistered-on names path t.registrations all) (λ r at from. refl)
    ∙ ap (filter (λ r. r.options.subtree)) (on-named names apart path t.registrations all nodes))))

pub making_law : MakingLaw
making_law names t =
    let s : TablesOf NodeName = named_tables (name_at names) t in
    ap (λ (list : List (List (Change NodeName))). record s { record_queues = list }) (map-append (map (named_change (name_at names))) t.record_queues ([] ∷ []))

pub emptied_law : EmptiedLaw
emptied_law names k t =
    let s : TablesOf NodeName = named_tables (name_at names) t in
    ap (λ (list : List (List (Change NodeName))). record s { record_queues = list }) (map-set (map (named_change (name_at names))) t.record_queues k [])

-- ---- the calls of one observer, and notifications

-- a test that reads neither node nor source
filter-blind : (names : List NodeName) (p : Registration ℕ → Bool) (q : Registration NodeName → Bool) →
    ((r : Registration ℕ) → q (named_registration (name_at names) r) ≡ p r) → (rs : List (Registration ℕ))
    → map (named_registration (name_at names)) (filter p rs) ≡ filter q (map (named_registration (name_at names)) rs)
filter-blind names p q same rs =
    ap (map (named_registration (name_at names))) (filter_agree p (λ r. q (named_registration (name_at names) r)) (λ r. sym (same r)) rs) ∙
    filter_of_map q (named_registration (name_at names)) rs

pub disconnected_law : DisconnectedLaw
disconnected_law names k t =
    let s : TablesOf NodeName = named_tables (name_at names) t in
    let queues = map-set (map (named_change (name_at names))) t.record_queues k [] in
    let rs = filter-blind names (λ r. not (eqb r.observer k)) (λ r. not (eqb r.observer k)) (λ r. refl) t.registrations in
    ap (λ (list : List (Registration NodeName)). let built : TablesOf NodeName = record s
    { registrations = list; record_queues = map (map (named_change (name_at names))) (set t.record_queues k []) } in built) rs
    ∙ ap (λ (list : List (List (Change NodeName))). let built : TablesOf NodeName = record s
    { registrations = without_observer k s.registrations; record_queues = list } in built) queues

-- an observer with its records
abbrev notice_at : {N : Type 0} → List (List (Change N)) → ℕ → ℕ × List (Change N)
notice_at queues k = (k, queue_at queues k)

-- an observer with its records under names
abbrev notice_under : List NodeName → ℕ × List (Change ℕ) → ℕ × List (Change NodeName)
notice_under names n = (n.0, map (named_change (name_at names)) n.1)

-- a source is transient or not, whatever its node's name
transient-named : (names : List NodeName) (s : Source ℕ) → is_transient (named_source (name_at names) s) ≡ is_transient s
transient-named names (copied_from x) = refl
transient-named names s = refl

-- without the transient ones of some observers
transients-named : (names : List NodeName) (ks : List ℕ) (rs : List (Registration ℕ))
    → map (named_registration (name_at names)) (without_transients ks rs) ≡ without_transients ks (map (named_registration (name_at names)) rs)
transients-named names ks rs =
    filter-blind names (λ r. not (is_transient r.source && is_in eqb r.observer ks)) (λ r. not (is_transient r.source && is_in eqb r.observer ks))
    (λ r. ap (λ b. not (b && is_in eqb r.observer ks)) (transient-named names r.source)) rs

pub none_pending_law : NonePendingLaw
none_pending_law names t = refl

pub telling_law : TellingLaw
telling_law names k t =
    let s : TablesOf NodeName = named_tables (name_at names) t in
    let queues = map-set (map (named_change (name_at names))) t.record_queues k [] in
    ap (λ (list : List (Registration NodeName)). let built : TablesOf NodeName = record s
    { registrations = list; record_queues = map (map (named_change (name_at names))) (set t.record_queues k []) } in built)
    (transients-named names (k ∷ []) t.registrations)
    ∙ ap (λ (list : List (List (Change NodeName))). let built : TablesOf NodeName = record s
    { registrations = without_transients (k ∷ []) s.registrations; record_queues = list } in built) queues

emptied-named : (names : List NodeName) (queues : List (List (Change ℕ))) (ks : List ℕ)
    → map (map (named_change (name_at names))) (fold (λ list k. set list k []) queues ks) ≡ fold (λ list k. set list k [])
    (map (map (named_change (name_at names))) queues) ks
emptied-named names queues [] = refl
emptied-named names queues (k ∷ ks) =
    emptied-named names (set queues k []) ks ∙ ap (λ list. fold (λ l j. set l j []) list ks) (map-set (map (named_change (name_at names))) queues k [])

pub notified_law : NotifiedLaw
notified_law names t =
    let s : TablesOf NodeName = named_tables (name_at names) t in
    let rs = transients-named names t.pending t.registrations in
    ap (λ (list : List (Registration NodeName)). let built : TablesOf
    NodeName = record {
      registrations = list;
      record_queues = map (map (named_change (name_at names))) (fold (λ l j. set l j []) t.record_queues t.pending);
      pending = [];
    } in built) rs
    ∙ ap (λ (list : List (List (Change NodeName))). let built : TablesOf
    NodeName = record { registrations = without_transients t.pending s.registrations; record_queues = list; pending = [] } in built)
    (emptied-named names t.record_queues t.pending)

notice-named : (names : List NodeName) (queues : List (List (Change ℕ))) (ks : List ℕ)
    → map (notice_under names) (map (notice_at queues) ks) ≡ map (notice_at (map (map (named_change (name_at names))) queues)) ks
notice-named names queues [] = refl
notice-named names queues (k ∷ ks) =
    ap (λ (rs : List (Change NodeName)). (k, rs) ∷ map (notice_under names) (map (notice_at queues) ks)) (sym (queue-named names queues k))
    ∙ ap (λ list. notice_at (map (map (named_change (name_at names))) queues) k ∷ list) (notice-named names queues ks)

pub notices_law : NoticesLaw
notices_law names t = notice-named names t.record_queues t.pending

-- ---- observe()

-- the copies of the registration that was asked for
stems-named : (names : List NodeName) → TellApart names → (x : ℕ) → IsKey names x → (s : Source ℕ) → IsSourceOf (IsKey names) s →
    stems_from name_eq (name_at names x) (named_source (name_at names) s) ≡ stems_from eqb x s
stems-named names apart x node asked_for from = refl
stems-named names apart x node (copied_from y) from = same_key names apart x y node from
stems-named names apart x node copied_from_transient from = refl

-- other options
abbrev with_words : {N : Type 0} → ObserveWords → Registration N → Registration N
with_words o r = record r { options = o }

-- What an observer asked for on a node.
module _ (names : List NodeName) (apart : TellApart names) (k x : ℕ) (node : IsKey names x) where
  -- the registration that was asked for
  asked-named : (r : Registration ℕ) → IsKey names r.node
      → is_asked_for name_eq k (name_at names x) (named_registration (name_at names) r) ≡ is_asked_for eqb k x r
  asked-named r at =
      ap (λ b. eqb r.observer k && (b && not (is_transient (named_source (name_at names) r.source)))) (same_key names apart r.node x at node)
      ∙ ap (λ b. eqb r.observer k && (eqb r.node x && not b)) (transient-named names r.source)

  -- whether it is there
  any-named : (rs : List (Registration ℕ)) → AreRegistered (IsKey names) rs
      → list_any (is_asked_for name_eq k (name_at names x)) (map (named_registration (name_at names)) rs) ≡ list_any (is_asked_for eqb k x) rs
  any-named [] all = refl
  any-named (r ∷ rs) all =
      ap (λ b. b || list_any (is_asked_for name_eq k (name_at names x)) (map (named_registration (name_at names)) rs)) (asked-named r all.0)
      ∙ ap (λ b. is_asked_for eqb k x r || b) (any-named rs all.2)

  -- it gets other options
  options-named : (o : ObserveWords) (rs : List (Registration ℕ)) → AreRegistered (IsKey names) rs
      → map (named_registration (name_at names)) (map (with_options eqb k x o) rs) ≡ map (with_options name_eq k (name_at names x) o)
      (map (named_registration (name_at names)) rs)
  options-named o [] all = refl
  options-named o (r ∷ rs) all =
      let f = named_registration (name_at names) in
      let rest = map f (map (with_options eqb k x o) rs) in
      ap (λ (y : Registration NodeName). y ∷ rest)
      (chosen (is_asked_for eqb k x r) ∙ ap (λ b. cond b (with_words o (f r)) (f r)) (sym (asked-named r all.0)))
      ∙ ap (λ list. with_options name_eq k (name_at names x) o (f r) ∷ list) (options-named o rs all.2)
    where
      chosen : (b : Bool) → named_registration (name_at names) (cond b (with_words o r) r) ≡ cond b
          (with_words o (named_registration (name_at names) r)) (named_registration (name_at names) r)
      chosen true = refl
      chosen false = refl

pub observing_law : ObservingLaw
observing_law names apart t k x w all node =
    let f = named_registration (name_at names) in
    let o = options_of w in
    let s : TablesOf NodeName = named_tables (name_at names) t in
    let kept = filter (λ r. not (eqb r.observer k && stems_from eqb x r.source)) t.registrations in
    let fresh : Registration ℕ = record { node = x; observer = k; options = o; source = asked_for } in
    let more = options-named names apart k x node o kept
    (AreRegistered-filter names (λ r. not (eqb r.observer k && stems_from eqb x r.source)) t.registrations all)
    ∙ ap (map (with_options name_eq k (name_at names x) o))
    (filter-named names (λ r. not (eqb r.observer k && stems_from eqb x r.source))
    (λ r. not (eqb r.observer k && stems_from name_eq (name_at names x) r.source)) t.registrations all
    (λ r at from. ap (λ b. not (eqb r.observer k && b)) (stems-named names apart x node r.source from))) in
    ap (λ (list : List (Registration NodeName)). record s { registrations = list })
    (split (list_any (is_asked_for eqb k x) t.registrations) (map (with_options eqb k x o) kept) (t.registrations ++ fresh ∷ []) more
    (map-append f t.registrations (fresh ∷ []))
    ∙ ap (λ b. cond b (map (with_options name_eq k (name_at names x) o)
    (filter (λ r. not (eqb r.observer k && stems_from name_eq (name_at names x) r.source)) (map f t.registrations)))
    (map f t.registrations ++ f fresh ∷ []))
    (sym (any-named names apart k x node t.registrations all)))
  where
    split : (b : Bool) (xs ys : List (Registration ℕ)) {us vs : List (Registration NodeName)} → map (named_registration (name_at names)) xs ≡ us →
        map (named_registration (name_at names)) ys ≡ vs
        → map (named_registration (name_at names)) (cond b xs ys) ≡ cond b us vs
    split true xs ys e g = e
    split false xs ys e g = g
