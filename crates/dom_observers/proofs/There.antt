-- Registrations stay of observers that were made.
use Rattle.dom_base.proofs.Std.{◌≡◌, ℕ, ◌<◌, ◌≤◌, Bool, true, false, not, ◌&&◌, ◌==◌, List, [], ◌∷◌, ◌++◌, map, length, arith, refl, sym, ap, subst, ◌∙◌}
use Rattle.dom_base.proofs.Std.{nat_eq, is_some, slice_set, if◌then◌else◌, All, filter, fold, list_any, length-append, length-set, All-nil, All-append}
use Rattle.dom_base.proofs.Std.{All-push, All-filter, All-map, All-weaker, slice_get_within, get_or_from_slice_get, slice_get-get_or}
use Rattle.dom_model.proofs.Model.{Owner, owner_eq, is_in, ObserveWords, Change, Registration, asked_for, registrations_on, copied_source, options_of}
use Rattle.dom_model.proofs.Model.{is_asked_for, is_transient, stems_from, with_options, with_registration, without_transients, transients_for, interested}
use Rattle.dom_model.proofs.Model.{record_for}
use Rattle.dom_observers.specs.Definitions.{tables_of, ChangesTables, TablesOf, disconnected, queue_at, TablesByOwner, AreMade, NoneThere, SameThere, HasThere}
use Rattle.dom_observers.specs.Definitions.{MadeThere, ObservingThere, DisconnectedThere, EmptiedThere, ToldThere, LeftThere, NotifiedThere}
use Rattle.dom_observers.specs.Definitions.{NonePendingThere, TellingThere}
use Rattle.dom_observers.specs.There.{AreThere}

-- ---- lists

-- as many queues as before
length-each_set : {X : Type 0} (g : List X → ℕ → X) (ks : List ℕ) (xs : List X) → length (fold (λ ys k. slice_set ys k (g ys k)) xs ks) ≡ length xs
length-each_set g [] xs = refl
length-each_set g (k ∷ ks) xs = length-each_set g ks (slice_set xs k (g xs k)) ∙ length-set xs k (g xs k)

-- registrations of so many observers
module _ (n : ℕ) where
  abbrev IsOf : Registration ℕ → Type 0
  IsOf r = r.observer < n

  on-path : (path : List ℕ) (rs : List (Registration ℕ)) → All IsOf rs → All IsOf (registrations_on nat_eq path rs)
  on-path [] rs all = All-nil IsOf
  on-path (x ∷ path) rs all =
      All-append IsOf (filter (λ (r : Registration ℕ). nat_eq r.node x) rs) (registrations_on nat_eq path rs)
      (All-filter (λ (r : Registration ℕ). nat_eq r.node x) IsOf rs all) (on-path path rs all)

  -- one that was asked for, new or with other options
  on-asking : (k x : ℕ) (o : ObserveWords) (rs : List (Registration ℕ)) → k < n → All IsOf rs → All IsOf (with_registration nat_eq k x o rs)
  on-asking k x o rs one all = by (list_any (is_asked_for nat_eq k x) rs)
    where
      stays : Registration ℕ → Bool
      stays r = not ((r.observer == k) && stems_from nat_eq x r.source)

      same : (r : Registration ℕ) (b : Bool) → IsOf r → IsOf (if b then record r { options = o } else r)
      same r true h = h
      same r false h = h

      by : (b : Bool) → All IsOf (if b then map (with_options nat_eq k x o) (filter stays rs) else rs ++
          record { node = x; observer = k; options = o; source = asked_for } ∷ [])
      by true =
          All-map IsOf (with_options nat_eq k x o) (filter stays rs)
          (All-weaker IsOf (λ r. IsOf (with_options nat_eq k x o r)) (λ r h. same r (is_asked_for nat_eq k x r) h) (filter stays rs)
          (All-filter stays IsOf rs all))
      by false = All-push IsOf rs (record { node = x; observer = k; options = o; source = asked_for }) all one

  -- with the transient ones of a node that leaves
  on-leaving : (x : ℕ) (path : List ℕ) (rs : List (Registration ℕ)) → All IsOf rs → All IsOf (rs ++ transients_for nat_eq x path rs)
  on-leaving x path rs all =
      let copy : Registration ℕ → Registration ℕ =
      λ r. record { node = x; observer = r.observer; options = r.options; source = copied_source nat_eq r } in
      let below : Registration ℕ → Bool = λ r. r.options.subtree in
      All-append IsOf rs (transients_for nat_eq x path rs) all
      (All-map IsOf copy (filter below (registrations_on nat_eq path rs))
      (All-filter below IsOf (registrations_on nat_eq path rs) (on-path path rs all)))

-- ---- one owner's tables

-- no fewer observers
more-made : (rs : List (Registration ℕ)) (m n : ℕ) → m ≤ n → All (IsOf m) rs → All (IsOf n) rs
more-made rs m n more all = All-weaker (IsOf m) (IsOf n) (λ r h. omega (arith, h, more)) rs all

-- one owner's tables are new
module _ (was now : TablesByOwner) (o : Owner) (there : AreThere was) where
  owner-changed : (t : TablesOf ℕ) → AreMade t → ChangesTables o t was now → AreThere now
  owner-changed t new change p = subst AreMade (sym (change p)) (by (owner_eq o p))
    where
      by : (b : Bool) → AreMade (if b then t else tables_of was p)
      by true = new
      by false = there p

-- ---- what a caller takes from it, and gives

pub none-there : NoneThere
none-there all e o = subst AreMade (sym (e o)) (All-nil (IsOf 0))

pub same-there : SameThere
same-there was now there same o = subst AreMade (sym (same o)) (there o)

pub has-there : HasThere
has-there all there o k r e =
    let t = tables_of all o in
    let within = slice_get_within t.registrations k r e in
    let made : IsOf (length t.record_queues) r =
    subst (IsOf (length t.record_queues)) (get_or_from_slice_get t.registrations k r r e) (there o k r within) in
    ap is_some (slice_get-get_or t.record_queues r.observer [] made)

-- ---- the calls

pub made-there : MadeThere
made-there was now o there =
    let t = tables_of was o in
    owner-changed was now o there _
    (more-made t.registrations (length t.record_queues) (length (t.record_queues ++ [] ∷ []))
    (let e = length-append t.record_queues ([] ∷ []) in omega (arith, e)) (there o))

pub observing-there : ObservingThere
observing-there was now o k x w there made =
    let t = tables_of was o in
    owner-changed was now o there _ (on-asking (length t.record_queues) k x (options_of w) t.registrations made (there o))

-- with queues of the same number
abbrev OfSo : ℕ → List (Registration ℕ) → Type 0
OfSo n rs = All (IsOf n) rs

pub emptied-there : EmptiedThere
emptied-there was now o k there =
    let t = tables_of was o in
    owner-changed was now o there _ (subst (λ n. OfSo n t.registrations) (sym (length-set t.record_queues k [])) (there o))

pub disconnected-there : DisconnectedThere
disconnected-there was now o k there here = owner-changed was now o here _ (by there)
  where
    by : (b : Bool) → AreMade (if b then disconnected k (tables_of was o) else tables_of was o)
    by true =
        let t = tables_of was o in
        let others : Registration ℕ → Bool = λ r. not (r.observer == k) in
        subst (λ n. OfSo n (filter others t.registrations)) (sym (length-set t.record_queues k []))
        (All-filter others (IsOf (length t.record_queues)) t.registrations (here o))
    by false = here o

pub told-there : ToldThere
told-there was now o path c there =
    let t = tables_of was o in
    let add : List (List (Change ℕ)) → ℕ → List (Change ℕ) =
    λ queues k. queue_at queues k ++ record_for nat_eq path t.registrations c k ∷ [] in
    owner-changed was now o there _
    (subst (λ n. OfSo n t.registrations) (sym (length-each_set add (interested nat_eq path t.registrations c) t.record_queues)) (there o))

pub left-there : LeftThere
left-there was now o x path there =
    let t = tables_of was o in
    owner-changed was now o there _ (on-leaving (length t.record_queues) x path t.registrations (there o))

-- without the transient ones of some observers
made-without : (n : ℕ) (ks : List ℕ) (rs : List (Registration ℕ)) → All (IsOf n) rs → All (IsOf n) (without_transients ks rs)
made-without n ks rs = All-filter (λ (r : Registration ℕ). not (is_transient r.source && is_in nat_eq r.observer ks)) (IsOf n) rs

pub notified-there : NotifiedThere
notified-there was now o there =
    let t = tables_of was o in
    owner-changed was now o there _
    (subst (λ n. OfSo n (without_transients t.pending t.registrations)) (sym (length-each_set (λ queues k. []) t.pending t.record_queues))
    (made-without (length t.record_queues) t.pending t.registrations (there o)))

pub none-pending-there : NonePendingThere
none-pending-there was now o there = owner-changed was now o there _ (there o)

pub telling-there : TellingThere
telling-there was now o k there =
    let t = tables_of was o in
    owner-changed was now o there _
    (subst (λ n. OfSo n (without_transients (k ∷ []) t.registrations)) (sym (length-set t.record_queues k []))
    (made-without (length t.record_queues) (k ∷ []) t.registrations (there o)))
