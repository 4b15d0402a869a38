-- Slots that are signalled, one after another, by their keys as by their names.
use Rattle.dom_base.proofs.Std.{◌≡◌, ℕ, ◌+◌, ◌<◌, Bool, true, false, ◌||◌, inl, inr, Result, List, [], ◌∷◌, ◌++◌, map, fold, take, length, get_or, unwrap_or}
use Rattle.dom_base.proofs.Std.{refl, sym, ap, subst, ◌∙◌, if◌then◌else◌, OnOk, AllByRecursion, cases_Bool, All-head, All-tail, take_more, map-append}
use Rattle.dom_base.proofs.Std.{fold-append, on_ok_weaker, slice_get_within, unwrap_or-slice_get}
use Rattle.dom_model.proofs.Model.{NodeName, Page, name_eq, node_of, append_once, is_in, Trees, name_eq-true}
use Rattle.dom_slots.specs.declared.step.Step.{Step}
use Rattle.dom_slots.specs.declared.step.SlotChange.{SlotChange}
use Rattle.dom_tree.specs.Definitions.{NamedTrees, name_at}
use Rattle.dom_mutation.specs.declared.node_trees.steps.NodeTrees.{NodeTrees}
use Rattle.dom_mutation.specs.Signalled.{AreNames, HasStepped}
use Rattle.dom_mutation.proofs.NamesByKey.{key_of_name}

-- one item more of a fold over the names of keys
module _ {Y : Type 0} (f : Y → NodeName → Y) (z : Y) (names : List NodeName) where
  pub fold_next : (keys : List ℕ) (i : ℕ) {k : ℕ} → i < length keys → k ≡ get_or keys i k →
      fold f z (map (name_at names) (take (i + 1) keys)) ≡ f (fold f z (map (name_at names) (take i keys))) (name_at names k)
  fold_next keys i {k} within is =
      ap (λ ks. fold f z (map (name_at names) ks)) (take_more keys i k within)
      ∙ (ap (fold f z) (map-append (name_at names) (take i keys) (get_or keys i k ∷ []))
      ∙ (fold-append f z (map (name_at names) (take i keys)) (name_at names (get_or keys i k) ∷ [])
      ∙ ap (λ j. f (fold f z (map (name_at names) (take i keys))) (name_at names j)) (sym is)))

-- what holds of all of some names and others, each once, holds of both
module _ (P : NodeName → Type 0) where
  found : (xs : List NodeName) (x : NodeName) → is_in name_eq x xs ≡ true → AllByRecursion P xs → P x
  found [] x e all = cc
  found (y ∷ xs) x e all = elim (cases_Bool (name_eq x y)) [
    | inl same ↦ subst P (sym (name_eq-true x y same)) all.0
    | inr other ↦ found xs x (sym (ap (λ b. b || is_in name_eq x xs) other) ∙ e) all.1
  ]

  ending : (xs : List NodeName) (x : NodeName) → AllByRecursion P (xs ++ x ∷ []) → AllByRecursion P xs × P x
  ending [] x all = (tt, all.0)
  ending (y ∷ xs) x all = let rest = ending xs x all.1 in ((all.0, rest.0), rest.1)

  appended : (xs : List NodeName) (x : NodeName) → AllByRecursion P (append_once name_eq xs x) → AllByRecursion P xs × P x
  appended xs x = by (is_in name_eq x xs) refl
    where
      by : (b : Bool) → is_in name_eq x xs ≡ b → AllByRecursion P (if b then xs else xs ++ x ∷ []) → AllByRecursion P xs × P x
      by true e all = (all, found xs x e all)
      by false e all = ending xs x all

  pub all_appended : (xs more : List NodeName) → AllByRecursion P (fold (append_once name_eq) xs more) → AllByRecursion P xs × AllByRecursion P more
  all_appended xs [] all = (all, tt)
  all_appended xs (x ∷ more) all =
      let rest = all_appended (append_once name_eq xs x) more all in
      let here = appended xs x rest.0 in (here.0, (here.1, rest.1))

-- what holds of each node's name holds of names of nodes
pub all_named : (P : NodeName → Type 0) (names : List NodeName) → ((k : ℕ) → k < length names → P (name_at names k)) → (xs : List NodeName) →
    AreNames names xs → AllByRecursion P xs
all_named P names each [] all = tt
all_named P names each (x ∷ xs) all =
    let key = key_of_name names x (All-head (λ y. is_in name_eq y names ≡ true) x xs all) in
    let is = sym (unwrap_or-slice_get names key.0 (node_of Page 0)) ∙ ap (λ o. unwrap_or o (node_of Page 0)) key.1 in (
      subst P is (each key.0 (slice_get_within names key.0 x key.1)),
      all_named P names each xs (All-tail (λ y. is_in name_eq y names ≡ true) x xs all),
    )

-- the end of a step that was begun with some trees, and led to others, is that of the step
module _ (old : NodeTrees) (g : NamedTrees) (c : SlotChange) {step : Step} (same : c.step ≡ step) (names : g.names ≡ old.forest.names) where
  pub stepped : {E : Type 0} (r : Result (Unit {0}) E) {trees : Trees} (after : NodeTrees) → g.trees ≡ trees
      → OnOk r (HasStepped c.step g.trees (record old { forest = record { names = g.names; trees = old.forest.trees } }) after)
      → OnOk r (HasStepped step trees old after)
  stepped r {trees} after is =
      on_ok_weaker r (λ h. subst (λ ts. HasStepped step ts old after) is (subst (λ s. HasStepped s g.trees old after) same
      (subst (λ ns. HasStepped c.step g.trees (record old { forest = record { names = ns; trees = old.forest.trees } }) after) names h)))
