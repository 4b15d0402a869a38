-- The lists of the old and of the new slot of a node, where all others stay.
use Rattle.dom_base.proofs.Std.{◌≡◌, ℕ, ◌<◌, Bool, false, not, ◌||◌, List, [], ◌++◌, All, map, filter, length, Option, None, Some, refl, sym, ap, subst, ◌∙◌}
use Rattle.dom_base.proofs.Std.{true≢false, nat_eq, option_to_list, option_map, option_eq, ForSome, eqb-true, eq-eqb, false_from_ne_true, append-nil}
use Rattle.dom_base.proofs.Std.{filter-append}
use Rattle.dom_model.proofs.Model.{NodeName, name_eq, is_in}
use Rattle.dom_tree.specs.Definitions.{NamedTrees, name_at, TellApart}
use Rattle.node_arena.specs.Nodes.{without}
use Rattle.node_arena.specs.contracts.key.KeyPartialEq.TheImpl as KeyImpl
use Rattle.dom_slots.specs.Definitions.{ShadowHost, own_slots, AreRenewed, IsButFor, names_but, shadows, slot_at, assigned_at, step_node, SlotTable, list_of}
use Rattle.dom_slots.specs.declared.step.Step.{Step}
use Rattle.dom_slots.proofs.Assigned.{slot-assigned}
use Rattle.dom_slots.proofs.Hosted.{key-test, named-key}
use Rattle.dom_slots.proofs.Leaving.{without-named, without-same, list_same}
use Rattle.dom_slots.proofs.Renewing.{renewed-stays}
use Rattle.dom_slots.proofs.Shortened.{but-none}

module _ (f : NamedTrees) (distinct : TellApart f.names) (hosts : List ShadowHost) (step : Step) (node : step_node step < length f.names)
    (old_slot new_slot : Option ℕ)
    (new_node : ForSome new_slot (λ k. k < length f.names))
    (own : option_map (name_at f.names) new_slot ≡ slot_at (shadows f hosts) (name_at f.names (step_node step))) where
  abbrev x : NodeName
  x = name_at f.names (step_node step)

  abbrev Slots : Option ℕ → List NodeName
  Slots o = option_to_list (option_map (name_at f.names) o)

  -- where the two are others, the old slot is not the one that the node has
  not-new : option_eq KeyImpl.ghosts.eq new_slot old_slot ≡ false → (k : ℕ) → k < length f.names → old_slot ≡ Some k → new_slot ≡ Some k → ⊥
  not-new apart k within was now =
      true≢false (sym (ap (λ o. option_eq KeyImpl.ghosts.eq o old_slot) now ∙ (ap (λ o. option_eq KeyImpl.ghosts.eq (Some k) o) was ∙ eq-eqb k k refl)) ∙ apart)

  not_among : (o : Option ℕ) → ForSome o (λ k. k < length f.names) → (k : ℕ) → k < length f.names → (o ≡ Some k → ⊥) →
      is_in name_eq (name_at f.names k) (Slots o) ≡ false
  not_among None nodes k within off = refl
  not_among (Some j) nodes k within off =
      ap (λ d. d || false) (sym (key-test f.names distinct k j within (nodes j refl)) ∙
      false_from_ne_true (nat_eq k j) (λ e. off (ap Some (sym (eqb-true k j e)))))

  module _ (table : SlotTable) (but : IsButFor f hosts table old_slot step) (inside : (k : ℕ) → All (λ j. j < length f.names) (list_of table k))
      (apart : option_eq KeyImpl.ghosts.eq new_slot old_slot ≡ false) where
    -- without the node the list of its old slot is what is assigned to that now
    pub leaves-right : ((k : ℕ) → old_slot ≡ Some k → k < length f.names) → (k : ℕ) → old_slot ≡ Some k →
        map (name_at f.names) (without (step_node step) (list_of table k)) ≡ assigned_at (shadows f hosts) (name_at f.names k)
    leaves-right old_node k was =
        without-named f.names distinct (step_node step) node (list_of table k) (inside k)
        ∙ (but.others k (old_node k was)
        ∙ but-none x (assigned_at (shadows f hosts) (name_at f.names k))
        (λ i. not-new apart k (old_node k was) was
        (named-key f.names distinct new_slot new_node k (old_node k was) (own ∙ slot-assigned (shadows f hosts) x (name_at f.names k) i))))

    -- when it has left, the list of its new slot has all others
    pub joins-right : {p : NodeName → Bool} {told : List NodeName} {left : SlotTable} {keys : List ℕ} → ForSome old_slot (λ k. k < length f.names) →
        AreRenewed f hosts p table (Slots old_slot) told left keys → (k : ℕ) → new_slot ≡ Some k
        → map (name_at f.names) (list_of left k) ≡ names_but x (assigned_at (shadows f hosts) (name_at f.names k))
    joins-right old_node r k now =
        let within = new_node k now in
        let off : old_slot ≡ Some k → ⊥ = λ was. not-new apart k within was now in
        let out : is_in nat_eq (step_node step) (list_of table k) ≡ false = false_from_ne_true _ (λ i. off (but.listed k within i)) in
        ap (map (name_at f.names)) (r.kept k within (not_among old_slot old_node k within off) ∙ sym (without-same (step_node step) (list_of table k) out))
        ∙ (without-named f.names distinct (step_node step) node (list_of table k) (inside k) ∙ but.others k within)

  -- the two slots
  pub both-slots : (p : NodeName → Bool) (old table : SlotTable) (keys : List ℕ) →
      AreRenewed f hosts p old (Slots old_slot ++ Slots new_slot) (filter p (Slots old_slot) ++ filter p (Slots new_slot)) table keys
      → AreRenewed f hosts p old (own_slots f hosts old_slot step) (filter p (own_slots f hosts old_slot step)) table keys
  both-slots p old table keys r =
      subst (λ ys. AreRenewed f hosts p old (Slots old_slot ++ ys) (filter p (Slots old_slot ++ ys)) table keys) (ap option_to_list own)
      (subst (λ ys. AreRenewed f hosts p old (Slots old_slot ++ Slots new_slot) ys table keys) (sym (filter-append p (Slots old_slot) (Slots new_slot))) r)

  -- a list that is right stays
  one-stays : {p : NodeName → Bool} {old : SlotTable} {done told : List NodeName} {table : SlotTable} {keys : List ℕ} (o : Option ℕ) →
      ForSome o (λ k. k < length f.names) → AreRenewed f hosts p old done told table keys
      → ((k : ℕ) → k < length f.names → map (name_at f.names) (list_of table k) ≡ assigned_at (shadows f hosts) (name_at f.names k)) →
      AreRenewed f hosts p old (done ++ Slots o) (told ++ filter p (Slots o)) table keys
  one-stays {p} {old} {done} {told} {table} {keys} None nodes r right =
      subst (λ ds. AreRenewed f hosts p old ds (told ++ []) table keys) (sym (append-nil done))
      (subst (λ ts. AreRenewed f hosts p old done ts table keys) (sym (append-nil told)) r)
  one-stays {p} {old} {done} {told} {table} {keys} (Some k) nodes r right =
      renewed-stays f distinct hosts p old done told table keys r k (nodes k refl) (list_of table k) (right k (nodes k refl)) (r.nodes k)
      (ap (λ b. not b) (list_same (list_of table k))) keys refl

  -- where all lists are right nothing is signalled
  pub both-stay : ForSome old_slot (λ k. k < length f.names) → (p : NodeName → Bool) (table : SlotTable) →
      ((k : ℕ) → k < length f.names → map (name_at f.names) (list_of table k) ≡ assigned_at (shadows f hosts) (name_at f.names k))
      → AreRenewed f hosts p table [] [] table [] →
      AreRenewed f hosts p table (own_slots f hosts old_slot step) (filter p (own_slots f hosts old_slot step)) table []
  both-stay old_node p table right start =
      both-slots p table table []
      (one-stays new_slot new_node (one-stays old_slot old_node start right) right)
