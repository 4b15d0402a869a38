-- The keys of all owners, after a component's list of keys was written.
use Rattle.dom_base.proofs.Std.{◌≡◌, ◌≢◌, ℕ, ◌<◌, cond, ◌∷◌, [], ◌++◌, slice_get, Some, Vec, Global, refl, sym, ap, ◌∙◌, subst, MatchOption, get}
use Rattle.dom_base.proofs.Std.{option_map_or, vec_len, vec_capacity, cond-false, some_pair_parts}
use Rattle.indexmap.specs.IndexMap.{with_value_at, IsUnique, Updates}
use Rattle.indexmap.proofs.CallerLemmas.{updates-with_value_at}
use Rattle.node_arena.specs.declared.key.Key.{Key}
use Rattle.dom_model.proofs.Model.{Owner, Page, Component, owner_eq, ne-owner_eq, Component-IsNoPage}
use Rattle.dom_base.specs.declared.OwnerPath.{OwnerPath}
use Rattle.dom_base.specs.contracts.OwnerPartialEq.TheImpl as OwnerImpl
use Rattle.dom_base.specs.contracts.OwnerEq.TheImpl.Laws.{laws-law}
use Rattle.dom_tree.specs.declared.table.KeyTable.{KeyTable}
use Rattle.dom_tree.specs.PageKeys.{page_keys}
use Rattle.dom_tree.specs.Definitions.{keys_of, HasRoom, StandsAt}
use Rattle.dom_tree.proofs.OwnerLists.{had, written-by, written-same}

module _ (t r : KeyTable) (page : r.page ≡ t.page) (owner : Owner) (new : Vec Key Global)
    (at : (p : Owner) → get OwnerImpl.ghosts.eq r.components p ≡ cond (OwnerImpl.ghosts.eq owner p) (Some new) (get OwnerImpl.ghosts.eq t.components p)) where
  -- the keys of all owners, where a component's list has the keys that it had
  pub keys-same : had (λ v. v.items) (get OwnerImpl.ghosts.eq t.components) owner ≡ new.items → (o : Owner) → keys_of r o ≡ keys_of t o
  keys-same e Page = ap page_keys page
  keys-same e (Component k) =
      written-same (λ v. v.items) (get OwnerImpl.ghosts.eq t.components) (get OwnerImpl.ghosts.eq r.components) owner new at e (Component k)

  -- and where it got one key more
  pub keys-written : (old : Vec Key Global) (key : ℕ) → owner ≢ Page → get OwnerImpl.ghosts.eq t.components owner ≡ Some old →
      new.items ≡ old.items ++ key ∷ [] → (o : Owner) → keys_of r o ≡ cond (owner_eq owner o) (keys_of t o ++ key ∷ []) (keys_of t o)
  keys-written old key other found e Page = ap page_keys page
      ∙ sym (cond-false (owner_eq owner Page) (keys_of t Page ++ key ∷ []) (keys_of t Page) (ne-owner_eq owner Page other))
  keys-written old key other found e (Component k) = written-by (λ v. v.items) (get OwnerImpl.ghosts.eq t.components)
      (get OwnerImpl.ghosts.eq r.components) owner new at old (λ keys. keys ++ key ∷ []) found e (Component k)

-- the table, after another list was put at a place
abbrev pub lent : KeyTable → ℕ → Vec Key Global → KeyTable
lent t i new = record t { components = with_value_at t.components i new }

-- a component's list stands at a place, and was lent there
module _ (t : KeyTable) (owner : Owner) {path : OwnerPath} (is : owner ≡ Component path) (i : ℕ) (k : Owner) (old new : Vec Key Global)
    (at : StandsAt t owner (Some i)) (there : slice_get t.components.entries i ≡ Some (k, old)) where
  found : get OwnerImpl.ghosts.eq t.components owner ≡ Some old
  found = at.2 ∙ ap Some (some_pair_parts owner k at.0 old (sym at.1 ∙ there)).1

  -- if it had room, there is room for one key more
  pub room_of : HasRoom t owner → vec_len old < vec_capacity old
  room_of room = subst (λ l. MatchOption l ⊥ (λ v. vec_len v < vec_capacity v)) (ap (get OwnerImpl.ghosts.eq t.components) (sym is) ∙ found)
      (subst (HasRoom t) is room)

  module _ (unique : IsUnique OwnerImpl.ghosts.eq t.components) where
    updates : Updates OwnerImpl.ghosts.eq t.components (lent t i new).components owner (Some new)
    updates = updates-with_value_at t.components i new laws-law unique owner at.0 at.1

    -- if it has room, there is
    pub lent-room : vec_len new < vec_capacity new → HasRoom (lent t i new) owner
    lent-room room = subst (HasRoom (lent t i new)) (sym is)
        (subst (λ l. MatchOption l ⊥ (λ v. vec_len v < vec_capacity v)) (sym updates.1 ∙ ap (get OwnerImpl.ghosts.eq (lent t i new).components) is) room)

    -- the keys, if it has those that it had
    pub lent-same : new.items ≡ old.items → (o : Owner) → keys_of (lent t i new) o ≡ keys_of t o
    lent-same e = keys-same t (lent t i new) refl owner new updates.0 (ap (λ l. option_map_or (λ v. v.items) l []) found ∙ sym e)

    -- and if it got one key more
    pub lent-written : (key : ℕ) → new.items ≡ old.items ++ key ∷ [] → (o : Owner) →
        keys_of (lent t i new) o ≡ cond (owner_eq owner o) (keys_of t o ++ key ∷ []) (keys_of t o)
    lent-written key e = keys-written t (lent t i new) refl owner new updates.0 old key (λ page. Component-IsNoPage path (sym is ∙ page)) found e
