-- What the forest says of a node is what its owner's part in the world says of it.
use Rattle.dom_mutation.proofs.Cited.{◌≡◌, ℕ, ◌<◌, inl, inr, true, List, [], length, Option, Some, None, option_map, refl, sym, ap, subst, ◌∙◌, ForSome}
use Rattle.dom_mutation.proofs.Cited.{cases_Bool, NodeName, Owner, Trees, World, part_of, is_there, Part, Change, Step, queue_record, world_step, NamedTrees}
use Rattle.dom_mutation.proofs.Cited.{name_at, trees_of_owner, IsReadOwn, read_own, AllTables, IsReadFrom, DocState, contents, state_from, world_from, IsDoc}
use Rattle.dom_mutation.proofs.Cited.{name_in, owner_in, trees_in, stepped}
use Rattle.dom_mutation.proofs.Worlds.{part_at, part_off}
use Rattle.dom_mutation.proofs.Steps.{record_world}

abbrev pub state_with : List NodeName → World → DocState
state_with ns w = record { names = ns; world = w }

-- the trees of a part
pub own_in_part : (names : List NodeName) (ts : Trees) {tables : AllTables} → IsDoc names ts tables → (o : Owner) →
    trees_of_owner o ts ≡ (part_of (world_from names ts tables) o).trees
own_in_part names ts {tables} held o = elim (cases_Bool (is_there (world_from names ts tables) o)) [
  | inl there ↦ ap (λ (p : Part). p.trees) (sym (part_at (contents names ts tables) o there))
  | inr off ↦ held.absent o off ∙ ap (λ (p : Part). p.trees) (sym (part_off (contents names ts tables) o off))
]

-- the owner of a name that is given by its key
pub of_owner : (names : List NodeName) (o : Owner) (given : Option ℕ) → ForSome given (λ k. (name_at names k).owner ≡ o) →
    ForSome (option_map (name_at names) given) (λ x. x.owner ≡ o)
of_owner names o None h x e = cc
of_owner names o (Some k) h x e = let same : name_at names k ≡ x = cc in subst (λ (y : NodeName). y.owner ≡ o) same (h k refl)

module _ (f : NamedTrees) {tables : AllTables} (held : IsDoc f.names f.trees tables) {d : DocState} (is_d : state_from f.names f.trees tables ≡ d) where
  -- a read of one node
  pub shown : {R : Type 0} (read : Trees → NodeName → R) (value : List NodeName → R) (k : ℕ)
      → value f.names ≡ read f.trees (name_at f.names k)
      → (IsReadOwn (name_at f.names k).owner f.trees (name_at f.names k) →
      read f.trees (name_at f.names k) ≡ read (trees_of_owner (name_at f.names k).owner f.trees) (name_at f.names k))
      → value d.names ≡ read (trees_in d k) (name_in d k)
  shown read value k e own =
      let x = name_at f.names k in
      subst (λ (e : DocState). value e.names ≡ read (trees_in e k) (name_in e k)) is_d
      (e ∙ own (read_own f.trees held.owned x.owner x refl) ∙ ap (λ ts. read ts x) (own_in_part f.names f.trees held x.owner))

  -- a read that finds a node near another one, of the same owner
  pub read_from : (read : Trees → NodeName → Option NodeName) {k : ℕ} {r : Option ℕ}
      → ((o : Owner) (x y : NodeName) → x.owner ≡ o → read f.trees x ≡ Some y → y.owner ≡ o)
      → option_map (name_at f.names) r ≡ read f.trees (name_at f.names k)
      → (IsReadOwn (name_at f.names k).owner f.trees (name_at f.names k) →
      read f.trees (name_at f.names k) ≡ read (trees_of_owner (name_at f.names k).owner f.trees) (name_at f.names k))
      → ForSome r (λ j. j < length f.names) → IsReadFrom d k read r
  read_from read {k} {r} near value own node = record {
    value = shown read (λ ns. option_map (name_at ns) r) k value own;
    node = subst (λ (e : DocState). ForSome r (λ j. j < length e.names)) is_d node;
    owner = λ j e. subst (λ (e : DocState). owner_in e j ≡ owner_in e k) is_d
        (near (name_at f.names k).owner (name_at f.names k) (name_at f.names j) refl (sym value ∙ ap (option_map (name_at f.names)) e));
  }

  -- the other way round: a read of the forest is that of the part
  pub read_there : {R : Type 0} (read : Trees → NodeName → R) (k : ℕ)
      → (IsReadOwn (name_at f.names k).owner f.trees (name_at f.names k) →
      read f.trees (name_at f.names k) ≡ read (trees_of_owner (name_at f.names k).owner f.trees) (name_at f.names k))
      → read f.trees (name_at f.names k) ≡ read (trees_in (state_from f.names f.trees tables) k) (name_at f.names k)
  read_there read k own =
      let x = name_at f.names k in
      own (read_own f.trees held.owned x.owner x refl) ∙ ap (λ ts. read ts x) (own_in_part f.names f.trees held x.owner)

  -- what is known of a state is known of it as the forest gives it
  pub known : (P : DocState → Type 0) → P d → P (state_from f.names f.trees tables)
  known P h = subst P (sym is_d) h

  -- a node's owner is there
  pub owner_there : (k : ℕ) → k < length d.names → is_there (world_from f.names f.trees tables) (name_at f.names k).owner ≡ true
  owner_there k k< = held.present k (known (λ e. k < length e.names) k<)

  -- a change of a node's owner's trees: what holds after it, and that it is a step
  module _ (k : ℕ) (h : Trees → Trees) (g : NamedTrees) (names : g.names ≡ f.names) (trees : g.trees ≡ h f.trees) where
    pub step_done : (s : List NodeName → Step) →
        world_from f.names (h f.trees) tables ≡ world_step (name_at f.names k).owner (world_from f.names f.trees tables) (s f.names)
        → state_from g.names g.trees tables ≡ stepped (owner_in d k) (s d.names) d
    step_done s e =
        subst (λ (e : DocState). state_from g.names g.trees tables ≡ stepped (owner_in e k) (s e.names) e) is_d
        (ap (λ ns. state_from ns g.trees tables) names ∙ ap (λ us. state_from f.names us tables) trees ∙ ap (λ w. state_with f.names w) e)

  -- the record of a change of an owner without registrations
  pub untold : (k : ℕ) → k < length d.names → (tables.observers (name_at f.names k).owner).registrations ≡ [] → (c : Change NodeName) →
      d ≡ stepped (owner_in d k) (queue_record c) d
  untold k k< none c =
      subst (λ (e : DocState). e ≡ stepped (owner_in e k) (queue_record c) e) is_d
      (ap (λ w. state_with f.names w) (record_world f.names f.trees tables held (name_at f.names k).owner (owner_there k k<) none c))
