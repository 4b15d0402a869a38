-- The visits of an event by names: loops over the items of its path, and the path in the world.
use Rattle.dom_commands.proofs.Cited.{◌≡◌, ℕ, ◌<◌, Bool, true, false, List, [], ◌∷◌, ◌++◌, drop, filter, length, map, reverse, take, Option, Some, option_map}
use Rattle.dom_commands.proofs.Cited.{refl, sym, ap, ◌∙◌, subst, arith, append-nil, append_assoc, slice_get, zero, suc, name_at, NamedTrees, DocState}
use Rattle.dom_commands.proofs.Cited.{AllByRecursion, ShadowHost, shadows, IsShownBy, IsWorldOf, MachineNow, own_listeners, ShowsNodes}
use Rattle.dom_base.proofs.Std.{◌+◌, cond, drop-cons, filter_more, get_or, get_or_from_slice_get, map-append, reverse-append, slice_get-get_or, slice_get-map}
use Rattle.dom_base.proofs.Std.{slice_get_within, same_Some}
use Rattle.dom_model.proofs.Model.{NodeName, Listener, View, views, World}
use Rattle.dom_path.specs.Definitions.{view_in, view_named}
use Rattle.dom_path.specs.declared.item.Item.{Item}
use Rattle.dom_path.specs.declared.trees.Tree.{Tree}
use Rattle.dom_base.proofs.Std.{none-some}
use Rattle.dom_commands.proofs.Cited.{All}
use Rattle.dom_commands.proofs.EventLines.{every}
use Rattle.dom_commands.proofs.Firing.{IsShownAtRest, shown-heard}
use Rattle.dom_commands.proofs.Listening.{fits-own}
use Rattle.dom_commands.proofs.Machines.{seen_at}

-- ---- loops

-- one or none, mapped
map-cond : {X Y : Type 0} (f : X → Y) (b : Bool) (x : X) → map f (cond b (x ∷ []) []) ≡ cond b (f x ∷ []) []
map-cond f true x = refl
map-cond f false x = refl

-- put behind others, or not
push-cond : {X : Type 0} (b : Bool) (xs : List X) (x : X) → cond b (xs ++ x ∷ []) xs ≡ xs ++ cond b (x ∷ []) []
push-cond true xs x = refl
push-cond false xs x = sym (append-nil xs)

module _ {V W : Type 0} (g : V → W) (vs : List V) (from : List W) where
  -- the next one from the end
  pub captured-more : {n k : ℕ} {v : V} → n ≡ suc k → slice_get vs k ≡ Some v → {before after : List W} → before ≡ from ++ map g (reverse (drop n vs)) →
      after ≡ before ++ g v ∷ [] → after ≡ from ++ map g (reverse (drop k vs))
  captured-more {k = k} {v = v} next at b a =
      let rest = reverse (drop (suc k) vs) in
      let all : drop k vs ≡ v ∷ drop (suc k) vs =
      drop-cons vs k v (slice_get_within vs k v at) ∙ ap (λ x. x ∷ drop (suc k) vs) (get_or_from_slice_get vs k v v at) in
      a ∙ ap (λ xs. xs ++ g v ∷ []) (b ∙ ap (λ m. from ++ map g (reverse (drop m vs))) next)
      ∙ append_assoc from (map g rest) (g v ∷ [])
      ∙ ap (λ xs. from ++ xs) (sym (ap (map g) (ap reverse all ∙ reverse-append (v ∷ []) (drop (suc k) vs)) ∙ map-append g rest (v ∷ [])))

  -- the next one from the front, or none
  pub bubbled-more : (p : V → Bool) (i : ℕ) {v : V} → slice_get vs i ≡ Some v → {before after : List W} → before ≡ from ++ map g (filter p (take i vs)) →
      after ≡ cond (p v) (before ++ g v ∷ []) before → after ≡ from ++ map g (filter p (take (i + 1) vs))
  bubbled-more p i {v = v} at {before = before} b a =
      let here = filter p (take i vs) in
      let one = cond (p v) (v ∷ []) [] in
      let more : filter p (take (i + 1) vs) ≡ here ++ one =
      filter_more p vs i v (slice_get_within vs i v at) ∙ ap (λ y. here ++ cond (p y) (y ∷ []) []) (get_or_from_slice_get vs i v v at) in
      a ∙ push-cond (p v) before (g v) ∙ ap (λ xs. xs ++ cond (p v) (g v ∷ []) []) b
      ∙ append_assoc from (map g here) (cond (p v) (g v ∷ []) [])
      ∙ ap (λ xs. from ++ xs) (sym (ap (map g) more ∙ map-append g here one ∙ ap (λ ys. map g here ++ ys) (map-cond g (p v) v)))

-- ---- what is shown at an item

-- an item that is there
there : {X : Type 0} (xs : List X) (i : ℕ) → i < length xs → (x : X) × (slice_get xs i ≡ Some x)
there [] i h = absurd (omega arith)
there (x ∷ xs) zero h = (x, refl)
there (x ∷ xs) (suc i) h = there xs i (omega arith)

module _ (trees : List Tree) (items : List Item) (vs : List (View ℕ)) (shown : vs ≡ map (view_in trees items) items) where
  -- what is shown at an item
  pub view-is : {xs : List Item} (i : ℕ) {x : Item} → i < length items → xs ≡ items → x ≡ get_or xs i x → slice_get vs i ≡ Some (view_in trees items x)
  view-is i {x} h same is =
      let g : x ≡ get_or items i x = subst (λ ys. x ≡ get_or ys i x) same is in
      ap (λ xs. slice_get xs i) shown ∙ slice_get-map (view_in trees items) items i ∙
      ap (option_map (view_in trees items)) (slice_get-get_or items i x h ∙ ap Some (sym g))

  -- something is
  pub view-there : (i : ℕ) → i < length items → (v : View ℕ) × (slice_get vs i ≡ Some v)
  view-there i h =
      let x = there items i h in
      (view_in trees items x.0, ap (λ xs. slice_get xs i) shown ∙ slice_get-map (view_in trees items) items i ∙ ap (option_map (view_in trees items)) x.1)

-- by names
pub named-there : (names : List NodeName) (vs : List (View ℕ)) (i : ℕ) (v : View ℕ) → slice_get vs i ≡ Some v →
    slice_get (map (view_named names) vs) i ≡ Some (view_named names v)
named-there names vs i v at = slice_get-map (view_named names) vs i ∙ ap (option_map (view_named names)) at

-- ---- composed paths

-- by names it is the names of the nodes
pub path-named : (names : List NodeName) (o : Option (View ℕ)) (ks : List ℕ) → option_map (λ (v : View ℕ). v.path) o ≡ Some ks →
    option_map (λ (v : View ℕ). map (name_at names) v.path) o ≡ Some (map (name_at names) ks)
path-named names o ks is = apart o ∙ ap (option_map (map (name_at names))) is
  where
    apart : (c : Option (View ℕ)) → option_map (λ (v : View ℕ). map (name_at names) v.path) c ≡ option_map (map (name_at names))
        (option_map (λ (v : View ℕ). v.path) c)
    apart (Some v) = refl
    apart _ = refl

-- they are nodes
pub path-nodes : (names : List NodeName) (vs : List (View ℕ)) (i : ℕ) (ks : List ℕ) → AllByRecursion (ShowsNodes names) vs →
    option_map (λ (v : View ℕ). v.path) (slice_get vs i) ≡ Some ks → All (λ k. k < length names) ks
path-nodes names [] i ks all is = absurd (none-some ks is)
path-nodes names (v ∷ vs) zero ks all is =
    subst (All (λ k. k < length names)) (same_Some v.path ks is) (every (λ k. k < length names) v.path all.0.path)
path-nodes names (v ∷ vs) (suc i) ks all is = path-nodes names vs i ks all.1 is

-- ---- in the world

-- what is shown along the path in the world of a machine at rest
module _ (f : NamedTrees) (hosts : List ShadowHost) (s : DocState) (ls : List (Listener ℕ)) (m : MachineNow) (is : IsShownAtRest s ls m f hosts)
    (vs : List (View ℕ)) (k : ℕ) (r : Option ℕ) (composed : Bool) where
  pub visits-world :
      ((w : World) → IsWorldOf f hosts w →
      map (view_named f.names) vs ≡ views w (name_at f.names k) (option_map (name_at f.names) r) composed) →
      map (view_named f.names) vs ≡ views m.world (name_at s.names k) (option_map (name_at s.names) r) composed
  visits-world all =
      let fits = fits-own s.names s.world is.there ls (seen_at s ls m is.seen is.sound) in
      let heard = shown-heard (own_listeners s.names ls) (shadows f hosts) s.world fits is.shown in
      let shown : IsShownBy (shadows f hosts) m.world = subst (λ (n : MachineNow). IsShownBy (shadows f hosts) n.world) is.seen heard in
      all m.world (record { shown = shown; reached = is.sound.reached; whole = is.sound.whole })
      ∙ ap (λ (ns : List NodeName). views m.world (name_at ns k) (option_map (name_at ns) r) composed) is.names
