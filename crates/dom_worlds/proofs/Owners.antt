-- Who made whom, whose host is whose, and who is there.
use Rattle.dom_base.proofs.Std.{◌≡◌, ◌≢◌, ℕ, ◌<◌, List, length, position, option_map, Option, Some, None, refl, sym, ap, ◌∙◌, arith, subst, zero, suc, ◌≤◌}
use Rattle.dom_base.proofs.Std.{Bool, true, false, ◌||◌, [], ◌∷◌, ◌++◌, map, filter, unwrap_or, true≢false, is_some, slice_get, ⊤, is_none, option_and_then}
use Rattle.dom_base.proofs.Std.{option_map_or, position-Some, slice_get-get_or, list_any, cond-true, cond-false, false_from_ne_true, or_right}
use Rattle.dom_base.proofs.Std.{or_from, or_left}
use Rattle.dom_model.proofs.Model.{Owner, Page, NodeName, name_eq, owner_depth, owner_eq, World, part_of, component_at, component_made, made_by, host_of}
use Rattle.dom_model.proofs.Model.{MayAttach, find_part, put_part, is_there, made_by-made, depth-made, name_eq-true, owner_eq-same, owner_eq-true}
use Rattle.dom_model.proofs.Model.{owner_eq-false, ne-owner_eq, made_by-is, component_made-number, component_made-no_page, times_in, Part, empty_part, NodeWord}
use Rattle.dom_model.proofs.Model.{own, foreign, named}
use Rattle.dom_worlds.specs.Definitions.{IsWorld, IsOf, HasMakers, components_of, is_made_by, is_unmade, owners_in, IsThere, HasOwners}
use Rattle.dom_worlds.proofs.Lists.{get-below, get-all, get-there, by_cases, which_way, or-later, or-earlier, by_some_is}
use Rattle.dom_worlds.proofs.Lists.{by_some}

-- other worlds with the same hosts
pub makers-same : (v w : World) → ((o : Owner) → (part_of v o).attached ≡ (part_of w o).attached) → HasMakers w → HasMakers v
makers-same v w same makers o h = makers o (subst (λ (hs : List NodeName). 0 < length hs) (same o) h)

-- the owner of an item that is there may attach
maker-of : (w : World) → HasMakers w → (o : Owner) (k : ℕ) (x : NodeName) → slice_get (part_of w o).attached k ≡ Some x → MayAttach o
maker-of w makers o k x e = makers o (let below = get-below (part_of w o).attached k (ap is_some e) in omega (arith, below))

-- A host, with its component's maker and number.
pub record IsHosted (w : World) (o : Owner) (host : NodeName) : Type 0 where
  pub maker : Owner
  pub number : ℕ
  pub named : made_by o ≡ Some (maker, number)
  pub found : slice_get (part_of w maker).attached number ≡ Some host

-- a host is such
pub hosted : (w : World) (o : Owner) (host : NodeName) → host_of w o ≡ Some host → IsHosted w o host
hosted w o host h = from (made_by o) refl h
  where
    from : (m : Option (Owner × ℕ)) → made_by o ≡ m → option_and_then (λ (m : Owner × ℕ). slice_get (part_of w m.0).attached m.1) m ≡ Some host →
        IsHosted w o host
    from None e g = cc
    from (Some m) e g = record { maker = m.0; number = m.1; named = e; found = g }

-- and is the host
pub hosted-is : (w : World) (o : Owner) (host : NodeName) → IsHosted w o host → host_of w o ≡ Some host
hosted-is w o host k = ap (option_and_then (λ (m : Owner × ℕ). slice_get (part_of w m.0).attached m.1)) k.named ∙ k.found

-- its maker may attach
pub hosted-maker : (w : World) → HasMakers w → (o : Owner) (host : NodeName) → (k : IsHosted w o host) → MayAttach k.maker
hosted-maker w makers o host k = maker-of w makers k.maker k.number host k.found

-- and owns the host
pub hosted-owned : (w : World) → IsWorld w → (o : Owner) (host : NodeName) → (k : IsHosted w o host) → host.owner ≡ k.maker
hosted-owned w i o host k = get-all (IsOf k.maker) (part_of w k.maker).attached k.number host (i.hosts k.maker) k.found

-- whoever has a host is not the page
pub hosted-no_page : (w : World) (o : Owner) (host : NodeName) → IsHosted w o host → o ≢ Page
hosted-no_page w o host k e = let none_at : made_by o ≡ None = ap made_by e in let both : None ≡ Some (k.maker, k.number) = sym none_at ∙ k.named in cc

-- The host of a component that was made.
pub host_of-made : (w : World) (o : Owner) (k : ℕ) → MayAttach o → host_of w (component_made o k) ≡ slice_get (part_of w o).attached k
host_of-made w o k may = ap (option_and_then (λ (m : Owner × ℕ). slice_get (part_of w m.0).attached m.1)) (made_by-made o k may)

-- The component at a node: by its number among those of the node's owner.
pub record IsMade (w : World) (x : NodeName) (c : Owner) : Type 0 where
  pub number : ℕ
  pub made : component_made x.owner number ≡ c
  pub found : slice_get (part_of w x.owner).attached number ≡ Some x

-- it is such
pub component-made : (w : World) (x : NodeName) (c : Owner) → component_at w x ≡ Some c → IsMade w x c
component-made w x c h =
    by_some_is (λ (k : Option ℕ). option_map (component_made x.owner) k ≡ Some c → IsMade w x c) (position (name_eq x) (part_of w x.owner).attached)
    (λ e g. cc)
    (λ k e g. let at = position-Some (name_eq x) (part_of w x.owner).attached k x e in
    record { number = k; made = cc; found = slice_get-get_or (part_of w x.owner).attached k x at.0 ∙ ap Some (sym (name_eq-true x _ at.1)) }) h

-- the node's owner may attach
pub component-maker : (w : World) → HasMakers w → (x : NodeName) (c : Owner) → component_at w x ≡ Some c → MayAttach x.owner
component-maker w makers x c h = let k = component-made w x c h in maker-of w makers x.owner k.number x k.found

-- the node is its host
pub component-host : (w : World) → HasMakers w → (x : NodeName) (c : Owner) → component_at w x ≡ Some c → IsHosted w c x
component-host w makers x c h =
    let k = component-made w x c h in
    let may = component-maker w makers x c h in
    record { maker = x.owner; number = k.number; named = ap made_by (sym k.made) ∙ made_by-made x.owner k.number may; found = k.found }

-- and the component is deeper
pub component-deeper : (w : World) → HasMakers w → (x : NodeName) (c : Owner) → component_at w x ≡ Some c → owner_depth x.owner < owner_depth c
component-deeper w makers x c h =
    let k = component-made w x c h in
    let deep = depth-made x.owner k.number in
    subst (λ a. owner_depth x.owner < owner_depth a) k.made (omega (arith, deep))

-- whether a list of owners has one
abbrev pub has_owner : List Owner → Owner → Bool
has_owner os o = list_any (λ a. owner_eq a o) os

-- an owner is there where it is among the owners of parts
pub there-listed : (ps : List Part) (o : Owner) → is_some (find_part ps o) ≡ has_owner (map (λ (p : Part). p.owner) ps) o
there-listed [] o = refl
there-listed (p ∷ ps) o =
    by_cases (owner_eq p.owner o)
    (λ e. ap is_some (cond-true (owner_eq p.owner o) (Some p) (find_part ps o) e) ∙ sym (ap (λ b. b || has_owner (map (λ (p : Part). p.owner) ps) o) e))
    (λ e. ap is_some (cond-false (owner_eq p.owner o) (Some p) (find_part ps o) e) ∙ there-listed ps o ∙
    sym (ap (λ b. b || has_owner (map (λ (p : Part). p.owner) ps) o) e))

-- the same owners are there
pub there-same : (v w : World) → owners_in v ≡ owners_in w → (o : Owner) → is_there v o ≡ is_there w o
there-same v w e o = there-listed v.parts o ∙ ap (λ os. has_owner os o) e ∙ sym (there-listed w.parts o)

-- a part that is written where there is one, and where there is none
pub owners-put : (ps : List Part) (p : Part) → is_some (find_part ps p.owner) ≡ true →
    map (λ (p : Part). p.owner) (put_part ps p) ≡ map (λ (p : Part). p.owner) ps
owners-put [] p h = absurd (true≢false (sym h))
owners-put (q ∷ qs) p h =
    let owners : List Part → List Owner = map (λ (p : Part). p.owner) in
    by_cases (owner_eq q.owner p.owner)
    (λ e. ap owners (cond-true (owner_eq q.owner p.owner) (p ∷ qs) (q ∷ put_part qs p) e) ∙ ap (λ o. o ∷ owners qs) (sym (owner_eq-true q.owner p.owner e)))
    (λ e. ap owners (cond-false (owner_eq q.owner p.owner) (p ∷ qs) (q ∷ put_part qs p) e)
    ∙ ap (λ os. q.owner ∷ os) (owners-put qs p (sym (ap is_some (cond-false (owner_eq q.owner p.owner) (Some q) (find_part qs p.owner) e)) ∙ h)))

-- a part of a new owner comes last
pub owners-put_new : (ps : List Part) (p : Part) → has_owner (map (λ (p : Part). p.owner) ps) p.owner ≡ false →
    map (λ (p : Part). p.owner) (put_part ps p) ≡ map (λ (p : Part). p.owner) ps ++ p.owner ∷ []
owners-put_new [] p h = refl
owners-put_new (q ∷ qs) p h =
    let owners : List Part → List Owner = map (λ (p : Part). p.owner) in
    by_cases (owner_eq q.owner p.owner) (λ e. absurd (true≢false (sym (ap (λ b. b || has_owner (owners qs) p.owner) e) ∙ h)))
    (λ e. ap owners (cond-false (owner_eq q.owner p.owner) (p ∷ qs) (q ∷ put_part qs p) e)
    ∙ ap (λ os. q.owner ∷ os) (owners-put_new qs p (sym (ap (λ b. b || has_owner (owners qs) p.owner) e) ∙ h)))

-- who is not there has nothing
pub absent-part : (w : World) (o : Owner) → (IsThere w o → ⊥) → part_of w o ≡ empty_part o
absent-part w o h =
    by_some_is (λ (q : Option Part). unwrap_or q (empty_part o) ≡ empty_part o) (find_part w.parts o) (λ e. refl) (λ q e. absurd (h (ap is_some e)))

-- who has a node is there
pub node-there : (w : World) (o : Owner) (y : NodeName) → 1 ≤ times_in (part_of w o).trees y → IsThere w o
node-there w o y h =
    by_some (λ (p : Option Part). 1 ≤ times_in (unwrap_or p (empty_part o)).trees y → is_some p ≡ true) (find_part w.parts o) (λ g. absurd (omega arith))
    (λ p g. refl) h

-- Lists of owners. One of two lists:
has-append : (xs ys : List Owner) (o : Owner) → has_owner (xs ++ ys) o ≡ (has_owner xs o || has_owner ys o)
has-append [] ys o = refl
has-append (x ∷ xs) ys o = by_cases (owner_eq x o) (λ e. rw e refl) (λ e. rw e (has-append xs ys o))

-- one that passes a test
has-passed : (f : Owner → Bool) (os : List Owner) (o : Owner) → has_owner os o ≡ true → f o ≡ true → has_owner (filter f os) o ≡ true
has-passed f [] o h g = absurd (true≢false (sym h))
has-passed f (p ∷ os) o h g =
    let deeper : owner_eq p o ≡ false → has_owner (filter f os) o ≡ true = λ e. has-passed f os o (or-later (owner_eq p o) (has_owner os o) e h) g in
    which_way (λ xs. has_owner xs o ≡ true) (f p) (p ∷ filter f os) (filter f os)
    (λ t. by_cases (owner_eq p o) (or_left (owner_eq p o) (has_owner (filter f os) o)) (λ e. or_right (owner_eq p o) (has_owner (filter f os) o) (deeper e)))
    (λ t. deeper (false_from_ne_true (owner_eq p o) (λ e. true≢false (sym g ∙ ap f (sym (owner_eq-true p o e)) ∙ t))))

-- is among all
has-filtered : (f : Owner → Bool) (os : List Owner) (o : Owner) → has_owner (filter f os) o ≡ true → has_owner os o ≡ true
has-filtered f [] o h = absurd (true≢false (sym h))
has-filtered f (p ∷ os) o h =
    by_cases (owner_eq p o) (or_left (owner_eq p o) (has_owner os o))
    (λ e. or_right (owner_eq p o) (has_owner os o) (has-filtered f os o
    (by_cases (f p) (λ t. or-later (owner_eq p o) (has_owner (filter f os) o) e
    (sym (ap (λ xs. has_owner xs o) (cond-true (f p) (p ∷ filter f os) (filter f os) t)) ∙ h))
    (λ t. sym (ap (λ xs. has_owner xs o) (cond-false (f p) (p ∷ filter f os) (filter f os) t)) ∙ h))))

-- The components of an owner's attaches: each is among them,
components-has : (o : Owner) (n k : ℕ) → k < n → has_owner (components_of o n) (component_made o k) ≡ true
components-has o zero k h = absurd (omega arith)
components-has o (suc n) k h =
    let last = component_made o n in
    let c = component_made o k in
    has-append (components_of o n) (last ∷ []) c
    ∙ by_cases (owner_eq last c) (λ e. or_right (has_owner (components_of o n) c) (owner_eq last c || false) (or_left (owner_eq last c) false e))
    (λ e. or_left (has_owner (components_of o n) c) (owner_eq last c || false)
    (components-has o n k (let ne : (n ≢ k) = λ s. owner_eq-false last c e (ap (component_made o) s) in omega (arith, ne))))

-- and nobody else
components-only : (o : Owner) (n : ℕ) (c : Owner) → has_owner (components_of o n) c ≡ true → (k : ℕ) × (k < n) × (component_made o k ≡ c)
components-only o zero c h = absurd (true≢false (sym h))
components-only o (suc n) c h =
    let last = component_made o n in
    by_cases (owner_eq last c) (λ e. (n, omega arith, owner_eq-true last c e))
    (λ e. let before = or-earlier (has_owner (components_of o n) c) (owner_eq last c || false) (or_from (owner_eq last c) false e refl)
    (sym (has-append (components_of o n) (last ∷ []) c) ∙ h) in
    let at = components-only o n c before in (at.0, (let below = at.1 in omega arith), at.2))

-- who was made by an owner is told so
pub made_by-told : (o m : Owner) (k : ℕ) → made_by o ≡ Some (m, k) → is_made_by m o ≡ true
made_by-told o m k e = ap (λ x. option_map_or (λ (y : Owner × ℕ). owner_eq y.0 m) x false) e ∙ owner_eq-same m

-- Who has a host is there.
pub hosted-there : (w : World) → HasOwners w → (o : Owner) → is_some (host_of w o) ≡ true → IsThere w o
hosted-there w i o h =
    by_some_is (λ (m : Option NodeName). is_some m ≡ true → IsThere w o) (host_of w o) (λ e g. absurd (true≢false (sym g)))
    (λ x e g. let k = hosted w o x e in
    let hosts = (part_of w k.maker).attached in
    let made : has_owner (components_of k.maker (length hosts)) o ≡ true =
    subst (λ c. has_owner (components_of k.maker (length hosts)) c ≡ true) (made_by-is o k.maker k.number k.named)
    (components-has k.maker (length hosts) k.number (get-below hosts k.number (ap is_some k.found))) in
    there-listed w.parts o ∙ has-filtered (is_made_by k.maker) (owners_in w) o (ap (λ os. has_owner os o) (i.made k.maker) ∙ made)) h

-- who is there, but for the page, has a host
pub there-hosted : (w : World) → HasMakers w → HasOwners w → (o : Owner) → o ≢ Page → IsThere w o → is_some (host_of w o) ≡ true
there-hosted w makers i o f h = from (made_by o) refl
  where
    passed : (p : Owner → Bool) → p o ≡ true → has_owner (filter p (owners_in w)) o ≡ true
    passed p e = has-passed p (owners_in w) o (sym (there-listed w.parts o) ∙ h) e

    from : (m : Option (Owner × ℕ)) → made_by o ≡ m → is_some (host_of w o) ≡ true
    from None e =
        let page : (owner_eq Page o || false) ≡ true = sym (ap (λ os. has_owner os o) i.unmade) ∙ passed is_unmade (ap is_none e) in
        absurd (f (sym (owner_eq-true Page o (or-earlier (owner_eq Page o) false refl page))))
    from (Some m) e =
        let hosts = (part_of w m.0).attached in
        let at = components-only m.0 (length hosts) o (sym (ap (λ os. has_owner os o) (i.made m.0)) ∙ passed (is_made_by m.0) (made_by-told o m.0 m.1 e)) in
        let may = makers m.0 (let below = at.1 in omega (arith, below)) in
        subst (λ c. is_some (host_of w c) ≡ true) at.2 (ap is_some (host_of-made w m.0 at.0 may) ∙ get-there hosts at.0 at.1)

-- An owner's next component is not there.
pub next-absent : (w : World) → HasMakers w → HasOwners w → (o : Owner) → MayAttach o → IsThere w (component_made o (length (part_of w o).attached)) → ⊥
next-absent w makers i o may h =
    let hosts = (part_of w o).attached in
    let hosted = there-hosted w makers i (component_made o (length hosts)) (component_made-no_page o (length hosts)) h in
    let below = get-below hosts (length hosts) (sym (ap is_some (host_of-made w o (length hosts) may)) ∙ hosted) in
    omega (arith, below)

-- Each owner's part stands once.
abbrev pub AreOnce : List Owner → Type 0
AreOnce [] = ⊤
AreOnce (o ∷ os) = (has_owner os o ≡ false) × AreOnce os

-- one more
once-behind : (os : List Owner) (o : Owner) → AreOnce os → has_owner os o ≡ false → AreOnce (os ++ o ∷ [])
once-behind [] o once off = (refl, tt)
once-behind (p ∷ os) o once off =
    let first : owner_eq p o ≡ false = false_from_ne_true (owner_eq p o) (λ e. true≢false (sym (or_left (owner_eq p o) (has_owner os o) e) ∙ off)) in
    let later : has_owner os o ≡ false = false_from_ne_true (has_owner os o) (λ e. true≢false (sym (or_right (owner_eq p o) (has_owner os o) e) ∙ off)) in
    let other : owner_eq o p ≡ false = ne-owner_eq o p (λ e. owner_eq-false p o first (sym e)) in (
      has-append os (o ∷ []) p ∙ or_from (has_owner os p) (owner_eq o p || false) once.0
          (or_from (owner_eq o p) false other refl),
      once-behind os o once.1 later,
    )

-- one owner's components
components-once : (o : Owner) → MayAttach o → (n : ℕ) → AreOnce (components_of o n)
components-once o may zero = tt
components-once o may (suc n) =
    once-behind (components_of o n) (component_made o n) (components-once o may n)
    (false_from_ne_true (has_owner (components_of o n) (component_made o n)) (λ h. let at = components-only o n (component_made o n) h in
    let same = component_made-number o at.0 n may at.2 in let below = at.1 in absurd (omega (arith, same, below))))

-- those whom one owner made, or nobody
abbrev is_of_maker : Option Owner → Owner → Bool
is_of_maker None o = is_unmade o
is_of_maker (Some m) o = is_made_by m o

-- each owner is of some
maker-found : (o : Owner) → (m : Option Owner) × (is_of_maker m o ≡ true)
maker-found o =
    by_some_is (λ (m : Option (Owner × ℕ)). (m : Option Owner) × (is_of_maker m o ≡ true)) (made_by o) (λ e. (None, ap is_none e))
    (λ m e. (Some m.0, made_by-told o m.0 m.1 e))

-- owners stand once where those of each maker do
once-of : (os : List Owner) → ((m : Option Owner) → AreOnce (filter (is_of_maker m) os)) → AreOnce os
once-of [] h = tt
once-of (o ∷ os) h =
    let c = maker-found o in
    let f = is_of_maker c.0 in
    let here : AreOnce (o ∷ filter f os) = subst AreOnce (cond-true (f o) (o ∷ filter f os) (filter f os) c.1) (h c.0) in
    (false_from_ne_true (has_owner os o) (λ e. true≢false (sym (has-passed f os o e c.1) ∙ here.0)), once-of os (λ m. once-rest (is_of_maker m) (h m)))
  where
    once-rest : (g : Owner → Bool) → AreOnce (filter g (o ∷ os)) → AreOnce (filter g os)
    once-rest g k =
        by_cases (g o) (λ t. let both : AreOnce (o ∷ filter g os) = subst AreOnce (cond-true (g o) (o ∷ filter g os) (filter g os) t) k in both.1)
        (λ t. subst AreOnce (cond-false (g o) (o ∷ filter g os) (filter g os) t) k)

-- no owner stands twice among those of a world
pub once-in : (w : World) → HasMakers w → HasOwners w → AreOnce (owners_in w)
once-in w makers i = once-of (owners_in w) by_maker
  where
    made : (o : Owner) (n : ℕ) → length (part_of w o).attached ≡ n → AreOnce (components_of o n)
    made o zero e = tt
    made o (suc n) e = components-once o (makers o (omega (arith, e))) (suc n)

    by_maker : (m : Option Owner) → AreOnce (filter (is_of_maker m) (owners_in w))
    by_maker None = subst AreOnce (sym i.unmade) (refl, tt)
    by_maker (Some o) = subst AreOnce (sym (i.made o)) (made o (length (part_of w o).attached) refl)

-- a node that is named is the owner's
pub owner-named : (p : Part) (x : NodeWord) → (named p x).owner ≡ p.owner
owner-named p (own k) = refl
owner-named p foreign = refl
