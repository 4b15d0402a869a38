-- How the path of an event ends: it has the ways up from the first nodes of a chain of hosts, and of these the nodes outside of a group come first. So it
-- ends as the ways up from nodes of the group do, if any node of the group is on it.
use Rattle.dom_base.proofs.Std.{◌≡◌, ℕ, zero, suc, ◌≤◌, ◌<◌, Bool, true, false, not, ◌&&◌, List, [], ◌∷◌, ◌++◌, flat_map}
use Rattle.dom_base.proofs.Std.{Option, Some, None, option_to_list, refl, sym, ap, ◌∙◌, subst, arith, append-nil, append_assoc, take_while}
use Rattle.dom_base.proofs.Std.{if◌then◌else◌, AllByRecursion, and_parts, ◌⊎◌, inl, inr}
use Rattle.dom_model.proofs.Model.{Owner, NodeName, name_eq, owner_depth, max_depth}
use Rattle.dom_model.proofs.Model.{times_in, World, trees_with, ancestors_at, host_above, host_chain}
use Rattle.dom_model.proofs.Model.{slot_of, retarget, retarget_related, is_hidden_from, is_node, with_slots}
use Rattle.dom_model.proofs.Model.{way_up, whole_path}
use Rattle.dom_model.proofs.Model.{ends_at, event_path, KeepsMakers, boundary_host}
use Rattle.dom_model.proofs.Model.{name_eq-true, name_eq-same, depth-made}
use Rattle.dom_worlds.specs.Definitions.{IsWorld, IsOf}
use Rattle.dom_worlds.proofs.ListLemmas.{all-append, all-then, all-flat_map, by_cases, either_way, take_while-yes, take_while-no}
use Rattle.dom_worlds.proofs.ListLemmas.{all-take_while}
use Rattle.dom_worlds.proofs.TreeLemmas.{ancestors-present}
use Rattle.dom_worlds.proofs.OwnerLemmas.{component-made}
use Rattle.dom_worlds.proofs.ShadowTreeLemmas.{IsBelow, has-chain, below-host, hosts-alone, chain-below, absent-host, slots-first}
use Rattle.dom_worlds.proofs.ShadowTreeLemmas.{slot_way}
use Rattle.dom_laws.proofs.Laws.{by_times, path_none as ancestors-absent}
use Rattle.dom_isolation.proofs.GroupSlots.{in_node, IsGround, ground-of, slot-is, parent-of, ancestors-of}
use Rattle.dom_isolation.proofs.GroupPaths.{Inside, Outside, found-all, way-outside}
use Rattle.dom_isolation.proofs.OutsideViews.{cut_at, has-exit, exit-away}

-- a front of which all items pass
front-taken : {X : Type 0} (p : X → Bool) (xs ys : List X) → AllByRecursion (λ x. p x ≡ true) xs → take_while p (xs ++ ys) ≡ xs ++ take_while p ys
front-taken p [] ys h = refl
front-taken p (x ∷ xs) ys h = take_while-yes p x (xs ++ ys) h.0 ∙ ap (λ zs. x ∷ zs) (front-taken p xs ys h.1)

-- The nodes on a way up are no less deep than its first one.
abbrev IsDeep : ℕ → NodeName → Type 0
IsDeep n x = n ≤ owner_depth x.owner

-- the way through slots
slots-deep : (depth : ℕ) (w : World) → IsGround w → (n : ℕ) (x : NodeName) → IsDeep n x → AllByRecursion (IsDeep n) (with_slots depth w x)
slots-deep zero w i n x h = (h, tt)
slots-deep (suc depth) w i n x h = (h, from (slot_of w x) refl (slots-deep depth w i n))
  where
    from : (o : Option NodeName) → slot_of w x ≡ o → ((y : NodeName) → IsDeep n y → AllByRecursion (IsDeep n) (with_slots depth w y)) →
        AllByRecursion (IsDeep n) (flat_map (with_slots depth w) (flat_map (ancestors_at w) (option_to_list o)))
    from None e deeper = tt
    from (Some s) e deeper =
        let k = slot-is w i x s e in
        let made = component-made w k.parent k.component k.hosted in
        let more = depth-made k.parent.owner made.number in
        let is : owner_depth s.owner ≡ suc (owner_depth x.owner) =
        ap owner_depth (k.owner ∙ sym made.made) ∙ more ∙ ap (λ o. suc (owner_depth o)) (parent-of w i x k.parent k.below) in
        let up : AllByRecursion (IsDeep n) (ancestors_at w s) =
        all-then (IsOf s.owner) (IsDeep n) (λ y f. let same = ap owner_depth f in omega (arith, h, is, same)) (ancestors_at w s)
        (ancestors-of w i s.owner s) in
        all-flat_map (IsDeep n) (with_slots depth w) (ancestors_at w s ++ [])
        (all-then (IsDeep n) (λ y. AllByRecursion (IsDeep n) (with_slots depth w y)) deeper (ancestors_at w s ++ [])
        (all-append (IsDeep n) (ancestors_at w s) [] up tt))

-- the way up
way-deep : (w : World) → IsGround w → (x : NodeName) → AllByRecursion (IsDeep (owner_depth x.owner)) (way_up w x)
way-deep w i x =
    let n = owner_depth x.owner in
    all-flat_map (IsDeep n) (with_slots max_depth w) (ancestors_at w x)
    (all-then (IsOf x.owner) (λ y. AllByRecursion (IsDeep n) (with_slots max_depth w y))
    (λ y f. slots-deep max_depth w i n y (let same = ap owner_depth f in omega (arith, same))) (ancestors_at w x) (ancestors-of w i x.owner x))

-- A path is cut at nodes of the chain of hosts alone.
module _ (w : World) (i : IsWorld w) (x : NodeName) (r : Option NodeName) where
  -- whether the path does not end at a node
  abbrev passes : NodeName → Bool
  passes y = not (ends_at w x r y)

  -- it does not
  abbrev Passes : NodeName → Type 0
  Passes y = passes y ≡ true

  -- never at the target
  target-passes : Passes x
  target-passes = ap (λ b. not (not b && (name_eq x (retarget w x x) && is_node x (retarget_related w r x)))) (name_eq-same x)

  -- a node is a place in the chain of hosts, behind which all are less deep
  record IsPlace (before : List NodeName) (y : NodeName) (later : List NodeName) : Type 0 where
    chain : host_chain w x ≡ before ++ y ∷ later
    passed : AllByRecursion Passes before
    shallow : AllByRecursion (λ c. owner_depth c.owner < owner_depth y.owner) later

  -- where the path passes such a place it passes all that are as deep
  deep-passes : {before : List NodeName} {y : NodeName} {later : List NodeName} → IsPlace before y later → Passes y → (u : NodeName) →
      IsDeep (owner_depth y.owner) u → Passes u
  deep-passes {before} {y} {later} k p u deep =
      by_cases (ends_at w x r u)
      (λ e. let off = and_parts (not (name_eq u x)) (name_eq u (retarget w x u) && is_node u (retarget_related w r u)) e in
      let both = and_parts (name_eq u (retarget w x u)) (is_node u (retarget_related w r u)) off.1 in
      found (sym (name_eq-true u (retarget w x u) both.0)))
      (λ e. ap not e)
    where
      IsElse : NodeName → Type 0
      IsElse c = c ≡ u → Passes u

      passed : (c : NodeName) → Passes c → IsElse c
      passed c h e = subst Passes e h

      found : IsElse (retarget w x u)
      found =
          found-all IsElse (λ c. not (is_hidden_from w u c)) (host_chain w x) x
          (subst (AllByRecursion IsElse) (sym k.chain) (all-append IsElse before (y ∷ later) (all-then Passes IsElse passed before k.passed) (
            passed y p,
            all-then (λ c. owner_depth c.owner < owner_depth y.owner) IsElse
                (λ c h e. let same = ap (λ (z : NodeName). owner_depth z.owner) e in absurd (omega (arith, h, same, deep))) later k.shallow,
          ))) (passed x target-passes)

  -- so one way of the path is taken whole or not at all
  one-way : {before : List NodeName} {y : NodeName} {later : List NodeName} → IsPlace before y later → (rest : List NodeName) →
      (times_in (trees_with w y) y ≡ 0 → rest ≡ []) →
      (Passes y → cut_at w x r (flat_map (way_up w) rest) ≡ flat_map (way_up w) (take_while passes rest)) →
      cut_at w x r (flat_map (way_up w) (y ∷ rest)) ≡ flat_map (way_up w) (take_while passes (y ∷ rest))
  one-way {before} {y} {later} k rest alone more =
      by_times (times_in (trees_with w y) y)
      (λ z. absent (ap (flat_map (with_slots max_depth w)) (ancestors-absent (trees_with w y) y z)) (alone z))
      (λ t. let at = ancestors-present (trees_with w y) y t in
      present (slot_way max_depth w y ++ flat_map (with_slots max_depth w) at.0)
      (ap (flat_map (with_slots max_depth w)) at.1 ∙ slots-first max_depth w y at.0))
    where
      others : List NodeName
      others = flat_map (way_up w) rest

      absent : way_up w y ≡ [] → rest ≡ [] → cut_at w x r (flat_map (way_up w) (y ∷ rest)) ≡ flat_map (way_up w) (take_while passes (y ∷ rest))
      absent nothing last =
          let left : flat_map (way_up w) (y ∷ rest) ≡ [] = ap (λ ys. flat_map (way_up w) (y ∷ ys)) last ∙ ap (λ ys. ys ++ []) nothing in
          ap (cut_at w x r) left
          ∙ sym (by_cases (passes y)
          (λ p. ap (flat_map (way_up w)) (take_while-yes passes y rest p ∙ ap (λ ys. y ∷ take_while passes ys) last) ∙ ap (λ ys. ys ++ []) nothing)
          (λ p. ap (flat_map (way_up w)) (take_while-no passes y rest p)))

      present : (tail : List NodeName) → way_up w y ≡ y ∷ tail →
          cut_at w x r (flat_map (way_up w) (y ∷ rest)) ≡ flat_map (way_up w) (take_while passes (y ∷ rest))
      present tail way =
          let deep = subst (AllByRecursion (IsDeep (owner_depth y.owner))) way (way-deep w (ground-of w i) y) in
          by_cases (passes y)
          (λ p. ap (λ ys. cut_at w x r (ys ++ others)) way
          ∙ front-taken passes (y ∷ tail) others (all-then (IsDeep (owner_depth y.owner)) Passes (deep-passes k p) (y ∷ tail) deep)
          ∙ ap (λ ys. (y ∷ tail) ++ ys) (more p) ∙ ap (λ ys. ys ++ flat_map (way_up w) (take_while passes rest)) (sym way)
          ∙ sym (ap (flat_map (way_up w)) (take_while-yes passes y rest p)))
          (λ p. ap (λ ys. cut_at w x r (ys ++ others)) way ∙ take_while-no passes y (tail ++ others) p
          ∙ sym (ap (flat_map (way_up w)) (take_while-no passes y rest p)))

  -- the chain behind a node is less deep
  shallow-behind : (y host : NodeName) → IsBelow w y host → AllByRecursion (λ c. owner_depth c.owner < owner_depth y.owner) (host_chain w host)
  shallow-behind y host b =
      let k = has-chain w i host in
      let deep = b.deeper in
      subst (AllByRecursion (λ c. owner_depth c.owner < owner_depth y.owner)) (sym k.chain)
      (all-then (λ c. owner_depth c.owner ≤ owner_depth host.owner) (λ c. owner_depth c.owner < owner_depth y.owner) (λ c h. omega (arith, h, deep))
      (k.inner ++ k.last ∷ []) k.shallow)

  -- a chain of hosts ends the chain of the target, behind nodes that the path passes
  record IsRest (before : List NodeName) (y : NodeName) : Type 0 where
    chain : host_chain w x ≡ before ++ host_chain w y
    passed : AllByRecursion Passes before

  -- and so is the path of a composed event, from a place on
  chain-cut : (depth : ℕ) (before : List NodeName) (y : NodeName) → owner_depth y.owner ≤ depth → IsRest before y → {o : Option NodeName} →
      host_above w y ≡ o → cut_at w x r (flat_map (way_up w) (host_chain w y)) ≡ flat_map (way_up w) (take_while passes (host_chain w y))
  chain-cut depth before y d k {o = None} e =
      let alone = hosts-alone (owner_depth y.owner) w y e in
      subst (λ ys. cut_at w x r (flat_map (way_up w) ys) ≡ flat_map (way_up w) (take_while passes ys)) (sym alone)
      (one-way (record { chain = k.chain ∙ ap (λ ys. before ++ ys) alone; passed = k.passed; shallow = tt }) [] (λ z. refl) (λ p. refl))
  chain-cut zero before y d k {o = Some host} e = let deep = (below-host w i y host e).deeper in absurd (omega (arith, d, deep))
  chain-cut (suc depth) before y d k {o = Some host} e =
      let b = below-host w i y host e in
      let deep = b.deeper in
      let on = chain-below w y host b in
      let place : IsPlace before y (host_chain w host) =
      record { chain = k.chain ∙ ap (λ ys. before ++ ys) on; passed = k.passed; shallow = shallow-behind y host b } in
      subst (λ ys. cut_at w x r (flat_map (way_up w) ys) ≡ flat_map (way_up w) (take_while passes ys)) (sym on)
      (one-way place (host_chain w host) (λ z. let both : Some host ≡ None = sym e ∙ absent-host w i y z in cc)
      (λ p. chain-cut depth (before ++ y ∷ []) host (omega (arith, d, deep)) (record {
        chain = place.chain ∙ sym (append_assoc before (y ∷ []) (host_chain w host));
        passed = all-append Passes before (y ∷ []) k.passed (p, tt);
      }) refl))

  -- where it begins its ways up
  abbrev starts : Bool → List NodeName
  starts composed = if composed then host_chain w x else x ∷ []

  -- So the path is no node, or the ways up from the first nodes where it begins them.
  path-ways : (composed : Bool) → cut_at w x r (whole_path w x composed) ≡ flat_map (way_up w) (take_while passes (starts composed))
  path-ways true = chain-cut (owner_depth x.owner) [] x (omega arith) (record { chain = refl; passed = tt }) refl
  path-ways false = alone (host_above w x) refl
    where
      alone : (o : Option NodeName) → host_above w x ≡ o →
          cut_at w x r (flat_map (way_up w) (x ∷ [])) ≡ flat_map (way_up w) (take_while passes (x ∷ []))
      alone None e =
          let place : IsPlace [] x [] = record { chain = hosts-alone (owner_depth x.owner) w x e; passed = tt; shallow = tt } in
          one-way place [] (λ z. refl) (λ p. refl)
      alone (Some host) e =
          let b = below-host w i x host e in
          let place : IsPlace [] x (host_chain w host) = record { chain = chain-below w x host b; passed = tt; shallow = shallow-behind x host b } in
          one-way place [] (λ z. refl) (λ p. refl)

module _ (g : Owner → Bool) (closed : KeepsMakers g) (w : World) (i : IsWorld w) where
  -- of the group, and outside
  abbrev pub In : NodeName → Type 0
  In y = Inside g closed w i y

  -- outside
  abbrev pub Out : NodeName → Type 0
  Out y = Outside g closed w i y

  -- the last node is of the group
  abbrev pub EndsIn : List NodeName → Type 0
  EndsIn xs = (front : List NodeName) × (last : NodeName) × (xs ≡ front ++ last ∷ []) × In last

  -- more nodes before it
  pub ends-behind : (xs ys : List NodeName) → EndsIn ys → EndsIn (xs ++ ys)
  ends-behind xs ys k = (xs ++ k.0, k.1, ap (λ zs. xs ++ zs) k.2 ∙ sym (append_assoc xs k.0 (k.1 ∷ [])), k.3)

-- How lists of nodes end that are told by their last ones: so do the ways up from nodes of the group, if each does.
pub record AreEnds (g : Owner → Bool) (closed : KeepsMakers g) (w : World) (i : IsWorld w) (Ends : List NodeName → Type 0) (Begins : NodeName → Type 0)
    : Type 0 where
  pub behind : (xs ys : List NodeName) → Ends ys → Ends (xs ++ ys)
  pub way : (y : NodeName) → Begins y → (way_up w y ≡ []) ⊎ Ends (way_up w y)

module _ {g : Owner → Bool} {closed : KeepsMakers g} {w : World} {i : IsWorld w} {Ends : List NodeName → Type 0} {Begins : NodeName → Type 0}
    (k : AreEnds g closed w i Ends Begins) where
  -- none is of the group, or they end so
  abbrev pub EndsWell : List NodeName → Type 0
  EndsWell xs = AllByRecursion (Out g closed w i) xs ⊎ Ends xs

  -- the ways up from nodes of the group
  ways-end : (ys : List NodeName) → AllByRecursion Begins ys → (flat_map (way_up w) ys ≡ []) ⊎ Ends (flat_map (way_up w) ys)
  ways-end [] h = inl refl
  ways-end (y ∷ ys) h = elim (ways-end ys h.1) [
    | inl e ↦ subst (λ xs. (xs ≡ []) ⊎ Ends xs) (sym (ap (λ zs. way_up w y ++ zs) e ∙ append-nil (way_up w y))) (k.way y h.0)
    | inr n ↦ inr (k.behind (way_up w y) (flat_map (way_up w) ys) n)
  ]

  -- the ways up from the first nodes of a list, of which those outside come first
  front-ends : (p : NodeName → Bool) (outs ins : List NodeName) → AllByRecursion (Out g closed w i) outs → AllByRecursion Begins ins →
      EndsWell (flat_map (way_up w) (take_while p (outs ++ ins)))
  front-ends p [] ins h a = elim (ways-end (take_while p ins) (all-take_while Begins p ins a)) [
    | inl e ↦ inl (subst (AllByRecursion (Out g closed w i)) (sym e) tt)
    | inr n ↦ inr n
  ]
  front-ends p (y ∷ outs) ins h a =
      by_cases (p y)
      (λ t. subst (λ ys. EndsWell (flat_map (way_up w) ys)) (sym (take_while-yes p y (outs ++ ins) t))
      (elim (front-ends p outs ins h.1 a) [
        | inl b ↦ inl (all-append (Out g closed w i) (way_up w y) (flat_map (way_up w) (take_while p (outs ++ ins)))
            (way-outside g closed w (ground-of w i) y h.0) b)
        | inr n ↦ inr (k.behind (way_up w y) (flat_map (way_up w) (take_while p (outs ++ ins))) n)
      ]))
      (λ t. subst (λ ys. EndsWell (flat_map (way_up w) ys)) (sym (take_while-no p y (outs ++ ins) t)) (inl tt))

  -- a chain of hosts is such a list,
  chain-ends : (p : NodeName → Bool) (x : NodeName) → ((host : NodeName) → boundary_host g w x ≡ Some host → AllByRecursion Begins (host_chain w host)) →
      EndsWell (flat_map (way_up w) (take_while p (host_chain w x)))
  chain-ends p x chain = from (boundary_host g w x) refl
    where
      from : (o : Option NodeName) → boundary_host g w x ≡ o → EndsWell (flat_map (way_up w) (take_while p (host_chain w x)))
      from None e =
          subst (λ ys. EndsWell (flat_map (way_up w) (take_while p ys))) (append-nil (host_chain w x))
          (front-ends p (host_chain w x) [] (exit-away g closed w i x e) tt)
      from (Some host) e =
          let exit = has-exit g closed w i x host e in
          subst (λ ys. EndsWell (flat_map (way_up w) (take_while p ys))) (sym exit.chain)
          (front-ends p exit.inner (host_chain w host) exit.away (chain host e))

  -- and so is a node alone: so ends the path of an event.
  pub path-ends : (x : NodeName) (r : Option NodeName) (composed : Bool) →
      ((host : NodeName) → boundary_host g w x ≡ Some host → AllByRecursion Begins (host_chain w host)) → (In g closed w i x → Begins x) →
      EndsWell (event_path w x r composed)
  path-ends x r composed chain here =
      either_way EndsWell (is_node x (retarget_related w r x) && not (is_node x r)) [] (cut_at w x r (whole_path w x composed)) (inl tt)
      (subst EndsWell (sym (path-ways w i x r composed)) (from composed))
    where
      p : NodeName → Bool
      p y = not (ends_at w x r y)

      from : (c : Bool) → EndsWell (flat_map (way_up w) (take_while p (if c then host_chain w x else x ∷ [])))
      from true = chain-ends p x chain
      from false = by_cases (in_node g x) (λ h. front-ends p [] (x ∷ []) tt (here h, tt)) (λ h. front-ends p (x ∷ []) [] (h, tt) tt)
