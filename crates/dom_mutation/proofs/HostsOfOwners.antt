-- The hosts of one owner among all hosts, and where a component stands among those of its maker.
use Rattle.dom_mutation.proofs.Cited.{◌≡◌, ℕ, suc, ◌+◌, ◌<◌, ◌≤◌, ◌⊎◌, Bool, true, false, List, [], ◌∷◌, ◌++◌, length, Some, sym, ap, subst, ◌∙◌, inl, inr}
use Rattle.dom_mutation.proofs.Cited.{arith, if◌then◌else◌, eq-or-lt_of_le, cases_Bool, length_push, append-nil, filter-append, same_Some, NodeName, Owner}
use Rattle.dom_mutation.proofs.Cited.{Page, owner_eq, MayAttach, component_made, made_by, owner_eq-same, owner_eq-true, made_by-made, component_made-no_page}
use Rattle.dom_mutation.proofs.Cited.{ShadowHost, maker_of, hosts_of, IsMadeAs, AreMadeBehind, host_owners}
use Rattle.dom_mutation.proofs.Worlds.{In, Single}

-- where a component stands: who made it, and as which one, between the numbers of hosts
pub record IsPlaced (o : Owner) (first : Owner → ℕ) (behind : Owner → ℕ) : Type 0 where
  pub maker : Owner
  pub number : ℕ
  pub may : MayAttach maker
  pub made : component_made maker number ≡ o
  pub from : first maker ≤ number
  pub below : number < behind maker

module _ (names : List NodeName) where
  -- how many hosts an owner has
  abbrev pub count_hosts : List ShadowHost → Owner → ℕ
  count_hosts hosts o = length (hosts_of names hosts o)

  -- ---- one host in front

  pub own-host : (h : ShadowHost) (hosts : List ShadowHost) (o : Owner) → owner_eq (maker_of names h) o ≡ true →
      hosts_of names (h ∷ hosts) o ≡ h ∷ hosts_of names hosts o
  own-host h hosts o e = ap (λ (b : Bool). if b then h ∷ hosts_of names hosts o else hosts_of names hosts o) e

  pub other-host : (h : ShadowHost) (hosts : List ShadowHost) (o : Owner) → owner_eq (maker_of names h) o ≡ false →
      hosts_of names (h ∷ hosts) o ≡ hosts_of names hosts o
  other-host h hosts o e = ap (λ (b : Bool). if b then h ∷ hosts_of names hosts o else hosts_of names hosts o) e

  -- ---- one host behind

  pub own-pushed : (hosts : List ShadowHost) (h : ShadowHost) (o : Owner) → owner_eq (maker_of names h) o ≡ true →
      hosts_of names (hosts ++ h ∷ []) o ≡ hosts_of names hosts o ++ h ∷ []
  own-pushed hosts h o e =
      filter-append (λ g. owner_eq (maker_of names g) o) hosts (h ∷ []) ∙ ap (λ gs. hosts_of names hosts o ++ gs) (own-host h [] o e)

  pub other-pushed : (hosts : List ShadowHost) (h : ShadowHost) (o : Owner) → owner_eq (maker_of names h) o ≡ false →
      hosts_of names (hosts ++ h ∷ []) o ≡ hosts_of names hosts o
  other-pushed hosts h o e =
      filter-append (λ g. owner_eq (maker_of names g) o) hosts (h ∷ [])
      ∙ (ap (λ gs. hosts_of names hosts o ++ gs) (other-host h [] o e) ∙ append-nil (hosts_of names hosts o))

  pub own-counted : (hosts : List ShadowHost) (h : ShadowHost) (o : Owner) → owner_eq (maker_of names h) o ≡ true →
      count_hosts (hosts ++ h ∷ []) o ≡ suc (count_hosts hosts o)
  own-counted hosts h o e =
      let pushed = ap length (own-pushed hosts h o e) in let long = length_push (hosts_of names hosts o) h in omega (arith, pushed, long)

  pub other-counted : (hosts : List ShadowHost) (h : ShadowHost) (o : Owner) → owner_eq (maker_of names h) o ≡ false →
      count_hosts (hosts ++ h ∷ []) o ≡ count_hosts hosts o
  other-counted hosts h o e = ap length (other-pushed hosts h o e)

  -- a host that goes over to the earlier ones
  counts_shift : (earlier hosts : List ShadowHost) (h : ShadowHost) (o : Owner) →
      count_hosts (earlier ++ h ∷ []) o + count_hosts hosts o ≡ count_hosts earlier o + count_hosts (h ∷ hosts) o
  counts_shift earlier hosts h o = elim (cases_Bool (owner_eq (maker_of names h) o)) [
    | inl e ↦ let a = own-counted earlier h o e in let b = ap length (own-host h hosts o e) in omega (arith, a, b)
    | inr e ↦ let a = other-counted earlier h o e in let b = ap length (other-host h hosts o e) in omega (arith, a, b)
  ]

  counts_grow : (earlier : List ShadowHost) (h : ShadowHost) (o : Owner) → count_hosts earlier o ≤ count_hosts (earlier ++ h ∷ []) o
  counts_grow earlier h o = elim (cases_Bool (owner_eq (maker_of names h) o)) [
    | inl e ↦ let a = own-counted earlier h o e in omega (arith, a)
    | inr e ↦ let a = other-counted earlier h o e in omega (arith, a)
  ]

  -- ---- components by their makers

  -- who made a host's component
  pub made-named : (earlier : List ShadowHost) (h : ShadowHost) → IsMadeAs names earlier h →
      made_by h.owner ≡ Some (maker_of names h, count_hosts earlier (maker_of names h))
  made-named earlier h made = ap made_by made.owner ∙ made_by-made (maker_of names h) (count_hosts earlier (maker_of names h)) made.maker

  -- each component stands among those of its maker
  pub placed : (earlier hosts : List ShadowHost) (o : Owner) → AreMadeBehind names earlier hosts → In o (host_owners hosts) →
      IsPlaced o (count_hosts earlier) (λ m. count_hosts earlier m + count_hosts hosts m)
  placed earlier [] o made i = absurd i
  placed earlier (h ∷ hosts) o made (inl e) =
      let own = ap length (own-host h hosts (maker_of names h) (owner_eq-same (maker_of names h))) in
      record {
        maker = maker_of names h;
        number = count_hosts earlier (maker_of names h);
        may = made.0.maker;
        made = sym made.0.owner ∙ e;
        from = omega arith;
        below = omega (arith, own);
      }
  placed earlier (h ∷ hosts) o made (inr i) =
      let p = placed (earlier ++ h ∷ []) hosts o made.1 i in
      let grow = counts_grow earlier h p.maker in
      let shift = counts_shift earlier hosts h p.maker in
      record {
        maker = p.maker;
        number = p.number;
        may = p.may;
        made = p.made;
        from = (let from = p.from in omega (arith, grow, from));
        below = (let below = p.below in omega (arith, shift, below));
      }

  -- so each stands there once
  pub single_owners_of : (earlier hosts : List ShadowHost) → AreMadeBehind names earlier hosts → Single (host_owners hosts)
  single_owners_of earlier [] made = tt
  single_owners_of earlier (h ∷ hosts) made = (
    λ i.
        let p = placed (earlier ++ h ∷ []) hosts h.owner made.1 i in
        let both = same_Some (p.maker, p.number) (maker_of names h, count_hosts earlier (maker_of names h))
        (sym (made_by-made p.maker p.number p.may) ∙ (ap made_by p.made ∙ made-named earlier h made.0)) in
        let same : p.maker ≡ maker_of names h = ap (λ (m : Owner × ℕ). m.0) both in
        let number : p.number ≡ count_hosts earlier (maker_of names h) = ap (λ (m : Owner × ℕ). m.1) both in
        let one_more = own-counted earlier h (maker_of names h) (owner_eq-same (maker_of names h)) in
        let from : count_hosts (earlier ++ h ∷ []) (maker_of names h) ≤ p.number =
        subst (λ (m : Owner). count_hosts (earlier ++ h ∷ []) m ≤ p.number) same p.from in
        omega (arith, number, one_more, from),
    single_owners_of (earlier ++ h ∷ []) hosts made.1,
  )

  -- and none is the page
  pub no_page-owners : (earlier hosts : List ShadowHost) → AreMadeBehind names earlier hosts → In Page (host_owners hosts) → ⊥
  no_page-owners earlier hosts made i = let p = placed earlier hosts Page made i in component_made-no_page p.maker p.number p.made

  module _ (m : Owner) where
    -- each component of an owner is there whose number is below that of its hosts
    pub owner_in : (earlier hosts : List ShadowHost) (k : ℕ) → AreMadeBehind names earlier hosts → count_hosts earlier m ≤ k →
        k < count_hosts earlier m + count_hosts hosts m → In (component_made m k) (host_owners hosts)
    owner_in earlier [] k made from below = absurd (omega (arith, from, below))
    owner_in earlier (h ∷ hosts) k made from below =
        let shift = counts_shift earlier hosts h m in
        at (cases_Bool (owner_eq (maker_of names h) m)) (λ later. owner_in (earlier ++ h ∷ []) hosts k made.1 later (omega (arith, shift, below)))
      where
        at : (owner_eq (maker_of names h) m ≡ true) ⊎ (owner_eq (maker_of names h) m ≡ false) →
            (count_hosts (earlier ++ h ∷ []) m ≤ k → In (component_made m k) (host_owners hosts)) → In (component_made m k) (host_owners (h ∷ hosts))
        at (inl e) deeper =
            let same = owner_eq-true (maker_of names h) m e in
            elim (eq-or-lt_of_le from) [
              | inl first ↦ inl (made.0.owner ∙ (ap (λ n. component_made n (count_hosts earlier n)) same ∙ ap (component_made m) first))
              | inr later ↦ inr (deeper (let one_more = own-counted earlier h m e in omega (arith, one_more, later)))
            ]
        at (inr e) deeper = inr (deeper (let as_many = other-counted earlier h m e in omega (arith, as_many, from)))

    -- there are so many of an owner at most
    pub few_hosts : (earlier hosts : List ShadowHost) → AreMadeBehind names earlier hosts → count_hosts earlier m ≤ 1000 →
        count_hosts earlier m + count_hosts hosts m ≤ 1000
    few_hosts earlier [] made few = omega (arith, few)
    few_hosts earlier (h ∷ hosts) made few =
        let shift = counts_shift earlier hosts h m in
        let rest = few_hosts (earlier ++ h ∷ []) hosts made.1 (elim (cases_Bool (owner_eq (maker_of names h) m)) [
          | inl e ↦ let same = owner_eq-true (maker_of names h) m e in
              let one_more = own-counted earlier h m e in
              let room = subst (λ (o : Owner). count_hosts earlier o < 1000) same made.0.few in
              omega (arith, one_more, room)
          | inr e ↦ let as_many = other-counted earlier h m e in omega (arith, as_many, few)
        ]) in
        omega (arith, shift, rest)

    -- whoever has hosts may attach
    pub may_of : (earlier hosts : List ShadowHost) → AreMadeBehind names earlier hosts → 0 < count_hosts hosts m → MayAttach m
    may_of earlier [] made some = absurd (omega (arith, some))
    may_of earlier (h ∷ hosts) made some = elim (cases_Bool (owner_eq (maker_of names h) m)) [
      | inl e ↦ subst MayAttach (owner_eq-true (maker_of names h) m e) made.0.maker
      | inr e ↦ may_of (earlier ++ h ∷ []) hosts made.1 (let as_many = ap length (other-host h hosts m e) in omega (arith, as_many, some))
    ]
