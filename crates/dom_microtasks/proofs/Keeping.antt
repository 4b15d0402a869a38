-- Signalled slots when one more is signalled, and when those of an owner are taken: what is held then, and what a contract sees.
use Rattle.dom_base.proofs.Std.{◌≡◌, ℕ, ◌+◌, ◌-◌, ◌≤◌, Bool, true, false, not, ◌&&◌, ◌||◌, List, [], ◌∷◌, ◌++◌, filter, map, length, nat_eq, refl, sym, ap}
use Rattle.dom_base.proofs.Std.{subst, ◌∙◌, arith, if◌then◌else◌, cond-true, cond-false, and_parts, length-map, length_push, map-append, append-nil}
use Rattle.dom_base.proofs.Std.{filter-append, length-filter_both, any-filter_same}
use Rattle.dom_model.proofs.Model.{Owner, NodeName, owner_eq, name_eq, node_of, is_in, append_once, is_owned_by, owner_eq-same, owner_eq-true}
use Rattle.dom_microtasks.specs.ByOwner.{since_of, numbers_of}
use Rattle.dom_microtasks.specs.Signalled.{counting, signals_of, IsKept}
use Rattle.dom_microtasks.specs.declared.signals.Signals.TheInside.{Inside}
use Rattle.dom_microtasks.proofs.Counting.{owner_turned, counting-push, counting-few, counting-taken}

-- an owner's node among nodes of that owner, by its number
among_own : (o : Owner) (n : ℕ) (ns : List ℕ) → is_in name_eq (node_of o n) (map (node_of o) ns) ≡ is_in nat_eq n ns
among_own o n [] = refl
among_own o n (k ∷ ns) =
    let here : name_eq (node_of o n) (node_of o k) ≡ nat_eq n k = ap (λ b. b && nat_eq n k) (owner_eq-same o) in
    let rest = among_own o n ns in
    λ i. here i || rest i

-- a name is that of its owner's node
same_owner : (x y : NodeName) → name_eq x y ≡ true → is_owned_by x.owner y ≡ true
same_owner x y e = owner_turned x.owner y.owner true (and_parts (owner_eq x.owner y.owner) (nat_eq x.number y.number) e).0

-- where none passes, all pass the other test
others_all : (p : NodeName → Bool) (xs : List NodeName) → filter p xs ≡ [] → filter (λ x. not (p x)) xs ≡ xs
others_all p [] none = refl
others_all p (x ∷ xs) none = by (p x) (others_all p xs) none
  where
    by : (b : Bool) → (filter p xs ≡ [] → filter (λ y. not (p y)) xs ≡ xs) → (if b then x ∷ filter p xs else filter p xs) ≡ [] →
        (if not b then x ∷ filter (λ y. not (p y)) xs else filter (λ y. not (p y)) xs) ≡ x ∷ xs
    by true rest none = cc
    by false rest none = ap (λ ys. x ∷ ys) (rest none)

-- an owner's among those that are not another owner's
own_apart : (o q : Owner) → owner_eq o q ≡ false → (xs : List NodeName) →
    filter (is_owned_by q) (filter (λ x. not (is_owned_by o x)) xs) ≡ filter (is_owned_by q) xs
own_apart o q other [] = refl
own_apart o q other (x ∷ xs) = by (own_apart o q other xs) (is_owned_by o x) refl
  where
    by : filter (is_owned_by q) (filter (λ y. not (is_owned_by o y)) xs) ≡ filter (is_owned_by q) xs → (b : Bool) → is_owned_by o x ≡ b →
        filter (is_owned_by q) (if not b then x ∷ filter (λ y. not (is_owned_by o y)) xs else filter (λ y. not (is_owned_by o y)) xs)
        ≡ filter (is_owned_by q) (x ∷ xs)
    by rest true mine = rest ∙ sym (ap (λ b. if b then x ∷ filter (is_owned_by q) xs else filter (is_owned_by q) xs)
        (ap (λ p. owner_eq p q) (owner_eq-true x.owner o mine) ∙ other))
    by rest false not_mine = ap (λ ys. if is_owned_by q x then x ∷ ys else ys) rest

-- none of an owner's is among those that are not
own_gone : (o : Owner) (xs : List NodeName) → filter (is_owned_by o) (filter (λ x. not (is_owned_by o x)) xs) ≡ []
own_gone o [] = refl
own_gone o (x ∷ xs) = by (own_gone o xs) (is_owned_by o x) refl
  where
    by : filter (is_owned_by o) (filter (λ y. not (is_owned_by o y)) xs) ≡ [] → (b : Bool) → is_owned_by o x ≡ b →
        filter (is_owned_by o) (if not b then x ∷ filter (λ y. not (is_owned_by o y)) xs else filter (λ y. not (is_owned_by o y)) xs) ≡ []
    by rest true mine = rest
    by rest false other = ap (λ b. if b then x ∷ filter (is_owned_by o) (filter (λ y. not (is_owned_by o y)) xs)
        else filter (is_owned_by o) (filter (λ y. not (is_owned_by o y)) xs)) other ∙ rest

module _ (s : Inside) (kept : IsKept s) where
  -- a slot is among those that count where its number is among its owner's
  pub is_among : (x : NodeName) → is_in name_eq x (signals_of s) ≡ is_in nat_eq x.number (numbers_of s.own x.owner)
  is_among x =
      sym (any-filter_same (name_eq x) (is_owned_by x.owner) true (λ y. same_owner x y) (signals_of s))
      ∙ (ap (is_in name_eq x) (sym (kept.own x.owner)) ∙ among_own x.owner x.number (numbers_of s.own x.owner))

  -- one that is among them is not signalled anew
  pub stays : (x : NodeName) → is_in nat_eq x.number (numbers_of s.own x.owner) ≡ true → signals_of s ≡ append_once name_eq (signals_of s) x
  stays x there = sym (cond-true (is_in name_eq x (signals_of s)) (signals_of s) (signals_of s ++ x ∷ []) (is_among x ∙ there))

  -- those that count are not more than the log has
  pub few : s.count ≤ length s.log.items
  few = let counted = kept.counted in let few = counting-few (since_of s.own) 0 s.log.items in omega (arith, counted, few)

  -- an owner's are not more than all
  pub own_few : (o : Owner) → length (numbers_of s.own o) ≤ s.count
  own_few o =
      let both = length-filter_both (is_owned_by o) (λ x. not (is_owned_by o x)) (λ x. refl) (signals_of s) in
      let own = sym (length-map (numbers_of s.own o) (node_of o)) ∙ ap length (kept.own o) in
      let counted = kept.counted in omega (arith, both, own, counted)

  -- and when they are taken off, the others are left
  pub others_left : (o : Owner) (ns : List ℕ) → ns ≡ numbers_of s.own o → (s.count - length ns) + length (numbers_of s.own o) ≡ s.count
  others_left o ns is = let few = own_few o in let same = ap length is in omega (arith, few, same)

  -- an owner without any
  pub none_taken : (o : Owner) → length (numbers_of s.own o) ≡ 0 → signals_of s ≡ filter (λ x. not (is_owned_by o x)) (signals_of s)
  none_taken o none = sym (others_all (is_owned_by o) (signals_of s) (sym (kept.own o) ∙ ap (map (node_of o)) (empty (numbers_of s.own o) none)))
    where
      empty : (ns : List ℕ) → length ns ≡ 0 → ns ≡ []
      empty [] e = refl
      empty (n ∷ ns) e = cc

  -- one more is signalled
  module _ (t : Inside) (x : NodeName) (new : is_in nat_eq x.number (numbers_of s.own x.owner) ≡ false)
      (numbers : (o : Owner) → numbers_of t.own o ≡ (if owner_eq x.owner o then numbers_of s.own o ++ x.number ∷ [] else numbers_of s.own o))
      (since : (o : Owner) → since_of t.own o ≡ since_of s.own o)
      (log : t.log.items ≡ s.log.items ++ x ∷ []) (count : t.count ≡ s.count + 1) where
    last : signals_of t ≡ signals_of s ++ x ∷ []
    last =
        (λ i. counting (λ o. since o i) 0 (log i)) ∙ counting-push (since_of s.own) 0 s.log.items x (let late = kept.since x.owner in omega (arith, late))

    pub added : signals_of t ≡ append_once name_eq (signals_of s) x
    added = last ∙ sym (cond-false (is_in name_eq x (signals_of s)) (signals_of s) (signals_of s ++ x ∷ []) (is_among x ∙ new))

    pub added_kept : IsKept t
    added_kept = record {
      own = λ o. ap (map (node_of o)) (numbers o) ∙ (by o (owner_eq x.owner o) refl ∙ sym (ap (filter (is_owned_by o)) last));
      since = λ o. let same = since o in let before = kept.since o in let longer = ap length log in let pushed = length_push s.log.items x in
          omega (arith, same, before, longer, pushed);
      counted = let counted = kept.counted in let longer = ap length last in let pushed = length_push (signals_of s) x in
          omega (arith, count, counted, longer, pushed);
    }
      where
        by : (o : Owner) (b : Bool) → owner_eq x.owner o ≡ b →
            map (node_of o) (if b then numbers_of s.own o ++ x.number ∷ [] else numbers_of s.own o) ≡ filter (is_owned_by o) (signals_of s ++ x ∷ [])
        by o true mine =
            map-append (node_of o) (numbers_of s.own o) (x.number ∷ [])
            ∙ (ap (λ p. map (node_of o) (numbers_of s.own o) ++ node_of p x.number ∷ []) (sym (owner_eq-true x.owner o mine))
            ∙ (ap (λ ys. ys ++ x ∷ []) (kept.own o)
            ∙ (ap (λ b. filter (is_owned_by o) (signals_of s) ++ (if b then x ∷ [] else [])) (sym mine)
            ∙ sym (filter-append (is_owned_by o) (signals_of s) (x ∷ [])))))
        by o false other =
            kept.own o ∙ (sym (append-nil (filter (is_owned_by o) (signals_of s)))
            ∙ (ap (λ b. filter (is_owned_by o) (signals_of s) ++ (if b then x ∷ [] else [])) (sym other)
            ∙ sym (filter-append (is_owned_by o) (signals_of s) (x ∷ []))))

  -- the signals of an owner are taken
  module _ (t : Inside) (o : Owner) (n : ℕ) (is_n : n ≡ length s.log.items)
      (numbers : (p : Owner) → numbers_of t.own p ≡ (if owner_eq o p then [] else numbers_of s.own p))
      (since : (p : Owner) → since_of t.own p ≡ (if owner_eq o p then n else since_of s.own p))
      (log : t.log.items ≡ s.log.items) (count : t.count + length (numbers_of s.own o) ≡ s.count) where
    pub taken : signals_of t ≡ filter (λ x. not (is_owned_by o x)) (signals_of s)
    taken = (λ i. counting (λ p. since p i) 0 (log i)) ∙ counting-taken (since_of s.own) o n 0 s.log.items (omega (arith, is_n))

    pub taken_kept : IsKept t
    taken_kept = record {
      own = λ p. ap (map (node_of p)) (numbers p) ∙ (by p (owner_eq o p) refl ∙ sym (ap (filter (is_owned_by p)) taken));
      since = λ p. late p (owner_eq o p) (since p);
      counted =
          let both = length-filter_both (is_owned_by o) (λ x. not (is_owned_by o x)) (λ x. refl) (signals_of s) in
          let own = sym (length-map (numbers_of s.own o) (node_of o)) ∙ ap length (kept.own o) in
          let counted = kept.counted in let rest = ap length taken in omega (arith, both, own, counted, rest, count);
    }
      where
        by : (p : Owner) (b : Bool) → owner_eq o p ≡ b →
            map (node_of p) (if b then [] else numbers_of s.own p) ≡ filter (is_owned_by p) (filter (λ x. not (is_owned_by o x)) (signals_of s))
        by p true same = subst (λ q. [] ≡ filter (is_owned_by q) (filter (λ x. not (is_owned_by o x)) (signals_of s))) (owner_eq-true o p same)
            (sym (own_gone o (signals_of s)))
        by p false other = kept.own p ∙ sym (own_apart o p other (signals_of s))

        late : (p : Owner) (b : Bool) → since_of t.own p ≡ (if b then n else since_of s.own p) → since_of t.own p ≤ length t.log.items
        late p true is = let long = ap length log in omega (arith, is, is_n, long)
        late p false is = let long = ap length log in let before = kept.since p in omega (arith, is, before, long)

    -- where none is left, there are none
    pub none_left : t.count ≡ 0 → [] ≡ filter (λ x. not (is_owned_by o x)) (signals_of s)
    none_left none = sym (empty (signals_of t) (sym taken_kept.counted ∙ none)) ∙ taken
      where
        empty : (xs : List NodeName) → length xs ≡ 0 → xs ≡ []
        empty [] e = refl
        empty (x ∷ xs) e = cc

-- no slots at all
pub none_kept : (t : Inside) → ((o : Owner) → numbers_of t.own o ≡ []) → ((o : Owner) → since_of t.own o ≡ 0) → t.log.items ≡ [] → t.count ≡ 0 → IsKept t
none_kept t numbers since log count = record {
  own = λ o. ap (map (node_of o)) (numbers o) ∙ sym (ap (λ xs. filter (is_owned_by o) (counting (since_of t.own) 0 xs)) log);
  since = λ o. let none = since o in omega (arith, none);
  counted = count ∙ sym (ap (λ xs. length (counting (since_of t.own) 0 xs)) log);
}

pub none_seen : (t : Inside) → t.log.items ≡ [] → signals_of t ≡ []
none_seen t log = ap (counting (since_of t.own) 0) log
