-- The world of what a `Doc` holds: who is there, what an owner's part is, and that a change of one owner's part is the
-- world with that part written.
use Rattle.dom_mutation.proofs.Cited.{◌≡◌, ◌≢◌, true, false, true≢false, List, [], ◌∷◌, ◌++◌, Option, Some, None, map, unwrap_or, ◌⊎◌, inl, inr, refl, sym, ap}
use Rattle.dom_mutation.proofs.Cited.{subst, ◌∙◌, is_some, cases_Bool, NodeName, Owner, owner_eq, Part, empty_part, World, Task, find_part, put_part, part_of}
use Rattle.dom_mutation.proofs.Cited.{with_part, is_there, owner_eq-same, owner_eq-true, owner_eq-false, Contents, part_in, world_of}

-- an owner is one of these
abbrev pub In : Owner → List Owner → Type 0
In o [] = ⊥
In o (q ∷ os) = (q ≡ o) ⊎ In o os

-- one of these is still one with another behind them
pub In-push : (o : Owner) (os : List Owner) (q : Owner) → In o os → In o (os ++ q ∷ [])
In-push o [] q h = absurd h
In-push o (p ∷ os) q (inl e) = inl e
In-push o (p ∷ os) q (inr h) = inr (In-push o os q h)

pub In-end : (os : List Owner) (q : Owner) → In q (os ++ q ∷ [])
In-end [] q = inl refl
In-end (p ∷ os) q = inr (In-end os q)

-- none of these stands there twice
abbrev pub Single : List Owner → Type 0
Single [] = Unit {0}
Single (q ∷ os) = (In q os → ⊥) × Single os

module _ (c : Contents) (o : Owner) where
  -- the part of one of the owners
  found_in : (os : List Owner) → In o os → find_part (map (part_in c) os) o ≡ Some (part_in c o)
  found_in [] h = absurd h
  found_in (q ∷ os) h = elim (cases_Bool (owner_eq q o)) [
    | inl e ↦ rw e (ap (λ p. Some (part_in c p)) (owner_eq-true q o e))
    | inr e ↦ rw e (found_in os (elim h [ inl same ↦ absurd (owner_eq-false q o e same) | inr later ↦ later ]))
  ]

  -- one whose part is found is one of them
  in_found : (os : List Owner) → is_some (find_part (map (part_in c) os) o) ≡ true → In o os
  in_found [] h = cc
  in_found (q ∷ os) h = elim (cases_Bool (owner_eq q o)) [
    | inl e ↦ inl (owner_eq-true q o e)
    | inr e ↦ inr (in_found os (rw e at h))
  ]

  pub there_in : is_there (world_of c) o ≡ true → In o c.owners
  there_in h = in_found c.owners h

  pub in_there : In o c.owners → is_there (world_of c) o ≡ true
  in_there h = ap is_some (found_in c.owners h)

  -- its part in the world is that of what is held
  pub part_at : is_there (world_of c) o ≡ true → part_of (world_of c) o ≡ part_in c o
  part_at h = ap (λ p. unwrap_or p (empty_part o)) (found_in c.owners (there_in h))

  -- another one's is empty
  pub part_off : is_there (world_of c) o ≡ false → part_of (world_of c) o ≡ empty_part o
  part_off h = by (find_part (map (part_in c) c.owners) o) h
    where
      by : (p : Option Part) → is_some p ≡ false → unwrap_or p (empty_part o) ≡ empty_part o
      by None h = refl
      by (Some p) h = cc

-- who is there, no change of the parts changes
pub there_same : (a b : Contents) → a.owners ≡ b.owners → (o : Owner) → is_there (world_of a) o ≡ is_there (world_of b) o
there_same a b same o = each a.owners ∙ ap (λ os. is_some (find_part (map (part_in b) os) o)) same
  where
    each : (os : List Owner) → is_some (find_part (map (part_in a) os) o) ≡ is_some (find_part (map (part_in b) os) o)
    each [] = refl
    each (q ∷ os) = elim (cases_Bool (owner_eq q o)) [ inl e ↦ rw e refl | inr e ↦ rw e (each os) ]

-- what is read alike of the same owners' parts
pub read_same : (a b : Contents) → a.owners ≡ b.owners → {R : Type 0} (read : Part → R) → ((q : Owner) → read (part_in a q) ≡ read (part_in b q)) →
    (o : Owner) → read (part_of (world_of a) o) ≡ read (part_of (world_of b) o)
read_same a b same read like o = each a.owners ∙ ap (λ os. read (unwrap_or (find_part (map (part_in b) os) o) (empty_part o))) same
  where
    each : (os : List Owner) → read (unwrap_or (find_part (map (part_in a) os) o) (empty_part o)) ≡
        read (unwrap_or (find_part (map (part_in b) os) o) (empty_part o))
    each [] = refl
    each (q ∷ os) = elim (cases_Bool (owner_eq q o)) [ inl e ↦ rw e (like q) | inr e ↦ rw e (each os) ]

-- one owner's part changes, and no other one's
pub record IsChangeOf (a b : Contents) (o : Owner) (p : Part) : Type 0 where
  pub owners : b.owners ≡ a.owners
  pub signalled : b.signalled ≡ a.signalled
  pub tasks : b.tasks ≡ a.tasks
  pub own : part_in b o ≡ p
  pub others : (q : Owner) → q ≢ o → part_in b q ≡ part_in a q

module _ (a b : Contents) (o : Owner) (p : Part) (own : part_in b o ≡ p) (others : (q : Owner) → q ≢ o → part_in b q ≡ part_in a q) where
  -- where it is not, nothing changes
  rest_same : (os : List Owner) → (In o os → ⊥) → map (part_in b) os ≡ map (part_in a) os
  rest_same [] off = refl
  rest_same (q ∷ os) off =
      ap (λ r. r ∷ map (part_in b) os) (others q (λ e. off (inl e))) ∙ ap (λ rs. part_in a q ∷ rs) (rest_same os (λ h. off (inr h)))

  put_in : (os : List Owner) → Single os → In o os → map (part_in b) os ≡ put_part (map (part_in a) os) p
  put_in [] single h = absurd h
  put_in (q ∷ os) single h = elim (cases_Bool (owner_eq q o)) [
    | inl e ↦ here (owner_eq-true q o e)
    | inr e ↦ beside e (put_in os single.1 (elim h [ inl same ↦ absurd (owner_eq-false q o e same) | inr later ↦ later ]))
  ]
    where
      owner : p.owner ≡ o
      owner = ap (λ (r : Part). r.owner) (sym own)

      here : q ≡ o → map (part_in b) (q ∷ os) ≡ put_part (map (part_in a) (q ∷ os)) p
      here e =
          let test : owner_eq q p.owner ≡ true = ap (λ r. owner_eq q r) (owner ∙ sym e) ∙ owner_eq-same q in
          rw test (ap (λ r. part_in b r ∷ map (part_in b) os) e ∙ ap (λ r. r ∷ map (part_in b) os) own ∙
          ap (λ rs. p ∷ rs) (rest_same os (subst (λ r. In r os → ⊥) e single.0)))

      beside : owner_eq q o ≡ false → map (part_in b) os ≡ put_part (map (part_in a) os) p → map (part_in b) (q ∷ os) ≡ put_part (map (part_in a) (q ∷ os)) p
      beside e rest =
          let test : owner_eq q p.owner ≡ false = ap (λ r. owner_eq q r) owner ∙ e in
          rw test (ap (λ r. r ∷ map (part_in b) os) (others q (owner_eq-false q o e)) ∙ ap (λ rs. part_in a q ∷ rs) rest)

abbrev world_with : List Part → List NodeName → List Task → World
world_with ps ss ts = record { parts = ps; signalled = ss; tasks = ts; turn = None }

-- then the world has that part written
pub changed : (a b : Contents) (o : Owner) {p : Part} → Single a.owners → is_there (world_of a) o ≡ true → IsChangeOf a b o p →
    world_of b ≡ with_part (world_of a) p
changed a b o {p} single there change =
    ap (λ os. world_with (map (part_in b) os) b.signalled b.tasks) change.owners
    ∙ ap (λ ps. world_with ps b.signalled b.tasks) (put_in a b o p change.own change.others a.owners single (there_in a o there))
    ∙ ap (λ ss. world_with (put_part (map (part_in a) a.owners) p) ss b.tasks) change.signalled
    ∙ ap (world_with (put_part (map (part_in a) a.owners) p) a.signalled) change.tasks

-- ---- one owner more

-- one owner more is there, behind the others, and no other one's part changes
pub record HasPartMore (a b : Contents) (o : Owner) : Type 0 where
  pub owners : b.owners ≡ a.owners ++ o ∷ []
  pub signalled : b.signalled ≡ a.signalled
  pub tasks : b.tasks ≡ a.tasks
  pub others : (q : Owner) → q ≢ o → part_in b q ≡ part_in a q

-- the world with a part behind the others
pub joined : (a b : Contents) (o : Owner) → is_there (world_of a) o ≡ false → HasPartMore a b o → world_of b ≡ with_part (world_of a) (part_in b o)
joined a b o off more =
    ap (λ os. world_with (map (part_in b) os) b.signalled b.tasks) more.owners
    ∙ ap (λ ps. world_with ps b.signalled b.tasks) (each a.owners off)
    ∙ ap (λ ss. world_with (put_part (map (part_in a) a.owners) (part_in b o)) ss b.tasks) more.signalled
    ∙ ap (world_with (put_part (map (part_in a) a.owners) (part_in b o)) a.signalled) more.tasks
  where
    each : (os : List Owner) → is_some (find_part (map (part_in a) os) o) ≡ false → map (part_in b) (os ++ o ∷ []) ≡ put_part (map (part_in a) os) (part_in b o)
    each [] off = refl
    each (q ∷ os) off = elim (cases_Bool (owner_eq q o)) [
      | inl e ↦ absurd (true≢false (rw e at off))
      | inr e ↦ rw e (ap (λ r. r ∷ map (part_in b) (os ++ o ∷ [])) (more.others q (owner_eq-false q o e)) ∙ ap (λ rs. part_in a q ∷ rs) (each os (rw e at off)))
    ]
