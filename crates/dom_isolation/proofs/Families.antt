-- Groups that keep makers: the page alone, the page with a family, a component with its makers, and all who are not inside a component. For the
-- page, and for the page with a family, a boundary host is a node of the page.
use Rattle.dom_base.proofs.Std.{◌≡◌, ◌≢◌, ◌≤◌, ℕ, zero, suc, Bool, true, false, not, ◌||◌, List, [], ◌∷◌, ◌++◌, flat_map, get_or, Option, Some, None, refl, sym}
use Rattle.dom_base.proofs.Std.{ap, ◌∙◌, arith, true≢false, append-nil, nat_le, slice_set, option_to_list, list_any, and_parts, leb-true, or_right}
use Rattle.dom_model.proofs.Model.{longer_path, no_path, made_by, Owner, Page, Component, owner_eq, owner_depth, component_made, MayAttach, World, host_above}
use Rattle.dom_model.proofs.Model.{host_chain, is_in_family, family_group, top_owner, makers_from, is_inside, makers_group, is_page, boundary_host}
use Rattle.dom_model.proofs.Model.{owner_eq-true, owner_eq-false, owner_eq-same, ne-owner_eq, component_made-no_page, maker-word, made_by-is, made_by-made}
use Rattle.dom_model.proofs.Model.{NodeName}
use Rattle.dom_worlds.proofs.ListLemmas.{by_cases, or-later}
use Rattle.dom_worlds.proofs.ShadowTreeLemmas.{IsBelow, above-host, below-host}
use Rattle.dom_worlds.proofs.OwnerLemmas.{hosted, hosted-owned, hosted-maker}
use Rattle.dom_isolation.specs.Definitions.{PageIsGroup, FamilyIsGroup, MakersAreGroup, OthersAreGroup, PageHostIsPage, FamilyHostIsPage}
use Rattle.dom_worlds.specs.Definitions.{IsWorld}
use Rattle.dom_isolation.proofs.OutsideViews.{found-passes, boundary-here, boundary-above, boundary-alone}

-- another number behind the first leaves the first
first-kept : (parts : List ℕ) (depth n : ℕ) → 1 ≤ depth → get_or (slice_set parts depth n) 0 0 ≡ get_or parts 0 0
first-kept [] zero n h = refl
first-kept [] (suc depth) n h = refl
first-kept (p ∷ ps) zero n h = absurd (omega (arith, h))
first-kept (p ∷ ps) (suc depth) n h = refl

-- so what a component makes is in its family
top_owner-made : (o : Owner) (k : ℕ) → MayAttach o → o ≢ Page → top_owner (component_made o k) ≡ top_owner o
top_owner-made Page k may off = absurd (off refl)
top_owner-made (Component q) k may off =
    let word = maker-word (Component q) may in
    let deep : 1 ≤ q.depth = leb-true 1 q.depth (and_parts (nat_le 1 q.depth) _ word).0 in
    ap (λ n. Component (longer_path no_path n)) (first-kept q.parts q.depth (suc k) deep)

-- no component is the page
made-no_page : (o : Owner) (k : ℕ) → is_page (component_made o k) ≡ false
made-no_page o k = ne-owner_eq (component_made o k) Page (component_made-no_page o k)

-- what a component makes is of a family with the page just where the component is
pub family-made : (root o : Owner) (k : ℕ) → MayAttach o → o ≢ Page → family_group root (component_made o k) ≡ family_group root o
family-made root o k may off =
    ap (λ b. b || is_in_family root (component_made o k)) (made-no_page o k ∙ sym (ne-owner_eq o Page off))
    ∙ ap (λ t. is_page o || owner_eq root t) (top_owner-made o k may off)

-- the page alone
pub page-is_group : PageIsGroup
page-is_group = record { page = refl; made = λ o k may h. absurd (true≢false (sym h ∙ made-no_page o k)) }

-- with a family
pub family-is_group : FamilyIsGroup
family-is_group root =
    record {
      page = refl;
      made = λ o k may h. by_cases (is_page o) (λ t. ap (λ b. b || is_in_family root o) t)
          (λ t. sym (family-made root o k may (owner_eq-false o Page t)) ∙ h);
    }

-- Makers.
-- those of whoever made an owner, as which one of its attaches
abbrev behind : ℕ → Option (Owner × ℕ) → List Owner
behind depth m = flat_map (λ ((maker, k) : Owner × ℕ). makers_from depth maker) (option_to_list m)

-- whether an owner is among some
abbrev among : Owner → List Owner → Bool
among o os = list_any (owner_eq o) os

-- an owner is the first of its makers
makers-first : (depth : ℕ) (o : Owner) (os : List Owner) → among o (makers_from depth o ++ os) ≡ true
makers-first zero o os = ap (λ b. b || among o os) (owner_eq-same o)
makers-first (suc depth) o os = ap (λ b. b || among o (behind depth (made_by o) ++ os)) (owner_eq-same o)

-- What an owner makes.
module _ (o : Owner) (k : ℕ) (may : MayAttach o) where
  -- whoever is inside what an owner made is inside that owner
  maker-among : (depth : ℕ) (c : Owner) → owner_depth c ≤ depth → among (component_made o k) (makers_from depth c) ≡ true → among o (makers_from depth c) ≡ true
  maker-among zero c d h =
      let same : component_made o k ≡ c = by_cases (owner_eq (component_made o k) c) (λ t. owner_eq-true (component_made o k) c t)
      (λ t. absurd (true≢false (sym (or-later (owner_eq (component_made o k) c) false t h)))) in
      let deep = ap owner_depth same in
      absurd (omega (arith, d, deep))
  maker-among (suc depth) c d h =
      by_cases (owner_eq (component_made o k) c)
      (λ t. or_right (owner_eq o c) (among o (behind depth (made_by c)))
      (ap (λ m. among o (behind depth m)) (ap made_by (sym (owner_eq-true (component_made o k) c t)) ∙ made_by-made o k may) ∙ makers-first depth o []))
      (λ t. or_right (owner_eq o c) (among o (behind depth (made_by c)))
      (from (made_by c) refl (or-later (owner_eq (component_made o k) c) (among (component_made o k) (behind depth (made_by c))) t h) (maker-among depth)))
    where
      from : (m : Option (Owner × ℕ)) → made_by c ≡ m → among (component_made o k) (behind depth m) ≡ true →
          ((p : Owner) → owner_depth p ≤ depth → among (component_made o k) (makers_from depth p) ≡ true → among o (makers_from depth p) ≡ true) →
          among o (behind depth m) ≡ true
      from None e a deeper = absurd (true≢false (sym a))
      from (Some (p, j)) e a deeper =
          let deep = ap owner_depth (made_by-is c p j e) in
          ap (among o) (append-nil (makers_from depth p))
          ∙ deeper p (omega (arith, d, deep)) (sym (ap (among (component_made o k)) (append-nil (makers_from depth p))) ∙ a)

  -- whoever an owner is inside of, what it makes is inside of too
  inside-made : (c : Owner) → is_inside c o ≡ true → is_inside c (component_made o k) ≡ true
  inside-made c h =
      or_right (owner_eq c (component_made o k)) (among c (behind (owner_depth o) (made_by (component_made o k))))
      (ap (λ m. among c (behind (owner_depth o) m)) (made_by-made o k may) ∙ ap (among c) (append-nil (makers_from (owner_depth o) o)) ∙ h)

-- a component with its makers
pub makers-are_group : MakersAreGroup
makers-are_group c =
    record {
      page = refl;
      made = λ o k may h. or_right (is_page o) (is_inside o c)
          (maker-among o k may (owner_depth c) c (omega arith)
          (or-later (is_page (component_made o k)) (is_inside (component_made o k) c) (made-no_page o k) h));
    }

-- the component is of that group
pub own-maker : (c : Owner) → makers_group c c ≡ true
own-maker c =
    or_right (is_page c) (is_inside c c)
    (ap (among c) (sym (append-nil (makers_from (owner_depth c) c))) ∙ makers-first (owner_depth c) c [])

-- all who are not inside a component
pub others-are_group : OthersAreGroup
others-are_group c off =
    record {
      page = ap (λ b. not (b || false)) (ne-owner_eq c Page off);
      made = λ o k may h. by_cases (is_inside c o) (λ t. absurd (true≢false (sym h ∙ ap not (inside-made o k may c t)))) (λ t. ap not t);
    }

-- for the page
pub page-host_is_page : PageHostIsPage
page-host_is_page w x host h = owner_eq-true host.owner Page (found-passes (λ y. is_page y.owner) (host_chain w x) host h)

-- The page with a family, in a world.
module _ (root : Owner) (w : World) (i : IsWorld w) where
  -- the group
  abbrev g : Owner → Bool
  g = family_group root

  -- a host of the group, of a node outside, is the page's
  host-page : (x up : NodeName) → g x.owner ≡ false → host_above w x ≡ Some up → g up.owner ≡ true → is_page up.owner ≡ true
  host-page x up h e t =
      let k = hosted w x.owner up (above-host w x up e).0 in
      let owned = hosted-owned w i x.owner up k in
      by_cases (is_page up.owner) (λ p. p)
      (λ p. let off = owner_eq-false up.owner Page p in
      let made = family-made root k.maker k.number (hosted-maker w i.makers x.owner up k) (λ q. off (owned ∙ q)) in
      absurd (true≢false (sym t ∙ ap g owned ∙ sym made ∙ ap g (made_by-is x.owner k.maker k.number k.named) ∙ h)))

  -- a node outside is no node of the page
  no_page : (x : NodeName) → g x.owner ≡ false → is_page x.owner ≡ false
  no_page x h = by_cases (is_page x.owner) (λ t. absurd (true≢false (sym (ap (λ b. b || is_in_family root x.owner) t) ∙ h))) (λ t. t)

  -- One step out.
  step-out : (x : NodeName) → g x.owner ≡ false →
      ((up : NodeName) → IsBelow w x up → g up.owner ≡ false → boundary_host g w up ≡ boundary_host is_page w up) →
      boundary_host g w x ≡ boundary_host is_page w x
  step-out x h more = from (host_above w x) refl
    where
      p : is_page x.owner ≡ false
      p = no_page x h

      from : (o : Option NodeName) → host_above w x ≡ o → boundary_host g w x ≡ boundary_host is_page w x
      from None e = boundary-alone g (family-is_group root) w i x h e ∙ sym (boundary-alone is_page page-is_group w i x p e)
      from (Some up) e =
          let below = below-host w i x up e in
          boundary-above g (family-is_group root) w i x up h below
          ∙ by_cases (g up.owner)
          (λ t. boundary-here g (family-is_group root) w i up t ∙ sym (boundary-here is_page page-is_group w i up (host-page x up h e t))) (more up below)
          ∙ sym (boundary-above is_page page-is_group w i x up p below)

  -- all of them
  climb : (depth : ℕ) (x : NodeName) → owner_depth x.owner ≤ depth → g x.owner ≡ false → boundary_host g w x ≡ boundary_host is_page w x
  climb zero x d h = step-out x h (λ up below t. let deep = below.deeper in absurd (omega (arith, d, deep)))
  climb (suc depth) x d h = step-out x h (λ up below t. let deep = below.deeper in climb depth up (omega (arith, d, deep)) t)

-- for the page with a family
pub family-host_is_page : FamilyHostIsPage
family-host_is_page root w i x h = climb root w i (owner_depth x.owner) x (omega arith) h
