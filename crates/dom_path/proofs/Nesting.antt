-- Up through the trees on an event's way, one at a time.
use Rattle.dom_path.proofs.Cited.{◌≡◌, inl, inr, ℕ, zero, suc, ◌<◌, ◌≤◌, Bool, true, false, ◌||◌, List, [], ◌∷◌, ◌++◌, length, Option, Some, None, refl, sym}
use Rattle.dom_path.proofs.Cited.{ap, subst, ◌∙◌, arith, append_assoc, length-append, nat_eq, slice_get, is_some, if◌then◌else◌, option_and_then, option_map_or}
use Rattle.dom_path.proofs.Cited.{append-nil, slice_get_within, is_in, slice_get-push, Tree, IsNested, AreNested, Grows, roots_up, roots_around, hiding_host}
use Rattle.dom_path.proofs.Cited.{outer_of, seen_up, seen_from}

-- nor does one more disturb them
pub nested-more : (trees : List Tree) (t : Tree) → AreNested trees → IsNested (length trees) t → AreNested (trees ++ t ∷ [])
nested-more trees t each here place x at = elim (slice_get-push trees place t x at) [
  | inl h ↦ subst (λ (y : Tree). IsNested place y) (sym h.1) (subst (λ k. IsNested k t) (sym h.0) here)
  | inr h ↦ each place x h
]

-- a tree that is there stays there
pub kept-more : (trees more : List Tree) (place : ℕ) (t : Tree) → slice_get trees place ≡ Some t → slice_get (trees ++ more) place ≡ Some t
kept-more [] more zero t h = cc
kept-more [] more (suc place) t h = cc
kept-more (x ∷ trees) more zero t h = h
kept-more (x ∷ trees) more (suc place) t h = kept-more trees more place t h

-- trees that did not grow, and some that grew twice
pub grows-none : (trees : List Tree) → Grows trees trees
grows-none trees = ([], sym (append-nil trees))

pub grows-twice : (a b c : List Tree) → Grows a b → Grows b c → Grows a c
grows-twice a b c g h = (g.0 ++ h.0, h.1 ∙ ap (λ ts. ts ++ h.0) g.1 ∙ append_assoc a g.0 h.0)

-- they are no fewer
pub grows-longer : (old new : List Tree) → Grows old new → length old ≤ length new
grows-longer old new g = let e = ap length g.1 in let k = length-append old g.0 in omega (arith, e, k)

module _ (trees : List Tree) (nested : AreNested trees) where
  -- with more steps than it has trees around it the way out is the same
  roots-enough : (n m place : ℕ) → place < n → place < m → roots_up trees n place ≡ roots_up trees m place
  roots-enough zero m place h k = absurd (omega arith)
  roots-enough (suc n) zero place h k = absurd (omega arith)
  roots-enough (suc n) (suc m) place h k = from (λ below g. roots-enough n m below (omega (arith, g, h)) (omega (arith, g, k))) (slice_get trees place) refl
    where
      from : ((below : ℕ) → below < place → roots_up trees n below ≡ roots_up trees m below) → (o : Option Tree) → slice_get trees place ≡ o
          → option_map_or (λ (t : Tree). t.root ∷ (if is_some t.host then roots_up trees n t.outer else [])) o []
          ≡ option_map_or (λ (t : Tree). t.root ∷ (if is_some t.host then roots_up trees m t.outer else [])) o []
      from again None e = refl
      from again (Some t) e = ap (λ rs. t.root ∷ rs) (by again t e (is_some t.host) refl)
        where
          by : ((below : ℕ) → below < place → roots_up trees n below ≡ roots_up trees m below) → (t : Tree) → slice_get trees place ≡ Some t →
              (b : Bool) → is_some t.host ≡ b
              → (if b then roots_up trees n t.outer else []) ≡ (if b then roots_up trees m t.outer else [])
          by again t e false g = refl
          by again t e true g = again t.outer ((nested place t e).behind g)

  -- the roots around a tree are its own, and those around the tree of its host
  pub roots-step : (place : ℕ) (t : Tree) → slice_get trees place ≡ Some t →
      roots_around trees place ≡ t.root ∷ (if is_some t.host then roots_around trees t.outer else [])
  roots-step place t e =
      ap (λ o. option_map_or (λ (t : Tree). t.root ∷ (if is_some t.host then roots_up trees place t.outer else [])) o []) e
      ∙ ap (λ rs. t.root ∷ rs) (by (is_some t.host) refl)
    where
      by : (b : Bool) → is_some t.host ≡ b → (if b then roots_up trees place t.outer else []) ≡ (if b then roots_around trees t.outer else [])
      by false g = refl
      by true g = let below = (nested place t e).behind g in roots-enough place (suc t.outer) t.outer below (omega arith)

  -- A tree whose nodes are hidden.
  pub record Hides (viewer place host : ℕ) : Type 0 where
    pub t : Tree
    pub here : slice_get trees place ≡ Some t
    pub its : t.host ≡ Some host
    pub apart : is_in nat_eq t.root (roots_around trees viewer) ≡ false

  module _ (viewer : ℕ) where
    -- a tree with a host that hides it is one
    pub hides : (place host : ℕ) → hiding_host trees viewer place ≡ Some host → Hides viewer place host
    hides place host h = from (slice_get trees place) refl h
      where
        by : (t : Tree) → slice_get trees place ≡ Some t → (b : Bool) → is_in nat_eq t.root (roots_around trees viewer) ≡ b →
            (if b then None else t.host) ≡ Some host → Hides viewer place host
        by t e true g k = cc
        by t e false g k = record { t = t; here = e; its = k; apart = g }

        from : (o : Option Tree) → slice_get trees place ≡ o →
            option_and_then (λ (t : Tree). if is_in nat_eq t.root (roots_around trees viewer) then None else t.host) o ≡ Some host →
            Hides viewer place host
        from None e g = cc
        from (Some t) e g = by t e (is_in nat_eq t.root (roots_around trees viewer)) refl g

    -- the tree around it has a place before it
    pub outer-below : (place host : ℕ) → hiding_host trees viewer place ≡ Some host → outer_of trees place < place
    outer-below place host h =
        let k = hides place host h in
        let below = (nested place k.t k.here).behind (ap is_some k.its) in
        subst (λ o. option_map_or (λ (t : Tree). t.outer) o 0 < place) (sym k.here) below

    -- with more steps than that what is seen is the same
    seen-enough : (n m node place : ℕ) → place < n → place < m → seen_up trees n viewer node place ≡ seen_up trees m viewer node place
    seen-enough zero m node place h k = absurd (omega arith)
    seen-enough (suc n) zero node place h k = absurd (omega arith)
    seen-enough (suc n) (suc m) node place h k =
        from (λ host below g. seen-enough n m host below (omega (arith, g, h)) (omega (arith, g, k))) (hiding_host trees viewer place) refl
      where
        from : ((host below : ℕ) → below < place → seen_up trees n viewer host below ≡ seen_up trees m viewer host below) → (o : Option ℕ) →
            hiding_host trees viewer place ≡ o
            → option_map_or (λ host. seen_up trees n viewer host (outer_of trees place)) o node ≡ option_map_or
            (λ host. seen_up trees m viewer host (outer_of trees place)) o node
        from again None e = refl
        from again (Some host) e = again host (outer_of trees place) (outer-below place host e)

    -- what is seen of a node is what is seen of its host, where it is hidden
    pub seen-host : (node place host : ℕ) → hiding_host trees viewer place ≡ Some host →
        seen_from trees viewer node place ≡ seen_from trees viewer host (outer_of trees place)
    seen-host node place host e =
        ap (λ o. option_map_or (λ host. seen_up trees place viewer host (outer_of trees place)) o node) e
        ∙ (let below = outer-below place host e in seen-enough place (suc (outer_of trees place)) host (outer_of trees place) below (omega arith))

module _ (trees : List Tree) where
  -- the host by which a tree's nodes are hidden, read at a tree
  pub hiding-is : (viewer place : ℕ) {t : Tree} {b : Bool} → slice_get trees place ≡ Some t → is_in nat_eq t.root (roots_around trees viewer) ≡ b →
      hiding_host trees viewer place ≡ (if b then None else t.host)
  hiding-is viewer place {t} {b} e g =
      ap (option_and_then (λ (t : Tree). if is_in nat_eq t.root (roots_around trees viewer) then None else t.host)) e ∙
      ap (λ (b : Bool). if b then None else t.host) g

  -- and the tree around it
  pub outer-is : (place : ℕ) (t : Tree) → slice_get trees place ≡ Some t → outer_of trees place ≡ t.outer
  outer-is place t e = ap (λ o. option_map_or (λ (t : Tree). t.outer) o 0) e

  -- one step of the way out, from a tree that has another root
  pub encloses-step : AreNested trees → (root place : ℕ) {t : Tree} → slice_get trees place ≡ Some t → nat_eq root t.root ≡ false → is_some t.host ≡ true →
      (t.outer < length trees) × (is_in nat_eq root (roots_around trees t.outer) ≡ is_in nat_eq root (roots_around trees place))
  encloses-step nested root place {t = t} e other there =
      let below = (nested place t e).behind there in
      let within = slice_get_within trees place t e in (
        omega (arith, below, within),
        sym (ap (is_in nat_eq root) (roots-step trees nested place t e)
            ∙ ap (λ b. b || is_in nat_eq root (if is_some t.host then roots_around trees t.outer else [])) other
            ∙ ap (λ (b : Bool). is_in nat_eq root (if b then roots_around trees t.outer else [])) there),
      )
