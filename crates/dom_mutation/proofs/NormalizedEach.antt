-- Loops that normalize Texts, one after another.
use Rattle.dom_mutation.proofs.Cited.{◌≡◌, ℕ, suc, Bool, true, false, ◌+◌, ◌<◌, get_or, drop-cons, add-one, List, [], ◌∷◌, drop, length, map, refl, sym, ap}
use Rattle.dom_mutation.proofs.Cited.{subst, ◌∙◌, AllByRecursion, filter, if◌then◌else◌, NodeName, in_turn, after, normalizing_text, has_node, kind_of, is_text}
use Rattle.dom_mutation.proofs.Cited.{Part, part_of, HasBounds, IsPart, name_at, DocState, IsOwnNode, name_in, owner_in, trees_in, planned, IsAlone}
use Rattle.dom_mutation.proofs.Cited.{has_node-times, leads-normalizing_text, all_drop, keeps-normalizing_text}
use Rattle.dom_mutation.proofs.BoundedPlans.{normalized_text-keeps, normalized_text-leaves}
use Rattle.dom_mutation.proofs.Made.{alone_made, plan_alone, planned_turn}
use Rattle.dom_mutation.proofs.OwnPlans.{own_rules}

-- ---- one Text after another

-- a Text that stands in a part
pub record IsTextOf (p : Part) (x : NodeName) : Type 0 where
  pub there : has_node p.trees x ≡ true
  pub text : is_text (kind_of p.trees x) ≡ true

-- each of some nodes is one
pub all_texts : (d : DocState) (top : ℕ) → ((k : ℕ) → k < length d.names → has_node (trees_in d k) (name_in d k) ≡ true) → (ks : List ℕ) →
    AllByRecursion (IsOwnNode d top) ks
    → AllByRecursion (λ k. is_text (kind_of (trees_in d top) (name_in d k)) ≡ true) ks →
    AllByRecursion (λ k. IsTextOf (part_of d.world (owner_in d top)) (name_in d k)) ks
all_texts d top stand [] nodes texts = tt
all_texts d top stand (k ∷ ks) nodes texts = (
  record { there = ap (λ o. has_node (part_of d.world o).trees (name_in d k)) (sym nodes.0.1) ∙ stand k nodes.0.0; text = texts.0 },
  all_texts
      d top stand ks nodes.1 texts.1,
)

-- those that are listed as Texts are
filter_each : (p : NodeName → Bool) (ys : List NodeName) → AllByRecursion (λ y. p y ≡ true) (filter p ys)
filter_each p [] = tt
filter_each p (y ∷ ys) = by (filter_each p ys) (p y) refl
  where
    by : AllByRecursion (λ z. p z ≡ true) (filter p ys) → (t : Bool) → p y ≡ t → AllByRecursion (λ z. p z ≡ true) (if t then y ∷ filter p ys else filter p ys)
    by rest true e = (e, rest)
    by rest false e = rest

pub listed_texts : (f : ℕ → NodeName) (p : NodeName → Bool) (ys : List NodeName) (ks : List ℕ) → map f ks ≡ filter p ys →
    AllByRecursion (λ k. p (f k) ≡ true) ks
listed_texts f p ys ks listed = keys ks (subst (AllByRecursion (λ y. p y ≡ true)) (sym listed) (filter_each p ys))
  where
    keys : (ks : List ℕ) → AllByRecursion (λ y. p y ≡ true) (map f ks) → AllByRecursion (λ k. p (f k) ≡ true) ks
    keys [] h = tt
    keys (k ∷ ks) h = (h.0, keys ks h.1)

-- how far the loop has come that normalizes them, with these left
pub record Normalizes (top : ℕ) (all : List ℕ) (d : DocState) (rest : List ℕ) (e : DocState) : Type 0 where
  pub names : e.names ≡ d.names
  pub alone : IsAlone e.world (owner_in d top)
  pub part : IsPart (part_of e.world (owner_in d top))
  pub bounds : HasBounds (part_of e.world (owner_in d top))
  pub texts : AllByRecursion (λ k. IsTextOf (part_of e.world (owner_in d top)) (name_in d k)) rest
  pub state : planned (owner_in d top) (in_turn normalizing_text (map (name_in d) rest)) e ≡ planned (owner_in d top)
      (in_turn normalizing_text (map (name_in d) all)) d

pub normalizes_first : {top : ℕ} {all : List ℕ} {d : DocState} → IsAlone d.world (owner_in d top) → IsPart (part_of d.world (owner_in d top)) →
    HasBounds (part_of d.world (owner_in d top))
    → AllByRecursion (λ k. IsTextOf (part_of d.world (owner_in d top)) (name_in d k)) all → Normalizes top all d all d
normalizes_first alone part bounds texts = record { names = refl; alone = alone; part = part; bounds = bounds; texts = texts; state = refl }

-- the next one is asked for
pub normalizes_here : {top : ℕ} {all : List ℕ} {d : DocState} (i : ℕ) {k : ℕ} {e : DocState} → i < length all → k ≡ get_or all i k →
    AllByRecursion (IsOwnNode d top) all → Normalizes top all d (drop i all) e
    → (is_text (kind_of (trees_in e k) (name_in e k)) ≡ true) × HasBounds (part_of e.world (owner_in e k))
normalizes_here {top} {all} {d} i {k} {e} i< is nodes turn =
    let now : drop i all ≡ k ∷ drop (suc i) all = drop-cons all i k i< ∙ ap (λ j. j ∷ drop (suc i) all) (sym is) in
    let here = (subst (AllByRecursion (IsOwnNode d top)) now (all_drop (IsOwnNode d top) i all nodes)).0 in
    let text = (subst (AllByRecursion (λ k. IsTextOf (part_of e.world (owner_in d top)) (name_in d k))) now turn.texts).0 in
    let own : owner_in e k ≡ owner_in d top = ap (λ (ns : List NodeName). (name_at ns k).owner) turn.names ∙ here.1 in (
      ap (λ o. is_text (kind_of (part_of e.world o).trees (name_in e k))) own ∙
          ap (λ (ns : List NodeName). is_text (kind_of (part_of e.world (owner_in d top)).trees (name_at ns k))) turn.names ∙ text.text,
      subst (λ o. HasBounds (part_of e.world o)) (sym own) turn.bounds,
    )

-- the Texts that are left stay
texts_left : {p : Part} → IsPart p → {x : NodeName} → IsTextOf p x → (d : DocState) (ks : List ℕ) →
    AllByRecursion (λ k. IsTextOf p (name_in d k)) ks → AllByRecursion (λ k. IsTextOf (after p (normalizing_text x p)) (name_in d k)) ks
texts_left part is d [] h = tt
texts_left {p} part {x} is d (k ∷ ks) h =
    let left = normalized_text-leaves x (name_in d k) part is.there h.0.there h.0.text in
    (record { there = left.0; text = left.1 }, texts_left part is d ks h.1)

-- Texts below a node that are normalized one after another, from the state d.
module _ (top : ℕ) (all : List ℕ) (d : DocState) where
  -- a step of it
  pub normalizes_on : (i : ℕ) {k : ℕ} {e f : DocState} → i < length all → k ≡ get_or all i k → AllByRecursion (IsOwnNode d top) all →
      Normalizes top all d (drop i all) e → f ≡ planned (owner_in e k) (normalizing_text (name_in e k)) e → Normalizes top all d (drop (i + 1) all) f
  normalizes_on i {k} {e} {f} i< is nodes turn made =
      let now : drop i all ≡ k ∷ drop (suc i) all = drop-cons all i k i< ∙ ap (λ j. j ∷ drop (suc i) all) (sym is) in
      let here = (subst (AllByRecursion (IsOwnNode d top)) now (all_drop (IsOwnNode d top) i all nodes)).0 in
      let state = subst (λ ks. planned (owner_in d top) (in_turn normalizing_text (map (name_in d) ks)) e ≡ planned (owner_in d top)
      (in_turn normalizing_text (map (name_in d) all)) d) now turn.state in
      let at : f ≡ planned (owner_in d top) (normalizing_text (name_in d k)) e =
      made ∙ ap (λ (ns : List NodeName). planned (name_at ns k).owner (normalizing_text (name_at ns k)) e) turn.names ∙
      ap (λ w. planned w (normalizing_text (name_in d k)) e) here.1 in
      let x = name_in d k in
      let o = owner_in d top in
      let p = part_of e.world o in
      let texts = subst (AllByRecursion (λ k. IsTextOf p (name_in d k))) now turn.texts in
      let after_it : part_of f.world o ≡ after p (normalizing_text x p) =
      ap (λ (s : DocState). part_of s.world o) at ∙ plan_alone o (normalizing_text x) e.world turn.alone (keeps-normalizing_text (own_rules o) x) in
      subst (λ j. Normalizes top all d (drop j all) f) (sym (add-one i))
      (record {
        names = ap (λ (s : DocState). s.names) at ∙ turn.names;
        alone = subst (λ (s : DocState). IsAlone s.world o) (sym at)
            (alone_made o (normalizing_text x) e.world turn.alone (keeps-normalizing_text (own_rules o) x));
        part = subst IsPart (sym after_it) (leads-normalizing_text p x turn.part (has_node-times p.trees x texts.0.there)).changed.part;
        bounds = subst HasBounds (sym after_it) (normalized_text-keeps x p turn.part texts.0.there texts.0.text turn.bounds);
        texts = subst (λ q. AllByRecursion (λ k. IsTextOf q (name_in d k)) (drop (suc i) all)) (sym after_it)
            (texts_left turn.part texts.0 d (drop (suc i) all) texts.1);
        state = ap (planned o (in_turn normalizing_text (map (name_in d) (drop (suc i) all)))) at ∙
            planned_turn o normalizing_text x (map (name_in d) (drop (suc i) all)) e turn.alone (keeps-normalizing_text (own_rules o) x) ∙ state;
      })
