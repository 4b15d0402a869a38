-- A search along a run of `>` and `+`, step by step: what it has come to answers for what it began with.
use Rattle.dom_selectors.proofs.Cited.{◌≡◌, inl, inr, Bool, true, false, List, [], ◌∷◌, ◌++◌, Option, Some, None, refl, ap, sym, subst, ◌∙◌, append_assoc}
use Rattle.dom_selectors.proofs.Cited.{true≢false, ◌&&◌, option_to_list, list_any, and_parts, and_left, NodeName, last_of, Trees, ancestors, parent_of, Complex}
use Rattle.dom_selectors.proofs.Cited.{alone, joined, Combinator, descendant, child, next, later, CompoundPart, compound_matches, complex_matches}
use Rattle.dom_selectors.proofs.Cited.{combined_with, elements_before, In, In-left, In-right, In-parts, Has, proper-parent, Once, last_compound, elements_to}
use Rattle.dom_selectors.proofs.Cited.{only_left, IsSearched, MatchesAbove}
use Rattle.dom_selectors.proofs.Earlier.{any-passes, passes-any, stands-matching, IsEarlier, earlier-in, nearest}
use Rattle.dom_base.proofs.Std.{or-false}

-- d at z answers for c at x, for c at the elements before x and for c above x
pub record Leads (ts : Trees) (c : Complex) (x : NodeName) (d : Complex) (z : NodeName) : Type 0 where
  pub same : complex_matches ts c x ≡ complex_matches ts d z
  pub beside : list_any (complex_matches ts c) (elements_to ts x) ≡ true → list_any (complex_matches ts d) (elements_to ts z) ≡ true
  pub above : MatchesAbove ts c x → MatchesAbove ts d z

-- a search that has not begun
pub leads-same : (ts : Trees) (c : Complex) (x : NodeName) → Leads ts c x c x
leads-same ts c x = record { same = refl; beside = λ h. h; above = λ h. h }

-- a search that goes on
pub leads-on : {ts : Trees} {c d e : Complex} {x y z : NodeName} → Leads ts c x d y → Leads ts d y e z → Leads ts c x e z
leads-on f g = record { same = f.same ∙ g.same; beside = λ h. g.beside (f.beside h); above = λ h. g.above (f.above h) }

-- ---- where the last compound matches, the nodes that the combinator leaves answer

-- at one node
pub combined : (ts : Trees) (l : Complex) (how : Combinator) (k : List CompoundPart) (x : NodeName) → compound_matches ts k x ≡ true →
    complex_matches ts (joined l how k) x ≡ list_any (complex_matches ts l) (combined_with ts how x)
combined ts l how k x hit = ap (λ b. b && list_any (complex_matches ts l) (combined_with ts how x)) hit

-- and where it does not, nothing does
pub not_combined : (ts : Trees) (l : Complex) (how : Combinator) (k : List CompoundPart) (x : NodeName) → compound_matches ts k x ≡ false →
    complex_matches ts (joined l how k) x ≡ false
not_combined ts l how k x misses = and_left (compound_matches ts k x) _ misses

-- nor where the compound on the right does not
pub not_last : (ts : Trees) (c : Complex) (x : NodeName) → compound_matches ts (last_compound c) x ≡ false → complex_matches ts c x ≡ false
not_last ts (alone k) x misses = misses
not_last ts (joined l how k) x misses = not_combined ts l how k x misses

-- what a match says
pub matches-parts : (ts : Trees) (l : Complex) (how : Combinator) (k : List CompoundPart) (x : NodeName) → complex_matches ts (joined l how k) x ≡ true
    → (compound_matches ts k x ≡ true) × (list_any (complex_matches ts l) (combined_with ts how x) ≡ true)
matches-parts ts l how k x e = and_parts (compound_matches ts k x) _ e

-- one node at most
pub one-left : (p : NodeName → Bool) (o : Option NodeName) (y : NodeName) → o ≡ Some y → list_any p (option_to_list o) ≡ p y
one-left p o y e = ap (λ q. list_any p (option_to_list q)) e ∙ or-false (p y)

-- none
pub none-left : (p : NodeName → Bool) (o : Option NodeName) → o ≡ None → list_any p (option_to_list o) ≡ false
none-left p o e = ap (λ q. list_any p (option_to_list q)) e

-- where a node is left that matches
record Left (p : NodeName → Bool) (o : Option NodeName) : Type 0 where
  node : NodeName
  is : o ≡ Some node
  passes : p node ≡ true

left : (p : NodeName → Bool) (o : Option NodeName) → list_any p (option_to_list o) ≡ true → Left p o
left p None e = absurd (true≢false (sym e))
left p (Some y) e = record { node = y; is = refl; passes = sym (or-false (p y)) ∙ e }

module _ (ts : Trees) (l : Complex) (k : List CompoundPart) (x : NodeName) (once : Once ts) (has : Has ts x) (hit : compound_matches ts k x ≡ true) where
  -- a step to the parent
  pub child_leads : (p : NodeName) → parent_of ts x ≡ Some p → Leads ts (joined l child k) x l p
  child_leads p up = record { same = combined ts l child k x hit ∙ one-left (complex_matches ts l) (parent_of ts x) p up; beside = beside; above = above }
    where
      at : (u : NodeName) → parent_of ts u ≡ parent_of ts x → complex_matches ts (joined l child k) u ≡ true → complex_matches ts l p ≡ true
      at u its e = sym (one-left (complex_matches ts l) (parent_of ts u) p (its ∙ up)) ∙ (matches-parts ts l child k u e).1

      beside : list_any (complex_matches ts (joined l child k)) (elements_to ts x) ≡ true → list_any (complex_matches ts l) (elements_to ts p) ≡ true
      beside e =
          let w = any-passes (complex_matches ts (joined l child k)) (elements_to ts x) e in
          let its : parent_of ts w.node ≡ parent_of ts x = elim (In-parts w.node (elements_before ts x) (x ∷ []) w.among) [
            | inl i ↦ (earlier-in ts w.node x once has i).its.parent
            | inr i ↦ elim i [ inl same ↦ ap (parent_of ts) same | inr no_more ↦ absurd no_more ]
          ] in
          passes-any (complex_matches ts l) (elements_to ts p) p (In-right p (elements_before ts p) (p ∷ []) (inl refl)) (at w.node its w.passes)

      shorter : (q : NodeName) (front : List NodeName) → p ∷ ancestors ts p ≡ front ++ q ∷ ancestors ts q → complex_matches ts l q ≡ true → MatchesAbove ts l p
      shorter q [] e m = record { node = q; front = []; above = cc; matches = m }
      shorter q (f ∷ fs) e m =
          let rest : ancestors ts p ≡ fs ++ q ∷ ancestors ts q = cc in
          record { node = q; front = fs ++ q ∷ []; above = rest ∙ sym (append_assoc fs (q ∷ []) (ancestors ts q)); matches = m }

      above : MatchesAbove ts (joined l child k) x → MatchesAbove ts l p
      above w =
          let parts = matches-parts ts l child k w.node w.matches in
          let q = left (complex_matches ts l) (parent_of ts w.node) parts.1 in
          let stands = stands-matching ts k w.node parts.0 in
          shorter q.node w.front (sym (proper-parent ts x p once has up).0 ∙
          (w.above ∙ ap (λ xs. w.front ++ xs) (proper-parent ts w.node q.node once stands q.is).0)) q.passes

  -- a root has none
  pub no_child : parent_of ts x ≡ None → complex_matches ts (joined l child k) x ≡ false
  no_child up = combined ts l child k x hit ∙ none-left (complex_matches ts l) (parent_of ts x) up

  -- a step to the nearest element before
  pub next_leads : (z : NodeName) → last_of (elements_before ts x) ≡ Some z → Leads ts (joined l next k) x l z
  next_leads z e = record {
    same = combined ts l next k x hit ∙ one-left (complex_matches ts l) (last_of (elements_before ts x)) z e;
    beside = beside;
    above = above;
  }
    where
      at : (elements_before ts x ≡ elements_to ts z) × IsEarlier ts z x (elements_before ts z)
      at = nearest ts z x once has e

      earlier : (u : NodeName) → In u (elements_before ts x) → complex_matches ts (joined l next k) u ≡ true →
          list_any (complex_matches ts l) (elements_to ts z) ≡ true
      earlier u i m =
          let w = earlier-in ts u x once has i in
          let v = left (complex_matches ts l) (last_of (elements_before ts u)) (matches-parts ts l next k u m).1 in
          let its = nearest ts v.node u once w.its.stands v.is in
          let among : In v.node (elements_before ts u) = subst (In v.node) (sym its.0) (In-right v.node (elements_before ts v.node) (v.node ∷ []) (inl refl)) in
          passes-any (complex_matches ts l) (elements_to ts z) v.node
          (subst (In v.node) (sym w.split ∙ at.0) (In-left v.node (elements_before ts u) (u ∷ w.behind) among)) v.passes

      beside : list_any (complex_matches ts (joined l next k)) (elements_to ts x) ≡ true → list_any (complex_matches ts l) (elements_to ts z) ≡ true
      beside h =
          let w = any-passes (complex_matches ts (joined l next k)) (elements_to ts x) h in
          elim (In-parts w.node (elements_before ts x) (x ∷ []) w.among) [
            | inl i ↦ earlier w.node i w.passes
            | inr i ↦ elim i [
              | inl same ↦
                  let here : complex_matches ts (joined l next k) x ≡ true = ap (complex_matches ts (joined l next k)) (sym same) ∙ w.passes in
                  passes-any (complex_matches ts l) (elements_to ts z) z (In-right z (elements_before ts z) (z ∷ []) (inl refl))
                  (sym (one-left (complex_matches ts l) (last_of (elements_before ts x)) z e) ∙ (matches-parts ts l next k x here).1)
              | inr no_more ↦ absurd no_more
            ]
          ]

      above : MatchesAbove ts (joined l next k) x → MatchesAbove ts l z
      above w =
          let parts = matches-parts ts l next k w.node w.matches in
          let v = left (complex_matches ts l) (last_of (elements_before ts w.node)) parts.1 in
          let its = nearest ts v.node w.node once (stands-matching ts k w.node parts.0) v.is in
          record { node = v.node; front = w.front; above = at.1.above ∙ (w.above ∙ ap (λ xs. w.front ++ xs) (sym its.1.above)); matches = v.passes }

  -- a first element has none
  pub no_next : last_of (elements_before ts x) ≡ None → complex_matches ts (joined l next k) x ≡ false
  no_next e = combined ts l next k x hit ∙ none-left (complex_matches ts l) (last_of (elements_before ts x)) e

-- ---- the same, by what a combinator leaves

module _ (ts : Trees) {c l : Complex} {how : Combinator} {k : List CompoundPart} (x : NodeName) (is : c ≡ joined l how k)
    (matches : compound_matches ts (last_compound c) x ≡ true) where
  -- the compound on the right matches
  pub hits : compound_matches ts k x ≡ true
  hits = sym (ap (λ d. compound_matches ts (last_compound d) x) is) ∙ matches

  module _ (once : Once ts) (has : Has ts x) (one : IsSearched how → ⊥) where
    leads_by : (h : Combinator) → (IsSearched h → ⊥) → (z : NodeName) → only_left ts h x ≡ Some z → Leads ts (joined l h k) x l z
    leads_by descendant none z e = absurd (none tt)
    leads_by child none z e = child_leads ts l k x once has hits z e
    leads_by next none z e = next_leads ts l k x once has hits z e
    leads_by later none z e = absurd (none tt)

    misses_by : (h : Combinator) → (IsSearched h → ⊥) → only_left ts h x ≡ None → complex_matches ts (joined l h k) x ≡ false
    misses_by descendant none e = absurd (none tt)
    misses_by child none e = no_child ts l k x once has hits e
    misses_by next none e = no_next ts l k x once has hits e
    misses_by later none e = absurd (none tt)

    -- to the node that it leaves
    pub leads-left : (z : NodeName) → only_left ts how x ≡ Some z → Leads ts c x l z
    leads-left z e = subst (λ d. Leads ts d x l z) (sym is) (leads_by how one z e)

    -- it leaves none
    pub none_left : only_left ts how x ≡ None → complex_matches ts c x ≡ false
    none_left e = ap (λ d. complex_matches ts d x) is ∙ misses_by how one e
