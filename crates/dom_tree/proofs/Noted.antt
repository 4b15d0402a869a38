-- Who may have an ID, as nodes come and change.
use Rattle.dom_base.proofs.Std.{◌≡◌, ◌≢◌, ◌⊎◌, inl, inr, ℕ, ◌<◌, true, false, eqb, List, [], ◌∷◌, ◌++◌, length, set, codes, Option, Some, None, refl, sym, ap}
use Rattle.dom_base.proofs.Std.{subst, ◌∙◌, arith, slice_get, option_map, eqb_tells, length-set, length_push, same_Some, none-some, slice_get_within}
use Rattle.dom_base.proofs.Std.{cond, Bool, length-map, slice_get-map, slice_get_cases, get_or_from_slice_get}
use Rattle.dom_model.proofs.Model.{Owner, NodeName, attribute_value, Word, DomString, text_eq, attributes_with, attributes_without}
use Rattle.dom_attributes.specs.Attributes.{HaveOwnNames, value_among}
use Rattle.dom_tree.specs.Definitions.{Stored, stored_from, NamedTrees, name_at, IsKept}
use Rattle.dom_tree.specs.Ids.{code_in, id_code, HasId, MayHave, MayBear, only_bearer, Widens, Narrows, IsNoteOf, AreNoted, IsKeptWithIds}
use Rattle.dom_tree.specs.declared.ids.Bearer.{Bearer}
use Rattle.dom_tree.specs.declared.ids.Bearer.TheVariants.{Only, Several}
use Rattle.dom_tree.proofs.Kept.{seen, within, shows_node}
use Rattle.dom_tree.proofs.Adding.{push_cases}
use Rattle.dom_attributes.proofs.AttributeValues.{text_same, other_name, value-set, value-set_other, value-removed, value-removed_other}
use Rattle.dom_tree.proofs.Setting.{slice_get-set_same, slice_get-set_other, IsKept-set_same}

-- the same bearers
pub widens-same : {f g : ℕ → Option Bearer} (x : ℕ) → ((h : ℕ) → g h ≡ f h) → Widens f g x
widens-same x same = record {
  kept = λ h j may. subst (λ o. MayHave o j) (sym (same h)) may;
  inside = λ h j only. inl (sym (same h) ∙ only);
}

pub narrows-same : {f : ℕ → Option Bearer} (x : ℕ) → Narrows None f f x
narrows-same x = record { kept = λ h j may other. may; inside = λ h j only. only }

-- who alone may have an ID is among so many nodes
pub within_from : {f g : ℕ → Option Bearer} {x n : ℕ} → Widens f g x → x < n → ((h k : ℕ) → f h ≡ Some (Only k) → k < n) →
    (h k : ℕ) → g h ≡ Some (Only k) → k < n
within_from {f = f} {x = x} {n = n} wide node inside h k only = by (wide.inside h k only)
  where
    by : (f h ≡ Some (Only k)) ⊎ (k ≡ x) → k < n
    by (inl old) = inside h k old
    by (inr is) = omega (arith, node, is)

-- more may have IDs
pub noted-more : {f g : ℕ → Option Bearer} {ps : List Stored} {x : ℕ} → AreNoted f ps → Widens f g x → x < length ps → AreNoted g ps
noted-more all wide node = record {
  covered = λ k h s at has. wide.kept h k (all.covered k h s at has);
  inside = within_from wide node all.inside;
}

-- as many may
pub noted-same : {f g : ℕ → Option Bearer} {ps : List Stored} → AreNoted f ps → ((h : ℕ) → g h ≡ f h) → AreNoted g ps
noted-same all same = record {
  covered = λ k h s at has. subst (λ o. MayHave o k) (sym (same h)) (all.covered k h s at has);
  inside = λ h k only. all.inside h k (sym (same h) ∙ only);
}

-- one node is stored anew, and noted before and after
module _ {f g e : ℕ → Option Bearer} {ps : List Stored} {x : ℕ} {left : Option ℕ} (all : AreNoted f ps) (wide : Widens f g x)
    (narrow : Narrows left g e x) where
  pub noted-set : {s t : Stored} → slice_get ps x ≡ Some s → IsNoteOf g x s t left → AreNoted e (set ps x t)
  noted-set {s = s} {t = t} at note = record {
    covered = λ k h u at_k has. covered k h u at_k has (eqb_tells k x);
    inside = λ h k only. omega (arith, within_from wide (slice_get_within ps x s at) all.inside h k (narrow.inside h k only), length-set ps x t);
  }
    where
      noted : (h : ℕ) → (code_in s ≡ Some h) ⊎ MayHave (g h) x → MayHave (g h) x
      noted h (inl had) = wide.kept h x (all.covered x h s at had)
      noted h (inr may) = may

      covered : (k h : ℕ) (u : Stored) → slice_get (set ps x t) k ≡ Some u → code_in u ≡ Some h → ((eqb k x ≡ true) × (k ≡ x)) ⊎
          ((eqb k x ≡ false) × (k ≢ x)) → MayHave (e h) k
      covered k h u at_k has (inl here) =
          let is : t ≡ u = same_Some t u (sym (slice_get-set_same ps x s t at) ∙ (ap (slice_get (set ps x t)) (sym here.1) ∙ at_k)) in
          let has_it : code_in t ≡ Some h = ap code_in is ∙ has in
          narrow.kept h k (subst (MayHave (g h)) (sym here.1) (noted h (note.noted h has_it))) (λ gone. absurd (note.gone h gone has_it))
      covered k h u at_k has (inr other) =
          narrow.kept h k (wide.kept h k (all.covered k h u (sym (slice_get-set_other ps x k t other.1) ∙ at_k) has)) (λ gone. other.1)

  -- the same, where the node was read before it was stored anew by a change
  pub noted-anew : {s u t : Stored} → slice_get ps x ≡ Some u → slice_get ps x ≡ Some s → (change : Stored → Stored) → t ≡ change s →
      IsNoteOf g x u (change u) left → AreNoted e (set ps x t)
  noted-anew {s = s} {u = u} read at change is note =
      noted-set at (subst (λ (v : Stored). IsNoteOf g x s v left) (sym is)
      (subst (λ (v : Stored). IsNoteOf g x v (change v) left) (same_Some u s (sym read ∙ at)) note))

-- one node is stored anew with the ID that it had
pub noted-set_same : {f : ℕ → Option Bearer} {ps : List Stored} (x : ℕ) {s : Stored} (t : Stored) → AreNoted f ps → slice_get ps x ≡ Some s →
    code_in t ≡ code_in s → AreNoted f (set ps x t)
noted-set_same x t all at same =
    noted-set all (widens-same x (λ h. refl)) (narrows-same x) at
    (record { noted = λ h has. inl (sym same ∙ has); gone = λ h gone. absurd (none-some h gone) })

-- a node more
pub noted-push : {f g : ℕ → Option Bearer} {ps : List Stored} → AreNoted f ps → (s : Stored) → Widens f g (length ps) →
    ((h : ℕ) → code_in s ≡ Some h → MayHave (g h) (length ps)) → AreNoted g (ps ++ s ∷ [])
noted-push {f = f} {g = g} {ps = ps} all s wide noted = record {
  covered = λ k h u at has. covered k h u has (push_cases ps s u k at);
  inside = within_from wide (omega (arith, length_push ps s)) (λ h k only. omega (arith, all.inside h k only, length_push ps s));
}
  where
    covered : (k h : ℕ) (u : Stored) → code_in u ≡ Some h → (slice_get ps k ≡ Some u) ⊎ ((k ≡ length ps) × (s ≡ u)) → MayHave (g h) k
    covered k h u has (inl at) = wide.kept h k (all.covered k h u at has)
    covered k h u has (inr new) = subst (MayHave (g h)) (sym new.0) (noted h (ap code_in new.1 ∙ has))

-- one node is stored anew with the ID that it had: the rest holds too
module _ {f : ℕ → Option Bearer} {ps : List Stored} {lists : List (List ℕ)} {keys : Owner → List ℕ} (all : IsKeptWithIds ps lists keys f)
    (x : ℕ) {s : Stored} (t : Stored) (at : slice_get ps x ≡ Some s) where
  pub kept_with_ids : code_in t ≡ code_in s → IsKept (set ps x t) lists keys → IsKeptWithIds (set ps x t) lists keys f
  kept_with_ids same kept = record { kept = kept; ids = noted-set_same x t all.ids at same }

  -- under the node document that it had
  pub stays_kept : t.name ≡ s.name → t.node.document ≡ s.node.document → code_in t ≡ code_in s → IsKeptWithIds (set ps x t) lists keys f
  stays_kept same document id = kept_with_ids id (IsKept-set_same all.kept x t at same document)

-- ---- attributes

-- what is set under this name, or another one
module _ (a : Word) (v : DomString) (s : Stored) where
  abbrev pub set_in : Stored
  set_in = stored_from s.name (record s.node { attributes = attributes_with a v s.node.attributes })

  pub code-set : text_eq a (codes "id") ≡ true → code_in set_in ≡ Some (id_code s.name.owner v)
  code-set e =
      ap (option_map (id_code s.name.owner)) (ap (λ b. value_among b (attributes_with a v s.node.attributes)) (sym (text_same a (codes "id") e)) ∙
      value-set a v s.node.attributes)

  pub code-set_other : text_eq a (codes "id") ≡ false → code_in set_in ≡ code_in s
  code-set_other e = ap (option_map (id_code s.name.owner)) (value-set_other a (codes "id") (other_name a (codes "id") e) v s.node.attributes)

  -- the ID is set
  pub noted-set_id : text_eq a (codes "id") ≡ true → {f : ℕ → Option Bearer} {k number : ℕ} {left : Option ℕ} → number ≡ id_code s.name.owner v →
      MayHave (f number) k → ((h : ℕ) → left ≡ Some h → h ≢ number) → IsNoteOf f k s set_in left
  noted-set_id e {f = f} {k = k} {number = number} is may other = record {
    noted = λ h has. inr (subst (λ n. MayHave (f n) k) (here h has) may);
    gone = λ h told has. other h told (sym (here h has));
  }
    where
      here : (h : ℕ) → code_in set_in ≡ Some h → number ≡ h
      here h has = is ∙ same_Some _ h (sym (code-set e) ∙ has)

-- what is taken away
module _ (a : Word) (s : Stored) (own : HaveOwnNames s.node.attributes) where
  abbrev after : Stored
  after = stored_from s.name (record s.node { attributes = attributes_without a s.node.attributes })

  pub noted-removed : (f : ℕ → Option Bearer) (k : ℕ) (left : Option ℕ) → left ≡ cond (text_eq a (codes "id")) (code_in s) None → IsNoteOf f k s after left
  noted-removed f k left is = by (text_eq a (codes "id")) refl
    where
      gone : text_eq a (codes "id") ≡ true → code_in after ≡ None
      gone e = ap (option_map (id_code s.name.owner)) (ap (λ b. value_among b (attributes_without a s.node.attributes)) (sym (text_same a (codes "id") e)) ∙
          value-removed a s.node.attributes own)

      stays : text_eq a (codes "id") ≡ false → code_in after ≡ code_in s
      stays e = ap (option_map (id_code s.name.owner)) (value-removed_other a (codes "id") (other_name a (codes "id") e) s.node.attributes)

      by : (t : Bool) → text_eq a (codes "id") ≡ t → IsNoteOf f k s after left
      by true e = record { noted = λ h has. absurd (none-some h (sym (gone e) ∙ has)); gone = λ h told has. none-some h (sym (gone e) ∙ has) }
      by false e = record {
        noted = λ h has. inl (sym (stays e) ∙ has);
        gone = λ h told. absurd (none-some h (sym (is ∙ ap (λ t. cond t (code_in s) None) e) ∙ told));
      }

-- ---- who has an ID, as a forest is seen

pub may_bear : (b : Option Bearer) (k : ℕ) → MayHave b k → MayBear (only_bearer b) k
may_bear (Some Several) k may = may
may_bear b k may = may

pub is_only : (b : Option Bearer) (k : ℕ) → only_bearer b ≡ Some (Some k) → b ≡ Some (Only k)
is_only None k e = absurd (none-some k (same_Some None (Some k) e))
is_only (Some (Only j)) k e = ap (λ i. Some (Only i)) (same_Some j k (same_Some (Some j) (Some k) e))
is_only (Some Several) k e = absurd (none-some (Some k) e)

module _ {f : NamedTrees} {ps : List Stored} {lists : List (List ℕ)} {keys : Owner → List ℕ} (is : seen ps lists ≡ f) (kept : IsKept ps lists keys)
    {g : ℕ → Option Bearer} (all : AreNoted g ps) where
  pub bearers_shown : (o : Owner) (id : DomString) (k : ℕ) → k < length f.names → (name_at f.names k).owner ≡ o → HasId f.trees (name_at f.names k) id →
      MayHave (g (id_code o id)) k
  bearers_shown o id k node owner has = elim (slice_get_cases ps k).1 [
    | inl w ↦
        let value : value_among (codes "id") w.0.node.attributes ≡ Some id =
        ap (λ n. attribute_value n (codes "id")) (sym (shows_node is kept k w.0 node w.2)) ∙ has in
        let named : slice_get f.names k ≡ Some w.0.name =
        ap (λ (h : NamedTrees). slice_get h.names k) (sym is) ∙ slice_get-map (λ (s : Stored). s.name) ps k ∙ ap (option_map (λ (s : Stored). s.name)) w.2 in
        let own : w.0.name.owner ≡ o = ap (λ (x : NodeName). x.owner) (sym (get_or_from_slice_get f.names k w.0.name _ named)) ∙ owner in
        all.covered k (id_code o id) w.0 w.2 (ap (option_map (id_code w.0.name.owner)) value ∙ ap (λ p. Some (id_code p id)) own)
    | inr past ↦ absurd (omega (arith, past.0, within is kept k node))
  ]

  pub bearer_node : (h k : ℕ) → g h ≡ Some (Only k) → k < length f.names
  bearer_node h k only = omega (arith, all.inside h k only, ap (λ (e : NamedTrees). length e.names) is, length-map ps (λ (s : Stored). s.name))
