use Rattle.dom_range_ops.proofs.Cited.{zero, suc, ◌≡◌, ◌<◌, ℕ, ◌-◌, Bool, false, List, [], ◌∷◌, length, take, Some, None, refl, sym, ap, ◌∙◌, arith, slice_get}
use Rattle.dom_range_ops.proofs.Cited.{AllByRecursion, bytes_eq, cond-false, length-map, length-take-le, insert_entry, text_eq, Attribute, attributes_with}
use Rattle.dom_range_ops.proofs.Cited.{HaveOwnNames, attributes_in, insert-attributes, option_map, string_bytes, string_eq, node_in, attribute_from, name_at}
use Rattle.dom_range_ops.proofs.cloning.attributes.Goals.{After-insert}
use Rattle.dom_range_ops.proofs.cloning.attributes.Goals as goal

-- the next attribute goes behind those that were copied
attributes-next : (bs : List Attribute) → HaveOwnNames bs → (n : ℕ) (b : Attribute) → slice_get bs n ≡ Some b →
    attributes_with b.name b.value (take n bs) ≡ take (suc n) bs
attributes-next [] h n b is = absurd (cc)
attributes-next (c ∷ bs) h zero b is = let same : c ≡ b = cc in ap (λ (d : Attribute). d ∷ []) (sym same)
attributes-next (c ∷ bs) h (suc n) b is =
    cond-false (text_eq b.name c.name) _ _ (apart bs n h.0 is) ∙ ap (λ ds. c ∷ ds) (attributes-next bs h.1 n b is)
  where
    apart : (ds : List Attribute) (n : ℕ) → AllByRecursion (λ (d : Attribute). text_eq d.name c.name ≡ false) ds → slice_get ds n ≡ Some b →
        text_eq b.name c.name ≡ false
    apart [] n g e = absurd (cc)
    apart (d ∷ ds) zero g e = let same : d ≡ b = cc in ap (λ (x : Attribute). text_eq x.name c.name) (sym same) ∙ g.0
    apart (d ∷ ds) (suc n) g e = apart ds n g.1 e

-- where there is none, all were copied
attributes-all : (bs : List Attribute) (n : ℕ) → slice_get bs n ≡ None → take n bs ≡ bs
attributes-all [] zero is = refl
attributes-all [] (suc n) is = refl
attributes-all (c ∷ bs) zero is = absurd (cc)
attributes-all (c ∷ bs) (suc n) is = ap (λ ds. c ∷ ds) (attributes-all bs n is)

-- where there is one, not all were
attributes-left : (bs : List Attribute) (n : ℕ) (b : Attribute) → slice_get bs n ≡ Some b → n < length bs
attributes-left [] n b is = absurd (cc)
attributes-left (c ∷ bs) zero b is = omega arith
attributes-left (c ∷ bs) (suc n) b is = let more = attributes-left bs n b is in omega arith

-- The attributes of the code's map: one more is put into it.
module _ {K V : Type 0} (text_of : K → List ℕ) (items_of : V → List ℕ) (eq : K → K → Bool) (same : (x y : K) → eq x y ≡ bytes_eq (text_of x) (text_of y)) where
  -- those that were copied are the first ones
  abbrev pub AreFirst : List (K × V) → List Attribute → Type 0
  AreFirst es bs = attributes_in text_of items_of es ≡ take (length es) bs

  -- an attribute is the next to be copied
  record IsNext (es : List (K × V)) (bs : List Attribute) (k : K) (v : V) : Type 0 where
    own : HaveOwnNames bs
    first : AreFirst es bs
    next : slice_get bs (length es) ≡ Some (record { name = text_of k; value = items_of v })

  attributes-put : (es : List (K × V)) (bs : List Attribute) (k : K) (v : V) → IsNext es bs k v → {new : List (K × V)} →
      new ≡ insert_entry eq es k v → AreFirst new bs × (length bs - length new < length bs - length es)
  attributes-put es bs k v is {new} put =
      let more : attributes_in text_of items_of new ≡ take (suc (length es)) bs =
      ap (attributes_in text_of items_of) put ∙ insert-attributes text_of items_of eq same k v es ∙ ap (attributes_with (text_of k) (items_of v))
      is.first ∙ attributes-next bs is.own (length es) (record { name = text_of k; value = items_of v }) is.next in
      let left = attributes-left bs (length es) (record { name = text_of k; value = items_of v }) is.next in
      let size : length new ≡ suc (length es) =
      sym (length-map new (λ e. record { name = text_of e.0; value = items_of e.1 })) ∙ ap (λ (ds : List Attribute). length ds) more ∙
      length-take-le (suc (length es)) bs (omega arith) in
      (more ∙ ap (λ n. take n bs) (sym size), omega arith)

-- what is put in is the attribute that stands where the copied ones end
next : (c : After-insert) → IsNext string_bytes (λ v. v.items) string_eq (λ x y. refl) c.loop-name.copied.entries
    (node_in c.args.forest.now.trees (name_at c.args.forest.now.names c.args.key)).attributes c.in_ok-name.name c.in_ok-value.value
next c = record {
  own = c.law_attributes_have_own_names.ensures;
  first = c.loop-name.invariant;
  next =
      ap (slice_get (node_in c.args.forest.now.trees (name_at c.args.forest.now.names c.args.key)).attributes) (sym c.len.ensures.len)
      ∙ sym c.attr_at.ensures
      ∙ ap (option_map (λ a. attribute_from a.0.now a.1.now)) c.in-Some.is
      ∙ ap (λ text. Some (attribute_from text c.in-Some.value.now)) (sym c.in_ok-name.ensures.ok)
      ∙ ap (λ units. Some (attribute_from (string_bytes c.in_ok-name.name) units)) (sym c.in_ok-value.ensures.items);
}

pub loop-name-smaller : goal.loop-name-smaller
loop-name-smaller c =
    (attributes-put string_bytes (λ v. v.items) string_eq (λ x y. refl) _ _ _ _ (next (goal.at.loop-name-smaller c).After-insert)
    c.in_ok-insert.ensures.entries).1

pub loop-name-preserved : goal.loop-name-preserved
loop-name-preserved c =
    (attributes-put string_bytes (λ v. v.items) string_eq (λ x y. refl) _ _ _ _ (next (goal.at.loop-name-preserved c).After-insert)
    c.in_ok-insert.ensures.entries).0

pub loop-name-smaller-in_ok-insert : goal.loop-name-smaller-in_ok-insert
loop-name-smaller-in_ok-insert c =
    (attributes-put string_bytes (λ v. v.items) string_eq (λ x y. refl) _ _ _ _ (next (goal.at.loop-name-smaller-in_ok-insert c).After-insert)
    c.in_ok-insert.ensures.entries).1

pub loop-name-preserved-in_ok-insert : goal.loop-name-preserved-in_ok-insert
loop-name-preserved-in_ok-insert c =
    (attributes-put string_bytes (λ v. v.items) string_eq (λ x y. refl) _ _ _ _ (next (goal.at.loop-name-preserved-in_ok-insert c).After-insert)
    c.in_ok-insert.ensures.entries).0

pub returns : goal.returns
returns c =
    let bs = (node_in c.args.forest.now.trees (name_at c.args.forest.now.names c.args.key)).attributes in
    c.loop-name.invariant
    ∙ attributes-all bs (length c.loop-name.copied.entries)
    (ap (slice_get bs) (sym c.len.ensures.len) ∙ sym c.attr_at.ensures ∙ ap (option_map (λ a. attribute_from a.0.now a.1.now)) c.in_default.is)
