-- Each turn takes the next attribute, until there is none.
use Rattle.dom_query_commands.proofs.Cited.{◌≡◌, ℕ, ◌+◌, List, [], ◌∷◌, ◌++◌, inl, inr, length, take, Some, None, sym, ap, ◌∙◌, arith, add-one, length-append}
use Rattle.dom_query_commands.proofs.Cited.{slice_get, take-suc, map-append, take_all, slice_get_within, slice_get_cases, get_or_from_slice_get, none-some}
use Rattle.dom_query_commands.proofs.Cited.{node_in, name_at, Attribute, attribute_view, attributes_view}
use Rattle.dom_model.specs.Tree as model
use Rattle.dom_query_commands.proofs.tree_text.attributes.Goals as goal

-- one item more
take-next : {X : Type 0} (xs : List X) (n : ℕ) (x : X) → slice_get xs n ≡ Some x → take (n + 1) xs ≡ take n xs ++ x ∷ []
take-next xs n x e =
    ap (λ k. take k xs) (add-one n)
    ∙ (take-suc xs n x (slice_get_within xs n x e) ∙ ap (λ y. take n xs ++ y ∷ []) (get_or_from_slice_get xs n x x e))

-- no item more
take-ended : {X : Type 0} (xs : List X) (n : ℕ) → slice_get xs n ≡ None → take n xs ≡ xs
take-ended xs n e = elim ((slice_get_cases xs n).1) [
  | inl h ↦ absurd (none-some h.0 (sym e ∙ h.2))
  | inr h ↦ take_all n xs h.0
]

-- one attribute more
attributes-next : (items : List Attribute) (a : Attribute) (all : List model.Attribute) → attributes_view items ≡ take (length items) all →
    slice_get all (length items) ≡ Some (attribute_view a)
    → attributes_view (items ++ a ∷ []) ≡ take (length (items ++ a ∷ [])) all
attributes-next items a all so_far next =
    map-append attribute_view items (a ∷ [])
    ∙ (ap (λ views. views ++ attribute_view a ∷ []) so_far
    ∙ (sym (take-next all (length items) (attribute_view a) next) ∙ ap (λ k. take k all) (sym (length-append items (a ∷ [])))))

pub loop-name-preserved : goal.loop-name-preserved
loop-name-preserved c =
    let all = (node_in c.args.forest.now.trees (name_at c.args.forest.now.names c.args.key)).attributes in
    let attribute : Attribute = record { name = c.in-Some.name; value = c.in-Some.value } in
    let length_read : c.len.result ≡ length c.loop-name.attributes.items = omega (arith, c.loop-name.attributes.ok.0) in
    let next : slice_get all (length c.loop-name.attributes.items) ≡ Some (attribute_view attribute) =
    ap (slice_get all) (sym length_read) ∙ sym c.in-Some.ensures in
    ap attributes_view c.in_ok-push.ensures.items
    ∙ (attributes-next c.loop-name.attributes.items attribute all c.loop-name.invariant next ∙
    ap (λ items. take (length items) all) (sym c.in_ok-push.ensures.items))

pub returns : goal.returns
returns c =
    let all = (node_in c.args.forest.now.trees (name_at c.args.forest.now.names c.args.key)).attributes in
    let length_read : c.len.result ≡ length c.loop-name.attributes.items = omega (arith, c.loop-name.attributes.ok.0) in
    c.loop-name.invariant ∙ take-ended all (length c.loop-name.attributes.items) (ap (slice_get all) (sym length_read) ∙ sym c.in_default.ensures)
