-- The loop that lists a node's children.
use Rattle.dom_mutation.proofs.Cited.{◌≡◌, ℕ, ◌<◌, List, [], ◌∷◌, ◌++◌, length, map, Option, Some, option_map, sym, ap, subst, ◌∙◌, arith}
use Rattle.dom_mutation.proofs.Cited.{AllByRecursion, ForSome, map-append, append_assoc, NodeName, name_eq, first_of, from_first, from_next, from_sibling}
use Rattle.dom_mutation.proofs.Cited.{items_after, siblings, children_of, next_sibling, part_of, DocState, name_in, owner_in, trees_in, IsOwnNode}
use Rattle.dom_mutation.proofs.Placed.{Counted, once_in}

-- how far it has come: these keys are listed, and it stands there
pub record Lists (d : DocState) (node : ℕ) (keys : List ℕ) (at : Option ℕ) : Type 0 where
  pub listed : map (name_in d) keys ++ from_sibling (trees_in d node) (option_map (name_in d) at) ≡ children_of (trees_in d node) (name_in d node)
  pub nodes : AllByRecursion (IsOwnNode d node) keys
  pub here : ForSome at (IsOwnNode d node)

pub all_push : (P : ℕ → Type 0) (xs : List ℕ) (x : ℕ) → AllByRecursion P xs → P x → AllByRecursion P (xs ++ x ∷ [])
all_push P [] x h p = (p, tt)
all_push P (y ∷ xs) x h p = (h.0, all_push P xs x h.1 p)

-- The children of a node.
module _ (d : DocState) (counted : Counted d) (node : ℕ) where
  pub lists_first : (at : Option ℕ) → option_map (name_in d) at ≡ first_of (children_of (trees_in d node) (name_in d node))
      → ForSome at (λ k. k < length d.names) → ForSome at (λ k. owner_in d k ≡ owner_in d node) → Lists d node [] at
  lists_first at is near own =
      let ts = trees_in d node in
      record {
        listed = ap (from_sibling ts) is ∙ from_first ts (once_in d counted (owner_in d node)) (name_in d node);
        nodes = tt;
        here = λ k e. (near k e, own k e);
      }

  pub lists_next : {keys : List ℕ} {at : Option ℕ} (next : Option ℕ) {k : ℕ} → at ≡ Some k → Lists d node keys at → option_map (name_in d) next
      ≡ next_sibling (trees_in d k) (name_in d k) → ForSome next (λ j. j < length d.names) → ForSome next (λ j. owner_in d j ≡ owner_in d k) →
      Lists d node (keys ++ k ∷ []) next × (length (from_sibling (trees_in d node) (option_map (name_in d) next)) <
      length (from_sibling (trees_in d node) (option_map (name_in d) at)))
  lists_next {keys} next {k} is lists found near own =
      let ts = trees_in d node in
      let y = name_in d k in
      let ys = map (name_in d) keys in
      let here = lists.here k is in
      let listed = subst (λ (o : Option ℕ). ys ++ from_sibling ts (option_map (name_in d) o) ≡ children_of ts (name_in d node)) is lists.listed in
      let rest : from_sibling ts (option_map (name_in d) next) ≡ items_after name_eq y (siblings ts y) =
      ap (from_sibling ts) (found ∙ ap (λ o. next_sibling (part_of d.world o).trees y) here.1) ∙ from_next ts (once_in d counted (owner_in d node)) y in
      let size = ap (λ (zs : List NodeName). length zs) rest in (
        record {
          listed = ap (λ zs. zs ++ from_sibling ts (option_map (name_in d) next)) (map-append (name_in d) keys (k ∷ [])) ∙
              append_assoc ys (y ∷ []) (from_sibling ts (option_map (name_in d) next)) ∙ ap (λ zs. ys ++ y ∷ zs) rest ∙ listed;
          nodes = all_push (IsOwnNode d node) keys k lists.nodes here;
          here = λ j e. (near j e, own j e ∙ here.1);
        },
        subst (λ (o : Option ℕ). length (from_sibling ts (option_map (name_in d) next)) < length (from_sibling ts (option_map (name_in d) o))) (sym is)
            (omega (arith, size)),
      )
