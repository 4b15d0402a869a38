-- What the operations on live ranges do, from the keys of the nodes that they name.
use Rattle.dom_commands.proofs.Cited.{◌≡◌, ℕ, suc, true, List, [], ◌∷◌, ◌++◌, length, Option, Some, None, Result, Ok, Err, is_some, refl, sym, ap, ◌∙◌, take}
use Rattle.dom_commands.proofs.Cited.{unwrap_or, get_or-append_seam, ForSome, option_map_or, Makes, new_names, name_at, BeginsWith, KeepsNames, with_part-same}
use Rattle.dom_commands.proofs.Cited.{IsNaming, namings}
use Rattle.dom_model.proofs.Model.{Fault, Refused, Memory, NodeName, Owner, Page, Command, answers, clone_count, made_by_extracting, pieces_of, DomString}
use Rattle.dom_model.proofs.Model.{node_of, nothing, a_string, Part, range_at, next_name, empty_part, range_text_of, Range, World, part_of, find_part, is_there}
use Rattle.dom_model.proofs.Model.{owner-part_of}
use Rattle.dom_admission.specs.declared.admission.Operand.TheVariants as operands

-- these commands name their range alone
pub naming-text : (o : Owner) (k : ℕ) → IsNaming o (Command.range_text k) (operands.Range k ∷ [])
naming-text o k = search namings

pub naming-extract : (o : Owner) (k : ℕ) → IsNaming o (Command.extract k) (operands.Range k ∷ [])
naming-extract o k = search namings

pub naming-delete : (o : Owner) (k : ℕ) → IsNaming o (Command.delete k) (operands.Range k ∷ [])
naming-delete o k = search namings

-- names that stay in front of others are kept, however a command ends
pub keeps_names : (names more : List NodeName) (r : Result (Unit {0}) Fault) → BeginsWith names more → KeepsNames names more r
keeps_names names more (Ok x) h = h
keeps_names names more (Err (Refused q)) h = h
keeps_names names more (Err Memory) h = tt

-- an owner that has a range is there
owner-there : (w : World) (o : Owner) (k : ℕ) → is_some (range_at (part_of w o) k) ≡ true → is_there w o ≡ true
owner-there w o k known = by (find_part w.parts o) known
  where
    by : (m : Option Part) → is_some (range_at (unwrap_or m (empty_part o)) k) ≡ true → is_some m ≡ true
    by None known = absurd cc
    by (Some p) known = refl

-- the text of a range is answered, and nothing is changed
pub text_told : (w : World) (o : Owner) (k : ℕ) (text : DomString) → is_some (range_at (part_of w o) k) ≡ true →
    ForSome (range_at (part_of w o) k) (λ r. text ≡ range_text_of (part_of w o).trees r) → Makes o (Command.range_text k) (a_string text) w w
text_told w o k text known is = by (range_at (part_of w o) k) refl known is
  where
    p : Part
    p = part_of w o

    by : (m : Option (Range NodeName)) → range_at p k ≡ m → is_some m ≡ true → ForSome m (λ r. text ≡ range_text_of p.trees r) →
        Makes o (Command.range_text k) (a_string text) w w
    by None e some is = absurd cc
    by (Some r) e some is = (
      ap (λ m. option_map_or (λ (range : Range NodeName). answers p (a_string (range_text_of p.trees range))) m (answers p nothing)) e ∙
          ap (λ s. answers p (a_string s)) (sym (is r refl)),
      sym (with_part-same w o (owner-there w o k known)),
    )

-- What an extraction names: the fragment has its owner's next name, and the names before it stay.
module _ (names more : List NodeName) (w : World) (o : Owner) (k : ℕ) (known : is_some (range_at (part_of w o) k) ≡ true)
    (is : ForSome (range_at (part_of w o) k) (λ r. more ≡ names ++ new_names o (part_of w o).node_count (made_by_extracting (part_of w o) r))) where
  -- more names, of which the fragment's is the first
  others : (rest : List NodeName) × (more ≡ names ++ node_of o (part_of w o).node_count ∷ rest)
  others = by (range_at (part_of w o) k) known is
    where
      by : (m : Option (Range NodeName)) → is_some m ≡ true →
          ForSome m (λ r. more ≡ names ++ new_names o (part_of w o).node_count (made_by_extracting (part_of w o) r)) → (rest : List NodeName) ×
          (more ≡ names ++ node_of o (part_of w o).node_count ∷ rest)
      by None known is = absurd cc
      by (Some r) known is = (new_names o (suc (part_of w o).node_count) (clone_count (pieces_of (part_of w o).trees r)), is r refl)

  pub extracted-name : (key : ℕ) → key ≡ length names → name_at more key ≡ next_name (part_of w o)
  extracted-name key last =
      let n = (part_of w o).node_count in
      ap (name_at more) last ∙ ap (λ (ns : List NodeName). name_at ns (length names)) others.1 ∙ get_or-append_seam names (node_of o n) others.0
      (node_of Page 0) ∙ ap (λ q. node_of q n) (sym (owner-part_of w o))

  pub extracted-kept : BeginsWith names more
  extracted-kept = ap (take (length names)) others.1 ∙ front names (node_of o (part_of w o).node_count ∷ others.0)
    where
      front : (xs ys : List NodeName) → take (length xs) (xs ++ ys) ≡ xs
      front [] ys = refl
      front (x ∷ xs) ys = ap (λ zs. x ∷ zs) (front xs ys)
