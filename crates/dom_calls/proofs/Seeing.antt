-- What a description gives: the row of the node that the answer tells.
use Rattle.dom_base.proofs.Std.{◌≡◌, ℕ, ◌-◌, true, false, List, [], ◌∷◌, length, map, take, refl, sym, ap, ◌∙◌, subst}
use Rattle.std.proofs.lemmas.Bool.{true≢false}
use Rattle.std.specs.Option.{unwrap_or}
use Rattle.std.specs.Prelude.{Bool, if◌then◌else◌, ok_or, slice_get, Option, Some, None, Result, Ok, Err, IfSome}
use Rattle.dom_base.specs.declared.Fault.{Fault}
use Rattle.dom_base.specs.declared.Fault.TheVariants as fault
use Rattle.dom_base.specs.declared.Owner.{Owner}
use Rattle.dom_base.specs.declared.Refusal.{Refusal}
use Rattle.dom_model.specs.Output.{Output, says, replied, a_tree}
use Rattle.dom_model.specs.Command.{NodeWord}
use Rattle.dom_model.specs.Tree.{Trees, none}
use Rattle.dom_model.specs.World.{World}
use Rattle.dom_answers.specs.Arrays.{output_of}
use Rattle.dom_answers.specs.Told.{Contents, shown_trees, told}
use Rattle.dom_answers.specs.declared.items.Item.{Item}
use Rattle.dom_query_commands.specs.Looks.{IsAllowed, node_alone}
use Rattle.dom_calls.specs.declared.structs.DomNode.{DomNode}
use Rattle.dom_calls.specs.declared.structs.DomRow.{DomRow}
use Rattle.dom_calls.specs.Calls.{deliveries_of}
use Rattle.dom_calls.specs.Looks.{EndsWithRow, IsSeen, Sees, SeesRow, Stays, read_of, refusal_of, row_alone}
use Rattle.dom_calls.specs.State.{CallState}

-- ---- what the document let pass

-- what a document answered that had failed or had not
pub allowed : {X : Type 0} (failed : Bool) (r : Result X Fault) (q : Option Refusal) → (failed ≡ false → IsAllowed q r)
    → (failed ≡ true → r ≡ Err fault.Memory) → IsAllowed q r
allowed false r q sound memory = sound refl
allowed true r q sound memory = subst (IsAllowed q) (sym (memory refl)) tt

-- ---- what the answer tells

-- whether a list has a second thing, or none
has_second : {X : Type 0} → List X → Bool
has_second (x ∷ y ∷ zs) = true
has_second _ = false

has_none : {X : Type 0} → List X → Bool
has_none [] = true
has_none (x ∷ xs) = false

first_or : {X : Type 0} → X → List X → X
first_or d [] = d
first_or d (x ∷ xs) = x

-- of one item that is told, nothing stands before the last
none-before : (f : Item → Output) (items : List Item) (y : Output) → map f items ≡ y ∷ [] → map f (take (length items - 1) items) ≡ []
unfolding has_second
none-before f [] y e = refl
none-before f (x ∷ []) y e = refl
none-before f (x ∷ z ∷ zs) y e = absurd (true≢false (ap has_second e))

-- and the last is that one
last-is-one : (f : Item → Output) (items : List Item) (y : Output) (item : Item) → map f items ≡ y ∷ []
    → slice_get items (length items - 1) ≡ Some item → f item ≡ y
unfolding has_second has_none first_or
last-is-one f [] y item e last = absurd (true≢false (ap has_none e))
last-is-one f (x ∷ []) y item e last = ap f (sym (ap (λ (o : Option Item). unwrap_or o x) last)) ∙ ap (first_or (f x)) e
last-is-one f (x ∷ z ∷ zs) y item e last = absurd (true≢false (ap has_second e))

-- the deliveries of an answer
left_by : Contents → Bool → List Output
left_by a b = map (output_of a.arrays) (if b then take (length a.items - 1) a.items else a.items)

-- there are none where the reply is all that is told
pub alone-quiet : (s : CallState) (y : Output) → s.has_reply ≡ true → told s.answer ≡ y ∷ [] → deliveries_of s ≡ []
unfolding left_by
alone-quiet s y answers alone = ap (left_by s.answer) answers ∙ none-before (output_of s.answer.arrays) s.answer.items y alone

-- the trees that are told
trees_told : Output → Trees
trees_told (says o (replied (a_tree trees))) = trees
trees_told _ = none

-- the row at the end is of the tree that was told
pub row-told : (s : CallState) (row : DomRow) (o : Owner) (trees : Trees) → told s.answer ≡ says o (replied (a_tree trees)) ∷ [] → EndsWithRow s row
    → row_alone s row ≡ trees
unfolding trees_told
row-told s row o trees alone ends =
    let y = says o (replied (a_tree trees)) in
    let same = last-is-one (output_of s.answer.arrays) s.answer.items y ends.1.0 alone ends.1.1.0 in
    ap trees_told (sym ends.1.1.1 ∙ same)

-- what is read in the same world, by the same owner, of the same word is the same
module _ {X : Type 0} (f : World → Owner → NodeWord → X) (w v : World) (o p : Owner) (x y : NodeWord) where
  pub same-read : w ≡ v → o ≡ p → x ≡ y → f w o x ≡ f v p y
  same-read same_world same_owner same_word =
      ap (λ (u : World). f u o x) same_world ∙ (ap (λ (q : Owner). f v q x) same_owner ∙ ap (λ (z : NodeWord). f v p z) same_word)

-- what a description gives, if the row that was found is of the node that was told
module _ (place : ℕ) (node : DomNode) (was is : CallState) (o : Owner) (trees : Trees) (sound : was.has_failed ≡ false) (stays : Stays was is)
    (answers : is.has_reply ≡ true) (alone : told is.answer ≡ says o (replied (a_tree (shown_trees trees))) ∷ []) (passes : refusal_of place node was ≡ None)
    (same : trees ≡ read_of node_alone place node was) where
  pub row-seen : (result : Result DomRow Fault) (found : Option DomRow) → result ≡ ok_or found fault.Memory → IfSome found (EndsWithRow is)
      → IfSome found (λ row. row.parent ≡ 0) → IsSeen place node (SeesRow place node) was is result
  row-seen result (Some row) gives ends parent =
      let seen : Sees place node None was is = record {
        sound = sound;
        still = stays.1.1 ∙ sound;
        refused = passes;
        world = stays.0;
        owners = stays.1.0;
        told = alone-quiet is (says o (replied (a_tree (shown_trees trees)))) answers alone;
      } in
      let here : IsSeen place node (SeesRow place node) was is (Ok row) =
      (seen, (row-told is row o (shown_trees trees) alone ends ∙ ap shown_trees same, parent)) in
      subst (λ (r : Result DomRow Fault). IsSeen place node (SeesRow place node) was is r) (sym gives) here
  row-seen result None gives ends parent =
      let here : IsSeen place node (SeesRow place node) was is (Err fault.Memory) = stays in
      subst (λ (r : Result DomRow Fault). IsSeen place node (SeesRow place node) was is r) (sym gives) here
