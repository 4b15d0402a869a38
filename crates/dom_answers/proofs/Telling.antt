-- What an answer tells after its arrays grew and an item came.
use Rattle.dom_base.proofs.Std.{◌≡◌, List, [], ◌∷◌, ◌++◌, refl, sym, ap, ◌∙◌, append-nil, map-append, Result, Ok, Err, OnOk, OnErr}
use Rattle.dom_model.specs.Output as model
use Rattle.dom_model.specs.Tree as model_tree
use Rattle.dom_base.specs.declared.Owner.{Owner}
use Rattle.dom_text.specs.Text as text
use Rattle.dom_printer.specs.Replies.{value_view}
use Rattle.dom_printer.specs.Steps.{shown_steps}
use Rattle.dom_printer.specs.declared.replies.Value.{Value}
use Rattle.dom_printer.specs.declared.replies.Value.TheVariants as values
use Rattle.dom_answers.specs.declared.items.Item.{Item}
use Rattle.dom_answers.specs.Arrays.{AreSound, Arrays, Grows, output_of, trees_of}
use Rattle.dom_answers.specs.Told.{Contents, IsSound, shown_trees, shown_value, told}
use Rattle.dom_answers.proofs.Kept.{items-kept, items-within}
use Rattle.dom_answers.proofs.Trees.{trees_of-shown}

-- what holds whatever a call gave holds after an error
pub after_error : {X E : Type 0} {P : Type 0} (r : Result X E) → P → OnErr r P
after_error (Ok x) p = tt
after_error (Err e) p = p

-- An answer whose arrays grow into others: what it was, and how it stands held.
module _ (was held : Contents) (b : Arrays) (is : held ≡ was) (grows : Grows held.arrays b) (sound : IsSound held) where
  -- it has its parts within them
  pub sound-grown : IsSound (record held { arrays = b })
  sound-grown = record { items = items-within held.arrays b grows held.items sound.items; path = (grows.nodes held.path sound.path).0 }

  module _ (arrays : AreSound held.arrays) where
    -- it tells what it told
    pub told-grown : told (record held { arrays = b }) ≡ told was ++ []
    told-grown = items-kept held.arrays b grows arrays held.items sound.items ∙ ap told is ∙ sym (append-nil (told was))

    told-one : (new : Contents) (item : Item) (output : model.Output) → new ≡ record held { arrays = b; items = held.items ++ item ∷ [] }
        → output_of b item ≡ output → told new ≡ told was ++ output ∷ []
    told-one new item output e f =
        ap told e ∙ map-append (output_of b) held.items (item ∷ [])
        ∙ ap (λ (os : List model.Output). os ++ output_of b item ∷ []) (items-kept held.arrays b grows arrays held.items sound.items ∙ ap told is)
        ∙ ap (λ (o : model.Output). told was ++ o ∷ []) f

    -- and after one more item what this one says
    pub told-added : {X E : Type 0} (r : Result X E) (new : Contents) (item : Item) (output : model.Output)
        → OnOk r (new ≡ record held { arrays = b; items = held.items ++ item ∷ [] }) → output_of b item ≡ output → OnOk r (told new ≡ told was ++ output ∷ [])
    told-added (Ok x) new item output e f = told-one new item output e f
    told-added (Err x) new item output e f = tt

    -- or what it told, if there was no memory for the item
    pub told-refused : {X E : Type 0} (r : Result X E) (new : Contents) → OnErr r (new ≡ record held { arrays = b }) → OnErr r (told new ≡ told was ++ [])
    told-refused (Ok x) new e = tt
    told-refused (Err x) new e = ap told e ∙ told-grown

-- a value that is no tree is shown as it is
pub shown-value : (value : Value) → value_view value ≡ shown_value (value_view value)
shown-value values.Nothing = refl
shown-value values.Null = refl
shown-value (values.Node node) = refl
shown-value (values.Component owner) = refl
shown-value (values.Range number) = refl
shown-value (values.Iterator number) = refl
shown-value (values.Walker number) = refl
shown-value (values.Observer number) = refl
shown-value (values.Str units) = refl
shown-value (values.Truth truth) = refl
shown-value (values.Count count) = refl
shown-value (values.Boundaries start end) = refl
shown-value (values.Reference node before) = refl

-- the reply that has the trees with these steps
pub shown-tree : (owner : Owner) (trees : model_tree.Trees) (read steps : List text.TreeStep) → read ≡ steps → steps ≡ shown_steps trees
    → model.says owner (model.replied (model.a_tree (trees_of read))) ≡ model.says owner (model.replied (model.a_tree (shown_trees trees)))
shown-tree owner trees read steps e f =
    ap (λ (ts : model_tree.Trees). model.says owner (model.replied (model.a_tree ts))) (ap trees_of (e ∙ f) ∙ trees_of-shown trees)
