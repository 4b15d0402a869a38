-- Rows and attributes that are added to the arrays.
use Rattle.dom_base.proofs.Std.{◌≡◌, List, [], ◌++◌, map, refl, ap, sym, subst, ◌∙◌, append-nil, append_assoc, map-append}
use Rattle.std.specs.List.{AllByRecursion}
use Rattle.dom_model.specs.Tree as model_tree
use Rattle.dom_text.specs.Text as text
use Rattle.dom_answers.specs.Arrays.{Adds, AreSound, Arrays, Grows, IsAttribute, IsRow, attribute_of, step_of}
use Rattle.dom_answers.proofs.Parts.{all-second}
use Rattle.dom_answers.proofs.Kept.{attributes-kept, rows-kept}

-- ---- lists of things that say something

-- nothing was added
pub adds-nothing : {X Y : Type 0} (view : X → Y) (xs : List X) → Adds view xs xs []
adds-nothing view xs = record { more = []; after = sym (append-nil xs); say = refl }

-- some things, seen otherwise but alike, and then some more
module _ {X Y : Type 0} (view later : X → Y) (xs ys zs : List X) where
  adds-then : (said others : List Y) (first : Adds view xs ys said) → map later first.more ≡ map view first.more → Adds later ys zs others
      → Adds later xs zs (said ++ others)
  adds-then said others first alike second = record {
    more = first.more ++ second.more;
    after = second.after ∙ ap (λ (l : List X). l ++ second.more) first.after ∙ append_assoc xs first.more second.more;
    say = map-append later first.more second.more
        ∙ ap (λ (l : List Y). l ++ map later second.more) (alike ∙ first.say) ∙ ap (λ (l : List Y). said ++ l) second.say;
  }

-- ---- attributes and rows

-- Arrays that grew after some were added.
module _ (start a b : Arrays) (grows : Grows a b) (sound : AreSound a) where
  -- attributes that were added before the last ones
  pub attributes-then : (said others : List model_tree.Attribute) → Adds (attribute_of a) start.attributes a.attributes said
      → Adds (attribute_of b) a.attributes b.attributes others → Adds (attribute_of b) start.attributes b.attributes (said ++ others)
  attributes-then said others first second =
      let within : AllByRecursion (IsAttribute a) first.more =
      all-second (IsAttribute a) start.attributes first.more (subst (AllByRecursion (IsAttribute a)) first.after sound.attributes) in
      adds-then (attribute_of a) (attribute_of b) start.attributes a.attributes b.attributes said others first
      (attributes-kept a b grows first.more within) second

  -- rows that were added before the last ones
  pub rows-then : (said others : List text.TreeStep) → Adds (step_of a) start.rows a.rows said → Adds (step_of b) a.rows b.rows others
      → Adds (step_of b) start.rows b.rows (said ++ others)
  rows-then said others first second =
      let within : AllByRecursion (IsRow a) first.more =
      all-second (IsRow a) start.rows first.more (subst (AllByRecursion (IsRow a)) first.after sound.rows) in
      adds-then (step_of a) (step_of b) start.rows a.rows b.rows said others first (rows-kept a b grows sound first.more within) second
