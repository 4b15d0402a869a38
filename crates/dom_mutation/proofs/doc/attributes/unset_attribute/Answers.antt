use Rattle.dom_mutation.proofs.Cited.{◌≡◌, true, [], ◌∷◌, ℕ, Option, Some, None, refl, sym, ap, ◌∙◌, is_some, OnOk, Result, option_map_or, on_ok_weaker}
use Rattle.dom_mutation.proofs.Cited.{NodeName, Owner, unsetting_attribute, Word, DomString, attributes, set_attribute, queue_record, attribute_value, node_in}
use Rattle.dom_mutation.proofs.Cited.{part_of, world_after}
use Rattle.dom_mutation.specs.Definitions.{DocState, name_in, owner_in, stepped, planned, trees_in}
use Rattle.dom_mutation.proofs.doc.attributes.unset_attribute.Goals as goal

-- the two steps of an attribute that goes
unset : (d : DocState) (o : Owner) (x : NodeName) (a : Word) → is_some (attribute_value (node_in (part_of d.world o).trees x) a) ≡ true
    → stepped o (set_attribute x a None) (stepped o (queue_record (attributes x a (attribute_value (node_in (part_of d.world o).trees x) a))) d) ≡
    planned o (unsetting_attribute x a) d
unset d o x a has = by (attribute_value (node_in (part_of d.world o).trees x) a) refl has
  where
    both : Option DomString → DocState
    both v = stepped o (set_attribute x a None) (stepped o (queue_record (attributes x a v)) d)

    made_of : Option DomString → DocState
    made_of v = record d { world = world_after o d.world (option_map_or (λ old. queue_record (attributes x a (Some old)) ∷ set_attribute x a None ∷ []) v []) }

    by : (v : Option DomString) → attribute_value (node_in (part_of d.world o).trees x) a ≡ v → is_some v ≡ true →
        both (attribute_value (node_in (part_of d.world o).trees x) a) ≡ made_of (attribute_value (node_in (part_of d.world o).trees x) a)
    by None e h = cc
    by (Some old) e h = ap both e ∙ sym (ap made_of e)

-- both calls make the plan
module _ {X E : Type 0} (m : Result X E) (b e f : DocState) (k : ℕ) (a : Word) where
  abbrev value : Option DomString
  value = attribute_value (node_in (trees_in b k) (name_in b k)) a

  both-made : is_some value ≡ true → e ≡ stepped (owner_in b k) (queue_record (attributes (name_in b k) a value)) b →
      OnOk m (f ≡ stepped (owner_in e k) (set_attribute (name_in e k) a None) e) → OnOk m (f ≡ planned (owner_in b k) (unsetting_attribute (name_in b k) a) b)
  both-made has told = on_ok_weaker m (λ gone. gone ∙ ap (λ s. stepped (owner_in s k) (set_attribute (name_in s k) a None) s) told
      ∙ unset b (owner_in b k) (name_in b k) a has)

pub returns : goal.returns
returns c =
    both-made c.unset_attribute.result c.args.parts.now c.queue_attribute_record.new.self c.unset_attribute.new.self c.args.node c.args.name.now
    (sym c.has_attr.ensures ∙ c.if-not-has_attr.false) c.in_ok-queue_attribute_record.ensures c.unset_attribute.ensures
