-- What is said of two or three nodes by their keys, and by the owner of the first, is said of their names.
use Rattle.dom_base.proofs.Std.{◌≡◌, ℕ, true, Option, subst, sym}
use Rattle.dom_model.proofs.Model.{NodeName, Owner, Plan, NodeWord, named, Part, part_of}
use Rattle.dom_mutation.specs.Definitions.{DocState, made, name_in, owner_in}
use Rattle.dom_tree.specs.Definitions.{name_at}
use Rattle.dom_admission.specs.Turned.{turned}
use Rattle.dom_admission.specs.Refusals.{is_kind_at}
use Rattle.dom_admission.specs.declared.admission.Operand.{Operand}
use Rattle.dom_admission.proofs.Finding.{KeyOf, key_of}

-- In a state with these documents, keys by which nodes were looked up.
module _ (t : Option Owner) (d now : DocState) (seen : turned t d ≡ now) (o : Owner) (a b : NodeWord) (i j : ℕ)
    (first : name_at now.names i ≡ named (part_of now.world o) a) (second : name_at now.names j ≡ named (part_of now.world o) b) where
  pub keys_two : KeyOf d o a i × KeyOf d o b j
  keys_two = (key_of t d now seen o a i first, key_of t d now seen o b j second)

  pub keys_three : (c : NodeWord) (k : ℕ) → name_at now.names k ≡ named (part_of now.world o) c → KeyOf d o a i × KeyOf d o b j × KeyOf d o c k
  keys_three c k third = (keys_two.0, keys_two.1, key_of t d now seen o c k third)

module _ {d : DocState} {o : Owner} {a b : NodeWord} {i j : ℕ} where
  pub told_two : {A : Type 0} (f : Part → NodeName → NodeName → A) → KeyOf d o a i × KeyOf d o b j →
      f (part_of d.world (owner_in d i)) (name_in d i) (name_in d j) ≡ f (part_of d.world o) (named (part_of d.world o) a) (named (part_of d.world o) b)
  told_two f x = λ l. f (part_of d.world (x.0.mine l)) (x.0.name l) (x.1.name l)

  pub made_two : (plan : NodeName → NodeName → Plan) → KeyOf d o a i × KeyOf d o b j →
      made (owner_in d i) (plan (name_in d i) (name_in d j)) d.world ≡ made o (plan (named (part_of d.world o) a) (named (part_of d.world o) b)) d.world
  made_two plan x = λ l. made (x.0.mine l) (plan (x.0.name l) (x.1.name l)) d.world

  pub told_three : {A : Type 0} {c : NodeWord} {k : ℕ} (f : Part → NodeName → NodeName → NodeName → A) → KeyOf d o a i × KeyOf d o b j × KeyOf d o c k →
      f (part_of d.world (owner_in d i)) (name_in d i) (name_in d j) (name_in d k) ≡
      f (part_of d.world o) (named (part_of d.world o) a) (named (part_of d.world o) b) (named (part_of d.world o) c)
  told_three f x = λ l. f (part_of d.world (x.0.mine l)) (x.0.name l) (x.1.name l) (x.2.name l)

  pub made_three : {c : NodeWord} {k : ℕ} (plan : NodeName → NodeName → NodeName → Plan) → KeyOf d o a i × KeyOf d o b j × KeyOf d o c k →
      made (owner_in d i) (plan (name_in d i) (name_in d j) (name_in d k)) d.world ≡
      made o (plan (named (part_of d.world o) a) (named (part_of d.world o) b) (named (part_of d.world o) c)) d.world
  made_three plan x = λ l. made (x.0.mine l) (plan (x.0.name l) (x.1.name l) (x.2.name l)) d.world

-- the kind of a node is so in the documents
module _ (t : Option Owner) where
  pub kind_in : (d now : DocState) (n : Operand) (key : ℕ) → turned t d ≡ now → is_kind_at now n key ≡ true → is_kind_at d n key ≡ true
  kind_in d now n key seen h = subst (λ (s : DocState). is_kind_at s n key ≡ true) (sym seen) h
