-- What a node holds, as the clauses on it see it. How the code keeps it is not to be seen.
use Rattle.std.specs.Prelude.{ℕ, List, Option, refl}
use Rattle.std.specs.Coded.{Coded, code_by, coded×, coded_ℕ, coded_list, coded_option}
use Rattle.dom_base.specs.declared.Kind.{Kind}
use Rattle.dom_base.specs.declared.NodeName.{NodeName}
use Rattle.dom_model.specs.Tree.{Attribute}
use Rattle.dom_model.specs.Codes.{name_code, kind_code, text_code, attribute_code}

-- a node without its name and its place; its node document by its key
pub record Contents : Type 0 where
  pub kind : Kind
  pub element : List ℕ
  pub attributes : List Attribute
  pub text : List ℕ
  pub document : Option ℕ

-- a node under its name
pub record Stored : Type 0 where
  pub name : NodeName
  pub node : Contents

-- a node under this name
abbrev pub stored_from : NodeName → Contents → Stored
stored_from x d = record { name = x; node = d }

-- the fields of a node as pairs
abbrev pub StoredTuple : Type 0
StoredTuple = (NodeName × Kind) × ((List ℕ × List Attribute) × (List ℕ × Option ℕ))

-- a code of what is stored, by which proofs tell values apart
abbrev pub stored_code : Coded Stored
stored_code =
    code_by StoredTuple
    (coded× (coded× name_code kind_code) (coded× (coded× text_code (coded_list attribute_code)) (coded× text_code (coded_option coded_ℕ))))
    (λ s. ((s.name, s.node.kind), ((s.node.element, s.node.attributes), (s.node.text, s.node.document))))
    (λ p. record {
      name = p.0.0;
      node = record { kind = p.0.1; element = p.1.0.0; attributes = p.1.0.1; text = p.1.1.0; document = p.1.1.1 };
    })
    (λ _. refl)
