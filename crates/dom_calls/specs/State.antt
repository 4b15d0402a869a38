-- What a contract sees of what an open handle holds.
use Rattle.std.specs.Prelude.{ℕ, Bool, List}
use denote.RawPtr.{Ptr}
use Rattle.dom_base.specs.declared.Owner.{Owner}
use Rattle.dom_model.specs.World.{World}
use Rattle.dom_answers.specs.Told.{Contents}
use Rattle.dom_calls.specs.declared.structs.DomAttribute.{DomAttribute}
use Rattle.dom_calls.specs.declared.structs.DomDelivery.{DomDelivery}
use Rattle.dom_calls.specs.declared.structs.DomNode.{DomNode}
use Rattle.dom_calls.specs.declared.structs.DomRow.{DomRow}

-- the arrays that are lent to C, and where each stands
pub record Lent : Type 0 where
  pub nodes_at : Ptr
  pub nodes : List DomNode
  pub units_at : Ptr
  pub units : List ℕ
  pub bytes_at : Ptr
  pub bytes : List ℕ
  pub attributes_at : Ptr
  pub attributes : List DomAttribute
  pub rows_at : Ptr
  pub rows : List DomRow
  pub deliveries_at : Ptr
  pub deliveries : List DomDelivery

-- the world as the calls so far have made it, the answer of the last one, whether a reply or refusal is its last item, the owners that were shown,
-- each at its place, the arrays that are lent, and whether memory was refused to a call
pub record CallState : Type 0 where
  pub world : World
  pub answer : Contents
  pub has_reply : Bool
  pub owners : List Owner
  pub lent : Lent
  pub has_failed : Bool
