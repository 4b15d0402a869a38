-- What a contract sees of what an open handle holds.
use Rattle.std.specs.Prelude.{ℕ, Bool, List}
use denote.RawPtr.{Ptr}
use Rattle.dom_model.specs.World.{World}

-- the world as the lines so far have made it, the text of the last answer, where bytes of the handle's stand that begin with that
-- text, these bytes, and whether memory was refused to a call
pub record HeldState : Type 0 where
  pub world : World
  pub text : List ℕ
  pub at : Ptr
  pub bytes : List ℕ
  pub has_failed : Bool
