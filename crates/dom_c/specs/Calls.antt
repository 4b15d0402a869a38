-- What a call finds and leaves of what a handle holds, which is none where the handle is closed.
use Rattle.std.specs.Prelude.{◌≡◌, ℕ, ◌<◌, Bool, true, false, ◌==◌, ◌||◌, List, [], ◌∷◌, ◌++◌, length, drop, Option, Some, None, ⊤}
use denote.RawPtr.{Ptr}
use Rattle.dom_base.specs.declared.Owner.{Owner}
use Rattle.dom_model.specs.World.{World}
use Rattle.dom_model.specs.Output.{Output}
use Rattle.dom_text.specs.Text.{output_text}
use Rattle.dom_streams.specs.Views.{viewed}
use Rattle.dom_c.specs.State.{HeldState}

-- the handle is open, memory was refused to no call, and it holds this world and this text
abbrev pub Holds : Option HeldState → World → List ℕ → Type 0
Holds None world text = ⊥
Holds (Some held) world text = (held.world ≡ world) × (held.text ≡ text) × (held.has_failed ≡ false)

-- both handles are closed, or hold the same world and text, and memory was refused to calls of both or of none
abbrev pub HoldSame : Option HeldState → Option HeldState → Type 0
HoldSame None None = ⊤
HoldSame None (Some new) = ⊥
HoldSame (Some old) None = ⊥
HoldSame (Some old) (Some new) = (new.world ≡ old.world) × (new.text ≡ old.text) × (new.has_failed ≡ old.has_failed)

-- the handle is open, and at this address these bytes of its own stand
abbrev pub StandsAt : Option HeldState → Ptr → List ℕ → Type 0
StandsAt None at bytes = ⊥
StandsAt (Some held) at bytes = (held.at ≡ at) × (held.bytes ≡ bytes)

-- the handle is open, and no turn is open in its world
abbrev pub HasNoTurn : Option HeldState → Type 0
HasNoTurn None = ⊥
HasNoTurn (Some held) = held.world.turn ≡ None

-- the handle is open, and memory was refused to a call
abbrev pub HasFailed : Option HeldState → Type 0
HasFailed None = ⊥
HasFailed (Some held) = held.has_failed ≡ true

-- the handle is open, memory was refused to no call, and this is so of the text of the last answer
abbrev pub HasText : Option HeldState → (List ℕ → Type 0) → Type 0
HasText None P = ⊥
HasText (Some held) P = (held.has_failed ≡ false) × P held.text

-- what an owner sees of a text
abbrev pub text_seen_by : Option Owner → List ℕ → Option (List ℕ)
text_seen_by None text = None
text_seen_by (Some owner) text = Some (viewed (Some owner) text)

-- The handle was open and memory refused to no call. What runs gave the world that the handle now holds, and the output whose
-- text it holds, of this size.
abbrev pub Runs : (World → World × List Output) → Option HeldState → Option HeldState → ℕ → Type 0
Runs run None new size = ⊥
Runs run (Some held) new size =
    (held.has_failed ≡ false) × Holds new (run held.world).0 (output_text (run held.world).1) × (size ≡ length (output_text (run held.world).1))

-- the text stands in the buffer's first bytes, and the others are as they were
abbrev pub IsCopied : List ℕ → List ℕ → List ℕ → ℕ → Type 0
IsCopied text old new size = (new ≡ text ++ drop (length text) old) × (size ≡ length text)

-- the buffer has no room for the text
abbrev pub IsShort : List ℕ → List ℕ → ℕ → Type 0
IsShort text buffer size = (length buffer < length text) × (size ≡ length text)

-- the number is in the list
abbrev pub is_one_of : ℕ → List ℕ → Bool
is_one_of n [] = false
is_one_of n (m ∷ ms) = (n == m) || is_one_of n ms
