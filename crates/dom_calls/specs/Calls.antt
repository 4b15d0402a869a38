-- What a call finds and leaves of what a handle holds, which is none where the handle is closed.
use Rattle.std.specs.Prelude.{◌≡◌, ℕ, ◌≤◌, ◌-◌, Bool, true, false, if◌then◌else◌, List, [], ◌∷◌, ◌++◌, length, map, slice_get, take, Option, Some, None}
use Rattle.std.specs.Prelude.{IsSome, Result, Ok, Err, IfOk}
use denote.RawPtr.{Ptr}
use Rattle.dom_base.specs.declared.Owner.{Owner}
use Rattle.dom_base.specs.declared.Owner.TheVariants.{Page}
use Rattle.dom_base.specs.declared.Refusal.{Refusal}
use Rattle.dom_base.specs.Refusals.{refusal_number}
use Rattle.dom_model.specs.DocumentMachine.{first_world}
use Rattle.dom_model.specs.Output.{Output, Said, Value, says, replied, refused, nothing, null, a_list, a_string, a_truth, a_component, boundaries, reference}
use Rattle.dom_model.specs.Runs.{Run}
use Rattle.dom_model.specs.World.{World}
use Rattle.dom_base.specs.declared.Fault.{Fault}
use Rattle.dom_base.specs.declared.Fault.TheVariants as fault
use Rattle.dom_answers.specs.Arrays.{IsReply, output_of}
use Rattle.dom_answers.specs.Told.{Contents, empty, shown_output}
use Rattle.dom_answers.specs.declared.items.Item.TheVariants.{Says}
use Rattle.dom_answers.specs.declared.items.Reply.{Reply}
use Rattle.dom_answers.specs.declared.items.Said.TheVariants.{Replied, Refused}
use Rattle.dom_engine.specs.Documents.{called, checkpoint}
use Rattle.dom_calls.specs.declared.structs.DomNode.{DomNode}
use Rattle.dom_calls.specs.declared.structs.DomPoint.{DomPoint}
use Rattle.dom_reader.specs.declared.line.Command.{Command as Words}
use Rattle.dom_calls.specs.Asked.{Asked, IsAsked}
use Rattle.dom_calls.specs.Owners.{owner_in, named_in, node_value}
use Rattle.dom_calls.specs.State.{CallState}
use Rattle.dom_calls.specs.Values.{IsNumber, IsTree, point_in}

-- ---- one call

-- what is done and told where an owner is asked this
abbrev pub outcome : World → Owner → Asked → Run World
outcome w o (Ok c) = called w o c
outcome w o (Err r) = (w, says o (refused r) ∷ [])

-- what the last call left for listeners, observers and microtasks
abbrev pub deliveries_of : CallState → List Output
deliveries_of s = map (output_of s.answer.arrays) (if s.has_reply then take (length s.answer.items - 1) s.answer.items else s.answer.items)

-- The owner at this place was asked this, and it is done: the world is what it leaves, and all that was told are the deliveries that the call left and then
-- what the owner was answered. Memory was refused to no call.
pub record Does (place : ℕ) (asked : Asked) (answered : Said) (was is : CallState) : Type 0 where
  pub sound : was.has_failed ≡ false
  pub still : is.has_failed ≡ false
  pub world : is.world ≡ (outcome was.world (owner_in was.owners place) asked).0
  pub told : map shown_output (outcome was.world (owner_in was.owners place) asked).1 ≡ deliveries_of is ++ says (owner_in was.owners place) answered ∷ []

-- how an answer ends, if it ends with what is said to somebody: a reply, whose parts lie within the arrays, or a refusal
abbrev pub EndsSo : Contents → Option (Result Reply Fault) → Type 0
EndsSo answer None = Unit {0}
EndsSo answer (Some (Ok reply)) =
    (o : Owner) × ((slice_get answer.items (length answer.items - 1) ≡ Some (Says o (Replied reply))) × IsReply answer.arrays reply)
EndsSo answer (Some (Err (fault.Refused r))) = (o : Owner) × (slice_get answer.items (length answer.items - 1) ≡ Some (Says o (Refused r)))
EndsSo answer (Some (Err fault.Memory)) = ⊥

-- all but the table of owners is as it was
abbrev pub KeepsAnswer : CallState → CallState → Type 0
KeepsAnswer was is = (is.world ≡ was.world) × ((is.answer ≡ was.answer) × ((is.has_reply ≡ was.has_reply) × (is.has_failed ≡ was.has_failed)))

-- the tasks of all owners have run, and all that was told are the deliveries that this left
pub record RunsTasks (was is : CallState) : Type 0 where
  pub sound : was.has_failed ≡ false
  pub still : is.has_failed ≡ false
  pub world : is.world ≡ (checkpoint was.world).0
  pub told : map shown_output (checkpoint was.world).1 ≡ deliveries_of is
  pub owners : is.owners ≡ was.owners

-- ---- what C is given of an answer

-- nothing
abbrev pub ShowsNothing : CallState → Value → Type 0
ShowsNothing s v = v ≡ nothing

-- a node, or that there is none
abbrev pub ShowsNode : DomNode → CallState → Value → Type 0
ShowsNode node s v = v ≡ node_value s.owners node

-- a truth
abbrev pub ShowsTruth : Bool → CallState → Value → Type 0
ShowsTruth truth s v = v ≡ a_truth truth

-- the number of a range, an iterator, a walker or an observer, or a count
abbrev pub ShowsNumber : ℕ → CallState → Value → Type 0
ShowsNumber number s v = IsNumber number v

-- a component, by its place
abbrev pub ShowsComponent : ℕ → CallState → Value → Type 0
ShowsComponent place s v = v ≡ a_component (owner_in s.owners place)

-- the two boundary points of a range
abbrev pub ShowsPoints : DomPoint → DomPoint → CallState → Value → Type 0
ShowsPoints start end s v = v ≡ boundaries (point_in s.owners start) (point_in s.owners end)

-- an iterator's reference, and whether its pointer is before it
abbrev pub ShowsReference : DomNode → Bool → CallState → Value → Type 0
ShowsReference node before s v = v ≡ reference (named_in s.owners node) before

-- nodes, which stand at this address
abbrev pub ShowsNodes : Ptr → ℕ → CallState → Value → Type 0
ShowsNodes at count s v = (v ≡ a_list (map (named_in s.owners) s.lent.nodes)) × ((at ≡ s.lent.nodes_at) × (count ≡ length s.lent.nodes))

-- code units, which stand at this address, or none
abbrev pub ShowsUnits : Bool → Ptr → ℕ → CallState → Value → Type 0
ShowsUnits has at count s v =
    (v ≡ (if has then a_string s.lent.units else null)) × ((at ≡ s.lent.units_at) × (count ≡ length s.lent.units))

-- code units, which stand at this address
abbrev pub ShowsText : Ptr → ℕ → CallState → Value → Type 0
ShowsText at count s v = (v ≡ a_string s.lent.units) × ((at ≡ s.lent.units_at) × (count ≡ length s.lent.units))

-- a tree, whose rows are left in the answer
abbrev pub ShowsTree : CallState → Value → Type 0
ShowsTree s v = IsTree v

-- this was done, and what C is given shows the value that it was answered with
abbrev pub Replies : ℕ → Asked → (CallState → Value → Type 0) → CallState → CallState → Type 0
Replies place asked shows was is = (v : Value) × (Does place asked (replied v) was is × shows is v)

-- what a call of the owner at a place gives, where this was made of its words
pub record Gives {X : Type 0} (result : Result X Fault) (place : ℕ) (words : Result Words Fault) (shows : X → CallState → Value → Type 0) (was is : CallState)
    : Type 0 where
  pub done : (asked : Asked) → IsAsked words asked → IfOk result (λ x. Replies place asked (shows x) was is)
  pub refusal : (asked : Asked) → IsAsked words asked → (r : Refusal) → result ≡ Err (fault.Refused r) → Does place asked (refused r) was is
  pub memory : result ≡ Err fault.Memory → is.has_failed ≡ true

-- ---- what a handle holds before and after

-- the handle is open, and memory was refused to a call
abbrev pub HasFailed : Option CallState → Type 0
HasFailed None = ⊥
HasFailed (Some held) = held.has_failed ≡ true

-- the handle is open, and memory was refused to no call
abbrev pub IsSound : Option CallState → Type 0
IsSound None = ⊥
IsSound (Some held) = held.has_failed ≡ false

-- how many deliveries the last call left
abbrev pub told_by : Option CallState → ℕ
told_by None = 0
told_by (Some held) = length (deliveries_of held)

-- the handle is open: a document before its first call
abbrev pub IsNew : Option CallState → Type 0
IsNew None = ⊥
IsNew (Some held) = (held.world ≡ first_world) × ((held.owners ≡ Page ∷ []) × ((held.answer ≡ empty) × (held.has_failed ≡ false)))

-- the handle is open before and after, and this holds of both
abbrev pub Both : (CallState → CallState → Type 0) → Option CallState → Option CallState → Type 0
Both P None is = ⊥
Both P (Some was) None = ⊥
Both P (Some was) (Some is) = P was is

-- A call of the owner at a place has this status: 0 where it was done, and what C is given is its reply; a refusal's number where it was refused so; 14 where
-- memory was refused to it or to a call before; and 15 where the handle is closed.
pub record Answers (status place : ℕ) (asked : Asked) (shows : CallState → Value → Type 0) (was is : Option CallState) : Type 0 where
  pub done : status ≡ 0 → Both (Replies place asked shows) was is
  pub refusal : (r : Refusal) → status ≡ refusal_number r → Both (Does place asked (refused r)) was is
  pub memory : status ≡ 14 → IsSome was × HasFailed is
  pub closed : status ≡ 15 → (was ≡ None) × (is ≡ None)
  pub known : status ≤ 15
