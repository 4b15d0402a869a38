-- The lines of live documents: those of the line protocol, and those that make something live or act while a call is under way. What live documents
-- answer are the lines of the protocol, and calls.
use Rattle.std.specs.Prelude.{ℕ, Bool, List, [], ◌∷◌, ◌++◌, Option, Some, None}
use Rattle.dom_base.specs.declared.Owner.{Owner}
use Rattle.dom_base.specs.declared.Refusal.{Refusal}
use Rattle.dom_model.specs.Names.{Word}
use Rattle.dom_model.specs.Command.{Command, NodeWord, ListenerWords, EventWords}
use Rattle.dom_model.specs.Output.{Output, says, replied, refused, Value}

-- A command of live documents. K is the number of one of the owner's own calls under way, of which 0 is the innermost.
pub data LiveCommand : Type 0 where
  plain : Command → LiveCommand  -- a command of the protocol
  listen_live : NodeWord → ListenerWords → LiveCommand  -- listen N TYPE LABEL call [capture] [once] [passive]: the action does not count
  observer_live : LiveCommand  -- observer call
  micro_live : Word → LiveCommand  -- micro LABEL call
  prevent : ℕ → LiveCommand  -- prevent [K]
  stop : ℕ → LiveCommand  -- stop [K]
  stop_now : ℕ → LiveCommand  -- stop-now [K]
  prevented : ℕ → LiveCommand  -- prevented [K]
  give_back : LiveCommand  -- return

-- What a line of input says: as in the protocol; or it is the event loop's checkpoint, a line of its own without an owner.
pub data LiveLine : Type 0 where
  ownerless : LiveLine
  wordless : Owner → LiveLine
  said : Owner → LiveCommand → LiveLine
  checkpoint : LiveLine

-- The words of a call: what is called, and what the owner is told of it.
pub data CallWords : Type 0 where
  at_event : EventWords → Bool → CallWords  -- call [bubbles] [cancelable] [composed] [prevented]
  at_observer : ℕ → CallWords  -- call oK
  at_microtask : CallWords  -- call

-- A line of output: one of the protocol, a call, or the refusal of the event loop's checkpoint.
pub data LiveOutput : Type 0 where
  written : Output → LiveOutput
  calls : Owner → CallWords → LiveOutput
  loop_busy : LiveOutput

-- a state, and the lines written
abbrev pub LiveRun : Type 0 → Type 0
LiveRun S = S × List LiveOutput

module _ {S : Type 0} where
  -- a run without lines
  abbrev pub still : S → LiveRun S
  still s = (s, [])

  -- a run, and then another from the state that it leaves
  abbrev pub and_then : LiveRun S → (S → LiveRun S) → LiveRun S
  and_then r f = let more = f r.0 in (more.0, r.1 ++ more.1)

  -- a run for each item, one after another
  abbrev pub each_then : {A : Type 0} → (S → A → LiveRun S) → S → List A → LiveRun S
  each_then f s [] = still s
  each_then f s (x ∷ xs) = and_then (f s x) (λ t. each_then f t xs)

  -- a reply
  abbrev pub replying : Owner → Value → S → LiveRun S
  replying o v s = (s, written (says o (replied v)) ∷ [])

  -- a reply that refuses, and changes nothing
  abbrev pub denying : Owner → Refusal → S → LiveRun S
  denying o r s = (s, written (says o (refused r)) ∷ [])

  -- a run, unless there is a refusal
  abbrev pub unless_denied : Owner → Option Refusal → S → LiveRun S → LiveRun S
  unless_denied o (Some r) s run = denying o r s
  unless_denied o None s run = run
