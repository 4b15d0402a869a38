-- What a contract sees of `Listeners`.
use Rattle.std.specs.Prelude.{◌≡◌, ℕ, nat_eq, Bool, false, ◌&&◌, List, map, string_bytes}
use Rattle.std.specs.Bool.{beq}
use Rattle.std.specs.List.{AllByRecursion}
use Rattle.dom_model.specs.Names.{Word, text_eq}
use Rattle.dom_model.specs.Command.{ListenerWords}
use Rattle.dom_model.specs.Listeners.{Listener}
use Rattle.dom_dispatch.specs.declared.kinds.HeldWords.{HeldWords}
use Rattle.dom_dispatch.specs.declared.kinds.ListenerKind.{ListenerKind}
use Rattle.dom_dispatch.specs.declared.listeners.Entry.{Entry}
use Rattle.dom_dispatch.specs.declared.listeners.ListenerInit.{ListenerInit}

-- the words with which a listener was added
abbrev pub words_of : ListenerInit → ListenerWords
words_of i = record { event = string_bytes i.event; label = string_bytes i.label; action = i.action; capture = i.capture; once = i.once; passive = i.passive }

-- those of a listener of a kind, with a label
abbrev pub with_label : Word → ListenerKind → ListenerWords
with_label label k = record { event = string_bytes k.event; label = label; action = k.action; capture = k.capture; once = k.once; passive = k.passive }

-- and those that are held
abbrev pub words_in : HeldWords → ListenerWords
words_in w = with_label w.label.items w.kind.value

-- a listener
abbrev pub listener_of : Entry → Listener ℕ
listener_of e = record { node = e.node; words = words_in e.words.value }

-- the listeners, in the order of adding
abbrev pub listeners_in : List Entry → List (Listener ℕ)
listeners_in es = map listener_of es

-- whether a listener is at a node and fits in type and capture (DOM Standard, concept: inner invoke)
abbrev pub hears_at : ℕ → Word → Bool → Listener ℕ → Bool
hears_at x event capturing l = nat_eq l.node x && (text_eq l.words.event event && beq l.words.capture capturing)

-- no listener hears events of this type, while they are capturing or while they are not
abbrev pub NoneHears : {N : Type 0} → Word → Bool → List (Listener N) → Type 0
NoneHears {N} event capturing ls = AllByRecursion (λ (l : Listener N). (text_eq l.words.event event && beq l.words.capture capturing) ≡ false) ls
