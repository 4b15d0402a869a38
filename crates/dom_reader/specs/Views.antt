-- What was read, seen as the text's keywords, and as the model's commands and lines.
use Rattle.std.specs.Prelude.{ℕ, map, Option, Some, None, option_map, string_bytes, Result, Ok, Err}
use Rattle.dom_base.specs.declared.Owner.{Owner}
use Rattle.dom_base.specs.declared.Owner.TheVariants.{Page, Component}
use Rattle.dom_base.specs.declared.Refusal.{Refusal}
use Rattle.dom_model.specs.Command as model
use Rattle.dom_reader.specs.declared.keywords.Keyword.{Keyword as Grouped}
use Rattle.dom_reader.specs.declared.keywords.Keyword.TheVariants as grouped
use Rattle.dom_reader.specs.declared.keywords.MakingWord.{MakingWord}
use Rattle.dom_reader.specs.declared.keywords.MakingWord.TheVariants as making
use Rattle.dom_reader.specs.declared.keywords.TreeWord.{TreeWord}
use Rattle.dom_reader.specs.declared.keywords.TreeWord.TheVariants as tree
use Rattle.dom_reader.specs.declared.keywords.ContentWord.{ContentWord}
use Rattle.dom_reader.specs.declared.keywords.ContentWord.TheVariants as content
use Rattle.dom_reader.specs.declared.keywords.QuestionWord.{QuestionWord}
use Rattle.dom_reader.specs.declared.keywords.QuestionWord.TheVariants as question
use Rattle.dom_reader.specs.declared.keywords.RangeWord.{RangeWord}
use Rattle.dom_reader.specs.declared.keywords.RangeWord.TheVariants as range
use Rattle.dom_reader.specs.declared.keywords.CursorWord.{CursorWord}
use Rattle.dom_reader.specs.declared.keywords.CursorWord.TheVariants as cursor
use Rattle.dom_reader.specs.declared.keywords.EventWord.{EventWord}
use Rattle.dom_reader.specs.declared.keywords.EventWord.TheVariants as event
use Rattle.dom_reader.specs.declared.keywords.ObserverWord.{ObserverWord}
use Rattle.dom_reader.specs.declared.keywords.ObserverWord.TheVariants as observer
use Rattle.dom_words.specs.declared.not_read.NotRead.{NotRead}
use Rattle.dom_words.specs.declared.not_read.NotRead.TheVariants.{Syntax}
use Rattle.dom_reader.specs.declared.nodes.Spelling.{Spelling}
use Rattle.dom_reader.specs.declared.nodes.Spelling.TheVariants as spellings
use Rattle.dom_text.specs.Commands.{Keyword}
use Rattle.dom_text.specs.Commands as keyword
use Rattle.dom_reader.specs.declared.line.NodeWord.{NodeWord}
use Rattle.dom_reader.specs.declared.line.NodeWord.TheVariants.{Own, Foreign}
use Rattle.dom_reader.specs.declared.line.Show.{Show}
use Rattle.dom_reader.specs.declared.line.NameFilter.{NameFilter}
use Rattle.dom_reader.specs.declared.line.Filter.{Filter}
use Rattle.dom_reader.specs.declared.line.ListenerWords.{ListenerWords}
use Rattle.dom_reader.specs.declared.line.EventWords.{EventWords}
use Rattle.dom_reader.specs.declared.line.ObserveWords.{ObserveWords}
use Rattle.dom_reader.specs.declared.line.Command.{Command}
use Rattle.dom_reader.specs.declared.line.Command.TheVariants as said
use Rattle.dom_reader.specs.declared.line.Line.{Line}

-- a node as a line names it
abbrev pub word_view : NodeWord → model.NodeWord
word_view (Own n) = model.own n
word_view Foreign = model.foreign

-- the node of a spelling
abbrev pub node_spelled : Spelling → Result NodeWord NotRead
node_spelled (spellings.Own n) = Ok (Own n)
node_spelled spellings.Foreign = Ok Foreign
node_spelled spellings.NoNode = Err Syntax

-- the letter before the number of an owner's own node
abbrev pub own_letter : Owner → ℕ
own_letter Page = 110
own_letter (Component q) = 109

-- the kinds that are shown
abbrev pub show_view : Show → model.Show
show_view s = record { element = s.element; text = s.text; comment = s.comment; document = s.document; fragment = s.fragment }

-- `skip=NAME` or `reject=NAME`
abbrev pub name_filter_view : NameFilter → model.NameFilter
name_filter_view f = record { name = string_bytes f.name; verdict = f.verdict }

-- the words of an iterator or a walker
abbrev pub filter_view : Filter → model.Filter
filter_view f = record { shown = show_view f.shown; named = option_map name_filter_view f.named }

-- the words of `listen`
abbrev pub listener_view : ListenerWords → model.ListenerWords
listener_view l =
    record { event = string_bytes l.event; label = string_bytes l.label; action = l.action; capture = l.capture; once = l.once; passive = l.passive }

-- the words of `dispatch`
abbrev pub event_view : EventWords → model.EventWords
event_view e = record { event = string_bytes e.event; bubbles = e.bubbles; cancelable = e.cancelable; composed = e.composed }

-- the words of `observe`
abbrev pub observe_view : ObserveWords → model.ObserveWords
observe_view o =
    record {
      child_list = o.child_list;
      attributes = o.attributes;
      character_data = o.character_data;
      subtree = o.subtree;
      attribute_old_value = o.attribute_old_value;
      character_data_old_value = o.character_data_old_value;
      filter = option_map (λ names. map string_bytes names.items) o.filter;
    }

-- a command
abbrev pub command_view : Command → model.Command
command_view (said.NewElement name) = model.new_element (string_bytes name)
command_view (said.NewText data') = model.new_text data'.items
command_view (said.NewComment data') = model.new_comment data'.items
command_view said.NewFragment = model.new_fragment
command_view said.NewDocument = model.new_document
command_view (said.Attach e) = model.attach (word_view e)
command_view (said.Append p n) = model.append (word_view p) (word_view n)
command_view (said.Insert p n c) = model.insert (word_view p) (word_view n) (word_view c)
command_view (said.Replace p n c) = model.replace (word_view p) (word_view n) (word_view c)
command_view (said.Remove n) = model.remove (word_view n)
command_view (said.Adopt d n) = model.adopt (word_view d) (word_view n)
command_view (said.Normalize n) = model.normalize (word_view n)
command_view (said.SetAttribute e name value) = model.set_attribute (word_view e) (string_bytes name) value.items
command_view (said.UnsetAttribute e name) = model.unset_attribute (word_view e) (string_bytes name)
command_view (said.SetData t data') = model.set_data (word_view t) data'.items
command_view (said.ReplaceData t offset count data') = model.replace_data (word_view t) offset count data'.items
command_view (said.Split t offset) = model.split (word_view t) offset
command_view (said.SetText n data') = model.set_text (word_view n) data'.items
command_view (said.Tree n) = model.tree (word_view n)
command_view (said.Attribute e name) = model.attribute (word_view e) (string_bytes name)
command_view (said.Parent n) = model.parent (word_view n)
command_view (said.DocumentOf n) = model.document_of (word_view n)
command_view (said.Children n) = model.children (word_view n)
command_view (said.Contains a b) = model.contains (word_view a) (word_view b)
command_view (said.Connected n) = model.connected (word_view n)
command_view (said.ShadowRoot e) = model.shadow_root (word_view e)
command_view (said.SlotOf n) = model.slot_of (word_view n)
command_view (said.Assigned e) = model.assigned (word_view e)
command_view said.RangeNew = model.range_new
command_view (said.RangeStart r n offset) = model.range_start r (word_view n) offset
command_view (said.RangeEnd r n offset) = model.range_end r (word_view n) offset
command_view (said.RangeCollapse r to_start) = model.range_collapse r to_start
command_view (said.RangeDrop r) = model.range_drop r
command_view (said.RangeGet r) = model.range_get r
command_view (said.RangeText r) = model.range_text r
command_view (said.Extract r) = model.extract r
command_view (said.Delete r) = model.delete r
command_view (said.InsertNode r n) = model.insert_node r (word_view n)
command_view (said.IteratorNew n f) = model.iterator_new (word_view n) (filter_view f)
command_view (said.WalkerNew n f) = model.walker_new (word_view n) (filter_view f)
command_view (said.IteratorNext i) = model.iterator_next i
command_view (said.IteratorPrevious i) = model.iterator_previous i
command_view (said.IteratorAt i) = model.iterator_at i
command_view (said.Walk w move) = model.walk w move
command_view (said.WalkerAt w) = model.walker_at w
command_view (said.WalkerSet w n) = model.walker_set w (word_view n)
command_view (said.Query n text) = model.query (word_view n) text.items
command_view (said.Matches e text) = model.matches (word_view e) text.items
command_view (said.Listen n words) = model.listen (word_view n) (listener_view words)
command_view (said.Unlisten n event label capture) = model.unlisten (word_view n) (string_bytes event) (string_bytes label) capture
command_view (said.Dispatch n event related) = model.dispatch (word_view n) (event_view event) (option_map word_view related)
command_view said.Observer = model.observer
command_view (said.Observe o n words) = model.observe o (word_view n) (observe_view words)
command_view (said.Disconnect o) = model.disconnect o
command_view (said.Take o) = model.take o
command_view (said.Micro label) = model.micro (string_bytes label)
command_view said.EndTurn = model.end_turn

-- what makes nodes, and shadow roots
abbrev pub making_keyword : MakingWord → Keyword
making_keyword making.New = keyword.New
making_keyword making.Document = keyword.Document
making_keyword making.Attach = keyword.Attach

-- what changes where nodes stand
abbrev pub tree_keyword : TreeWord → Keyword
tree_keyword tree.Append = keyword.Append
tree_keyword tree.Insert = keyword.Insert
tree_keyword tree.Replace = keyword.Replace
tree_keyword tree.Remove = keyword.Remove
tree_keyword tree.Adopt = keyword.Adopt
tree_keyword tree.Normalize = keyword.Normalize

-- what changes attributes and data
abbrev pub content_keyword : ContentWord → Keyword
content_keyword content.Set = keyword.Set
content_keyword content.Unset = keyword.Unset
content_keyword content.Data = keyword.Data
content_keyword content.ReplaceData = keyword.ReplaceData
content_keyword content.Split = keyword.Split
content_keyword content.Text = keyword.Text

-- what asks about nodes
abbrev pub question_keyword : QuestionWord → Keyword
question_keyword question.Tree = keyword.Tree
question_keyword question.Attr = keyword.Attr
question_keyword question.Parent = keyword.Parent
question_keyword question.Docof = keyword.Docof
question_keyword question.Children = keyword.Children
question_keyword question.Contains = keyword.Contains
question_keyword question.Connected = keyword.Connected
question_keyword question.ShadowRoot = keyword.ShadowRoot
question_keyword question.SlotOf = keyword.SlotOf
question_keyword question.Assigned = keyword.Assigned
question_keyword question.Query = keyword.Query
question_keyword question.Matches = keyword.Matches

-- what ranges are made by, asked and used for
abbrev pub range_keyword : RangeWord → Keyword
range_keyword range.New = keyword.RangeNew
range_keyword range.Start = keyword.RangeStart
range_keyword range.End = keyword.RangeEnd
range_keyword range.Collapse = keyword.RangeCollapse
range_keyword range.Drop = keyword.RangeDrop
range_keyword range.Get = keyword.RangeGet
range_keyword range.Text = keyword.RangeText
range_keyword range.Extract = keyword.Extract
range_keyword range.Delete = keyword.Delete
range_keyword range.InsertNode = keyword.InsertNode

-- what iterators and walkers are made by, asked and moved by
abbrev pub cursor_keyword : CursorWord → Keyword
cursor_keyword cursor.IterNew = keyword.IterNew
cursor_keyword cursor.WalkNew = keyword.WalkNew
cursor_keyword cursor.IterNext = keyword.IterNext
cursor_keyword cursor.IterPrev = keyword.IterPrev
cursor_keyword cursor.IterAt = keyword.IterAt
cursor_keyword cursor.Walk = keyword.Walk
cursor_keyword cursor.WalkAt = keyword.WalkAt
cursor_keyword cursor.WalkSet = keyword.WalkSet

-- listeners and events, microtasks and the end of a turn
abbrev pub event_keyword : EventWord → Keyword
event_keyword event.Listen = keyword.Listen
event_keyword event.Unlisten = keyword.Unlisten
event_keyword event.Dispatch = keyword.Dispatch
event_keyword event.Micro = keyword.Micro
event_keyword event.End = keyword.End

-- what observers are made by, told and asked
abbrev pub observer_keyword : ObserverWord → Keyword
observer_keyword observer.Observer = keyword.Observer
observer_keyword observer.Observe = keyword.Observe
observer_keyword observer.Disconnect = keyword.Disconnect
observer_keyword observer.Take = keyword.Take

-- the word with which a command begins
abbrev pub keyword_view : Grouped → Keyword
keyword_view (grouped.Making word) = making_keyword word
keyword_view (grouped.Tree word) = tree_keyword word
keyword_view (grouped.Content word) = content_keyword word
keyword_view (grouped.Question word) = question_keyword word
keyword_view (grouped.Range word) = range_keyword word
keyword_view (grouped.Cursor word) = cursor_keyword word
keyword_view (grouped.Event word) = event_keyword word
keyword_view (grouped.Observer word) = observer_keyword word

-- a line that has no command: whose it is, if it is anybody's
abbrev pub refused_view : Option Owner → model.Line
refused_view None = model.no_owner
refused_view (Some owner) = model.no_command owner

-- what was read of a line
abbrev pub line_view : Result Line (Option Owner × Refusal) → model.Line
line_view (Ok line) = model.command line.owner (command_view line.command)
line_view (Err e) = refused_view e.0
