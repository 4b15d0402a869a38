-- The commands as lines: the word with which each begins, the words of the lines that say it, and how the words behind the first are read.
use Rattle.std.specs.Prelude.{ℕ, List, [], ◌∷◌, codes, Option}
use Rattle.dom_base.specs.declared.Owner.{Owner}
use Rattle.dom_model.specs.Command.{Command, new_element, new_text, new_comment, new_fragment, new_document, attach, append, insert, replace, remove, adopt}
use Rattle.dom_model.specs.Command.{normalize, set_attribute, unset_attribute, set_data, replace_data, split, set_text, tree, attribute, parent, document_of}
use Rattle.dom_model.specs.Command.{children, contains, connected, shadow_root, slot_of, assigned, range_new, range_start, range_end, range_collapse}
use Rattle.dom_model.specs.Command.{range_drop, range_get, range_text, extract, delete, insert_node, iterator_new, walker_new, iterator_next, iterator_previous}
use Rattle.dom_model.specs.Command.{iterator_at, walk, walker_at, walker_set, query, matches, listen, unlisten, dispatch, observer, observe, disconnect, take}
use Rattle.dom_model.specs.Command.{micro, end_turn}
use Rattle.dom_text.specs.Words.{move_word, end_word}
use Rattle.dom_text.specs.Readers.{at_end, next_word, next_string}
use Rattle.dom_text.specs.LineParts.{LinePart, key, word, label, string, number, node, range, iterator, walker, observed, flag, filter_parts, listener_parts}
use Rattle.dom_text.specs.LineParts.{event_parts, observe_parts}
use Rattle.dom_text.specs.Forms.{one, two, three, four, node_at, range_number_at, iterator_number_at, walker_number_at, observer_number_at, number_at, label_at}
use Rattle.dom_text.specs.Forms.{move_at, new_at, to_start_at, cursor_at, listen_at, unlisten_at, dispatch_at, observe_at, assigned_at}

-- The word with which a command begins.
pub data Keyword : Type 0 where
  New : Keyword
  Document : Keyword
  Attach : Keyword
  Append : Keyword
  Insert : Keyword
  Replace : Keyword
  Remove : Keyword
  Adopt : Keyword
  Normalize : Keyword
  Set : Keyword
  Unset : Keyword
  Data : Keyword
  ReplaceData : Keyword
  Split : Keyword
  Text : Keyword
  Tree : Keyword
  Attr : Keyword
  Parent : Keyword
  Docof : Keyword
  Children : Keyword
  Contains : Keyword
  Connected : Keyword
  ShadowRoot : Keyword
  SlotOf : Keyword
  Assigned : Keyword
  RangeNew : Keyword
  RangeStart : Keyword
  RangeEnd : Keyword
  RangeCollapse : Keyword
  RangeDrop : Keyword
  RangeGet : Keyword
  RangeText : Keyword
  Extract : Keyword
  Delete : Keyword
  InsertNode : Keyword
  IterNew : Keyword
  WalkNew : Keyword
  IterNext : Keyword
  IterPrev : Keyword
  IterAt : Keyword
  Walk : Keyword
  WalkAt : Keyword
  WalkSet : Keyword
  Query : Keyword
  Matches : Keyword
  Listen : Keyword
  Unlisten : Keyword
  Dispatch : Keyword
  Observer : Keyword
  Observe : Keyword
  Disconnect : Keyword
  Take : Keyword
  Micro : Keyword
  End : Keyword

-- the word with which a command begins
abbrev pub keyword_word : Keyword → List ℕ
keyword_word Keyword.New = codes "new"
keyword_word Keyword.Document = codes "document"
keyword_word Keyword.Attach = codes "attach"
keyword_word Keyword.Append = codes "append"
keyword_word Keyword.Insert = codes "insert"
keyword_word Keyword.Replace = codes "replace"
keyword_word Keyword.Remove = codes "remove"
keyword_word Keyword.Adopt = codes "adopt"
keyword_word Keyword.Normalize = codes "normalize"
keyword_word Keyword.Set = codes "set"
keyword_word Keyword.Unset = codes "unset"
keyword_word Keyword.Data = codes "data"
keyword_word Keyword.ReplaceData = codes "replace-data"
keyword_word Keyword.Split = codes "split"
keyword_word Keyword.Text = codes "text"
keyword_word Keyword.Tree = codes "tree"
keyword_word Keyword.Attr = codes "attr"
keyword_word Keyword.Parent = codes "parent"
keyword_word Keyword.Docof = codes "docof"
keyword_word Keyword.Children = codes "children"
keyword_word Keyword.Contains = codes "contains"
keyword_word Keyword.Connected = codes "connected"
keyword_word Keyword.ShadowRoot = codes "shadow-root"
keyword_word Keyword.SlotOf = codes "slot-of"
keyword_word Keyword.Assigned = codes "assigned"
keyword_word Keyword.RangeNew = codes "range-new"
keyword_word Keyword.RangeStart = codes "range-start"
keyword_word Keyword.RangeEnd = codes "range-end"
keyword_word Keyword.RangeCollapse = codes "range-collapse"
keyword_word Keyword.RangeDrop = codes "range-drop"
keyword_word Keyword.RangeGet = codes "range-get"
keyword_word Keyword.RangeText = codes "range-text"
keyword_word Keyword.Extract = codes "extract"
keyword_word Keyword.Delete = codes "delete"
keyword_word Keyword.InsertNode = codes "insert-node"
keyword_word Keyword.IterNew = codes "iter-new"
keyword_word Keyword.WalkNew = codes "walk-new"
keyword_word Keyword.IterNext = codes "iter-next"
keyword_word Keyword.IterPrev = codes "iter-prev"
keyword_word Keyword.IterAt = codes "iter-at"
keyword_word Keyword.Walk = codes "walk"
keyword_word Keyword.WalkAt = codes "walk-at"
keyword_word Keyword.WalkSet = codes "walk-set"
keyword_word Keyword.Query = codes "query"
keyword_word Keyword.Matches = codes "matches"
keyword_word Keyword.Listen = codes "listen"
keyword_word Keyword.Unlisten = codes "unlisten"
keyword_word Keyword.Dispatch = codes "dispatch"
keyword_word Keyword.Observer = codes "observer"
keyword_word Keyword.Observe = codes "observe"
keyword_word Keyword.Disconnect = codes "disconnect"
keyword_word Keyword.Take = codes "take"
keyword_word Keyword.Micro = codes "micro"
keyword_word Keyword.End = codes "."

-- all words with which commands begin
abbrev pub keywords : List Keyword
keywords =
    Keyword.New ∷ Keyword.Document ∷ Keyword.Attach ∷ Keyword.Append ∷ Keyword.Insert ∷ Keyword.Replace ∷
    Keyword.Remove ∷ Keyword.Adopt ∷ Keyword.Normalize ∷ Keyword.Set ∷ Keyword.Unset ∷ Keyword.Data ∷
    Keyword.ReplaceData ∷ Keyword.Split ∷ Keyword.Text ∷ Keyword.Tree ∷ Keyword.Attr ∷ Keyword.Parent ∷
    Keyword.Docof ∷ Keyword.Children ∷ Keyword.Contains ∷ Keyword.Connected ∷ Keyword.ShadowRoot ∷ Keyword.SlotOf ∷
    Keyword.Assigned ∷ Keyword.RangeNew ∷ Keyword.RangeStart ∷ Keyword.RangeEnd ∷ Keyword.RangeCollapse ∷
    Keyword.RangeDrop ∷ Keyword.RangeGet ∷ Keyword.RangeText ∷ Keyword.Extract ∷ Keyword.Delete ∷
    Keyword.InsertNode ∷ Keyword.IterNew ∷ Keyword.WalkNew ∷ Keyword.IterNext ∷ Keyword.IterPrev ∷ Keyword.IterAt ∷
    Keyword.Walk ∷ Keyword.WalkAt ∷ Keyword.WalkSet ∷ Keyword.Query ∷ Keyword.Matches ∷ Keyword.Listen ∷
    Keyword.Unlisten ∷ Keyword.Dispatch ∷ Keyword.Observer ∷ Keyword.Observe ∷ Keyword.Disconnect ∷ Keyword.Take ∷
    Keyword.Micro ∷ Keyword.End ∷ []

-- the parts of a command in a line of the owner: the table of commands
abbrev pub parts : Owner → Command → List LinePart
parts o (new_element name) = key (codes "new") ∷ key (codes "element") ∷ word name ∷ []
parts o (new_text data') = key (codes "new") ∷ key (codes "text") ∷ string data' ∷ []
parts o (new_comment data') = key (codes "new") ∷ key (codes "comment") ∷ string data' ∷ []
parts o new_fragment = key (codes "new") ∷ key (codes "fragment") ∷ []
parts o new_document = key (codes "document") ∷ []
parts o (attach e) = key (codes "attach") ∷ node o e ∷ []
parts o (append p n) = key (codes "append") ∷ node o p ∷ node o n ∷ []
parts o (insert p n c) = key (codes "insert") ∷ node o p ∷ node o n ∷ node o c ∷ []
parts o (replace p n c) = key (codes "replace") ∷ node o p ∷ node o n ∷ node o c ∷ []
parts o (remove n) = key (codes "remove") ∷ node o n ∷ []
parts o (adopt d n) = key (codes "adopt") ∷ node o d ∷ node o n ∷ []
parts o (normalize n) = key (codes "normalize") ∷ node o n ∷ []
parts o (set_attribute e name value) = key (codes "set") ∷ node o e ∷ word name ∷ string value ∷ []
parts o (unset_attribute e name) = key (codes "unset") ∷ node o e ∷ word name ∷ []
parts o (set_data t data') = key (codes "data") ∷ node o t ∷ string data' ∷ []
parts o (replace_data t offset count data') = key (codes "replace-data") ∷ node o t ∷ number offset ∷ number count ∷ string data' ∷ []
parts o (split n offset) = key (codes "split") ∷ node o n ∷ number offset ∷ []
parts o (set_text n data') = key (codes "text") ∷ node o n ∷ string data' ∷ []
parts o (tree n) = key (codes "tree") ∷ node o n ∷ []
parts o (attribute e name) = key (codes "attr") ∷ node o e ∷ word name ∷ []
parts o (parent n) = key (codes "parent") ∷ node o n ∷ []
parts o (document_of n) = key (codes "docof") ∷ node o n ∷ []
parts o (children n) = key (codes "children") ∷ node o n ∷ []
parts o (contains a n) = key (codes "contains") ∷ node o a ∷ node o n ∷ []
parts o (connected n) = key (codes "connected") ∷ node o n ∷ []
parts o (shadow_root e) = key (codes "shadow-root") ∷ node o e ∷ []
parts o (slot_of n) = key (codes "slot-of") ∷ node o n ∷ []
parts o (assigned e) = key (codes "assigned") ∷ node o e ∷ []
parts o range_new = key (codes "range-new") ∷ []
parts o (range_start r n offset) = key (codes "range-start") ∷ range r ∷ node o n ∷ number offset ∷ []
parts o (range_end r n offset) = key (codes "range-end") ∷ range r ∷ node o n ∷ number offset ∷ []
parts o (range_collapse r to_start) = key (codes "range-collapse") ∷ range r ∷ key (end_word to_start) ∷ []
parts o (range_drop r) = key (codes "range-drop") ∷ range r ∷ []
parts o (range_get r) = key (codes "range-get") ∷ range r ∷ []
parts o (range_text r) = key (codes "range-text") ∷ range r ∷ []
parts o (extract r) = key (codes "extract") ∷ range r ∷ []
parts o (delete r) = key (codes "delete") ∷ range r ∷ []
parts o (insert_node r n) = key (codes "insert-node") ∷ range r ∷ node o n ∷ []
parts o (iterator_new n filter) = key (codes "iter-new") ∷ node o n ∷ filter_parts filter
parts o (walker_new n filter) = key (codes "walk-new") ∷ node o n ∷ filter_parts filter
parts o (iterator_next i) = key (codes "iter-next") ∷ iterator i ∷ []
parts o (iterator_previous i) = key (codes "iter-prev") ∷ iterator i ∷ []
parts o (iterator_at i) = key (codes "iter-at") ∷ iterator i ∷ []
parts o (walk w move) = key (codes "walk") ∷ walker w ∷ key (move_word move) ∷ []
parts o (walker_at w) = key (codes "walk-at") ∷ walker w ∷ []
parts o (walker_set w n) = key (codes "walk-set") ∷ walker w ∷ node o n ∷ []
parts o (query n selector) = key (codes "query") ∷ node o n ∷ string selector ∷ []
parts o (matches e selector) = key (codes "matches") ∷ node o e ∷ string selector ∷ []
parts o (listen n l) = key (codes "listen") ∷ node o n ∷ listener_parts l
parts o (unlisten n event l capture) = key (codes "unlisten") ∷ node o n ∷ label event ∷ label l ∷ flag capture (codes "capture") []
parts o (dispatch n e related) = key (codes "dispatch") ∷ node o n ∷ event_parts o e related
parts o observer = key (codes "observer") ∷ []
parts o (observe b n w) = key (codes "observe") ∷ observed b ∷ node o n ∷ observe_parts w
parts o (disconnect b) = key (codes "disconnect") ∷ observed b ∷ []
parts o (take b) = key (codes "take") ∷ observed b ∷ []
parts o (micro l) = key (codes "micro") ∷ label l ∷ []
parts o end_turn = key (codes ".") ∷ []

-- the command that begins with the keyword and goes on with the bytes
abbrev pub command_behind : Keyword → Owner → List ℕ → Option Command
command_behind Keyword.New o bytes = new_at bytes
command_behind Keyword.Document o bytes = at_end new_document bytes
command_behind Keyword.Attach o bytes = one (node_at o) attach bytes
command_behind Keyword.Append o bytes = two (node_at o) (node_at o) append bytes
command_behind Keyword.Insert o bytes = three (node_at o) (node_at o) (node_at o) insert bytes
command_behind Keyword.Replace o bytes = three (node_at o) (node_at o) (node_at o) replace bytes
command_behind Keyword.Remove o bytes = one (node_at o) remove bytes
command_behind Keyword.Adopt o bytes = two (node_at o) (node_at o) adopt bytes
command_behind Keyword.Normalize o bytes = one (node_at o) normalize bytes
command_behind Keyword.Set o bytes = three (node_at o) next_word next_string set_attribute bytes
command_behind Keyword.Unset o bytes = two (node_at o) next_word unset_attribute bytes
command_behind Keyword.Data o bytes = two (node_at o) next_string set_data bytes
command_behind Keyword.ReplaceData o bytes = four (node_at o) number_at number_at next_string replace_data bytes
command_behind Keyword.Split o bytes = two (node_at o) number_at split bytes
command_behind Keyword.Text o bytes = two (node_at o) next_string set_text bytes
command_behind Keyword.Tree o bytes = one (node_at o) tree bytes
command_behind Keyword.Attr o bytes = two (node_at o) next_word attribute bytes
command_behind Keyword.Parent o bytes = one (node_at o) parent bytes
command_behind Keyword.Docof o bytes = one (node_at o) document_of bytes
command_behind Keyword.Children o bytes = one (node_at o) children bytes
command_behind Keyword.Contains o bytes = two (node_at o) (node_at o) contains bytes
command_behind Keyword.Connected o bytes = one (node_at o) connected bytes
command_behind Keyword.ShadowRoot o bytes = one (node_at o) shadow_root bytes
command_behind Keyword.SlotOf o bytes = one (node_at o) slot_of bytes
command_behind Keyword.Assigned o bytes = assigned_at o bytes
command_behind Keyword.RangeNew o bytes = at_end range_new bytes
command_behind Keyword.RangeStart o bytes = three range_number_at (node_at o) number_at range_start bytes
command_behind Keyword.RangeEnd o bytes = three range_number_at (node_at o) number_at range_end bytes
command_behind Keyword.RangeCollapse o bytes = two range_number_at to_start_at range_collapse bytes
command_behind Keyword.RangeDrop o bytes = one range_number_at range_drop bytes
command_behind Keyword.RangeGet o bytes = one range_number_at range_get bytes
command_behind Keyword.RangeText o bytes = one range_number_at range_text bytes
command_behind Keyword.Extract o bytes = one range_number_at extract bytes
command_behind Keyword.Delete o bytes = one range_number_at delete bytes
command_behind Keyword.InsertNode o bytes = two range_number_at (node_at o) insert_node bytes
command_behind Keyword.IterNew o bytes = cursor_at o iterator_new bytes
command_behind Keyword.WalkNew o bytes = cursor_at o walker_new bytes
command_behind Keyword.IterNext o bytes = one iterator_number_at iterator_next bytes
command_behind Keyword.IterPrev o bytes = one iterator_number_at iterator_previous bytes
command_behind Keyword.IterAt o bytes = one iterator_number_at iterator_at bytes
command_behind Keyword.Walk o bytes = two walker_number_at move_at walk bytes
command_behind Keyword.WalkAt o bytes = one walker_number_at walker_at bytes
command_behind Keyword.WalkSet o bytes = two walker_number_at (node_at o) walker_set bytes
command_behind Keyword.Query o bytes = two (node_at o) next_string query bytes
command_behind Keyword.Matches o bytes = two (node_at o) next_string matches bytes
command_behind Keyword.Listen o bytes = listen_at o bytes
command_behind Keyword.Unlisten o bytes = unlisten_at o bytes
command_behind Keyword.Dispatch o bytes = dispatch_at o bytes
command_behind Keyword.Observer o bytes = at_end observer bytes
command_behind Keyword.Observe o bytes = observe_at o bytes
command_behind Keyword.Disconnect o bytes = one observer_number_at disconnect bytes
command_behind Keyword.Take o bytes = one observer_number_at take bytes
command_behind Keyword.Micro o bytes = one label_at micro bytes
command_behind Keyword.End o bytes = at_end end_turn bytes
