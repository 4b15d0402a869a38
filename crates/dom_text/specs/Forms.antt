-- The forms of commands, read: a fixed number of words and the end of the line, and the forms that have words of their own.
use Rattle.std.specs.Prelude.{ℕ, Bool, true, false, List, [], ◌∷◌, codes, Option, Some, None}
use Rattle.dom_base.specs.declared.Owner.{Owner}
use Rattle.dom_base.specs.declared.Owner.TheVariants.{Page, Component}
use Rattle.dom_base.specs.declared.Kind.{Kind}
use Rattle.dom_base.specs.declared.Move.{Move}
use Rattle.dom_base.specs.declared.Action.{Action}
use Rattle.dom_model.specs.Names.{Word}
use Rattle.dom_model.specs.Command.{NodeWord, Filter, Command, new_element, new_text, new_comment, new_fragment, assigned, listen, unlisten, dispatch, observe}
use Rattle.dom_text.specs.Words.{action_word, move_word, end_word, kind_word, new_kinds, actions_listed, moves_listed}
use Rattle.dom_text.specs.Readers.{◌>>=◌, Reader, at_end, next_word, next_as, next_string, named, number_of, numbered, node_word_of, label_of, show_of}
use Rattle.dom_text.specs.Readers.{name_filter_of, attribute_filter_of, flag_at, last_as}
use Rattle.dom_base.specs.declared.Kind.TheVariants as kinds

-- ---- a fixed number of words

-- one value and the end of the line
abbrev pub one : {A C : Type 0} → Reader A → (A → C) → List ℕ → Option C
one first makes bytes = first bytes >>= λ a. at_end (makes a.0) a.1

-- two values and the end of the line
abbrev pub two : {A B C : Type 0} → Reader A → Reader B → (A → B → C) → List ℕ → Option C
two first second makes bytes = first bytes >>= λ a. second a.1 >>= λ b. at_end (makes a.0 b.0) b.1

-- three values and the end of the line
abbrev pub three : {A B D C : Type 0} → Reader A → Reader B → Reader D → (A → B → D → C) → List ℕ → Option C
three first second third makes bytes = first bytes >>= λ a. second a.1 >>= λ b. third b.1 >>= λ d. at_end (makes a.0 b.0 d.0) d.1

-- four values and the end of the line
abbrev pub four : {A B D E C : Type 0} → Reader A → Reader B → Reader D → Reader E → (A → B → D → E → C) → List ℕ → Option C
four first second third fourth makes bytes = first bytes >>= λ a. second a.1 >>= λ b. third b.1 >>= λ d. fourth d.1 >>= λ e. at_end (makes a.0 b.0 d.0 e.0) e.1

-- ---- values behind a space

-- a node
abbrev pub node_at : Owner → Reader NodeWord
node_at owner = next_as (node_word_of owner)

-- the number of a range
abbrev pub range_number_at : Reader ℕ
range_number_at = next_as (numbered 114)

-- the number of an iterator
abbrev pub iterator_number_at : Reader ℕ
iterator_number_at = next_as (numbered 105)

-- the number of a walker
abbrev pub walker_number_at : Reader ℕ
walker_number_at = next_as (numbered 119)

-- the number of an observer
abbrev pub observer_number_at : Reader ℕ
observer_number_at = next_as (numbered 111)

-- a number
abbrev pub number_at : Reader ℕ
number_at = next_as number_of

-- the type of an event, or a label
abbrev pub label_at : Reader Word
label_at = next_as label_of

-- what a listener does
abbrev pub action_at : Reader Action
action_at = next_as (named action_word actions_listed)

-- a move of a walker
abbrev pub move_at : Reader Move
move_at = next_as (named move_word moves_listed)

-- ---- the forms of lines that have words of their own

-- what is made, and its word or string
abbrev pub new_of : Kind → List ℕ → Option Command
new_of kinds.Element bytes = one next_word new_element bytes
new_of kinds.Text bytes = one next_string new_text bytes
new_of kinds.Comment bytes = one next_string new_comment bytes
new_of kinds.Fragment bytes = at_end new_fragment bytes
new_of _ bytes = None

-- the kind that `new` makes, and its words
abbrev pub new_at : List ℕ → Option Command
new_at bytes = next_as (named kind_word new_kinds) bytes >>= λ kind. new_of kind.0 kind.1

-- `start` or `end`
abbrev pub to_start_at : Reader Bool
to_start_at = next_as (named end_word (true ∷ false ∷ []))

-- a root, what is shown, and perhaps a name
abbrev pub cursor_at : Owner → (NodeWord → Filter → Command) → List ℕ → Option Command
cursor_at owner makes bytes =
    node_at owner bytes >>= λ root. next_as show_of root.1 >>= λ shown. last_as name_filter_of shown.1 >>= λ named'.
    Some (makes root.0 (record { shown = shown.0; named = named' }))

-- the words of `listen` behind the action
abbrev pub listen_end : NodeWord → Word → Word → Action → List ℕ → Option Command
listen_end n event label action bytes =
    let capture = flag_at (codes "capture") bytes in
    let once = flag_at (codes "once") capture.1 in
    let passive = flag_at (codes "passive") once.1 in
    at_end (listen n (record { event = event; label = label; action = action; capture = capture.0; once = once.0; passive = passive.0 })) passive.1

-- the words of `listen`
abbrev pub listen_at : Owner → List ℕ → Option Command
listen_at owner bytes =
    node_at owner bytes >>= λ n. label_at n.1 >>= λ event. label_at event.1 >>= λ label. action_at label.1 >>= λ action.
    listen_end n.0 event.0 label.0 action.0 action.1

-- the words of `unlisten` behind the label
abbrev pub unlisten_end : NodeWord → Word → Word → List ℕ → Option Command
unlisten_end n event label bytes = let capture = flag_at (codes "capture") bytes in at_end (unlisten n event label capture.0) capture.1

-- the words of `unlisten`
abbrev pub unlisten_at : Owner → List ℕ → Option Command
unlisten_at owner bytes = node_at owner bytes >>= λ n. label_at n.1 >>= λ event. label_at event.1 >>= λ label. unlisten_end n.0 event.0 label.0 label.1

-- the related node where its word stands, and the end of the line
abbrev pub related_at : Owner → Bool → List ℕ → Option (Option NodeWord)
related_at owner true bytes = one (node_at owner) Some bytes
related_at owner false bytes = at_end None bytes

-- the words of `dispatch` behind the type
abbrev pub dispatch_end : Owner → NodeWord → Word → List ℕ → Option Command
dispatch_end owner n event bytes =
    let bubbles = flag_at (codes "bubbles") bytes in
    let cancelable = flag_at (codes "cancelable") bubbles.1 in
    let composed = flag_at (codes "composed") cancelable.1 in
    let has_related = flag_at (codes "related") composed.1 in
    related_at owner has_related.0 has_related.1 >>= λ related.
    Some (dispatch n (record { event = event; bubbles = bubbles.0; cancelable = cancelable.0; composed = composed.0 }) related)

-- the words of `dispatch`
abbrev pub dispatch_at : Owner → List ℕ → Option Command
dispatch_at owner bytes = node_at owner bytes >>= λ n. label_at n.1 >>= λ event. dispatch_end owner n.0 event.0 event.1

-- the words of `observe` behind the node
abbrev pub observe_end : ℕ → NodeWord → List ℕ → Option Command
observe_end k n bytes =
    let child_list = flag_at (codes "childList") bytes in
    let attributes = flag_at (codes "attributes") child_list.1 in
    let character_data = flag_at (codes "characterData") attributes.1 in
    let subtree = flag_at (codes "subtree") character_data.1 in
    let attribute_old_value = flag_at (codes "attributeOldValue") subtree.1 in
    let character_data_old_value = flag_at (codes "characterDataOldValue") attribute_old_value.1 in
    last_as attribute_filter_of character_data_old_value.1 >>= λ filter.
    Some (observe k n (record {
      child_list = child_list.0;
      attributes = attributes.0;
      character_data = character_data.0;
      subtree = subtree.0;
      attribute_old_value = attribute_old_value.0;
      character_data_old_value = character_data_old_value.0;
      filter = filter;
    }))

-- the words of `observe`
abbrev pub observe_at : Owner → List ℕ → Option Command
observe_at owner bytes = observer_number_at bytes >>= λ k. node_at owner k.1 >>= λ n. observe_end k.0 n.0 n.1

-- the words of `assigned`, which is a component's
abbrev pub assigned_at : Owner → List ℕ → Option Command
assigned_at Page bytes = None
assigned_at (Component q) bytes = one (node_at (Component q)) assigned bytes
