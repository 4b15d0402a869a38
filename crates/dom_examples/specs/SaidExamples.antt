-- Lines of each form, and what each says, by the protocol's grammar; the rows come from outside.
use Rattle.std.specs.Prelude.{◌≡◌, ℕ, Bool, true, false, List, [], ◌∷◌, Option, Some, None, codes, map}
use Rattle.dom_base.specs.declared.Owner.TheVariants.{Page, Component}
use Rattle.dom_base.specs.declared.Action.{Action}
use Rattle.dom_base.specs.declared.Action.TheVariants as actions
use Rattle.dom_base.specs.declared.Move.TheVariants as moves
use Rattle.dom_base.specs.declared.Verdict.{Verdict}
use Rattle.dom_base.specs.declared.Verdict.TheVariants as verdicts
use Rattle.dom_model.specs.Names.{Word}
use Rattle.dom_model.specs.Command as model
use Rattle.dom_model.specs.Command.{own, foreign}
use Rattle.dom_text.specs.Tokens.{path_from}
use Rattle.dom_text.specs.Decode.{decode}

-- A line, and what it says.
pub record Said : Type 0 where
  pub line : List ℕ
  pub says : model.Line

-- each of the lines says that
abbrev pub SaysEach : List Said → Type 0
SaysEach rows = map (λ s. decode s.line) rows ≡ map (λ s. s.says) rows

-- a line of the page, and the command that it says
abbrev pub page_says : List ℕ → model.Command → Said
page_says line command = record { line = line; says = model.command Page command }

-- a line of the component whose word has these numbers
abbrev pub component_says : List ℕ → List ℕ → model.Command → Said
component_says numbers line command = record { line = line; says = model.command (Component (path_from numbers)) command }

-- the kinds that are shown: element, text, comment, document, fragment
abbrev pub shows : Bool → Bool → Bool → Bool → Bool → model.Show
shows element text comment document fragment =
    record { element = element; text = text; comment = comment; document = document; fragment = fragment }

-- `skip=NAME` or `reject=NAME`
abbrev pub names : Word → Verdict → model.NameFilter
names name verdict = record { name = name; verdict = verdict }

-- the words of an iterator or a walker
abbrev pub filters : model.Show → Option model.NameFilter → model.Filter
filters shown named = record { shown = shown; named = named }

-- the words of `listen`: the type, the label, the action, and whether capture, once and passive stand there
abbrev pub listens : Word → Word → Action → Bool → Bool → Bool → model.ListenerWords
listens event label action capture once passive =
    record { event = event; label = label; action = action; capture = capture; once = once; passive = passive }

-- the words of `dispatch`: the type, and whether bubbles, cancelable and composed stand there
abbrev pub fires : Word → Bool → Bool → Bool → model.EventWords
fires event bubbles cancelable composed = record { event = event; bubbles = bubbles; cancelable = cancelable; composed = composed }

-- the words of `observe`, in the order of the line, and the names behind `filter=`
abbrev pub watches : Bool → Bool → Bool → Bool → Bool → Bool → Option (List Word) → model.ObserveWords
watches child_list attributes character_data subtree attribute_old_value character_data_old_value filter =
    record {
      child_list = child_list;
      attributes = attributes;
      character_data = character_data;
      subtree = subtree;
      attribute_old_value = attribute_old_value;
      character_data_old_value = character_data_old_value;
      filter = filter;
    }

-- a line for each command
abbrev pub commands_said : List Said
commands_said =
    page_says (codes "p new element div") (model.new_element (codes "div")) ∷
    page_says (codes "p new element 1a\"b>") (model.new_element (codes "1a\"b>")) ∷
    page_says (codes "p new text \"a b\\\"\\\\\\u00E9\\u20aC~\"") (model.new_text (97 ∷ 32 ∷ 98 ∷ 34 ∷ 92 ∷ 233 ∷ 8364 ∷ 126 ∷ [])) ∷
    page_says (codes "p new comment \"\"") (model.new_comment []) ∷
    page_says (codes "p new fragment") (model.new_fragment) ∷
    page_says (codes "p document") (model.new_document) ∷
    page_says (codes "p attach n1") (model.attach (own 1)) ∷
    page_says (codes "p append n0 n1") (model.append (own 0) (own 1)) ∷
    page_says (codes "p insert n0 n1 n2") (model.insert (own 0) (own 1) (own 2)) ∷
    component_says (1 ∷ []) (codes "c1 replace m0 m1 m999999999") (model.replace (own 0) (own 1) (own 999999999)) ∷
    page_says (codes "p remove n1") (model.remove (own 1)) ∷
    page_says (codes "p adopt n0 n1") (model.adopt (own 0) (own 1)) ∷
    page_says (codes "p normalize n1") (model.normalize (own 1)) ∷
    page_says (codes "p set n1 class \"a\\ud83D\\uDE00\"") (model.set_attribute (own 1) (codes "class") (97 ∷ 55357 ∷ 56832 ∷ [])) ∷
    page_says (codes "p unset n1 class") (model.unset_attribute (own 1) (codes "class")) ∷
    page_says (codes "p data n2 \"x\"") (model.set_data (own 2) (120 ∷ [])) ∷
    page_says (codes "p replace-data n2 0 999999999 \"x\"") (model.replace_data (own 2) 0 999999999 (120 ∷ [])) ∷
    page_says (codes "p split n2 10") (model.split (own 2) 10) ∷
    page_says (codes "p text n1 \"\\\\\"") (model.set_text (own 1) (92 ∷ [])) ∷
    page_says (codes "p tree n0") (model.tree (own 0)) ∷
    page_says (codes "p attr n1 id") (model.attribute (own 1) (codes "id")) ∷
    page_says (codes "p parent n1") (model.parent (own 1)) ∷
    page_says (codes "p docof n1") (model.document_of (own 1)) ∷
    page_says (codes "p children n1") (model.children (own 1)) ∷
    page_says (codes "p contains n0 n1") (model.contains (own 0) (own 1)) ∷
    page_says (codes "p connected n1") (model.connected (own 1)) ∷
    page_says (codes "p shadow-root n1") (model.shadow_root (own 1)) ∷
    page_says (codes "p slot-of n1") (model.slot_of (own 1)) ∷
    component_says (12 ∷ []) (codes "c12 assigned m3") (model.assigned (own 3)) ∷
    page_says (codes "p range-new") (model.range_new) ∷
    page_says (codes "p range-start r0 n1 2") (model.range_start 0 (own 1) 2) ∷
    page_says (codes "p range-end r10 n1 0") (model.range_end 10 (own 1) 0) ∷
    page_says (codes "p range-collapse r1 start") (model.range_collapse 1 true) ∷
    page_says (codes "p range-collapse r1 end") (model.range_collapse 1 false) ∷
    page_says (codes "p range-drop r1") (model.range_drop 1) ∷
    page_says (codes "p range-get r1") (model.range_get 1) ∷
    page_says (codes "p range-text r1") (model.range_text 1) ∷
    page_says (codes "p extract r1") (model.extract 1) ∷
    page_says (codes "p delete r1") (model.delete 1) ∷
    page_says (codes "p insert-node r1 n2") (model.insert_node 1 (own 2)) ∷
    page_says (codes "p iter-next i0") (model.iterator_next 0) ∷
    page_says (codes "p iter-prev i0") (model.iterator_previous 0) ∷
    page_says (codes "p iter-at i7") (model.iterator_at 7) ∷
    page_says (codes "p walk w0 parent") (model.walk 0 moves.Parent) ∷
    page_says (codes "p walk w0 first") (model.walk 0 moves.First) ∷
    page_says (codes "p walk w0 last") (model.walk 0 moves.Last) ∷
    page_says (codes "p walk w0 next") (model.walk 0 moves.Next) ∷
    page_says (codes "p walk w0 previous") (model.walk 0 moves.Previous) ∷
    page_says (codes "p walk w0 next-sibling") (model.walk 0 moves.NextSibling) ∷
    page_says (codes "p walk w0 previous-sibling") (model.walk 0 moves.PreviousSibling) ∷
    page_says (codes "p walk-at w1") (model.walker_at 1) ∷
    page_says (codes "p walk-set w1 n2") (model.walker_set 1 (own 2)) ∷
    page_says (codes "p query n0 \"a > b\"") (model.query (own 0) (97 ∷ 32 ∷ 62 ∷ 32 ∷ 98 ∷ [])) ∷
    page_says (codes "p matches n1 \"*\"") (model.matches (own 1) (42 ∷ [])) ∷
    page_says (codes "p observer") (model.observer) ∷
    page_says (codes "p disconnect o0") (model.disconnect 0) ∷
    page_says (codes "p take o3") (model.take 3) ∷
    page_says (codes "p micro a-Z_0.:bbbbbbbbbbbbbbbbbbbbbbbbbbbbbbbbbbbbbbbbbbbbbbbbbbbbbbbbb")
    (model.micro (codes "a-Z_0.:bbbbbbbbbbbbbbbbbbbbbbbbbbbbbbbbbbbbbbbbbbbbbbbbbbbbbbbbb")) ∷
    page_says (codes "p .") (model.end_turn) ∷
    component_says (999999999 ∷ []) (codes "c999999999 .") (model.end_turn) ∷
    page_says (codes "p append m1 c1:m2") (model.append foreign foreign) ∷
    page_says (codes "p contains c999999999:m0 n1") (model.contains foreign (own 1)) ∷
    component_says (1 ∷ []) (codes "c1 append n1 c1:m1") (model.append foreign foreign) ∷
    component_says (1 ∷ []) (codes "c1 contains m1 c2:m0") (model.contains (own 1) foreign) ∷
    component_says (1 ∷ 2 ∷ []) (codes "c1.2 attach m1") (model.attach (own 1)) ∷
    component_says (10 ∷ 3 ∷ 7 ∷ []) (codes "c10.3.7 append m0 c10.3:m1") (model.append (own 0) foreign) ∷
    []

-- a line for each optional word
abbrev pub optional_words_said : List Said
optional_words_said =
    page_says (codes "p iter-new n0 all") (model.iterator_new (own 0) (filters (shows true true true true true) None)) ∷
    page_says (codes "p iter-new n0 element skip=b")
    (model.iterator_new (own 0) (filters (shows true false false false false) (Some (names (codes "b") verdicts.Skip)))) ∷
    page_says (codes "p iter-new n0 text,comment") (model.iterator_new (own 0) (filters (shows false true true false false) None)) ∷
    page_says (codes "p walk-new n0 element,text,comment,document,fragment reject=_x-1")
    (model.walker_new (own 0) (filters (shows true true true true true) (Some (names (codes "_x-1") verdicts.Reject)))) ∷
    component_says (1 ∷ []) (codes "c1 walk-new m0 document,fragment") (model.walker_new (own 0) (filters (shows false false false true true) None)) ∷
    page_says (codes "p listen n1 go h log") (model.listen (own 1) (listens (codes "go") (codes "h") actions.Log false false false)) ∷
    page_says (codes "p listen n1 go h stop") (model.listen (own 1) (listens (codes "go") (codes "h") actions.Stop false false false)) ∷
    page_says (codes "p listen n1 go h stop-now") (model.listen (own 1) (listens (codes "go") (codes "h") actions.StopNow false false false)) ∷
    page_says (codes "p listen n1 go h cancel") (model.listen (own 1) (listens (codes "go") (codes "h") actions.Cancel false false false)) ∷
    page_says (codes "p listen n1 go h log capture") (model.listen (own 1) (listens (codes "go") (codes "h") actions.Log true false false)) ∷
    page_says (codes "p listen n1 go h log once") (model.listen (own 1) (listens (codes "go") (codes "h") actions.Log false true false)) ∷
    page_says (codes "p listen n1 go h log passive") (model.listen (own 1) (listens (codes "go") (codes "h") actions.Log false false true)) ∷
    page_says (codes "p listen n1 go h log capture once passive") (model.listen (own 1) (listens (codes "go") (codes "h") actions.Log true true true)) ∷
    page_says (codes "p unlisten n1 go h") (model.unlisten (own 1) (codes "go") (codes "h") false) ∷
    page_says (codes "p unlisten n1 go h capture") (model.unlisten (own 1) (codes "go") (codes "h") true) ∷
    page_says (codes "p dispatch n1 go") (model.dispatch (own 1) (fires (codes "go") false false false) None) ∷
    page_says (codes "p dispatch n1 go bubbles") (model.dispatch (own 1) (fires (codes "go") true false false) None) ∷
    page_says (codes "p dispatch n1 go cancelable") (model.dispatch (own 1) (fires (codes "go") false true false) None) ∷
    page_says (codes "p dispatch n1 go composed") (model.dispatch (own 1) (fires (codes "go") false false true) None) ∷
    page_says (codes "p dispatch n1 go related n2") (model.dispatch (own 1) (fires (codes "go") false false false) (Some (own 2))) ∷
    page_says (codes "p dispatch n1 go bubbles cancelable composed related m2")
    (model.dispatch (own 1) (fires (codes "go") true true true) (Some foreign)) ∷
    page_says (codes "p observe o0 n1") (model.observe 0 (own 1) (watches false false false false false false None)) ∷
    page_says (codes "p observe o0 n1 childList") (model.observe 0 (own 1) (watches true false false false false false None)) ∷
    page_says (codes "p observe o0 n1 attributes") (model.observe 0 (own 1) (watches false true false false false false None)) ∷
    page_says (codes "p observe o0 n1 characterData") (model.observe 0 (own 1) (watches false false true false false false None)) ∷
    page_says (codes "p observe o0 n1 subtree") (model.observe 0 (own 1) (watches false false false true false false None)) ∷
    page_says (codes "p observe o0 n1 attributeOldValue") (model.observe 0 (own 1) (watches false false false false true false None)) ∷
    page_says (codes "p observe o0 n1 characterDataOldValue") (model.observe 0 (own 1) (watches false false false false false true None)) ∷
    page_says (codes "p observe o0 n1 filter=id") (model.observe 0 (own 1) (watches false false false false false false (Some ((codes "id") ∷ [])))) ∷
    component_says (1 ∷ []) (codes "c1 observe o2 m1 childList attributes characterData subtree attributeOldValue characterDataOldValue filter=class,id,_-9")
    (model.observe 2 (own 1) (watches true true true true true true (Some ((codes "class") ∷ (codes "id") ∷ (codes "_-9") ∷ [])))) ∷
    []
