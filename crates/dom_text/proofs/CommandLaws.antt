-- Commands: what is read behind an owner's word is a command of the grammar, and each is read.
use Rattle.dom_base.proofs.Std.{◌≡◌, ℕ, List, [], ◌∷◌, drop, Option, Some, refl, ap, subst, ◌∙◌}
use Rattle.dom_model.proofs.Model.{Owner, Page, Component, Kind, Command, NodeWord, new_element, new_text, new_comment, new_fragment, new_document, append}
use Rattle.dom_model.proofs.Model.{insert, replace, adopt, unset_attribute, set_data, split, set_text, attribute, contains, assigned, range_new, range_start}
use Rattle.dom_model.proofs.Model.{range_end, range_collapse, range_drop, range_get, range_text, extract, delete, insert_node, iterator_new, walker_new}
use Rattle.dom_model.proofs.Model.{iterator_next, iterator_previous, iterator_at, walk, walker_at, walker_set, query, matches, listen, unlisten, dispatch}
use Rattle.dom_model.proofs.Model.{observer, observe, disconnect, take, micro, end_turn}
use Rattle.dom_base.specs.declared.Kind.TheVariants as kinds
use Rattle.dom_model.specs.Command.{set_attribute, replace_data}
use Rattle.dom_text.specs.Definitions.{Keyword, keyword_word, parts, command_behind, kind_word, new_kinds, MayUse, Spells, LinePart, key, word, string, node}
use Rattle.dom_text.specs.Definitions.{◌>>=◌, next_as, named, command_at, new_of, new_at, node_at, one}
use Rattle.dom_text.specs.Commands as keyword
use Rattle.dom_text.specs.Decode.{keyword_of}
use Rattle.dom_text.proofs.PartLaws.{LineReader, next_word_reads, next_as_reads, Spells-ends, ended, one_part, next_string_reads}
use Rattle.dom_text.proofs.CommandParts.{keyword_says}
use Rattle.dom_text.proofs.CommandForms.{cursor, a_listener, no_listener, an_event, observed_node, IsBehind, read_behind, new_kind, kind_reads, new_behind}
use Rattle.dom_text.proofs.CommandForms.{a_node, two_nodes, three_nodes, node_and_word, node_and_string, node_word_string, node_and_number}
use Rattle.dom_text.proofs.CommandForms.{node_numbers_string, a_range, range_and_place, range_and_end, range_and_node, an_iterator, a_walker, walker_and_move}
use Rattle.dom_text.proofs.CommandForms.{walker_and_node, an_observer, a_label, assigned_behind}

pub command_sound : (k : Keyword) (o : Owner) (bytes : List ℕ) (c : Command) → command_behind k o bytes ≡ Some c → IsBehind k o bytes c
command_sound keyword.New o bytes c e = new_behind o bytes c e
command_sound keyword.Document o bytes c e = read_behind (ended new_document) keyword.Document o bytes (λ x s. (tt, s)) e
command_sound keyword.Append o bytes c e = read_behind (two_nodes o append) keyword.Append o bytes (λ x s. (tt, s)) e
command_sound keyword.Insert o bytes c e = read_behind (three_nodes o insert) keyword.Insert o bytes (λ x s. (tt, s)) e
command_sound keyword.Replace o bytes c e = read_behind (three_nodes o replace) keyword.Replace o bytes (λ x s. (tt, s)) e
command_sound keyword.Adopt o bytes c e = read_behind (two_nodes o adopt) keyword.Adopt o bytes (λ x s. (tt, s)) e
command_sound keyword.Set o bytes c e = read_behind (node_word_string o set_attribute) keyword.Set o bytes (λ x s. (tt, s)) e
command_sound keyword.Unset o bytes c e = read_behind (node_and_word o unset_attribute) keyword.Unset o bytes (λ x s. (tt, s)) e
command_sound keyword.Data o bytes c e = read_behind (node_and_string o set_data) keyword.Data o bytes (λ x s. (tt, s)) e
command_sound keyword.ReplaceData o bytes c e = read_behind (node_numbers_string o replace_data) keyword.ReplaceData o bytes (λ x s. (tt, s)) e
command_sound keyword.Split o bytes c e = read_behind (node_and_number o split) keyword.Split o bytes (λ x s. (tt, s)) e
command_sound keyword.Text o bytes c e = read_behind (node_and_string o set_text) keyword.Text o bytes (λ x s. (tt, s)) e
command_sound keyword.Attr o bytes c e = read_behind (node_and_word o attribute) keyword.Attr o bytes (λ x s. (tt, s)) e
command_sound keyword.Contains o bytes c e = read_behind (two_nodes o contains) keyword.Contains o bytes (λ x s. (tt, s)) e
command_sound keyword.Assigned o bytes c e = assigned_behind o bytes c e
command_sound keyword.RangeNew o bytes c e = read_behind (ended range_new) keyword.RangeNew o bytes (λ x s. (tt, s)) e
command_sound keyword.RangeStart o bytes c e = read_behind (range_and_place o range_start) keyword.RangeStart o bytes (λ x s. (tt, s)) e
command_sound keyword.RangeEnd o bytes c e = read_behind (range_and_place o range_end) keyword.RangeEnd o bytes (λ x s. (tt, s)) e
command_sound keyword.RangeCollapse o bytes c e = read_behind (range_and_end range_collapse) keyword.RangeCollapse o bytes (λ x s. (tt, s)) e
command_sound keyword.RangeDrop o bytes c e = read_behind (a_range range_drop) keyword.RangeDrop o bytes (λ x s. (tt, s)) e
command_sound keyword.RangeGet o bytes c e = read_behind (a_range range_get) keyword.RangeGet o bytes (λ x s. (tt, s)) e
command_sound keyword.RangeText o bytes c e = read_behind (a_range range_text) keyword.RangeText o bytes (λ x s. (tt, s)) e
command_sound keyword.Extract o bytes c e = read_behind (a_range extract) keyword.Extract o bytes (λ x s. (tt, s)) e
command_sound keyword.Delete o bytes c e = read_behind (a_range delete) keyword.Delete o bytes (λ x s. (tt, s)) e
command_sound keyword.InsertNode o bytes c e = read_behind (range_and_node o insert_node) keyword.InsertNode o bytes (λ x s. (tt, s)) e
command_sound keyword.IterNew o bytes c e = read_behind (cursor o iterator_new) keyword.IterNew o bytes (λ x s. (tt, s)) e
command_sound keyword.WalkNew o bytes c e = read_behind (cursor o walker_new) keyword.WalkNew o bytes (λ x s. (tt, s)) e
command_sound keyword.IterNext o bytes c e = read_behind (an_iterator iterator_next) keyword.IterNext o bytes (λ x s. (tt, s)) e
command_sound keyword.IterPrev o bytes c e = read_behind (an_iterator iterator_previous) keyword.IterPrev o bytes (λ x s. (tt, s)) e
command_sound keyword.IterAt o bytes c e = read_behind (an_iterator iterator_at) keyword.IterAt o bytes (λ x s. (tt, s)) e
command_sound keyword.Walk o bytes c e = read_behind (walker_and_move walk) keyword.Walk o bytes (λ x s. (tt, s)) e
command_sound keyword.WalkAt o bytes c e = read_behind (a_walker walker_at) keyword.WalkAt o bytes (λ x s. (tt, s)) e
command_sound keyword.WalkSet o bytes c e = read_behind (walker_and_node o walker_set) keyword.WalkSet o bytes (λ x s. (tt, s)) e
command_sound keyword.Query o bytes c e = read_behind (node_and_string o query) keyword.Query o bytes (λ x s. (tt, s)) e
command_sound keyword.Matches o bytes c e = read_behind (node_and_string o matches) keyword.Matches o bytes (λ x s. (tt, s)) e
command_sound keyword.Listen o bytes c e = read_behind (a_listener o) keyword.Listen o bytes (λ x s. (tt, s)) e
command_sound keyword.Unlisten o bytes c e = read_behind (no_listener o) keyword.Unlisten o bytes (λ x s. (tt, s)) e
command_sound keyword.Dispatch o bytes c e = read_behind (an_event o) keyword.Dispatch o bytes (λ x s. (tt, s)) e
command_sound keyword.Observer o bytes c e = read_behind (ended observer) keyword.Observer o bytes (λ x s. (tt, s)) e
command_sound keyword.Observe o bytes c e = read_behind (observed_node o) keyword.Observe o bytes (λ x s. (tt, s)) e
command_sound keyword.Disconnect o bytes c e = read_behind (an_observer disconnect) keyword.Disconnect o bytes (λ x s. (tt, s)) e
command_sound keyword.Take o bytes c e = read_behind (an_observer take) keyword.Take o bytes (λ x s. (tt, s)) e
command_sound keyword.Micro o bytes c e = read_behind (a_label micro) keyword.Micro o bytes (λ x s. (tt, s)) e
command_sound keyword.End o bytes c e = read_behind (ended end_turn) keyword.End o bytes (λ x s. (tt, s)) e
-- a keyword and a node
command_sound k o bytes c e = read_behind (a_node o _) k o bytes (λ x s. (tt, s)) e

-- ---- each command is read

-- the parts behind the keyword
abbrev pub others : Owner → Command → List LinePart
others o c = drop 1 (parts o c)

-- a line with the keyword in front is read on behind it
pub at : (k : Keyword) (o : Owner) (behind : List LinePart) (said : List ℕ) (s : Spells (key (keyword_word k) ∷ behind) said) →
    command_at o said ≡ command_behind k o s.1
at k o behind said s =
    let read : next_as keyword_of said ≡ Some (k, s.1) = rw (s.4) ((next_as_reads keyword_says).complete s.0 s.1 k s.2 (Spells-ends behind s.1 s.3)) in
    ap (λ (x : Option (Keyword × List ℕ)). x >>= λ first. command_behind first.0 o first.1) read

-- a keyword behind which a reader reads
module _ (o : Owner) where
  -- a line with the keyword and the values' parts is read to its end
  completed : (k : Keyword) (reader : LineReader Command) (x : reader.Values) (said : List ℕ) →
      ((bytes : List ℕ) → command_behind k o bytes ≡ reader.reads bytes) → Spells (key (keyword_word k) ∷ reader.parts x) said →
      command_at o said ≡ Some (reader.makes x)
  completed k reader x said is s = at k o (reader.parts x) said s ∙ is s.1 ∙ reader.complete s.1 x s.3

-- a line with the kind in front is read on behind it
pub at_kind : (k : Kind) (behind : List LinePart) (bytes : List ℕ) (s : Spells (key (kind_word k) ∷ behind) bytes) →
    named kind_word new_kinds (kind_word k) ≡ Some k → new_at bytes ≡ new_of k s.1
unfolding new_kind
at_kind k behind bytes s found =
    let read : next_as (named kind_word new_kinds) bytes ≡ Some (k, s.1) =
    rw (s.4) (kind_reads.complete s.0 s.1 k (s.2, ap (named kind_word new_kinds) s.2 ∙ found) (Spells-ends behind s.1 s.3)) in
    ap (λ (x : Option (Kind × List ℕ)). x >>= λ kind. new_of kind.0 kind.1) read

-- a keyword that one node stands behind: its name, and the command that the two make
record TakesNode (k : Keyword) (makes : NodeWord → Command) (name : List ℕ) (o : Owner) : Type 0 where
  found : keyword_of name ≡ Some k
  behind : (bytes : List ℕ) → command_behind k o bytes ≡ one (node_at o) makes bytes

-- a line with a keyword and a node in front is read to its end
node_complete : {k : Keyword} {makes : NodeWord → Command} {name : List ℕ} (o : Owner) (n : NodeWord) (said : List ℕ) → TakesNode k makes name o →
    Spells (key name ∷ node o n ∷ []) said → command_at o said ≡ Some (makes n)
node_complete {k} {makes} {name} o n said takes s =
    let spelled : Spells (key (keyword_word k) ∷ node o n ∷ []) said =
    subst (λ w. Spells (key w ∷ node o n ∷ []) said) (keyword_says.sound name k takes.found) s in
    completed o k (a_node o makes) (n, tt) said takes.behind spelled

pub command_complete : (o : Owner) (c : Command) (said : List ℕ) → MayUse c o → Spells (parts o c) said → command_at o said ≡ Some c
unfolding keyword_of
command_complete o new_document said u s = completed o keyword.Document (ended new_document) tt said (λ bytes. refl) s
command_complete o (append a b) said u s = completed o keyword.Append (two_nodes o append) (a, (b, tt)) said (λ bytes. refl) s
command_complete o (insert a b d) said u s = completed o keyword.Insert (three_nodes o insert) (a, (b, (d, tt))) said (λ bytes. refl) s
command_complete o (replace a b d) said u s = completed o keyword.Replace (three_nodes o replace) (a, (b, (d, tt))) said (λ bytes. refl) s
command_complete o (adopt a b) said u s = completed o keyword.Adopt (two_nodes o adopt) (a, (b, tt)) said (λ bytes. refl) s
command_complete o (set_attribute a b d) said u s = completed o keyword.Set (node_word_string o set_attribute) (a, (b, (d, tt))) said (λ bytes. refl) s
command_complete o (unset_attribute a b) said u s = completed o keyword.Unset (node_and_word o unset_attribute) (a, (b, tt)) said (λ bytes. refl) s
command_complete o (set_data a b) said u s = completed o keyword.Data (node_and_string o set_data) (a, (b, tt)) said (λ bytes. refl) s
command_complete o (replace_data a b d e) said u s =
    at keyword.ReplaceData o (others o (replace_data a b d e)) said s ∙ (node_numbers_string o replace_data).complete s.1 (a, (b, (d, (e, tt)))) s.3
command_complete o (split a b) said u s = completed o keyword.Split (node_and_number o split) (a, (b, tt)) said (λ bytes. refl) s
command_complete o (set_text a b) said u s = completed o keyword.Text (node_and_string o set_text) (a, (b, tt)) said (λ bytes. refl) s
command_complete o (attribute a b) said u s = completed o keyword.Attr (node_and_word o attribute) (a, (b, tt)) said (λ bytes. refl) s
command_complete o (contains a b) said u s = completed o keyword.Contains (two_nodes o contains) (a, (b, tt)) said (λ bytes. refl) s
command_complete o range_new said u s = completed o keyword.RangeNew (ended range_new) tt said (λ bytes. refl) s
command_complete o (range_start a b d) said u s = completed o keyword.RangeStart (range_and_place o range_start) (a, (b, (d, tt))) said (λ bytes. refl) s
command_complete o (range_end a b d) said u s = completed o keyword.RangeEnd (range_and_place o range_end) (a, (b, (d, tt))) said (λ bytes. refl) s
command_complete o (range_collapse a b) said u s = completed o keyword.RangeCollapse (range_and_end range_collapse) (a, (b, tt)) said (λ bytes. refl) s
command_complete o (range_drop a) said u s = completed o keyword.RangeDrop (a_range range_drop) (a, tt) said (λ bytes. refl) s
command_complete o (range_get a) said u s = completed o keyword.RangeGet (a_range range_get) (a, tt) said (λ bytes. refl) s
command_complete o (range_text a) said u s = completed o keyword.RangeText (a_range range_text) (a, tt) said (λ bytes. refl) s
command_complete o (extract a) said u s = completed o keyword.Extract (a_range extract) (a, tt) said (λ bytes. refl) s
command_complete o (delete a) said u s = completed o keyword.Delete (a_range delete) (a, tt) said (λ bytes. refl) s
command_complete o (insert_node a b) said u s = completed o keyword.InsertNode (range_and_node o insert_node) (a, (b, tt)) said (λ bytes. refl) s
command_complete o (iterator_next a) said u s = completed o keyword.IterNext (an_iterator iterator_next) (a, tt) said (λ bytes. refl) s
command_complete o (iterator_previous a) said u s = completed o keyword.IterPrev (an_iterator iterator_previous) (a, tt) said (λ bytes. refl) s
command_complete o (iterator_at a) said u s = completed o keyword.IterAt (an_iterator iterator_at) (a, tt) said (λ bytes. refl) s
command_complete o (walk a b) said u s = completed o keyword.Walk (walker_and_move walk) (a, (b, tt)) said (λ bytes. refl) s
command_complete o (walker_at a) said u s = completed o keyword.WalkAt (a_walker walker_at) (a, tt) said (λ bytes. refl) s
command_complete o (walker_set a b) said u s = completed o keyword.WalkSet (walker_and_node o walker_set) (a, (b, tt)) said (λ bytes. refl) s
command_complete o (query a b) said u s = completed o keyword.Query (node_and_string o query) (a, (b, tt)) said (λ bytes. refl) s
command_complete o (matches a b) said u s = completed o keyword.Matches (node_and_string o matches) (a, (b, tt)) said (λ bytes. refl) s
command_complete o observer said u s = completed o keyword.Observer (ended observer) tt said (λ bytes. refl) s
command_complete o (disconnect a) said u s = completed o keyword.Disconnect (an_observer disconnect) (a, tt) said (λ bytes. refl) s
command_complete o (take a) said u s = completed o keyword.Take (an_observer take) (a, tt) said (λ bytes. refl) s
command_complete o (micro a) said u s = completed o keyword.Micro (a_label micro) (a, tt) said (λ bytes. refl) s
command_complete o end_turn said u s = completed o keyword.End (ended end_turn) tt said (λ bytes. refl) s
command_complete o (new_element w) said u s =
    at keyword.New o (others o (new_element w)) said s ∙ at_kind kinds.Element (word w ∷ []) s.1 s.3 refl ∙
    (one_part next_word_reads new_element).complete s.3.1 (w, tt) s.3.3
command_complete o (new_text d) said u s =
    at keyword.New o (others o (new_text d)) said s ∙ at_kind kinds.Text (string d ∷ []) s.1 s.3 refl ∙
    (one_part next_string_reads new_text).complete s.3.1 (d, tt) s.3.3
command_complete o (new_comment d) said u s =
    at keyword.New o (others o (new_comment d)) said s ∙ at_kind kinds.Comment (string d ∷ []) s.1 s.3 refl ∙
    (one_part next_string_reads new_comment).complete s.3.1 (d, tt) s.3.3
command_complete o new_fragment said u s =
    at keyword.New o (others o new_fragment) said s ∙ at_kind kinds.Fragment [] s.1 s.3 refl ∙ (ended new_fragment).complete s.3.1 tt s.3.3
command_complete Page (assigned e) said u s = absurd u
command_complete (Component q) (assigned e) said u s =
    at keyword.Assigned (Component q) (others (Component q) (assigned e)) said s ∙ (a_node (Component q) assigned).complete s.1 (e, tt) s.3
command_complete o (iterator_new n f) said u s = completed o keyword.IterNew (cursor o iterator_new) (n, (f.shown, f.named)) said (λ bytes. refl) s
command_complete o (walker_new n f) said u s = completed o keyword.WalkNew (cursor o walker_new) (n, (f.shown, f.named)) said (λ bytes. refl) s
command_complete o (listen n l) said u s =
    completed o keyword.Listen (a_listener o) (n, (l.event, (l.label, (l.action, (l.capture, (l.once, (l.passive, tt))))))) said (λ bytes. refl) s
command_complete o (unlisten n event l capture) said u s =
    completed o keyword.Unlisten (no_listener o) (n, (event, (l, (capture, tt)))) said (λ bytes. refl) s
command_complete o (dispatch n e r) said u s =
    completed o keyword.Dispatch (an_event o) (n, (e.event, (e.bubbles, (e.cancelable, (e.composed, r))))) said (λ bytes. refl) s
command_complete o (observe k n w) said u s =
    completed o keyword.Observe (observed_node o) (
      k,
      (
        n,
        (
          w.child_list,
          (
            w.attributes,
            (
              w.character_data,
              (
                w.subtree,
                (
                  w.attribute_old_value,
                  (w.character_data_old_value, w.filter),
                ),
              ),
            ),
          ),
        ),
      ),
    ) said (λ bytes. refl) s
-- a keyword and a node
command_complete o c said u s = node_complete o _ said (record { found = refl; behind = λ bytes. refl }) s
