-- The text of what is said without line feeds has none, and the protocol's reading gives words without line feeds alone.
use Rattle.dom_base.proofs.Std.{◌≡◌, ℕ, zero, suc, ◌+◌, ◌/◌, ◌%◌, ◌≤◌, Bool, true, false, not, cond, ◌||◌, eqb, List, [], ◌∷◌, ◌++◌, map, Option, Some, None}
use Rattle.dom_base.proofs.Std.{refl, sym, ap, ◌∙◌, arith, true≢false, subst, codes, nat_lt, take, if◌then◌else◌, AllByRecursion, list_all, flat_map}
use Rattle.dom_base.proofs.Std.{is_in_range, digit_char, decimal, digits, digits_onto, digit_glyph, cond-true, cond-false, eqb-true, false_from_ne_true}
use Rattle.dom_base.proofs.Std.{and_parts, not-true}
use Rattle.dom_model.proofs.Model.{refusal_word, Kind, NodeName, Owner, Page, Component, Refusal, Syntax, Command, Line, no_owner, no_command, command}
use Rattle.dom_model.proofs.Model.{ComponentName, DomString, owner_eq, Change, child_list, attributes, character_data, EventLine, Boundary, Value, a_tree, Said}
use Rattle.dom_model.proofs.Model.{replied, refused, event_seen, recorded, micro_ran, Output, bad_owner, says, Trees, none, tree, Node, Attribute}
use Rattle.dom_base.specs.declared.Kind.TheVariants as kinds
use Rattle.dom_text.specs.Definitions.{decode, Says, Spells, parts, line_feed, lines_of, hex_digits, unit_text, string_text, string_or_null, node_text_of}
use Rattle.dom_text.specs.Definitions.{node_text, node_or_null, next_node_text, nodes_text, list_text, attribute_text, own_parts, opening_text, trees_text}
use Rattle.dom_text.specs.Definitions.{boundary_text, truth_text, side_text, value_text, event_text, change_text, said_text, output_line, output_text, IsWord}
use Rattle.dom_text.specs.Definitions.{IsWordByte, IsLabel, is_label_byte, next_number_text, numbers_text, component_word, owner_word, kind_word}
use Rattle.dom_text.proofs.DecodeLaws.{decode_says}
use Rattle.dom_text.proofs.LineLaws.{lines_of-text_of_lines}
use Rattle.dom_isolation.specs.Definitions.{HasNoFeed, HasPlainWords, IsPlainLine, ReadsPlainWords}
use Rattle.dom_worlds.specs.Definitions.{AllNodes}
use Rattle.dom_worlds.proofs.ListLemmas.{all-append, all-flat_map, all-map, all-from, all-then, by_cases, either_way}
use Rattle.dom_isolation.proofs.PlainWords.{IsPlainAttribute, IsPlainNode, IsPlainChange}
use Rattle.dom_isolation.proofs.PlainCommands.{IsPlainEvent, IsPlainValue, IsPlainSaid, IsPlainOutput}

-- a byte that is no line feed
abbrev IsNoFeed : ℕ → Type 0
IsNoFeed b = eqb b line_feed ≡ false

-- bytes of which a test holds that no line feed passes
passes : (test : ℕ → Bool) → test line_feed ≡ false → (b : ℕ) → test b ≡ true → IsNoFeed b
passes test e b h = false_from_ne_true (eqb b line_feed) (λ t. true≢false (sym h ∙ ap test (eqb-true b line_feed t) ∙ e))

-- a byte past that of a line feed
past : (b : ℕ) → 11 ≤ b → IsNoFeed b
past b h = false_from_ne_true (eqb b line_feed) (λ t. let e : b ≡ 10 = eqb-true b line_feed t in omega arith)

-- a word that is written out
plain-key : (name : List ℕ) → list_all (λ b. not (eqb b line_feed)) name ≡ true → HasNoFeed name
plain-key [] h = tt
plain-key (b ∷ bs) h = let both = and_parts (not (eqb b line_feed)) (list_all (λ b. not (eqb b line_feed)) bs) h in
    (not-true (eqb b line_feed) both.0, plain-key bs both.1)

-- Numbers.
plain-glyph : (upper : Bool) (d : ℕ) → IsNoFeed (digit_glyph upper d)
plain-glyph upper d = either_way IsNoFeed (nat_lt d 10) (48 + d) (if upper then 55 + d else 87 + d) (past (48 + d) (omega arith))
    (either_way IsNoFeed upper (55 + d) (87 + d) (past (55 + d) (omega arith)) (past (87 + d) (omega arith)))

-- digits
plain-digits_onto : (k base : ℕ) (upper : Bool) (n : ℕ) (acc : List ℕ) → HasNoFeed acc → HasNoFeed (digits_onto k base upper n acc)
plain-digits_onto zero base upper n acc h = h
plain-digits_onto (suc k) base upper n acc h =
    let more : HasNoFeed (digit_glyph upper (n % base) ∷ acc) = (plain-glyph upper (n % base), h) in
    either_way HasNoFeed (eqb (n / base) 0) (digit_glyph upper (n % base) ∷ acc) (digits_onto k base upper (n / base) (digit_glyph upper (n % base) ∷ acc)) more
    (plain-digits_onto k base upper (n / base) (digit_glyph upper (n % base) ∷ acc) more)

-- a number
plain-decimal : (n : ℕ) → HasNoFeed (decimal n)
unfolding digits
plain-decimal n = plain-digits_onto 64 10 false n [] tt

-- Strings.
plain-digit : (d : ℕ) → IsNoFeed (digit_char d)
plain-digit d = either_way IsNoFeed (nat_lt d 10) (48 + d) (87 + d) (past (48 + d) (omega arith)) (past (87 + d) (omega arith))

-- a code unit
plain-unit : (u : ℕ) → HasNoFeed (unit_text u)
plain-unit u =
    let quoted = eqb u 34 || eqb u 92 in
    let plain = is_in_range 0x20 0x7E u in
    let escaped = 92 ∷ 117 ∷ hex_digits u in
    let other : List ℕ = cond plain (u ∷ []) escaped in
    by_cases quoted (λ e. subst HasNoFeed (sym (cond-true quoted (92 ∷ u ∷ []) other e)) (refl, (passes (λ v. eqb v 34 || eqb v 92) refl u e, tt)))
    (λ e. subst HasNoFeed (sym (cond-false quoted (92 ∷ u ∷ []) other e))
    (by_cases plain (λ f. subst HasNoFeed (sym (cond-true plain (u ∷ []) escaped f)) (passes (is_in_range 0x20 0x7E) refl u f, tt))
    (λ f. subst HasNoFeed (sym (cond-false plain (u ∷ []) escaped f)) (search plain-digit))))

-- a string
plain-string : (units : DomString) → HasNoFeed (string_text units)
plain-string units =
    let inner = all-flat_map IsNoFeed unit_text units (all-from (λ u. HasNoFeed (unit_text u)) plain-unit units) in
    (refl, all-append IsNoFeed (flat_map unit_text units) (34 ∷ []) inner (refl, tt))

-- or `null`
plain-string_or_null : (o : Option DomString) → HasNoFeed (string_or_null o)
plain-string_or_null None = plain-key (codes "null") refl
plain-string_or_null (Some units) = plain-string units

-- Names.
plain-component : (q : ComponentName) → HasNoFeed (component_word q)
plain-component q = (refl, plain-numbers (take q.depth q.parts))
  where
    plain-numbers : (ns : List ℕ) → HasNoFeed (numbers_text ns)
    plain-numbers [] = tt
    plain-numbers (n ∷ ns) =
        all-append IsNoFeed (decimal n) (flat_map next_number_text ns) (plain-decimal n)
        (all-flat_map IsNoFeed next_number_text ns (all-from (λ m. HasNoFeed (next_number_text m)) (λ m. (refl, plain-decimal m)) ns))

-- an owner's word
plain-owner : (o : Owner) → HasNoFeed (owner_word o)
plain-owner Page = (refl, tt)
plain-owner (Component k) = plain-component k

-- a node, by its owner and number
plain-node_of : (viewer o : Owner) (j : ℕ) → HasNoFeed (node_text_of viewer o j)
plain-node_of viewer Page j = (refl, plain-decimal j)
plain-node_of viewer (Component k) j =
    either_way HasNoFeed (owner_eq viewer (Component k)) (codes "m" ++ decimal j) (component_word k ++ codes ":m" ++ decimal j)
    (refl, plain-decimal j) (search (all-append, plain-component, plain-decimal))

-- a node
plain-node : (viewer : Owner) (x : NodeName) → HasNoFeed (node_text viewer x)
plain-node viewer x = plain-node_of viewer x.owner x.number

-- or `null`
plain-node_or_null : (viewer : Owner) (o : Option NodeName) → HasNoFeed (node_or_null viewer o)
plain-node_or_null viewer None = plain-key (codes "null") refl
plain-node_or_null viewer (Some x) = plain-node viewer x

-- nodes with commas
plain-nodes : (viewer : Owner) (xs : List NodeName) → HasNoFeed (nodes_text viewer xs)
plain-nodes viewer [] = tt
plain-nodes viewer (x ∷ xs) =
    all-append IsNoFeed (node_text viewer x) (flat_map (next_node_text viewer) xs) (plain-node viewer x)
    (all-flat_map IsNoFeed (next_node_text viewer) xs (all-from (λ y. HasNoFeed (next_node_text viewer y)) (λ y. (refl, plain-node viewer y)) xs))

-- nodes in brackets
plain-list : (viewer : Owner) (xs : List NodeName) → HasNoFeed (list_text viewer xs)
plain-list viewer xs = search (all-append, plain-nodes)

-- Trees.
plain-attribute : (a : Attribute) → IsPlainAttribute a → HasNoFeed (attribute_text a)
plain-attribute a h = search (all-append, plain-string, h)

-- what stands behind the kind of a node
plain-own_parts : (k : Kind) (n : Node) → IsPlainNode n → HasNoFeed (own_parts k n)
plain-own_parts kinds.Element n h =
    let attributes =
    all-flat_map IsNoFeed attribute_text n.attributes (all-then IsPlainAttribute (λ a. HasNoFeed (attribute_text a)) plain-attribute n.attributes h.1) in
    search (all-append, h.0, attributes)
plain-own_parts k n h = search plain-string

-- the word of a kind
plain-kind : (k : Kind) → HasNoFeed (kind_word k)
plain-kind kinds.Element = plain-key (kind_word kinds.Element) refl
plain-kind k = plain-key (kind_word k) refl

-- a tree up to its children
plain-opening : (viewer : Owner) (n : Node) → IsPlainNode n → HasNoFeed (opening_text viewer n)
plain-opening viewer n h = search (all-append, plain-node, plain-kind n.kind, plain-own_parts n.kind n h)

-- trees
plain-trees : (viewer : Owner) (ts : Trees) → AllNodes IsPlainNode ts → HasNoFeed (trees_text viewer ts)
plain-trees viewer none h = tt
plain-trees viewer (tree n c r) h = search (all-append, plain-opening viewer n h.0, plain-trees viewer c h.1, plain-trees viewer r h.2)

-- Replies.
plain-boundary : (viewer : Owner) (b : Boundary NodeName) → HasNoFeed (boundary_text viewer b)
plain-boundary viewer b = search (all-append, plain-node, plain-decimal)

-- a truth value
plain-truth : (b : Bool) → HasNoFeed (truth_text b)
plain-truth true = plain-key (codes "true") refl
plain-truth false = plain-key (codes "false") refl

-- the side of an iterator's reference
plain-side : (b : Bool) → HasNoFeed (side_text b)
plain-side true = plain-key (codes "before") refl
plain-side false = plain-key (codes "after") refl

-- what stands behind `ok`
plain-value : (viewer : Owner) (v : Value) → IsPlainValue v → HasNoFeed (value_text viewer v)
plain-value viewer (a_tree ts) h = plain-trees viewer ts h
plain-value viewer v h =
    search (all-append, plain-node, plain-list, plain-owner, plain-decimal, plain-string, plain-truth, plain-boundary, plain-side)

-- Events and records.
plain-event : (viewer : Owner) (l : EventLine NodeName) → IsPlainEvent l → HasNoFeed (event_text viewer l)
plain-event viewer l h = search (all-append, plain-decimal, plain-node, plain-node_or_null, plain-list, h.0, h.1) depth 30

-- a change
plain-change : (viewer : Owner) (c : Change NodeName) → IsPlainChange c → HasNoFeed (change_text viewer c)
plain-change viewer (attributes x a old) h = search (all-append, plain-node, plain-string_or_null, h) depth 30
plain-change viewer (character_data x old) h = search (all-append, plain-node, plain-string_or_null) depth 30
plain-change viewer (child_list x added removed previous next) h = search (all-append, plain-node, plain-node_or_null, plain-list) depth 30 fits 4000

-- Lines.
plain-refusal : (r : Refusal) → HasNoFeed (refusal_word r)
plain-refusal Syntax = plain-key (refusal_word Syntax) refl
plain-refusal r = plain-key (refusal_word r) refl

-- what stands behind the owner's word
plain-said : (viewer : Owner) (s : Said) → IsPlainSaid s → HasNoFeed (said_text viewer s)
plain-said viewer (replied v) h = search (plain-value viewer v h)
plain-said viewer (refused r) h = search plain-refusal
plain-said viewer (event_seen l) h = plain-event viewer l h
plain-said viewer (recorded k c) h = search (all-append, plain-decimal, plain-change viewer c h) depth 20
plain-said viewer (micro_ran label) h = search h

-- a line of output
plain-output : (o : Output) → IsPlainOutput o → HasNoFeed (output_line o)
plain-output bad_owner h = plain-key (codes "! owner") refl
plain-output (says o s) h = search (all-append, plain-owner, plain-said o s h)

-- the text of such lines is cut into them again
pub lines_of-output : (os : List Output) → AllByRecursion IsPlainOutput os → lines_of (output_text os) ≡ map output_line os
lines_of-output os h = lines_of-text_of_lines (map output_line os)
    (all-map HasNoFeed output_line os (all-then IsPlainOutput (λ o. HasNoFeed (output_line o)) plain-output os h))

-- What is read.
plain-word : (name : List ℕ) → IsWord name → HasNoFeed name
plain-word [] h = tt
plain-word (b ∷ bs) h = all-then IsWordByte IsNoFeed (λ c p. past c (omega (arith, p))) (b ∷ bs) h.1

-- a label
plain-label : (name : List ℕ) → IsLabel name → HasNoFeed name
plain-label name h = all-then (λ b. is_label_byte b ≡ true) IsNoFeed (λ b p. passes is_label_byte refl b p) name h.2

-- the words of a command that is spelled
plain-spelled : (o : Owner) (c : Command) (text : List ℕ) → Spells (parts o c) text → HasPlainWords c
plain-spelled o (Command.new_element name) text s = plain-word name s.3.3.2.1
plain-spelled o (Command.set_attribute x name value) text s = plain-word name s.3.3.2.1
plain-spelled o (Command.unset_attribute x name) text s = plain-word name s.3.3.2.1
plain-spelled o (Command.listen x words) text s = (plain-label words.event s.3.3.2.1, plain-label words.label s.3.3.3.2.1)
plain-spelled o (Command.micro label) text s = plain-label label s.3.2.1
plain-spelled o c text s = tt

-- what a line says
plain-line : (bytes : List ℕ) (l : Line) → Says bytes l → IsPlainLine l
plain-line bytes no_owner h = tt
plain-line bytes (no_command o) h = tt
plain-line bytes (command o c) h = plain-spelled o c h.said h.spelled

-- the protocol's reading
pub decode-reads_plain_words : ReadsPlainWords decode
decode-reads_plain_words bytes = plain-line bytes (decode bytes) (decode_says bytes)
