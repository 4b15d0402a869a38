-- An accepted command: what its tests say, and what its effect keeps of its owner's part.
use Rattle.dom_base.proofs.Std.{not-false, or_parts, ◌≡◌, ◌+◌, Bool, true, false, not, ◌&&◌, ◌||◌, List, [], ◌∷◌, length, Option, Some, None, refl, sym, ap}
use Rattle.dom_base.proofs.Std.{◌∙◌, ℕ, ◌++◌, subst, nat_lt, ⊤, if◌then◌else◌, option_or, option_map_or, AllByRecursion, list_any}
use Rattle.dom_model.proofs.Model.{Owner, MAX_COMPONENTS, may_attach, Refusal, Syntax, Busy, Foreign, Unknown, WrongKind, NotSupported, Limit, Command}
use Rattle.dom_model.proofs.Model.{NodeWord, ListenerWords, names_foreign, nodes_exist, thing_exists, nodes_fit, is_command_of, part_refusal, own_refusal}
use Rattle.dom_model.proofs.Model.{effect, name_eq, is_in, DomString, node_in, named, may_be_host, of_range, refusal, is_busy, Part, range_at, first_refusal}
use Rattle.dom_model.proofs.Model.{World, part_of, is_there, MayAttach, owner-part_of, NodeName, Log, Listener, with_listener_added, is_listener, Value}
use Rattle.dom_model.proofs.Model.{nothing, attributes, Range, inserting_into_range, deleting, Walker, Effect, tables, changes, answers, sets_walker, new_node}
use Rattle.dom_model.proofs.Model.{new_document_of, Document, Fragment, Element, Text, Comment, extracting, Step, make, set_attribute, queue_record}
use Rattle.dom_worlds.specs.Definitions.{OnlyLogs}
use Rattle.dom_worlds.proofs.Turns.{IsAlike}
use Rattle.dom_worlds.proofs.Lists.{all-append, all-filter, by_some_is, by_some}
use Rattle.dom_worlds.proofs.Plans.{IsKept, keeps-removing, keeps-adopting, keeps-pre_inserting, keeps-replacing, keeps-setting_attribute}
use Rattle.dom_worlds.proofs.Plans.{keeps-unsetting_attribute, keeps-replacing_data, keeps-replacing_all_data, keeps-splitting, keeps-normalizing}
use Rattle.dom_worlds.proofs.Plans.{keeps-setting_text, keeps-extracting, keeps-deleting, keeps-inserting_into_range}

-- neither of two refusals
pub or-none : (a b : Option Refusal) → option_or a b ≡ None → (a ≡ None) × (b ≡ None)
or-none None b h = (refl, h)
or-none (Some r) b h = cc

-- the first of the tests, and the others
pub next-test : (b : Bool) (r : Refusal) (ts : List (Bool × Refusal)) → first_refusal ((b, r) ∷ ts) ≡ None → (b ≡ false) × (first_refusal ts ≡ None)
next-test true r ts h = cc
next-test false r ts h = (refl, h)

-- The refusals that its owner's part alone decides.
pub record IsPartAccepted (p : Part) (c : Command) : Type 0 where
  pub exist : (nodes_exist p c && thing_exists p c) ≡ true
  pub fit : nodes_fit p c ≡ true
  pub own : own_refusal p c ≡ None

-- they are known
pub part-accepted : (p : Part) (c : Command) → part_refusal p c ≡ None → IsPartAccepted p c
part-accepted p c h =
    let both = or-none (first_refusal ((not (nodes_exist p c && thing_exists p c), Unknown) ∷ (not (nodes_fit p c), WrongKind) ∷ [])) (own_refusal p c) h in
    let exist = next-test (not (nodes_exist p c && thing_exists p c)) Unknown ((not (nodes_fit p c), WrongKind) ∷ []) both.0 in
    let fit = next-test (not (nodes_fit p c)) WrongKind [] exist.1 in
    record { exist = not-false (nodes_exist p c && thing_exists p c) exist.0; fit = not-false (nodes_fit p c) fit.0; own = both.1 }

-- Whoever attaches may: that there is room for one number more is one of the tests.
pub attach-may : (w : World) (o : Owner) (x : NodeWord) → part_refusal (part_of w o) (Command.attach x) ≡ None → MayAttach o
unfolding MayAttach
attach-may w o x h =
    let p = part_of w o in
    let no_host = is_in name_eq (named p x) p.attached || not (may_be_host (node_in p.trees (named p x)).element) in
    let many = nat_lt MAX_COMPONENTS (length p.attached + 1) in
    let first = next-test no_host NotSupported ((many || not (may_attach p.owner), Limit) ∷ []) (part-accepted p (Command.attach x) h).own in
    let room = (or_parts many (not (may_attach p.owner)) (next-test (many || not (may_attach p.owner)) Limit [] first.1).0).1 in
    ap may_attach (sym (owner-part_of w o)) ∙ not-false (may_attach p.owner) room

-- All refusals.
pub record IsAccepted (w : World) (o : Owner) (c : Command) : Type 0 where
  pub grammar : is_command_of o c ≡ true
  pub calm : is_busy w o ≡ false
  pub there : is_there w o ≡ true
  pub part : part_refusal (part_of w o) c ≡ None

-- they are known
pub accepted-facts : (w : World) (o : Owner) (c : Command) → refusal w o c ≡ None → IsAccepted w o c
accepted-facts w o c e =
    let all = or-none (first_refusal ((not (is_command_of o c), Syntax) ∷ (is_busy w o, Busy) ∷ (names_foreign c, Foreign) ∷
    (not (is_there w o), Unknown) ∷ [])) (part_refusal (part_of w o) c) e in
    let first = next-test (not (is_command_of o c)) Syntax ((is_busy w o, Busy) ∷ (names_foreign c, Foreign) ∷ (not (is_there w o), Unknown) ∷ []) all.0 in
    let second = next-test (is_busy w o) Busy ((names_foreign c, Foreign) ∷ (not (is_there w o), Unknown) ∷ []) first.1 in
    let third = next-test (names_foreign c) Foreign ((not (is_there w o), Unknown) ∷ []) second.1 in
    let fourth = next-test (not (is_there w o)) Unknown [] third.1 in
    record { grammar = not-false (is_command_of o c) first.0; calm = second.0; there = not-false (is_there w o) fourth.0; part = all.1 }

-- the owner, the trees, the count and the hosts stay
abbrev pub KeepsBase : Part → Effect → Type 0
KeepsBase p (tables q lines v) = (q.owner ≡ p.owner) × IsAlike q p
KeepsBase p (changes steps v) = ⊤

-- Where a component's listeners only log, and a command adds none that does more, they only log afterwards.
abbrev pub AddsLogs : Command → Type 0
AddsLogs (Command.listen x words) = words.action ≡ Log
AddsLogs c = ⊤

-- listeners that only log are left so
abbrev pub KeepsLogs : Part → Effect → Type 0
KeepsLogs p (tables q lines v) = AllByRecursion OnlyLogs p.listeners → AllByRecursion OnlyLogs q.listeners
KeepsLogs p (changes steps v) = ⊤

-- one more listener that only logs
all-listened : (x : NodeName) (w : ListenerWords) (ls : List (Listener NodeName)) → w.action ≡ Log → AllByRecursion OnlyLogs ls →
    AllByRecursion OnlyLogs (with_listener_added name_eq x w ls)
all-listened x w ls e h = from (list_any (is_listener name_eq x w.event w.label w.capture) ls)
  where
    from : (b : Bool) → AllByRecursion OnlyLogs (if b then ls else ls ++ record { node = x; words = w } ∷ [])
    from true = h
    from false = all-append OnlyLogs ls (record { node = x; words = w } ∷ []) h (e, tt)

-- an effect of a thing that may not be there
pub some-effect : {X : Type 0} (P : Effect → Type 0) {p : Part} (o : Option X) (f : X → Effect) → ((x : X) → P (f x)) → P (answers p nothing) →
    P (option_map_or f o (answers p nothing))
some-effect P {p} o f h g = by_some (λ (o : Option _). P (option_map_or f o (answers p nothing))) o g h

-- steps for a range that may not be there
pub range-steps : (S : List Step → Type 0) (p : Part) (k : ℕ) → S [] → (f : Range NodeName → List Step) →
    ((range : Range NodeName) → range_at p k ≡ Some range → S (f range)) → S (of_range p k [] f)
range-steps S p k n f g = by_some_is (λ (o : Option (Range NodeName)). S (option_map_or f o [])) (range_at p k) (λ e. n) g

-- Both, where a command may add a listener.
abbrev KeepsRest : Part → Type 0 → Effect → Type 0
KeepsRest p Ok e = KeepsBase p e × (Ok → KeepsLogs p e)

-- of an answer alone
rest-answer : (p : Part) (v : Value) → KeepsRest p ⊤ (answers p v)
rest-answer p v = ((refl, record { trees = refl; count = refl; attached = refl }), λ m h. h)

-- a walker that is set
rest-walker : (p : Part) (k : ℕ) (w : Walker) (o : Option NodeName) (v : Value) → KeepsRest p ⊤ (sets_walker p k w o v)
rest-walker p k w None v = rest-answer p v
rest-walker p k w (Some x) v = ((refl, record { trees = refl; count = refl; attached = refl }), λ m h. h)

-- of a thing that may not be there
rest-some : {X : Type 0} (p : Part) (o : Option X) (f : X → Effect) → ((x : X) → KeepsRest p ⊤ (f x)) → KeepsRest p ⊤ (option_map_or f o (answers p nothing))
rest-some p o f h = some-effect (KeepsRest p ⊤) o f h (rest-answer p nothing)

-- every command
rest-effect : (p : Part) (c : Command) → KeepsRest p (AddsLogs c) (effect p c)
rest-effect p (Command.listen a b) = ((refl, record { trees = refl; count = refl; attached = refl }), λ m. all-listened (named p a) b p.listeners m)
rest-effect p (Command.unlisten a b c d) =
    ((refl, record { trees = refl; count = refl; attached = refl }), λ m. all-filter OnlyLogs (λ l. not (is_listener name_eq (named p a) b c d l)) p.listeners)
rest-effect p c = search (rest-some, rest-walker, rest-answer)

-- every effect on tables leaves the base
pub base-effect : (p : Part) (c : Command) → KeepsBase p (effect p c)
base-effect p c = (rest-effect p c).0

-- and listeners that only log
pub logs-effect : (p : Part) (c : Command) → AddsLogs c → KeepsLogs p (effect p c)
logs-effect p c = (rest-effect p c).1

-- the steps of an effect are such
abbrev pub Makes : (Step → Type 0) → Effect → Type 0
Makes May (tables p lines v) = ⊤
Makes May (changes steps v) = AllByRecursion May steps

-- What is asked of a command beside: the node that it places may be placed, the node that it makes may be made, and the
-- attribute that it names may be set and told.
abbrev pub MayDo : (Step → Type 0) → (NodeName → Type 0) → Part → Command → Type 0
MayDo May MayPlace p (Command.new_element a) = May (make (new_node p Element a [] (new_document_of p)))
MayDo May MayPlace p (Command.new_text s) = May (make (new_node p Text [] s (new_document_of p)))
MayDo May MayPlace p (Command.new_comment s) = May (make (new_node p Comment [] s (new_document_of p)))
MayDo May MayPlace p Command.new_fragment = May (make (new_node p Fragment [] [] (new_document_of p)))
MayDo May MayPlace p Command.new_document = May (make (new_node p Document [] [] None))
MayDo May MayPlace p (Command.append parent x) = MayPlace (named p x)
MayDo May MayPlace p (Command.insert parent x child) = MayPlace (named p x)
MayDo May MayPlace p (Command.replace parent x child) = MayPlace (named p x)
MayDo May MayPlace p (Command.insert_node k x) = (range : Range NodeName) → range_at p k ≡ Some range → MayPlace (named p x)
MayDo May MayPlace p (Command.set_attribute x a v) = ((old : Option DomString) → May (queue_record (attributes (named p x) a old))) ×
    May (set_attribute (named p x) a (Some v))
MayDo May MayPlace p (Command.unset_attribute x a) = ((old : Option DomString) → May (queue_record (attributes (named p x) a old))) ×
    May (set_attribute (named p x) a None)
MayDo May MayPlace p c = ⊤

-- of a thing that may not be there
some-makes : {X : Type 0} (May : Step → Type 0) (o : Option X) (f : X → Effect) (d : Effect) → ((x : X) → Makes May (f x)) → Makes May d →
    Makes May (option_map_or f o d)
some-makes May None f d h g = g
some-makes May (Some x) f d h g = h x

-- a walker that is set
walker-makes : (May : Step → Type 0) (p : Part) (k : ℕ) (w : Walker) (o : Option NodeName) (v : Value) → Makes May (sets_walker p k w o v)
walker-makes May p k w None v = tt
walker-makes May p k w (Some x) v = tt

-- the steps for a range that may not be there
range-makes : (May : Step → Type 0) (p : Part) (k : ℕ) (f : Range NodeName → List Step) →
    ((range : Range NodeName) → range_at p k ≡ Some range → AllByRecursion May (f range)) → AllByRecursion May (of_range p k [] f)
range-makes May p k f h =
    by_some_is (λ (o : Option (Range NodeName)). AllByRecursion May (of_range p k [] f)) (range_at p k)
    (λ e. subst (λ o. AllByRecursion May (option_map_or f o [])) (sym e) tt)
    (λ range e. subst (λ o. AllByRecursion May (option_map_or f o [])) (sym e) (h range e))

module _ {Inv : Part → Type 0} {May : Step → Type 0} {MayPlace : NodeName → Type 0} (rules : IsKept Inv May MayPlace (λ x. ⊤)) where
  -- every command
  pub made-effect : (p : Part) → Inv p → (c : Command) → MayDo May MayPlace p c → Makes May (effect p c)
  made-effect p i (Command.set_attribute a b c) h = keeps-setting_attribute rules (named p a) b c h.0 h.1 p i
  made-effect p i (Command.unset_attribute a b) h = keeps-unsetting_attribute rules (named p a) b h.0 h.1 p i
  made-effect p i (Command.extract a) h = range-makes May p a (λ range. extracting a range p) (λ range e. keeps-extracting rules a range p i)
  made-effect p i (Command.delete a) h = range-makes May p a (λ range. deleting a range p) (λ range e. keeps-deleting rules a range p i)
  made-effect p i (Command.insert_node a b) h =
      range-makes May p a (λ range. inserting_into_range a range (named p b) p)
      (λ range e. keeps-inserting_into_range rules a range (named p b) (h range e) p i)
  made-effect p i c h = search (
    keeps-pre_inserting rules.moves,
    keeps-replacing rules.moves,
    keeps-removing rules.moves,
    λ (d x : NodeName). keeps-adopting rules.moves d x tt,
    keeps-normalizing,
    keeps-splitting,
    keeps-setting_text,
    keeps-replacing_all_data,
    keeps-replacing_data,
    some-makes,
    walker-makes,
  )
