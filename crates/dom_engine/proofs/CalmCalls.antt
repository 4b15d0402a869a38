-- No command is refused as busy for what it reads of its owner's part, so no call is.
use Rattle.dom_base.proofs.Std.{◌≡◌, ◌≢◌, ℕ, ◌+◌, Bool, true, false, not, ◌&&◌, ◌||◌, List, [], ◌∷◌, length, list_any, Option, Some, None, is_none, subst, ⊤}
use Rattle.dom_base.proofs.Std.{option_or, option_map_or, option_to_list, AllByRecursion, nat_lt}
use Rattle.dom_model.proofs.Model.{Owner, Page, Component, NodeName, World, part_of, is_there, Part, Command, is_command_of, names_foreign, part_refusal}
use Rattle.dom_model.proofs.Model.{own_refusal, nodes_exist, thing_exists, nodes_fit, first_refusal, refusal, Refusal, Syntax, Busy, Foreign, Unknown}
use Rattle.dom_model.proofs.Model.{WrongKind, Hierarchy, IndexSize, InvalidCharacter, Limit, NotSupported, Selector, TypeFault}
use Rattle.dom_model.proofs.Model.{NodeWord, related_refusal, has_other_root}
use Rattle.dom_model.proofs.Model.{Trees, Node, Range, range_at, MAX_COMPONENTS, limit_on, past_limit, past_end, may_be_host, may_attach, made_by_text}
use Rattle.dom_model.proofs.Model.{made_by_extracting, made_by_insert_node, asks_for_nothing, options_of, is_name, is_in, name_eq, node_in, kind_of}
use Rattle.dom_model.proofs.Model.{is_document, is_shadow, named, parse_selectors, child_nodes}
use Rattle.dom_model.specs.RangeOps.{cannot_take_node, insert_node_refusal, insertion_parent, start_reference}
use Rattle.dom_model.specs.Validity.{placing_tests, pre_insert_refusal, has_parent, without_given}
use Rattle.dom_worlds.proofs.ListLemmas.{either_way}
use Rattle.dom_engine.specs.Documents.{without_turn}
use Rattle.dom_engine.specs.DocumentLaws.{NeverBusy}

-- a refusal, if there is one, that is another
abbrev IsOther : Option Refusal → Type 0
IsOther None = ⊤
IsOther (Some Busy) = ⊥
IsOther (Some r) = ⊤

-- tests
first-other : (tests : List (Bool × Refusal)) → AllByRecursion (λ (t : Bool × Refusal). IsOther (Some t.1)) tests → IsOther (first_refusal tests)
first-other [] h = tt
first-other (t ∷ ts) h = either_way IsOther t.0 (Some t.1) (first_refusal ts) h.0 (first-other ts h.1)

-- one test, two, and three
one-other : (b : Bool) (r : Refusal) → IsOther (Some r) → IsOther (first_refusal ((b, r) ∷ []))
one-other b r h = first-other ((b, r) ∷ []) (h, tt)

two-other : (a b : Bool) (r s : Refusal) → IsOther (Some r) → IsOther (Some s) → IsOther (first_refusal ((a, r) ∷ (b, s) ∷ []))
two-other a b r s h k = first-other ((a, r) ∷ (b, s) ∷ []) (h, (k, tt))

-- one after another
then-other : (a b : Option Refusal) → IsOther a → IsOther b → IsOther (option_or a b)
then-other None b h k = k
then-other (Some r) b h k = h

-- a limit
limit-other : (have more : ℕ) → IsOther (limit_on have more)
limit-other have more = one-other (past_limit have more) Limit tt

-- insertions and replacements
placing-other : (ts : Trees) (parent node : NodeName) (is_lost : Bool) (others : List Node) →
    IsOther (first_refusal (placing_tests ts parent node is_lost others))
placing-other ts parent node is_lost others = first-other (placing_tests ts parent node is_lost others) (tt, (tt, (tt, (tt, (tt, (tt, tt))))))

insert-other : (ts : Trees) (parent node : NodeName) (child : Option NodeName) → IsOther (pre_insert_refusal ts parent node child)
insert-other ts parent node child =
    placing-other ts parent node (option_map_or (λ c. not (has_parent ts parent c)) child false) (child_nodes ts parent)

insert_node-other : (ts : Trees) (r : Range NodeName) (node : NodeName) → IsOther (insert_node_refusal ts r node)
insert_node-other ts r node =
    let parent = insertion_parent ts r in
    either_way IsOther (cannot_take_node ts r node) (Some Hierarchy) (pre_insert_refusal ts parent node (start_reference ts r)) tt
    (insert-other ts parent node (start_reference ts r))

-- related nodes
related-other : (o : Owner) (p : Part) (x : NodeName) (related : Option NodeWord) → IsOther (related_refusal o p x related)
related-other Page p x related = tt
related-other (Component k) p x related = one-other (list_any (has_other_root p x) (option_to_list related)) TypeFault tt

-- of a range that is there
range-other : (r : Option (Range NodeName)) (f : Range NodeName → Option Refusal) → ((x : Range NodeName) → IsOther (f x)) → IsOther (option_map_or f r None)
range-other None f h = tt
range-other (Some x) f h = h x

-- a command's own tests
own-other : (p : Part) (c : Command) → IsOther (own_refusal p c)
own-other p (Command.new_element a) = two-other (not (is_name a)) (past_limit p.node_count 1) InvalidCharacter Limit tt tt
own-other p (Command.new_text s) = limit-other p.node_count 1
own-other p (Command.new_comment s) = limit-other p.node_count 1
own-other p Command.new_fragment = limit-other p.node_count 1
own-other p Command.new_document = limit-other p.node_count 1
own-other p (Command.attach x) =
    two-other (is_in name_eq (named p x) p.attached || not (may_be_host (node_in p.trees (named p x)).element))
    (nat_lt MAX_COMPONENTS (length p.attached + 1) || not (may_attach p.owner)) NotSupported Limit tt tt
own-other p (Command.append a x) = insert-other p.trees (named p a) (named p x) None
own-other p (Command.insert a x c) = insert-other p.trees (named p a) (named p x) (Some (named p c))
own-other p (Command.replace a x c) =
    placing-other p.trees (named p a) (named p x) (not (has_parent p.trees (named p a) (named p c)))
    (without_given (Some (named p c)) (child_nodes p.trees (named p a)))
own-other p (Command.adopt d x) =
    two-other (is_shadow (kind_of p.trees (named p x))) (is_document (kind_of p.trees (named p x))) Hierarchy NotSupported tt tt
own-other p (Command.set_attribute x a v) = one-other (not (is_name a)) InvalidCharacter tt
own-other p (Command.replace_data x i n s) = one-other (past_end p (named p x) i) IndexSize tt
own-other p (Command.split x i) = two-other (past_end p (named p x) i) (past_limit p.node_count 1) IndexSize Limit tt tt
own-other p (Command.set_text x s) = limit-other p.node_count (made_by_text p (named p x) s)
own-other p Command.range_new = limit-other (length p.ranges) 1
own-other p (Command.range_start r x i) = one-other (past_end p (named p x) i) IndexSize tt
own-other p (Command.range_end r x i) = one-other (past_end p (named p x) i) IndexSize tt
own-other p (Command.extract r) =
    range-other (range_at p r) (λ range. limit_on p.node_count (made_by_extracting p range))
    (λ range. limit-other p.node_count (made_by_extracting p range))
own-other p (Command.insert_node r x) =
    let refusal_of : Range NodeName → Option Refusal = λ range. insert_node_refusal p.trees range (named p x) in
    range-other (range_at p r) (λ range. option_or (refusal_of range) (limit_on p.node_count (made_by_insert_node p range)))
    (λ range. then-other (refusal_of range) (limit_on p.node_count (made_by_insert_node p range)) (insert_node-other p.trees range (named p x))
    (limit-other p.node_count (made_by_insert_node p range)))
own-other p (Command.iterator_new x f) = limit-other (length p.iterators) 1
own-other p (Command.walker_new x f) = limit-other (length p.walkers) 1
own-other p (Command.query x s) = one-other (is_none (parse_selectors s)) Selector tt
own-other p (Command.matches x s) = one-other (is_none (parse_selectors s)) Selector tt
own-other p (Command.dispatch x e related) = related-other p.owner p (named p x) related
own-other p Command.observer = limit-other (length p.record_queues) 1
own-other p (Command.observe o x w) = one-other (asks_for_nothing (options_of w)) TypeFault tt
own-other p c = tt

-- its tests in its owner's part
part-other : (p : Part) (c : Command) → IsOther (part_refusal p c)
part-other p c =
    then-other (first_refusal ((not (nodes_exist p c && thing_exists p c), Unknown) ∷ (not (nodes_fit p c), WrongKind) ∷ [])) (own_refusal p c)
    (two-other (not (nodes_exist p c && thing_exists p c)) (not (nodes_fit p c)) Unknown WrongKind tt tt) (own-other p c)

-- the tests that come before, where no turn is open
early-other : (mine names there : Bool) → IsOther (first_refusal ((not mine, Syntax) ∷ (false, Busy) ∷ (names, Foreign) ∷ (not there, Unknown) ∷ []))
early-other false names there = tt
early-other true true there = tt
early-other true false true = tt
early-other true false false = tt

-- all its tests
all-other : (w : World) (o : Owner) (c : Command) → IsOther (refusal (without_turn w) o c)
all-other w o c =
    then-other (first_refusal ((not (is_command_of o c), Syntax) ∷ (false, Busy) ∷ (names_foreign c, Foreign) ∷ (not (is_there w o), Unknown) ∷ []))
    (part_refusal (part_of w o) c) (early-other (is_command_of o c) (names_foreign c) (is_there w o)) (part-other (part_of w o) c)

-- the law
pub never-busy : NeverBusy
never-busy w o c e = subst IsOther e (all-other w o c)
