-- What the plans of commands keep: an invariant of a part that is kept by the steps that they make.
use Rattle.dom_base.proofs.Std.{ℕ, ◌+◌, ◌-◌, Bool, true, false, not, ◌&&◌, List, [], ◌∷◌, length, map, filter, drop, flat_map, Option, Some, None}
use Rattle.dom_base.proofs.Std.{if◌then◌else◌, ⊤, ◌==◌, min, AllByRecursion, option_map_or}
use Rattle.dom_model.proofs.Model.{NodeName, Word, DomString, name_eq, is_empty, Trees, Node, node_in, kind_of, is_text, is_document, is_fragment, has_data}
use Rattle.dom_model.proofs.Model.{children_of, parent_of, previous_sibling, next_sibling, index_of, length_of, attribute_value, descendants, with_name, Change}
use Rattle.dom_model.proofs.Model.{child_list, attributes, character_data, Part, next_name, range_at, Boundary, Range, from_to, is_collapsed, Step, make}
use Rattle.dom_model.proofs.Model.{make_room, place, take_out, set_document, set_attribute, replace_data, split_at, join_at, set_range, queue_record, part_step}
use Rattle.dom_model.proofs.Model.{after, Plan, ◌and_then◌, in_turn, doing, steps_of, only_if, Observing, observed, suppressed, telling, removal_record}
use Rattle.dom_model.proofs.Model.{remove_plan, removing_from, has_document, changing_document, adopt_plan, document_below, placed_nodes, emptying, making_room}
use Rattle.dom_model.proofs.Model.{placing, sibling_before, inserting_nodes, insert_plan, reference_child, pre_insert_plan, replace_plan, setting_attribute}
use Rattle.dom_model.proofs.Model.{unsetting_attribute, replacing_data, new_text_node, replacing_all_data, placing_tail, splitting, contiguous_texts_after}
use Rattle.dom_model.proofs.Model.{joins, joining, normalizing_text, normalizing, replacing_children, setting_text, Pieces, whole, cut, clone, cut_start}
use Rattle.dom_model.proofs.Model.{cut_end, pieces_of, is_in_one_data, clone_part, making_below, taking, new_fragment_node, own_document, new_place, both_at}
use Rattle.dom_model.proofs.Model.{extracting, cutting_data, outermost_contained, deleting_contents, deleting, insertion_parent, start_reference, ending_at}
use Rattle.dom_model.proofs.Model.{inserting_before, inserting_at, inserting_into_range}
use Rattle.dom_model.specs.Extract.{nothing}
use Rattle.dom_worlds.proofs.Lists.{all-append, all-from, all-then, by_some}

-- What is known of the nodes of pieces: W of those that are taken whole, C of those that are cut, K of those that are cloned.
abbrev pub AreFit : (NodeName → Type 0) → (NodeName → Type 0) → (NodeName → Type 0) → Pieces → Type 0
AreFit W C K nothing = ⊤
AreFit W C K (whole x rest) = W x × AreFit W C K rest
AreFit W C K (cut x from to rest) = C x × AreFit W C K rest
AreFit W C K (clone x inner rest) = K x × AreFit W C K inner × AreFit W C K rest

-- one thing of all of them
abbrev pub AllWhole : (NodeName → Type 0) → Pieces → Type 0
AllWhole P = AreFit P P P

-- What is asked of an invariant of parts, of the steps that are to keep it, and of the nodes that may be placed and get a node document,
-- where nodes are moved: steps do keep it, and the steps that move nodes are such, each for what plans know of it.
pub record AreMoved (Inv : Part → Type 0) (May : Step → Type 0) (MayPlace MaySet : NodeName → Type 0) : Type 0 where
  pub step : (p : Part) (s : Step) → Inv p → May s → Inv (part_step p s)
  pub placing : (x parent : NodeName) (before : Option NodeName) → MayPlace x → May (place x parent before)
  pub making_room : (parent : NodeName) (index count : ℕ) → May (make_room parent index count)
  pub taking_out : (x : NodeName) → May (take_out x)
  pub document : (x d : NodeName) → MaySet x → May (set_document x d)
  pub placed_set : (x : NodeName) → MayPlace x → MaySet x
  pub children_told : (x : NodeName) (added removed : List NodeName) (previous next : Option NodeName) →
      May (queue_record (child_list x added removed previous next))
  pub children : (p : Part) → Inv p → (x : NodeName) → AllByRecursion MayPlace (children_of p.trees x)

-- So it is asked, and of all other steps of plans.
pub record IsKept (Inv : Part → Type 0) (May : Step → Type 0) (MayPlace MaySet : NodeName → Type 0) : Type 0 where
  pub moves : AreMoved Inv May MayPlace MaySet
  pub data_replaced : (x : NodeName) (offset count : ℕ) (new : DomString) → May (replace_data x offset count new)
  pub split : (x : NodeName) (offset : ℕ) (new parent : NodeName) (index : ℕ) → May (split_at x offset new parent index)
  pub join : (x : NodeName) (size : ℕ) (next parent : NodeName) (index : ℕ) → May (join_at x size next parent index)
  pub range : (k : ℕ) (range : Range NodeName) → May (set_range k range)
  pub data_told : (x : NodeName) (old : Option DomString) → May (queue_record (character_data x old))
  pub new_text : (x : NodeName) (d : Option NodeName) (text : DomString) → May (make (new_text_node x d text))
  pub new_fragment : (x : NodeName) (d : Option NodeName) → May (make (new_fragment_node x d))
  pub clone : (p : Part) (x y : NodeName) → Inv p → MayPlace x → May (make (with_name y (node_in p.trees x)))
  pub clone_part : (p : Part) (x y : NodeName) (from to : ℕ) → Inv p → MayPlace x → May (make (clone_part y from to (node_in p.trees x)))
  pub new_node : (p : Part) → Inv p → MayPlace (next_name p)
  pub wholes : (p : Part) → Inv p → (range : Range NodeName) → AllWhole MayPlace (pieces_of p.trees range)

-- Plans that make such steps alone, in a part with the invariant.
module _ {Inv : Part → Type 0} {May : Step → Type 0} {MayPlace MaySet : NodeName → Type 0} (rules : AreMoved Inv May MayPlace MaySet) where
  -- a plan makes such steps
  abbrev pub Keeps : Plan → Type 0
  Keeps f = (p : Part) → Inv p → AllByRecursion May (f p)

  -- the part after such steps
  pub kept-after : (p : Part) (steps : List Step) → Inv p → AllByRecursion May steps → Inv (after p steps)
  kept-after p [] o h = o
  kept-after p (s ∷ steps) o h = kept-after (part_step p s) steps (rules.step p s o h.0) h.1

  -- one plan and then another
  pub keeps-and_then : (f g : Plan) → Keeps f → Keeps g → Keeps (f and_then g)
  keeps-and_then f g a b p o = all-append May (f p) (g (after p (f p))) (a p o) (b (after p (f p)) (kept-after p (f p) o (a p o)))

  -- a plan for each item
  pub keeps-in_turn : {A : Type 0} (f : A → Plan) (xs : List A) → AllByRecursion (λ x. Keeps (f x)) xs → Keeps (in_turn f xs)
  keeps-in_turn f [] h p o = tt
  keeps-in_turn f (x ∷ xs) h p o = keeps-and_then (f x) (in_turn f xs) h.0 (keeps-in_turn f xs h.1) p o

  -- one that does for every item
  pub keeps-each : {A : Type 0} (f : A → Plan) → ((x : A) → Keeps (f x)) → (xs : List A) → Keeps (in_turn f xs)
  keeps-each f h xs = keeps-in_turn f xs (all-from (λ x. Keeps (f x)) h xs)

  -- one of two plans
  keeps-if : (b : Bool) (f g : Plan) → Keeps f → Keeps g → Keeps (if b then f else g)
  keeps-if true f g a c = a
  keeps-if false f g a c = c

  -- one of two lists of steps
  made-if : (b : Bool) (xs ys : List Step) → AllByRecursion May xs → AllByRecursion May ys → AllByRecursion May (if b then xs else ys)
  made-if true xs ys a c = a
  made-if false xs ys a c = c

  -- Removals and adoptions place nothing.
  made-telling : (how : Observing) (c : Change NodeName) → May (queue_record c) → AllByRecursion May (telling how c)
  made-telling observed c h = (h, tt)
  made-telling suppressed c h = tt

  -- a step, if so
  made-only_if : (b : Bool) (s : Step) → May s → AllByRecursion May (only_if b s)
  made-only_if b s h = made-if b (s ∷ []) [] (h, tt) tt

  -- a removal
  pub keeps-removing : (how : Observing) (x : NodeName) → Keeps (remove_plan how x)
  keeps-removing how x p o =
      by_some (λ (a : Option NodeName). AllByRecursion May (option_map_or (removing_from how x p.trees) a [])) (parent_of p.trees x) tt
      (λ parent. (
        rules.taking_out x,
        made-telling how (removal_record p.trees parent x)
            (rules.children_told parent [] (x ∷ []) (previous_sibling p.trees x) (next_sibling p.trees x)),
      ))

  -- another node document
  keeps-changing_document : (d x : NodeName) → MaySet x → Keeps (changing_document d x)
  keeps-changing_document d x h p o = made-only_if (not (has_document p.trees d x)) (set_document x d) (rules.document x d h)

  -- an adoption
  pub keeps-adopting : (d x : NodeName) → MaySet x → Keeps (adopt_plan d x)
  keeps-adopting d x h = keeps-and_then (remove_plan observed x) (changing_document d x) (keeps-removing observed x) (keeps-changing_document d x h)

  -- An insertion places its node or the node's children, and no root is a child.
  pub keeps-placing : (parent : NodeName) (before : Option NodeName) (x : NodeName) → MayPlace x → Keeps (placing parent before x)
  keeps-placing parent before x h p o =
      keeps-and_then (adopt_plan (document_below p.trees parent) x) (doing (place x parent before))
      (keeps-adopting (document_below p.trees parent) x (rules.placed_set x h)) (λ q own. (rules.placing x parent before h, tt)) p o

  -- a fragment that is emptied
  pub keeps-emptying : (node : NodeName) (children : List NodeName) → Keeps (emptying node children)
  keeps-emptying node children =
      keeps-and_then (in_turn (remove_plan suppressed) children) (doing (queue_record (child_list node [] children None None)))
      (keeps-each (remove_plan suppressed) (keeps-removing suppressed) children) (λ q o. (rules.children_told node [] children None None, tt))

  -- offsets that grow
  pub keeps-making_room : (parent : NodeName) (before : Option NodeName) (count : ℕ) → Keeps (making_room parent before count)
  keeps-making_room parent None count p o = tt
  keeps-making_room parent (Some child) count p o = (rules.making_room parent (index_of p.trees child) count, tt)

  -- the nodes that an insertion places
  placed-other : (p : Part) → Inv p → (node : NodeName) → MayPlace node → AllByRecursion MayPlace (placed_nodes p.trees node)
  placed-other p o node h = from (is_fragment (kind_of p.trees node))
    where
      from : (b : Bool) → AllByRecursion MayPlace (if b then children_of p.trees node else node ∷ [])
      from true = rules.children p o node
      from false = (h, tt)

  -- an insertion
  pub keeps-inserting : (how : Observing) (node parent : NodeName) (before : Option NodeName) → MayPlace node → Keeps (insert_plan how node parent before)
  keeps-inserting how node parent before h p o =
      let moved = placed_nodes p.trees node in
      let emptied : Plan = if is_fragment (kind_of p.trees node) then emptying node moved else steps_of [] in
      let told : Plan = steps_of (telling how (child_list parent moved [] (sibling_before p.trees parent before) before)) in
      let first : Keeps emptied = keeps-if (is_fragment (kind_of p.trees node)) (emptying node moved) (steps_of []) (keeps-emptying node moved) (λ q own. tt) in
      let each : Keeps (in_turn (placing parent before) moved) =
      keeps-in_turn (placing parent before) moved
      (all-then MayPlace (λ x. Keeps (placing parent before x)) (keeps-placing parent before) moved (placed-other p o node h)) in
      made-if (is_empty moved) [] (inserting_nodes how node moved parent before p) tt
      (keeps-and_then (emptied and_then making_room parent before (length moved) and_then in_turn (placing parent before) moved) told
      (keeps-and_then (emptied and_then making_room parent before (length moved)) (in_turn (placing parent before) moved)
      (keeps-and_then emptied (making_room parent before (length moved)) first (keeps-making_room parent before (length moved))) each)
      (λ q own. made-telling how (child_list parent moved [] (sibling_before p.trees parent before) before)
      (rules.children_told parent moved [] (sibling_before p.trees parent before) before)) p o)

  -- with its reference
  pub keeps-pre_inserting : (node parent : NodeName) (child : Option NodeName) → MayPlace node → Keeps (pre_insert_plan node parent child)
  keeps-pre_inserting node parent child h p o = keeps-inserting observed node parent (reference_child p.trees node child) h p o

  -- a child that is replaced
  pub keeps-replacing : (parent node child : NodeName) → MayPlace node → Keeps (replace_plan parent node child)
  keeps-replacing parent node child h p o =
      let reference = reference_child p.trees node (next_sibling p.trees child) in
      keeps-and_then (remove_plan suppressed child and_then insert_plan suppressed node parent reference) (doing (queue_record _))
      (keeps-and_then (remove_plan suppressed child) (insert_plan suppressed node parent reference) (keeps-removing suppressed child)
      (keeps-inserting suppressed node parent reference h))
      (λ q own. (rules.children_told parent (placed_nodes p.trees node) (child ∷ []) (previous_sibling p.trees child) reference, tt)) p o

-- Plans of all kinds.
module _ {Inv : Part → Type 0} {May : Step → Type 0} {MayPlace MaySet : NodeName → Type 0} (rules : IsKept Inv May MayPlace MaySet) where
  abbrev moves : AreMoved Inv May MayPlace MaySet
  moves = rules.moves

  -- Attributes, data and text.
  pub keeps-setting_attribute : (x : NodeName) (a : Word) (v : DomString) → ((old : Option DomString) → May (queue_record (attributes x a old))) →
      May (set_attribute x a (Some v)) → Keeps moves (setting_attribute x a v)
  keeps-setting_attribute x a v h g p o = (h (attribute_value (node_in p.trees x) a), (g, tt))

  -- an attribute that goes
  pub keeps-unsetting_attribute : (x : NodeName) (a : Word) → ((old : Option DomString) → May (queue_record (attributes x a old))) →
      May (set_attribute x a None) → Keeps moves (unsetting_attribute x a)
  keeps-unsetting_attribute x a h g p o = from (attribute_value (node_in p.trees x) a)
    where
      from : (v : Option DomString) → AllByRecursion May (option_map_or (λ old. queue_record (attributes x a (Some old)) ∷ set_attribute x a None ∷ []) v [])
      from None = tt
      from (Some old) = (h (Some old), (g, tt))

  -- data that are replaced
  pub keeps-replacing_data : (x : NodeName) (offset count : ℕ) (new : DomString) → Keeps moves (replacing_data x offset count new)
  keeps-replacing_data x offset count new p o =
      let old = (node_in p.trees x).text in
      (rules.data_told x (Some old), (rules.data_replaced x offset (min count (length old - offset)) new, tt))

  -- all data
  pub keeps-replacing_all_data : (x : NodeName) (new : DomString) → Keeps moves (replacing_all_data x new)
  keeps-replacing_all_data x new p o = keeps-replacing_data x 0 (length_of p.trees x) new p o

  -- the tail of a split Text
  pub keeps-placing_tail : (x : NodeName) (offset : ℕ) (new : NodeName) (parent : Option NodeName) → MayPlace new →
      Keeps moves (placing_tail x offset new parent)
  keeps-placing_tail x offset new None h p o = tt
  keeps-placing_tail x offset new (Some parent) h p o =
      keeps-and_then moves (insert_plan observed new parent (next_sibling p.trees x)) (doing _)
      (keeps-inserting moves observed new parent (next_sibling p.trees x) h) (λ q own. (rules.split x offset new parent (index_of p.trees x), tt)) p o

  -- a split
  pub keeps-splitting : (x : NodeName) (offset : ℕ) → Keeps moves (splitting x offset)
  keeps-splitting x offset p o =
      let old = node_in p.trees x in
      let new = next_name p in
      let tail = new_text_node new old.document (drop offset old.text) in
      keeps-and_then moves (doing (make tail) and_then placing_tail x offset new (parent_of p.trees x)) (replacing_data x offset (length old.text - offset) [])
      (keeps-and_then moves (doing (make tail)) (placing_tail x offset new (parent_of p.trees x))
      (λ q own. (rules.new_text new old.document (drop offset old.text), tt))
      (keeps-placing_tail x offset new (parent_of p.trees x) (rules.new_node p o)))
      (keeps-replacing_data x offset (length old.text - offset) []) p o

  -- boundaries that move to the first Text
  pub made-joins : (ts : Trees) (x parent : NodeName) (size : ℕ) (ys : List NodeName) → AllByRecursion May (joins ts x parent size ys)
  made-joins ts x parent size [] = tt
  made-joins ts x parent size (y ∷ ys) = (rules.join x size y parent (index_of ts y), made-joins ts x parent (size + length_of ts y) ys)

  -- Texts that are joined
  keeps-joining : (x parent : NodeName) (nexts : List NodeName) → Keeps moves (joining x parent nexts)
  keeps-joining x parent nexts p o =
      let size = length_of p.trees x in
      let all = flat_map (λ y. (node_in p.trees y).text) nexts in
      keeps-and_then moves (replacing_data x size 0 all and_then steps_of (joins p.trees x parent size nexts)) (in_turn (remove_plan observed) nexts)
      (keeps-and_then moves (replacing_data x size 0 all) (steps_of (joins p.trees x parent size nexts)) (keeps-replacing_data x size 0 all)
      (λ q own. made-joins p.trees x parent size nexts))
      (keeps-each moves (remove_plan observed) (keeps-removing moves observed) nexts) p o

  -- a Text that is normalized
  pub keeps-normalizing_text : (x : NodeName) → Keeps moves (normalizing_text x)
  keeps-normalizing_text x p o =
      made-if moves (length_of p.trees x == 0) (remove_plan observed x p)
      (option_map_or (λ parent. if is_empty (contiguous_texts_after p.trees x) then [] else joining x parent (contiguous_texts_after p.trees x) p)
      (parent_of p.trees x) [])
      (keeps-removing moves observed x p o) (from (parent_of p.trees x))
    where
      from : (a : Option NodeName) → AllByRecursion May
          (option_map_or (λ parent. if is_empty (contiguous_texts_after p.trees x) then [] else joining x parent (contiguous_texts_after p.trees x) p) a [])
      from None = tt
      from (Some parent) = made-if moves (is_empty (contiguous_texts_after p.trees x)) [] (joining x parent (contiguous_texts_after p.trees x) p) tt
          (keeps-joining x parent (contiguous_texts_after p.trees x) p o)

  -- all Texts below a node
  pub keeps-normalizing : (x : NodeName) → Keeps moves (normalizing x)
  keeps-normalizing x p o = keeps-each moves normalizing_text keeps-normalizing_text (filter (λ y. is_text (kind_of p.trees y)) (descendants p.trees x)) p o

  -- new nodes
  made-makes : (f : NodeName → Node) → ((x : NodeName) → May (make (f x))) → (xs : List NodeName) → AllByRecursion May (map (λ y. make (f y)) xs)
  made-makes f h [] = tt
  made-makes f h (x ∷ xs) = (h x, made-makes f h xs)

  -- children that give way to a Text
  keeps-replacing_children : (x : NodeName) (new : DomString) → Keeps moves (replacing_children x new)
  keeps-replacing_children x new p o =
      let old = children_of p.trees x in
      let added : List NodeName = if is_empty new then [] else next_name p ∷ [] in
      let made = map (λ y. make (new_text_node y (Some (document_below p.trees x)) new)) added in
      let told = only_if (not (is_empty old && is_empty new)) (queue_record (child_list x added old None None)) in
      let others : AllByRecursion MayPlace added = from (is_empty new) in
      keeps-and_then moves (steps_of made and_then in_turn (remove_plan suppressed) old and_then in_turn (λ y. insert_plan suppressed y x None) added)
      (steps_of told)
      (keeps-and_then moves (steps_of made and_then in_turn (remove_plan suppressed) old) (in_turn (λ y. insert_plan suppressed y x None) added)
      (keeps-and_then moves (steps_of made) (in_turn (remove_plan suppressed) old)
      (λ q own. made-makes (λ y. new_text_node y (Some (document_below p.trees x)) new)
      (λ y. rules.new_text y (Some (document_below p.trees x)) new) added) (keeps-each moves (remove_plan suppressed) (keeps-removing moves suppressed) old))
      (keeps-in_turn moves (λ y. insert_plan suppressed y x None) added
      (all-then MayPlace (λ y. Keeps moves (insert_plan suppressed y x None)) (λ y h. keeps-inserting moves suppressed y x None h) added others)))
      (λ q own. made-only_if moves (not (is_empty old && is_empty new)) (queue_record (child_list x added old None None))
      (moves.children_told x added old None None)) p o
    where
      from : (b : Bool) → AllByRecursion MayPlace (if b then [] else next_name p ∷ [])
      from true = tt
      from false = (rules.new_node p o, tt)

  -- text content
  pub keeps-setting_text : (x : NodeName) (new : DomString) → Keeps moves (setting_text x new)
  keeps-setting_text x new p o =
      made-if moves (has_data (kind_of p.trees x)) (replacing_all_data x new p) (if is_document (kind_of p.trees x) then [] else replacing_children x new p)
      (keeps-replacing_all_data x new p o)
      (made-if moves (is_document (kind_of p.trees x)) [] (replacing_children x new p) tt (keeps-replacing_children x new p o))

  -- Contents of ranges.
  pub keeps-making_below : (into : NodeName) (n : Node) → May (make n) → MayPlace n.name → Keeps moves (making_below into n)
  keeps-making_below into n m h = keeps-and_then moves (doing (make n)) (insert_plan observed n.name into None) (λ p o. (m, tt))
      (keeps-inserting moves observed n.name into None h)

  -- pieces that are taken into a node
  keeps-taking : (into : NodeName) (pieces : Pieces) → AllWhole MayPlace pieces → Keeps moves (taking into pieces)
  keeps-taking into nothing h p o = tt
  keeps-taking into (whole x rest) h p o =
      keeps-and_then moves (insert_plan observed x into None) (taking into rest) (keeps-inserting moves observed x into None h.0)
      (keeps-taking into rest h.1) p o
  keeps-taking into (cut x from to rest) h p o =
      let n = clone_part (next_name p) from to (node_in p.trees x) in
      keeps-and_then moves (making_below into n and_then replacing_data x from (to - from) []) (taking into rest)
      (keeps-and_then moves (making_below into n) (replacing_data x from (to - from) [])
      (keeps-making_below into n (rules.clone_part p x (next_name p) from to o h.0) (rules.new_node p o))
      (keeps-replacing_data x from (to - from) [])) (keeps-taking into rest h.1) p o
  keeps-taking into (clone x inside rest) h p o =
      let n = with_name (next_name p) (node_in p.trees x) in
      keeps-and_then moves (making_below into n and_then taking (next_name p) inside) (taking into rest)
      (keeps-and_then moves (making_below into n) (taking (next_name p) inside)
      (keeps-making_below into n (rules.clone p x (next_name p) o h.0) (rules.new_node p o)) (keeps-taking (next_name p) inside h.1))
      (keeps-taking into rest h.2) p o

  -- an extraction
  pub keeps-extracting : (k : ℕ) (range : Range NodeName) → Keeps moves (extracting k range)
  keeps-extracting k range p o =
      let fragment = new_fragment_node (next_name p) (own_document p.trees range.start.node) in
      keeps-and_then moves (doing (make fragment) and_then taking (next_name p) (pieces_of p.trees range)) (doing _)
      (keeps-and_then moves (doing (make fragment)) (taking (next_name p) (pieces_of p.trees range))
      (λ q own. (rules.new_fragment (next_name p) (own_document p.trees range.start.node), tt))
      (keeps-taking (next_name p) (pieces_of p.trees range) (rules.wholes p o range)))
      (λ q own. (rules.range k (both_at (new_place p.trees range)), tt)) p o

  -- data at an end of a range
  pub keeps-cutting_data : (ts : Trees) (range : Range NodeName) (x : NodeName) → Keeps moves (cutting_data ts range x)
  keeps-cutting_data ts range x = keeps-if moves (has_data (kind_of ts x))
      (replacing_data x (cut_start range x) (cut_end ts range x - cut_start range x) []) (steps_of [])
      (keeps-replacing_data x (cut_start range x) (cut_end ts range x - cut_start range x) []) (λ p o. tt)

  -- the contents of a range
  pub keeps-deleting_contents : (ts : Trees) (range : Range NodeName) → Keeps moves (deleting_contents ts range)
  keeps-deleting_contents ts range =
      let first = cutting_data ts range range.start.node in
      let nodes = in_turn (remove_plan observed) (outermost_contained ts range) in
      keeps-if moves (is_in_one_data ts range) first (first and_then nodes and_then cutting_data ts range range.end.node)
      (keeps-cutting_data ts range range.start.node)
      (keeps-and_then moves (first and_then nodes) (cutting_data ts range range.end.node)
      (keeps-and_then moves first nodes (keeps-cutting_data ts range range.start.node)
      (keeps-each moves (remove_plan observed) (keeps-removing moves observed) (outermost_contained ts range))) (keeps-cutting_data ts range range.end.node))

  -- a deletion
  pub keeps-deleting : (k : ℕ) (range : Range NodeName) → Keeps moves (deleting k range)
  keeps-deleting k range p o =
      made-if moves (is_collapsed name_eq range) [] ((deleting_contents p.trees range and_then doing _) p) tt
      (keeps-and_then moves (deleting_contents p.trees range) (doing _) (keeps-deleting_contents p.trees range)
      (λ q own. (rules.range k (both_at (new_place p.trees range)), tt)) p o)

  -- a range that gets its end
  keeps-ending_at : (k : ℕ) (b : Boundary NodeName) → Keeps moves (ending_at k b)
  keeps-ending_at k b p o = from (range_at p k)
    where
      from : (a : Option (Range NodeName)) →
          AllByRecursion May (option_map_or (λ (q : Range NodeName). if is_collapsed name_eq q then set_range k (from_to q.start b) ∷ [] else [])
          a [])
      from None = tt
      from (Some q) = made-if moves (is_collapsed name_eq q) (set_range k (from_to q.start b) ∷ []) [] (rules.range k (from_to q.start b), tt) tt

  -- a node before the reference
  keeps-inserting_before : (k : ℕ) (node parent : NodeName) (reference : Option NodeName) → MayPlace node →
      Keeps moves (inserting_before k node parent reference)
  keeps-inserting_before k node parent reference h p o =
      keeps-and_then moves (pre_insert_plan node parent reference) (ending_at k _) (keeps-pre_inserting moves node parent reference h) (keeps-ending_at k _) p o

  -- a node that left its parent first
  keeps-inserting_at : (k : ℕ) (node parent : NodeName) (child : Option NodeName) → MayPlace node → Keeps moves (inserting_at k node parent child)
  keeps-inserting_at k node parent child h p o =
      keeps-and_then moves (remove_plan observed node) (inserting_before k node parent (reference_child p.trees node child))
      (keeps-removing moves observed node)
      (keeps-inserting_before k node parent (reference_child p.trees node child) h) p o

  -- an insertion into a range
  pub keeps-inserting_into_range : (k : ℕ) (range : Range NodeName) (node : NodeName) → MayPlace node → Keeps moves (inserting_into_range k range node)
  keeps-inserting_into_range k range node h p o =
      let parent = insertion_parent p.trees range in
      made-if moves (is_text (kind_of p.trees range.start.node))
      ((splitting range.start.node range.start.offset and_then inserting_at k node parent (Some (next_name p))) p)
      (inserting_at k node parent (start_reference p.trees range) p)
      (keeps-and_then moves (splitting range.start.node range.start.offset) (inserting_at k node parent (Some (next_name p)))
      (keeps-splitting range.start.node range.start.offset) (keeps-inserting_at k node parent (Some (next_name p)) h) p o)
      (keeps-inserting_at k node parent (start_reference p.trees range) h p o)
