-- Plans ask for the trees and the live ranges of a part alone: they are the same where it has other tables.
use Rattle.dom_base.proofs.Std.{◌≡◌, ℕ, ◌+◌, ◌-◌, Bool, true, false, not, ◌&&◌, List, [], ◌∷◌, ◌++◌, drop, filter, flat_map, length, map, Option, Some, None}
use Rattle.dom_base.proofs.Std.{refl, ap, ◌∙◌, ◌==◌, if◌then◌else◌, option_map_or}
use Rattle.dom_model.proofs.Model.{NodeName, Plan, Observing, observed, suppressed, ◌and_then◌, in_turn, doing, steps_of, only_if, telling, remove_plan}
use Rattle.dom_model.proofs.Model.{document_below, changing_document, adopt_plan, placed_nodes, emptying, making_room, placing, sibling_before, inserting_nodes}
use Rattle.dom_model.proofs.Model.{insert_plan, reference_child, pre_insert_plan, replace_plan, Pieces, whole, cut, clone, clone_part, making_below, taking}
use Rattle.dom_model.proofs.Model.{pieces_of, cut_start, cut_end, new_place, both_at, own_document, new_fragment_node, extracting, is_in_one_data}
use Rattle.dom_model.proofs.Model.{DomString, name_eq, is_empty, child_list, Part, next_name, cutting_data, outermost_contained, deleting_contents, deleting}
use Rattle.dom_model.proofs.Model.{insertion_parent, start_reference, ending_at, inserting_before, inserting_at, inserting_into_range, Range, at, is_collapsed}
use Rattle.dom_model.proofs.Model.{Step, make, place, split_at, set_range, queue_record, part_step, after, replacing_data, replacing_all_data, new_text_node}
use Rattle.dom_model.proofs.Model.{placing_tail, splitting, contiguous_texts_after, joins, joining, normalizing_text, normalizing, replacing_children}
use Rattle.dom_model.proofs.Model.{setting_text, Trees, node_in, kind_of, is_fragment, is_text, is_document, has_data, children_of, parent_of, next_sibling}
use Rattle.dom_model.proofs.Model.{previous_sibling, index_of, length_of, descendants, with_name}
use Rattle.dom_model.specs.Extract.{nothing}

-- a part with its own trees and live ranges, and else what it is made to have
abbrev pub beside : (Part → Part) → Part → Part
beside t p = record (t p) { owner = p.owner; trees = p.trees; node_count = p.node_count; ranges = p.ranges }

module _ (t : Part → Part) (step-beside : (p : Part) (s : Step) → part_step (beside t p) s ≡ beside t (part_step p s)) where
  -- steps
  pub after-beside : (steps : List Step) (p : Part) → after (beside t p) steps ≡ beside t (after p steps)
  after-beside [] p = refl
  after-beside (s ∷ steps) p = ap (λ (q : Part). after q steps) (step-beside p s) ∙ after-beside steps (part_step p s)

  -- a plan is the same
  abbrev pub IsBlind : Plan → Type 0
  IsBlind f = (p : Part) → f (beside t p) ≡ f p

  -- one behind another
  blind-then : (f g : Plan) → IsBlind f → IsBlind g → IsBlind (f and_then g)
  blind-then f g first second p =
      ap (λ (steps : List Step). steps ++ g (after (beside t p) steps)) (first p)
      ∙ ap (λ (more : List Step). f p ++ more) (ap g (after-beside (f p) p) ∙ second (after p (f p)))

  -- one for each item
  blind-turn : {A : Type 0} (f : A → Plan) → ((x : A) → IsBlind (f x)) → (xs : List A) → IsBlind (in_turn f xs)
  blind-turn f each [] p = refl
  blind-turn f each (x ∷ xs) p =
      ap (λ (steps : List Step). steps ++ in_turn f xs (after (beside t p) steps)) (each x p)
      ∙ ap (λ (more : List Step). f x p ++ more) (ap (in_turn f xs) (after-beside (f x p) p) ∙ blind-turn f each xs (after p (f x p)))

  -- one of two
  blind-if : (b : Bool) (f g : Plan) → IsBlind f → IsBlind g → IsBlind (if b then f else g)
  blind-if true f g first second = first
  blind-if false f g first second = second

  -- ---- the plans of changes

  pub blind-adopting : (d x : NodeName) → IsBlind (adopt_plan d x)
  blind-adopting d x = blind-then (remove_plan observed x) (changing_document d x) (λ p. refl) (λ p. refl)

  blind-placing : (parent : NodeName) (before : Option NodeName) (x : NodeName) → IsBlind (placing parent before x)
  blind-placing parent before x p = blind-then (adopt_plan (document_below p.trees parent) x) (doing (place x parent before))
      (blind-adopting (document_below p.trees parent) x) (λ q. refl) p

  blind-emptying : (node : NodeName) (children : List NodeName) → IsBlind (emptying node children)
  blind-emptying node children =
      blind-then (in_turn (remove_plan suppressed) children) (doing (queue_record (child_list node [] children None None)))
      (blind-turn (remove_plan suppressed) (λ x p. refl) children) (λ p. refl)

  blind-inserting_nodes : (how : Observing) (node : NodeName) (moved : List NodeName) (parent : NodeName) (before : Option NodeName) →
      IsBlind (inserting_nodes how node moved parent before)
  blind-inserting_nodes how node moved parent before p =
      let told = child_list parent moved [] (sibling_before p.trees parent before) before in
      let emptied : Plan = if is_fragment (kind_of p.trees node) then emptying node moved else steps_of [] in
      let room = making_room parent before (length moved) in
      let each = in_turn (placing parent before) moved in
      blind-then (emptied and_then room and_then each) (steps_of (telling how told))
      (blind-then (emptied and_then room) each
      (blind-then emptied room (blind-if (is_fragment (kind_of p.trees node)) (emptying node moved) (steps_of []) (blind-emptying node moved)
      (λ q. refl)) (λ q. refl))
      (blind-turn (placing parent before) (blind-placing parent before) moved)) (λ q. refl) p

  blind-inserting : (how : Observing) (node parent : NodeName) (before : Option NodeName) → IsBlind (insert_plan how node parent before)
  blind-inserting how node parent before p =
      let moved = placed_nodes p.trees node in
      ap (λ (steps : List Step). if is_empty moved then [] else steps) (blind-inserting_nodes how node moved parent before p)

  pub blind-pre_inserting : (node parent : NodeName) (child : Option NodeName) → IsBlind (pre_insert_plan node parent child)
  blind-pre_inserting node parent child p = blind-inserting observed node parent (reference_child p.trees node child) p

  pub blind-replacing : (parent node child : NodeName) → IsBlind (replace_plan parent node child)
  blind-replacing parent node child p =
      let reference = reference_child p.trees node (next_sibling p.trees child) in
      let told = child_list parent (placed_nodes p.trees node) (child ∷ []) (previous_sibling p.trees child) reference in
      blind-then (remove_plan suppressed child and_then insert_plan suppressed node parent reference) (doing (queue_record told))
      (blind-then (remove_plan suppressed child) (insert_plan suppressed node parent reference) (λ q. refl)
      (blind-inserting suppressed node parent reference)) (λ q. refl) p

  -- ---- of data and of text

  blind-tail : (x : NodeName) (offset : ℕ) (new : NodeName) (parent : Option NodeName) → IsBlind (placing_tail x offset new parent)
  blind-tail x offset new None p = refl
  blind-tail x offset new (Some parent) p =
      blind-then (insert_plan observed new parent (next_sibling p.trees x)) (doing (split_at x offset new parent (index_of p.trees x)))
      (blind-inserting observed new parent (next_sibling p.trees x)) (λ q. refl) p

  pub blind-splitting : (x : NodeName) (offset : ℕ) → IsBlind (splitting x offset)
  blind-splitting x offset p =
      let old = node_in p.trees x in
      let new = next_name p in
      let tail = new_text_node new old.document (drop offset old.text) in
      let placed = placing_tail x offset new (parent_of p.trees x) in
      blind-then (doing (make tail) and_then placed) (replacing_data x offset (length old.text - offset) [])
      (blind-then (doing (make tail)) placed (λ q. refl) (blind-tail x offset new (parent_of p.trees x))) (λ q. refl) p

  blind-joining : (x parent : NodeName) (nexts : List NodeName) → IsBlind (joining x parent nexts)
  blind-joining x parent nexts p =
      let size = length_of p.trees x in
      let all = flat_map (λ y. (node_in p.trees y).text) nexts in
      let carried = steps_of (joins p.trees x parent size nexts) in
      blind-then (replacing_data x size 0 all and_then carried) (in_turn (remove_plan observed) nexts)
      (blind-then (replacing_data x size 0 all) carried (λ q. refl) (λ q. refl))
      (blind-turn (remove_plan observed) (λ y q. refl) nexts) p

  blind-normalizing_text : (x : NodeName) → IsBlind (normalizing_text x)
  blind-normalizing_text x p =
      let nexts = contiguous_texts_after p.trees x in
      ap (λ (join : NodeName → List Step). if length_of p.trees x == 0 then remove_plan observed x p else option_map_or join (parent_of p.trees x) [])
      (λ j parent. if is_empty nexts then [] else blind-joining x parent nexts p j)

  pub blind-normalizing : (x : NodeName) → IsBlind (normalizing x)
  blind-normalizing x p = blind-turn normalizing_text blind-normalizing_text (filter (λ y. is_text (kind_of p.trees y)) (descendants p.trees x)) p

  blind-children : (x : NodeName) (new : DomString) → IsBlind (replacing_children x new)
  blind-children x new p =
      let old = children_of p.trees x in
      let added = if is_empty new then [] else next_name p ∷ [] in
      let made = map (λ y. make (new_text_node y (Some (document_below p.trees x)) new)) added in
      let told = only_if (not (is_empty old && is_empty new)) (queue_record (child_list x added old None None)) in
      let gone = in_turn (remove_plan suppressed) old in
      let come = in_turn (λ y. insert_plan suppressed y x None) added in
      blind-then (steps_of made and_then gone and_then come) (steps_of told)
      (blind-then (steps_of made and_then gone) come (blind-then (steps_of made) gone (λ q. refl) (blind-turn (remove_plan suppressed) (λ y q. refl) old))
      (blind-turn (λ y. insert_plan suppressed y x None) (λ y. blind-inserting suppressed y x None) added)) (λ q. refl) p

  pub blind-setting_text : (x : NodeName) (new : DomString) → IsBlind (setting_text x new)
  blind-setting_text x new p =
      ap (λ (steps : List Step). if has_data (kind_of p.trees x) then replacing_all_data x new p else
      (if is_document (kind_of p.trees x) then [] else steps)) (blind-children x new p)

  -- ---- of ranges

  blind-cutting : (ts : Trees) (r : Range NodeName) (x : NodeName) → IsBlind (cutting_data ts r x)
  blind-cutting ts r x = blind-if (has_data (kind_of ts x)) (replacing_data x (cut_start r x) (cut_end ts r x - cut_start r x) []) (steps_of [])
      (λ p. refl) (λ p. refl)

  blind-contents : (ts : Trees) (r : Range NodeName) → IsBlind (deleting_contents ts r)
  blind-contents ts r =
      let all = in_turn (remove_plan observed) (outermost_contained ts r) in
      blind-if (is_in_one_data ts r) (cutting_data ts r r.start.node)
      (cutting_data ts r r.start.node and_then all and_then cutting_data ts r r.end.node) (blind-cutting ts r r.start.node)
      (blind-then (cutting_data ts r r.start.node and_then all) (cutting_data ts r r.end.node)
      (blind-then (cutting_data ts r r.start.node) all (blind-cutting ts r r.start.node)
      (blind-turn (remove_plan observed) (λ x q. refl) (outermost_contained ts r))) (blind-cutting ts r r.end.node))

  pub blind-deleting : (k : ℕ) (r : Range NodeName) → IsBlind (deleting k r)
  blind-deleting k r p =
      let ends = doing (set_range k (both_at (new_place p.trees r))) in
      ap (λ (steps : List Step). if is_collapsed name_eq r then [] else steps)
      (blind-then (deleting_contents p.trees r) ends (blind-contents p.trees r) (λ q. refl) p)

  blind-inserting_before : (k : ℕ) (node parent : NodeName) (reference : Option NodeName) → IsBlind (inserting_before k node parent reference)
  blind-inserting_before k node parent reference p =
      let ts = p.trees in
      let place = option_map_or (index_of ts) reference (length_of ts parent) in
      let size = if is_fragment (kind_of ts node) then length_of ts node else 1 in
      blind-then (pre_insert_plan node parent reference) (ending_at k (at parent (place + size))) (blind-pre_inserting node parent reference) (λ q. refl) p

  blind-inserting_at : (k : ℕ) (node parent : NodeName) (child : Option NodeName) → IsBlind (inserting_at k node parent child)
  blind-inserting_at k node parent child p =
      let reference = reference_child p.trees node child in
      blind-then (remove_plan observed node) (inserting_before k node parent reference) (λ q. refl) (blind-inserting_before k node parent reference) p

  pub blind-into_range : (k : ℕ) (r : Range NodeName) (node : NodeName) → IsBlind (inserting_into_range k r node)
  blind-into_range k r node p =
      let parent = insertion_parent p.trees r in
      let split = splitting r.start.node r.start.offset in
      λ j. if is_text (kind_of p.trees r.start.node)
      then blind-then split (inserting_at k node parent (Some (next_name p))) (blind-splitting r.start.node r.start.offset)
      (blind-inserting_at k node parent (Some (next_name p))) p j
      else blind-inserting_at k node parent (start_reference p.trees r) p j

  blind-below : (into : NodeName) (n : Rattle.dom_model.specs.Tree.Node) → IsBlind (making_below into n)
  blind-below into n = blind-then (doing (make n)) (insert_plan observed n.name into None) (λ q. refl) (blind-inserting observed n.name into None)

  blind-taking : (pieces : Pieces) (into : NodeName) → IsBlind (taking into pieces)
  blind-taking nothing into p = refl
  blind-taking (whole x rest) into p = blind-then (insert_plan observed x into None) (taking into rest) (blind-inserting observed x into None)
      (blind-taking rest into) p
  blind-taking (cut x from to rest) into p =
      let n = clone_part (next_name p) from to (node_in p.trees x) in
      blind-then (making_below into n and_then replacing_data x from (to - from) []) (taking into rest)
      (blind-then (making_below into n) (replacing_data x from (to - from) []) (blind-below into n) (λ q. refl)) (blind-taking rest into) p
  blind-taking (clone x inside rest) into p =
      let n = with_name (next_name p) (node_in p.trees x) in
      blind-then (making_below into n and_then taking (next_name p) inside) (taking into rest)
      (blind-then (making_below into n) (taking (next_name p) inside) (blind-below into n) (blind-taking inside (next_name p)))
      (blind-taking rest into) p

  pub blind-extracting : (k : ℕ) (r : Range NodeName) → IsBlind (extracting k r)
  blind-extracting k r p =
      let into = next_name p in
      let fragment = new_fragment_node into (own_document p.trees r.start.node) in
      let ends = doing (set_range k (both_at (new_place p.trees r))) in
      blind-then (doing (make fragment) and_then taking into (pieces_of p.trees r)) ends
      (blind-then (doing (make fragment)) (taking into (pieces_of p.trees r)) (λ q. refl) (blind-taking (pieces_of p.trees r) into)) (λ q. refl) p
