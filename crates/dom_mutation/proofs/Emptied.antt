-- A node's children give way to a new Text, or to none.
use Rattle.dom_mutation.proofs.Cited.{◌≡◌, ℕ, ◌<◌, Bool, true, false, not, ◌&&◌, List, [], ◌∷◌, length, map, Option, Some, None, refl, sym, ap, subst, ◌∙◌}
use Rattle.dom_mutation.proofs.Cited.{arith, ◌==◌, if◌then◌else◌, eqb-true, NodeName, Owner, DomString, name_eq, is_empty, is_in, Trees, children_of, parent_of}
use Rattle.dom_mutation.proofs.Cited.{inclusive_ancestors, is_inclusive_ancestor, child_list, next_name, Step, make, queue_record, World, part_of, world_after}
use Rattle.dom_mutation.proofs.Cited.{Plan, ◌and_then◌, doing, steps_of, only_if, in_turn, suppressed, remove_plan, insert_plan, document_below, new_text_node}
use Rattle.dom_mutation.proofs.Cited.{replacing_children, owner-part_of, name_at, DocState, made, planned, stepped, name_in, owner_in, trees_in, MayMove}
use Rattle.dom_mutation.proofs.Cited.{NoneAbove, putting_text, PlansOwn, IsAlone, lacks_to, Each, each_all, children_parent}
use Rattle.dom_mutation.proofs.Cited.{keeps-and_then, keeps-each, keeps-in_turn, keeps-inserting, keeps-removing}
use Rattle.dom_mutation.proofs.Placed.{Counted, once_in}
use Rattle.dom_mutation.proofs.Replaced.{child_below}
use Rattle.dom_mutation.proofs.Grown.{IsMade, same_name, new_name, same_children, alone_new}
use Rattle.dom_base.proofs.Std.{and-false}
use Rattle.dom_mutation.proofs.Made.{made_then, made_turn, planned_then, alone_made}
use Rattle.dom_mutation.proofs.OwnPlans.{own_moves}

-- a node's children are not above it
pub none_above_parent : (d : DocState) → Counted d → (node : ℕ) (ks : List ℕ) →
    map (name_in d) ks ≡ children_of (trees_in d node) (name_in d node) → NoneAbove d node (name_in d node) ks
none_above_parent d counted node ks e =
    keys ks (subst (Each Off) (sym e)
    (each_all (λ z. parent_of ts z ≡ Some (name_in d node)) Off
    (λ z up. lacks_to z (inclusive_ancestors ts (name_in d node))
    (child_below ts (once_in d counted (owner_in d node)) z (name_in d node) up)) (children_of ts (name_in d node))
    (children_parent ts (once_in d counted (owner_in d node)) (name_in d node))))
  where
    ts : Trees
    ts = trees_in d node

    Off : NodeName → Type 0
    Off z = is_inclusive_ancestor (trees_in d node) z (name_in d node) ≡ false

    keys : (ks : List ℕ) → Each Off (map (name_in d) ks) → NoneAbove d node (name_in d node) ks
    keys [] h = tt
    keys (k ∷ ks) h = (h.0, keys ks h.1)

-- The state e after the children of a node are taken out.
module _ (d e : DocState) (counted : Counted d) (node text : ℕ) (ks : List ℕ)
    (listed : map (name_in d) ks ≡ children_of (trees_in d node) (name_in d node))
    (taken : e ≡ planned (owner_in d node) (in_turn (remove_plan suppressed) (map (name_in d) ks)) d) where
  -- when they are taken out, a Text may move there
  pub text_may : ((y : NodeName) → NoneAbove d node y ks → inclusive_ancestors (trees_in e node) y ≡ inclusive_ancestors (trees_in d node) y) →
      text < length d.names → owner_in d text ≡ owner_in d node → is_inclusive_ancestor (trees_in d node) (name_in d text) (name_in d node) ≡ false →
      MayMove e node None text
  text_may paths there owner off =
      let names = ap (λ (s : DocState). s.names) taken in
      record {
        node = subst (λ (ns : List NodeName). text < length ns) (sym names) there;
        owner = subst (λ (ns : List NodeName). (name_at ns text).owner ≡ (name_at ns node).owner) (sym names) owner;
        not_above = subst (λ (ns : List NodeName). is_in name_eq (name_at ns text) (inclusive_ancestors (trees_in e node) (name_at ns node))
            ≡ false) (sym names)
            (ap (is_in name_eq (name_in d text)) (paths (name_in d node) (none_above_parent d counted node ks listed)) ∙ off);
        apart = λ b is. cc;
      }

-- a node's children are replaced by none
module _ (d : DocState) (node : ℕ) (alone : IsAlone d.world (owner_in d node)) where
  abbrev o : Owner
  o = owner_in d node

  abbrev x : NodeName
  x = name_in d node

  abbrev put_none : NodeName → Plan
  put_none y = insert_plan suppressed y x None

  abbrev all : List NodeName → List Step → DocState
  all old told = planned o (steps_of [] and_then in_turn (remove_plan suppressed) old and_then in_turn put_none [] and_then steps_of told) d

  cleared : (old : List NodeName) (told : List Step) → planned o (steps_of told) (planned o (in_turn (remove_plan suppressed) old) d) ≡ all old told
  cleared old told =
      let out = in_turn (remove_plan suppressed) old in
      let none : PlansOwn o (steps_of []) = λ p own. tt in
      let none_put : PlansOwn o (in_turn put_none []) = λ p own. tt in
      let taken = keeps-and_then (own_moves o) (steps_of []) out none
      (keeps-each (own_moves o) (remove_plan suppressed) (keeps-removing (own_moves o) suppressed) old) in
      ap (planned o (steps_of told)) (planned_then o (steps_of []) out d alone none)
      ∙ ap (planned o (steps_of told)) (planned_then o (steps_of [] and_then out) (in_turn put_none []) d alone taken)
      ∙ planned_then o (steps_of [] and_then out and_then in_turn put_none []) (steps_of told) d alone
      (keeps-and_then (own_moves o) (steps_of [] and_then out) (in_turn put_none []) taken none_put)

  abbrev told_of : List NodeName → List Step
  told_of old = only_if (not (is_empty old && true)) (queue_record (child_list x [] old None None))

  -- without children, and with some
  pub cleared_none : (e : DocState) (ks : List ℕ) → ks ≡ [] → map (name_in d) ks ≡ children_of (trees_in d node) x →
      e ≡ planned o (in_turn (remove_plan suppressed) (map (name_in d) ks)) d
      → e ≡ planned o (replacing_children x []) d
  cleared_none e ks nil listed taken =
      taken ∙ ap (λ js. planned o (in_turn (remove_plan suppressed) (map (name_in d) js)) d) nil ∙ cleared [] [] ∙
      ap (λ old. all old (told_of old)) (ap (map (name_in d)) (sym nil) ∙ listed)

  pub cleared_some : {e g : DocState} (ks : List ℕ) → is_empty ks ≡ false → map (name_in d) ks ≡ children_of (trees_in d node) x →
      e ≡ planned o (in_turn (remove_plan suppressed) (map (name_in d) ks)) d
      → g ≡ stepped (owner_in e node) (queue_record (child_list (name_in e node) [] (map (name_in e) ks) None None)) e →
      g ≡ planned o (replacing_children x []) d
  cleared_some [] some listed taken told = cc
  cleared_some (k ∷ ks) some listed taken told =
      let tell : DocState → DocState = λ s. stepped (owner_in s node) (queue_record (child_list (name_in s node) [] (map (name_in s) (k ∷ ks)) None None)) s in
      told ∙ ap tell taken ∙ cleared (map (name_in d) (k ∷ ks)) (queue_record (child_list x [] (map (name_in d) (k ∷ ks)) None None) ∷ []) ∙
      ap (λ old. all old (told_of old)) listed

-- a test of length, for emptiness
pub none_left : (ks : List ℕ) → true ≡ (length ks == 0) → ks ≡ []
none_left [] e = refl
none_left (k ∷ ks) e = let h = eqb-true (length (k ∷ ks)) 0 (sym e) in absurd (omega arith)

-- ---- after the Text was made
module _ {d e : DocState} {node new : ℕ} {doc : Option NodeName} {text : DomString} (is_made : IsMade d e node new doc text)
    (distinct : (j k : ℕ) → j < length e.names → k < length e.names → name_in e j ≡ name_in e k → j ≡ k) (counted : Counted e) where
  abbrev p : Owner
  p = owner_in d node

  abbrev z : NodeName
  z = name_in d node

  abbrev y : NodeName
  y = next_name (part_of d.world p)

  abbrev old : List NodeName
  old = children_of (part_of d.world p).trees z

  abbrev clear_plan : List NodeName → Plan
  clear_plan zs = in_turn (remove_plan suppressed) zs

  abbrev put_plan : NodeName → Plan
  put_plan w = insert_plan suppressed w z None

  abbrev record_plan : List NodeName → Plan
  record_plan zs = doing (queue_record (child_list z (y ∷ []) zs None None))

  abbrev steps_if : Option NodeName → Bool → List Step
  steps_if document b =
      let added = if b then [] else y ∷ [] in
      let made_ = map (λ w. make (new_text_node w document text)) added in
      let told = only_if (not (is_empty old && b)) (queue_record (child_list z added old None None)) in
      (steps_of made_ and_then clear_plan old and_then in_turn put_plan added and_then steps_of told) (part_of d.world p)

  -- what a change of text makes
  pub text_whole : (g : DocState) → is_empty text ≡ false → doc ≡ Some (document_below (part_of d.world p).trees z) →
      g ≡ planned (owner_in e node) (putting_text (name_in e node) (name_in e new)) e
      → g.world ≡ made p (replacing_children z text) d.world
  text_whole g some documented is =
      let make_plan : Plan = doing (make (new_text_node y doc text)) in
      let made_own : PlansOwn p make_plan = λ q own. (tt, tt) in
      let clear_own = keeps-each (own_moves p) (remove_plan suppressed) (keeps-removing (own_moves p) suppressed) old in
      let put_own = keeps-inserting (own_moves p) suppressed y z None (owner-part_of d.world p) in
      let cleared_own = keeps-and_then (own_moves p) make_plan (clear_plan old) made_own clear_own in
      let now = alone_new is_made in
      ap (λ (s : DocState). s.world) is
      ∙ ap (λ (w : NodeName). made w.owner (putting_text w (name_in e new)) e.world) (same_name is_made)
      ∙ ap (λ (w : NodeName). made p (putting_text z w) e.world) (new_name is_made)
      ∙ ap (λ zs. made p (clear_plan zs and_then put_plan y and_then record_plan zs) e.world)
      (same_children is_made distinct counted)
      ∙ made_then p (clear_plan old and_then put_plan y) (record_plan old) e.world now
      (keeps-and_then (own_moves p) (clear_plan old) (put_plan y) clear_own put_own)
      ∙ ap (made p (record_plan old)) (made_then p (clear_plan old) (put_plan y) e.world now clear_own)
      ∙ ap (λ (w : World). made p (record_plan old) (made p (put_plan y) (made p (clear_plan old) w))) is_made.world
      ∙ ap (λ (w : World). made p (record_plan old) (made p (put_plan y) w)) (sym (made_then p make_plan (clear_plan old) d.world is_made.alone made_own))
      ∙ ap (made p (record_plan old)) (sym
      (made_turn p put_plan y [] (made p (make_plan and_then clear_plan old) d.world)
      (alone_made p (make_plan and_then clear_plan old) d.world is_made.alone cleared_own) put_own))
      ∙ ap (made p (record_plan old)) (sym (made_then p (make_plan and_then clear_plan old) (in_turn put_plan (y ∷ [])) d.world is_made.alone cleared_own))
      ∙ sym (made_then p (make_plan and_then clear_plan old and_then in_turn put_plan (y ∷ [])) (record_plan old) d.world is_made.alone
      (keeps-and_then (own_moves p) (make_plan and_then clear_plan old) (in_turn put_plan (y ∷ [])) cleared_own
      (keeps-in_turn (own_moves p) put_plan (y ∷ []) (put_own, tt))))
      ∙ ap (λ b. made p (make_plan and_then clear_plan old and_then in_turn put_plan (y ∷ []) and_then steps_of
      (only_if (not b) (queue_record (child_list z (y ∷ []) old None None)))) d.world) (sym (and-false (is_empty old)))
      ∙ ap (λ a. world_after p d.world (steps_if a false)) documented
      ∙ ap (λ b. world_after p d.world (steps_if (Some (document_below (part_of d.world p).trees z)) b)) (sym some)
