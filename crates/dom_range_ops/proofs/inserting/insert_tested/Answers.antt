use Rattle.dom_range_ops.proofs.Cited.{◌≡◌, ◌++◌, ◌∷◌, [], false, List, Some, None, option_map, refl, sym, ap, subst, ◌∙◌, cond-true, on_ok_weaker, NodeName}
use Rattle.dom_range_ops.proofs.Cited.{limit_on, next_name, inserting_into_range, kind_of, is_text, has_data, is_shadow, parent_of, is_inclusive_ancestor}
use Rattle.dom_range_ops.proofs.Cited.{pre_insert_refusal, part_of, IsPlaceable, DocState, made, name_in, AreReady, insertion-tested}
use Rattle.dom_range_ops.proofs.Cited.{inserting_before_tail, range_at_points}
use Rattle.dom_model.proofs.Model.{Owner as OwnerOf}
use Rattle.dom_range_ops.proofs.InsertedTests.{place-valid, text-child, valid-child, steps-tail, steps-plain}
use Rattle.dom_range_ops.proofs.inserting.insert_tested.Goals.{After-is_text, After-laws}
use Rattle.dom_range_ops.proofs.inserting.insert_tested.Goals as goal

-- the tests of the place let the node pass
valid : (c : After-laws) → pre_insert_refusal (part_of c.args.doc.now.world c.args.owner).trees (name_in c.args.doc.now c.args.parent)
    (name_in c.args.doc.now c.args.node) (option_map (name_in c.args.doc.now) c.args.child) ≡ None
valid c =
    let d = c.args.doc.now in
    let ts = (part_of d.world c.args.owner).trees in
    let x = name_in d c.args.node in
    ap (λ z. pre_insert_refusal ts z x (option_map (name_in d) c.args.child)) c.requires.parent ∙
    (ap (pre_insert_refusal ts _ x) c.requires.child ∙ place-valid ts (range_at_points d.names c.args.points.now) x c.requires.tested)

-- so the node is not above the parent, which takes nodes
may_stand : (c : After-laws) → IsPlaceable (part_of c.args.doc.now.world c.args.owner).trees (name_in c.args.doc.now c.args.parent)
    (name_in c.args.doc.now c.args.node)
may_stand c =
    insertion-tested (part_of c.args.doc.now.world c.args.owner).trees (name_in c.args.doc.now c.args.parent) (name_in c.args.doc.now c.args.node)
    (option_map (name_in c.args.doc.now) c.args.child) (valid c)

apart : (c : After-laws) {w : OwnerOf} → w ≡ c.args.owner → is_inclusive_ancestor (part_of c.args.doc.now.world w).trees
    (name_in c.args.doc.now c.args.node) (name_in c.args.doc.now c.args.parent) ≡ false
apart c own =
    ap (λ w. is_inclusive_ancestor (part_of c.args.doc.now.world w).trees (name_in c.args.doc.now c.args.node) (name_in c.args.doc.now c.args.parent)) own
    ∙ (may_stand c).apart

plain : (c : After-laws) {w : OwnerOf} → w ≡ c.args.owner →
    is_shadow (kind_of (part_of c.args.doc.now.world w).trees (name_in c.args.doc.now c.args.node)) ≡ false
plain c own = ap (λ w. is_shadow (kind_of (part_of c.args.doc.now.world w).trees (name_in c.args.doc.now c.args.node))) own
    ∙ (may_stand c).plain

opened : (c : After-laws) {w : OwnerOf} → w ≡ c.args.owner →
    has_data (kind_of (part_of c.args.doc.now.world w).trees (name_in c.args.doc.now c.args.parent)) ≡ false
opened c own = ap (λ w. has_data (kind_of (part_of c.args.doc.now.world w).trees (name_in c.args.doc.now c.args.parent))) own
    ∙ (may_stand c).opened

-- whether the start is a Text
kind : (c : After-is_text) →
    is_text (kind_of (part_of c.args.doc.now.world c.args.owner).trees (name_in c.args.doc.now c.args.points.now.start.0)) ≡ c.is_text.result
kind c =
    let d = c.args.doc.now in
    sym (c.is_text.ensures ∙ ap (λ w. is_text (kind_of (part_of d.world w).trees (name_in d c.args.points.now.start.0))) c.requires.start_own)

-- ---- it is one

pub insert_before_tail-requires-clause-not_above : goal.insert_before_tail-requires-clause-not_above
insert_before_tail-requires-clause-not_above c = apart (goal.at.insert_before_tail-requires-clause-not_above c).After-laws refl

pub insert_before_tail-requires-clause-open : goal.insert_before_tail-requires-clause-open
insert_before_tail-requires-clause-open c = opened (goal.at.insert_before_tail-requires-clause-open c).After-laws refl

pub insert_before_tail-requires-clause-text : goal.insert_before_tail-requires-clause-text
insert_before_tail-requires-clause-text c = kind (goal.at.insert_before_tail-requires-clause-text c).After-is_text ∙ c.if-is_text.true

pub insert_before_tail-requires-clause-start_is_child : goal.insert_before_tail-requires-clause-start_is_child
insert_before_tail-requires-clause-start_is_child c =
    let d = c.args.doc.now in
    let text = kind (goal.at.insert_before_tail-requires-clause-start_is_child c).After-is_text ∙ c.if-is_text.true in
    record {
      node = c.requires.start_is_node;
      owner = c.requires.start_own ∙ sym c.requires.parent_own;
      child = ap (λ w. parent_of (part_of d.world w).trees (name_in d c.args.points.now.start.0)) c.requires.parent_own ∙
          (text-child (part_of d.world c.args.owner).trees (range_at_points d.names c.args.points.now) (name_in d c.args.node) c.requires.tested text ∙
          ap (λ z. Some z) (sym c.requires.parent));
    }

pub insert_before_tail-requires-clause-no_shadow : goal.insert_before_tail-requires-clause-no_shadow
insert_before_tail-requires-clause-no_shadow c = plain (goal.at.insert_before_tail-requires-clause-no_shadow c).After-laws refl

pub insert_before_tail-requires-clause-ready : goal.insert_before_tail-requires-clause-ready
insert_before_tail-requires-clause-ready c =
    let d = c.args.doc.now in
    let text = kind (goal.at.insert_before_tail-requires-clause-ready c).After-is_text ∙ c.if-is_text.true in
    subst AreReady (sym (steps-tail c.args.owner d.world c.args.number (range_at_points d.names c.args.points.now) (name_in d c.args.node)
    (name_in d c.args.parent) c.requires.parent text)) c.requires.ready

pub returns-then-is_text-clause-names : goal.returns-then-is_text-clause-names
returns-then-is_text-clause-names c =
    let d = c.args.doc.now in
    let text = kind (goal.at.returns-then-is_text-clause-names c).After-is_text ∙ c.if-is_text.true in
    on_ok_weaker c.insert_before_tail.result
    (λ h. h ∙ ap (λ (zs : List NodeName). d.names ++ zs) (sym (cond-true _ (next_name (part_of d.world c.args.owner) ∷ []) [] text)))
    c.insert_before_tail.ensures.names

pub returns-then-is_text-clause-world : goal.returns-then-is_text-clause-world
returns-then-is_text-clause-world c =
    let d = c.args.doc.now in
    let text = kind (goal.at.returns-then-is_text-clause-world c).After-is_text ∙ c.if-is_text.true in
    let r = range_at_points d.names c.args.points.now in
    let x = name_in d c.args.node in
    let more : c.insert_before_tail.new.doc.world ≡ made c.args.owner (inserting_before_tail c.args.number r (name_in d c.args.parent) x) d.world →
    c.insert_before_tail.new.doc.world ≡ made c.args.owner (inserting_into_range c.args.number r x) d.world =
    λ h. h ∙ steps-tail c.args.owner d.world c.args.number r x (name_in d c.args.parent) c.requires.parent text in
    on_ok_weaker c.insert_before_tail.result more c.insert_before_tail.ensures.world

pub returns-then-is_text-clause-refused : goal.returns-then-is_text-clause-refused
returns-then-is_text-clause-refused c q e =
    let text = kind (goal.at.returns-then-is_text-clause-refused c).After-is_text ∙ c.if-is_text.true in
    ap (limit_on (part_of c.args.doc.now.world c.args.owner).node_count) (cond-true _ 1 0 text) ∙ c.insert_before_tail.ensures.refused q e

pub returns-then-is_text-clause-stopped : goal.returns-then-is_text-clause-stopped
returns-then-is_text-clause-stopped c q e =
    let text = kind (goal.at.returns-then-is_text-clause-stopped c).After-is_text ∙ c.if-is_text.true in
    c.insert_before_tail.ensures.stopped q (ap (limit_on (part_of c.args.doc.now.world c.args.owner).node_count) (sym (cond-true _ 1 0 text)) ∙ e)

-- ---- it is none

pub insert_at-requires-clause-not_above : goal.insert_at-requires-clause-not_above
insert_at-requires-clause-not_above c = apart (goal.at.insert_at-requires-clause-not_above c).After-laws c.requires.parent_own

pub insert_at-requires-clause-open : goal.insert_at-requires-clause-open
insert_at-requires-clause-open c = opened (goal.at.insert_at-requires-clause-open c).After-laws c.requires.parent_own

pub insert_at-requires-clause-child_is_child : goal.insert_at-requires-clause-child_is_child
insert_at-requires-clause-child_is_child c b is =
    let d = c.args.doc.now in
    let ts = (part_of d.world c.args.owner).trees in
    let y = name_in d c.args.parent in
    let x = name_in d c.args.node in
    record {
      node = c.requires.child_is_node b is;
      owner = c.requires.child_own b is ∙ sym c.requires.parent_own;
      child = ap (λ w. parent_of (part_of d.world w).trees (name_in d b)) c.requires.parent_own
          ∙ valid-child ts y x (name_in d b) (ap (λ m. pre_insert_refusal ts y x (option_map (name_in d) m)) (sym is) ∙
          valid (goal.at.insert_at-requires-clause-child_is_child c).After-laws);
    }

pub insert_at-requires-clause-no_shadow : goal.insert_at-requires-clause-no_shadow
insert_at-requires-clause-no_shadow c = plain (goal.at.insert_at-requires-clause-no_shadow c).After-laws c.requires.node_own

pub insert_at-requires-clause-ready : goal.insert_at-requires-clause-ready
insert_at-requires-clause-ready c =
    let d = c.args.doc.now in
    subst AreReady (sym (steps-plain c.args.owner d.world c.args.number (range_at_points d.names c.args.points.now) (name_in d c.args.node)
    (name_in d c.args.parent) (option_map (name_in d) c.args.child) c.requires.parent c.requires.child
    (kind (goal.at.insert_at-requires-clause-ready c).After-is_text ∙ c.if-is_text.false))) c.requires.ready

pub returns-clause-world : goal.returns-clause-world
returns-clause-world c =
    let d = c.args.doc.now in
    ap (λ (s : DocState). s.world) c.in_ok-insert_at.ensures
    ∙ steps-plain c.args.owner d.world c.args.number (range_at_points d.names c.args.points.now) (name_in d c.args.node) (name_in d c.args.parent)
    (option_map (name_in d) c.args.child) c.requires.parent c.requires.child
    (kind (goal.at.returns-clause-world c).After-is_text ∙ c.if-is_text.false)
