use Rattle.dom_traversal.proofs.Cited.{◌≡◌, ℕ, ◌<◌, false, inl, inr, List, Some, length, get_or, ap, refl, sym, subst, ◌∙◌, slice_get, eqb-true, cases_Bool}
use Rattle.dom_traversal.proofs.Cited.{get_or_default, following_step, In-from, In-not, inclusive_descendants, is_in, name_at, name_eq, Once-forest}
use Rattle.dom_traversal.proofs.Cited.{outside-test, AreOutside, is_inside, IsLeftIf, KeyedTables, Reference, reference_at}
use Rattle.dom_traversal.proofs.Leaving.{none-there, may-none, may-may, may-items, may-left, left-may, all-left, left-outside}
use Rattle.dom_tree.proofs.Inside.{from_key, all-from_top, top-stands, next-from}
use Rattle.dom_traversal.proofs.tables.OwnTables.leave.Goals as goal

pub returns-then-is_empty-clause-iterators : goal.returns-then-is_empty-clause-iterators
returns-then-is_empty-clause-iterators c =
    let none = eqb-true (c.self.inside.iterators.len) 0 (sym c.is_empty.ensures ∙ c.if-is_empty.true) in
    none-there c.args.forest.now c.args.node c.args.self.now.iterators
    (ap (λ (t : KeyedTables). length t.iterators) (sym c.self.view_is) ∙ (sym c.self.inside.iterators.ok.0 ∙ none))

pub is_apart-requires-clause-nodes : goal.is_apart-requires-clause-nodes
is_apart-requires-clause-nodes c k d l =
    let xs = c.self.inside.references.items in
    let x = get_or xs k d in
    let within = subst (λ (ys : List Reference). k < length ys) c.as_slice.ensures.value l in
    let i = c.self.invariant.1.only x (k, within, get_or_default xs k x d within) in
    let there = ap (λ (t : KeyedTables). slice_get t.iterators x.number) (sym c.self.view_is) ∙ i.1 in
    subst (λ (ys : List Reference). (get_or ys k d).node < length c.args.forest.now.names) (sym c.as_slice.ensures.value)
    (subst (λ (n : ℕ). n < length c.args.forest.now.names) i.2 (c.requires.iterators x.number i.0 there).reference.node)

pub returns-then-is_apart-clause-iterators : goal.returns-then-is_apart-clause-iterators
returns-then-is_apart-clause-iterators c =
    let f = c.args.forest.now in
    let was = c.args.self.now.iterators in
    let xs = c.self.inside.references.items in
    all-left f c.args.node was was (may-none f c.args.node was)
    (λ k i there.
    let at = c.self.invariant.1.all k i (ap (λ (t : KeyedTables). slice_get t.iterators k) c.self.view_is ∙ there) in
    let out = subst (λ (ys : List Reference). AreOutside f c.args.node ys (length ys)) c.as_slice.ensures.value (c.is_apart.ensures c.if-is_apart.true) in
    subst (λ o. IsLeftIf f c.args.node o o) (sym there) (left-outside f c.args.node i (c.requires.iterators k i there)
    (subst (λ (x : Reference). is_inside f c.args.node x.node ≡ false) at.2 (out at.0 (reference_at i.reference k) at.1))))

pub loop-at-init : goal.loop-at-init
loop-at-init c =
    let f = c.args.forest.now in
    let e = c.law_nodes_stand_once.ensures in
    record {
      stands = top-stands f c.args.node e.once e.only c.requires.node_is_node;
      may = may-none f c.args.node c.args.self.now.iterators;
      ahead = λ k i there inside. inl (all-from_top f c.args.node e.once e.only c.requires.node_is_node (name_at f.names i.reference) inside);
      same = refl;
    }

pub leave_each-requires-clause-iterators : goal.leave_each-requires-clause-iterators
leave_each-requires-clause-iterators c =
    may-items c.args.forest.now c.args.node c.args.self.now.iterators c.loop-at.self.iterators c.loop-at.invariant.may c.requires.iterators

pub leave_from-requires-clause-iterators : goal.leave_from-requires-clause-iterators
leave_from-requires-clause-iterators c =
    may-items c.args.forest.now c.args.node c.args.self.now.iterators c.loop-at.self.iterators c.loop-at.invariant.may c.requires.iterators

pub following-at-requires-clause-key_is_node : goal.following-at-requires-clause-key_is_node
following-at-requires-clause-key_is_node c = (c.loop-at.invariant.stands c.in-Some.key c.in-Some.is).node

pub loop-at-preserved : goal.loop-at-preserved
loop-at-preserved c =
    let f = c.args.forest.now in
    let e = c.law_nodes_stand_once.ensures in
    let was = c.args.self.now.iterators in
    let mid = c.loop-at.self.iterators in
    let now = c.leave_from.new.self.iterators in
    let may = c.loop-at.invariant.may in
    let stands = c.loop-at.invariant.stands c.in-Some.key c.in-Some.is in
    let step = following_step f e.once e.only c.args.node c.in-Some.key c.following-at.result stands c.following-at.ensures.value c.following-at.ensures.node in
    record {
      stands = step.1;
      may = may-may f c.args.node was mid now may c.leave_from.ensures.may;
      ahead = λ k i there inside. elim (c.loop-at.invariant.ahead k i there inside) [
        | inr left ↦ inr (left-may f c.args.node was mid now c.leave_from.ensures.may k left)
        | inl from ↦
            elim (next-from f c.args.node c.following-at.result c.in-Some.is step.0 (name_at f.names i.reference) from) [
              | inr next ↦ inl next
              | inl same ↦ inr (elim (may k) [
                | inl left ↦ left-may f c.args.node was mid now c.leave_from.ensures.may k left
                | inr kept ↦ may-left f c.args.node was mid now may k
                    (subst (λ o. IsLeftIf f c.args.node o (slice_get now k)) (sym (kept ∙ there))
                    (c.leave_from.ensures.left k i (kept ∙ there)
                    (e.distinct i.reference c.in-Some.key (c.requires.iterators k i there).reference.node stands.node same)))
              ])
            ]
      ];
      same = c.leave_from.ensures.walkers ∙ c.loop-at.invariant.same;
    }

pub returns-clause-iterators : goal.returns-clause-iterators
returns-clause-iterators c =
    let f = c.args.forest.now in
    let e = c.law_nodes_stand_once.ensures in
    let was = c.args.self.now.iterators in
    let now = c.loop-at.self.iterators in
    let may = c.loop-at.invariant.may in
    all-left f c.args.node was now may
    (λ k i there.
    let x = name_at f.names i.reference in
    let all = inclusive_descendants f.trees (name_at f.names c.args.node) in
    elim (cases_Bool (is_in name_eq x all)) [
      | inl t ↦ elim (c.loop-at.invariant.ahead k i there (In-from x all t)) [
        | inr left ↦ left
        | inl from ↦ absurd (subst (λ o. from_key f c.args.node o x) c.in_default.is from)
      ]
      | inr t ↦ elim (may k) [
        | inl left ↦ left
        | inr kept ↦
            let outside = outside-test f.trees (name_at f.names c.args.node) x (Once-forest f e.once e.only) (In-not x all t) in
            subst (λ o. IsLeftIf f c.args.node o (slice_get now k)) (sym there)
            (subst (IsLeftIf f c.args.node (Some i)) (sym (kept ∙ there)) (left-outside f c.args.node i (c.requires.iterators k i there) outside))
      ]
    ])
