use Rattle.dom_mutation.proofs.Cited.{List, ℕ, [], ◌∷◌, ◌++◌, if◌then◌else◌, needs_normalizing, subst, sym, ap, ◌∙◌, is_text, kind_of, name_at}
use Rattle.dom_tree.specs.Definitions.{NamedTrees}
use Rattle.node_arena.specs.Spots.{key_in}
use Rattle.dom_mutation.proofs.Joined.{Gathers, found_own, gathers_first, gathers_fewer, gathers_other, gathers_text, near_own, needs_own, stands_own, text_own}
use Rattle.dom_mutation.proofs.normalizing.texts_in.Goals.{then-is_text_at+in_ok-list_needed, else-is_text_at}
use Rattle.dom_mutation.proofs.normalizing.texts_in.Goals as goal

pub following-at-requires-clause-within : goal.following-at-requires-clause-within
following-at-requires-clause-within c =
    rw c.at.ensures (stands_own c.args.parts.now c.args.forest.now c.requires.names c.requires.trees c.requires.owned c.args.top
    (c.laws.ensures.stand c.args.top c.requires.top_is_node))

pub loop-at-init : goal.loop-at-init
loop-at-init c =
    let d = c.args.parts.now in
    let f = c.args.forest.now in
    let e = rw c.at.ensures at c.following-at.ensures in
    let next = key_in c.following-at.result in
    record {
      same = e.same;
      within = e.within;
      gathers = subst (λ (ks : List ℕ). Gathers d c.args.top ks next) (sym c.new-keys.ensures.items)
          (gathers_first c.laws.ensures.once (c.laws.ensures.stand c.args.top c.requires.top_is_node)
          (found_own d f c.requires.names c.requires.trees c.requires.owned c.args.top c.args.top next e.value)
          (near_own d f c.requires.names c.requires.trees c.requires.owned c.args.top next e.node e.within));
    }

pub following-at-requires-in-Some-clause-top_is_node : goal.following-at-requires-in-Some-clause-top_is_node
following-at-requires-in-Some-clause-top_is_node c = rw (c.loop-at.invariant.same c.in-Some.node c.in-Some.is) (rw c.requires.names c.requires.top_is_node)

pub following-at-requires-in-Some-clause-within : goal.following-at-requires-in-Some-clause-within
following-at-requires-in-Some-clause-within c =
    rw (c.loop-at.invariant.same c.in-Some.node c.in-Some.is) (c.loop-at.invariant.within c.in-Some.node.key (ap key_in c.in-Some.is))

pub loop-at-smaller : goal.loop-at-smaller
loop-at-smaller c =
    let d = c.args.parts.now in
    let f = c.args.forest.now in
    let e = rw (c.loop-at.invariant.same c.in-Some.node c.in-Some.is) at c.following-at-in-Some.ensures in
    let next = key_in c.following-at-in-Some.result in
    gathers_fewer d c.laws.ensures.once c.args.top c.loop-at.keys.items (key_in c.loop-at.at) next c.in-Some.node.key
    (ap key_in c.in-Some.is) c.loop-at.invariant.gathers
    (found_own d f c.requires.names c.requires.trees c.requires.owned c.args.top c.in-Some.node.key next e.value)
    (near_own d f c.requires.names c.requires.trees c.requires.owned c.args.top next e.node e.within)

pub loop-at-preserved : goal.loop-at-preserved
loop-at-preserved c =
    let d = c.args.parts.now in
    let f = c.args.forest.now in
    let k = c.in-Some.node.key in
    let same = c.loop-at.invariant.same c.in-Some.node c.in-Some.is in
    let e = rw same at c.following-at-in-Some.ensures in
    let kind = c.is_text_at.ensures ∙ ap (λ (g : NamedTrees). is_text (kind_of g.trees (name_at g.names k))) same ∙
    text_own d f c.requires.names c.requires.trees c.requires.owned c.args.top k in
    let next = key_in c.following-at-in-Some.result in
    let found = found_own d f c.requires.names c.requires.trees c.requires.owned c.args.top k next e.value in
    let near = near_own d f c.requires.names c.requires.trees c.requires.owned c.args.top next e.node e.within in
    record {
      same = e.same;
      within = e.within;
      gathers = elim c.if-is_text_at.branch [
        | then-is_text_at+in_ok-list_needed w ↦
            gathers_text d c.laws.ensures.once c.args.top c.loop-at.keys.items (key_in c.loop-at.at) next k
            (ap key_in c.in-Some.is) c.loop-at.invariant.gathers found near (sym w.if-is_text_at.true ∙ kind)
            (ap (λ v. v.items) w.keys-is ∙ w.in_ok-list_needed.ensures ∙
            ap (λ (g : NamedTrees). c.loop-at.keys.items ++ (if needs_normalizing g.trees (name_at g.names k) then k ∷ [] else [])) same ∙
            ap (λ b. c.loop-at.keys.items ++ (if b then k ∷ [] else [])) (needs_own d f c.requires.names c.requires.trees c.requires.owned c.args.top k))
        | else-is_text_at w ↦
            subst (λ (ks : List ℕ). Gathers d c.args.top ks next) (sym (ap (λ v. v.items) w.keys-is))
            (gathers_other d c.laws.ensures.once c.args.top c.loop-at.keys.items (key_in c.loop-at.at) next k
            (ap key_in c.in-Some.is) c.loop-at.invariant.gathers found near (sym w.if-is_text_at.false ∙ kind))
      ];
    }

pub returns-clause-names : goal.returns-clause-names
returns-clause-names c = rw c.in_default.is at c.loop-at.invariant.gathers.listed

pub returns-clause-nodes : goal.returns-clause-nodes
returns-clause-nodes c = c.loop-at.invariant.gathers.nodes
