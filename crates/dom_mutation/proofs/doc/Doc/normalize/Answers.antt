use Rattle.dom_mutation.proofs.Cited.{◌≡◌, ℕ, List, NodeName, DocState, IsPart, filter, true, ◌&&◌, all-then, and_parts, needs_normalizing, normalizing-needed}
use Rattle.dom_mutation.proofs.Cited.{part_of, world_after, map, ap, ◌∙◌, in_turn, normalizing, normalizing_text, is_text, kind_of, descendants}
use Rattle.dom_mutation.specs.Definitions.{made, name_in, owner_in, trees_in, planned}
use Rattle.dom_mutation.proofs.NormalizedEach.{listed_texts}
use Rattle.dom_mutation.proofs.ReadyCalls.{planned-done}
use Rattle.dom_mutation.proofs.ReadyPlans.{ready-normalizing}
use Rattle.dom_mutation.proofs.doc.Doc.normalize.Goals as goal

-- the plan of the Texts that need it is that of all
normalized : (b e : DocState) (k : ℕ) → IsPart (part_of b.world (owner_in b k)) → {texts : List NodeName}
    → texts ≡ filter (λ y. is_text (kind_of (trees_in b k) y) && needs_normalizing (trees_in b k) y) (descendants (trees_in b k) (name_in b k))
    → e ≡ planned (owner_in b k) (in_turn normalizing_text texts) b → e ≡ planned (owner_in b k) (normalizing (name_in b k)) b
normalized b e k part are done = done ∙ ap (λ xs. planned (owner_in b k) (in_turn normalizing_text xs) b) are
    ∙ ap (λ steps. record b { world = world_after (owner_in b k) b.world steps }) (normalizing-needed (name_in b k) (part_of b.world (owner_in b k)) part)

pub normalize_each-requires-clause-are_texts : goal.normalize_each-requires-clause-are_texts
normalize_each-requires-clause-are_texts c =
    let b = c.self.inside.parts in
    all-then (λ k. (is_text (kind_of (trees_in b c.args.node) (name_in b k)) && needs_normalizing (trees_in b c.args.node) (name_in b k)) ≡ true)
    (λ k. is_text (kind_of (trees_in b c.args.node) (name_in b k)) ≡ true)
    (λ k e. (and_parts (is_text (kind_of (trees_in b c.args.node) (name_in b k))) (needs_normalizing (trees_in b c.args.node) (name_in b k)) e).0)
    c.as_slice.result.now
    (listed_texts (name_in b) (λ y. is_text (kind_of (trees_in b c.args.node) y) && needs_normalizing (trees_in b c.args.node) y)
    (descendants (trees_in b c.args.node) (name_in b c.args.node)) c.as_slice.result.now
    (ap (map (name_in b)) c.as_slice.ensures ∙ c.in_ok-texts.ensures.names))

pub normalize_each-requires-clause-bounds : goal.normalize_each-requires-clause-bounds
normalize_each-requires-clause-bounds c = (c.self.invariant _).bounds

pub invariant_of-self : goal.invariant_of-self
invariant_of-self c =
    let b = c.self.inside.parts in
    let d = c.args.self.now in
    planned-done b d c.normalize_each.new.parts c.self.view_is
    (record { alone = c.laws.ensures.alone; parts = c.laws.ensures.parts; stand = c.laws.ensures.stand }) c.args.node
    c.requires.node_is_node (λ a. normalizing (name_in a c.args.node)) (λ l i r. ready-normalizing _ i r (name_in d c.args.node))
    (normalized b c.normalize_each.new.parts c.args.node (c.laws.ensures.parts _)
    (ap (map (name_in b)) c.as_slice.ensures ∙ c.in_ok-texts.ensures.names) c.in-Ok.ensures) c.self.invariant

pub returns-in-Ok-clause-world : goal.returns-in-Ok-clause-world
returns-in-Ok-clause-world c =
    let b = c.self.inside.parts in
    ap (λ d. d.world) (normalized b c.normalize_each.new.parts c.args.node (c.laws.ensures.parts _)
    (ap (map (name_in b)) c.as_slice.ensures ∙ c.in_ok-texts.ensures.names) c.in-Ok.ensures)
    ∙ ap (λ d. made (owner_in d c.args.node) (normalizing (name_in d c.args.node)) d.world) c.self.view_is
