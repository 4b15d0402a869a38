use Rattle.dom_base.proofs.Std.{◌≡◌, ℕ, ◌&&◌, ◌==◌, not, [], ◌∷◌, List, length, map, refl, sym, ap, ◌∙◌, suc, arith, ne_eqb, is_some, vec_len}
use Rattle.dom_model.proofs.Model.{NodeName, is_empty, is_slot_element, node_in, root_of}
use Rattle.dom_tree.specs.Definitions.{name_at}
use Rattle.dom_slots.specs.Definitions.{host_named, shadows, assigned_at}
use Rattle.dom_slots.proofs.Choices.{all-three, second-fails}
use Rattle.dom_slots.proofs.Hosted.{is_some-named, host-found}
use Rattle.dom_slots.proofs.slots.Slots.is_bare.Goals as goal
use Rattle.dom_slots.proofs.slots.Slots.is_bare.Goals.{then-not-is_slot-via-then-not-is_slot, then-not-is_slot-via-else-not-is_slot+then-is_none}

-- a list without items has no names
is_empty-named : (names : List NodeName) (ks : List ℕ) → (length ks == 0) ≡ is_empty (map (name_at names) ks)
is_empty-named names [] = refl
is_empty-named names (k ∷ ks) = ne_eqb (suc (length ks)) 0 (λ e. omega arith)

pub returns-then-not-is_slot : goal.returns-then-not-is_slot
returns-then-not-is_slot c =
    let f = c.args.forest.now in
    let hosts = c.args.self.now.hosts in
    let y = name_at f.names c.args.key in
    let hosted = is_some (host_named f.names hosts (root_of f.trees y)) in
    let rest = is_empty (assigned_at (shadows f hosts) y) in
    elim c.then-not-is_slot.branch [
      | then-not-is_slot-via-then-not-is_slot w ↦ ap (λ b. b && (hosted && rest)) w.if-not-is_slot.ensures
      | then-not-is_slot-via-else-not-is_slot+then-is_none w ↦
          let found = host-found f.names c.law_nodes_stand_once.ensures.distinct hosts c.requires.hosts w.host_of.ensures w.root.ensures.node
          w.root.ensures.value in
          second-fails (is_slot_element (node_in f.trees y)) hosted rest
          (sym (ap is_some found) ∙ (sym (is_some-named (name_at f.names) w.host_of.result) ∙ (w.is_none.ensures ∙ ap not w.if-is_none.true)))
    ]

pub returns : goal.returns
returns c =
    let f = c.args.forest.now in
    let hosts = c.args.self.now.hosts in
    let y = name_at f.names c.args.key in
    let hosted = is_some (host_named f.names hosts (root_of f.trees y)) in
    let rest = is_empty (assigned_at (shadows f hosts) y) in
    let found = host-found f.names c.law_nodes_stand_once.ensures.distinct hosts c.requires.hosts c.host_of.ensures c.root.ensures.node
    c.root.ensures.value in
    let long : vec_len c.in_ok-list.list ≡ length c.in_ok-list.list.items = omega (arith, c.in_ok-list.list.ok) in
    c.is_empty.ensures ∙ (ap (λ n. n == 0) long ∙ (is_empty-named f.names c.in_ok-list.list.items ∙ (ap is_empty c.in_ok-list.ensures.value
    ∙ all-three (is_slot_element (node_in f.trees y)) hosted rest (sym c.if-not-is_slot.ensures)
    (sym (ap is_some found) ∙ (sym (is_some-named (name_at f.names) c.host_of.result) ∙ (c.is_none.ensures ∙ ap not c.if-is_none.false))))))
