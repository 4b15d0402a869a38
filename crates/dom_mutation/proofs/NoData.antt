-- Where code units of a node that is no Text or Comment are to go, its children stay, and live ranges past them fall back: their ends are
-- within their nodes still.
use Rattle.dom_mutation.proofs.Cited.{◌≡◌, ℕ, ◌+◌, ◌-◌, false, not, ◌||◌, List, [], ◌∷◌, map, length, Option, Some, None, option_map, refl, sym, ap, ◌∙◌, arith}
use Rattle.dom_mutation.proofs.Cited.{true≢false, if◌then◌else◌, nat_le, min, AllByRecursion, cond-false, or_parts, not-false, leb-false, NodeName, name_eq}
use Rattle.dom_mutation.proofs.Cited.{character_data, Part, Boundary, Range, at, map_ends, after_replace_data, queue_record, replace_data, part_step, after}
use Rattle.dom_mutation.proofs.Cited.{replacing_data, Trees, Node, times_in, node_in, kind_of, has_data, length_of, map_nodes, with_data_replaced, name_eq-true}
use Rattle.dom_mutation.proofs.Cited.{HasBounds, IsPart, kids-absent, kids-map_nodes, node-map_nodes, length-kids, length-absent, times-map_nodes, name-node_in}
use Rattle.dom_mutation.proofs.Cited.{KeepsNames, some-keeps, leads-replacing_data, by_cases, which_way, Once, by_times}
use Rattle.dom_worlds.proofs.RangeLemmas.{Under, RangeUnder, reach, nowhere, HasRoom, length-like, ranges-more, room-of, bounds-of}

-- ends that fall back
module _ (c : NodeName → ℕ) (x : NodeName) (offset count : ℕ) where
  abbrev back : Boundary NodeName → Boundary NodeName
  back = after_replace_data name_eq x offset count 0

  under-back : (b : Boundary NodeName) → Under c b → Under c (back b)
  under-back b u =
      which_way (Under c) (not (name_eq b.node x) || nat_le b.offset offset) b
      (if nat_le b.offset (offset + count) then at x offset else at x (b.offset + 0 - count)) (λ t. u)
      (λ t. let both = or_parts (not (name_eq b.node x)) (nat_le b.offset offset) t in
      let same = ap c (name_eq-true b.node x (not-false (name_eq b.node x) both.0)) in
      let high = leb-false b.offset offset both.1 in
      which_way (Under c) (nat_le b.offset (offset + count)) (at x offset) (at x (b.offset + 0 - count)) (λ k. omega arith) (λ k. omega arith))

  ranges-back : (rs : List (Option (Range NodeName))) → AllByRecursion (RangeUnder c) rs → AllByRecursion (RangeUnder c) (map (option_map (map_ends back)) rs)
  ranges-back [] h = tt
  ranges-back (None ∷ rs) h = (tt, ranges-back rs h.1)
  ranges-back (Some r ∷ rs) h = ((under-back r.start h.0.0, under-back r.end h.0.1), ranges-back rs h.1)

-- a node that holds no data
module _ (p : Part) (i : IsPart p) (x : NodeName) (offset count : ℕ) (none : has_data (kind_of p.trees x) ≡ false) where
  abbrev change : Node → Node
  change n = if name_eq n.name x then with_data_replaced offset count [] n else n

  abbrev now : Trees
  now = map_nodes change p.trees

  kept : KeepsNames change
  kept = some-keeps (λ (n : Node). name_eq n.name x) (with_data_replaced offset count []) (λ n. (refl, refl))

  once : Once now
  once y = let o = i.unique y in let s = times-map_nodes change (λ n. (kept n).0) p.trees y in omega arith

  -- its length, and all others, stay
  as-long : (y : NodeName) → length_of now y ≡ length_of p.trees y
  as-long y =
      by_times (times_in p.trees y)
      (λ a. length-absent now y once (times-map_nodes change (λ n. (kept n).0) p.trees y ∙ a) ∙ sym (length-absent p.trees y i.unique a))
      (λ t. let same = node-map_nodes change (λ n. (kept n).0) p.trees y t in
      let kind = ap (λ (n : Node). n.kind) same ∙ (kept (node_in p.trees y)).1 in
      by_cases (has_data (kind_of p.trees y))
      (λ e. let apart : name_eq y x ≡ false = by_cases (name_eq y x)
      (λ s. absurd (true≢false (sym e ∙ (ap (λ z. has_data (kind_of p.trees z)) (name_eq-true y x s) ∙ none)))) (λ s. s) in
      let other : node_in now y ≡ node_in p.trees y =
      same ∙ cond-false (name_eq (node_in p.trees y).name x) (with_data_replaced offset count [] (node_in p.trees y)) (node_in p.trees y)
      (ap (λ z. name_eq z x) (name-node_in p.trees y) ∙ apart) in
      length-like p.trees now y i.unique once
      (record { kind = kind; text = ap (λ (n : Node). n.text) other; count = kids-map_nodes change (λ n. (kept n).0) p.trees y }))
      (λ e. length-kids now y once (ap has_data kind ∙ e) ∙ (kids-map_nodes change (λ n. (kept n).0) p.trees y ∙ sym (length-kids p.trees y i.unique e))))

  room-back : HasRoom nowhere p → HasRoom nowhere (part_step p (replace_data x offset count []))
  room-back h = record {
    bounds = ranges-back (λ y. length_of now y + 0) x offset count p.ranges
        (ranges-more (reach nowhere p) (λ y. length_of now y + 0) (λ y. let l = as-long y in omega arith) p.ranges h.bounds);
    leaves = λ y g. by_times (times_in p.trees y)
        (λ a. kids-map_nodes change (λ n. (kept n).0) p.trees y ∙ kids-absent p.trees y a)
        (λ t. kids-map_nodes change (λ n. (kept n).0) p.trees y ∙ h.leaves y
        (sym (ap has_data (ap (λ (n : Node). n.kind) (node-map_nodes change (λ n. (kept n).0) p.trees y t) ∙ (kept (node_in p.trees y)).1)) ∙ g));
  }

-- the plan by which they go
module _ (p : Part) (i : IsPart p) (x : NodeName) where
  pub no_data-keeps : (offset count : ℕ) → has_data (kind_of p.trees x) ≡ false → HasBounds p → HasBounds (after p (replacing_data x offset count [] p))
  no_data-keeps offset count none h =
      let told = queue_record (character_data x (Some (node_in p.trees x).text)) in
      let l = leads-replacing_data x offset count [] p i in
      bounds-of (after p (replacing_data x offset count [] p)) l.changed.part
      (room-back (part_step p told) (record { unique = i.unique; owned = i.owned; numbered = i.numbered }) x offset
      (min count (length (node_in p.trees x).text - offset)) none
      (record { bounds = (room-of p i h).bounds; leaves = (room-of p i h).leaves }))
