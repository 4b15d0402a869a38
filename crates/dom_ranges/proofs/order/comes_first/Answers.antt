use Rattle.dom_ranges.proofs.Cited.{◌≡◌, ℕ, nat_lt, sym, ap, arith, eqb-true, lt-ltb, ltb-true, false_from_ne_true, index_of, NamedTrees, name_at}
use Rattle.dom_ranges.proofs.Siblings.{index-none, index-some}
use Rattle.dom_ranges.proofs.order.comes_first.Goals as goal

-- the index of a key's node
abbrev at : NamedTrees → ℕ → ℕ
at f k = index_of f.trees (name_at f.names k)

pub returns-in_default : goal.returns-in_default
returns-in_default c =
    let f = c.args.forest.now in
    let e = c.law_nodes_stand_once.ensures in
    let low = index-none f e.once e.only c.back.low c.back.invariant.low_is_node c.prev.result c.prev.ensures.value c.in_default.is in
    sym (lt-ltb (at f c.args.first) (at f c.args.second) (omega (arith, low, c.back.invariant.difference, c.requires.apart)))

pub returns-in_default-prev : goal.returns-in_default-prev
returns-in_default-prev c =
    let f = c.args.forest.now in
    let e = c.law_nodes_stand_once.ensures in
    let other = index-none f e.once e.only c.back.other c.back.invariant.other_is_node c.prev-in-back.result c.prev-in-back.ensures.value
    c.in_default-prev.is in
    sym (false_from_ne_true (nat_lt (at f c.args.first) (at f c.args.second))
    (λ l. omega (arith, other, c.back.invariant.difference, ltb-true (at f c.args.first) (at f c.args.second) l)))

pub returns-then-eq : goal.returns-then-eq
returns-then-eq c =
    let f = c.args.forest.now in
    let e = c.law_nodes_stand_once.ensures in
    let low = index-some f e.once e.only c.back.low c.back.invariant.low_is_node c.prev.result c.prev.ensures.value c.in-Some.before c.in-Some.is in
    let met : c.in-Some.before ≡ c.args.second = eqb-true c.in-Some.before c.args.second (sym c.if-eq.ensures) in
    let second : at f c.in-Some.before ≡ at f c.args.second = ap (at f) met in
    sym (false_from_ne_true (nat_lt (at f c.args.first) (at f c.args.second))
    (λ l. omega (arith, low, second, c.back.invariant.low_before, ltb-true (at f c.args.first) (at f c.args.second) l)))

pub returns-then-eq-2 : goal.returns-then-eq-2
returns-then-eq-2 c =
    let f = c.args.forest.now in
    let e = c.law_nodes_stand_once.ensures in
    let other = index-some f e.once e.only c.back.other c.back.invariant.other_is_node c.prev-in-back.result c.prev-in-back.ensures.value
    c.in-Some-prev.beside c.in-Some-prev.is in
    let met : c.in-Some-prev.beside ≡ c.args.first = eqb-true c.in-Some-prev.beside c.args.first (sym c.if-eq-2.ensures) in
    let first : at f c.in-Some-prev.beside ≡ at f c.args.first = ap (at f) met in
    sym (lt-ltb (at f c.args.first) (at f c.args.second) (omega (arith, other, first, c.back.invariant.difference, c.back.invariant.low_before)))

pub back-smaller : goal.back-smaller
back-smaller c =
    let e = c.law_nodes_stand_once.ensures in
    let low = index-some c.args.forest.now e.once e.only c.back.low c.back.invariant.low_is_node c.prev.result c.prev.ensures.value
    c.in-Some.before c.in-Some.is in
    omega (arith, low)

pub back-preserved : goal.back-preserved
back-preserved c =
    let f = c.args.forest.now in
    let e = c.law_nodes_stand_once.ensures in
    let low = index-some f e.once e.only c.back.low c.back.invariant.low_is_node c.prev.result c.prev.ensures.value c.in-Some.before c.in-Some.is in
    let other = index-some f e.once e.only c.back.other c.back.invariant.other_is_node c.prev-in-back.result c.prev-in-back.ensures.value
    c.in-Some-prev.beside c.in-Some-prev.is in
    record {
      low_is_node = c.prev.ensures.node c.in-Some.before c.in-Some.is;
      other_is_node = c.prev-in-back.ensures.node c.in-Some-prev.beside c.in-Some-prev.is;
      difference = omega (arith, low, other, c.back.invariant.difference);
      low_before = omega (arith, low, c.back.invariant.low_before);
    }
