use Rattle.dom_ranges.proofs.Cited.{◌≡◌, ℕ, get_or, subst, ◌∙◌, nat_eq, Boundary, after_removal, index_of, name_at, after_closing, after_leaving, is_inside}
use Rattle.dom_ranges.proofs.Cited.{IsUpTo, point_of}
use Rattle.dom_ranges.proofs.Leaving.{Moves, OfEach, moves-alike, moves-none, moves-twice, each-listed, removal-outside, removal-twice, closing-none}
use Rattle.dom_ranges.proofs.removing.move_out.Goals as goal

pub returns-in-Some-clause-moved : goal.returns-in-Some-clause-moved
returns-in-Some-clause-moved c =
    let f = c.args.forest.now in
    let inside = is_inside f c.args.node in
    let index = index_of f.trees (name_at f.names c.args.node) in
    moves-alike (after_closing c.args.parent index) (after_removal nat_eq inside c.args.parent index) c.args.live.now c.close.new.live
    (subst (λ (i : ℕ). Moves (after_closing c.args.parent i) c.args.live.now c.close.new.live)
    (c.index_before_ends.ensures.index c.in-Some.index c.in-Some.is) c.close.ensures.moved)
    (each-listed (λ b. after_removal nat_eq inside c.args.parent index b ≡ after_closing c.args.parent index b) c.args.live.now c.args.ends.now
    c.requires.listed
    (λ k d l. removal-outside inside c.args.parent index (point_of (get_or c.args.ends.now k d))
    (c.part_inside-inside.ensures.all k d l (c.is_empty.ensures c.if-is_empty.true k))))

pub returns-in_default-clause-moved : goal.returns-in_default-clause-moved
returns-in_default-clause-moved c =
    let f = c.args.forest.now in
    let inside = is_inside f c.args.node in
    let index = index_of f.trees (name_at f.names c.args.node) in
    let outside : OfEach (λ b. after_removal nat_eq inside c.args.parent index b ≡ after_closing c.args.parent index b) c.args.live.now =
    each-listed (λ b. after_removal nat_eq inside c.args.parent index b ≡ after_closing c.args.parent index b) c.args.live.now c.args.ends.now c.requires.listed
    (λ k d l. removal-outside inside c.args.parent index (point_of (get_or c.args.ends.now k d))
    (c.part_inside-inside.ensures.all k d l (c.is_empty.ensures c.if-is_empty.true k))) in
    let up_to : OfEach (IsUpTo c.args.parent index) c.args.live.now =
    each-listed (IsUpTo c.args.parent index) c.args.live.now c.args.ends.now c.requires.listed (c.index_before_ends.ensures.none c.in_default.is) in
    moves-none (after_removal nat_eq inside c.args.parent index) c.args.live.now
    (λ slot p e.
    let a = outside slot p e in
    let b = up_to slot p e in
    (a.0 ∙ closing-none c.args.parent index _ b.0, a.1 ∙ closing-none c.args.parent index _ b.1))

pub returns-clause-moved : goal.returns-clause-moved
returns-clause-moved c =
    let f = c.args.forest.now in
    let inside = is_inside f c.args.node in
    let index = c.index-index.result in
    let Twice : ℕ → Boundary ℕ → Type 0 = λ i b.
    after_removal nat_eq inside c.args.parent i b ≡ after_closing c.args.parent index (after_leaving inside c.args.parent index b) in
    moves-twice (after_leaving inside c.args.parent index) (after_closing c.args.parent index) c.args.live.now
    (after_removal nat_eq inside c.args.parent (index_of f.trees (name_at f.names c.args.node))) c.move_ends.new.live c.close-2.new.live
    c.move_ends.ensures.moved c.close-2.ensures.moved
    (λ b. subst (λ (i : ℕ). Twice i b) c.index-index.ensures (removal-twice inside c.args.parent index b))
