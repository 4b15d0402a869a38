-- The lines of a notification are those of the records that each pending observer is given.
use Rattle.dom_query_commands.proofs.Cited.{Vec, flat_map, map, ◌≡◌, ℕ, List, [], ◌∷◌, ◌++◌, sym, ap, ◌∙◌, refl, NodeName, Owner, Output, Change, says}
use Rattle.dom_query_commands.proofs.Cited.{recorded, queue_of, notified_lines, World, part_of, owner-part_of, DocState, change_in, notice_in, notices_of}
use Rattle.dom_query_commands.proofs.Cited.{record_lines, notice_lines, records_of, not, length, is_empty}
use Rattle.dom_base.proofs.Std.{◌==◌, arith, ne_eqb}
use Rattle.dom_observers.specs.declared.change.Change.{Change as KeyedChange}

lines_mapped : {X Y Z : Type 0} (f : Y → List Z) (g : X → Y) (xs : List X) → flat_map f (map g xs) ≡ flat_map (λ x. f (g x)) xs
lines_mapped f g [] = refl
lines_mapped f g (x ∷ xs) = ap (λ zs. f (g x) ++ zs) (lines_mapped f g xs)

lines_same : {X Y : Type 0} (f g : X → List Y) → ((x : X) → f x ≡ g x) → (xs : List X) → flat_map f xs ≡ flat_map g xs
lines_same f g same [] = refl
lines_same f g same (x ∷ xs) = ap (λ ys. ys ++ flat_map f xs) (same x) ∙ ap (λ ys. g x ++ ys) (lines_same f g same xs)

-- the lines of what each observer is told
told_lines : Owner → ℕ × List (Change NodeName) → List Output
told_lines o n = map (λ c. says o (recorded n.0 c)) n.1

pub map_twice : {X Y Z : Type 0} (g : X → Y) (h : Y → Z) (xs : List X) → map h (map g xs) ≡ map (λ x. h (g x)) xs
map_twice g h [] = refl
map_twice g h (x ∷ xs) = ap (λ zs. h (g x) ∷ zs) (map_twice g h xs)

-- are those of the notification
pub notice_lines_are : {Z : Type 0} (d : DocState) (w : World) (o : Owner) (list : List (ℕ × Vec KeyedChange Z)) →
    map (notice_in d) list ≡ notices_of (part_of w o) → notice_lines d.names o list ≡ notified_lines (part_of w o)
unfolding told_lines
notice_lines_are {Z} d w o list is =
    lines_same (λ (n : ℕ × Vec KeyedChange Z). record_lines d.names o n.0 n.1.items) (λ (n : ℕ × Vec KeyedChange Z). told_lines o (notice_in d n))
    (λ n. sym (map_twice (change_in d) (λ c. says o (recorded n.0 c)) n.1.items)) list
    ∙ sym (lines_mapped (told_lines o) (notice_in d) list) ∙ ap (flat_map (told_lines o)) is
    ∙ lines_mapped (told_lines o) (λ k. (k, queue_of (part_of w o).record_queues k)) (part_of w o).pending
    ∙ ap (λ q. flat_map (λ k. map (λ c. says q (recorded k c)) (queue_of (part_of w o).record_queues k)) (part_of w o).pending) (sym (owner-part_of w o))

-- the lines of what one observer is told are those of its records
pub record_lines_are : (d : DocState) (w : World) (o : Owner) (k : ℕ) (rs : List KeyedChange) →
    map (change_in d) rs ≡ queue_of (part_of w o).record_queues k → record_lines d.names o k rs ≡ records_of (part_of w o) k
record_lines_are d w o k rs is =
    sym (map_twice (change_in d) (λ c. says o (recorded k c)) rs) ∙ ap (map (λ c. says o (recorded k c))) is
    ∙ ap (λ q. map (λ c. says q (recorded k c)) (queue_of (part_of w o).record_queues k)) (sym (owner-part_of w o))

-- it is told something where it has records
pub any_told : (d : DocState) (rs : List KeyedChange) {queue : List (Change NodeName)} → map (change_in d) rs ≡ queue →
    not (length rs == 0) ≡ not (is_empty queue)
any_told d [] is = ap (λ (q : List (Change NodeName)). not (is_empty q)) is
any_told d (r ∷ rs) is =
    ap not (ne_eqb (length (r ∷ rs)) 0 (λ e. omega (arith, e))) ∙ ap (λ (q : List (Change NodeName)). not (is_empty q)) is
