-- The rows of trees, taken along the steps of their text.
use Rattle.dom_query_commands.proofs.Cited.{◌≡◌, ℕ, ◌+◌, ◌-◌, ◌<◌, ◌++◌, ◌∷◌, [], List, length, take, suc, refl, sym, ap, subst, ◌∙◌, arith, append-nil}
use Rattle.dom_query_commands.proofs.Cited.{append_assoc, append_cancel_right, length-append, slice_get, Option, Some, None, same_Some, option_map, true}
use Rattle.dom_query_commands.proofs.Cited.{ForSome, NodeName, Node, Kind, Trees, none, tree, nodes, subtree, TreeStep, opens, closes, shown, shown_as}
use Rattle.dom_query_commands.proofs.Cited.{shown_steps, name_at, Place, StandOnce, StandAlone}
use Rattle.dom_query_commands.proofs.Places.{rest_behind, rest_or, is_within_if, turn, within_self}
use Rattle.dom_query_commands.proofs.UniqueNames.{named}
use Rattle.dom_query_commands.specs.Looks.{OpenRows, opened, with_step, row_of, rows_below, structure_of}
use Rattle.dom_query_commands.specs.TreeText.{key_of, place_view, place_after, step_at}
use Rattle.dom_query_commands.specs.declared.structure.StructureRow.{StructureRow}
use Rattle.dom_query_commands.specs.declared.tree_text.Place.TheVariants.{Opening}
use Rattle.dom_base.specs.declared.Kind.TheVariants as kinds
use Rattle.std.proofs.Math.Seq.{take-append_seam}

-- the place of the last one
abbrev last_place : List ℕ → Option ℕ
last_place places = slice_get places (length places - 1)

-- a node has begun, with its row and the place of that row
pub begun : {more : List StructureRow} {deeper : List ℕ} {row : StructureRow} {k : ℕ} (s : OpenRows) (n : Node) → more ≡ s.rows ++ row ∷ [] →
    deeper ≡ s.open_places ++ k ∷ [] → row ≡ row_of (last_place s.open_places) (shown n) → k ≡ length s.rows →
    opened more deeper ≡ with_step s (opens (shown n))
begun {more = more} {deeper = deeper} {row = row} {k = k} s n pushed placed row_is place_is =
    let row_shown = row_of (last_place s.open_places) (shown n) in
    ap (λ rs. opened rs deeper) pushed
    ∙ (ap (λ r. opened (s.rows ++ r ∷ []) deeper) row_is
    ∙ (ap (opened (s.rows ++ row_shown ∷ [])) placed
    ∙ ap (λ i. opened (s.rows ++ row_shown ∷ []) (s.open_places ++ i ∷ [])) place_is))

-- steps, one after another
abbrev pub with_steps : OpenRows → List TreeStep → OpenRows
with_steps s [] = s
with_steps s (x ∷ xs) = with_steps (with_step s x) xs

with_steps-append : (s : OpenRows) (xs ys : List TreeStep) → with_steps s (xs ++ ys) ≡ with_steps (with_steps s xs) ys
with_steps-append s [] ys = refl
with_steps-append s (x ∷ xs) ys = with_steps-append (with_step s x) xs ys

-- a node has the row of what is shown of it
row-shown : (parent : Option ℕ) (n : Node) → row_of parent (shown n) ≡ row_of parent n
row-shown parent n = by n.kind refl
  where
    by : (k : Kind) → k ≡ n.kind → row_of parent (shown_as k n) ≡ row_of parent n
    by kinds.Document e = ap (λ (k : Kind). record { node = n.name; kind = k; parent = parent }) e
    by kinds.Fragment e = ap (λ (k : Kind). record { node = n.name; kind = k; parent = parent }) e
    by kinds.Shadow e = ap (λ (k : Kind). record { node = n.name; kind = k; parent = parent }) e
    by kinds.Element e = ap (λ (k : Kind). record { node = n.name; kind = k; parent = parent }) e
    by kinds.Text e = ap (λ (k : Kind). record { node = n.name; kind = k; parent = parent }) e
    by kinds.Comment e = ap (λ (k : Kind). record { node = n.name; kind = k; parent = parent }) e

-- the row of a node with this name, kind and parent's place
abbrev row_with : NodeName → Kind → Option ℕ → StructureRow
row_with x kind parent = record { node = x; kind = kind; parent = parent }

pub row_begun : {x : NodeName} {kind : Kind} {parent top : Option ℕ} (n : Node) → x ≡ n.name → kind ≡ n.kind → parent ≡ top →
    row_with x kind parent ≡ row_of top (shown n)
row_begun {top = top} n name kind parent = (λ j. row_with (name j) (kind j) (parent j)) ∙ sym (row-shown top n)

-- there is a row for each node
rows-length : (parent : Option ℕ) (at : ℕ) (ts : Trees) → length (rows_below parent at ts) ≡ length (nodes ts)
rows-length parent at none = refl
rows-length parent at (tree n c r) =
    ap suc
    (length-append (rows_below (Some at) (at + 1) c) (rows_below parent (at + 1 + length (nodes c)) r)
    ∙ (ap (λ k. k + length (rows_below parent (at + 1 + length (nodes c)) r)) (rows-length (Some at) (at + 1) c)
    ∙ ap (λ k. length (nodes c) + k) (rows-length parent (at + 1 + length (nodes c)) r)
    ∙ sym (length-append (nodes c) (nodes r))))

-- the last of a list
length-more : {X : Type 0} (xs : List X) (x : X) → length (xs ++ x ∷ []) ≡ length xs + 1
length-more xs x = length-append xs (x ∷ [])

before-last : {X : Type 0} (xs : List X) (x : X) → length (xs ++ x ∷ []) - 1 ≡ length xs
before-last xs x = omega (arith, length-more xs x)

slice_get-last : {X : Type 0} (xs : List X) (x : X) → slice_get (xs ++ x ∷ []) (length xs) ≡ Some x
slice_get-last [] x = refl
slice_get-last (y ∷ xs) x = slice_get-last xs x

last-more : (places : List ℕ) (k : ℕ) → last_place (places ++ k ∷ []) ≡ Some k
last-more places k = ap (slice_get (places ++ k ∷ [])) (before-last places k) ∙ slice_get-last places k

taken-back : (places : List ℕ) (k : ℕ) → take (length (places ++ k ∷ []) - 1) (places ++ k ∷ []) ≡ places
taken-back places k = ap (λ i. take i (places ++ k ∷ [])) (before-last places k) ∙ take-append_seam places (k ∷ [])

-- the rows after those of a tree's root and of the trees below it
rows-first : (rows below others : List StructureRow) (row : StructureRow) → ((rows ++ row ∷ []) ++ below) ++ others ≡ rows ++ row ∷ (below ++ others)
rows-first rows below others row = simp append_assoc

-- how many these are
rows-so_far : (rows : List StructureRow) (row : StructureRow) (parent : Option ℕ) (c : Trees) →
    length ((rows ++ row ∷ []) ++ rows_below parent (length rows + 1) c) ≡ length rows + 1 + length (nodes c)
rows-so_far rows row parent c =
    length-append (rows ++ row ∷ []) (rows_below parent (length rows + 1) c)
    ∙ (ap (λ k. k + length (rows_below parent (length rows + 1) c)) (length-more rows row)
    ∙ ap (λ k. length rows + 1 + k) (rows-length parent (length rows + 1) c))

-- the steps of trees add their rows
rows-steps : (ts : Trees) (rows : List StructureRow) (places : List ℕ) →
    with_steps (opened rows places) (shown_steps ts) ≡ opened (rows ++ rows_below (last_place places) (length rows) ts) places
rows-steps none rows places = ap (λ rs. opened rs places) (sym (append-nil rows))
rows-steps (tree n c r) rows places =
    with_steps-append (opened (rows ++ row_of top (shown n) ∷ []) places_in) (shown_steps c) (closes ∷ shown_steps r)
    ∙ (ap (λ row. with_steps (with_steps (opened (rows ++ row ∷ []) places_in) (shown_steps c)) (closes ∷ shown_steps r)) (row-shown top n)
    ∙ (ap (λ s. with_steps s (closes ∷ shown_steps r)) (rows-steps c rows_in places_in)
    ∙ (ap (λ o. with_steps (opened (rows_in ++ rows_below o (length rows_in) c) places_in) (closes ∷ shown_steps r)) (last-more places (length rows))
    ∙ (ap (λ k. with_steps (opened (rows_in ++ rows_below (Some (length rows)) k c) places_in) (closes ∷ shown_steps r)) (length-more rows (row_of top n))
    ∙ (ap (λ ps. with_steps (opened (rows_in ++ below) ps) (shown_steps r)) (taken-back places (length rows))
    ∙ (rows-steps r (rows_in ++ below) places
    ∙ (ap (λ k. opened ((rows_in ++ below) ++ rows_below top k r) places) (rows-so_far rows (row_of top n) (Some (length rows)) c)
    ∙ ap (λ rs. opened rs places) (rows-first rows below (rows_below top (length rows + 1 + length (nodes c)) r) (row_of top n)))))))))
  where
    top : Option ℕ
    top = last_place places

    places_in : List ℕ
    places_in = places ++ length rows ∷ []

    rows_in : List StructureRow
    rows_in = rows ++ row_of top n ∷ []

    below : List StructureRow
    below = rows_below (Some (length rows)) (length rows + 1) c

-- A walk along the text of a node's tree: the place, if the tree has not ended, and the rows so far.
pub record IsUnderWay (names : List NodeName) (ts : Trees) (top : ℕ) (place : Option Place) (rows : OpenRows) : Type 0 where
  pub node : ForSome place (λ at. key_of at < length names)
  pub within : is_within_if ts (name_at names top) (option_map (place_view names) place) ≡ true
  pub taken : List TreeStep
  pub so_far : taken ++ rest_or ts (name_at names top) (option_map (place_view names) place)
      ≡ shown_steps (subtree ts (name_at names top)) ++ rest_behind ts (name_at names top)
  pub read : rows ≡ with_steps (opened [] []) taken

-- Trees by the keys of their nodes, in which each name stands once.
module _ (names : List NodeName) (ts : Trees) (once : StandOnce (named names ts)) (keys : StandAlone (named names ts)) (top : ℕ) where
  -- it begins
  pub begins : top < length names → (rows : OpenRows) → rows ≡ opened [] [] → IsUnderWay names ts top (Some (Opening top)) rows
  begins inside rows is = record {
    node = λ at e. subst (λ p. key_of p < length names) (same_Some _ at e) inside;
    within = within_self names ts top once keys inside;
    taken = [];
    so_far = refl;
    read = is;
  }

  -- and goes on
  pub goes_on : {place next : Option Place} {at : Place} {rows more : OpenRows} → IsUnderWay names ts top place rows → place ≡ Some at →
      ForSome next (λ p. key_of p < length names) → option_map (place_view names) next ≡ place_after ts (name_at names top) (place_view names at) →
      more ≡ with_step rows (step_at ts (place_view names at)) →
      IsUnderWay names ts top next more × (length (rest_or ts (name_at names top) (option_map (place_view names) next))
      < length (rest_or ts (name_at names top) (option_map (place_view names) place)))
  goes_on {place = place} {next = next} {at = at} {rows = rows} {more = more} way is_at inside follows adds =
      let x = name_at names top in
      let step = step_at ts (place_view names at) in
      let next_turn = turn names ts x at place next step once keys (way.node at is_at) is_at way.within follows refl in (
        record {
          node = inside;
          within = next_turn.1;
          taken = way.taken ++ step ∷ [];
          so_far = append_assoc way.taken (step ∷ []) (rest_or ts x (option_map (place_view names) next))
              ∙ (ap (λ ys. way.taken ++ ys) (sym next_turn.0) ∙ way.so_far);
          read = adds ∙ (ap (λ s. with_step s step) way.read ∙ sym (with_steps-append (opened [] []) way.taken (step ∷ [])));
        },
        omega (arith, ap (length {A = TreeStep}) next_turn.0),
      )

  -- at its end the rows are those of the tree
  pub ended : {place : Option Place} {rows : OpenRows} → IsUnderWay names ts top place rows → place ≡ None → rows.rows ≡ structure_of ts (name_at names top)
  ended {place = place} {rows = rows} way is =
      let x = name_at names top in
      let all = append_cancel_right way.taken (shown_steps (subtree ts x)) (rest_behind ts x)
      (sym (ap (λ (p : Option Place). way.taken ++ rest_or ts x (option_map (place_view names) p)) is) ∙ way.so_far) in
      ap (λ (s : OpenRows). s.rows) (way.read ∙ (ap (with_steps (opened [] [])) all ∙ rows-steps (subtree ts x) [] []))
