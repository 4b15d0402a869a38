-- What every step leaves in all parts of the world, and so every plan; and what an attaching leaves.
use Rattle.dom_mutation.proofs.Cited.{◌≡◌, false, List, [], ◌∷◌, ◌++◌, length, Option, Some, None, refl, sym, subst, arith, unwrap_or, is_some, ⊤}
use Rattle.dom_mutation.proofs.Cited.{AllByRecursion, Shadow, NodeName, Owner, attaching, part_with_root, Part, empty_part, Step, part_step, node_in, World}
use Rattle.dom_mutation.proofs.Cited.{find_part, part_of, with_part, is_there, component_made, world_after, owner-part_of, owner-part_step, each-part, IsKeptIn}
use Rattle.dom_mutation.proofs.Cited.{holds-world_after}
use Rattle.dom_mutation.proofs.StillParts.{KeepsPart, keeps-same, keeps-then, keeps-step, tables-same}

-- all parts keep what they have
abbrev pub KeepsWorld : World → World → Type 0
KeepsWorld w v = (o : Owner) → KeepsPart (part_of w o) (part_of v o)

-- a part that is written
pub keeps-written : (w : World) (p : Part) (o : Owner) → p.owner ≡ o → KeepsPart (part_of w o) p → KeepsWorld w (with_part w p)
keeps-written w p o e h = each-part (λ q r. KeepsPart (part_of w q) r) w p o e h (λ q. keeps-same (part_of w q))

-- so does each step in a part, whose owner stays
kept-rules : (w : World) → IsKeptIn (λ (r : Part). KeepsPart (part_of w r.owner) r) (λ s. ⊤) (λ t. ⊤)
kept-rules w = record {
  step = λ p s h m. subst (λ (q : Owner). KeepsPart (part_of w q) (part_step p s)) (sym (owner-part_step p s))
      (keeps-then (part_of w p.owner) p (part_step p s) h (keeps-step p s));
  document = λ x d. tt;
  notify = λ o. tt;
}

-- nothing is asked of them
all-any : {X : Type 0} (xs : List X) → AllByRecursion (λ (x : X). ⊤) xs
all-any [] = tt
all-any (x ∷ xs) = (tt, all-any xs)

-- many steps
pub keeps-world_after : (o : Owner) (w : World) (steps : List Step) → KeepsWorld w (world_after o w steps)
keeps-world_after o w steps q =
    let v = world_after o w steps in
    let before = λ (r : Owner). subst (λ (x : Owner). KeepsPart (part_of w x) (part_of w r)) (sym (owner-part_of w r)) (keeps-same (part_of w r)) in
    subst (λ (x : Owner). KeepsPart (part_of w x) (part_of v q)) (owner-part_of v q)
    ((holds-world_after (kept-rules w) o steps w (record { parts = before; tasks = all-any w.tasks }) (all-any steps)).parts q)

-- ---- one component more

-- an owner that is not there has nothing that could go
keeps-none : (o : Owner) (q : Part) → KeepsPart (empty_part o) q
keeps-none o q = record {
  count = omega arith;
  kinds = λ x k few h. absurd (omega (arith, few));
  tables = record { ranges = λ k h. absurd cc; iterators = λ k h. absurd cc; walkers = λ k h. absurd cc; observers = λ k h. absurd cc };
}

-- the part of such an owner
none-there : (found : Option Part) (o : Owner) → is_some found ≡ false → unwrap_or found (empty_part o) ≡ empty_part o
none-there None o e = refl
none-there (Some p) o e = cc

-- a component comes, which was not there
pub keeps-attaching : (w : World) (o : Owner) (x : NodeName) → is_there w (component_made o (length (part_of w o).attached)) ≡ false →
    KeepsWorld w (attaching w o x).0
keeps-attaching w o x fresh =
    let p = part_of w o in
    let c = component_made o (length p.attached) in
    let more : Part = record p { attached = p.attached ++ x ∷ [] } in
    let root : Part = part_with_root c Shadow (node_in p.trees x).document in
    let marked : KeepsPart p more = record { count = omega arith; kinds = λ y k few h. h; tables = tables-same p more refl refl refl refl } in
    each-part (λ q r. KeepsPart (part_of w q) r) (with_part w more) root c refl
    (subst (λ (q : Part). KeepsPart q root) (sym (none-there (find_part w.parts c) c fresh)) (keeps-none c root))
    (keeps-written w more o (owner-part_of w o) marked)
