use Rattle.dom_base.proofs.Std.{◌≡◌, ℕ, Bool, true, false, cond, Option, None, refl, ap, ◌∙◌, rules, tests, bytes_eq, lookup, option_map, string_bytes}
use Rattle.std.specs.BTreeMap.{get_by_text, is_at}
use Rattle.std.specs.Cmp.Lexicographic.{slice_cmp}
use Rattle.std.specs.Ordering.{nat_cmp}
use Rattle.std.proofs.lemmas.Map.Made.{map_same_pairs, lookup-map_values}
use Rattle.std.proofs.lemmas.Map.Text.{btree_map_updates_text}
use Rattle.dom_attributes.proofs.NameIndexes.{moved_up}
use Rattle.dom_attributes.proofs.name_index.forget.Goals as goal

pub returns : goal.returns
returns c = λ t.
    let up = moved_up c.args.place in
    let kept = map_same_pairs _ up _ (λ k v b w f g. search (rules, tests)) _ _ c.retain.ensures.filtered in
    ap (lookup (is_at (λ k. slice_cmp nat_cmp t (string_bytes k)))) kept
    ∙ lookup-map_values up (is_at (λ k. slice_cmp nat_cmp t (string_bytes k))) c.remove.new.self.entries
    ∙ ap (option_map up) (btree_map_updates_text c.args.name.now c.args.index.now c.remove.new.self None c.remove.ensures.updates t)
    ∙ inside up (bytes_eq c.args.name.now t) (get_by_text c.args.index.now t)
  where
    inside : (f : ℕ → ℕ) (b : Bool) (o : Option ℕ) → option_map f (cond b None o) ≡ cond b None (option_map f o)
    inside f true o = refl
    inside f false o = refl
