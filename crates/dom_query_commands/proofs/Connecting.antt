-- Whether a node is connected does not go by the open turn.
use Rattle.dom_query_commands.proofs.Cited.{◌≡◌, ℕ, zero, suc, List, [], ◌∷◌, ◌++◌, Option, Some, None, flat_map, unwrap_or, refl, sym, ap, ◌∙◌, is_some}
use Rattle.dom_query_commands.proofs.Cited.{option_to_list, if◌then◌else◌, Owner, NodeName, last_of, owner_depth, is_document, NodeWord, named, Part}
use Rattle.dom_query_commands.proofs.Cited.{opening_turn, World, part_of, host_above, hosts_from, ancestors_at, kind_at, is_connected, with_turn, opened-part}

module _ (t : Option Owner) (w : World) where
  hosts_turned : (depth : ℕ) (x : NodeName) → hosts_from depth (with_turn t w) x ≡ hosts_from depth w x
  hosts_turned zero x = refl
  hosts_turned (suc depth) x = ap (λ (ys : List NodeName). x ∷ ys) (above (host_above w x) (λ y. hosts_turned depth y))
    where
      above : (h : Option NodeName) → ((y : NodeName) → hosts_from depth (with_turn t w) y ≡ hosts_from depth w y) →
          flat_map (hosts_from depth (with_turn t w)) (option_to_list h) ≡ flat_map (hosts_from depth w) (option_to_list h)
      above None same = refl
      above (Some y) same = ap (λ (ys : List NodeName). ys ++ []) (same y)

  pub connected-turned : (x : NodeName) → is_connected (with_turn t w) x ≡ is_connected w x
  connected-turned x =
      ap (λ (hosts : List NodeName). is_document (kind_at w (unwrap_or (last_of (flat_map (ancestors_at w) hosts)) x))) (hosts_turned (owner_depth x.owner) x)

-- a node that a line names, when its turn is open
pub connected-opened : (w : World) (o : Owner) (s : NodeWord) →
    is_connected w (named (part_of w o) s) ≡ is_connected (opening_turn w o) (named (part_of (opening_turn w o) o) s)
connected-opened w o s = cases w.turn ∙ ap (λ (p : Part). is_connected (opening_turn w o) (named p s)) (opened-part w o)
  where
    cases : (t : Option Owner) → is_connected w (named (part_of w o) s) ≡ is_connected (if is_some t then w else record w { turn = Some o })
        (named (part_of w o) s)
    cases None = sym (connected-turned (Some o) w (named (part_of w o) s))
    cases (Some x) = refl
