-- The widgets' hosts and shadow roots are as a path asks.
use Rattle.std.proofs.Common.{◌≡◌, ℕ, suc, false, ◌&&◌, List, [], ◌∷◌, length, Option, Some, refl, sym, ap, subst, arith, ◌==◌}
use Rattle.std.specs.List.{AllByRecursion}
use Rattle.dom_base.specs.declared.NodeName.{NodeName}
use Rattle.dom_model.specs.Names.{name_eq, owner_eq, owner_depth}
use Rattle.dom_tree.specs.Definitions.{NamedTrees, name_at, AreInOrder}
use Rattle.dom_slots.specs.Definitions.{ShadowHost, ShadowTrees}
use Rattle.dom_path.specs.Definitions.{AreApart, AreAttached, IsAttached, items_at}
use Rattle.dom_callers.specs.Widgets.{AreWidgets}

pub widgets-attached : (f : NamedTrees) (hosts : List ShadowHost) → AreInOrder f.trees → AreWidgets f hosts → AreAttached f hosts 1
widgets-attached f hosts order w =
    let first = ap owner_depth w.first_owner in
    let second = ap owner_depth w.second_owner in
    let apart : name_eq (name_at f.names w.three) (name_at f.names w.seven) ≡ false =
    λ j. owner_eq (w.three_owner j) (w.seven_owner j) && ((name_at f.names w.three).number == (name_at f.names w.seven).number) in
    record {
      owned = record { owners = w.owners; order = order };
      each = subst (AllByRecursion (IsAttached f 1)) (sym w.hosts_are) (
        record { owned = w.seven_owner; deeper = omega (arith, first); within = omega arith; alone = w.seven_alone },
        (record { owned = w.three_owner; deeper = omega (arith, second); within = omega arith; alone = w.three_alone }, tt),
      );
      apart = subst (AreApart f.names) (sym w.hosts_are) ((apart, tt), (tt, tt));
    }

-- a path has an item for each of its nodes
pub items-long : (s : ShadowTrees) (depth : ℕ) (target : NodeName) (related before : Option NodeName) (nodes : List NodeName) →
    length (items_at s depth target related before nodes) ≡ length nodes
items-long s depth target related before [] = refl
items-long s depth target related before (x ∷ xs) = ap suc (items-long s depth target related (Some x) xs)
