-- What is found where nothing is registered.
use Rattle.dom_base.proofs.Std.{◌≡◌, List, [], ◌∷◌, filter, map, refl, ap, nat_eq}
use Rattle.dom_base.specs.declared.NodeName.{NodeName}
use Rattle.dom_model.specs.Names.{name_eq, distinct}
use Rattle.dom_model.specs.Output.{Change}
use Rattle.dom_model.specs.Observers.{Registration, registrations_on, fits, interested, transients_for, copied_source}

-- no registration stands on a path
pub registrations_none : (path : List NodeName) → registrations_on name_eq path [] ≡ []
registrations_none [] = refl
registrations_none (x ∷ path) = registrations_none path

-- no observer is interested
pub none_interested : (path : List NodeName) (c : Change NodeName) → interested name_eq path [] c ≡ []
none_interested path c = ap (λ (rs : List (Registration NodeName)). distinct nat_eq
    (map (λ (r : Registration NodeName). r.observer) (filter (fits name_eq c) rs))) (registrations_none path)

-- no transient one is made
pub none_transient : (x : NodeName) (path : List NodeName) → transients_for name_eq x path [] ≡ []
none_transient x path =
    ap (λ (rs : List (Registration NodeName)). map
    (λ (r : Registration NodeName). record { node = x; observer = r.observer; options = r.options; source = copied_source name_eq r })
    (filter (λ (r : Registration NodeName). r.options.subtree) rs)) (registrations_none path)
