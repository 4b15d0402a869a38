-- What a contract sees of the hosts of a `Slots`.
use Rattle.std.specs.Prelude.{ℕ, ◌<◌, nat_eq, List, [], ◌∷◌, find, length, Option, option_map}
use Rattle.dom_base.specs.declared.Owner.{Owner}
use Rattle.dom_base.specs.declared.NodeName.{NodeName}
use Rattle.dom_model.specs.Names.{name_eq}
use Rattle.dom_tree.specs.Forest.{name_at}

-- a host with the shadow root that was attached to it, and the component to which that root belongs (DOM Standard,
-- concept: shadow host)
pub record ShadowHost : Type 0 where
  pub host : ℕ
  pub root : ℕ
  pub owner : Owner

-- the host of a shadow root (DOM Standard, concept: host)
abbrev pub host_of_root : List ShadowHost → ℕ → Option ℕ
host_of_root hosts root = option_map (λ h. h.host) (find (λ h. nat_eq root h.root) hosts)

-- the shadow root of a host (DOM Standard, concept: shadow root of an element)
abbrev pub root_of_host : List ShadowHost → ℕ → Option ℕ
root_of_host hosts host = option_map (λ h. h.root) (find (λ h. nat_eq host h.host) hosts)

-- the host of a shadow root by their names, and below it the shadow root of a host
abbrev pub host_named : List NodeName → List ShadowHost → NodeName → Option NodeName
host_named names hosts root = option_map (λ h. name_at names h.host) (find (λ h. name_eq root (name_at names h.root)) hosts)

-- the name of the shadow root of a host
abbrev pub root_named : List NodeName → List ShadowHost → NodeName → Option NodeName
root_named names hosts host = option_map (λ h. name_at names h.root) (find (λ h. name_eq host (name_at names h.host)) hosts)

-- the hosts and their shadow roots are nodes of these names
abbrev pub HostsAreNodes : List NodeName → List ShadowHost → Type 0
HostsAreNodes names [] = Unit {0}
HostsAreNodes names (h ∷ hosts) = (h.host < length names) × (h.root < length names) × HostsAreNodes names hosts
