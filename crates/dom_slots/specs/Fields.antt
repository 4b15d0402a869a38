-- How the fields of a `Slots` stand for what a contract sees of it.
use Rattle.std.specs.Prelude.{◌≡◌, ℕ, List, map, Option}
use Rattle.dom_slots.specs.declared.slots.Attached.{Attached}
use Rattle.dom_slots.specs.Hosts.{ShadowHost, root_of_host, host_of_root}
use Rattle.dom_slots.specs.KeyMaps.{value_at}

-- a host as it is kept
abbrev pub host_in : Attached → ShadowHost
host_in a = record { host = a.host; root = a.root; owner = a.owner }

-- the hosts
abbrev pub hosts_in : List Attached → List ShadowHost
hosts_in kept = map host_in kept

-- each host's root is found by the host, and each root's host by the root
pub record AreFound (hosts : List ShadowHost) (by_host by_root : List (Option ℕ)) : Type 0 where
  pub attached : (k : ℕ) → value_at by_host k ≡ root_of_host hosts k
  pub found : (k : ℕ) → value_at by_root k ≡ host_of_root hosts k
