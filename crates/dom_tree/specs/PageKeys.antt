-- The keys of the page's nodes, as they are held.
use Rattle.std.specs.Prelude.{◌<◌, ◌++◌, ℕ, List}
use Rattle.std.specs.List.{range_with_len}
use Rattle.std.specs.Vec.{vec_len, vec_capacity}
use Rattle.dom_tree.specs.declared.page_keys.PageKeys.{PageKeys}

-- own rule: the keys, in the order of their nodes' numbers
abbrev pub page_keys : PageKeys → List ℕ
page_keys p = range_with_len 0 p.first ++ p.others.items

-- own rule: there is room for one key more
abbrev pub HasRoom : PageKeys → Type 0
HasRoom p = vec_len p.others < vec_capacity p.others
