-- What mutation observers are told. Scripts with their answers, which come from outside.
use Rattle.std.specs.Prelude.{codes, [], ◌∷◌, ◌++◌}
use Rattle.dom_examples.specs.Example.{Example, first_nodes, oks}

-- the last child appended again
abbrev pub last_child_again : Example
last_child_again = record {
  lines =
      codes "p new element ul" ∷
      codes "p new element li" ∷
      codes "p append n1 n2" ∷
      codes "p observer" ∷
      codes "p observe o0 n1 childList" ∷
      codes "p append n1 n2" ∷
      codes "p ." ∷
      [];
  answers =
      first_nodes 2 ++
      codes "p ok" ∷
      codes "p ok o0" ∷
      oks 2 ++
      codes "p record o0 childList n1 added=[] removed=[n2] prev=null next=null" ∷
      codes "p record o0 childList n1 added=[n2] removed=[] prev=n2 next=null" ∷
      codes "p ok" ∷
      [];
}

-- fragments into a document
abbrev pub fragments_into_document : Example
fragments_into_document = record {
  lines =
      codes "p new fragment" ∷
      codes "p new element a" ∷
      codes "p new element b" ∷
      codes "p append n1 n2" ∷
      codes "p append n1 n3" ∷
      codes "p append n0 n1" ∷
      codes "p new fragment" ∷
      codes "p observer" ∷
      codes "p observe o0 n0 childList" ∷
      codes "p append n0 n4" ∷
      codes "p take o0" ∷
      codes "p tree n1" ∷
      [];
  answers =
      first_nodes 3 ++
      oks 2 ++
      codes "p ! hierarchy" ∷
      codes "p ok n4" ∷
      codes "p ok o0" ∷
      oks 2 ++
      codes "p ok 0" ∷
      codes "p ok (n1 fragment (n2 element a) (n3 element b))" ∷
      [];
}

-- a child replaced by its next sibling
abbrev pub replace_by_next_sibling : Example
replace_by_next_sibling = record {
  lines =
      codes "p new element ul" ∷
      codes "p new element li" ∷
      codes "p new element li" ∷
      codes "p new element li" ∷
      codes "p append n1 n2" ∷
      codes "p append n1 n4" ∷
      codes "p insert n1 n3 n4" ∷
      codes "p observer" ∷
      codes "p observe o0 n1 childList" ∷
      codes "p replace n1 n3 n2" ∷
      codes "p take o0" ∷
      codes "p children n1" ∷
      [];
  answers =
      first_nodes 4 ++
      oks 3 ++
      codes "p ok o0" ∷
      oks 2 ++
      codes "p record o0 childList n1 added=[] removed=[n3] prev=null next=n4" ∷
      codes "p record o0 childList n1 added=[n3] removed=[n2] prev=null next=n4" ∷
      codes "p ok 2" ∷
      codes "p ok [n3,n4]" ∷
      [];
}

-- transient registrations and old values
abbrev pub transient_registrations : Example
transient_registrations = record {
  lines =
      codes "p new element div" ∷
      codes "p new element p" ∷
      codes "p append n1 n2" ∷
      codes "p observer" ∷
      codes "p observe o0 n1 childList attributes subtree attributeOldValue" ∷
      codes "p remove n2" ∷
      codes "p set n2 id \"x\"" ∷
      codes "p ." ∷
      codes "p set n2 id \"y\"" ∷
      codes "p ." ∷
      codes "p set n1 class \"k\"" ∷
      codes "p set n1 class \"k\"" ∷
      codes "p take o0" ∷
      [];
  answers =
      first_nodes 2 ++
      codes "p ok" ∷
      codes "p ok o0" ∷
      oks 3 ++
      codes "p record o0 childList n1 added=[] removed=[n2] prev=null next=null" ∷
      codes "p record o0 attributes n2 name=id old=null" ∷
      oks 5 ++
      codes "p record o0 attributes n1 name=class old=null" ∷
      codes "p record o0 attributes n1 name=class old=\"k\"" ∷
      codes "p ok 2" ∷
      [];
}

-- text replaced
abbrev pub text_replaced : Example
text_replaced = record {
  lines =
      codes "p new element div" ∷
      codes "p new comment \"x\"" ∷
      codes "p append n1 n2" ∷
      codes "p observer" ∷
      codes "p observe o0 n1 subtree" ∷
      codes "p observe o0 n1 childList" ∷
      codes "p text n1 \"hi\"" ∷
      codes "p take o0" ∷
      codes "p disconnect o0" ∷
      codes "p text n1 \"\"" ∷
      codes "p take o0" ∷
      [];
  answers =
      first_nodes 2 ++
      codes "p ok" ∷
      codes "p ok o0" ∷
      codes "p ! type" ∷
      oks 2 ++
      codes "p record o0 childList n1 added=[n3] removed=[n2] prev=null next=null" ∷
      codes "p ok 1" ∷
      oks 2 ++
      codes "p ok 0" ∷
      [];
}

-- old data, and a filter of attribute names
abbrev pub old_data_and_filter : Example
old_data_and_filter = record {
  lines =
      codes "p new text \"ab\"" ∷
      codes "p take o0" ∷
      codes "p observer" ∷
      codes "p observe o0 n1 characterDataOldValue" ∷
      codes "p replace-data n1 1 9 \"xy\"" ∷
      codes "p ." ∷
      codes "p new element a" ∷
      codes "p observe o0 n2 filter=id" ∷
      codes "p set n2 class \"k\"" ∷
      codes "p set n2 id \"v\"" ∷
      codes "p take o0" ∷
      [];
  answers =
      codes "p ok n1" ∷
      codes "p ! unknown" ∷
      codes "p ok o0" ∷
      oks 2 ++
      codes "p record o0 characterData n1 old=\"ab\"" ∷
      codes "p ok" ∷
      codes "p ok n2" ∷
      oks 3 ++
      codes "p record o0 attributes n2 name=id old=null" ∷
      codes "p ok 1" ∷
      [];
}
