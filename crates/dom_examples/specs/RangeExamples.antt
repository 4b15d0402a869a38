-- Live ranges under changes, and what is taken out of them. Scripts with their answers, which come from outside.
use Rattle.std.specs.Prelude.{codes, [], ◌∷◌, ◌++◌}
use Rattle.dom_examples.specs.Example.{Example, first_nodes, oks}

-- extract, insert and delete
abbrev pub extract_insert_delete : Example
extract_insert_delete = record {
  lines =
      codes "p new element div" ∷
      codes "p new element b" ∷
      codes "p new text \"abcd\"" ∷
      codes "p new element i" ∷
      codes "p new text \"efgh\"" ∷
      codes "p new element hr" ∷
      codes "p append n1 n2" ∷
      codes "p append n2 n3" ∷
      codes "p append n1 n6" ∷
      codes "p append n1 n4" ∷
      codes "p append n4 n5" ∷
      codes "p range-new" ∷
      codes "p range-start r0 n3 1" ∷
      codes "p range-end r0 n5 2" ∷
      codes "p range-text r0" ∷
      codes "p extract r0" ∷
      codes "p tree n7" ∷
      codes "p tree n1" ∷
      codes "p range-get r0" ∷
      codes "p insert-node r0 n7" ∷
      codes "p range-get r0" ∷
      codes "p delete r0" ∷
      codes "p range-get r0" ∷
      [];
  answers =
      first_nodes 6 ++
      oks 5 ++
      codes "p ok r0" ∷
      oks 2 ++
      codes "p ok \"bcdef\"" ∷
      codes "p ok n7" ∷
      codes "p ok (n7 fragment (n8 element b (n9 text \"bcd\")) (n6 element hr) (n10 element i (n11 text \"ef\")))" ∷
      codes "p ok (n1 element div (n2 element b (n3 text \"a\")) (n4 element i (n5 text \"gh\")))" ∷
      codes "p ok n1 1 n1 1" ∷
      codes "p ok" ∷
      codes "p ok n1 1 n1 4" ∷
      codes "p ok" ∷
      codes "p ok n1 1 n1 1" ∷
      [];
}

-- normalize
abbrev pub normalize_texts : Example
normalize_texts = record {
  lines =
      codes "p new element p" ∷
      codes "p new text \"\"" ∷
      codes "p new text \"ab\"" ∷
      codes "p new text \"cd\"" ∷
      codes "p append n1 n2" ∷
      codes "p append n1 n3" ∷
      codes "p append n1 n4" ∷
      codes "p range-new" ∷
      codes "p range-start r0 n1 2" ∷
      codes "p range-end r0 n4 1" ∷
      codes "p normalize n1" ∷
      codes "p range-get r0" ∷
      codes "p tree n1" ∷
      codes "p range-collapse r0 start" ∷
      codes "p range-get r0" ∷
      codes "p range-drop r0" ∷
      codes "p range-get r0" ∷
      [];
  answers =
      first_nodes 4 ++
      oks 3 ++
      codes "p ok r0" ∷
      oks 3 ++
      codes "p ok n3 2 n3 3" ∷
      codes "p ok (n1 element p (n3 text \"abcd\"))" ∷
      codes "p ok" ∷
      codes "p ok n3 2 n3 2" ∷
      codes "p ok" ∷
      codes "p ! unknown" ∷
      [];
}

-- a range in one Text
abbrev pub range_in_one_text : Example
range_in_one_text = record {
  lines =
      codes "p new text \"abcd\"" ∷
      codes "p range-new" ∷
      codes "p range-start r0 n1 1" ∷
      codes "p range-get r0" ∷
      codes "p range-end r0 n1 3" ∷
      codes "p extract r0" ∷
      codes "p tree n2" ∷
      codes "p tree n1" ∷
      codes "p range-get r0" ∷
      codes "p extract r0" ∷
      codes "p tree n4" ∷
      codes "p insert-node r0 n2" ∷
      codes "p range-start r0 n1 9" ∷
      codes "p range-start r7 n1 0" ∷
      [];
  answers =
      codes "p ok n1" ∷
      codes "p ok r0" ∷
      codes "p ok" ∷
      codes "p ok n1 1 n1 1" ∷
      codes "p ok" ∷
      codes "p ok n2" ∷
      codes "p ok (n2 fragment (n3 text \"bc\"))" ∷
      codes "p ok (n1 text \"ad\")" ∷
      codes "p ok n1 1 n1 1" ∷
      codes "p ok n4" ∷
      codes "p ok (n4 fragment)" ∷
      codes "p ! hierarchy" ∷
      codes "p ! index-size" ∷
      codes "p ! unknown" ∷
      [];
}

-- a start that has come to stand behind its end: what is behind it in its tree is taken
abbrev pub extract_behind_start : Example
extract_behind_start = record {
  lines =
      codes "p new element p" ∷
      codes "p new element b" ∷
      codes "p new text \"abcd\"" ∷
      codes "p new element c" ∷
      codes "p new element d" ∷
      codes "p new element x" ∷
      codes "p append n1 n2" ∷
      codes "p append n2 n3" ∷
      codes "p append n2 n4" ∷
      codes "p append n4 n5" ∷
      codes "p append n1 n6" ∷
      codes "p range-new" ∷
      codes "p range-start r0 n3 2" ∷
      codes "p range-end r0 n1 1" ∷
      codes "p insert n1 n6 n2" ∷
      codes "p range-get r0" ∷
      codes "p extract r0" ∷
      codes "p tree n7" ∷
      codes "p tree n1" ∷
      codes "p range-get r0" ∷
      [];
  answers =
      first_nodes 6 ++
      oks 5 ++
      codes "p ok r0" ∷
      oks 3 ++
      codes "p ok n3 2 n1 1" ∷
      codes "p ok n7" ∷
      codes "p ok (n7 fragment (n8 element b (n9 text \"cd\") (n4 element c (n5 element d))))" ∷
      codes "p ok (n1 element p (n6 element x) (n2 element b (n3 text \"ab\")))" ∷
      codes "p ok n1 2 n1 2" ∷
      [];
}

-- both ends below children of the common ancestor, the start behind the end: the start's side comes first
abbrev pub extract_both_sides : Example
extract_both_sides = record {
  lines =
      codes "p new element p" ∷
      codes "p new element a" ∷
      codes "p new text \"t1\"" ∷
      codes "p new element b" ∷
      codes "p new text \"in b\"" ∷
      codes "p new element x" ∷
      codes "p append n1 n2" ∷
      codes "p append n1 n3" ∷
      codes "p append n1 n4" ∷
      codes "p append n4 n5" ∷
      codes "p append n1 n6" ∷
      codes "p range-new" ∷
      codes "p range-start r0 n4 0" ∷
      codes "p range-end r0 n1 3" ∷
      codes "p insert n1 n6 n2" ∷
      codes "p new text \"t2\"" ∷
      codes "p insert n1 n7 n4" ∷
      codes "p range-get r0" ∷
      codes "p normalize n1" ∷
      codes "p range-get r0" ∷
      codes "p extract r0" ∷
      codes "p tree n8" ∷
      codes "p tree n1" ∷
      codes "p range-get r0" ∷
      [];
  answers =
      first_nodes 6 ++
      oks 5 ++
      codes "p ok r0" ∷
      oks 3 ++
      codes "p ok n7" ∷
      codes "p ok" ∷
      codes "p ok n4 0 n1 3" ∷
      codes "p ok" ∷
      codes "p ok n4 0 n3 2" ∷
      codes "p ok n8" ∷
      codes "p ok (n8 fragment (n9 element b (n5 text \"in b\")) (n10 text \"t1\"))" ∷
      codes "p ok (n1 element p (n6 element x) (n2 element a) (n3 text \"t2\") (n4 element b))" ∷
      codes "p ok n1 4 n1 4" ∷
      [];
}
