-- What the parts of a change added, one after the other.
use Rattle.dom_answers.proofs.Parts.{bytes-held, grows-then, holds-then}
use Rattle.dom_answers.proofs.pools.Pools.mutation_with.Goals as goal

pub returns-in_err-removed-in-ChildList-clause-grown : goal.returns-in_err-removed-in-ChildList-clause-grown
returns-in_err-removed-in-ChildList-clause-grown c =
    grows-then _ c.add_names.new.self _ c.in_ok-added-in-ChildList.ensures.grown c.in_err-removed-in-ChildList.ensures.grown

pub returns-in_err-old_with-in-Attributes-clause-grown : goal.returns-in_err-old_with-in-Attributes-clause-grown
returns-in_err-old_with-in-Attributes-clause-grown c =
    grows-then _ c.add_bytes.new.self _ c.in_ok-add_bytes-in-Attributes.ensures.grown c.in_err-old_with-in-Attributes.ensures.grown

pub returns-in_ok-removed-in-ChildList-clause-grown : goal.returns-in_ok-removed-in-ChildList-clause-grown
returns-in_ok-removed-in-ChildList-clause-grown c =
    grows-then _ c.add_names.new.self _ c.in_ok-added-in-ChildList.ensures.grown c.in_ok-removed-in-ChildList.ensures.grown

pub returns-in_ok-old_with-in-Attributes-clause-grown : goal.returns-in_ok-old_with-in-Attributes-clause-grown
returns-in_ok-old_with-in-Attributes-clause-grown c =
    grows-then _ c.add_bytes.new.self _ c.in_ok-add_bytes-in-Attributes.ensures.grown c.in_ok-old_with-in-Attributes.ensures.grown

pub returns-in_ok-old_with-in-Attributes-clause-within : goal.returns-in_ok-old_with-in-Attributes-clause-within
returns-in_ok-old_with-in-Attributes-clause-within c =
    let name = bytes-held _ c.add_bytes.new.self _ c.in_ok-add_bytes-in-Attributes.field-0 c.in_ok-add_bytes-in-Attributes.ensures.ok
    c.in_ok-add_bytes-in-Attributes.ensures.span in
    ((holds-then _ _ _ _ name c.in_ok-old_with-in-Attributes.ensures.grown.bytes).0, c.in_ok-old_with-in-Attributes.ensures.within)
