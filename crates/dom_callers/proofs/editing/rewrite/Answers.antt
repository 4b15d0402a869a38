use Rattle.std.proofs.Common.{sym, ◌∙◌}
use Rattle.dom_callers.proofs.InHand.{node-still, text-still, range-still, still-same}
use Rattle.dom_model.specs.Changes.{replace_plan}
use Rattle.dom_mutation.specs.Definitions.{name_in, owner_in, HasStillAll}
use Rattle.dom_callers.proofs.editing.rewrite.Goals as goal

pub select-requires : goal.select-requires
select-requires c =
    let written = c.in_ok-written.ensures in
    record {
      first_is_node = written.still.nodes.nodes c.args.first c.requires.first_is_node;
      is_first = written.still.nodes.names c.args.first c.requires.first_is_node ∙ c.requires.is_first;
      text = written.text.node;
      tail = written.tail.node;
    }

-- the paragraph is still a node
pub tidy-requires-clause-top : goal.tidy-requires-clause-top
tidy-requires-clause-top c =
    let written = node-still c.in_ok-written.ensures.still c.requires.paragraph in
    node-still c.in_ok-take_and_put_back.ensures.still (node-still c.in_ok-range.ensures.still written)

-- and so are the two Texts
pub replace-requires : goal.replace-requires
replace-requires c =
    let law = c.law_still.ensures in
    let worked = law.next _ _ _ (law.next _ _ _ c.in_ok-range.ensures.still c.in_ok-take_and_put_back.ensures.still) c.in_ok-tidy.ensures.still in
    let paragraph = node-still (law.next _ _ _ c.in_ok-written.ensures.still worked) c.requires.paragraph in
    let text = node-still worked c.in_ok-written.ensures.text.node in
    let tail = node-still worked c.in_ok-written.ensures.tail.node in
    record {
      parent_is_node = paragraph.node;
      node_is_node = text.node;
      child_is_node = tail.node;
      node_owner = text.owner ∙ sym paragraph.owner;
      child_owner = tail.owner ∙ sym paragraph.owner;
    }

pub returns : goal.returns
returns c =
    let law = c.law_still.ensures in
    let worked = law.next _ _ _ (law.next _ _ _ c.in_ok-range.ensures.still c.in_ok-take_and_put_back.ensures.still) c.in_ok-tidy.ensures.still in
    let h = c.tidy.new.doc in
    let written = c.in_ok-written.written in
    let number = c.in_ok-range.range in
    let replaced : HasStillAll h c.replace.new.self = still-same law.plans h c.replace.new.self (owner_in h c.args.paragraph)
    (replace_plan (name_in h c.args.paragraph) (name_in h written.0) (name_in h written.1)) record {
      before = record { parts = c.laws.ensures.parts; stand = c.laws.ensures.stand };
      after = record { parts = c.laws-2.ensures.parts; stand = c.laws-2.ensures.stand };
      names = c.in_ok-replace.ensures.names;
      world = c.in_ok-replace.ensures.world;
    } in
    record {
      still = law.next _ _ _ (law.next _ _ _ c.in_ok-written.ensures.still worked) replaced;
      text = text-still replaced (text-still worked c.in_ok-written.ensures.text);
      range = range-still c.args.owner number replaced (range-still c.args.owner number c.in_ok-tidy.ensures.still c.in_ok-take_and_put_back.ensures.range);
    }
