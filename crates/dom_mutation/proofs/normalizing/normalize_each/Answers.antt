use Rattle.dom_mutation.proofs.NormalizedEach.{all_texts, normalizes_first, normalizes_here, normalizes_on}
use Rattle.dom_mutation.proofs.normalizing.normalize_each.Goals as goal

pub loop-text-init : goal.loop-text-init
loop-text-init c =
    normalizes_first (c.laws.ensures.alone c.args.top c.requires.top_is_node)
    (c.laws.ensures.parts _) c.requires.bounds
    (all_texts c.args.parts.now c.args.top c.laws.ensures.stand c.args.texts.now c.requires.texts_are_nodes c.requires.are_texts)

pub normalize_text-requires-clause-is_text : goal.normalize_text-requires-clause-is_text
normalize_text-requires-clause-is_text c =
    (normalizes_here c.loop-text.text-index
    c.loop-text-test.true c.text-item.is c.requires.texts_are_nodes c.loop-text.invariant).0

pub normalize_text-requires-clause-bounds : goal.normalize_text-requires-clause-bounds
normalize_text-requires-clause-bounds c =
    (normalizes_here c.loop-text.text-index
    c.loop-text-test.true c.text-item.is c.requires.texts_are_nodes c.loop-text.invariant).1

pub loop-text-preserved : goal.loop-text-preserved
loop-text-preserved c =
    normalizes_on c.args.top c.args.texts.now c.args.parts.now c.loop-text.text-index
    c.loop-text-test.true c.text-item.is c.requires.texts_are_nodes c.loop-text.invariant c.in_ok-normalize_text.ensures
