use Rattle.std.proofs.Common.{ap, ◌∙◌}
use Rattle.node_arena.specs.Links.{link_at}
use Rattle.node_arena.proofs.store.Store.link.Goals as goal

pub returns-clause-value : goal.returns-clause-value
returns-clause-value g c = c.key_to.ensures.value ∙ ap (λ s. link_at s.whole.links s.key c.args.link) c.at.ensures
