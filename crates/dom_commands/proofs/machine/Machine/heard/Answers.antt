use Rattle.dom_base.proofs.Std.{IfOk-weaker}
use Rattle.dom_commands.proofs.Cited.{filter, map, refl, sym, ◌∙◌}
use Rattle.dom_dispatch.specs.Definitions.{hears_at}
use Rattle.dom_dispatch.specs.Entries.{words_in}
use Rattle.dom_commands.proofs.HeardNodes.{at_node, at_node-same, heard_not, heard_there, none-at_node}
use Rattle.dom_commands.proofs.machine.Machine.heard.Goals as goal

pub returns-in-Some : goal.returns-in-Some
returns-in-Some c =
    let k = c.in-Some.key in
    let x = c.args.node.now in
    IfOk-weaker c.words_at.result _ _ (λ heard is e v event current capturing.
    at_node-same heard.items (λ words. words_in words.value) x _ is
    ∙ (λ j. map (at_node x) (filter (hears_at k (sym event j) (sym capturing j)) c.self.inside.listeners))
    ∙ heard_there c.self.inside.state c.self.inside.listeners c.args.self.now c.self.view_is c.requires c.law_names_tell_nodes.ensures.distinct
    c.law_names_tell_nodes.ensures.there x k (c.in-Some.ensures.found _ refl).0 (c.in-Some.ensures.found _ refl).1 e v current)
    c.words_at.ensures

pub returns-in-None : goal.returns-in-None
returns-in-None c e v event current capturing =
    none-at_node c.new.result.items (λ words. words_in words.value) c.args.node.now c.new.ensures.items
    ∙ sym (heard_not c.self.inside.state c.self.inside.listeners c.args.self.now c.self.view_is c.requires c.law_names_tell_nodes.ensures.distinct
    c.law_names_tell_nodes.ensures.there c.args.node.now (sym c.in-None.ensures.presence) e v current)
