use Rattle.dom_isolation.proofs.PageSteps.{fold-skips_components}
use Rattle.dom_isolation.proofs.ComponentCommands.{page_visits-agree, outward_visits-agree}
use Rattle.dom_isolation.proofs.Lines.{page_dispatch-agrees_in_full, page_dispatch-agrees, component_dispatch-agrees}
use Rattle.dom_isolation.proofs.one_dispatch.Goals as goal

pub returns : goal.returns
returns c = record {
  visits = fold-skips_components;
  page_visits = page_visits-agree;
  outward_visits = outward_visits-agree;
  page = page_dispatch-agrees;
  component = component_dispatch-agrees;
  page_in_full = page_dispatch-agrees_in_full;
}
