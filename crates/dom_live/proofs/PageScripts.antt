-- Lines and scripts as the page has them.
use Rattle.dom_base.proofs.Std.{ℕ, List, refl}
use Rattle.dom_model.proofs.Model.{is_page, page_of}
use Rattle.dom_model.specs.PageMachine.{first_page}
use Rattle.dom_live.specs.Lines.{LiveLine}
use Rattle.dom_live.specs.Documents.{page_documents}
use Rattle.dom_live.proofs.OneStep.{page-agrees, page-step_agrees}
use Rattle.dom_live.proofs.PageLines.{page-obeys, page-leaves}
use Rattle.dom_live.proofs.Scripts.{HasMachine, line-agrees}

-- The page has its machine.
pub page-machine : (read : List ℕ → LiveLine) → HasMachine is_page page_of page_documents read first_page
page-machine read = record { beginning = refl; step = page-step_agrees read; line = line-agrees page-agrees page-obeys page-leaves read }
