use Rattle.dom_selectors.proofs.Cited.{sym, ◌∙◌, same_Some}
use Rattle.dom_selectors.proofs.SoundLists.{parsed_says}
use Rattle.dom_selectors.proofs.CompleteCombinators.{said_parsed}
use Rattle.dom_selectors.proofs.grammar.law_texts_say_one_selector.Goals as goal

pub returns-clause-said : goal.returns-clause-said
returns-clause-said c = parsed_says

pub returns-clause-read : goal.returns-clause-read
returns-clause-read c = said_parsed

pub returns-clause-one : goal.returns-clause-one
returns-clause-one c = λ text s t h g. same_Some s t (sym (said_parsed text s h) ∙ said_parsed text t g)
