-- What was read, seen as the model's selectors.
use Rattle.std.specs.Prelude.{List, map, fold, string_bytes}
use Rattle.dom_model.specs.Selectors as model
use Rattle.dom_model.specs.SelectorText.{link}
use Rattle.dom_selectors.specs.declared.selector.AttributeTest.{AttributeTest}
use Rattle.dom_selectors.specs.declared.selector.AttributeTest.TheVariants.{Equals, HasWord, BeginsWithDash, Begins, Ends, Holds}
use Rattle.dom_selectors.specs.declared.selector.Simple.{Simple}
use Rattle.dom_selectors.specs.declared.selector.Simple.TheVariants.{OfType, OfAnyType, OfId, OfClass, WithAttribute, WithValue, FirstChild, LastChild}
use Rattle.dom_selectors.specs.declared.selector.CompoundPart.{CompoundPart}
use Rattle.dom_selectors.specs.declared.selector.CompoundPart.TheVariants.{Is, IsNot}
use Rattle.dom_selectors.specs.declared.selector.Combinator.{Combinator}
use Rattle.dom_selectors.specs.declared.selector.Combinator.TheVariants.{Descendant, Child, Next, Later}
use Rattle.dom_selectors.specs.declared.selector.Link.{Link}
use Rattle.dom_selectors.specs.declared.selector.Complex.{Complex}
use Rattle.dom_selectors.specs.declared.selector.Selector.{Selector}

-- a sign (CSS Selectors Level 4, 6.1 and 6.2)
abbrev pub test_view : AttributeTest → model.AttributeTest
test_view Equals = model.equals
test_view HasWord = model.has_word
test_view BeginsWithDash = model.begins_with_dash
test_view Begins = model.begins
test_view Ends = model.ends
test_view Holds = model.holds

-- a simple selector (CSS Selectors Level 4, simple selector)
abbrev pub simple_view : Simple → model.Simple
simple_view (OfType name) = model.of_type (string_bytes name)
simple_view OfAnyType = model.of_any_type
simple_view (OfId name) = model.of_id name.items
simple_view (OfClass name) = model.of_class name.items
simple_view (WithAttribute name) = model.with_attribute (string_bytes name)
simple_view (WithValue name test value) = model.with_value (string_bytes name) (test_view test) value.items
simple_view FirstChild = model.first_child
simple_view LastChild = model.last_child

-- simple selectors
abbrev pub simples_view : List Simple → List model.Simple
simples_view ss = map simple_view ss

-- a part of a compound
abbrev pub part_view : CompoundPart → model.CompoundPart
part_view (Is s) = model.simple (simple_view s)
part_view (IsNot ss) = model.is_not ss

-- a compound (CSS Selectors Level 4, compound selector)
abbrev pub compound_view : List CompoundPart → List model.CompoundPart
compound_view ps = map part_view ps

-- a combinator (CSS Selectors Level 4, combinator)
abbrev pub combinator_view : Combinator → model.Combinator
combinator_view Descendant = model.descendant
combinator_view Child = model.child
combinator_view Next = model.next
combinator_view Later = model.later

-- a combinator with the compound behind it
abbrev pub link_view : Link → model.Combinator × List model.CompoundPart
link_view l = (combinator_view l.combinator, l.compound)

-- a complex selector: a compound with what is joined to it on the right (CSS Selectors Level 4, complex selector)
abbrev pub complex_from : List model.CompoundPart → List Link → model.Complex
complex_from first links = fold link (model.alone first) (map link_view links)

-- a complex selector
abbrev pub complex_view : Complex → model.Complex
complex_view c = complex_from c.first c.links.items

-- a list of complex selectors (CSS Selectors Level 4, selector list)
abbrev pub selector_view : Selector → List model.Complex
selector_view s = map complex_view s.complexes.items
