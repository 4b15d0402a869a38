-- What other crates cite of steps and plans of a part.
pub use Rattle.dom_worlds.proofs.Plans.{AllWhole, AreFit, AreMoved, IsKept, Keeps, keeps-adopting, keeps-and_then, keeps-cutting_data, keeps-deleting}
pub use Rattle.dom_worlds.proofs.Plans.{keeps-each, keeps-deleting_contents, keeps-emptying, keeps-making_below, keeps-extracting, keeps-in_turn}
pub use Rattle.dom_worlds.proofs.Plans.{keeps-inserting, keeps-inserting_into_range, keeps-making_room, keeps-normalizing, keeps-normalizing_text}
pub use Rattle.dom_worlds.proofs.Plans.{keeps-placing, keeps-placing_tail, keeps-removing, keeps-replacing, keeps-replacing_data, keeps-setting_attribute}
pub use Rattle.dom_worlds.proofs.Plans.{keeps-setting_text, keeps-splitting, keeps-unsetting_attribute, kept-after, made-joins}
pub use Rattle.dom_worlds.proofs.BlindPlans.{after-beside, blind-adopting, blind-deleting, blind-extracting, blind-into_range, blind-normalizing}
pub use Rattle.dom_worlds.proofs.BlindPlans.{blind-pre_inserting, blind-replacing, blind-setting_text, blind-splitting}
pub use Rattle.dom_worlds.proofs.Rules.{rules-kept}
pub use Rattle.dom_worlds.proofs.ShadowRoots.{IsClonable, any-whole, common_below, fit-apart, fit-pieces, whole-pieces}
pub use Rattle.dom_worlds.proofs.PlanPlaces.{Changed, Leads, MayGo, after-append, leads-adopting, leads-eased, leads-inserting, leads-nothing, leads-one}
pub use Rattle.dom_worlds.proofs.PlanPlaces.{leads-removing, leads-then, still}
pub use Rattle.dom_worlds.proofs.PlanTexts.{leads-normalizing, leads-normalizing_text, leads-removals, leads-replacing, leads-replacing_data}
pub use Rattle.dom_worlds.proofs.PlanTexts.{leads-setting_attribute, leads-setting_text, leads-splitting, leads-unsetting_attribute, new-may, new-there}
pub use Rattle.dom_worlds.proofs.PlanContents.{OldIn, leads-deleting, leads-extracting, leads-inserting_into_range, leads-making_below, old-may, old-still}
pub use Rattle.dom_worlds.proofs.PlanContents.{old-there}
pub use Rattle.dom_worlds.proofs.PlanRoots.{ends-at}
pub use Rattle.dom_worlds.proofs.PartSteps.{Allowed, IsOwn, KeepsNames, attribute-keeps, count-step, next-absent, next-other, own-step, part-step, rest-step}
pub use Rattle.dom_worlds.proofs.PartSteps.{Asked, some-keeps}
pub use Rattle.dom_worlds.proofs.TableSteps.{Fits, HasNode, MadeIn}
pub use Rattle.dom_worlds.proofs.TableRecords.{IfSome, all-get, tables-after}
pub use Rattle.dom_worlds.proofs.SparedPlans.{normalizing-needed}
