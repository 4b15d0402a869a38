-- What proofs cite of this crate's definitions.
pub use Rattle.dom_worlds.specs.Bounds.{EndsWithin, HasBounds, IsBounded, IsWithin, StepKeepsBounds}
pub use Rattle.dom_worlds.specs.Follows.{PathFollowsParents}
pub use Rattle.dom_worlds.specs.Keeping.{EndingLeaves, FinishLeaves, FirstHas, ScriptsLeave, StepLeaves}
pub use Rattle.dom_worlds.specs.Reached.{AssignedAreSiblings, AttachedAreThere, EndingKeepsReached, FinishKeepsReached, FirstIsReached, HostsAreTheirs}
pub use Rattle.dom_worlds.specs.Reached.{Invariant, IsQuiet, IsReached, NoOtherShadowRoots, OwnersHaveWords, QuietScriptsReach, ScriptsReach}
pub use Rattle.dom_worlds.specs.Reached.{ShadowRootsAreRoots, StepKeepsReached}
pub use Rattle.dom_worlds.specs.Sights.{HiddenByRoots, is_within, RetargetedByRoots}
pub use Rattle.dom_worlds.specs.Tables.{EndsIn, HasEnds, HasRecords, HasTables, IsIteratorIn, IsListenerIn, IsNodeAt, IsNodeIf, IsNodeIn, IsRecordIn}
pub use Rattle.dom_worlds.specs.Tables.{IsRegistrationIn, IsSourceIn, IsWalkerIn, IsWhole}
pub use Rattle.dom_worlds.specs.Texts.{needs_normalizing}
pub use Rattle.dom_worlds.specs.Wholes.{HasOneRoots, RangesHaveOneRoot}
pub use Rattle.dom_worlds.specs.Worlds.{AllNodes, components_of, ComponentsOnlyLog, HasKinds, HasMakers, HasOwners, IsElementAt, IsForeignTo, IsHost}
pub use Rattle.dom_worlds.specs.Worlds.{is_made_by, IsOf, IsPart, IsRoot, IsShadowAt, IsShadowOf, IsThere, is_unmade, IsWorld, MayBeShadow, OnlyLogs, owners_in}
pub use Rattle.dom_worlds.specs.Worlds.{task_owner, times_among}
