-- Live documents: listeners, mutation observers and microtasks that call their owner, who acts while the event, the notification or the
-- checkpoint is under way. Unmarked: own rules, about lines, frames, machines and traces.
pub mod Lines
pub mod Frames
pub mod Documents
pub mod SmallSteps
pub mod Runs
pub mod Machine
pub mod Groups
pub mod Things
pub mod LineForm
pub mod Examples
pub mod EventScripts
pub mod TaskScripts
pub mod NestedScripts
pub mod Laws
pub mod Programs
pub mod Honesty
pub mod LineScripts
