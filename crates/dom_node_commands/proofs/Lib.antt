mod Handlers
mod Attaching
mod CommandPlans
mod NamedNodes
