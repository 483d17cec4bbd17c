mod Costs
mod Bounds
mod Edges
mod Pushed
mod Decisions
