mod Done
mod JobLists
mod NewPasses
mod OfClients
mod Plans
mod Writing
