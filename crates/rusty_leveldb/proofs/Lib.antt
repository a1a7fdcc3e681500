mod Headline
mod Machines
mod Engines
mod Openings
mod Compactions
mod Walks
mod Repairs
mod Programs
