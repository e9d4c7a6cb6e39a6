mod Demands
mod Lived
mod Served
mod Once
mod Counted
mod Running
mod NoVersions
mod Finished
