pub mod Trees
pub mod Builts
pub mod Climbs
pub mod Growns
pub mod Runnings
pub mod Grows
