mod Tables
mod Ranks
mod Effects
mod Facing
mod Outcomes
