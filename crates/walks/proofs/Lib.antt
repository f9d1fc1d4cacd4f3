pub mod Ranges
pub mod Reading
pub mod Snapshots
pub mod Walking
