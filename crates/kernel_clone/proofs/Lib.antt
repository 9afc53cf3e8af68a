pub mod Items
pub mod Totals
pub mod LineLaws
pub mod PlaceLaws
pub mod Powers
pub mod Runs
pub mod CallLaws
