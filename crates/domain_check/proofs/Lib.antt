pub mod CapTexts
pub mod Parts
pub mod Slots
pub mod Shares
pub mod SegmentCases
