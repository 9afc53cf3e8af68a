pub mod Colours
pub mod Contents
