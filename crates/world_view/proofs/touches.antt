-- What touches do to the caches: a domain's own, another's, the kernel's.
pub mod Hierarchies
pub mod Geometries
pub mod Lines
pub mod KernelTouches
pub mod CostLaws
