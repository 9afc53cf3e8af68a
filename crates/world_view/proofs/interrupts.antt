-- Moments and threads, in one event.
pub mod InterruptLaws
pub mod ThreadLaws
