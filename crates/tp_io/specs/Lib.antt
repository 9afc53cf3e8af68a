-- What contracts say of sources and sinks.
pub mod Bytes
pub mod Causes
pub mod Sure
pub mod Sends
pub mod Sink
pub mod Calls
pub mod Objects
pub mod Streams
