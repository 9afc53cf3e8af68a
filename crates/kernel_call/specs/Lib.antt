pub mod Logs
pub mod LogModel
pub mod Models
pub mod Facts
pub mod Entries
pub mod Calls
pub mod Threads
pub mod Mailboxes
