mod Given
mod Finding
mod States
mod Slots
