mod Corners
mod Due
mod Example
mod HartExample
