-- The laws that belong to no one function.
mod Lines
mod Texts
mod LinesBound
mod StaysUsable
mod Filling
mod Feeding
mod OnePrint
