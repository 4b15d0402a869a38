-- Lemmas of signalled slots.
mod Counting
mod Keeping
mod Places
mod Waiting
