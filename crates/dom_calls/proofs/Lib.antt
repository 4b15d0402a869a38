mod Options
mod Lasts
mod Places
mod Giving
mod Seeing
