mod Parts
mod Kept
mod Trees
mod Adding
mod Telling
mod Shown
