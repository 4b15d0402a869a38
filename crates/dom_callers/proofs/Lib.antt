mod Groups
mod Selections
mod Hosting
mod InHand
mod Outlines
mod Rearranged
mod Rooms
mod Written
