mod Digits
mod Texts
mod Loop
mod Items
mod Fronts
