mod Turns
mod GatesCheck
mod Cutting
mod Laws
