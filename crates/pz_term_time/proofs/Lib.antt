mod Begun
mod Left
mod Parts
