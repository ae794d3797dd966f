mod Cells
mod Finding
mod Pairing
mod Rows
