mod Counts
mod Told
mod Rows
