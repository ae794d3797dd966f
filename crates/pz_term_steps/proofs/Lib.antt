mod Lists
mod Marked
mod AtHome
mod Finished
mod Nexts
mod Elapsed
