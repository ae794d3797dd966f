mod Standing
mod Closing
