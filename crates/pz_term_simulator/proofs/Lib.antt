mod Given
mod Opened
mod Rooms
mod Moments
mod Variables
