mod Found
mod Back
