mod Branches
mod ResolvedLists
mod ResolvedSteps
mod Numberings
mod Places
