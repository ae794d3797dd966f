mod Gets
mod PlanSteps
mod Placed
mod Bound
mod SiteSteps
mod Counts
mod NetFits
