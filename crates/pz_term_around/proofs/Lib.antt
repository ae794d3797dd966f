mod Views
mod SlotsSet
mod AroundLevels
