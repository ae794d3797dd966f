pub mod SameRules
pub mod OneMore
pub mod Laws
pub mod SystemLaws
