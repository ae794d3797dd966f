pub mod Counting
pub mod Firsts
pub mod Ends
pub mod Making
pub mod Refusing
pub mod Rest
pub mod Said
pub mod Standing
