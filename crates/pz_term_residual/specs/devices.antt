pub mod Unwound
