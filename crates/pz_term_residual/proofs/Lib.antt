mod Forms
mod Residuals
mod Unwinding
mod Inward
mod Outward
mod Acting
